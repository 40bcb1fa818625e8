-- Hands are read if and only if they are spelled.
use Rattle.std.proofs.Common.{◌≡◌, ℕ, ◌+◌, ◌-◌, ◌*◌, ◌<◌, Bool, true, false, cond, refl, sym, ◌∙◌, ap, subst, arith, List, [], ◌∷◌, ◌++◌, length, Option, Some, None, inl, inr, append_assoc, length-set}
use Rattle.std.specs.Prelude.{◌==◌, ◌&&◌, IfSome, unwrap_or, codes}
use Rattle.std.specs.List.{flat_map, sum_by, list_all, AllByRecursion}
use Rattle.std.specs.Option.{option_and_then}
use Rattle.std.specs.Char.{is_ascii_digit, digit_value}
use Rattle.std.specs.Str.{bytes_eq}
use Rattle.std.specs.Str.Parse.{digits_value, digits_value_after}
use Rattle.std.proofs.lemmas.Bool.{cond-true, cond-false, and_parts, and_from, eqb-false, ne_eqb, cases_Bool}
use Rattle.std.proofs.lemmas.List.{length_push}
use Rattle.std.proofs.lemmas.List.Sums.{sum_by-cons}
use Rattle.std.proofs.lemmas.List.Folds.{list_all-append}
use Rattle.std.proofs.lemmas.Int.Digits.{digits_value_push}
use Rattle.std.proofs.lemmas.Slice.Eq.{bytes_eq-Decides}
use Rattle.shogi_core.specs.declared.piece.Color.{Color}
use Rattle.shogi_core.specs.declared.piece.Kind.{Kind}
use Rattle.shogi_core.specs.declared.piece.Piece.{Piece}
use Rattle.shogi_core.specs.Pieces.{kind_of}
use Rattle.shogi_core.specs.Position.{HandCounts, count_in_hand, place_of}
use Rattle.shogi_sfen.specs.Words.{has_bytes}
use Rattle.shogi_sfen.specs.Letters.{letter_of, letter_or_king, cased_for, piece_named}
use Rattle.shogi_sfen.specs.HandTexts.{with_kind, with_piece, with_digit, hands_from, no_hands, hands_of}
use Rattle.shogi_sfen.specs.Written.{or_hyphen}
use Rattle.shogi_sfen.specs.Spelling.{HandItem, AreCountDigits, count_written, hand_item_text, count_given, SpellsHands}
use Rattle.shogi_sfen.proofs.Digits.{in_range}
use Rattle.shogi_sfen.proofs.HandLaws.{exact_byte}
use Rattle.shogi_sfen.proofs.TooManyHeld.{hands_from-len}
use Rattle.shogi_sfen.proofs.HoldingLaws.{held-holding, added, held-added, same_held}
use Rattle.shogi_sfen.proofs.HandsBack.{letter_back}
use Rattle.shogi_sfen.proofs.WrittenBack.{finished}
use Rattle.shogi_sfen.proofs.LetterLaws.{piece_named-letter}

-- items with this text and the hands after them
record IsHeldFrom (text : List ℕ) (start hands : HandCounts) : Type 0 where
  items : List HandItem
  each : AllByRecursion (λ item. AreCountDigits item.digits) items
  sums : (color : Color) (kind : Kind) → count_in_hand hands color kind ≡ count_in_hand start color kind + sum_by (count_given color kind) items
  spelled : flat_map hand_item_text items ≡ text

-- the digits of a count so far
IsBegun : List ℕ → Option ℕ → Type 0
IsBegun ds None = ds ≡ []
IsBegun ds (Some n) = AreCountDigits ds × (digits_value 10 ds ≡ n) × (0 < length ds)

one_digit : (b : Bool) (byte n : ℕ) → (byte == 48) ≡ b → is_ascii_digit byte ≡ true → cond (true && b) None (Some (0 * 10 + (byte - 48))) ≡ Some n → IsBegun (byte ∷ []) (Some n)
unfolding IsBegun
one_digit true byte n t digit e = cc
one_digit false byte n t digit e =
    let value : 0 * 10 + (byte - 48) ≡ n = cc in
    let same : digits_value 10 (byte ∷ []) ≡ 0 * 10 + digit_value byte = refl in
    ((and_from (is_ascii_digit byte) true digit refl, eqb-false byte 48 t), same ∙ (ap (λ (d : ℕ). 0 * 10 + d) (in_range byte digit) ∙ value), omega arith)

counted_on : (ds : List ℕ) (byte : ℕ) → 0 < length ds → is_ascii_digit byte ≡ true → AreCountDigits ds → AreCountDigits (ds ++ byte ∷ [])
counted_on [] byte some digit h = absurd (omega arith)
counted_on (d ∷ ds) byte some digit h =
    (list_all-append is_ascii_digit (d ∷ ds) (byte ∷ []) ∙ and_from (list_all is_ascii_digit (d ∷ ds)) (list_all is_ascii_digit (byte ∷ [])) h.0 (and_from (is_ascii_digit byte) true digit refl), h.1)

next_digit : (ds : List ℕ) (count : Option ℕ) (byte n : ℕ) → is_ascii_digit byte ≡ true → IsBegun ds count → with_digit count byte ≡ Some n → IsBegun (ds ++ byte ∷ []) (Some n)
unfolding IsBegun
next_digit ds None byte n digit begun e =
    subst (λ (xs : List ℕ). IsBegun (xs ++ byte ∷ []) (Some n)) (sym begun) (one_digit (byte == 48) byte n refl digit e)
next_digit ds (Some m) byte n digit begun e =
    let value : m * 10 + (byte - 48) ≡ n = cc in (
      counted_on ds byte begun.2 digit begun.0,
      digits_value_push 10 ds byte ∙ (ap (λ (k : ℕ). k * 10 + digit_value byte) begun.1 ∙ (ap (λ (d : ℕ). m * 10 + d) (in_range byte digit) ∙ value)),
      let len : length (ds ++ byte ∷ []) ≡ length ds + 1 = length_push ds byte in omega arith,
    )

-- a step that succeeded and its result
record Steps {A : Type 0} (o : Option A) (f : A → Option HandCounts) (hands : HandCounts) : Type 0 where
  next : A
  found : o ≡ Some next
  later : f next ≡ Some hands

steps : {A : Type 0} (o : Option A) (f : A → Option HandCounts) (hands : HandCounts) → option_and_then f o ≡ Some hands → Steps o f hands
steps None f hands e = cc
steps (Some next) f hands e = record { next = next; found = refl; later = e }

-- a letter that adds to the hands
record IsLetterFor (hands : HandCounts) (n byte : ℕ) (more : HandCounts) : Type 0 where
  color : Color
  kind : Kind
  letter : cased_for color (letter_of kind) ≡ byte
  same : added hands color kind n ≡ more

by_kind : (hands : HandCounts) (n byte : ℕ) (more : HandCounts) (piece : Piece) (o : Option Kind) → kind_of piece.role ≡ o → cased_for piece.color (letter_or_king o) ≡ byte
    → with_kind hands n piece.color o ≡ Some more → IsLetterFor hands n byte more
by_kind hands n byte more piece None k l e = cc
by_kind hands n byte more piece (Some kind) k l e = record { color = piece.color; kind = kind; letter = l; same = cc }

by_piece : (hands : HandCounts) (n byte : ℕ) (more : HandCounts) (o : Option Piece) → piece_named false byte ≡ o → with_piece hands n o ≡ Some more → IsLetterFor hands n byte more
by_piece hands n byte more None p e = cc
by_piece hands n byte more (Some piece) p e =
    by_kind hands n byte more piece (kind_of piece.role) refl (piece_named-letter false byte piece p) e

-- the count before a letter
counted : (ds : List ℕ) (count : Option ℕ) → IsBegun ds count → AreCountDigits ds × (count_written ds ≡ unwrap_or count 1)
unfolding IsBegun
counted ds None begun = subst (λ (xs : List ℕ). AreCountDigits xs × (count_written xs ≡ 1)) (sym begun) (tt, refl)
counted [] (Some n) begun = let some : 0 < 0 = begun.2 in absurd (omega arith)
counted (d ∷ ds) (Some n) begun = (begun.0, begun.1)

one_item : (item : HandItem) (text : List ℕ) (start more hands : HandCounts) → length start ≡ 14 → AreCountDigits item.digits → added start item.color item.kind (count_written item.digits) ≡ more
    → IsHeldFrom text more hands → IsHeldFrom (hand_item_text item ++ text) start hands
one_item item text start more hands len count same h = record {
  items = item ∷ h.items;
  each = (count, h.each);
  sums = λ color kind.
      let now : count_in_hand more color kind ≡ count_in_hand start color kind + count_given color kind item =
      ap (λ (hs : HandCounts). count_in_hand hs color kind) (sym same) ∙ held-added start item.color color item.kind kind (count_written item.digits) len in
      let later : count_in_hand hands color kind ≡ count_in_hand more color kind + sum_by (count_given color kind) h.items = h.sums color kind in
      let all : sum_by (count_given color kind) (item ∷ h.items) ≡ count_given color kind item + sum_by (count_given color kind) h.items = sum_by-cons (count_given color kind) item h.items in
      omega arith;
  spelled = ap (λ (t : List ℕ). hand_item_text item ++ t) h.spelled;
}

held_from : (bytes : List ℕ) (start : HandCounts) (count : Option ℕ) (ds : List ℕ) (hands : HandCounts) → length start ≡ 14 → IsBegun ds count → hands_from start count bytes ≡ Some hands
    → IsHeldFrom (ds ++ bytes) start hands
unfolding IsBegun
held_from [] start None ds hands len begun e = record {
  items = [];
  each = tt;
  sums = λ color kind. let same : start ≡ hands = cc in ap (λ (hs : HandCounts). count_in_hand hs color kind) (sym same) ∙ omega arith;
  spelled = sym (ap (λ (xs : List ℕ). xs ++ []) begun);
}
held_from [] start (Some n) ds hands len begun e = cc
held_from (byte ∷ bytes) start count ds hands len begun e = elim (cases_Bool (is_ascii_digit byte)) [
  | inl digit ↦
      let s : Steps (with_digit count byte) (λ n. hands_from start (Some n) bytes) hands =
      steps (with_digit count byte) (λ n. hands_from start (Some n) bytes) hands (sym (cond-true (is_ascii_digit byte) _ _ digit) ∙ (sym (exact_byte start count byte bytes) ∙ e)) in
      subst (λ (t : List ℕ). IsHeldFrom t start hands) (append_assoc ds (byte ∷ []) bytes)
      (held_from bytes start (Some s.next) (ds ++ byte ∷ []) hands len (next_digit ds count byte s.next digit begun s.found) s.later)
  | inr letter ↦
      let n : ℕ = unwrap_or count 1 in
      let s : Steps (with_piece start n (piece_named false byte)) (λ more. hands_from more None bytes) hands =
      steps (with_piece start n (piece_named false byte)) (λ more. hands_from more None bytes) hands (sym (cond-false (is_ascii_digit byte) _ _ letter) ∙ (sym (exact_byte start count byte bytes) ∙ e)) in
      let l : IsLetterFor start n byte s.next = by_piece start n byte s.next (piece_named false byte) refl s.found in
      let c = counted ds count begun in
      let item : HandItem = record { digits = ds; color = l.color; kind = l.kind } in
      let same : added start l.color l.kind (count_written ds) ≡ s.next = ap (added start l.color l.kind) c.1 ∙ l.same in
      let grown : length s.next ≡ 14 = ap length (sym l.same) ∙ (length-set start (place_of l.color l.kind) (count_in_hand start l.color l.kind + n) ∙ len) in
      let others : IsHeldFrom bytes s.next hands = held_from bytes s.next None [] hands grown refl s.later in
      subst (λ (t : List ℕ). IsHeldFrom t start hands) (append_assoc ds (cased_for l.color (letter_of l.kind) ∷ []) bytes ∙ ap (λ (b : ℕ). ds ++ b ∷ bytes) l.letter)
      (one_item item bytes start s.next hands len c.0 same others)
]

some_bytes : (text : List ℕ) → has_bytes text ≡ true → or_hyphen text ≡ text
some_bytes [] e = cc
some_bytes (byte ∷ bytes) e = refl

held_len : (o : Option HandCounts) (hands : HandCounts) → IfSome o (λ out. length out ≡ 14) → o ≡ Some hands → length hands ≡ 14
held_len None hands len e = cc
held_len (Some out) hands len e = let same : out ≡ hands = cc in ap length (sym same) ∙ len

by_items : (b : Bool) (text : List ℕ) (hands : HandCounts) → has_bytes text ≡ b → cond b (hands_from no_hands None text) None ≡ Some hands → SpellsHands text hands
unfolding IsBegun
by_items true text hands t e =
    let h : IsHeldFrom text no_hands hands = held_from text no_hands None [] hands refl refl e in
    record {
      places = held_len (hands_from no_hands None text) hands (hands_from-len text no_hands None) e;
      items = h.items;
      each = h.each;
      sums = λ color kind. let none : count_in_hand no_hands color kind ≡ 0 = held-holding (λ color kind. 0) color kind in let all : count_in_hand hands color kind ≡ count_in_hand no_hands color kind + sum_by (count_given color kind) h.items = h.sums color kind in omega arith;
      spelled = ap or_hyphen h.spelled ∙ some_bytes text t;
    }
by_items false text hands t e = cc

by_hyphen : (b : Bool) (text : List ℕ) (hands : HandCounts) → bytes_eq text (codes "-") ≡ b → cond b (Some no_hands) (cond (has_bytes text) (hands_from no_hands None text) None) ≡ Some hands → SpellsHands text hands
by_hyphen true text hands t e =
    let same : no_hands ≡ hands = cc in
    record {
      places = ap length (sym same);
      items = [];
      each = tt;
      sums = λ color kind. ap (λ (hs : HandCounts). count_in_hand hs color kind) (sym same) ∙ held-holding (λ color kind. 0) color kind;
      spelled = sym ((bytes_eq-Decides text (codes "-")).0 t);
    }
by_hyphen false text hands t e = by_items (has_bytes text) text hands refl e

-- hands that are read are spelled
pub SpellsHands-read : (text : List ℕ) (hands : HandCounts) → hands_of text ≡ Some hands → SpellsHands text hands
unfolding hands_of
SpellsHands-read text hands e = by_hyphen (bytes_eq text (codes "-")) text hands refl e

digits_read : (ds : List ℕ) (hands : HandCounts) (n : ℕ) (rest : List ℕ) → list_all is_ascii_digit ds ≡ true → hands_from hands (Some n) (ds ++ rest) ≡ hands_from hands (Some (digits_value_after 10 n ds)) rest
digits_read [] hands n rest all = refl
digits_read (d ∷ ds) hands n rest all =
    let parts = and_parts (is_ascii_digit d) (list_all is_ascii_digit ds) all in
    cond-true (is_ascii_digit d) _ _ parts.0
    ∙ (ap (λ (k : ℕ). hands_from hands (Some (n * 10 + k)) (ds ++ rest)) (sym (in_range d parts.0)) ∙ digits_read ds hands (n * 10 + digit_value d) rest parts.1)

count_read : (ds : List ℕ) (hands : HandCounts) (color : Color) (kind : Kind) (rest : List ℕ) → AreCountDigits ds
    → hands_from hands None (ds ++ cased_for color (letter_of kind) ∷ rest) ≡ hands_from (added hands color kind (count_written ds)) None rest
count_read [] hands color kind rest h = letter_back color kind hands None rest
count_read (d ∷ ds) hands color kind rest h =
    let parts = and_parts (is_ascii_digit d) (list_all is_ascii_digit ds) h.0 in
    let letter : List ℕ = cased_for color (letter_of kind) ∷ rest in
    cond-true (is_ascii_digit d) _ _ parts.0
    ∙ (ap (λ (b : Bool). option_and_then (λ n. hands_from hands (Some n) (ds ++ letter)) (cond (true && b) None (Some (0 * 10 + (d - 48))))) (ne_eqb d 48 h.1)
    ∙ (ap (λ (k : ℕ). hands_from hands (Some (0 * 10 + k)) (ds ++ letter)) (sym (in_range d parts.0))
    ∙ (digits_read ds hands (0 * 10 + digit_value d) letter parts.1
    ∙ letter_back color kind hands (Some (digits_value 10 (d ∷ ds))) rest)))

-- the hands that items are read as
record AreRead (items : List HandItem) (start : HandCounts) : Type 0 where
  hands : HandCounts
  read : hands_from start None (flat_map hand_item_text items) ≡ Some hands
  len : length hands ≡ 14
  sums : (color : Color) (kind : Kind) → count_in_hand hands color kind ≡ count_in_hand start color kind + sum_by (count_given color kind) items

are_read : (items : List HandItem) (start : HandCounts) → AllByRecursion (λ item. AreCountDigits item.digits) items → length start ≡ 14 → AreRead items start
are_read [] start each len = record { hands = start; read = refl; len = len; sums = λ color kind. omega arith }
are_read (item ∷ items) start each len =
    let next : HandCounts = added start item.color item.kind (count_written item.digits) in
    let others : AreRead items next =
    are_read items next each.1 (length-set start (place_of item.color item.kind) (count_in_hand start item.color item.kind + count_written item.digits) ∙ len) in
    record {
      hands = others.hands;
      read = ap (hands_from start None) (append_assoc item.digits (cased_for item.color (letter_of item.kind) ∷ []) (flat_map hand_item_text items))
          ∙ (count_read item.digits start item.color item.kind (flat_map hand_item_text items) each.0 ∙ others.read);
      len = others.len;
      sums = λ color kind.
          let now : count_in_hand next color kind ≡ count_in_hand start color kind + count_given color kind item = held-added start item.color color item.kind kind (count_written item.digits) len in
          let later : count_in_hand others.hands color kind ≡ count_in_hand next color kind + sum_by (count_given color kind) items = others.sums color kind in
          let all : sum_by (count_given color kind) (item ∷ items) ≡ count_given color kind item + sum_by (count_given color kind) items = sum_by-cons (count_given color kind) item items in
          omega arith;
    }

-- hands that are spelled are read
pub hands_of-spelled : (text : List ℕ) (hands : HandCounts) → SpellsHands text hands → hands_of text ≡ Some hands
hands_of-spelled text hands s =
    let r : AreRead s.items no_hands = are_read s.items no_hands s.each refl in
    let same : r.hands ≡ hands =
    same_held r.hands hands r.len s.places
    (λ color kind.
    let none : count_in_hand no_hands color kind ≡ 0 = held-holding (λ color kind. 0) color kind in
    let all : count_in_hand r.hands color kind ≡ count_in_hand no_hands color kind + sum_by (count_given color kind) s.items = r.sums color kind in
    let answer : count_in_hand hands color kind ≡ sum_by (count_given color kind) s.items = s.sums color kind in
    omega arith) in
    ap hands_of (sym s.spelled) ∙ (finished (flat_map hand_item_text s.items) r.hands r.read ∙ ap Some same)
