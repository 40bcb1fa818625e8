-- Sweeps through the legal moves of a kind.
use Rattle.std.proofs.Common.{◌≡◌, ◌≢◌, ℕ, ◌+◌, ◌-◌, ◌*◌, ◌/◌, ◌%◌, ◌<◌, ◌≤◌, ◌⊎◌, Bool, true, false, not, Some, List, [], filter, bit_and, ◌∷◌, refl, sym, ap, ◌∙◌, arith, inl, inr, subst, bit_or}
use Rattle.std.specs.Prelude.{◌&&◌, ◌==◌}
use Rattle.std.proofs.lemmas.Bool.{cases_Bool, cases_eq, eq-eqb, and_parts, both_ways, cases_lt, or_left, or_right, or_parts, false_from_ne_true, true_from_ne_false, cond-true}
use Rattle.shogi_core.specs.declared.moves.TheConstants.{MOVE_CODE_COUNT, FIRST_DROP, SQUARE_CODES}
use Rattle.shogi_core.specs.declared.moves.Move.{Move}
use Rattle.shogi_core.specs.declared.moves.Move.TheVariants.{Board, Drop}
use Rattle.shogi_core.specs.declared.piece.Kind.{Kind}
use Rattle.shogi_core.specs.Bits.{has_bit}
use Rattle.shogi_core.specs.Cell.{is_piece_of}
use Rattle.shogi_core.specs.Codes.{move_of, code_of}
use Rattle.shogi_core.specs.Movement.{piece_at, reaches}
use Rattle.shogi_core.specs.Pieces.{kind_number}
use Rattle.shogi_core.specs.Position.{Shogi}
use Rattle.shogi_core.proofs.BitLaws.{has_bit-or, has_bit-none}
use Rattle.shogi_core.proofs.CodesBack.{move_of-board, move_of-drop}
use Rattle.shogi_core.proofs.Faults.{number_below}
use Rattle.shogi_moves.specs.Captures.{captures, matches, matches_kind, is_matching}
use Rattle.shogi_moves.specs.Destinations.{is_destination}
use Rattle.shogi_moves.specs.Legal.{is_legal, is_legal_code}
use Rattle.shogi_moves.specs.LegalMoves.{legal_from}
use Rattle.shogi_moves.specs.Rising.{is_in}
use Rattle.shogi_moves.specs.Sweeps.{matching_from, Keeps, KeepsBoard, KeepsDrop}
use Rattle.shogi_moves.proofs.CaptureLaws.{HasMatchingOn, HasNoneMatching, matches_kind_of, none_square, none_drop, none_join, matching_jumps, matching_found, matching_end}
use Rattle.shogi_moves.proofs.DestinationLaws.{matching_move, matching_among}
use Rattle.shogi_moves.proofs.LegalLaws.{drop_code, legal_in, legal_in_above, legal_code_below}

-- ---- no piece of the side stands on the square

pub no_destinations : (p : Shogi) (capture promote : Bool) (from n : ℕ) → from < 81 → n < 81 → is_piece_of p.side (piece_at p.cells from) ≡ false → has_bit 0 n ≡ is_matching p capture (code_of (Board from n promote))
no_destinations p capture promote from n hf hn e = grind (arith, has_bit-none n, (none_square p capture from (from * SQUARE_CODES) (from * SQUARE_CODES + SQUARE_CODES) hf (omega arith) (omega arith) e).none (code_of (Board from n promote)))

pub ruleset no_piece = (no_destinations)

-- ---- the lowest end, without or with promotion

pub least_plain : (non_promoting promoting to : ℕ) → ((n : ℕ) → has_bit (bit_or non_promoting promoting) n ≡ true → to ≤ n) → (n : ℕ) → has_bit non_promoting n ≡ true → to ≤ n
least_plain non_promoting promoting to least n e = least n (has_bit-or non_promoting promoting n ∙ or_left (has_bit non_promoting n) (has_bit promoting n) e)

pub least_promoting : (non_promoting promoting to : ℕ) → ((n : ℕ) → has_bit (bit_or non_promoting promoting) n ≡ true → to ≤ n) → (n : ℕ) → has_bit promoting n ≡ true → to ≤ n
least_promoting non_promoting promoting to least n e = least n (has_bit-or non_promoting promoting n ∙ or_right (has_bit non_promoting n) (has_bit promoting n) e)

-- ---- a held set of squares

pub keeps_first : (test : ℕ → Bool) (place : ℕ → ℕ) (code mask : ℕ) → ((n : ℕ) → n < 81 → has_bit mask n ≡ test (place n)) → ((n : ℕ) → code ≤ place n) → Keeps test place code mask
keeps_first test place code mask bits low = record {
  set = λ n h e. (low n, sym (bits n h) ∙ e);
  clear = λ n h e _. sym (bits n h) ∙ e;
}

-- no code passes below that of the first square left
keeps_later : (test : ℕ → Bool) (place : ℕ → ℕ) (code next mask : ℕ) → Keeps test place code mask → code ≤ next → ((n : ℕ) → n < 81 → has_bit mask n ≡ true → next ≤ place n) → Keeps test place next mask
keeps_later test place code next mask k up above = record {
  set = λ n h e. (above n h e, (k.set n h e).1);
  clear = λ n h e l. k.clear n h e (omega arith);
}

keeps_less : (test : ℕ → Bool) (place : ℕ → ℕ) (code next mask less to : ℕ) → Keeps test place code mask → code ≤ next → ((i : ℕ) → has_bit less i ≡ (has_bit mask i && not (i == to)))
    → ((n : ℕ) → n < 81 → has_bit mask n ≡ true → n ≢ to → next ≤ place n) → place to < next → Keeps test place next less
keeps_less test place code next mask less to k up bits above gone = record {
  set = λ n h e. grind (arith, bits n, above n h, k.set n h);
  clear = λ n h e l. grind (arith, cases_eq n to, bits n, k.clear n h);
}

-- the squares left at or above a square
pub keeps_from : (test : ℕ → Bool) (place : ℕ → ℕ) (code next mask less to : ℕ) → Keeps test place code mask → code ≤ next → ((n : ℕ) → n < to → place n < next) → ((n : ℕ) → to ≤ n → next ≤ place n) → ((i : ℕ) → i < 81 → to ≤ i → has_bit less i ≡ has_bit mask i) → ((i : ℕ) → i < to → has_bit less i ≡ false) → Keeps test place next less
keeps_from test place code next mask less to k up falls rises same none = record {
  set = λ n h e. grind (arith, cases_lt n to, none n, rises n, same n h, k.set n h);
  clear = λ n h e l. grind (arith, cases_lt n to, falls n, rises n, same n h, k.clear n h);
}

-- ---- the destinations of a piece

pub either : (non_promoting promoting n : ℕ) → bit_or non_promoting promoting ≡ 0 → (has_bit non_promoting n ≡ false) × (has_bit promoting n ≡ false)
either non_promoting promoting n none = or_parts (has_bit non_promoting n) (has_bit promoting n) (sym (has_bit-or non_promoting promoting n) ∙ (ap (λ m. has_bit m n) none ∙ has_bit-none n))

-- no destination lies below the first
below : (non_promoting promoting to : ℕ) → ((n : ℕ) → has_bit (bit_or non_promoting promoting) n ≡ true → to ≤ n) → (n : ℕ) → n < to → (has_bit non_promoting n ≡ false) × (has_bit promoting n ≡ false)
below non_promoting promoting to least n h = or_parts (has_bit non_promoting n) (has_bit promoting n) (sym (has_bit-or non_promoting promoting n) ∙ false_from_ne_true (has_bit (bit_or non_promoting promoting) n) (λ e. (let le : to ≤ n = least n e in omega arith)))

-- a code of the piece is that of a destination, without or with promotion
pub at_code : (from c : ℕ) → from * SQUARE_CODES ≤ c → c < from * SQUARE_CODES + SQUARE_CODES → (c ≡ code_of (Board from (c / 2 % 81) false)) ⊎ (c ≡ code_of (Board from (c / 2 % 81) true))
at_code from c low high = elim (cases_eq (c % 2) 0) [ inl even ↦ inl (omega arith) | inr odd ↦ inr (omega arith) ]

-- the destinations of a piece whose codes are at or above `code` and pass a test
module _ (test : ℕ → Bool) (from code non_promoting promoting : ℕ) (low : from * SQUARE_CODES ≤ code) (a : Keeps test (λ n. code_of (Board from n false)) code non_promoting) (b : Keeps test (λ n. code_of (Board from n true)) code promoting) where
  fails_at : (c : ℕ) → code ≤ c → c < from * SQUARE_CODES + SQUARE_CODES → (c ≡ code_of (Board from (c / 2 % 81) false) → has_bit non_promoting (c / 2 % 81) ≡ false) → (c ≡ code_of (Board from (c / 2 % 81) true) → has_bit promoting (c / 2 % 81) ≡ false) → test c ≡ false
  fails_at c above under x y = grind (arith, at_code from c, a.clear (c / 2 % 81), b.clear (c / 2 % 81))

  -- without destinations no code passes
  pub fails_all : bit_or non_promoting promoting ≡ 0 → (c : ℕ) → code ≤ c → c < from * SQUARE_CODES + SQUARE_CODES → test c ≡ false
  fails_all none c above under =
      let out = either non_promoting promoting (c / 2 % 81) none in
      fails_at c above under (λ _. out.0) (λ _. out.1)

  -- no code passes below that of the lowest destination
  pub fails_to_plain : (to : ℕ) → to < 81 → ((n : ℕ) → has_bit (bit_or non_promoting promoting) n ≡ true → to ≤ n) → (c : ℕ) → code ≤ c → c < code_of (Board from to false) → test c ≡ false
  fails_to_plain to ht least c above under =
      let out = below non_promoting promoting to least (c / 2 % 81) (omega arith) in
      fails_at c above (omega arith) (λ _. out.0) (λ _. out.1)

  pub fails_to_promoting : (to : ℕ) → to < 81 → ((n : ℕ) → has_bit (bit_or non_promoting promoting) n ≡ true → to ≤ n) → has_bit non_promoting to ≡ false → (c : ℕ) → code ≤ c → c < code_of (Board from to true) → test c ≡ false
  fails_to_promoting to ht least out c above under =
      fails_at c above (omega arith)
      (λ at. grind (arith, cases_eq (c / 2 % 81) to, below non_promoting promoting to least (c / 2 % 81)))
      (λ at. (below non_promoting promoting to least (c / 2 % 81) (omega arith)).1)

pub none_left : (p : Shogi) (capture : Bool) (from code non_promoting promoting : ℕ) → KeepsBoard p capture from code non_promoting promoting → bit_or non_promoting promoting ≡ 0 → HasNoneMatching p capture code (from * SQUARE_CODES + SQUARE_CODES)
none_left p capture from code non_promoting promoting k none = record { none = fails_all (is_matching p capture) from code non_promoting promoting k.low k.plains k.promotings none }

pub keeps_square : (p : Shogi) (capture : Bool) (from non_promoting promoting : ℕ) → ((n : ℕ) → n < 81 → has_bit non_promoting n ≡ is_matching p capture (code_of (Board from n false))) → ((n : ℕ) → n < 81 → has_bit promoting n ≡ is_matching p capture (code_of (Board from n true)))
    → KeepsBoard p capture from (from * SQUARE_CODES) non_promoting promoting
keeps_square p capture from non_promoting promoting pb qb = record {
  low = omega arith;
  high = omega arith;
  plains = keeps_first (is_matching p capture) (λ n. code_of (Board from n false)) (from * SQUARE_CODES) non_promoting pb (λ n. omega arith);
  promotings = keeps_first (is_matching p capture) (λ n. code_of (Board from n true)) (from * SQUARE_CODES) promoting qb (λ n. omega arith);
}

pub keeps_matching : (p : Shogi) (capture : Bool) (from targets matching non_promoting promoting : ℕ) → from < 81 → ((n : ℕ) → n < 81 → has_bit targets n ≡ reaches p.cells from n) → ((n : ℕ) → n < 81 → has_bit matching n ≡ is_destination capture p.side (piece_at p.cells n))
    → ((n : ℕ) → n < 81 → has_bit non_promoting n ≡ (has_bit (bit_and targets matching) n && is_legal_code p (code_of (Board from n false)))) → ((n : ℕ) → n < 81 → has_bit promoting n ≡ (has_bit (bit_and targets matching) n && is_legal_code p (code_of (Board from n true))))
    → KeepsBoard p capture from (from * SQUARE_CODES) non_promoting promoting
keeps_matching p capture from targets matching non_promoting promoting hf t s pb qb = keeps_square p capture from non_promoting promoting (matching_among p capture false from targets matching non_promoting hf t s pb) (matching_among p capture true from targets matching promoting hf t s qb)

pub record IsTaken (p : Shogi) (capture : Bool) (code : ℕ) (m : Move) : Type 0 where
  pub next : matching_from p capture code ≡ code_of m ∷ matching_from p capture (code_of m + 1)
  pub legal : is_legal p m ≡ true

taken_from : (p : Shogi) (capture : Bool) (code : ℕ) (m : Move) → move_of (code_of m) ≡ Some m → code_of m < MOVE_CODE_COUNT → code ≤ code_of m → is_matching p capture (code_of m) ≡ true → HasNoneMatching p capture code (code_of m) → IsTaken p capture code m
taken_from p capture code m back small low matching none = record {
  next = matching_jumps p capture code (code_of m) low (omega arith) none ∙ matching_found p capture (code_of m) small matching;
  legal = (and_parts (is_legal p m) (matches capture (captures p (Some m))) (sym (matching_move p capture m back) ∙ matching)).0;
}

module _ (p : Shogi) (capture : Bool) (from code non_promoting promoting to : ℕ) (k : KeepsBoard p capture from code non_promoting promoting) (hf : from < 81) (ht : to < 81) (least : (n : ℕ) → has_bit (bit_or non_promoting promoting) n ≡ true → to ≤ n) where
  plain_above : (n : ℕ) → has_bit non_promoting n ≡ true → to ≤ n
  plain_above n e = least n (has_bit-or non_promoting promoting n ∙ or_left (has_bit non_promoting n) (has_bit promoting n) e)

  promoting_above : (n : ℕ) → has_bit promoting n ≡ true → to ≤ n
  promoting_above n e = least n (has_bit-or non_promoting promoting n ∙ or_right (has_bit non_promoting n) (has_bit promoting n) e)

  pub plain_taken : has_bit non_promoting to ≡ true → IsTaken p capture code (Board from to false)
  plain_taken e =
      let low : from * SQUARE_CODES ≤ code = k.low in
      let here : (code ≤ code_of (Board from to false)) × (is_matching p capture (code_of (Board from to false)) ≡ true) = k.plains.set to ht e in
      taken_from p capture code (Board from to false) (move_of-board from to false hf ht) (omega arith) here.0 here.1 (record { none = fails_to_plain (is_matching p capture) from code non_promoting promoting low k.plains k.promotings to ht least })

  pub plain_kept : (next : ℕ) → has_bit non_promoting to ≡ true → ((i : ℕ) → has_bit next i ≡ (has_bit non_promoting i && not (i == to))) → KeepsBoard p capture from (code_of (Board from to false) + 1) next promoting
  plain_kept next e bits =
      let low : from * SQUARE_CODES ≤ code = k.low in
      let here : code ≤ code_of (Board from to false) = (k.plains.set to ht e).0 in
      record {
        low = omega arith;
        high = omega arith;
        plains = keeps_less (is_matching p capture) (λ n. code_of (Board from n false)) code (code_of (Board from to false) + 1) non_promoting next to k.plains (omega arith) bits (λ n h set other. (let le : to ≤ n = plain_above n set in omega arith)) (omega arith);
        promotings = keeps_later (is_matching p capture) (λ n. code_of (Board from n true)) code (code_of (Board from to false) + 1) promoting k.promotings (omega arith) (λ n h set. (let le : to ≤ n = promoting_above n set in omega arith));
      }

  pub promoting_set : has_bit (bit_or non_promoting promoting) to ≡ true → has_bit non_promoting to ≡ false → has_bit promoting to ≡ true
  promoting_set e out = grind (arith, has_bit-or non_promoting promoting to)

  pub promoting_taken : has_bit non_promoting to ≡ false → has_bit promoting to ≡ true → IsTaken p capture code (Board from to true)
  promoting_taken out e =
      let low : from * SQUARE_CODES ≤ code = k.low in
      let here : (code ≤ code_of (Board from to true)) × (is_matching p capture (code_of (Board from to true)) ≡ true) = k.promotings.set to ht e in
      taken_from p capture code (Board from to true) (move_of-board from to true hf ht) (omega arith) here.0 here.1 (record { none = fails_to_promoting (is_matching p capture) from code non_promoting promoting low k.plains k.promotings to ht least out })

  -- the first code is that of the lowest destination, without promotion first
  pub least_taken : has_bit (bit_or non_promoting promoting) to ≡ true → IsTaken p capture code (Board from to (not (has_bit non_promoting to)))
  least_taken e = elim (cases_Bool (has_bit non_promoting to)) [
    | inl here ↦ rw here (plain_taken here)
    | inr out ↦ rw out (promoting_taken out (promoting_set e out))
  ]

  pub promoting_kept : (next : ℕ) → has_bit non_promoting to ≡ false → has_bit promoting to ≡ true → ((i : ℕ) → has_bit next i ≡ (has_bit promoting i && not (i == to))) → KeepsBoard p capture from (code_of (Board from to true) + 1) non_promoting next
  promoting_kept next out e bits =
      let low : from * SQUARE_CODES ≤ code = k.low in
      let here : code ≤ code_of (Board from to true) = (k.promotings.set to ht e).0 in
      record {
        low = omega arith;
        high = omega arith;
        plains = keeps_later (is_matching p capture) (λ n. code_of (Board from n false)) code (code_of (Board from to true) + 1) non_promoting k.plains (omega arith) (λ n h set. grind (arith, plain_above n set, cases_eq n to));
        promotings = keeps_less (is_matching p capture) (λ n. code_of (Board from n true)) code (code_of (Board from to true) + 1) promoting next to k.promotings (omega arith) bits (λ n h set other. (let le : to ≤ n = promoting_above n set in omega arith)) (omega arith);
      }

-- ---- from one piece to the next

-- the present piece has no move left
pub on_first : (p : Shogi) (capture : Bool) (own left from code non_promoting promoting : ℕ) → from < 81 → KeepsBoard p capture from code non_promoting promoting → bit_or non_promoting promoting ≡ 0
    → ((n : ℕ) → n < 81 → has_bit own n ≡ is_piece_of p.side (piece_at p.cells n)) → ((n : ℕ) → n < 81 → from < n → has_bit left n ≡ has_bit own n) → HasMatchingOn p capture code left
on_first p capture own left from code non_promoting promoting hf k none bits above = record {
  on = λ c low high matching. elim (cases_lt from (c / SQUARE_CODES)) [
    | inl up ↦ (let h : c / SQUARE_CODES < 81 = omega arith in
        above (c / SQUARE_CODES) h up ∙ (bits (c / SQUARE_CODES) h ∙ true_from_ne_false (is_piece_of p.side (piece_at p.cells (c / SQUARE_CODES))) (λ e.
        both_ways (is_matching p capture c) ((none_square p capture (c / SQUARE_CODES) (c / SQUARE_CODES * SQUARE_CODES) (c / SQUARE_CODES * SQUARE_CODES + SQUARE_CODES) h (omega arith) (omega arith) e).none c (omega arith) (omega arith)) matching)))
    | inr down ↦ absurd (both_ways (is_matching p capture c) ((none_left p capture from code non_promoting promoting k none).none c low (omega arith)) matching)
  ];
}

pub mine_first : (p : Shogi) (own left from : ℕ) → ((n : ℕ) → n < 81 → has_bit own n ≡ is_piece_of p.side (piece_at p.cells n)) → ((n : ℕ) → n < 81 → from < n → has_bit left n ≡ has_bit own n) → ((n : ℕ) → n < 81 → n ≤ from → has_bit left n ≡ false)
    → (n : ℕ) → n < 81 → has_bit left n ≡ true → (from < n) × (is_piece_of p.side (piece_at p.cells n) ≡ true)
mine_first p own left from bits above below n h set = grind (arith, cases_lt from n, bits n h, above n h, below n h)

-- one more piece without a move
pub on_less : (p : Shogi) (capture : Bool) (left less from code non_promoting promoting : ℕ) → HasMatchingOn p capture code left → KeepsBoard p capture from (from * SQUARE_CODES) non_promoting promoting → bit_or non_promoting promoting ≡ 0
    → ((i : ℕ) → has_bit less i ≡ (has_bit left i && not (i == from))) → HasMatchingOn p capture code less
on_less p capture left less from code non_promoting promoting w k none bits = record {
  on = λ c low high matching. grind (arith, (none_left p capture from (from * SQUARE_CODES) non_promoting promoting k none).none c, bits (c / SQUARE_CODES), w.on c low high matching);
}

-- no move up to the next piece, and none up to the end of the board
pub on_none : (p : Shogi) (capture : Bool) (left next code : ℕ) → HasMatchingOn p capture code left → next < 81 → ((n : ℕ) → has_bit left n ≡ true → next ≤ n) → HasNoneMatching p capture code (next * SQUARE_CODES)
on_none p capture left next code w h least = record {
  none = λ c low high. false_from_ne_true (is_matching p capture c) (λ matching. (let le : next ≤ c / SQUARE_CODES = least (c / SQUARE_CODES) (w.on c low (omega arith) matching) in omega arith));
}

-- ---- drops

pub keeps_kind : (p : Shogi) (kind : Kind) (destinations : ℕ) → ((n : ℕ) → n < 81 → has_bit destinations n ≡ is_matching p false (code_of (Drop kind n))) → KeepsDrop p kind (FIRST_DROP + kind_number kind * 81) destinations
keeps_kind p kind destinations bits = record {
  low = omega arith;
  high = omega arith;
  drops = keeps_first (is_matching p false) (λ n. code_of (Drop kind n)) (FIRST_DROP + kind_number kind * 81) destinations bits (λ n. omega arith);
}

-- the squares of a kind whose codes are at or above `code` and pass a test
module _ (test : ℕ → Bool) (kind : Kind) (code destinations : ℕ) (low : FIRST_DROP + kind_number kind * 81 ≤ code) (a : Keeps test (λ n. code_of (Drop kind n)) code destinations) where
  fails_drop : (c : ℕ) → code ≤ c → c < FIRST_DROP + 81 + kind_number kind * 81 → has_bit destinations (c - FIRST_DROP - kind_number kind * 81) ≡ false → test c ≡ false
  fails_drop c above under out =
      let at : c ≡ code_of (Drop kind (c - FIRST_DROP - kind_number kind * 81)) = omega arith in
      ap test at ∙ a.clear (c - FIRST_DROP - kind_number kind * 81) (omega arith) out (omega arith)

  -- without squares no code passes
  pub fails_drops : destinations ≡ 0 → (c : ℕ) → code ≤ c → c < FIRST_DROP + 81 + kind_number kind * 81 → test c ≡ false
  fails_drops none c above under = fails_drop c above under (ap (λ (m : ℕ). has_bit m (c - FIRST_DROP - kind_number kind * 81)) none ∙ has_bit-none (c - FIRST_DROP - kind_number kind * 81))

  -- no code passes below that of the lowest square
  pub fails_to_drop : (to : ℕ) → to < 81 → ((n : ℕ) → has_bit destinations n ≡ true → to ≤ n) → (c : ℕ) → code ≤ c → c < code_of (Drop kind to) → test c ≡ false
  fails_to_drop to ht least c above under =
      fails_drop c above (omega arith)
      (false_from_ne_true (has_bit destinations (c - FIRST_DROP - kind_number kind * 81)) (λ e. (let le : to ≤ c - FIRST_DROP - kind_number kind * 81 = least (c - FIRST_DROP - kind_number kind * 81) e in omega arith)))

pub no_drop_left : (p : Shogi) (kind : Kind) (code : ℕ) → KeepsDrop p kind code 0 → HasNoneMatching p false code (FIRST_DROP + 81 + kind_number kind * 81)
no_drop_left p kind code k = record { none = fails_drops (is_matching p false) kind code 0 k.low k.drops refl }

-- one more kind without a drop
pub no_drop_more : (p : Shogi) (kind next : Kind) (code : ℕ) → HasNoneMatching p false code (FIRST_DROP + 81 + kind_number kind * 81) → kind_number next ≡ kind_number kind + 1 → KeepsDrop p next (FIRST_DROP + kind_number next * 81) 0 → HasNoneMatching p false code (FIRST_DROP + 81 + kind_number next * 81)
no_drop_more p kind next code before e k =
    let here : FIRST_DROP + 81 + kind_number kind * 81 ≡ FIRST_DROP + kind_number next * 81 = omega arith in
    none_join p false code (FIRST_DROP + kind_number next * 81) (FIRST_DROP + 81 + kind_number next * 81) (subst (λ (x : ℕ). HasNoneMatching p false code x) here before) (no_drop_left p next (FIRST_DROP + kind_number next * 81) k)

pub no_drop_to : (p : Shogi) (kind next : Kind) (code : ℕ) → HasNoneMatching p false code (FIRST_DROP + 81 + kind_number kind * 81) → kind_number next ≡ kind_number kind + 1 → code ≤ FIRST_DROP + 81 + kind_number kind * 81 → matching_from p false code ≡ matching_from p false (FIRST_DROP + kind_number next * 81)
no_drop_to p kind next code before e low =
    let seven : kind_number next < 7 = number_below next in
    let here : FIRST_DROP + 81 + kind_number kind * 81 ≡ FIRST_DROP + kind_number next * 81 = omega arith in
    matching_jumps p false code (FIRST_DROP + kind_number next * 81) (omega arith) (omega arith) (subst (λ (x : ℕ). HasNoneMatching p false code x) here before)

pub no_drop_destination : (p : Shogi) (kind : Kind) (code : ℕ) → HasNoneMatching p false code (FIRST_DROP + 81 + kind_number kind * 81) → kind_number kind ≡ 6 → code ≤ FIRST_DROP + 81 + kind_number kind * 81 → matching_from p false code ≡ []
no_drop_destination p kind code before e low =
    let here : FIRST_DROP + 81 + kind_number kind * 81 ≡ MOVE_CODE_COUNT = omega arith in
    matching_jumps p false code MOVE_CODE_COUNT (omega arith) (omega arith) (subst (λ (x : ℕ). HasNoneMatching p false code x) here before) ∙ matching_end p false MOVE_CODE_COUNT (omega arith)

module _ (p : Shogi) (kind : Kind) (code destinations to : ℕ) (k : KeepsDrop p kind code destinations) (ht : to < 81) (set : has_bit destinations to ≡ true) (least : (n : ℕ) → has_bit destinations n ≡ true → to ≤ n) where
  pub drop_taken : IsTaken p false code (Drop kind to)
  drop_taken =
      let seven : kind_number kind < 7 = number_below kind in
      let low : FIRST_DROP + kind_number kind * 81 ≤ code = k.low in
      let here : (code ≤ code_of (Drop kind to)) × (is_matching p false (code_of (Drop kind to)) ≡ true) = k.drops.set to ht set in
      taken_from p false code (Drop kind to) (move_of-drop kind to ht) (omega arith) here.0 here.1 (record { none = fails_to_drop (is_matching p false) kind code destinations low k.drops to ht least })

-- drops take nothing
pub no_captures : (p : Shogi) → matching_from p true FIRST_DROP ≡ []
no_captures p = matching_jumps p true FIRST_DROP MOVE_CODE_COUNT (omega arith) (omega arith) (none_drop p true FIRST_DROP MOVE_CODE_COUNT (omega arith) (omega arith) refl) ∙ matching_end p true MOVE_CODE_COUNT (omega arith)

filter_all : (test : ℕ → Bool) (xs : List ℕ) → ((n : ℕ) → is_in n xs ≡ true → test n ≡ true) → filter test xs ≡ xs
filter_all test [] all = refl
filter_all test (x ∷ xs) all = cond-true (test x) _ _ (all x (or_left (x == x) (is_in x xs) (eq-eqb x x refl))) ∙ ap (λ (ys : List ℕ). x ∷ ys) (filter_all test xs (λ n h. all n (or_right (n == x) (is_in n xs) h)))

pub all_drops : (p : Shogi) (code : ℕ) → FIRST_DROP ≤ code → matching_from p false code ≡ legal_from p code
all_drops p code low = filter_all (matches_kind p false) (legal_from p code) (λ n h.
    let above : code ≤ n = legal_in_above p code n h in
    let under : n < MOVE_CODE_COUNT = legal_code_below p n (legal_in p code n h) in
    ap not (matches_kind_of p n _ (drop_code n (omega arith) under)))

-- ---- a held set without its first squares

keeps_nothing : (test : ℕ → Bool) (place : ℕ → ℕ) (code squares : ℕ) → squares ≡ 0 → ((n : ℕ) → n < 81 → place n < code) → Keeps test place code squares
keeps_nothing test place code squares none over = record {
  set = λ n h e. absurd (both_ways (has_bit squares n) (ap (λ m. has_bit m n) none ∙ has_bit-none n) e);
  clear = λ n h e l. absurd (let less : place n < code = over n h in omega arith);
}

pub no_destinations_kept : (p : Shogi) (capture : Bool) (from non_promoting promoting : ℕ) → non_promoting ≡ 0 → promoting ≡ 0 → KeepsBoard p capture from (from * SQUARE_CODES + SQUARE_CODES) non_promoting promoting
no_destinations_kept p capture from non_promoting promoting none none_promoting = record {
  low = omega arith;
  high = omega arith;
  plains = keeps_nothing (is_matching p capture) (λ n. code_of (Board from n false)) (from * SQUARE_CODES + SQUARE_CODES) non_promoting none (λ n h. omega arith);
  promotings = keeps_nothing (is_matching p capture) (λ n. code_of (Board from n true)) (from * SQUARE_CODES + SQUARE_CODES) promoting none_promoting (λ n h. omega arith);
}

pub ruleset sweeping = (keeps_square, matching_jumps)
