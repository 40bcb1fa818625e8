-- The cheapest of the moves that take on a square, found without the list of the legal moves.
use Rattle.std.proofs.Common.{◌≡◌, ◌<◌, ◌≤◌, ◌+◌, ◌*◌, ◌/◌, ◌%◌, ◌⊎◌, ℕ, bit_and, bit_or, List, [], ◌∷◌, Bool, true, false, cond, not, Option, Some, None, refl, sym, ap, ◌∙◌, subst, arith, inl, inr}
use Rattle.std.specs.Prelude.{◌&&◌, ◌||◌, ◌==◌, nat_lt, is_some}
use Rattle.std.proofs.lemmas.Bool.{and_parts, and_from, both_ways, cases_eq, cases_lt, cond_both, eq-eqb, eqb-true, le-ltb, lt-ltb, false_from_ne_true, ne_eqb, not-true, or_cases, or_left, or_right, true_from_ne_false}
use Rattle.shogi_core.specs.declared.moves.TheConstants.{FIRST_DROP, MOVE_CODE_COUNT}
use Rattle.shogi_core.specs.declared.moves.Move.{Move}
use Rattle.shogi_core.specs.declared.moves.Move.TheVariants.{Board}
use Rattle.shogi_core.specs.declared.piece.Piece.{Piece}
use Rattle.shogi_core.specs.declared.piece.Color.{Color}
use Rattle.shogi_core.specs.declared.piece.Color.TheVariants.{Black, White}
use Rattle.shogi_core.specs.declared.squares.Squares.{Squares}
use Rattle.shogi_core.specs.Bits.{has_bit, HasBits}
use Rattle.shogi_core.specs.Cell.{is_piece_of, is_immobile, is_slider}
use Rattle.shogi_core.specs.Lines.{are_aligned, is_near}
use Rattle.shogi_core.specs.Pieces.{is_same_color, opponent_of}
use Rattle.shogi_core.specs.Sets.{IsUnion}
use Rattle.shogi_core.specs.Codes.{code_of, move_of}
use Rattle.shogi_core.specs.Movement.{Cells, piece_at, reaches}
use Rattle.shogi_core.specs.Position.{Shogi}
use Rattle.shogi_core.specs.Validity.{IsValid}
use Rattle.shogi_core.specs.Zones.{may_promote}
use Rattle.shogi_core.proofs.BitLaws.{has_bit-and, has_bit-or}
use Rattle.shogi_core.proofs.CodesBack.{move_of-board, code_of-board}
use Rattle.shogi_core.proofs.SeenLaws.{lined_aligned, reaches_near}
use Rattle.shogi_moves.specs.After.{piece_moved}
use Rattle.shogi_moves.specs.Destinations.{is_own, leaves_king_safe, HasMovers}
use Rattle.shogi_moves.specs.Legal.{is_legal, is_legal_code, is_pseudo_legal_board_move}
use Rattle.shogi_moves.specs.LegalMoves.{legal_codes}
use Rattle.shogi_moves.specs.Rising.{is_in, IsRising}
use Rattle.shogi_moves.proofs.DestinationLaws.{alive, legal_board, unchecked_either}
use Rattle.shogi_moves.proofs.LegalLaws.{board_code, drop_code, is_legal_code_of, legal_code_below, legal_in, legal_rising, legal_to_listed}
use Rattle.shogi_eval.specs.Exchange.{cheaper, cheapest, price, price_with, least_valuable_attacker, takes_on}
use Rattle.minimax.proofs.Settling.{taker_in}
use Rattle.static_exchange.specs.Takers.{is_taker, promotes, rank_on, taking}

-- ---- what a left fold finds

-- if no move on the list takes there, the fold finds none
fold_none : (p : Shogi) (s : ℕ) (best : Option ℕ) (codes : List ℕ) → ((n : ℕ) → is_in n codes ≡ true → takes_on p s (move_of n) ≡ false) → cheapest p s best codes ≡ best
fold_none p s best [] h = refl
fold_none p s best (c ∷ cs) h =
    let off : takes_on p s (move_of c) ≡ false = h c (or_left _ _ (eq-eqb c c refl)) in
    ap (λ (b : Bool). cheapest p s (cond b (cheaper p best c) best) cs) off ∙ fold_none p s best cs (λ n i. h n (or_right (n == c) (is_in n cs) i))

-- the fold keeps what it found if no later move that takes has a lower price
fold_keeps : (p : Shogi) (s m : ℕ) (codes : List ℕ) → ((n : ℕ) → is_in n codes ≡ true → takes_on p s (move_of n) ≡ true → price p (move_of m) ≤ price p (move_of n)) → cheapest p s (Some m) codes ≡ Some m
fold_keeps p s m [] h = refl
fold_keeps p s m (c ∷ cs) h =
    let rest : cheapest p s (Some m) cs ≡ Some m = fold_keeps p s m cs (λ n i. h n (or_right (n == c) (is_in n cs) i)) in
    cond_both (takes_on p s (move_of c)) (cheaper p (Some m) c) (Some m) (λ (o : Option ℕ). cheapest p s o cs ≡ Some m)
    (λ takes. cond_both (nat_lt (price p (move_of c)) (price p (move_of m))) (Some c) (Some m) (λ (o : Option ℕ). cheapest p s o cs ≡ Some m)
    (λ less. absurd (both_ways (nat_lt (price p (move_of c)) (price p (move_of m))) (le-ltb (price p (move_of c)) (price p (move_of m)) (h c (or_left _ _ (eq-eqb c c refl)) takes)) less))
    (λ _. rest))
    (λ _. rest)

-- if a move was found, it costs more than this move
abbrev IsDearer : Shogi → ℕ → Option ℕ → Type 0
IsDearer p m o = (x : ℕ) → o ≡ Some x → price p (move_of m) < price p (move_of x)

chosen : (p : Shogi) (m c : ℕ) (best : Option ℕ) → m ≡ c → IsDearer p m best → cheaper p best c ≡ Some m
chosen p m c None same b = ap (λ (x : ℕ). Some x) (sym same)
chosen p m c (Some x) same b =
    cond_both (nat_lt (price p (move_of c)) (price p (move_of x))) (Some c) (Some x) (λ (o : Option ℕ). o ≡ Some m)
    (λ _. ap (λ (y : ℕ). Some y) (sym same))
    (λ off. absurd (both_ways (nat_lt (price p (move_of c)) (price p (move_of x))) off (lt-ltb (price p (move_of c)) (price p (move_of x)) (subst (λ (y : ℕ). price p (move_of y) < price p (move_of x)) same (b x refl)))))

dearer : (p : Shogi) (m c : ℕ) (best : Option ℕ) → IsDearer p m best → price p (move_of m) < price p (move_of c) → IsDearer p m (cheaper p best c)
dearer p m c None b low x e = let q : c ≡ x = cc in subst (λ (y : ℕ). price p (move_of m) < price p (move_of y)) q low
dearer p m c (Some y) b low x e =
    cond_both (nat_lt (price p (move_of c)) (price p (move_of y))) (Some c) (Some y) (λ (o : Option ℕ). o ≡ Some x → price p (move_of m) < price p (move_of x))
    (λ _ r. let q : c ≡ x = cc in subst (λ (z : ℕ). price p (move_of m) < price p (move_of z)) q low)
    (λ _ r. b x r)
    e

-- the move of lowest price, the first of several
fold_finds : (p : Shogi) (s m : ℕ) (codes : List ℕ) (best : Option ℕ) → IsRising codes → is_in m codes ≡ true → takes_on p s (move_of m) ≡ true → IsDearer p m best
    → ((n : ℕ) → is_in n codes ≡ true → takes_on p s (move_of n) ≡ true → price p (move_of m) ≤ price p (move_of n))
    → ((n : ℕ) → is_in n codes ≡ true → takes_on p s (move_of n) ≡ true → n < m → price p (move_of m) < price p (move_of n))
    → cheapest p s best codes ≡ Some m
fold_finds p s m [] best r i t b least first = absurd (cc)
fold_finds p s m (c ∷ cs) best r i t b least first = elim (cases_eq m c) [
  | inl same ↦ (
      let takes : takes_on p s (move_of c) ≡ true = subst (λ (x : ℕ). takes_on p s (move_of x) ≡ true) same t in
      ap (λ (v : Bool). cheapest p s (cond v (cheaper p best c) best) cs) takes
      ∙ (ap (λ (o : Option ℕ). cheapest p s o cs) (chosen p m c best same b)
      ∙ fold_keeps p s m cs (λ n j. least n (or_right (n == c) (is_in n cs) j))))
  | inr other ↦ (
      let later : is_in m cs ≡ true = elim (or_cases (m == c) (is_in m cs) i) [ inl e ↦ absurd (other (eqb-true m c e)) | inr x ↦ x ] in
      let up : c < m = r.0 m later in
      fold_finds p s m cs (cond (takes_on p s (move_of c)) (cheaper p best c) best) r.1 later t
      (cond_both (takes_on p s (move_of c)) (cheaper p best c) best (IsDearer p m) (λ takes. dearer p m c best b (first c (or_left _ _ (eq-eqb c c refl)) takes up)) (λ _. b))
      (λ n j. least n (or_right (n == c) (is_in n cs) j))
      (λ n j. first n (or_right (n == c) (is_in n cs) j)))
]

-- ---- the moves that take on a square

-- a legal move that takes there is one of a piece on the board
pub record TakesFrom (p : Shogi) (s code : ℕ) : Type 0 where
  pub from : ℕ
  pub promote : Bool
  pub here : from < 81
  pub some : is_some (piece_at p.cells s) ≡ true
  pub is : code_of (Board from s promote) ≡ code
  pub back : move_of code ≡ Some (Board from s promote)
  pub legal : is_legal p (Board from s promote) ≡ true

ends_on : (p : Shogi) (s from to : ℕ) (promote : Bool) → takes_on p s (Some (Board from to promote)) ≡ true → (to ≡ s) × (is_some (piece_at p.cells s) ≡ true)
ends_on p s from to promote t =
    let both : ((to == s) ≡ true) × (is_some (piece_at p.cells to) ≡ true) = and_parts (to == s) (is_some (piece_at p.cells to)) t in
    let same : to ≡ s = eqb-true to s both.0 in
    (same, subst (λ (x : ℕ). is_some (piece_at p.cells x) ≡ true) same both.1)

pub takes_from : (p : Shogi) (s code : ℕ) → is_in code (legal_codes p) ≡ true → takes_on p s (move_of code) ≡ true → TakesFrom p s code
takes_from p s code i t =
    let legal : is_legal_code p code ≡ true = legal_in p 0 code i in
    let below : code < MOVE_CODE_COUNT = legal_code_below p code legal in
    elim (cases_lt code FIRST_DROP) [
      | inl low ↦ (
          let there : move_of code ≡ Some (Board (code / 2 / 81) (code / 2 % 81) (code % 2 == 1)) = board_code code low in
          let two : (code / 2 % 81 ≡ s) × (is_some (piece_at p.cells s) ≡ true) = ends_on p s (code / 2 / 81) (code / 2 % 81) (code % 2 == 1) (ap (takes_on p s) (sym there) ∙ t) in
          let back : move_of code ≡ Some (Board (code / 2 / 81) s (code % 2 == 1)) = there ∙ ap (λ (x : ℕ). Some (Board (code / 2 / 81) x (code % 2 == 1))) two.0 in
          let within : code / 2 / 81 < 81 = omega arith in
          record {
            from = code / 2 / 81;
            promote = code % 2 == 1;
            here = within;
            some = two.1;
            is = ap (λ (x : ℕ). code_of (Board (code / 2 / 81) x (code % 2 == 1))) (sym two.0) ∙ code_of-board code;
            back = back;
            legal = sym (is_legal_code_of p code (Board (code / 2 / 81) s (code % 2 == 1)) back) ∙ legal;
          })
      | inr high ↦ absurd (both_ways (takes_on p s (move_of code)) (ap (takes_on p s) (drop_code code high below)) t)
    ]

-- what a legal move on the board obeys
pub record IsLegalTaking (p : Shogi) (from s : ℕ) (promote : Bool) : Type 0 where
  pub own : is_own p from ≡ true
  pub free : is_own p s ≡ false
  pub reached : reaches p.cells from s ≡ true
  pub promotion : (not promote || may_promote (piece_at p.cells from) from s) ≡ true
  pub safe : leaves_king_safe p (Board from s promote) ≡ true

pub legal_taking : (p : Shogi) (from s : ℕ) (promote : Bool) → is_legal p (Board from s promote) ≡ true → IsLegalTaking p from s promote
legal_taking p from s promote l =
    let all = and_parts (is_pseudo_legal_board_move p.cells p.side from s promote) (leaves_king_safe p (Board from s promote)) (sym (legal_board p from s promote) ∙ l) in
    let four = and_parts _ _ all.0 in
    let three = and_parts _ _ four.0 in
    let two = and_parts _ _ three.0 in
    let one = and_parts _ _ two.0 in
    record { own = one.0; free = not-true _ one.1; reached = two.1; promotion = three.1; safe = all.1 }

-- if one of a piece's two moves to the square is legal, the one that promotes if it may is legal
promoted_legal : (p : Shogi) (from s : ℕ) (may promote : Bool) → IsValid p → s < 81 → may_promote (piece_at p.cells from) from s ≡ may → is_legal p (Board from s promote) ≡ true → is_legal p (Board from s may) ≡ true
promoted_legal p from s true true v h m l = l
promoted_legal p from s false false v h m l = l
promoted_legal p from s false true v h m l = absurd (both_ways (may_promote (piece_at p.cells from) from s) m (legal_taking p from s true l).promotion)
promoted_legal p from s true false v h m l =
    let t : IsLegalTaking p from s false = legal_taking p from s false l in
    let both : (may_promote (piece_at p.cells from) from s && not (is_immobile s (piece_moved true (piece_at p.cells from)))) ≡ true = alive from s (piece_at p.cells from) ∙ m in
    legal_board p from s true
    ∙ and_from _ _
    (and_from _ _ (and_from _ _ (and_from _ _ (and_from _ _ t.own (ap not t.free)) t.reached) m) (and_parts _ _ both).1)
    (unchecked_either p from s true v.cells_fit h t.own ∙ t.safe)

pub taking_legal : (p : Shogi) (from s : ℕ) (promote : Bool) → IsValid p → s < 81 → is_legal p (Board from s promote) ≡ true → is_taker p s from ≡ true
taking_legal p from s promote v h l = promoted_legal p from s (promotes p s from) promote v h refl l

-- ---- prices

plain_most : (cell : Option Piece) (promote : Bool) → price_with cell promote ≤ price_with cell false
plain_most None promote = omega arith
plain_most (Some piece) true = omega arith
plain_most (Some piece) false = omega arith

-- a move has no lower price than that which promotes if it may
lowest_price : (cell : Option Piece) (may promote : Bool) → (not promote || may) ≡ true → price_with cell may ≤ price_with cell promote
lowest_price cell may false ok = plain_most cell may
lowest_price cell true true ok = omega arith
lowest_price cell false true ok = absurd (cc)

-- the other move costs more if its code is lower
plain_dearer : (cell : Option Piece) (own : is_some cell ≡ true) (may promote : Bool) → (not promote || may) ≡ true → cond promote 1 0 < cond may 1 0 → price_with cell may < price_with cell promote
plain_dearer None own may promote ok less = absurd (cc)
plain_dearer (Some piece) own true false ok less = omega arith
plain_dearer (Some piece) own true true ok less = absurd (omega arith)
plain_dearer (Some piece) own false promote ok less = absurd (none promote less)
  where
    none : (b : Bool) → cond b 1 0 < 0 → ⊥
    none true h = omega arith
    none false h = omega arith

is_there : (side : Color) (cell : Option Piece) → is_piece_of side cell ≡ true → is_some cell ≡ true
is_there side None e = absurd (cc)
is_there side (Some piece) e = refl

bit_most : (b : Bool) → cond b 1 0 ≤ 1
bit_most true = omega arith
bit_most false = omega arith

-- ---- the order of pieces by price and square

rank_least : (a b f g : ℕ) → g < 81 → a * 128 + f ≤ b * 128 + g → a ≤ b
rank_least a b f g h l = omega arith

rank_less : (a b f g : ℕ) → f < 81 → g < f → a * 128 + f ≤ b * 128 + g → a < b
rank_less a b f g h k l = omega arith

code_order : (f g s c d : ℕ) → c ≤ 1 → d ≤ 1 → (g * 81 + s) * 2 + c < (f * 81 + s) * 2 + d → f ≤ g → (g ≡ f) × (c < d)
code_order f g s c d hc hd l up = let same : g ≡ f = omega arith in (same, omega arith)

at_most : (a b c : ℕ) → a ≤ b → b ≤ c → a ≤ c
at_most a b c h k = omega arith

less_most : (a b c : ℕ) → a < b → b ≤ c → a < c
less_most a b c h k = omega arith

-- a move that takes there has no lower price than that of its piece which promotes if it may
price_least : (p : Shogi) (s code : ℕ) (x : TakesFrom p s code) → price_with (piece_at p.cells x.from) (promotes p s x.from) ≤ price p (move_of code)
price_least p s code x =
    subst (λ (o : Option Move). price_with (piece_at p.cells x.from) (promotes p s x.from) ≤ price p o) (sym x.back)
    (lowest_price (piece_at p.cells x.from) (promotes p s x.from) x.promote (legal_taking p x.from s x.promote x.legal).promotion)

-- a taker costs no less than a piece that comes before it in the order
first_least : (p : Shogi) (s from code : ℕ) (x : TakesFrom p s code) → rank_on p.cells s from ≤ rank_on p.cells s x.from → price_with (piece_at p.cells from) (promotes p s from) ≤ price p (move_of code)
unfolding rank_on
first_least p s from code x l =
    at_most (price_with (piece_at p.cells from) (promotes p s from)) (price_with (piece_at p.cells x.from) (promotes p s x.from)) (price p (move_of code))
    (rank_least (price_with (piece_at p.cells from) (promotes p s from)) (price_with (piece_at p.cells x.from) (promotes p s x.from)) from x.from x.here l)
    (price_least p s code x)

-- a taker of lower code costs more
first_less : (p : Shogi) (s from code : ℕ) (x : TakesFrom p s code) → from < 81 → is_own p from ≡ true → rank_on p.cells s from ≤ rank_on p.cells s x.from → code < code_of (taking p s from) → price_with (piece_at p.cells from) (promotes p s from) < price p (move_of code)
unfolding rank_on
first_less p s from code x hf own l lt =
    let below : code_of (Board x.from s x.promote) < code_of (taking p s from) = subst (λ (k : ℕ). k < code_of (taking p s from)) (sym x.is) lt in
    elim (cases_lt x.from from) [
      | inl low ↦
          less_most (price_with (piece_at p.cells from) (promotes p s from)) (price_with (piece_at p.cells x.from) (promotes p s x.from)) (price p (move_of code))
          (rank_less (price_with (piece_at p.cells from) (promotes p s from)) (price_with (piece_at p.cells x.from) (promotes p s x.from)) from x.from hf low l)
          (price_least p s code x)
      | inr up ↦ (
          let two : (x.from ≡ from) × (cond x.promote 1 0 < cond (promotes p s from) 1 0) = code_order from x.from s (cond x.promote 1 0) (cond (promotes p s from) 1 0) (bit_most x.promote) (bit_most (promotes p s from)) below up in
          let ok : (not x.promote || promotes p s from) ≡ true = subst (λ (k : ℕ). (not x.promote || promotes p s k) ≡ true) two.0 (legal_taking p x.from s x.promote x.legal).promotion in
          subst (λ (o : Option Move). price_with (piece_at p.cells from) (promotes p s from) < price p o) (sym x.back)
          (subst (λ (k : ℕ). price_with (piece_at p.cells from) (promotes p s from) < price_with (piece_at p.cells k) x.promote) (sym two.0)
          (plain_dearer (piece_at p.cells from) (is_there p.side (piece_at p.cells from) own) (promotes p s from) x.promote ok two.1)))
    ]

-- ---- what takes

-- the first piece of the order that may take gives the least valuable attacker
pub taker_found : (p : Shogi) (s from : ℕ) → IsValid p → s < 81 → from < 81 → is_some (piece_at p.cells s) ≡ true → is_taker p s from ≡ true
    → ((n : ℕ) → n < 81 → is_taker p s n ≡ true → rank_on p.cells s from ≤ rank_on p.cells s n)
    → Some (code_of (taking p s from)) ≡ least_valuable_attacker p s
taker_found p s from v hs hf there l least =
    let back : move_of (code_of (taking p s from)) ≡ Some (taking p s from) = move_of-board from s (promotes p s from) hf hs in
    let mine : price p (move_of (code_of (taking p s from))) ≡ price_with (piece_at p.cells from) (promotes p s from) = ap (price p) back in
    let own : is_own p from ≡ true = (legal_taking p from s (promotes p s from) l).own in
    sym (fold_finds p s (code_of (taking p s from)) (legal_codes p) None (legal_rising p 0) (legal_to_listed p (taking p s from) back l)
    (ap (takes_on p s) back ∙ and_from (s == s) (is_some (piece_at p.cells s)) (eq-eqb s s refl) there)
    (λ x e. absurd (cc))
    (λ n i t. let x : TakesFrom p s n = takes_from p s n i t in subst (λ (k : ℕ). k ≤ price p (move_of n)) (sym mine) (first_least p s from n x (least x.from x.here (taking_legal p x.from s x.promote v hs x.legal))))
    (λ n i t lt. let x : TakesFrom p s n = takes_from p s n i t in subst (λ (k : ℕ). k < price p (move_of n)) (sym mine) (first_less p s from n x hf own (least x.from x.here (taking_legal p x.from s x.promote v hs x.legal)) lt)))

-- there is no attacker if no piece may take
pub taker_none : (p : Shogi) (s : ℕ) → IsValid p → s < 81 → ((n : ℕ) → n < 81 → is_some (piece_at p.cells s) ≡ true → is_taker p s n ≡ false) → None ≡ least_valuable_attacker p s
taker_none p s v hs none =
    sym (fold_none p s None (legal_codes p) (λ n i. false_from_ne_true (takes_on p s (move_of n)) (λ t.
    let x : TakesFrom p s n = takes_from p s n i t in
    both_ways (is_taker p s x.from) (none x.from x.here x.some) (taking_legal p x.from s x.promote v hs x.legal))))

-- a taker's move ends on the square
cheaper_takes : (p : Shogi) (s c : ℕ) (best : Option ℕ) (x : ℕ) → takes_on p s (move_of c) ≡ true → ((y : ℕ) → best ≡ Some y → takes_on p s (move_of y) ≡ true) → cheaper p best c ≡ Some x → takes_on p s (move_of x) ≡ true
cheaper_takes p s c None x t h e = let q : c ≡ x = cc in subst (λ (y : ℕ). takes_on p s (move_of y) ≡ true) q t
cheaper_takes p s c (Some y) x t h e =
    cond_both (nat_lt (price p (move_of c)) (price p (move_of y))) (Some c) (Some y) (λ (o : Option ℕ). o ≡ Some x → takes_on p s (move_of x) ≡ true)
    (λ _ r. let q : c ≡ x = cc in subst (λ (z : ℕ). takes_on p s (move_of z) ≡ true) q t)
    (λ _ r. h x r)
    e

cheapest_takes : (p : Shogi) (s : ℕ) (best : Option ℕ) (codes : List ℕ) (b : ℕ) → ((x : ℕ) → best ≡ Some x → takes_on p s (move_of x) ≡ true) → cheapest p s best codes ≡ Some b → takes_on p s (move_of b) ≡ true
cheapest_takes p s best [] b h e = h b e
cheapest_takes p s best (c ∷ cs) b h e =
    cheapest_takes p s (cond (takes_on p s (move_of c)) (cheaper p best c) best) cs b
    (λ x. cond_both (takes_on p s (move_of c)) (cheaper p best c) best (λ (o : Option ℕ). o ≡ Some x → takes_on p s (move_of x) ≡ true) (λ t r. cheaper_takes p s c best x t h r) (λ _ r. h x r))
    e

pub taker_takes : (p : Shogi) (s code : ℕ) → least_valuable_attacker p s ≡ Some code → TakesFrom p s code
taker_takes p s code e = takes_from p s code (taker_in p s code e) (cheapest_takes p s None (legal_codes p) code (λ x q. absurd (cc)) e)

-- ---- pieces gone through

-- a piece that may take there reaches the square
pub reaching : (p : Shogi) (s n : ℕ) → is_taker p s n ≡ true → (is_own p n && reaches p.cells n s) ≡ true
reaching p s n l = let t : IsLegalTaking p n s (promotes p s n) = legal_taking p n s (promotes p s n) l in and_from _ _ t.own t.reached

pub none_out : (p : Shogi) (s pieces n : ℕ) → has_bit pieces n ≡ (is_own p n && reaches p.cells n s) → has_bit pieces n ≡ false → is_taker p s n ≡ false
none_out p s pieces n bits out = false_from_ne_true (is_taker p s n) (λ l. both_ways (has_bit pieces n) out (bits ∙ reaching p s n l))

-- the first of the pieces that are left comes first of all takers
pub first_of_all : (p : Shogi) (s left from : ℕ) → ((n : ℕ) → n < 81 → has_bit left n ≡ false → is_taker p s n ≡ false) → ((n : ℕ) → n < 81 → has_bit left n ≡ true → rank_on p.cells s from ≤ rank_on p.cells s n)
    → (n : ℕ) → n < 81 → is_taker p s n ≡ true → rank_on p.cells s from ≤ rank_on p.cells s n
first_of_all p s left from all least n h l = least n h (true_from_ne_false (has_bit left n) (λ out. both_ways (is_taker p s n) (all n h out) l))

-- the pieces near or on a line that reach the square are all that reach it
pub reacher_bits : (own near reach : Bool) → (reach ≡ true → near ≡ true) → ((own && near) && reach) ≡ (own && reach)
reacher_bits false near reach h = refl
reacher_bits true true true h = refl
reacher_bits true true false h = refl
reacher_bits true false false h = refl
reacher_bits true false true h = absurd (both_ways false refl (h refl))

pub near_or_lined : (cells : Cells) (near sliders lines n t : ℕ) → n < 81 → ((i : ℕ) → i < 81 → has_bit near i ≡ is_near t i) → ((i : ℕ) → i < 81 → has_bit sliders i ≡ is_slider (piece_at cells i)) → ((i : ℕ) → i < 81 → has_bit lines i ≡ are_aligned t i)
    → reaches cells n t ≡ true → has_bit (bit_or near (bit_and sliders lines)) n ≡ true
near_or_lined cells near sliders lines n t hn nb sb lb r =
    let either : (has_bit near n || has_bit (bit_and sliders lines) n) ≡ true = elim (reaches_near cells n t hn r) [
      | inl beside ↦ or_left _ _ (nb n hn ∙ beside)
      | inr far ↦ or_right _ _ (has_bit-and sliders lines n ∙ and_from _ _ (sb n hn ∙ far.0) (lb n hn ∙ lined_aligned cells t n far.1))
    ] in
    has_bit-or near (bit_and sliders lines) n ∙ either

-- ---- squares on which nothing is taken

-- a cell that is neither the mover's nor the opponent's is empty
nobody : (side : Color) (cell : Option Piece) → is_piece_of side cell ≡ false → is_piece_of (opponent_of side) cell ≡ false → is_some cell ≡ false
nobody side None a b = refl
nobody side (Some piece) a b = absurd (go side piece.color a b)
  where
    go : (s c : Color) → is_same_color s c ≡ false → is_same_color (opponent_of s) c ≡ false → ⊥
    go Black Black x y = cc
    go Black White x y = cc
    go White Black x y = cc
    go White White x y = cc

-- a move that takes on a square takes a piece of the other side
pub takes_foe : (p : Shogi) (s n : ℕ) → is_some (piece_at p.cells s) ≡ true → is_taker p s n ≡ true → is_piece_of (opponent_of p.side) (piece_at p.cells s) ≡ true
takes_foe p s n some l = true_from_ne_false (is_piece_of (opponent_of p.side) (piece_at p.cells s)) (λ off. both_ways (is_some (piece_at p.cells s)) (nobody p.side (piece_at p.cells s) (legal_taking p n s (promotes p s n) l).free off) some)

-- no move takes on a square that holds no reachable piece of the other side
pub untaken : (p : Shogi) (own movers foe found s : ℕ) (post : ℕ → Squares → Type 0) → IsValid p → s < 81
    → ((n : ℕ) → n < 81 → has_bit own n ≡ is_own p n) → HasMovers p true own movers → ((n : ℕ) → n < 81 → has_bit foe n ≡ is_piece_of (opponent_of p.side) (piece_at p.cells n))
    → ((k : ℕ) (led : Squares) → k < 81 → post k led → HasBits led.bits (reaches p.cells k)) → IsUnion post movers found
    → has_bit (bit_and foe found) s ≡ false → None ≡ least_valuable_attacker p s
untaken p own movers foe found s post v hs owns moves foes leads u out =
    taker_none p s v hs (λ n hn some. false_from_ne_true (is_taker p s n) (λ l.
    let t : IsLegalTaking p n s (promotes p s n) = legal_taking p n s (promotes p s n) l in
    let theirs : is_piece_of (opponent_of p.side) (piece_at p.cells s) ≡ true = takes_foe p s n some l in
    let mover : has_bit movers n ≡ true = true_from_ne_false (has_bit movers n) (λ off. both_ways (reaches p.cells n s && is_piece_of (opponent_of p.side) (piece_at p.cells s)) (moves n s hn hs (owns n hn ∙ t.own) off) (and_from _ _ t.reached theirs)) in
    let some_led = u.all n hn mover in
    let in_led : has_bit some_led.0.bits s ≡ true = leads n some_led.0 hn some_led.1 s hs ∙ t.reached in
    both_ways (has_bit (bit_and foe found) s) out (has_bit-and foe found s ∙ and_from _ _ (foes s hs ∙ theirs) (some_led.2 s in_led))))

-- ---- the first of some pieces

pub left_set : (left next k n : ℕ) → ((i : ℕ) → has_bit next i ≡ (has_bit left i && not (i == k))) → has_bit next n ≡ true → has_bit left n ≡ true
left_set left next k n bits e = (and_parts (has_bit left n) (not (n == k)) (sym (bits n) ∙ e)).0

-- a bit that is not left was cleared before, or is the one just passed
pub left_or_passed : (left next k n : ℕ) → ((i : ℕ) → has_bit next i ≡ (has_bit left i && not (i == k))) → has_bit next n ≡ false → (n ≡ k) ⊎ (has_bit left n ≡ false)
left_or_passed left next k n bits out = elim (cases_eq n k) [
  | inl same ↦ inl same
  | inr other ↦ inr (false_from_ne_true (has_bit left n) (λ still. both_ways (has_bit next n) out (bits n ∙ and_from _ _ still (ap not (ne_eqb n k other)))))
]
