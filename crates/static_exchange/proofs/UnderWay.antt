-- An exchange on one square, and each position that has it.
use Rattle.std.proofs.Common.{◌≡◌, ◌≢◌, ◌<◌, ◌≤◌, ℕ, Bool, true, false, not, Option, Some, None, refl, sym, ap, ◌∙◌, subst, arith, inl, inr, set, length, get_or-set_same, get_or-set_other, length-set}
use Rattle.std.specs.Prelude.{◌==◌, ◌&&◌, ◌||◌, is_none, is_some}
use Rattle.std.proofs.lemmas.Bool.{and_from, and_parts, both_ways, cases_Bool, cases_eq, eq-eqb, eqb-true, ne_eqb, false_from_ne_true}
use Rattle.shogi_core.specs.declared.moves.Move.TheVariants.{Board}
use Rattle.shogi_core.specs.declared.piece.Color.{Color}
use Rattle.shogi_core.specs.declared.piece.Piece.{Piece}
use Rattle.shogi_core.specs.Attack.{in_check, is_attacked, is_open_king, IsSeenAs}
use Rattle.shogi_core.specs.Bits.{has_bit, HasBits}
use Rattle.shogi_core.specs.Codes.{code_of, move_of}
use Rattle.shogi_core.specs.Cell.{is_piece_of, is_king, is_immobile, HasNoKing, HasNoOtherKing}
use Rattle.shogi_core.specs.Movement.{Cells, piece_at, reaches}
use Rattle.shogi_core.specs.Pieces.{opponent_of}
use Rattle.shogi_core.specs.Position.{Shogi}
use Rattle.shogi_core.specs.Validity.{IsValid}
use Rattle.shogi_core.specs.Zones.{may_promote}
use Rattle.shogi_core.proofs.Below.{some_below_no}
use Rattle.shogi_core.proofs.CodesBack.{move_of-board}
use Rattle.shogi_moves.specs.After.{after, after_code, piece_moved}
use Rattle.shogi_moves.specs.Destinations.{is_own, leaves_king_safe}
use Rattle.shogi_moves.specs.Legal.{is_legal}
use Rattle.shogi_moves.proofs.CheckInfoLaws.{is_piece_of-piece_moved, other_side, own_some}
use Rattle.shogi_moves.proofs.DestinationLaws.{alive, legal_board, still}
use Rattle.shogi_moves.proofs.LegalLaws.{after_code_of, legal_to_listed}
use Rattle.shogi_moves.proofs.MovedPieces.{is_king-piece_moved}
use Rattle.shogi_moves.proofs.SeenAfter.{king_goes, king_left, moved}
use Rattle.minimax.proofs.Valid.{after_valid}
use Rattle.static_exchange.specs.declared.square_exchange.SquareExchange.{SquareExchange}
use Rattle.static_exchange.specs.SquareExchanges.{HasExchange}
use Rattle.static_exchange.specs.Takers.{is_taker, promotes, rank_on, taking, taking_code, IsFirst, TakesFirst}
use Rattle.static_exchange.proofs.Cheapest.{legal_taking}
use Rattle.static_exchange.proofs.Won.{after_first}

-- ---- cells

not_own : (side : Color) (cell : Option Piece) → is_piece_of (opponent_of side) cell ≡ true → is_piece_of side cell ≡ false
not_own side cell e = grind arith

somebody : (side : Color) (cell : Option Piece) → (is_piece_of side cell || is_piece_of (opponent_of side) cell) ≡ not (is_none cell)
somebody side cell = grind arith

pub some_there : (side : Color) (cell : Option Piece) → is_piece_of side cell ≡ true → is_some cell ≡ true
some_there side cell e = grind arith

opponent_twice : (side : Color) → opponent_of (opponent_of side) ≡ side
opponent_twice side = grind arith

no_king_none : (side : Color) → is_king side None ≡ false
no_king_none side = grind arith

not_king : (side : Color) (cell : Option Piece) → is_piece_of side cell ≡ false → is_king side cell ≡ false
not_king side cell e = grind arith

-- a piece that cannot promote on a square can move on from there
mobile : (from n : ℕ) (cell : Option Piece) → may_promote cell from n ≡ false → is_immobile n cell ≡ false
mobile from n cell e = grind arith

lives : (from n : ℕ) (cell : Option Piece) (may : Bool) → may_promote cell from n ≡ may → not (is_immobile n (piece_moved may cell)) ≡ true
lives from n cell true e = (and_parts _ _ (alive from n cell ∙ e)).1
lives from n cell false e = ap not (still n cell ∙ mobile from n cell e)

-- ---- truth values

occupied_bit : (own foe same : Bool) → (same ≡ true → foe ≡ true) → ((own || (foe && not same)) || same) ≡ (own || foe)
occupied_bit true foe same h = grind arith
occupied_bit false true true h = refl
occupied_bit false true false h = refl
occupied_bit false false false h = refl
occupied_bit false false true h = absurd (both_ways false refl (h refl))

either_way : (b : Bool) → (not b || b) ≡ true
either_way true = refl
either_way false = refl

-- ---- ranks

pub rank_same : (a b : Cells) (s n : ℕ) → piece_at a n ≡ piece_at b n → rank_on a s n ≡ rank_on b s n
unfolding rank_on
rank_same a b s n e = rw e refl

-- ---- a piece of the side moves to a square that holds no piece of its own

module _ (p : Shogi) (from to : ℕ) (promote : Bool) (len : length p.cells ≡ 81) (hf : from < 81) (ht : to < 81) (own : is_own p from ≡ true) (bare : is_own p to ≡ false) where
  apart : from ≢ to
  apart same = both_ways (is_own p to) bare (subst (λ (k : ℕ). is_own p k ≡ true) same own)

  there : piece_at (moved p from to promote) to ≡ piece_moved promote (piece_at p.cells from)
  there = get_or-set_same (set p.cells from None) to (piece_moved promote (piece_at p.cells from)) None (omega (arith, len, length-set p.cells from None))

  gone : piece_at (moved p from to promote) from ≡ None
  gone = get_or-set_other (set p.cells from None) to from (piece_moved promote (piece_at p.cells from)) None apart ∙ get_or-set_same p.cells from None None (omega (arith, len))

  other : (n : ℕ) → n ≢ to → n ≢ from → piece_at (moved p from to promote) n ≡ piece_at p.cells n
  other n off away = get_or-set_other (set p.cells from None) to n (piece_moved promote (piece_at p.cells from)) None off ∙ get_or-set_other p.cells from n None None away

  own_moved : is_piece_of p.side (piece_moved promote (piece_at p.cells from)) ≡ true
  own_moved = is_piece_of-piece_moved p.side promote (piece_at p.cells from) ∙ own

  -- the other side's pieces stay, but for one that is taken
  foes_then : (n : ℕ) → (is_piece_of (opponent_of p.side) (piece_at p.cells n) && not (n == to)) ≡ is_piece_of (opponent_of p.side) (piece_at (moved p from to promote) n)
  foes_then n = elim (cases_eq n to) [
    | inl same ↦ grind (arith, eq-eqb n to same, there, other_side p.side (piece_moved promote (piece_at p.cells from)) own_moved)
    | inr off ↦ elim (cases_eq n from) [
      | inl same ↦ grind (arith, gone, other_side p.side (piece_at p.cells from) own)
      | inr away ↦ grind (arith, other n off away, ne_eqb n to off)
    ]
  ]

  foe_same : (n : ℕ) → (is_piece_of (opponent_of p.side) (piece_at p.cells n) && not (n == to)) ≡ true → piece_at (moved p from to promote) n ≡ piece_at p.cells n
  foe_same n on = elim (cases_eq n to) [
    | inl same ↦ grind (arith, eq-eqb n to same)
    | inr off ↦ elim (cases_eq n from) [
      | inl same ↦ grind (arith, other_side p.side (piece_at p.cells from) own)
      | inr away ↦ other n off away
    ]
  ]

  -- the side's own pieces stay, but for the one that moves
  owns_then : (n : ℕ) → (is_own p n && not (n == from)) ≡ (is_piece_of p.side (piece_at (moved p from to promote) n) && not (n == to))
  owns_then n = elim (cases_eq n to) [
    | inl same ↦ grind (arith, bare, eq-eqb n to same)
    | inr off ↦ elim (cases_eq n from) [
      | inl same ↦ grind (arith, gone, eq-eqb n from same)
      | inr away ↦ grind (arith, other n off away, ne_eqb n to off, ne_eqb n from away)
    ]
  ]

  own_same : (n : ℕ) → (is_own p n && not (n == from)) ≡ true → piece_at (moved p from to promote) n ≡ piece_at p.cells n
  own_same n on = elim (cases_eq n to) [
    | inl same ↦ grind (arith, bare)
    | inr off ↦ elim (cases_eq n from) [
      | inl same ↦ grind (arith, eq-eqb n from same)
      | inr away ↦ other n off away
    ]
  ]

  -- the exchange on the square then belongs to the other side, with these pieces
  pub exchange_after : IsValid (after p (Board from to promote)) → (y : SquareExchange) → y.square ≡ to → y.stands ≡ piece_moved promote (piece_at p.cells from) → y.side ≡ opponent_of p.side
      → ((n : ℕ) → n < 81 → has_bit y.mine.bits n ≡ (is_piece_of (opponent_of p.side) (piece_at p.cells n) && not (n == to))) → ((n : ℕ) → n < 81 → has_bit y.theirs.bits n ≡ (is_own p n && not (n == from)))
      → ((n : ℕ) → n < 81 → has_bit y.mine.bits n ≡ true → piece_at p.cells n ≡ piece_at y.board.now n) → ((n : ℕ) → n < 81 → has_bit y.theirs.bits n ≡ true → piece_at p.cells n ≡ piece_at y.board.now n)
      → HasExchange (after p (Board from to promote)) y
  exchange_after v y s st sd m t sm th = record {
    valid = v;
    side = sd;
    stands = ap (piece_at (moved p from to promote)) s ∙ (there ∙ sym st);
    foe = rw (opponent_twice p.side, st) own_moved;
    mine = λ n h. m n h ∙ foes_then n;
    theirs = λ n h. t n h ∙ rw (opponent_twice p.side, s) (owns_then n);
    same_mine = λ n h on. foe_same n (sym (m n h) ∙ on) ∙ sm n h on;
    same_theirs = λ n h on. own_same n (sym (t n h) ∙ on) ∙ th n h on;
  }

-- a legal move gives such an exchange
pub exchange_after_legal : (p : Shogi) (from to : ℕ) (promote : Bool) → IsValid p → from < 81 → to < 81 → is_legal p (Board from to promote) ≡ true → (y : SquareExchange) → y.board.now ≡ p.cells → y.square ≡ to → y.stands ≡ piece_moved promote (piece_at p.cells from) → y.side ≡ opponent_of p.side
    → ((n : ℕ) → n < 81 → has_bit y.mine.bits n ≡ (is_piece_of (opponent_of p.side) (piece_at p.cells n) && not (n == to))) → ((n : ℕ) → n < 81 → has_bit y.theirs.bits n ≡ (is_own p n && not (n == from)))
    → HasExchange (after p (Board from to promote)) y
exchange_after_legal p from to promote v hf ht l y b s st sd m t =
    let back : move_of (code_of (Board from to promote)) ≡ Some (Board from to promote) = move_of-board from to promote hf ht in
    let takes = legal_taking p from to promote l in
    let valid : IsValid (after p (Board from to promote)) = subst IsValid (after_code_of p (Board from to promote) back) (after_valid p (code_of (Board from to promote)) v (legal_to_listed p (Board from to promote) back l)) in
    exchange_after p from to promote v.cells_fit hf ht takes.own takes.free valid y s st sd m t (λ n h on. ap (λ (cells : Cells). piece_at cells n) (sym b)) (λ n h on. ap (λ (cells : Cells). piece_at cells n) (sym b))

-- ---- an exchange that a position has

module _ (p : Shogi) (x : SquareExchange) (hs : x.square < 81) (e : HasExchange p x) where
  foe_there : is_piece_of (opponent_of p.side) (piece_at p.cells x.square) ≡ true
  foe_there = ap (is_piece_of (opponent_of p.side)) e.stands ∙ e.foe

  pub some_stands : is_some (piece_at p.cells x.square) ≡ true
  some_stands = some_there (opponent_of p.side) (piece_at p.cells x.square) foe_there

  bare : is_own p x.square ≡ false
  bare = not_own p.side (piece_at p.cells x.square) foe_there

  module _ (occ : ℕ) (o : (n : ℕ) → has_bit occ n ≡ ((has_bit x.mine.bits n || has_bit x.theirs.bits n) || n == x.square)) where
    occupied_is : (n : ℕ) → n < 81 → has_bit occ n ≡ not (is_none (piece_at p.cells n))
    occupied_is n h =
        o n
        ∙ (rw (e.mine n h, e.theirs n h)
        (occupied_bit (is_own p n) (is_piece_of (opponent_of p.side) (piece_at p.cells n)) (n == x.square) (λ same. subst (λ (k : ℕ). is_piece_of (opponent_of p.side) (piece_at p.cells k) ≡ true) (sym (eqb-true n x.square same)) foe_there))
        ∙ somebody p.side (piece_at p.cells n))

    pub seen_mine : IsSeenAs x.board.now x.mine.bits occ p.side p.cells
    seen_mine = record { attackers = e.mine; pieces = occupied_is; same = e.same_mine }

  -- the kings that are left are those of the position
  pub kings_left : (all kings : ℕ) → HasBits all (λ n. is_king x.side (piece_at x.board.now n)) → ((n : ℕ) → has_bit kings n ≡ (has_bit all n && has_bit x.mine.bits n)) → (n : ℕ) → n < 81 → has_bit kings n ≡ is_king p.side (piece_at p.cells n)
  kings_left all kings a k n h = elim (cases_Bool (has_bit x.mine.bits n)) [
    | inl set ↦ (
        let same : piece_at p.cells n ≡ piece_at x.board.now n = e.same_mine n h set in
        k n ∙ (rw (a n h, set, e.side, same) (and_true (is_king p.side (piece_at x.board.now n)))))
    | inr clear ↦ k n ∙ (rw clear (and_false (has_bit all n)) ∙ sym (not_king p.side (piece_at p.cells n) (sym (e.mine n h) ∙ clear)))
  ]
    where
      and_true : (b : Bool) → (b && true) ≡ b
      and_true true = refl
      and_true false = refl

      and_false : (b : Bool) → (b && false) ≡ false
      and_false true = refl
      and_false false = refl

  -- a piece of the side moves to the square
  module _ (from : ℕ) (promote : Bool) (hf : from < 81) (own : is_own p from ≡ true) where
    attackers_left : (n : ℕ) → n < 81 → has_bit x.theirs.bits n ≡ is_piece_of (opponent_of p.side) (piece_at (moved p from x.square promote) n)
    attackers_left n h = e.theirs n h ∙ foes_then p from x.square promote e.valid.cells_fit hf hs own bare n

    same_left : (n : ℕ) → n < 81 → has_bit x.theirs.bits n ≡ true → piece_at (moved p from x.square promote) n ≡ piece_at x.board.now n
    same_left n h on = foe_same p from x.square promote e.valid.cells_fit hf hs own bare n (sym (e.theirs n h) ∙ on) ∙ e.same_theirs n h on

    module _ (occ left : ℕ) (o : (n : ℕ) → has_bit occ n ≡ ((has_bit x.mine.bits n || has_bit x.theirs.bits n) || n == x.square)) (l : (n : ℕ) → has_bit left n ≡ (has_bit occ n && not (n == from))) where
      pieces_left : (n : ℕ) → n < 81 → has_bit left n ≡ not (is_none (piece_at (moved p from x.square promote) n))
      pieces_left n h = elim (cases_eq n x.square) [
        | inl same ↦ grind (arith, l n, o n, there p from x.square promote e.valid.cells_fit hf hs own bare, ne_eqb n from (λ at. apart p from x.square promote e.valid.cells_fit hf hs own bare (sym at ∙ same)), own_some p.side (piece_moved promote (piece_at p.cells from)) (own_moved p from x.square promote e.valid.cells_fit hf hs own bare))
        | inr off ↦ elim (cases_eq n from) [
          | inl same ↦ grind (arith, l n, gone p from x.square promote e.valid.cells_fit hf hs own bare)
          | inr away ↦ grind (arith, l n, occupied_is occ o n h, other p from x.square promote e.valid.cells_fit hf hs own bare n off away, ne_eqb n from away)
        ]
      ]

      pub seen_theirs : IsSeenAs x.board.now x.theirs.bits left (opponent_of p.side) (moved p from x.square promote)
      seen_theirs = record { attackers = attackers_left; pieces = pieces_left; same = same_left }

    -- without a king the side is not in check
    pub kingless_safe : HasNoKing p.cells p.side → leaves_king_safe p (Board from x.square promote) ≡ true
    unfolding in_check
    kingless_safe none = ap not (some_below_no 81 (is_open_king (moved p from x.square promote) p.side) (λ k h. false_from_ne_true _ (λ f. both_ways (is_king p.side (piece_at (moved p from x.square promote) k)) (nowhere k h) (and_parts _ _ f).0)))
      where
        nowhere : (k : ℕ) → k < 81 → is_king p.side (piece_at (moved p from x.square promote) k) ≡ false
        nowhere k h = elim (cases_eq k x.square) [
          | inl same ↦ ap (λ (n : ℕ). is_king p.side (piece_at (moved p from x.square promote) n)) same ∙ (ap (is_king p.side) (there p from x.square promote e.valid.cells_fit hf hs own bare) ∙ (is_king-piece_moved p.side promote (piece_at p.cells from) ∙ none from hf))
          | inr off ↦ elim (cases_eq k from) [
            | inl same ↦ ap (λ (n : ℕ). is_king p.side (piece_at (moved p from x.square promote) n)) same ∙ (ap (is_king p.side) (gone p from x.square promote e.valid.cells_fit hf hs own bare) ∙ no_king_none p.side)
            | inr away ↦ ap (is_king p.side) (other p from x.square promote e.valid.cells_fit hf hs own bare k off away) ∙ none k h
          ]
        ]

    -- its king moves, or another piece
    pub king_safe : (found : Bool) → is_king p.side (piece_at p.cells from) ≡ true → HasNoOtherKing p.cells p.side from → found ≡ is_attacked (moved p from x.square promote) (opponent_of p.side) x.square → not found ≡ leaves_king_safe p (Board from x.square promote)
    king_safe = king_goes p from x.square promote e.valid.cells_fit hf hs own

    pub king_stays_safe : (k : ℕ) (found : Bool) → k < 81 → k ≢ from → is_king p.side (piece_at p.cells k) ≡ true → HasNoOtherKing p.cells p.side k → found ≡ is_attacked (moved p from x.square promote) (opponent_of p.side) k → not found ≡ leaves_king_safe p (Board from x.square promote)
    king_stays_safe k found h away king lone at = king_left p from x.square promote e.valid.cells_fit hf hs own k found h away king lone bare at

  -- a piece that reaches the square takes there if its king is then safe
  pub takes_if_safe : (from : ℕ) → (is_own p from && reaches p.cells from x.square) ≡ true → leaves_king_safe p (taking p x.square from) ≡ is_taker p x.square from
  takes_if_safe from r =
      let two = and_parts (is_own p from) (reaches p.cells from x.square) r in
      sym (legal_board p from x.square (promotes p x.square from)
      ∙ left_out _ (leaves_king_safe p (taking p x.square from))
      (and_from _ _ (and_from _ _ (and_from _ _ (and_from _ _ two.0 (ap not bare)) two.1) (either_way (promotes p x.square from))) (lives from x.square (piece_at p.cells from) (promotes p x.square from) refl)))
    where
      left_out : (a b : Bool) → a ≡ true → (a && b) ≡ b
      left_out true b h = refl
      left_out false b h = absurd (both_ways false refl h)

  -- of pieces that reach the square the first on the board is the first in the position
  pub first_in : (left from : ℕ) → from < 81 → has_bit left from ≡ true → ((n : ℕ) → n < 81 → has_bit left n ≡ true → (is_own p n && reaches p.cells n x.square) ≡ true) → IsFirst x.board.now x.square left from
      → (n : ℕ) → n < 81 → has_bit left n ≡ true → rank_on p.cells x.square from ≤ rank_on p.cells x.square n
  first_in left from hf among reach first n h on = rw (rank_same p.cells x.board.now x.square from (same_own from hf among), rank_same p.cells x.board.now x.square n (same_own n h on)) (first n h on)
    where
      same_own : (k : ℕ) → k < 81 → has_bit left k ≡ true → piece_at p.cells k ≡ piece_at x.board.now k
      same_own k l r = e.same_mine k l (e.mine k l ∙ (and_parts (is_own p k) (reaches p.cells k x.square) (reach k l r)).0)

  -- the first taker belongs to the side, and stands on the board
  module _ (from : ℕ) (t : TakesFirst p x.square from) where
    first_own : is_own p from ≡ true
    first_own = (legal_taking p from x.square (promotes p x.square from) t.legal).own

    pub first_same : piece_at p.cells from ≡ piece_at x.board.now from
    first_same = e.same_mine from t.here (e.mine from t.here ∙ first_own)

    -- once it has taken, the exchange belongs to the other side
    pub after_exchange : (y : SquareExchange) → y.board.now ≡ x.board.now → y.square ≡ x.square → y.stands ≡ piece_moved (promotes p x.square from) (piece_at p.cells from) → y.side ≡ opponent_of p.side
        → y.mine.bits ≡ x.theirs.bits → ((n : ℕ) → has_bit y.theirs.bits n ≡ (has_bit x.mine.bits n && not (n == from))) → HasExchange (after_code p (taking_code p x.square from)) y
    after_exchange y b s st sd m th =
        let at : after_code p (taking_code p x.square from) ≡ after p (taking p x.square from) = after_code_of p (taking p x.square from) (move_of-board from x.square (promotes p x.square from) t.here hs) in
        subst (λ (q : Shogi). HasExchange q y) (sym at)
        (exchange_after p from x.square (promotes p x.square from) e.valid.cells_fit t.here hs first_own bare (subst IsValid at (after_first p x.square from e.valid hs t)) y s st sd
        (λ n h. ap (λ (k : ℕ). has_bit k n) m ∙ e.theirs n h) (λ n h. th n ∙ ap (λ (v : Bool). v && not (n == from)) (e.mine n h))
        (λ n h on. e.same_theirs n h (sym (ap (λ (k : ℕ). has_bit k n) m) ∙ on) ∙ ap (λ (cells : Cells). piece_at cells n) (sym b))
        (λ n h on. e.same_mine n h (and_parts _ _ (sym (th n) ∙ on)).0 ∙ ap (λ (cells : Cells). piece_at cells n) (sym b)))
