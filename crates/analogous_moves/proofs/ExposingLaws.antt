-- A move that exposes its own king still does after a piece was lifted, or one was put off the attacker's path.
use Rattle.std.proofs.Common.{◌≡◌, ◌≢◌, ◌⊎◌, ℕ, ◌<◌, Bool, true, false, Option, None, sym, ap, subst, ◌∙◌, inl, inr, arith, set, length, length-set, get_or-set_same, get_or-set_other}
use Rattle.std.specs.Prelude.{is_none}
use Rattle.std.proofs.lemmas.Bool.{and_from, both_ways, cases_eq}
use Rattle.shogi_core.specs.declared.moves.Move.TheVariants.{Board}
use Rattle.shogi_core.specs.declared.piece.Piece.{Piece}
use Rattle.shogi_core.specs.Attack.{in_check, is_attacked_from, is_open_king}
use Rattle.shogi_core.specs.Bits.{has_bit}
use Rattle.shogi_core.specs.Cell.{is_king, is_piece_of}
use Rattle.shogi_core.specs.Movement.{Cells, cell_reaches, piece_at, reaches}
use Rattle.shogi_core.specs.Pieces.{opponent_of}
use Rattle.shogi_core.specs.Position.{Shogi}
use Rattle.shogi_core.proofs.Below.{some_below_at}
use Rattle.shogi_core.proofs.Discovered.{reach_was}
use Rattle.shogi_moves.specs.After.{cells_after, piece_moved}
use Rattle.shogi_moves.proofs.CheckInfoLaws.{other_side, own_some}
use Rattle.shogi_moves.proofs.MovedPieces.{is_king-piece_moved}
use Rattle.shogi_replies.proofs.ThreatLaws.{reach_kept}
use Rattle.analogous_moves.specs.Analogies.{ExposesOwnKing, lifted, moved}
use Rattle.shogi_replies.proofs.KingGoes.{cleared_none}

-- a larger set may be kept empty instead
pub exposes_more : (q : Shogi) (kept_empty more from n : ℕ) → ((x : ℕ) → has_bit more x ≡ false → has_bit kept_empty x ≡ false) → ExposesOwnKing q kept_empty from n → ExposesOwnKing q more from n
exposes_more q kept_empty more from n within s = record {
  foe = s.foe;
  home = s.home;
  on_board = s.on_board;
  stands = s.stands;
  crown = s.crown;
  attacks = s.attacks;
  way = λ x h out. s.way x h (within x out);
}

-- ---- a piece is lifted

module _ (q : Shogi) (kept_empty a from n : ℕ) (len : length q.cells ≡ 81) (ha : a < 81) (hf : from < 81) (hn : n < 81) (off_from : a ≢ from) (off_end : a ≢ n) (off : has_bit kept_empty a ≡ false) (s : ExposesOwnKing q kept_empty from n) where
  there : piece_at (lifted q a).cells from ≡ piece_at q.cells from
  there = get_or-set_other q.cells a from None None (λ same. off_from (sym same))

  -- other squares keep what stood there
  as_was : (x : ℕ) → x ≢ a → piece_at (moved (lifted q a).cells from n) x ≡ piece_at (moved q.cells from n) x
  as_was x other = elim (cases_eq x n) [
    | inl at ↦ (
        let now : piece_at (moved (lifted q a).cells from n) n ≡ piece_at (lifted q a).cells from = get_or-set_same (set (lifted q a).cells from None) n (piece_at (lifted q a).cells from) None (omega (arith, length-set (lifted q a).cells from None, length-set q.cells a None, len, hn)) in
        let was : piece_at (moved q.cells from n) n ≡ piece_at q.cells from = get_or-set_same (set q.cells from None) n (piece_at q.cells from) None (omega (arith, length-set q.cells from None, len, hn)) in
        subst (λ (y : ℕ). piece_at (moved (lifted q a).cells from n) y ≡ piece_at (moved q.cells from n) y) (sym at) (now ∙ (there ∙ sym was)))
    | inr beside ↦ (
        let now : piece_at (moved (lifted q a).cells from n) x ≡ piece_at (set (lifted q a).cells from None) x = get_or-set_other (set (lifted q a).cells from None) n x (piece_at (lifted q a).cells from) None beside in
        let was : piece_at (moved q.cells from n) x ≡ piece_at (set q.cells from None) x = get_or-set_other (set q.cells from None) n x (piece_at q.cells from) None beside in
        now ∙ (left x other ∙ sym was))
  ]
    where
      left : (x : ℕ) → x ≢ a → piece_at (set (lifted q a).cells from None) x ≡ piece_at (set q.cells from None) x
      left x other = elim (cases_eq x from) [
        | inl at ↦ subst (λ (y : ℕ). piece_at (set (lifted q a).cells from None) y ≡ piece_at (set q.cells from None) y) (sym at) (cleared_none (lifted q a).cells from ∙ sym (cleared_none q.cells from))
        | inr beside ↦ get_or-set_other (lifted q a).cells from x None None beside ∙ (get_or-set_other q.cells a x None None other ∙ sym (get_or-set_other q.cells from x None None beside))
      ]

  gone : piece_at (moved (lifted q a).cells from n) a ≡ None
  gone = get_or-set_other (set (lifted q a).cells from None) n a (piece_at (lifted q a).cells from) None off_end ∙ (get_or-set_other (lifted q a).cells from a None None off_from ∙ cleared_none q.cells a)

  opened : (x : ℕ) → is_none (piece_at (moved q.cells from n) x) ≡ true → (is_none (piece_at (moved (lifted q a).cells from n) x) ≡ true) ⊎ ⊥
  opened x e = elim (cases_eq x a) [
    | inl at ↦ inl (subst (λ (y : ℕ). is_none (piece_at (moved (lifted q a).cells from n) y) ≡ true) (sym at) (ap is_none gone))
    | inr other ↦ inl (ap is_none (as_was x other) ∙ e)
  ]

  foe_off : s.foe ≢ a
  foe_off same = (s.way a ha off).0.0 (sym same)

  home_off : s.home ≢ a
  home_off same = (s.way a ha off).0.1 (sym same)

  pub exposes_lifted : ExposesOwnKing (lifted q a) kept_empty from n
  unfolding reaches
  exposes_lifted = record {
    foe = s.foe;
    home = s.home;
    on_board = s.on_board;
    stands = ap (is_piece_of (opponent_of q.side)) (as_was s.foe foe_off) ∙ s.stands;
    crown = ap (is_king q.side) (as_was s.home home_off) ∙ s.crown;
    attacks = ap (λ (cell : Option Piece). cell_reaches (moved (lifted q a).cells from n) cell s.foe s.home) (as_was s.foe foe_off)
        ∙ reach_was (moved (lifted q a).cells from n) (moved q.cells from n) (λ x. ⊥) opened (piece_at (moved q.cells from n) s.foe) s.foe s.home (λ x left. absurd left) s.attacks;
    way = s.way;
  }

-- ---- a piece is put on a square

module _ (q : Shogi) (arrived : Option Piece) (kept_empty b from n : ℕ) (promote : Bool) (len : length q.cells ≡ 81) (hb : b < 81) (hf : from < 81) (hn : n < 81) (own : is_piece_of q.side (piece_at q.cells from) ≡ true) (off_from : b ≢ from) (off_end : b ≢ n) (off : has_bit kept_empty b ≡ false) (s : ExposesOwnKing q kept_empty from n) where
  abbrev now : Cells
  now = cells_after (set q.cells b arrived) q.side (Board from n promote)

  fits : length (set (set q.cells b arrived) from None) ≡ 81
  fits = length-set (set q.cells b arrived) from None ∙ (length-set q.cells b arrived ∙ len)

  stood : piece_at (set q.cells b arrived) from ≡ piece_at q.cells from
  stood = get_or-set_other q.cells b from arrived None (λ same. off_from (sym same))

  end_now : piece_at now n ≡ piece_moved promote (piece_at q.cells from)
  end_now = get_or-set_same (set (set q.cells b arrived) from None) n (piece_moved promote (piece_at (set q.cells b arrived) from)) None (omega (arith, fits, hn)) ∙ ap (piece_moved promote) stood

  end_was : piece_at (moved q.cells from n) n ≡ piece_at q.cells from
  end_was = get_or-set_same (set q.cells from None) n (piece_at q.cells from) None (omega (arith, length-set q.cells from None, len, hn))

  elsewhere : (x : ℕ) → x ≢ b → x ≢ n → piece_at now x ≡ piece_at (moved q.cells from n) x
  elsewhere x other beside =
      get_or-set_other (set (set q.cells b arrived) from None) n x (piece_moved promote (piece_at (set q.cells b arrived) from)) None beside
      ∙ (left ∙ sym (get_or-set_other (set q.cells from None) n x (piece_at q.cells from) None beside))
    where
      left : piece_at (set (set q.cells b arrived) from None) x ≡ piece_at (set q.cells from None) x
      left = elim (cases_eq x from) [
        | inl at ↦ subst (λ (y : ℕ). piece_at (set (set q.cells b arrived) from None) y ≡ piece_at (set q.cells from None) y) (sym at) (cleared_none (set q.cells b arrived) from ∙ sym (cleared_none q.cells from))
        | inr apart ↦ get_or-set_other (set q.cells b arrived) from x None None apart ∙ (get_or-set_other q.cells b x arrived None other ∙ sym (get_or-set_other q.cells from x None None apart))
      ]

  foe_beside : s.foe ≢ n
  foe_beside at = both_ways (is_piece_of (opponent_of q.side) (piece_at q.cells from)) (other_side q.side (piece_at q.cells from) own) (ap (is_piece_of (opponent_of q.side)) (sym end_was) ∙ subst (λ (x : ℕ). is_piece_of (opponent_of q.side) (piece_at (moved q.cells from n) x) ≡ true) at s.stands)

  foe_apart : s.foe ≢ b
  foe_apart same = (s.way b hb off).0.0 (sym same)

  home_apart : s.home ≢ b
  home_apart same = (s.way b hb off).0.1 (sym same)

  crowned_now : is_king q.side (piece_at now s.home) ≡ true
  crowned_now = elim (cases_eq s.home n) [
    | inl at ↦ subst (λ (x : ℕ). is_king q.side (piece_at now x) ≡ true) (sym at)
        (ap (is_king q.side) end_now ∙ (is_king-piece_moved q.side promote (piece_at q.cells from) ∙ (ap (is_king q.side) (sym end_was) ∙ subst (λ (x : ℕ). is_king q.side (piece_at (moved q.cells from n) x) ≡ true) at s.crown)))
    | inr beside ↦ ap (is_king q.side) (elsewhere s.home home_apart beside) ∙ s.crown
  ]

  empty : (x : ℕ) → is_none (piece_at (moved q.cells from n) x) ≡ true → x ≢ b → is_none (piece_at now x) ≡ true
  empty x e other = elim (cases_eq x n) [
    | inl at ↦ absurd (both_ways (is_none (piece_at q.cells from)) (own_some q.side (piece_at q.cells from) own) (ap is_none (sym end_was) ∙ subst (λ (y : ℕ). is_none (piece_at (moved q.cells from n) y) ≡ true) at e))
    | inr beside ↦ ap is_none (elsewhere x other beside) ∙ e
  ]

  -- the move is still illegal
  pub still_exposes : in_check now q.side ≡ true
  unfolding in_check reaches
  still_exposes =
      let foe_is : piece_at now s.foe ≡ piece_at (moved q.cells from n) s.foe = elsewhere s.foe foe_apart foe_beside in
      let reach : reaches now s.foe s.home ≡ true = ap (λ (cell : Option Piece). cell_reaches now cell s.foe s.home) foe_is ∙ reach_kept (moved q.cells from n) now b empty (piece_at (moved q.cells from n) s.foe) s.foe s.home s.attacks (s.way b hb off).1 in
      some_below_at 81 (is_open_king now q.side) s.home s.on_board.1 (and_from _ _ crowned_now (some_below_at 81 (is_attacked_from now (opponent_of q.side) s.home) s.foe s.on_board.0 (and_from _ _ (ap (is_piece_of (opponent_of q.side)) foe_is ∙ s.stands) reach)))
