-- The way through the legal moves by their kinds, and moves that are skipped on it.
use Rattle.std.proofs.Common.{◌≡◌, ℕ, List, [], ◌∷◌, ◌++◌, Bool, true, false, Option, Some, None, refl, sym, ap, subst, ◌∙◌, inl, inr}
use Rattle.std.proofs.lemmas.Bool.{and_parts}
use Rattle.shogi_core.specs.declared.moves.Move.{Move}
use Rattle.shogi_core.specs.Attack.{in_check}
use Rattle.shogi_core.specs.Codes.{move_of}
use Rattle.shogi_core.specs.Pieces.{opponent_of}
use Rattle.shogi_core.specs.Position.{Shogi}
use Rattle.shogi_moves.specs.After.{after_code, after_some}
use Rattle.shogi_moves.specs.Legal.{is_legal_code, is_some_and_legal}
use Rattle.shogi_moves.specs.Sweeps.{matching_drops}
use Rattle.shogi_moves.specs.Walks.{IsNextOf}
use Rattle.shogi_moves.proofs.SweepLaws.{no_captures}
use Rattle.shogi_replies.specs.Passes.{IsGuaranteedMove, IsGuaranteedDrop, IsSkipped, LeavesReply}
use Rattle.shogi_replies.proofs.ReplyLaws.{quiet_legal}
use Rattle.shogi_core.specs.declared.piece.Kind.{Kind}
use Rattle.shogi_replies.specs.declared.move_filter.MoveFilter.{MoveFilter}
use Rattle.mate_search.specs.Stages.{IsUnmating}

-- the other side is to move after a legal move
side_after_some : (p : Shogi) (m : Option Move) → is_some_and_legal p m ≡ true → (after_some p m).side ≡ opponent_of p.side
side_after_some p None e = absurd (cc)
side_after_some p (Some m) e = refl

pub side_after : (p : Shogi) (code : ℕ) → is_legal_code p code ≡ true → (after_code p code).side ≡ opponent_of p.side
unfolding after_code is_legal_code
side_after p code e = side_after_some p (move_of code) e

-- a move that is skipped does not mate
pub move_unmates : (p : Shogi) (escapes code : ℕ) → is_legal_code p code ≡ true → LeavesReply p escapes code → IsUnmating p escapes code
move_unmates p escapes code legal leaves = record {
  answered = quiet_legal (after_code p code) leaves.replied;
  unchecked = λ none. ap (in_check (after_code p code).cells) (side_after p code legal) ∙ leaves.unchecked none;
}

-- each move that is skipped obeys this law
pub skipped_each : (f g : ℕ → Type 0) (codes left : List ℕ) → ((c : ℕ) → f c → g c) → IsSkipped f codes left → IsSkipped g codes left
skipped_each f g [] left h s = s
skipped_each f g (c ∷ codes) left h s = elim s [ inl same ↦ inl same | inr more ↦ inr (h c more.0, skipped_each f g codes left h more.1) ]

-- before other moves as well
pub skipped_before : (f : ℕ → Type 0) (codes left rest : List ℕ) → IsSkipped f codes left → IsSkipped f (codes ++ rest) (left ++ rest)
skipped_before f [] left rest s = subst (λ (xs : List ℕ). IsSkipped f rest (xs ++ rest)) s (none f rest)
  where
    none : (g : ℕ → Type 0) (xs : List ℕ) → IsSkipped g xs xs
    none g [] = refl
    none g (x ∷ xs) = inl refl
skipped_before f (c ∷ codes) left rest s = elim s [
  | inl same ↦ inl (ap (λ xs. xs ++ rest) same)
  | inr more ↦ inr (more.0, skipped_before f codes left rest more.1)
]

pub moves_skipped : (p : Shogi) (capture : Bool) (mf : MoveFilter) (escapes first : ℕ) (codes left : List ℕ) → IsSkipped (IsGuaranteedMove p capture mf escapes first) codes left → IsSkipped (IsUnmating p escapes) codes left
moves_skipped p capture mf escapes first codes left s =
    skipped_each (IsGuaranteedMove p capture mf escapes first) (IsUnmating p escapes) codes left (λ c g. move_unmates p escapes c (and_parts (is_legal_code p c) _ g.matching).0 g.leaves) s

pub drops_skipped : (p : Shogi) (kind : Kind) (squares escapes first : ℕ) (codes left : List ℕ) → IsSkipped (IsGuaranteedDrop p kind squares escapes first) codes left → IsSkipped (IsUnmating p escapes) codes left
drops_skipped p kind squares escapes first codes left s =
    skipped_each (IsGuaranteedDrop p kind squares escapes first) (IsUnmating p escapes) codes left (λ c g. move_unmates p escapes c g.legal g.leaves) s

-- the law for another front of the list
pub skipped_of : (f : ℕ → Type 0) (codes same left : List ℕ) → same ≡ codes → IsSkipped f codes left → IsSkipped f same left
skipped_of f codes same left e s = subst (λ (xs : List ℕ). IsSkipped f xs left) (sym e) s

-- once no capture is left, the other moves are
pub captures_over : (p : Shogi) (codes all rest : List ℕ) → all ≡ codes ++ rest → codes ≡ matching_drops p true → all ≡ rest
captures_over p codes all rest e f = e ∙ ap (λ xs. xs ++ rest) (f ∙ no_captures p)

pub next_of : (found : Option Move) (codes same left : List ℕ) → same ≡ codes → IsNextOf found codes left [] → IsNextOf found same left []
next_of None codes same left e n = e ∙ n
next_of (Some m) codes same left e n = e ∙ n
