use Rattle.std.proofs.Common.{◌≡◌, ◌∙◌, ℕ, ℤ, List, ap, sym, refl, subst, arith, w32}
use Rattle.std.specs.Prelude.{insert}
use Rattle.std.proofs.lemmas.Int.{to_z-of_z}
use Rattle.shogi_core.specs.declared.moves.Move.{Move}
use Rattle.shogi_search.specs.Ranked.{Ranking, insert_pair}
use Rattle.shogi_search.proofs.RankedLaws.{place_next, place_here, place_last}
use Rattle.shogi_search.proofs.ranks.Ranks.place_of.Goals as goal

-- an index for equal lists, values and places
of_equal : (m : Move) (v w : ℤ) (xs ys : List (Move × ℤ)) (i j : ℕ) → i ≡ j → v ≡ w → xs ≡ ys → insert xs i (m, v) ≡ insert_pair m v xs → insert ys j (m, w) ≡ insert_pair m w ys
of_equal m v w xs ys i j at e l h =
    subst (λ (n : ℕ). insert ys n (m, w) ≡ insert_pair m w ys) at (subst (λ (zs : List (Move × ℤ)). insert zs i (m, w) ≡ insert_pair m w zs) l (subst (λ (z : ℤ). insert xs i (m, z) ≡ insert_pair m z xs) e h))

pub loop-place-preserved : goal.loop-place-preserved
loop-place-preserved c = place_next _ _ _ _ c.index-pairs-place.result c.loop-place-test.true c.index-pairs-place.is (sym c.is_better.ensures ∙ c.if-is_better.false) c.loop-place.invariant

pub returns-then-is_better-clause-place : goal.returns-then-is_better-clause-place
returns-then-is_better-clause-place c =
    of_equal c.args.m.now _ c.args.value _ c.args.self.now.pairs c.loop-place.place _ refl (to_z-of_z w32 c.args.value c.ranges.value) (c.as_slice-pairs.ensures.value ∙ ap (λ (r : Ranking). r.pairs) c.self.view_is)
    (place_here _ _ _ _ c.index-pairs-place.result c.loop-place-test.true c.index-pairs-place.is (sym c.is_better.ensures ∙ c.if-is_better.true) c.loop-place.invariant)

pub returns-clause-place : goal.returns-clause-place
returns-clause-place c =
    of_equal c.args.m.now _ c.args.value _ c.args.self.now.pairs c.loop-place.place _ (omega (arith, c.loop-place.auto.place-end, c.loop-place-test.false)) (to_z-of_z w32 c.args.value c.ranges.value)
    (c.as_slice-pairs.ensures.value ∙ ap (λ (r : Ranking). r.pairs) c.self.view_is) (place_last _ _ _ _ c.loop-place-test.false c.loop-place.invariant)
