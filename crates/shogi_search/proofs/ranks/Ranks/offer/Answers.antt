use Rattle.std.proofs.Common.{◌≡◌, ◌≤◌, ◌∙◌, ◌++◌, true, [], ◌∷◌, ℕ, ℤ, List, ap, sym, arith, w32, map, take, length}
use Rattle.std.specs.Prelude.{insert}
use Rattle.std.proofs.lemmas.Int.{to_z-of_z}
use Rattle.std.proofs.lemmas.List.{length-take}
use Rattle.shogi_core.specs.declared.moves.Move.{Move}
use Rattle.shogi_core.specs.Codes.{code_of}
use Rattle.shogi_search.specs.Ranked.{Ranking, ranked, insert_pair, are_ranked, coded, with_worth}
use Rattle.shogi_search.proofs.RankedLaws.{top_offered, put_ranked, take_ranked}
use Rattle.shogi_search.proofs.ranks.Ranks.offer.Goals as goal

-- inserting at the index and truncating is inserting by rank and truncating
cut_off : (m : Move) (v w : ℤ) (xs ys more new : List (Move × ℤ)) (i n k : ℕ) → v ≡ w → xs ≡ ys → n ≡ k → more ≡ insert xs i (m, v) → new ≡ take n more → insert ys i (m, v) ≡ insert_pair m v ys → new ≡ take k (insert_pair m w ys)
cut_off m v w xs ys more new i n k e l q a b h =
    b ∙ ap (λ (j : ℕ). take j more) q ∙ ap (take k) (a ∙ ap (λ (zs : List (Move × ℤ)). insert zs i (m, v)) l ∙ h ∙ ap (λ (z : ℤ). insert_pair m z ys) e)

within : (xs new : List (Move × ℤ)) (n : ℕ) → new ≡ take n xs → length new ≤ n
within xs new n e = omega (arith, ap length e, length-take n xs)

pub returns-clause-pairs : goal.returns-clause-pairs
returns-clause-pairs c =
    cut_off c.args.m _ c.args.value c.self.inside.pairs.items c.args.self.now.pairs c.insert.new.self.items c.truncate.new.self.items c.place_of-place.result c.self.inside.lines c.args.self.now.lines (to_z-of_z w32 c.args.value c.ranges.value)
    (ap (λ (r : Ranking). r.pairs) c.self.view_is) (ap (λ (r : Ranking). r.lines) c.self.view_is) c.insert.ensures.items c.truncate.ensures.items c.place_of-place.ensures.place

pub returns-clause-top : goal.returns-clause-top
returns-clause-top c f codes h i e =
    ap (map coded) (returns-clause-pairs c) ∙ top_offered f codes c.args.self.now.lines c.args.m c.args.value c.args.self.now.pairs h i e
    ∙ ap (λ (n : ℕ). map (with_worth f) (take n (ranked f (codes ++ code_of c.args.m ∷ [])))) (sym (ap (λ (r : Ranking). r.lines) c.self.view_is))

pub invariant_of-self : goal.invariant_of-self
invariant_of-self c =
    let before : are_ranked c.args.self.now.pairs ≡ true = ap are_ranked (sym (ap (λ (r : Ranking). r.pairs) c.self.view_is)) ∙ c.self.invariant.3 in (
      c.self.invariant.0,
      c.self.invariant.1,
      within c.insert.new.self.items c.truncate.new.self.items c.self.inside.lines c.truncate.ensures.items,
      ap are_ranked (returns-clause-pairs c) ∙ take_ranked c.args.self.now.lines (insert_pair c.args.m c.args.value c.args.self.now.pairs) (put_ranked c.args.m c.args.value c.args.self.now.pairs before c.requires),
    )
