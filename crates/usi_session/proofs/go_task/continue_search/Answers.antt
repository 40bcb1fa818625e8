use Rattle.std.proofs.Common.{◌≡◌, ◌≤◌, ◌+◌, ℕ, Option, Some, None, arith}
use Rattle.std.specs.Prelude.{IfNone, IfSome}
use Rattle.shogi_search.specs.declared.found.Found.{Found}
use Rattle.usi_session.proofs.TellsLaws.{none_called}
use Rattle.usi_session.proofs.go_task.continue_search.Goals as goal

most_found : (result : Option Found) (steps most : ℕ) → IfSome result (λ f. f.steps ≡ steps) → steps ≤ most → IfSome result (λ f. f.steps ≤ most)
most_found None steps most counted h = counted
most_found (Some f) steps most counted h = rw counted h

at_most : (steps left most : ℕ) → steps + left ≤ most → steps ≤ most
at_most steps left most h = omega arith

spent_of : (result : Option Found) (budget left most : ℕ) → IfNone result (left + budget ≤ most) → IfNone result (budget + left ≤ most)
spent_of None budget left most h = let less : left + budget ≤ most = h in omega arith
spent_of (Some f) budget left most h = h

-- a leaf is searched without the memo
pub returns-then-leaf-clause-calls : goal.returns-then-leaf-clause-calls
returns-then-leaf-clause-calls g c = none_called _ _

pub returns-clause-calls : goal.returns-clause-calls
returns-clause-calls g c = record { calls = c.advance-2.ensures.calls.calls; each = c.advance-2.ensures.calls.each }

pub returns-then-leaf-clause-most : goal.returns-then-leaf-clause-most
returns-then-leaf-clause-most g c = most_found c.advance.result c.advance.new.self.steps (c.args.search.now.steps + c.args.budget) c.advance.ensures.finds.counted c.advance.ensures.slice.counts.most

pub returns-then-leaf-clause-made : goal.returns-then-leaf-clause-made
returns-then-leaf-clause-made g c = most_found c.advance.result c.advance.new.self.steps (c.args.search.now.steps + c.args.search.now.left) c.advance.ensures.finds.counted (at_most c.advance.new.self.steps c.advance.new.self.left (c.args.search.now.steps + c.args.search.now.left) c.advance.ensures.slice.fell)

pub returns-clause-most : goal.returns-clause-most
returns-clause-most g c = most_found c.advance-2.result c.advance-2.new.self.steps (c.args.search.now.steps + c.args.budget) c.advance-2.ensures.finds.counted c.advance-2.ensures.slice.counts.most

pub returns-clause-made : goal.returns-clause-made
returns-clause-made g c = most_found c.advance-2.result c.advance-2.new.self.steps (c.args.search.now.steps + c.args.search.now.left) c.advance-2.ensures.finds.counted (at_most c.advance-2.new.self.steps c.advance-2.new.self.left (c.args.search.now.steps + c.args.search.now.left) c.advance-2.ensures.slice.fell)

pub returns-then-leaf-clause-spent : goal.returns-then-leaf-clause-spent
returns-then-leaf-clause-spent g c = spent_of c.advance.result c.args.budget c.advance.new.self.left c.args.search.now.left c.advance.ensures.slice.left

pub returns-then-leaf-clause-unchanged : goal.returns-then-leaf-clause-unchanged
returns-then-leaf-clause-unchanged g c = c.advance.ensures.slice.unchanged

pub returns-clause-spent : goal.returns-clause-spent
returns-clause-spent g c = spent_of c.advance-2.result c.args.budget c.advance-2.new.self.left c.args.search.now.left c.advance-2.ensures.slice.left

pub returns-clause-unchanged : goal.returns-clause-unchanged
returns-clause-unchanged g c = c.advance-2.ensures.slice.unchanged
