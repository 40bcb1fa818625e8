use Rattle.std.proofs.Common.{rules, arith, refl, sym, ap, ◌∙◌, ◌≡◌, ◌≤◌, ◌-◌, ◌^◌}
use Rattle.std.proofs.lemmas.Bool.{true≢false}
use Rattle.shogi_core.specs.Codes.{code_of}
use Rattle.shogi_moves.specs.LegalMoves.{perft}
use Rattle.shogi_moves.proofs.PerftLaws.{perft_by, perft_none, perft_first, perft_last, perft_none-few, perft_by-left, perft_by-none, fewer_left}
use Rattle.shogi_moves.proofs.count.+perft.Goals as goal
use Rattle.shogi_moves.proofs.count.+perft.Goals.{then-n-eq2, else-n-eq2+in_ok-count}

pub returns-then-n-eq0-clause-count : goal.returns-then-n-eq0-clause-count
returns-then-n-eq0-clause-count t c = sym (perft_none c.args.p.now c.args.n c.if-n-eq0.true)

pub returns-then-n-eq0-clause-if_none : goal.returns-then-n-eq0-clause-if_none
returns-then-n-eq0-clause-if_none t c = ((λ none. absurd (true≢false none)), (λ many. absurd (perft_none-few c.args.p.now c.args.n c.if-n-eq0.true many)))

pub returns-then-n-eq1-clause-count : goal.returns-then-n-eq1-clause-count
returns-then-n-eq1-clause-count t c = c.count_legal.ensures.count ∙ ap (perft c.args.p.now) (sym c.if-n-eq1.true)

pub returns-then-n-eq1-clause-if_none : goal.returns-then-n-eq1-clause-if_none
returns-then-n-eq1-clause-if_none t c =
    let all : c.count_legal.result ≡ perft c.args.p.now c.args.n = c.count_legal.ensures.count ∙ ap (perft c.args.p.now) (sym c.if-n-eq1.true) in
    ((λ none. absurd (true≢false none)), (λ many. absurd (omega (arith, c.count_legal.ensures.range))))

pub moves-init : goal.moves-init
moves-init t c = record {
  whole = perft_first c.args.p.now c.args.n c.new-walk.result.codes c.if-n-eq0.false c.new-walk.ensures.codes;
  same = c.new-walk.ensures.position;
  fits = omega arith;
}

pub moves-smaller : goal.moves-smaller
moves-smaller t c = fewer_left c.moves.walk.codes c.next.new.self.codes _ c.in-Some.ensures.next

-- the move's share joins the count
pub moves-preserved : goal.moves-preserved
moves-preserved t c =
    let step = perft_by-left c.args.p.now (c.args.n - 1) (code_of c.in-Some.m) c.moves.walk.codes c.next.new.self.codes c.advance.new.p c.in-Some.ensures.next c.advance.ensures.by_code in
    let share : c.if-n-eq2.count ≡ perft c.advance.new.p (c.args.n - 1) = elim c.if-n-eq2.branch [
      | then-n-eq2 w ↦ (let one : 1 ≡ c.args.n - 1 = omega (arith, w.if-n-eq2.true) in w.count-is ∙ (w.count_legal-count.ensures.count ∙ ap (perft c.advance.new.p) one))
      | else-n-eq2+in_ok-count w ↦ w.count-is ∙ w.in_ok-count.ensures.count
    ] in
    record {
      whole = omega (arith, c.in_ok-total.ensures, share);
      same = search rules;
      fits = omega (arith, c.in_ok-total.ensures);
    }

-- a single share beyond the greatest number makes the sum exceed it
pub returns-in_err-count-clause-if_none : goal.returns-in_err-count-clause-if_none
returns-in_err-count-clause-if_none t c =
    let step = perft_by-left c.args.p.now (c.args.n - 1) (code_of c.in-Some.m) c.moves.walk.codes c.next.new.self.codes c.advance.new.p c.in-Some.ensures.next c.advance.ensures.by_code in
    let share : 2 ^ 64 ≤ perft c.advance.new.p (c.args.n - 1) = c.in_err-count.ensures.if_none.0 refl in
    ((λ none. omega arith), (λ many. search rules))

pub returns-in_err-total-clause-if_none : goal.returns-in_err-total-clause-if_none
returns-in_err-total-clause-if_none t c =
    let step = perft_by-left c.args.p.now (c.args.n - 1) (code_of c.in-Some.m) c.moves.walk.codes c.next.new.self.codes c.advance.new.p c.in-Some.ensures.next c.advance.ensures.by_code in
    let share : c.if-n-eq2.count ≡ perft c.advance.new.p (c.args.n - 1) = elim c.if-n-eq2.branch [
      | then-n-eq2 w ↦ (let one : 1 ≡ c.args.n - 1 = omega (arith, w.if-n-eq2.true) in w.count-is ∙ (w.count_legal-count.ensures.count ∙ ap (perft c.advance.new.p) one))
      | else-n-eq2+in_ok-count w ↦ w.count-is ∙ w.in_ok-count.ensures.count
    ] in
    ((λ none. omega (arith, c.in_err-total.ensures, share)), (λ many. search rules))

pub returns-clause-if_none : goal.returns-clause-if_none
returns-clause-if_none t c =
    let end : perft_by c.args.p.now (c.args.n - 1) c.moves.walk.codes ≡ 0 = rw c.in_default.ensures.next.0 (perft_by-none c.args.p.now (c.args.n - 1)) in
    ((λ none. absurd (true≢false none)), (λ many. absurd (omega arith)))

pub returns-clause-count : goal.returns-clause-count
returns-clause-count t c = perft_last c.args.p.now c.args.n c.moves.total c.moves.walk.codes c.moves.invariant.whole c.in_default.ensures.next.0
