use Rattle.std.proofs.Common.{◌≡◌, ◌∙◌, false, sym, ap}
use Rattle.shogi_core.specs.declared.moves.Move.TheVariants.{Board}
use Rattle.shogi_core.specs.Codes.{code_of, move_of}
use Rattle.shogi_moves.specs.After.{after}
use Rattle.shogi_moves.proofs.LegalLaws.{after_code_of}
use Rattle.shogi_eval.specs.Exchange.{is_quiet}
use Rattle.static_exchange.proofs.Winning.{reprisal_quiet, enough_quiet, reprisal_loud, enough_loud}
use Rattle.static_exchange.proofs.reprisals.best_exchange.Goals as goal

pub returns-then-is_quiet-clause-below : goal.returns-then-is_quiet-clause-below
returns-then-is_quiet-clause-below c = λ _. reprisal_quiet c.args.p.now (code_of c.args.m) (ap (is_quiet c.args.p.now) c.reveal_invariant.ensures.back ∙ (sym c.is_quiet.ensures ∙ c.if-is_quiet.true))

pub returns-then-is_quiet-clause-enough : goal.returns-then-is_quiet-clause-enough
returns-then-is_quiet-clause-enough c = λ h. enough_quiet c.args.p.now (code_of c.args.m) c.args.enough (ap (is_quiet c.args.p.now) c.reveal_invariant.ensures.back ∙ (sym c.is_quiet.ensures ∙ c.if-is_quiet.true)) h

pub returns-in-Board-clause-below : goal.returns-in-Board-clause-below
returns-in-Board-clause-below c = λ h.
    let p = c.args.p.now in
    let loud : is_quiet p (move_of (code_of c.args.m)) ≡ false = ap (is_quiet p) c.reveal_invariant.ensures.back ∙ (sym c.is_quiet.ensures ∙ c.if-is_quiet.false) in
    reprisal_loud p (after p (Board c.in-Board.from c.in-Board.to c.in-Board.promote)) (code_of c.args.m) c.best_won.result loud
    (sym (after_code_of p c.args.m c.reveal_invariant.ensures.back ∙ ap (after p) c.in-Board.is)) (c.best_won.ensures.below h)

pub returns-in-Board-clause-enough : goal.returns-in-Board-clause-enough
returns-in-Board-clause-enough c = λ h.
    let p = c.args.p.now in
    let loud : is_quiet p (move_of (code_of c.args.m)) ≡ false = ap (is_quiet p) c.reveal_invariant.ensures.back ∙ (sym c.is_quiet.ensures ∙ c.if-is_quiet.false) in
    enough_loud p (after p (Board c.in-Board.from c.in-Board.to c.in-Board.promote)) (code_of c.args.m) c.args.enough loud
    (sym (after_code_of p c.args.m c.reveal_invariant.ensures.back ∙ ap (after p) c.in-Board.is)) (c.best_won.ensures.enough h)
