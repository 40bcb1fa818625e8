use Rattle.std.proofs.Common.{◌≡◌, ◌∙◌, ◌++◌, ap, [], Some, arith, rules, refl}
use Rattle.shogi_core.specs.Codes.{code_of}
use Rattle.shogi_moves.specs.LegalMoves.{legal_codes, legal_above}
use Rattle.usi_session.specs.declared.go_request.GoRequest.{GoRequest}
use Rattle.usi_session.specs.Answer.{Answer, answer_go}
use Rattle.usi_session.specs.GoTaskView.{rest_of_go}
use Rattle.usi_session.proofs.Infos.{go_infos-none, pv-empty}
use Rattle.usi_session.proofs.RunningGoLaws.{begins-rest, cost_of_depths-all, question_of}
use Rattle.usi_session.proofs.RootLaws.{roots_begun, roots_none}
use Rattle.usi_session.proofs.answer.answer_go.Goals as goal

-- all depths are still to be reported
pub returns-clause-begun : goal.returns-clause-begun
returns-clause-begun g c =
    let go = c.in_ok-go_task.go_task in
    let begins : rest_of_go c.args.state.now go ≡ answer_go c.args.state.now c.args.depth c.args.hold = begins-rest c.args.state.now c.args.depth c.args.hold c.in-Some.first go (omega arith) (search rules) (search rules) (search rules) (search rules) in
    record {
      bytes = ap (λ (a : Answer). c.args.out.now.items ++ a.bytes) begins;
      state_is = ap (λ (a : Answer). a.state) begins;
      load = rw (← cost_of_depths-all (question_of c.args.state.now c.args.depth c.args.hold)) c.in_ok-go_task.ensures.load;
      roots_are = c.in_ok-go_task.ensures.roots ∙ roots_begun c.args.state.now.position c.args.state.now.options.eval c.args.state.now.options.multi_pv c.args.depth (code_of c.in-Some.first) (legal_above c.args.state.now.position (Some c.in-Some.first)) (search rules);
      reports = omega (arith, ap (λ (q : GoRequest). q.depth) c.in_ok-go_task.ensures.done.question_is);
      quiet = refl;
      new_go = (ap (λ (q : GoRequest). q.multi_pv) c.in_ok-go_task.ensures.done.question_is, c.in_ok-go_task.ensures.fresh);
    }

-- if no move is legal, the pv is empty
pub returns-in_default-clause-begun : goal.returns-in_default-clause-begun
returns-in_default-clause-begun g c =
    let none : legal_codes c.args.state.now.position ≡ [] = search rules in
    record {
      bytes = rw (go_infos-none c.args.state.now.position c.args.state.now.options.eval c.args.state.now.options.multi_pv c.args.depth none, pv-empty c.args.state.now.position c.args.state.now.options.eval c.args.depth (omega arith) none) c.in_ok-write_or_hold.ensures.bytes;
      state_is = rw (go_infos-none c.args.state.now.position c.args.state.now.options.eval c.args.state.now.options.multi_pv c.args.depth none, pv-empty c.args.state.now.position c.args.state.now.options.eval c.args.depth (omega arith) none) c.in_ok-write_or_hold.ensures.state_is;
      load = omega arith;
      roots_are = roots_none c.args.state.now.position c.args.state.now.options.eval c.args.state.now.options.multi_pv c.args.depth none;
      reports = omega arith;
      quiet = tt;
      new_go = tt;
    }
