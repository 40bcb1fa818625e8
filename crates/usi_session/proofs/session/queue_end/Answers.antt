use Rattle.std.proofs.Common.{◌≡◌, sym, rules}
use Rattle.usi_session.specs.GoTaskView.{rest_of_go}
use Rattle.usi_session.proofs.Steps.{ends_bytes, ends-state}
use Rattle.usi_session.proofs.WholeReplies.{end_whole}
use Rattle.usi_session.proofs.session.queue_end.Goals as goal

pub returns-clause-end : goal.returns-clause-end
returns-clause-end g c =
    let s = c.args.state.now in
    let go = c.args.go_task.now in
    let says : c.write_or_hold.new.out.items ≡ (rest_of_go s go).bytes = ends_bytes s c.report.new.out.items c.write_or_hold.new.out.items go c.bestmove.result c.requires.last (search rules) (search rules) (search rules) in
    record {
      after_end = rw (← says) (search rules);
      state_is = sym (ends-state s c.write_or_hold.new.state go c.bestmove.result (search rules) (search rules));
      whole = rw (← says) (end_whole s c.report.new.out.items c.write_or_hold.new.out.items c.bestmove.result (search rules) (search rules));
    }
