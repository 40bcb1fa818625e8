use Rattle.std.proofs.Common.{rules}
use Rattle.usi_lines.specs.Seen.{line_of}
use Rattle.usi_session.proofs.WholeReplies.{reply_whole}
use Rattle.usi_session.proofs.session.queue_answer.Goals as goal

pub returns-clause-answer : goal.returns-clause-answer
returns-clause-answer g c =
    record {
      reply = c.answer_line.new.out.items;
      after_reply = search rules;
      begun = search rules;
      whole = reply_whole c.args.state.now c.answer_line.new.state c.answer_line.new.out.items c.in_ok-go_task.go_task (line_of c.args.line) (search rules) (search rules);
      idle = search rules;
    }
