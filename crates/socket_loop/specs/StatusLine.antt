-- The line of a status: one JSON object, with names in this order (own choice).
use Rattle.std.specs.Prelude.{ℕ, ◌-◌, ◌++◌, List, codes, decimal}
use Rattle.shogi_eval.specs.declared.eval.Eval.{Eval}
use Rattle.shogi_eval.specs.declared.eval.Eval.TheVariants.{Plain, Hand, Exchange}
use Rattle.socket_loop.specs.declared.status.Status.{Status}

-- the value of `--eval` for an evaluation
abbrev pub eval_word : Eval → List ℕ
eval_word Plain = codes "plain"
eval_word Hand = codes "hand"
eval_word Exchange = codes "exchange"

-- the process, its limits, the setup of sessions, its present state, connections, searches, refusals, failures and
-- bytes; `waiting` counts the sessions that are not searching
abbrev pub status_line : Status → List ℕ
status_line status =
    codes "{\"version\":\"0.1.0\""
    ++ codes ",\"pid\":" ++ decimal status.process.pid
    ++ codes ",\"started\":" ++ decimal status.process.started
    ++ codes ",\"slots\":" ++ decimal status.limits.slots
    ++ codes ",\"entries\":" ++ decimal status.limits.entries
    ++ codes ",\"slice\":" ++ decimal status.limits.slice
    ++ codes ",\"depth\":" ++ decimal status.setup.depth
    ++ codes ",\"max_depth\":" ++ decimal status.setup.max_depth
    ++ codes ",\"lines\":" ++ decimal status.setup.multi_pv
    ++ codes ",\"eval\":\"" ++ eval_word status.setup.eval ++ codes "\""
    ++ codes ",\"used\":" ++ decimal status.used
    ++ codes ",\"searching\":" ++ decimal status.searching
    ++ codes ",\"waiting\":" ++ decimal (status.used - status.searching)
    ++ codes ",\"filled\":" ++ decimal status.filled
    ++ codes ",\"turns\":" ++ decimal status.totals.turns
    ++ codes ",\"accepted\":" ++ decimal status.totals.accepted
    ++ codes ",\"full\":" ++ decimal status.totals.full
    ++ codes ",\"unopened\":" ++ decimal status.totals.unopened
    ++ codes ",\"ended_reading\":" ++ decimal status.totals.ended_reading
    ++ codes ",\"ended_writing\":" ++ decimal status.totals.ended_writing
    ++ codes ",\"finished\":" ++ decimal status.totals.finished
    ++ codes ",\"refused_work\":" ++ decimal status.totals.refused_work
    ++ codes ",\"bestmoves\":" ++ decimal status.totals.bestmoves
    ++ codes ",\"steps\":" ++ decimal status.totals.steps
    ++ codes ",\"probes\":" ++ decimal status.probes
    ++ codes ",\"hits\":" ++ decimal status.hits
    ++ codes ",\"refused_notes\":" ++ decimal status.refused_notes
    ++ codes ",\"faults\":" ++ decimal status.faults
    ++ codes ",\"bytes_in\":" ++ decimal status.received
    ++ codes ",\"bytes_out\":" ++ decimal status.sent
    ++ codes "}\n"
