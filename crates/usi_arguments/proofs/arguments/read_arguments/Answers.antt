use Rattle.std.proofs.Common.{map, ap}
use Rattle.usi_arguments.proofs.Line.{gives_bare, gives_help, gives_replay, gives_stdio, gives_version, line_asked, line_refused, parsed_line}
use Rattle.usi_arguments.proofs.arguments.read_arguments.Goals as goal

pub returns-clause-asked : goal.returns-clause-asked
returns-clause-asked g c =
    line_asked _ c.try_get_matches_from.result c.answer_to.result
    (parsed_line _ (map g.S.AsStr.text c.args.arguments.now) _ c.in_ok-line.ensures
    c.try_get_matches_from.ensures.matches c.try_get_matches_from.ensures.kinds) c.answer_to.ensures.parsed

pub returns-clause-refused : goal.returns-clause-refused
returns-clause-refused g c =
    line_refused _ c.try_get_matches_from.result c.answer_to.result
    (parsed_line _ (map g.S.AsStr.text c.args.arguments.now) _ c.in_ok-line.ensures
    c.try_get_matches_from.ensures.matches c.try_get_matches_from.ensures.kinds) c.answer_to.ensures.parsed

pub returns-clause-bare : goal.returns-clause-bare
returns-clause-bare g c = λ none.
    gives_bare (map g.S.AsStr.text c.args.arguments.now) c.answer_to.result
    (ap (map g.S.AsStr.text) none)
    (returns-clause-asked g c) (returns-clause-refused g c)

pub returns-clause-stdio : goal.returns-clause-stdio
returns-clause-stdio g c = λ is.
    gives_stdio (map g.S.AsStr.text c.args.arguments.now) c.answer_to.result is
    (returns-clause-asked g c) (returns-clause-refused g c)

pub returns-clause-replay : goal.returns-clause-replay
returns-clause-replay g c = λ is.
    gives_replay (map g.S.AsStr.text c.args.arguments.now) c.answer_to.result is
    (returns-clause-asked g c) (returns-clause-refused g c)

pub returns-clause-help : goal.returns-clause-help
returns-clause-help g c = λ is.
    gives_help (map g.S.AsStr.text c.args.arguments.now) c.answer_to.result is
    (returns-clause-asked g c) (returns-clause-refused g c)

pub returns-clause-version : goal.returns-clause-version
returns-clause-version g c = λ is.
    gives_version (map g.S.AsStr.text c.args.arguments.now) c.answer_to.result is
    (returns-clause-asked g c) (returns-clause-refused g c)
