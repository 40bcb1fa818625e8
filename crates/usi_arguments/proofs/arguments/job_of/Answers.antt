use Rattle.std.proofs.Common.{rules}
use Rattle.clap.specs.Words.{subcommand_rows_of}
use Rattle.usi_arguments.specs.Answers.{NamesNoEvaluation}
use Rattle.usi_arguments.proofs.Line.{refused_evaluation}
use Rattle.usi_arguments.proofs.arguments.job_of.Goals as goal

pub returns-then-not-knows_evaluation-clause-job : goal.returns-then-not-knows_evaluation-clause-job
returns-then-not-knows_evaluation-clause-job c =
    let none : NamesNoEvaluation (subcommand_rows_of c.args.matches.now) = c.knows_evaluation.ensures.no (search rules) in
    refused_evaluation (subcommand_rows_of c.args.matches.now) c.refused_with.result none c.refused_with.ensures
