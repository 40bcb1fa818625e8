use Rattle.std.proofs.Common.{ap, ◌∙◌, Some}
use Rattle.shogi_moves.specs.LegalMoves.{legal_above}
use Rattle.shogi_core.specs.Codes.{code_of}
use Rattle.shogi_moves.specs.Rising.{is_in}
use Rattle.shogi_moves.proofs.LegalLaws.{listed_to_legal}
use Rattle.shogi_search.proofs.RankedLaws.{first_in}
use Rattle.usi_session.proofs.go_task.start_depth.Goals as goal

pub apply-next-requires : goal.apply-next-requires
apply-next-requires c = listed_to_legal c.args.depth.now.go_request.position c.args.depth.now.first c.reveal_invariant.ensures.back (ap (is_in (code_of c.args.depth.now.first)) c.args.depth.now.first_is ∙ first_in (code_of c.args.depth.now.first) (legal_above c.args.depth.now.go_request.position (Some c.args.depth.now.first)))
