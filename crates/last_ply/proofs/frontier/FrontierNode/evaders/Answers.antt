use Rattle.std.proofs.Common.{◌∙◌, sym}
use Rattle.std.proofs.lemmas.Bool.{and_parts}
use Rattle.shogi_core.specs.Bits.{has_bit}
use Rattle.shogi_core.proofs.BitLaws.{has_bit-and}
use Rattle.shogi_moves.specs.CheckInfo.{is_check, squares_of}
use Rattle.last_ply.proofs.Answering.{none_without_answer}
use Rattle.last_ply.proofs.frontier.FrontierNode.evaders.Goals as goal

pub returns-clause-within : goal.returns-clause-within
returns-clause-within c = λ n e. (and_parts (has_bit c.args.self.now.own.bits n) _ (sym (has_bit-and c.args.self.now.own.bits c.bitor.result.bits n) ∙ rw c.bitand.ensures at e)).0

pub returns-clause-others : goal.returns-clause-others
returns-clause-others c = rw (c.bitand.ensures, c.bitor.ensures) (none_without_answer c.args.self.now.node.now.position (is_check c.args.self.now.known.info) (squares_of c.args.self.now.known.info) c.args.self.now.own.bits c.kings.result.bits c.squares_reaching_some-reaching.result.bits c.args.self.now.valid (rw c.args.self.now.same at c.args.self.now.known.right) c.requires c.args.self.now.own.fits c.args.self.now.owns
    (rw (c.side.ensures, c.as_board.ensures, c.as_position-p.ensures) at c.kings.ensures.squares) (rw (c.without-answers.ensures, c.squares.ensures) at c.squares_reaching_some-reaching.ensures))
