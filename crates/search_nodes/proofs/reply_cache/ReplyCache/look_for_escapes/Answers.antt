use Rattle.std.proofs.Common.{Option, subst}
use Rattle.std.specs.Prelude.{IfSome}
use Rattle.shogi_core.specs.Position.{Shogi}
use Rattle.shogi_core.specs.declared.squares.Squares.{Squares}
use Rattle.shogi_moves.specs.Escapes.{AreEscapes}
use Rattle.search_nodes.proofs.reply_cache.ReplyCache.look_for_escapes.Goals as goal

pub returns-in-Some-clause-escapes : goal.returns-in-Some-clause-escapes
returns-in-Some-clause-escapes c = λ of. of.1.0 c.in-Some.squares c.in-Some.is

pub returns-clause-escapes : goal.returns-clause-escapes
returns-clause-escapes c = λ of. subst (λ (q : Shogi). AreEscapes q c.escape_squares-squares.result.bits) c.as_position.ensures c.escape_squares-squares.ensures

pub returns-clause-unchanged : goal.returns-clause-unchanged
returns-clause-unchanged c = λ of. (
  of.0,
  (λ squares is. subst (λ (found : Option Squares). IfSome found (λ s. AreEscapes c.args.frame.now.node.position s.bits)) is (subst (λ (q : Shogi). AreEscapes q c.escape_squares-squares.result.bits) c.as_position.ensures c.escape_squares-squares.ensures), of.1.1),
)
