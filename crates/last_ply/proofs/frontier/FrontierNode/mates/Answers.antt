use Rattle.std.proofs.lemmas.Bool.{iff_false, not-true}
use Rattle.shogi_core.specs.Codes.{code_of}
use Rattle.shogi_moves.proofs.LegalLaws.{legal_to_listed, is_legal_code_of}
use Rattle.last_ply.proofs.MateLaws.{answered_code}
use Rattle.last_ply.proofs.Composing.{none_left}
use Rattle.std.proofs.Common.{◌∙◌}
use Rattle.last_ply.proofs.frontier.FrontierNode.mates.Goals as goal

pub returns-clause-some : goal.returns-clause-some
returns-clause-some c = λ e. record {
  code = code_of c.args.m.now;
  listed = legal_to_listed _ _ c.reveal_invariant.ensures.back c.requires;
  none = none_left _ (rw (c.as_position-3.ensures, c.play-next.ensures.by_code) at (iff_false c.has_legal.ensures (not-true _ e)));
}

pub returns-clause-mated : goal.returns-clause-mated
returns-clause-mated c = λ e. none_left _ (rw (c.as_position-3.ensures, c.play-next.ensures.by_code) at (iff_false c.has_legal.ensures (not-true _ e)))

pub returns-then-king_takes-clause-if_none : goal.returns-then-king_takes-clause-if_none
returns-then-king_takes-clause-if_none c = λ _. answered_code c.args.self.now.node.now.position c.args.m.now c.reveal_invariant.ensures.back (is_legal_code_of c.args.self.now.node.now.position (code_of c.args.m.now) c.args.m.now c.reveal_invariant.ensures.back ∙ c.requires) (rw c.as_position.ensures at (c.king_takes.ensures.answered c.if-king_takes.true))
