use Rattle.std.proofs.Common.{◌∙◌, ap, arith}
use Rattle.std.proofs.lemmas.Int.{ints}
use Rattle.shogi_core.specs.Cell.{is_slider}
use Rattle.search_nodes.specs.Threats.{AreThreatsIn, IsThreatIn}
use Rattle.search_nodes.specs.declared.frame.Frame.{Frame}
use Rattle.search_nodes.proofs.Rows.{surviving_drops}
use Rattle.search_nodes.proofs.pre_frontier.PreFrontier.futile_squares_under_threat.Goals as goal

pub overflow_cast-threat : goal.overflow_cast-threat
overflow_cast-threat c =
    let is : _ = (c.args.self.now.found.1.1 c.in-Some.threats c.in-Some.is).greatest c.in-Some-greatest.threat c.in-Some-greatest.is in
    omega (arith, is.gains.gain_fits)

pub overflow_sub-threat : goal.overflow_sub-threat
overflow_sub-threat c =
    let is : _ = (c.args.self.now.found.1.1 c.in-Some.threats c.in-Some.is).greatest c.in-Some-greatest.threat c.in-Some-greatest.is in
    omega (arith, ints, is.gains.gain_fits)

pub drop_fails_low-requires : goal.drop_fails_low-requires
drop_fails_low-requires c =
    let f : Frame = c.args.self.now.frame.now in
    let are : AreThreatsIn f.node.position f.node.eval c.in-Some.threats = c.args.self.now.found.1.1 c.in-Some.threats c.in-Some.is in
    let is : IsThreatIn f.node.position f.node.eval c.in-Some-greatest.threat = are.greatest c.in-Some-greatest.threat c.in-Some-greatest.is in
    (omega (arith, ints, is.gains.gain_fits), omega (arith, ints, is.gains.gain_fits))

pub returns-then-drop_fails_low : goal.returns-then-drop_fails_low
returns-then-drop_fails_low c =
    let f : Frame = c.args.self.now.frame.now in
    let are : AreThreatsIn f.node.position f.node.eval c.in-Some.threats = c.args.self.now.found.1.1 c.in-Some.threats c.in-Some.is in
    let is : IsThreatIn f.node.position f.node.eval c.in-Some-greatest.threat = are.greatest c.in-Some-greatest.threat c.in-Some-greatest.is in
    surviving_drops f are.plain c.in-Some-greatest.threat _ c.args.kind c.slides.result c.non_interfering_squares.result.bits c.args.code c.args.self.now.last is (omega (arith, ints, is.gains.gain_fits)) c.non_interfering_squares.ensures
    (λ e. c.slides.ensures ∙ (ap is_slider c.dropped-put.ensures ∙ e)) (c.drop_fails_low.ensures c.if-drop_fails_low.true)
