use Rattle.std.proofs.Common.{◌≡◌, ◌∙◌, ap, arith, subst, sym, true}
use Rattle.std.specs.Prelude.{◌==◌, not}
use Rattle.std.proofs.lemmas.Bool.{and_parts, both_ways, eq-eqb}
use Rattle.std.proofs.lemmas.Int.{ints}
use Rattle.shogi_core.specs.Bits.{has_bit}
use Rattle.shogi_moves.specs.Escapes.{AreEscapes}
use Rattle.search_nodes.specs.Frames.{MovesLeave}
use Rattle.search_nodes.specs.Threats.{AreThreatsIn, IsThreatIn}
use Rattle.search_nodes.specs.declared.frame.Frame.{Frame}
use Rattle.search_nodes.proofs.Rows.{no_escapes, threat_leaves}
use Rattle.search_nodes.proofs.pre_frontier.PreFrontier.quiets_under_threat.Goals as goal

pub overflow_cast-threat : goal.overflow_cast-threat
overflow_cast-threat c =
    let is : _ = (c.args.self.now.found.1.1 c.in-Some.threats c.in-Some.is).greatest c.in-Some-greatest.threat c.in-Some-greatest.is in
    omega (arith, is.gains.gain_fits)

pub overflow_sub-threat : goal.overflow_sub-threat
overflow_sub-threat c =
    let is : _ = (c.args.self.now.found.1.1 c.in-Some.threats c.in-Some.is).greatest c.in-Some-greatest.threat c.in-Some-greatest.is in
    omega (arith, ints, is.gains.gain_fits)

pub futile_filter-requires : goal.futile_filter-requires
futile_filter-requires c =
    let f : Frame = c.args.self.now.frame.now in
    let are : AreThreatsIn f.node.position f.node.eval c.in-Some.threats = c.args.self.now.found.1.1 c.in-Some.threats c.in-Some.is in
    let is : IsThreatIn f.node.position f.node.eval c.in-Some-greatest.threat = are.greatest c.in-Some-greatest.threat c.in-Some-greatest.is in
    (omega (arith, ints, is.gains.gain_fits), omega (arith, ints, is.gains.gain_fits))

pub returns : goal.returns
returns c =
    let f : Frame = c.args.self.now.frame.now in
    let are : AreThreatsIn f.node.position f.node.eval c.in-Some.threats = c.args.self.now.found.1.1 c.in-Some.threats c.in-Some.is in
    let is : IsThreatIn f.node.position f.node.eval c.in-Some-greatest.threat = are.greatest c.in-Some-greatest.threat c.in-Some-greatest.is in
    c.futile_filter.ensures
    (subst (MovesLeave f _ c.except-pieces.result.bits c.non_interfering_squares-aside.result.bits) (sym c.none.ensures) (threat_leaves f are.plain c.in-Some-greatest.threat _ c.except-pieces.result.bits c.non_interfering_squares-aside.result.bits is (omega (arith, ints, is.gains.gain_fits))
    (λ n set same. (
    let parts : (has_bit c.all.result.bits n ≡ true) × (not (n == c.in-Some-greatest.threat.target) ≡ true) = and_parts _ _ (sym (c.except-pieces.ensures n) ∙ set) in
    both_ways _ (ap not (eq-eqb n c.in-Some-greatest.threat.target same)) parts.1))
    c.non_interfering_squares-aside.ensures))
    (subst (AreEscapes f.node.position) (sym c.none.ensures) (no_escapes f.node.position))
