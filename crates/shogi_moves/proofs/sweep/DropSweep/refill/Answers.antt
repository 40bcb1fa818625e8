use Rattle.std.proofs.Common.{◌≡◌, ◌+◌, ◌*◌, arith, refl, subst, ℕ}
use Rattle.shogi_core.specs.declared.moves.TheConstants.{FIRST_DROP}
use Rattle.shogi_core.specs.Pieces.{kind_number}
use Rattle.shogi_moves.specs.Sweeps.{KeepsDrop}
use Rattle.shogi_moves.proofs.DestinationLaws.{none_there, some_there}
use Rattle.shogi_moves.proofs.SweepLaws.{keeps_kind, no_drop_left, no_drop_more, no_drop_to, no_drop_destination}
use Rattle.shogi_moves.proofs.sweep.DropSweep.refill.Goals as goal

pub kinds-init : goal.kinds-init
kinds-init c = record {
  kept = c.requires.consistent;
  same = refl;
  none = no_drop_left c.args.p.now c.args.self.now.kind c.args.self.now.code (subst (λ (x : ℕ). KeepsDrop c.args.p.now c.args.self.now.kind c.args.self.now.code x) c.requires.if_none c.requires.consistent.destinations);
  past = c.requires.consistent.destinations.high;
}

pub returns-then-not-is_empty-clause-some : goal.returns-then-not-is_empty-clause-some
returns-then-not-is_empty-clause-some c = λ _. (
    let next : kind_number c.in-Some.next ≡ kind_number c.kinds.kind + 1 = c.in-Some.ensures in
    (some_there _ _ c.is_empty.ensures c.if-not-is_empty.true, rw c.number.ensures.number (no_drop_to c.args.p.now c.kinds.kind c.in-Some.next c.args.self.now.code c.kinds.invariant.none next c.kinds.invariant.past)))

pub kinds-preserved : goal.kinds-preserved
kinds-preserved c =
    let next : kind_number c.in-Some.next ≡ kind_number c.kinds.kind + 1 = c.in-Some.ensures in
    let none : c.legal-destinations.result.bits ≡ 0 = none_there _ _ c.is_empty.ensures c.if-not-is_empty.false in
    let here : KeepsDrop c.args.p.now c.in-Some.next (FIRST_DROP + kind_number c.in-Some.next * 81) c.legal-destinations.result.bits = keeps_kind c.args.p.now c.in-Some.next c.legal-destinations.result.bits c.legal-destinations.ensures.squares in
    record {
      kept = c.kinds.invariant.kept;
      same = c.kinds.invariant.same;
      none = no_drop_more c.args.p.now c.kinds.kind c.in-Some.next c.args.self.now.code c.kinds.invariant.none next (subst (λ (x : ℕ). KeepsDrop c.args.p.now c.in-Some.next (FIRST_DROP + kind_number c.in-Some.next * 81) x) none here);
      past = omega (arith, c.kinds.invariant.past);
    }

pub returns-clause-end : goal.returns-clause-end
returns-clause-end c = λ _. (
    let last : kind_number c.kinds.kind ≡ 6 = c.in_default.ensures in
    no_drop_destination c.args.p.now c.kinds.kind c.args.self.now.code c.kinds.invariant.none last c.kinds.invariant.past)
