use Rattle.std.proofs.Common.{◌≡◌, ◌<◌, ◌≤◌, ℕ, true, Option, Some, None, inl, inr, sym, subst, ap, ◌∙◌, arith, refl}
use Rattle.std.specs.Option.{ForSome}
use Rattle.std.proofs.Props.{props}
use Rattle.std.proofs.Math.Logic.{∥∥₁_elim}
use Rattle.shogi_core.specs.declared.moves.Move.{Move}
use Rattle.shogi_core.specs.declared.piece.Piece.{Piece}
use Rattle.shogi_core.specs.Bits.{has_bit}
use Rattle.shogi_core.specs.Codes.{move_of, code_of}
use Rattle.shogi_core.specs.Moves.{end_of}
use Rattle.shogi_core.specs.Position.{Shogi}
use Rattle.shogi_core.specs.Validity.{IsValid}
use Rattle.shogi_moves.specs.Legal.{is_legal}
use Rattle.shogi_replies.specs.Threats.{put_by}
use Rattle.shogi_eval.specs.declared.eval.Eval.{Eval}
use Rattle.shogi_eval.specs.Material.{taken_gain}
use Rattle.search_nodes.specs.declared.frame.Frame.{Frame}
use Rattle.search_nodes.specs.declared.threat.Threat.{Threat}
use Rattle.search_nodes.specs.declared.threat.Threats.{Threats}
use Rattle.search_nodes.specs.Threats.{AreThreatsIn, GainsAfter, IsThreatIn, LeavesCaptures, TakesAfter}
use Rattle.search_nodes.proofs.Ahead.{retake_gain, threat_gain}
use Rattle.search_nodes.proofs.AskedMoves.{asked_move}
use Rattle.search_nodes.proofs.asked_move.AskedMove.gain_after.Goals as goal
use Rattle.search_nodes.proofs.asked_move.AskedMove.gain_after.Goals.{then-has, else-has}

retaken : (threats : Threats) (p : Shogi) (e : Eval) (m : Move) (to : ℕ) {gain : ℕ} → AreThreatsIn p e threats → IsValid p → move_of (code_of m) ≡ Some m → is_legal p m ≡ true → end_of m ≡ to → to < 81 → (0 < gain → (has_bit threats.takes.bits to ≡ true) × (gain ≡ taken_gain e (put_by p m))) → 0 < gain → TakesAfter p e m gain
retaken threats p e m to {gain} are v back legal ends h parts some = λ keeps retakes.
    ∥∥₁_elim (are.takes to h ((parts some).0)) (Prim.hlevel props) (λ attacked. retake_gain p e are.plain m to gain v back legal ends attacked ((parts some).1) keeps retakes)

-- a threat that the move leaves may be carried out for its gain
left : (threat : Option Threat) (p : Shogi) (e : Eval) (m : Move) (put : Option Piece) (gain : ℕ) → LeavesCaptures e → ForSome threat (IsThreatIn p e) → IsValid p → move_of (code_of m) ≡ Some m → is_legal p m ≡ true → put_by p m ≡ put → GainsAfter threat put m gain → TakesAfter p e m gain
left None p e m put gain plain are v back legal puts after = absurd after
left (Some threat) p e m put gain plain are v back legal puts after =
    let is : IsThreatIn p e threat = are threat refl in
    subst (TakesAfter p e m) after.0 (threat_gain p e plain m threat.from threat.target threat.gain threat.promote v back legal is.gains.is_threat is.gains.gain_is (after.1 p e is puts))

fits : (threat : Option Threat) (p : Shogi) (e : Eval) (m : Move) (put : Option Piece) (gain : ℕ) → ForSome threat (IsThreatIn p e) → GainsAfter threat put m gain → gain ≤ 4000
fits None p e m put gain are after = absurd after
fits (Some threat) p e m put gain are after = subst (λ (n : ℕ). n ≤ 4000) after.0 (are threat refl).gains.gain_fits

pub returns-clause-gain : goal.returns-clause-gain
returns-clause-gain c = λ some.
    let f : Frame = c.args.self.now.frame.now in
    let m : Move = c.args.self.now.current.now in
    let legal : is_legal f.node.position m ≡ true = (asked_move f m c.args.self.now.asked c.reveal_invariant.ensures.back).legal in
    let are : AreThreatsIn f.node.position f.node.eval c.in-Some.threats = c.args.self.now.found.1.1 c.in-Some.threats c.in-Some.is in
    let puts : c.put-put.result ≡ put_by f.node.position m = rw (c.of.ensures, c.as_position.ensures) at c.put-put.ensures in
    elim c.gain_if_left.ensures [
      | inl least ↦ retaken _ _ _ _ _ are f.valid c.reveal_invariant.ensures.back legal (sym c.to.ensures) (omega arith)
          (λ more. elim c.if-has.branch [
            | then-has w ↦ (sym c.has.ensures ∙ w.if-has.true, least ∙ (w.retake-is ∙ (w.taken_gain-retake.ensures.value ∙ (ap (λ (e : Eval). taken_gain e c.put-put.result) w.eval.ensures ∙ ap (taken_gain f.node.eval) puts))))
            | else-has w ↦ absurd (omega (arith, more, least, w.retake-is))
          ]) some
      | inr after ↦ left c.in-Some.threats.greatest f.node.position f.node.eval m c.put-put.result c.gain_if_left.result are.plain are.greatest f.valid c.reveal_invariant.ensures.back legal (sym puts) after
    ]

pub returns-clause-fits : goal.returns-clause-fits
returns-clause-fits c =
    let f : Frame = c.args.self.now.frame.now in
    let m : Move = c.args.self.now.current.now in
    let are : AreThreatsIn f.node.position f.node.eval c.in-Some.threats = c.args.self.now.found.1.1 c.in-Some.threats c.in-Some.is in
    elim c.gain_if_left.ensures [
      | inl least ↦ elim c.if-has.branch [
        | then-has w ↦ omega (arith, least, w.retake-is, w.taken_gain-retake.ensures.range)
        | else-has w ↦ omega (arith, least, w.retake-is)
      ]
      | inr after ↦ fits c.in-Some.threats.greatest f.node.position f.node.eval m c.put-put.result c.gain_if_left.result are.greatest after
    ]
