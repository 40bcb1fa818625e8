use Rattle.std.proofs.Common.{◌≡◌, ◌<◌, ◌∙◌, ℕ, ◌-◌, ◌^◌, ap, arith, bit_and, bit_or, false, subst, sym, true}
use Rattle.std.proofs.lemmas.Bool.{and_parts, both_ways, not-true, or_parts}
use Rattle.std.proofs.lemmas.Nat.{or_lt}
use Rattle.shogi_core.specs.Bits.{has_bit}
use Rattle.shogi_core.specs.Cell.{is_slider}
use Rattle.shogi_core.specs.Lines.{are_aligned}
use Rattle.shogi_core.specs.Pieces.{opponent_of}
use Rattle.shogi_core.specs.declared.squares.Squares.{Squares}
use Rattle.shogi_core.specs.Rays.{direction_at, is_on_ray}
use Rattle.shogi_core.proofs.BitLaws.{has_bit-and, has_bit-or}
use Rattle.shogi_core.proofs.LineBits.{has_bit-not}
use Rattle.shogi_replies.specs.ReplyInfo.{is_aligned_with_king}
use Rattle.search_nodes.specs.Threats.{IsOffPath}
use Rattle.search_nodes.proofs.threat.Threat.non_interfering_squares.Goals as goal
use Rattle.search_nodes.proofs.threat.Threat.non_interfering_squares.Goals.{then-sliding, else-sliding}

pub returns : goal.returns
returns c = λ n put h set sliding p e m threat puts ends.
    let way : ℕ = c.args.self.now.way.bits in
    let line : ℕ = c.if-sliding.line.bits in
    let among : has_bit (bit_and c.all.result.bits (2 ^ 128 - 1 - bit_or way line)) n ≡ true = rw (c.without.ensures, c.bitor.ensures) at set in
    let off : (has_bit way n ≡ false) × (has_bit line n ≡ false) = or_parts _ _ (sym (has_bit-or way line n) ∙ not-true _ (sym (has_bit-not (bit_or way line) n (or_lt 128 way line (omega arith) (omega arith)) (omega arith)) ∙ (and_parts _ _ (sym (has_bit-and c.all.result.bits (2 ^ 128 - 1 - bit_or way line) n) ∙ among)).1)) in
    let apart : IsOffPath c.args.self.now.from c.args.self.now.target n = threat.way_is n h off.0 in
    record {
      attacker_stays = λ same. apart.attacker (sym ends ∙ same);
      target_stays = λ same. apart.target (sym ends ∙ same);
      way_stays = subst (λ (x : ℕ). (d : ℕ) → d < 8 → is_on_ray (direction_at d) c.args.self.now.from x ≡ true → is_on_ray (direction_at d) x c.args.self.now.target ≡ false) (sym ends) apart.way;
      unpinned = λ slides lined met. elim c.if-sliding.branch [
        | then-sliding w ↦ subst (λ (x : ℕ). are_aligned c.args.self.now.from x ≡ false) (sym ends) (threat.line_is lined n h (ap (λ (k : Squares). has_bit k.bits n) (sym w.line-is) ∙ off.1) (subst (λ (x : ℕ). is_aligned_with_king p.cells (opponent_of p.side) x ≡ true) ends met))
        | else-sliding w ↦ absurd (both_ways c.args.sliding w.if-sliding.false (sliding (ap is_slider (sym puts) ∙ slides)))
      ];
    }
