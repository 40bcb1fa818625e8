use Rattle.std.proofs.Common.{◌≡◌, ◌<◌, ◌-◌, ◌^◌, ℕ, Some, true, false, ◌∙◌, sym, subst, ap, arith, inl, inr, bit_and, bit_or}
use Rattle.std.proofs.lemmas.Bool.{and_parts, both_ways, not-true, or_cases}
use Rattle.std.proofs.lemmas.Grind.{merely}
use Rattle.shogi_core.specs.declared.piece.Color.{Color}
use Rattle.shogi_core.specs.Bits.{has_bit}
use Rattle.shogi_core.specs.Cell.{is_piece_of}
use Rattle.shogi_core.specs.Movement.{piece_at}
use Rattle.shogi_core.specs.Pieces.{opponent_of}
use Rattle.shogi_core.specs.Position.{Shogi}
use Rattle.shogi_core.proofs.BitLaws.{has_bit-and, has_bit-none, has_bit-or}
use Rattle.shogi_core.proofs.LineBits.{has_bit-not}
use Rattle.shogi_moves.proofs.CheckInfoLaws.{other_side}
use Rattle.shogi_replies.specs.Threats.{IsAttack, IsThreat}
use Rattle.search_nodes.specs.Threats.{AreAttacked, AreThreatsIn}
use Rattle.search_nodes.specs.declared.threat.Threats.{Threats}
use Rattle.search_nodes.proofs.threat.threats_of.Goals as goal

-- an attack on one of the mover's pieces is a threat
capture_at : (p : Shogi) (a t own attacks : ℕ) → ((n : ℕ) → n < 81 → has_bit own n ≡ is_piece_of p.side (piece_at p.cells n)) → ((n : ℕ) → n < 81 → has_bit attacks n ≡ true → IsAttack p a n false) → t < 81 → has_bit (bit_and own attacks) t ≡ true → IsThreat p a t false
capture_at p a t own attacks mine are h e =
    let parts : (has_bit own t ≡ true) × (has_bit attacks t ≡ true) = and_parts _ _ (sym (has_bit-and own attacks t) ∙ e) in
    record { attack = are t h parts.1; target = other_side p.side (piece_at p.cells t) (sym (mine t h) ∙ parts.0) }

-- an attack with promotion on a square without a piece of the attacker's side is a threat
promotion_at : (p : Shogi) (a t theirs attacks : ℕ) → theirs < 2 ^ 128 → ((n : ℕ) → n < 81 → has_bit theirs n ≡ is_piece_of (opponent_of p.side) (piece_at p.cells n)) → ((n : ℕ) → n < 81 → has_bit attacks n ≡ true → IsAttack p a n true) → t < 81 → has_bit (bit_and attacks (2 ^ 128 - 1 - theirs)) t ≡ true → IsThreat p a t true
promotion_at p a t theirs attacks fits are_theirs are h e =
    let parts : (has_bit attacks t ≡ true) × (has_bit (2 ^ 128 - 1 - theirs) t ≡ true) = and_parts _ _ (sym (has_bit-and attacks (2 ^ 128 - 1 - theirs) t) ∙ e) in
    record { attack = are t h parts.0; target = sym (are_theirs t h) ∙ not-true _ (sym (has_bit-not theirs t fits (omega arith)) ∙ parts.1) }

attacked_more : (p : Shogi) (a takes plain : ℕ) → AreAttacked p takes → ((n : ℕ) → n < 81 → has_bit plain n ≡ true → IsAttack p a n false) → AreAttacked p (bit_or takes plain)
attacked_more p a takes plain before more = λ n h e. elim (or_cases (has_bit takes n) (has_bit plain n) (sym (has_bit-or takes plain n) ∙ e)) [
  | inl was ↦ before n h was
  | inr here ↦ merely (a, more n h here)
]

pub attackers-init : goal.attackers-init
attackers-init c = record {
  unpinnable = rw c.iter-left.ensures c.unpinnable_pieces.ensures.unpinnable;
  takes = λ n h e. absurd (both_ways (has_bit 0 n) (has_bit-none n) (rw c.none-takes.ensures at e));
  greatest = λ some. absurd (omega (arith, some, c.none-greatest.ensures));
}

pub with_ends-greatest-requires-clause-ends : goal.with_ends-greatest-requires-clause-ends
with_ends-greatest-requires-clause-ends c = λ t h e. capture_at c.args.p.now c.in-Some.from t c.own-own.result.bits c.attacks_of-attacks.result.non_promoting.bits
    (subst (λ (s : Color). (n : ℕ) → n < 81 → has_bit c.own-own.result.bits n ≡ is_piece_of s (piece_at c.args.p.now.cells n)) c.side.ensures (rw c.as_board-board.ensures at c.own-own.ensures.squares))
    c.attacks_of-attacks.ensures.non_promoting h (rw c.bitand.ensures at e)

pub with_ends-greatest-requires-in-Some-clause-ends :
    goal.with_ends-greatest-requires-in-Some-clause-ends
with_ends-greatest-requires-in-Some-clause-ends c = λ t h e. promotion_at c.args.p.now c.in-Some.from t c.own-theirs.result.bits c.attacks_of-attacks.result.promoting.bits (omega arith)
    (subst (λ (s : Color). (n : ℕ) → n < 81 → has_bit c.own-theirs.result.bits n ≡ is_piece_of s (piece_at c.args.p.now.cells n)) (c.opponent.ensures ∙ ap opponent_of c.side-2.ensures) (rw c.as_board-board.ensures at c.own-theirs.ensures.squares))
    c.attacks_of-attacks.ensures.promoting h (rw c.without.ensures at e)

pub attackers-preserved : goal.attackers-preserved
attackers-preserved c = record {
  unpinnable = λ a h e. c.attackers.invariant.unpinnable a h (and_parts _ _ (sym (c.in-Some.ensures.some.rest a) ∙ e)).0;
  takes = λ n h e. attacked_more c.args.p.now c.in-Some.from c.attackers.takes.bits c.attacks_of-attacks.result.non_promoting.bits c.attackers.invariant.takes c.attacks_of-attacks.ensures.non_promoting n h (rw c.bitor-takes.ensures at e);
  greatest = c.with_ends-greatest-in-Some.ensures;
}

pub returns : goal.returns
returns c = λ threats is. subst (AreThreatsIn c.args.p.now c.args.e) (one _ threats is) (record {
  plain = sym c.resolves_captures.ensures ∙ c.if-resolves_captures.false;
  takes = c.attackers.invariant.takes;
  greatest = c.threat_by.ensures;
})
  where
    one : (x y : Threats) → Some x ≡ Some y → x ≡ y
    one x y h = cc
