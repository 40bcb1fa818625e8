use Rattle.std.proofs.Common.{rules, ◌≡◌, ◌<◌, ℕ, true, false, sym, ap, subst, ◌∙◌}
use Rattle.std.proofs.lemmas.Bool.{and_parts, both_ways}
use Rattle.shogi_core.specs.Bits.{has_bit}
use Rattle.shogi_core.specs.Pieces.{opponent_of}
use Rattle.shogi_core.proofs.BitLaws.{has_bit-and}
use Rattle.shogi_core.proofs.Kings.{king_lone, no_king}
use Rattle.shogi_moves.proofs.SeenAfter.{moved}
use Rattle.static_exchange.specs.Takers.{promotes}
use Rattle.static_exchange.proofs.UnderWay.{kingless_safe, king_safe, king_stays_safe, kings_left, seen_theirs, takes_if_safe}
use Rattle.static_exchange.proofs.square_exchange.SquareExchange.may_take.Goals as goal

pub returns-then-kings-eq0 : goal.returns-then-kings-eq0
returns-then-kings-eq0 c = λ p e r.
    let x = c.args.self.now in
    let own = (and_parts _ _ r).0 in
    let kings = kings_left p x c.reveal_invariant.ensures e c.kings.result.bits c.bitand-kings.result.bits c.kings.ensures.squares (λ n. ap (λ (m : ℕ). has_bit m n) c.bitand-kings.ensures ∙ has_bit-and c.kings.result.bits x.mine.bits n) in
    sym (kingless_safe p x c.reveal_invariant.ensures e c.args.from (promotes p x.square c.args.from) c.reveal_invariant-2.ensures own (no_king p p.side c.bitand-kings.result.bits kings c.if-kings-eq0.true))
    ∙ takes_if_safe p x c.reveal_invariant.ensures e c.args.from r

pub returns-then-has : goal.returns-then-has
returns-then-has c = λ p e r.
    let x = c.args.self.now in
    let own = (and_parts _ _ r).0 in
    let kings = kings_left p x c.reveal_invariant.ensures e c.kings.result.bits c.bitand-kings.result.bits c.kings.ensures.squares (λ n. ap (λ (m : ℕ). has_bit m n) c.bitand-kings.ensures ∙ has_bit-and c.kings.result.bits x.mine.bits n) in
    let set : has_bit c.bitand-kings.result.bits c.args.from ≡ true = search rules in
    let seen = seen_theirs p x c.reveal_invariant.ensures e c.args.from (promotes p x.square c.args.from) c.reveal_invariant-2.ensures own c.occupied.result.bits c.except-left.result.bits c.occupied.ensures c.except-left.ensures in
    king_safe p x c.reveal_invariant.ensures e c.args.from (promotes p x.square c.args.from) c.reveal_invariant-2.ensures own c.is_attacked_among.result
    (sym (kings c.args.from c.reveal_invariant-2.ensures) ∙ set) (king_lone p p.side c.bitand-kings.result.bits c.args.from e.valid c.reveal_invariant-2.ensures kings set)
    (c.is_attacked_among.ensures (opponent_of p.side) (moved p c.args.from x.square (promotes p x.square c.args.from)) seen)
    ∙ takes_if_safe p x c.reveal_invariant.ensures e c.args.from r

pub returns : goal.returns
returns c = λ p e r.
    let x = c.args.self.now in
    let own = (and_parts _ _ r).0 in
    let kings = kings_left p x c.reveal_invariant.ensures e c.kings.result.bits c.bitand-kings.result.bits c.kings.ensures.squares (λ n. ap (λ (m : ℕ). has_bit m n) c.bitand-kings.ensures ∙ has_bit-and c.kings.result.bits x.mine.bits n) in
    let clear : has_bit c.bitand-kings.result.bits c.args.from ≡ false = search rules in
    let set : has_bit c.bitand-kings.result.bits c.of_index-king.result ≡ true = search rules in
    let low : c.of_index-king.result < 81 = search rules in
    let seen = seen_theirs p x c.reveal_invariant.ensures e c.args.from (promotes p x.square c.args.from) c.reveal_invariant-2.ensures own c.occupied.result.bits c.except-left.result.bits c.occupied.ensures c.except-left.ensures in
    king_stays_safe p x c.reveal_invariant.ensures e c.args.from (promotes p x.square c.args.from) c.reveal_invariant-2.ensures own c.of_index-king.result c.is_attacked_among-2.result low
    (λ same. both_ways (has_bit c.bitand-kings.result.bits c.args.from) clear (subst (λ (n : ℕ). has_bit c.bitand-kings.result.bits n ≡ true) same set))
    (sym (kings c.of_index-king.result low) ∙ set) (king_lone p p.side c.bitand-kings.result.bits c.of_index-king.result e.valid low kings set)
    (c.is_attacked_among-2.ensures (opponent_of p.side) (moved p c.args.from x.square (promotes p x.square c.args.from)) seen)
    ∙ takes_if_safe p x c.reveal_invariant.ensures e c.args.from r
