use Rattle.std.proofs.Common.{◌≡◌, ◌∙◌, ◌<◌, ℕ, true, false, refl, sym, rules, arith, bit_and}
use Rattle.shogi_core.specs.Bits.{has_bit}
use Rattle.shogi_core.specs.Cell.{is_piece_of}
use Rattle.shogi_core.specs.Movement.{piece_at, reaches}
use Rattle.shogi_moves.proofs.DestinationLaws.{all_destinations, all_ways, none_there, plain_destinations, promoting_destinations, plain_outside, promoting_outside, unmarked, unpinned_kept}
use Rattle.shogi_moves.specs.CheckInfo.{is_check, squares_of}
use Rattle.shogi_moves.proofs.destinations.Markings.all_destinations.Goals as goal

pub returns-then-not-has : goal.returns-then-not-has
returns-then-not-has c =
    let off : has_bit c.args.self.now.marked.bits c.args.from ≡ false = search rules in
    let clear = unmarked (is_check c.args.self.now.known.now.info) (has_bit (squares_of c.args.self.now.known.now.info) c.args.from) (has_bit c.args.self.now.zone.bits c.args.from) (sym (c.args.self.now.marks c.args.from (omega arith)) ∙ off) in
    let reach = rw c.as_board.ensures at c.targets.ensures.squares in
    let among = bit_and c.targets.result.bits c.args.self.now.enterable.bits in
    let apart : bit_and among c.args.self.now.zone.bits ≡ 0 = rw c.bitand-among.ensures at (sym c.bitand.ensures ∙ none_there _ _ c.is_empty.ensures c.if-is_empty.true) in
    let ways : (n : ℕ) → n < 81 → has_bit among n ≡ true → (reaches c.args.self.now.known.now.position.now.cells c.args.from n ≡ true) × (is_piece_of c.args.self.now.known.now.position.now.side (piece_at c.args.self.now.known.now.position.now.cells n) ≡ false) = λ n h. all_ways c.targets.result.bits c.args.self.now.enterable.bits n _ _ (reach n h) (c.args.self.now.enters n h) in
    let kept = λ (n : ℕ) (h : n < 81). unpinned_kept c.args.self.now.known.now.position.now (is_check c.args.self.now.known.now.info) (squares_of c.args.self.now.known.now.info) among c.args.from n c.args.self.now.known.now.right c.reveal_invariant.ensures.cells_fit (omega arith) h c.requires (rw (clear.0, clear.1) refl) in
    record {
      non_promoting = rw c.bitand-among.ensures (all_destinations c.args.self.now.known.now.position.now false c.args.from c.targets.result.bits c.args.self.now.enterable.bits among (omega arith) reach c.args.self.now.enters
          (λ n h. plain_destinations c.args.self.now.known.now.position.now c.args.from n among among among c.reveal_invariant.ensures.cells_fit (omega arith) h c.requires (ways n h) (kept n h)
          (plain_outside c.args.self.now.known.now.position.now.side among c.args.self.now.zone.bits c.args.from n (piece_at c.args.self.now.known.now.position.now.cells c.args.from) c.requires (c.args.self.now.promotes c.args.from (omega arith)) (c.args.self.now.promotes n h) clear.2 apart)));
      promoting = rw c.none.ensures (all_destinations c.args.self.now.known.now.position.now true c.args.from c.targets.result.bits c.args.self.now.enterable.bits 0 (omega arith) reach c.args.self.now.enters
          (λ n h. promoting_destinations c.args.self.now.known.now.position.now c.args.from n among among 0 c.reveal_invariant.ensures.cells_fit (omega arith) h c.requires (ways n h) (kept n h)
          (promoting_outside c.args.self.now.known.now.position.now.side among c.args.self.now.zone.bits c.args.from n (piece_at c.args.self.now.known.now.position.now.cells c.args.from) c.requires (c.args.self.now.promotes c.args.from (omega arith)) (c.args.self.now.promotes n h) clear.2 apart)));
    }

pub legal_destinations-requires : goal.legal_destinations-requires
legal_destinations-requires c = rw c.bitand-among.ensures (λ n h. all_ways c.targets.result.bits c.args.self.now.enterable.bits n _ _ (rw c.as_board.ensures at c.targets.ensures.squares n h) (c.args.self.now.enters n h))

pub returns : goal.returns
returns c = record {
  non_promoting = all_destinations c.args.self.now.known.now.position.now false c.args.from c.targets.result.bits c.args.self.now.enterable.bits c.legal_destinations.result.non_promoting.bits (omega arith) (rw c.as_board.ensures at c.targets.ensures.squares) c.args.self.now.enters (rw c.bitand-among.ensures at c.legal_destinations.ensures.non_promoting);
  promoting = all_destinations c.args.self.now.known.now.position.now true c.args.from c.targets.result.bits c.args.self.now.enterable.bits c.legal_destinations.result.promoting.bits (omega arith) (rw c.as_board.ensures at c.targets.ensures.squares) c.args.self.now.enters (rw c.bitand-among.ensures at c.legal_destinations.ensures.promoting);
}
