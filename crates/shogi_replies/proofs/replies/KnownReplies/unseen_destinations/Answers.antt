use Rattle.std.proofs.Common.{◌∙◌, sym, ap, arith, ℕ}
use Rattle.std.proofs.lemmas.Bool.{and_parts}
use Rattle.shogi_core.specs.Bits.{has_bit}
use Rattle.shogi_core.specs.Movement.{piece_at}
use Rattle.shogi_core.specs.Pieces.{opponent_of}
use Rattle.shogi_core.proofs.BitLaws.{has_bit-and, has_bit-none}
use Rattle.shogi_moves.specs.After.{piece_moved}
use Rattle.shogi_replies.proofs.CheckLaws.{unseen_squares}
use Rattle.shogi_replies.proofs.ReplyLaws.{harmless_far, open_far}
use Rattle.shogi_replies.proofs.replies.KnownReplies.unseen_destinations.Goals as goal

pub returns-clause-among : goal.returns-clause-among
returns-clause-among c = rw c.bitand.ensures (λ n e. (and_parts _ _ (sym (has_bit-and c.args.destinations.bits c.open_squares.result.bits n) ∙ e)).0)

pub returns-clause-guaranteed : goal.returns-clause-guaranteed
returns-clause-guaranteed c = rw c.bitand.ensures (λ escapes promote n h e.
    let there : _ = and_parts (has_bit c.args.destinations.bits n) (has_bit c.open_squares.result.bits n) (sym (has_bit-and c.args.destinations.bits c.open_squares.result.bits n) ∙ e) in
    open_far c.args.self.now.position.now escapes c.args.from n promote c.args.self.now.info.king_view.bits c.none.result.bits c.args.self.now.info.free_movers.bits c.reveal_invariant.ensures c.args.self.now.right (omega arith) h
    c.requires.start
    (harmless_far c.args.self.now.position.now.cells (opponent_of c.args.self.now.position.now.side) c.args.self.now.info.king_view.bits (piece_moved promote (piece_at c.args.self.now.position.now.cells c.args.from)) n c.args.self.now.right.sees h (unseen_squares c.args.destinations.bits c.args.self.now.info.king_view.bits n there.0 (ap (λ (m : ℕ). has_bit m n) c.requires.ends ∙ has_bit-none n))) (c.open_squares.ensures n h there.1))
