use Rattle.std.proofs.Common.{◌≡◌, ◌<◌, ◌^◌, ◌∙◌, ap, sym, arith, bit_or}
use Rattle.std.proofs.lemmas.Bool.{both_ways, or_parts}
use Rattle.std.proofs.lemmas.Nat.{or_lt}
use Rattle.shogi_core.specs.Pieces.{opponent_of}
use Rattle.shogi_core.proofs.BitLaws.{has_bit-or}
use Rattle.shogi_replies.proofs.FarLaws.{far_move, out_of_all}
use Rattle.shogi_replies.proofs.far.non_checking_pieces.Goals as goal

pub returns-then-promotes : goal.returns-then-promotes
returns-then-promotes c = rw (c.without.ensures, c.bitor-near.ensures, c.bitor.ensures) (λ a n ha hn set r.
    let other : c.opponent.result ≡ opponent_of c.args.p.now.side = c.opponent.ensures ∙ ap opponent_of c.side-side.ensures in
    let seen : bit_or c.sliders.result.bits c.args.king_view.bits < 2 ^ 128 = or_lt 128 c.sliders.result.bits c.args.king_view.bits (omega (arith, c.sliders.result.fits)) (omega arith) in
    let out : _ = out_of_all c.own.result.bits c.sliders.result.bits c.args.king_view.bits c.around_kings.result.bits a ha (or_lt 128 (bit_or c.sliders.result.bits c.args.king_view.bits) c.around_kings.result.bits seen (omega (arith, c.around_kings.result.fits))) set in
    far_move c.args.p.now c.args.king_view.bits c.around_kings.result.bits c.args.promotes a n ha hn (rw (other, c.as_board-board.ensures) at c.around_kings.ensures)
    (sym ((rw (c.side-side.ensures, c.as_board-board.ensures) at c.own.ensures.squares) a ha) ∙ out.0) (sym ((rw c.as_board-board.ensures at c.sliders.ensures.squares) a ha) ∙ out.1) out.2 out.3
    (λ never. absurd (both_ways c.args.promotes never c.if-promotes.true)) r)

pub returns : goal.returns
returns c = rw (c.without-2.ensures, c.bitor-2.ensures, c.bitor-near.ensures, c.bitor.ensures) (λ a n ha hn set r.
    let other : c.opponent.result ≡ opponent_of c.args.p.now.side = c.opponent.ensures ∙ ap opponent_of c.side-side.ensures in
    let seen : bit_or c.sliders.result.bits c.args.king_view.bits < 2 ^ 128 = or_lt 128 c.sliders.result.bits c.args.king_view.bits (omega (arith, c.sliders.result.fits)) (omega arith) in
    let near : bit_or (bit_or c.sliders.result.bits c.args.king_view.bits) c.around_kings.result.bits < 2 ^ 128 = or_lt 128 (bit_or c.sliders.result.bits c.args.king_view.bits) c.around_kings.result.bits seen (omega (arith, c.around_kings.result.fits)) in
    let out : _ = out_of_all c.own-2.result.bits (bit_or c.sliders.result.bits c.args.king_view.bits) c.around_kings.result.bits c.squares_near_zone.result.bits a ha
    (or_lt 128 (bit_or (bit_or c.sliders.result.bits c.args.king_view.bits) c.around_kings.result.bits) c.squares_near_zone.result.bits near (omega (arith, c.squares_near_zone.result.fits))) set in
    let two : _ = or_parts _ _ (sym (has_bit-or c.sliders.result.bits c.args.king_view.bits a) ∙ out.1) in
    far_move c.args.p.now c.args.king_view.bits c.around_kings.result.bits c.args.promotes a n ha hn (rw (other, c.as_board-board.ensures) at c.around_kings.ensures)
    (sym ((rw (c.side-side.ensures, c.as_board-board.ensures) at c.own-2.ensures.squares) a ha) ∙ out.0) (sym ((rw c.as_board-board.ensures at c.sliders.ensures.squares) a ha) ∙ two.0) two.1 out.2
    (λ never. sym ((rw c.side-side.ensures at c.squares_near_zone.ensures.squares) a ha) ∙ out.3) r)
