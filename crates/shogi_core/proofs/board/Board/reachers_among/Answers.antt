use Rattle.std.proofs.Common.{rules, sym, ap, ◌∙◌, ◌≡◌, ◌<◌, Bool}
use Rattle.std.specs.Prelude.{◌||◌}
use Rattle.shogi_core.specs.Attack.{is_sniper, is_step_from}
use Rattle.shogi_core.specs.Bits.{has_bit, HasBits}
use Rattle.shogi_core.proofs.BitLaws.{has_bit-or}
use Rattle.shogi_core.proofs.SliderAttacks.{attacked_from, no_slide_from, sniper_own, snipers_alike, step_alike}
use Rattle.shogi_core.proofs.board.Board.reachers_among.Goals as goal

pub returns-then-lined-eq0 : goal.returns-then-lined-eq0
returns-then-lined-eq0 c = λ color seen shows n l.
    let low : c.args.square < 81 = search rules in
    let snipers : HasBits c.bitand-lined.result.bits (is_sniper seen color c.args.square) = λ n l. rw (c.bitand-lined.ensures, c.bitand.ensures) (snipers_alike c.args.self.now seen color c.args.among.bits shows.attackers shows.same c.args.square c.sliders.result.bits c.line_mask.result.bits n l (c.sliders.ensures.squares n l) (c.line_mask.ensures.squares n l)) in
    c.steppers_among-near.ensures n l ∙ (step_alike c.args.self.now seen color c.args.among.bits shows.attackers shows.same c.args.square n l
    ∙ no_slide_from seen color c.args.square low c.bitand-lined.result.bits snipers c.if-lined-eq0.true n l)

pub returns : goal.returns
returns c = λ color seen shows n l.
    let low : c.args.square < 81 = search rules in
    let snipers : HasBits c.bitand-lined.result.bits (is_sniper seen color c.args.square) = λ n l. rw (c.bitand-lined.ensures, c.bitand.ensures) (snipers_alike c.args.self.now seen color c.args.among.bits shows.attackers shows.same c.args.square c.sliders.result.bits c.line_mask.result.bits n l (c.sliders.ensures.squares n l) (c.line_mask.ensures.squares n l)) in
    let slid = c.sliders_among.ensures color seen (record {
      snipers_on = snipers;
      pieces = shows.pieces;
      same = λ n l e. shows.same n l (shows.attackers n l ∙ sniper_own seen color c.args.square n (sym (snipers n l) ∙ e));
    }) n l in
    ap (λ m. has_bit m n) c.bitor.ensures ∙ (has_bit-or c.steppers_among-near.result.bits c.sliders_among.result.bits n
    ∙ (ap (λ (b : Bool). b || has_bit c.sliders_among.result.bits n) (c.steppers_among-near.ensures n l ∙ step_alike c.args.self.now seen color c.args.among.bits shows.attackers shows.same c.args.square n l)
    ∙ (ap (λ (b : Bool). is_step_from seen color c.args.square n || b) slid
    ∙ attacked_from seen color c.args.square low n l)))
