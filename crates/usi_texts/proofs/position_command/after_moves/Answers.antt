use Rattle.std.proofs.Common.{arith, rules, sym, ◌∙◌, ◌≡◌, ◌+◌, length, ap}
use Rattle.shogi_sfen.specs.Words.{words}
use Rattle.usi_texts.proofs.PositionLaws.{after_moves-none, after_moves-next, after_moves-illegal, length-words}
use Rattle.usi_texts.proofs.position_command.after_moves.Goals as goal

pub returns-then-not-make_legal : goal.returns-then-not-make_legal
returns-then-not-make_legal c =
    let all = c.loop-word.invariant.2 in
    sym (all ∙ after_moves-illegal _ _ _ _ _ c.in-Some.ensures.steps.0 (c.make_legal.ensures.if_none (search rules)))

pub overflow_add-number : goal.overflow_add-number
overflow_add-number c =
    let fits = c.loop-word.invariant.3 in
    let n : length (words c.loop-word.rest) ≡ length (words c.next.new.self) + 1 = ap length c.in-Some.ensures.steps.0 ∙ omega arith in
    omega (arith, length-words c.args.text.now)

pub loop-word-preserved : goal.loop-word-preserved
loop-word-preserved c =
    let all = c.loop-word.invariant.2 in
    let fits = c.loop-word.invariant.3 in (
      tt,
      tt,
      all ∙ after_moves-next _ _ _ _ _ _ c.in-Some.ensures.steps.0 (c.make_legal.ensures.made (search rules)),
      let n : length (words c.loop-word.rest) ≡ length (words c.next.new.self) + 1 = ap length c.in-Some.ensures.steps.0 ∙ omega arith in omega arith,
    )

pub returns : goal.returns
returns c = let all = c.loop-word.invariant.2 in sym (all ∙ after_moves-none _ _ _ c.in_default.ensures.steps.0)
