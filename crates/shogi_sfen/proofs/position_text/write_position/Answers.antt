use Rattle.std.proofs.Common.{◌∙◌, ◌<◌, ◌++◌, ◌∷◌, [], ℕ, List, ap, sym, subst}
use Rattle.std.specs.Prelude.{Result, Ok}
use Rattle.shogi_core.specs.Position.{Shogi, HandCounts, count_in_hand}
use Rattle.shogi_sfen.specs.declared.position.SfenFault.{SfenFault}
use Rattle.shogi_sfen.specs.Sfen.{end_of}
use Rattle.shogi_sfen.proofs.SpelledPositions.{read-spelled}
use Rattle.shogi_sfen.specs.Written.{position_text, board_text, side_text, hands_text}
use Rattle.shogi_sfen.proofs.WriteLaws.{few_held, assembled}
use Rattle.shogi_sfen.proofs.WordsBack.{written_back}
use Rattle.shogi_sfen.proofs.position_text.write_position.Goals as goal

pub push_hands-requires-clause-small : goal.push_hands-requires-clause-small
push_hands-requires-clause-small c =
    λ color kind. subst (λ (hands : HandCounts). count_in_hand hands color kind < 100) (sym c.hands.ensures) (few_held c.args.position.now c.reveal_invariant.ensures color kind)

pub returns-clause-back : goal.returns-clause-back
returns-clause-back c = λ tail ends. written_back c.args.position.now c.reveal_invariant.ensures tail ends

pub returns-clause-spelled : goal.returns-clause-spelled
returns-clause-spelled c = λ tail ends.
    let text : List ℕ = position_text c.args.position.now ++ tail in
    let r : Result (Shogi × ℕ) SfenFault = Ok (c.args.position.now, end_of text) in
    (read-spelled text r (sym (written_back c.args.position.now c.reveal_invariant.ensures tail ends))).0

pub returns-clause-text : goal.returns-clause-text
unfolding position_text
returns-clause-text c =
    assembled (board_text c.args.position.now.cells) c.push.new.self.items c.push-2.new.self.items c.push-3.new.self.items c.push_hands.new.text.items (side_text c.args.position.now.side) (hands_text c.args.position.now.hands) c.side_letter.result
    (c.push.ensures.items ∙ ap (λ (t : List ℕ). t ++ 32 ∷ []) (c.push_board.ensures.value ∙ ap board_text c.board.ensures))
    c.push-2.ensures.items
    (c.side_letter.ensures ∙ ap side_text c.side.ensures)
    c.push-3.ensures.items
    (c.push_hands.ensures ∙ ap (λ (hands : HandCounts). c.push-3.new.self.items ++ hands_text hands) c.hands.ensures)
