use Rattle.std.proofs.Common.{◌≡◌, ◌∙◌, ap, arith, [], ◌∷◌, slice_index}
use Rattle.shogi_core.specs.Words.{board_words}
use Rattle.shared_table.specs.Keys.{key_of}
use Rattle.shared_table.specs.Packed.{key_in, words_of}
use Rattle.shared_table.proofs.PackedLaws.{key_back, words_are, words_made}
use Rattle.shared_table.proofs.key.TableKey.of.Goals as goal

-- the words are those of the position, the evaluation and the depth
words_are_those : (c : goal.After-last_word) → slice_index c.words-board.result.now 0 ∷ slice_index c.words-board.result.now 1 ∷ slice_index c.words-board.result.now 2
    ∷ slice_index c.words-board.result.now 3 ∷ slice_index c.words-board.result.now 4 ∷ slice_index c.words-board.result.now 5 ∷ slice_index c.words-board.result.now 6
    ∷ c.hand_word.result ∷ c.hand_word-2.result ∷ c.last_word.result ∷ []
    ≡ words_of (key_of c.args.position.now c.args.eval c.args.depth)
words_are_those c = words_made c.args.position.now c.args.eval c.args.depth _ _ _ (c.words-board.ensures ∙ ap board_words c.as_board.ensures) c.hands-hands.ensures c.side.ensures _ _ _
    c.hand_word.ensures c.hand_word-2.ensures c.last_word.ensures

pub invariant_of-result : goal.invariant_of-result
invariant_of-result c = rw (words_are_those c) (words_are c.args.position.now c.args.eval c.args.depth c.reveal_invariant.ensures (omega (arith, c.ranges.depth)))

pub returns : goal.returns
returns c = ap key_in (words_are_those c) ∙ (key_back c.args.position.now c.args.eval c.args.depth c.reveal_invariant.ensures)
