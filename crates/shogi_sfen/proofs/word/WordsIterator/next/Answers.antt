use Rattle.std.proofs.Common.{◌≡◌, refl, ◌<◌, ◌∙◌, ap, sym, subst, rules, ℕ, List, length}
use Rattle.shogi_sfen.specs.Words.{words}
use Rattle.shogi_sfen.proofs.WordLaws.{next_word, no_word, IsNextWord}
use Rattle.shogi_sfen.proofs.word.WordsIterator.next.Goals as goal

pub returns-then-is_empty-clause-steps : goal.returns-then-is_empty-clause-steps
returns-then-is_empty-clause-steps c =
    let none : length c.split_at.result.1.now ≡ 0 = search rules in
    let e = ap words (sym c.self.view_is) ∙ no_word c.self.inside.text.now c.split_at.result.1.now c.blanks_len.result c.blanks_len.ensures.value c.split_at.ensures.back none in
    (e, refl)

cut : (c : goal.After-rest-2-1) → IsNextWord c.args.self.now c.split_at-2.result.0.now c.split_at-2.result.1.now
cut c =
    let some : 0 < length c.split_at.result.1.now = search rules in
    subst (λ (text : List ℕ). IsNextWord text c.split_at-2.result.0.now c.split_at-2.result.1.now) c.self.view_is
    (next_word c.self.inside.text.now c.split_at.result.1.now c.split_at-2.result.0.now c.split_at-2.result.1.now c.blanks_len.result c.word_len.result c.blanks_len.ensures.value c.split_at.ensures.back some c.word_len.ensures.value c.split_at-2.ensures.front c.split_at-2.ensures.back)

pub returns-clause-steps : goal.returns-clause-steps
returns-clause-steps c = ((cut c).first, (cut c).after)

pub returns-clause-goes : goal.returns-clause-goes
returns-clause-goes c = let fewer : length (words c.split_at-2.result.1.now) < length (words c.args.self.now) = (cut c).fewer in search rules
