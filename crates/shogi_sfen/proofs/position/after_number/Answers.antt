use Rattle.std.proofs.Common.{◌≤◌, ℕ, List, length, subst, sym}
use Rattle.shogi_sfen.proofs.PositionLaws.{gives_len}
use Rattle.shogi_sfen.proofs.position.after_number.Goals as goal

pub returns-then-number_word-clause-len : goal.returns-then-number_word-clause-len
returns-then-number_word-clause-len c =
    subst (λ (t : List ℕ). length c.rest.result.now ≤ length t) c.words-rest.ensures
    (subst (λ (t : List ℕ). length t ≤ length c.words-rest.result) (sym c.rest.ensures) (gives_len c.words-rest.result c.next.new.self c.next.result c.next.ensures.steps))
