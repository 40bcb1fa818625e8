use Rattle.std.proofs.Common.{◌≡◌, ◌≤◌, ◌-◌, ◌∙◌, ℕ, List, length, ap, subst, sym, arith}
use Rattle.std.specs.Option.{option_and_then, option_copied}
use Rattle.shogi_sfen.specs.Words.{GivesWord}
use Rattle.shogi_sfen.specs.BoardTexts.{board_of}
use Rattle.shogi_sfen.specs.HandTexts.{hands_of}
use Rattle.shogi_sfen.specs.Sfen.{side_of, judged, end_of}
use Rattle.shogi_core.specs.Validity.{fault_of}
use Rattle.shogi_sfen.proofs.TooManyHeld.{parts}
use Rattle.shogi_sfen.proofs.PositionLaws.{position_at-one, position_at-two, position_at-three, Three, by_hands, no_hands_word, word_len, new_err, new_ok, gives_len, gives_after, gives_after_hands, ends_at}
use Rattle.shogi_sfen.proofs.position.position_at.Goals as goal

pub returns-in_default : goal.returns-in_default
returns-in_default c =
    let one : GivesWord c.args.text.now c.next.result c.next.new.self = subst (λ (t : List ℕ). GivesWord t c.next.result c.next.new.self) c.words-rest.ensures c.next.ensures.steps in
    position_at-one c.args.text.now c.next.new.self c.next.new.self c.next.new.self c.next.result c.next.result c.next.result one c.in_default.ensures

pub returns-in_default-side_word : goal.returns-in_default-side_word
returns-in_default-side_word c =
    let one : GivesWord c.args.text.now c.next.result c.next.new.self = subst (λ (t : List ℕ). GivesWord t c.next.result c.next.new.self) c.words-rest.ensures c.next.ensures.steps in
    position_at-two c.args.text.now c.next.new.self c.next-2.new.self c.next-2.new.self c.next.result c.next-2.result c.next-2.result c.in-Some.cells one c.next-2.ensures.steps c.in-Some.ensures c.in_default-side_word.ensures

pub returns-in_default-hand_word : goal.returns-in_default-hand_word
returns-in_default-hand_word c =
    let one : GivesWord c.args.text.now c.next.result c.next.new.self = subst (λ (t : List ℕ). GivesWord t c.next.result c.next.new.self) c.words-rest.ensures c.next.ensures.steps in
    let three : Three c.args.text.now c.next.new.self c.next-2.new.self c.next-3.new.self c.next.result c.next-2.result c.next-3.result = record { one = one; two = c.next-2.ensures.steps; three = c.next-3.ensures.steps } in
    no_hands_word c.in-Some.cells c.in-Some-side_word.side (end_of c.args.text.now) (option_and_then hands_of (option_copied c.next-3.result)) c.in_default-hand_word.ensures
    ∙ sym (position_at-three c.args.text.now c.next.new.self c.next-2.new.self c.next-3.new.self c.next.result c.next-2.result c.next-3.result c.in-Some.cells c.in-Some-side_word.side three c.in-Some.ensures c.in-Some-side_word.ensures)

pub returns-in-Err : goal.returns-in-Err
returns-in-Err c =
    let one : GivesWord c.args.text.now c.next.result c.next.new.self = subst (λ (t : List ℕ). GivesWord t c.next.result c.next.new.self) c.words-rest.ensures c.next.ensures.steps in
    let three : Three c.args.text.now c.next.new.self c.next-2.new.self c.next-3.new.self c.next.result c.next-2.result c.next-3.result = record { one = one; two = c.next-2.ensures.steps; three = c.next-3.ensures.steps } in
    let p = parts c.in-Some.cells c.in-Some-hand_word.hands c.in-Some-side_word.side in
    new_err (fault_of p) p c.in-Err.fault (end_of c.args.text.now) c.in-Err.ensures
    ∙ sym (position_at-three c.args.text.now c.next.new.self c.next-2.new.self c.next-3.new.self c.next.result c.next-2.result c.next-3.result c.in-Some.cells c.in-Some-side_word.side three c.in-Some.ensures c.in-Some-side_word.ensures
    ∙ by_hands c.in-Some.cells c.in-Some-side_word.side (end_of c.args.text.now) (option_and_then hands_of (option_copied c.next-3.result)) c.in-Some-hand_word.hands (word_len (option_copied c.next-3.result)) c.in-Some-hand_word.ensures)

pub overflow_sub-result : goal.overflow_sub-result
overflow_sub-result c =
    let one : length c.next.new.self ≤ length c.words-rest.result = gives_len c.words-rest.result c.next.new.self c.next.result c.next.ensures.steps in
    let two : length c.next-2.new.self ≤ length c.next.new.self = gives_len c.next.new.self c.next-2.new.self c.next-2.result c.next-2.ensures.steps in
    let three : length c.next-3.new.self ≤ length c.next-2.new.self = gives_len c.next-2.new.self c.next-3.new.self c.next-3.result c.next-3.ensures.steps in
    let text : length c.words-rest.result ≡ length c.args.text.now = ap length c.words-rest.ensures in
    let rest : length c.rest.result.now ≡ length c.next-3.new.self = ap length c.rest.ensures in
    let after : length c.after_number-after.result.now ≤ length c.rest.result.now = c.after_number-after.ensures.len in
    omega arith

pub returns : goal.returns
returns c =
    let one : GivesWord c.args.text.now c.next.result c.next.new.self = subst (λ (t : List ℕ). GivesWord t c.next.result c.next.new.self) c.words-rest.ensures c.next.ensures.steps in
    let three : Three c.args.text.now c.next.new.self c.next-2.new.self c.next-3.new.self c.next.result c.next-2.result c.next-3.result = record { one = one; two = c.next-2.ensures.steps; three = c.next-3.ensures.steps } in
    let p = parts c.in-Some.cells c.in-Some-hand_word.hands c.in-Some-side_word.side in
    let r1 = gives_after c.args.text.now c.next.new.self c.next.result board_of c.in-Some.cells one c.in-Some.ensures in
    let r2 = gives_after c.next.new.self c.next-2.new.self c.next-2.result side_of c.in-Some-side_word.side c.next-2.ensures.steps c.in-Some-side_word.ensures in
    let r3 = gives_after_hands c.next-2.new.self c.next-3.new.self c.next-3.result c.in-Some-hand_word.hands c.next-3.ensures.steps c.in-Some-hand_word.ensures in
    let end : length c.args.text.now - length c.after_number-after.result.now ≡ end_of c.args.text.now =
    ends_at c.args.text.now c.next.new.self c.next-2.new.self c.rest.result.now c.after_number-after.result.now r1 r2 (c.rest.ensures ∙ r3) c.after_number-after.ensures.value in
    new_ok (fault_of p) p c.in-Ok.position (length c.args.text.now - length c.after_number-after.result.now) c.in-Ok.ensures
    ∙ (ap (λ (n : ℕ). judged (fault_of p) p n) end
    ∙ sym (position_at-three c.args.text.now c.next.new.self c.next-2.new.self c.next-3.new.self c.next.result c.next-2.result c.next-3.result c.in-Some.cells c.in-Some-side_word.side three c.in-Some.ensures c.in-Some-side_word.ensures
    ∙ by_hands c.in-Some.cells c.in-Some-side_word.side (end_of c.args.text.now) (option_and_then hands_of (option_copied c.next-3.result)) c.in-Some-hand_word.hands (word_len (option_copied c.next-3.result)) c.in-Some-hand_word.ensures))
