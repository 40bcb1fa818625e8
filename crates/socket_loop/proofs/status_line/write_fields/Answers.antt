use Rattle.std.proofs.Common.{◌≡◌, ◌++◌, ◌∙◌, ℕ, List, ap, codes, rules, OnOk}
use Rattle.std.specs.Prelude.{Result, Ok, Err}
use Rattle.socket_loop.proofs.status_line.write_fields.Goals as goal

on_ok : {T E : Type 0} (r : Result T E) {P Q : Type 0} → (P → Q) → OnOk r P → OnOk r Q
on_ok (Ok value) f p = f p
on_ok (Err fault) f p = tt

-- one more text, and a text with a number, behind the text so far
one : {start old new : List ℕ} (text : List ℕ) → old ≡ start → new ≡ old ++ text → new ≡ start ++ text
one text was e = e ∙ ap (λ (x : List ℕ). x ++ text) was

two : {start old new : List ℕ} (text number : List ℕ) → old ≡ start → new ≡ old ++ text ++ number → new ≡ start ++ text ++ number
two text number was e = e ∙ ap (λ (x : List ℕ). x ++ text ++ number) was

pub returns : goal.returns
returns g c =
    let begun = one _ c.clear.ensures.items c.in_ok-extend_from_slice.ensures.items in
    let process = two _ _ (two _ _ begun c.in_ok-put.ensures) c.in_ok-put-2.ensures in
    let limits = two _ _ (two _ _ (two _ _ process c.in_ok-put-3.ensures) c.in_ok-put-4.ensures) c.in_ok-put-5.ensures in
    let setup = one _ (one _ (one _ (two _ _ (two _ _ (two _ _ limits c.in_ok-put-6.ensures) c.in_ok-put-7.ensures) c.in_ok-put-8.ensures) c.in_ok-extend_from_slice-2.ensures.items) (rw c.word_of.ensures at c.in_ok-extend_from_slice-3.ensures.items)) c.in_ok-extend_from_slice-4.ensures.items in
    let loads = two _ _ (two _ _ (two _ _ (two _ _ setup c.in_ok-put-9.ensures) c.in_ok-put-10.ensures) (rw c.saturating_sub.ensures at c.in_ok-put-11.ensures)) c.in_ok-put-12.ensures in
    let turns = two _ _ (two _ _ loads c.in_ok-put-13.ensures) c.in_ok-put-14.ensures in
    let others = two _ _ (two _ _ turns c.in_ok-put-15.ensures) c.in_ok-put-16.ensures in
    let ends = two _ _ (two _ _ (two _ _ (two _ _ others c.in_ok-put-17.ensures) c.in_ok-put-18.ensures) c.in_ok-put-19.ensures) c.in_ok-put-20.ensures in
    let searches = two _ _ (two _ _ (two _ _ (two _ _ (two _ _ ends c.in_ok-put-21.ensures) c.in_ok-put-22.ensures) c.in_ok-put-23.ensures) c.in_ok-put-24.ensures) c.in_ok-put-25.ensures in
    let bytes = two _ _ (two _ _ (two _ _ searches c.in_ok-put-26.ensures) c.in_ok-put-27.ensures) c.in_ok-put-28.ensures in
    let last : OnOk c.extend_from_slice-5.result (c.extend_from_slice-5.new.self.items ≡ c.put-28.new.out.items ++ codes "}\n") = search rules in
    on_ok c.extend_from_slice-5.result (one _ bytes) last
