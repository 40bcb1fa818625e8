-- Servings compared with one another, and with a session served alone.
use Rattle.std.specs.Prelude.{not}
use Rattle.std.proofs.Common.{◌≡◌, ◌⊎◌, ℕ, zero, suc, ◌-◌, ◌≤◌, ◌<◌, true, List, [], ◌∷◌, ◌++◌, length, drop, Option, Some, None, refl, sym, ap, ◌∙◌, append-nil, append_assoc, arith, inl, inr}
use Rattle.std.specs.List.{before_first, position_or_len}
use Rattle.std.specs.Io.KnownBytes.{Appends, Consumes, IsAtEnd}
use Rattle.std.proofs.lemmas.Bool.{cases_lt}
use Rattle.std.proofs.lemmas.List.{length-drop}
use Rattle.std.proofs.lemmas.List.Sums.{prefix_len-le-length}
use Rattle.std.specs.Str.Lines.{strip_carriage_return}
use Rattle.usi_texts.specs.declared.setup.Setup.{Setup}
use Rattle.usi_lines.specs.Lines.{Line, Text, is_line_feed, lines}
use Rattle.usi_lines.specs.declared.line.TheConstants.{LINE_MAX}
use Rattle.usi_lines.proofs.LineLaws.{lines-long, lines-open, lines-text, longer}
use Rattle.usi_session.specs.declared.state.State.{State}
use Rattle.usi_session.specs.Answer.{initial_state_under}
use Rattle.usi_session.specs.WholeStream.{answer_line, replies_under, replies_from, state_from, is_over_after_under}
use Rattle.usi_session.proofs.Settled.{replies_from-over}
use Rattle.socket_loop.specs.declared.connection.Link.{Link}
use Rattle.usi_stdio.specs.Stdio as stdio
use Rattle.socket_loop.specs.Scenes.{Scene}
use Rattle.socket_loop.specs.Life.{Duty, IsAnswered, new_duty}
use Rattle.socket_loop.specs.Alone.{IsGiven, IsUndisturbed}

-- ---- what is written

said : (duty : Duty) (before after : Scene) (link : Link) (a : IsAnswered duty before after link) → IsUndisturbed duty before after link a → a.served.written ≡ duty.owes a.served.read
said duty before after link a (inl settled) = a.all settled.0 settled.1
said duty before after link a (inr complete) = complete.all

pub isolated : (duty : Duty) (before after other_before other_after : Scene) (link other : Link) (a : IsAnswered duty before after link) (b : IsAnswered duty other_before other_after other)
    → IsUndisturbed duty before after link a → IsUndisturbed duty other_before other_after other b → a.served.read ≡ b.served.read → a.served.written ≡ b.served.written
isolated duty before after other_before other_after link other a b p q e =
    said duty before after link a p ∙ (ap duty.owes e ∙ sym (said duty other_before other_after other b q))

-- ---- the lines of a longer stream

record MoreLines (r x : List ℕ) : Type 0 where
  pub rest : List Line
  pub is : lines (r ++ x) ≡ lines r ++ rest

long_lines : (r x : List ℕ) → LINE_MAX < position_or_len is_line_feed r → MoreLines r x
long_lines r x long =
    let u : position_or_len is_line_feed r ≤ position_or_len is_line_feed (r ++ x) = longer r x in
    record { rest = []; is = lines-long (r ++ x) (omega arith) ∙ (sym (lines-long r long) ∙ sym (append-nil (lines r))) }

more_by : (fuel : ℕ) (r x : List ℕ) → length r ≤ suc fuel → ((s : List ℕ) → length s ≤ fuel → MoreLines s x) → (LINE_MAX < position_or_len is_line_feed r) ⊎ (position_or_len is_line_feed r ≤ LINE_MAX) → (position_or_len is_line_feed r < length r) ⊎ (length r ≤ position_or_len is_line_feed r) → MoreLines r x
more_by fuel r x few next (inl long) at = long_lines r x long
more_by fuel r x few next (inr short) (inl ended) =
    let left : List ℕ = drop (suc (position_or_len is_line_feed r)) r in
    let n : length left ≡ length r - suc (position_or_len is_line_feed r) = length-drop (suc (position_or_len is_line_feed r)) r in
    let m : MoreLines left x = next left (omega arith) in
    let text : Line = Text (strip_carriage_return (before_first is_line_feed r)) in
    let first : lines r ≡ text ∷ lines left = ap lines (sym (append-nil r)) ∙ (lines-text r [] ended short ∙ ap (λ (ys : List ℕ). text ∷ lines ys) (append-nil left)) in
    let more : lines (r ++ x) ≡ text ∷ lines (left ++ x) = lines-text r x ended short in
    record { rest = m.rest; is = more ∙ (ap (λ (ls : List Line). text ∷ ls) m.is ∙ ap (λ (ls : List Line). ls ++ m.rest) (sym first)) }
more_by fuel r x few next (inr short) (inr open_) =
    let u : position_or_len is_line_feed r ≤ length r = prefix_len-le-length (λ b. not (is_line_feed b)) r in
    let none : lines r ≡ [] = lines-open r (omega arith) (omega arith) in
    record { rest = lines (r ++ x); is = ap (λ (ls : List Line). ls ++ lines (r ++ x)) (sym none) }

-- the first lines of a stream stay when it goes on
more_lines : (fuel : ℕ) (r x : List ℕ) → length r ≤ fuel → MoreLines r x
more_lines zero [] x few = record { rest = lines x; is = ap (λ (ls : List Line). ls ++ lines x) (sym (lines-open [] refl (omega arith))) }
more_lines zero (b ∷ r) x few = absurd (omega (arith, few))
more_lines (suc fuel) r x few = more_by fuel r x few (λ s less. more_lines fuel s x less) (cases_lt LINE_MAX (position_or_len is_line_feed r)) (cases_lt (position_or_len is_line_feed r) (length r))

-- the replies to more lines follow the replies to the first
replies_then : (s : State) (xs ys : List Line) → replies_from s (xs ++ ys) ≡ replies_from s xs ++ replies_from (state_from s xs) ys
unfolding replies_from state_from
replies_then s [] ys = refl
replies_then s (x ∷ xs) ys = ap (λ (bs : List ℕ). (answer_line s x).bytes ++ bs) (replies_then (answer_line s x).state xs ys) ∙ sym (append_assoc (answer_line s x).bytes (replies_from (answer_line s x).state xs) (replies_from (state_from (answer_line s x).state xs) ys))

-- input after the end of a session is not answered
over_replies : (setup : Setup) (r x : List ℕ) → is_over_after_under setup r ≡ true → replies_under setup (r ++ x) ≡ replies_under setup r
over_replies setup r x over =
    let m : MoreLines r x = more_lines (length r) r x (omega arith) in
    let first : State = initial_state_under setup in
    ap (replies_from first) m.is ∙ (replies_then first (lines r) m.rest ∙ (ap (λ (bs : List ℕ). replies_from first (lines r) ++ bs) (replies_from-over (state_from first (lines r)) m.rest over) ∙ append-nil (replies_from first (lines r))))

-- ---- `stdio`

consumed_all : (setup : Setup) (bytes read : List ℕ) (left : Option (List ℕ)) → Consumes (Some bytes) left read → IsAtEnd left ⊎ (is_over_after_under setup read ≡ true) → replies_under setup read ≡ replies_under setup bytes
consumed_all setup bytes read None c ended = absurd c
consumed_all setup bytes read (Some rest) c (inl e) = ap (replies_under setup) (sym (c ∙ (ap (λ (xs : List ℕ). read ++ xs) e ∙ append-nil read)))
consumed_all setup bytes read (Some rest) c (inr over) = sym (over_replies setup read rest over) ∙ ap (replies_under setup) (sym c)

given_replies : (setup : Setup) (input left old new : Option (List ℕ)) (s : stdio.AnswersInput setup input left old new) (bytes : List ℕ) → IsGiven setup input left old new s bytes → replies_under setup s.read ≡ replies_under setup bytes
given_replies setup input left old new s bytes (inl e) = consumed_all setup bytes s.read left (rw e at s.consumed) s.ended
given_replies setup input left old new s bytes (inr e) = ap (replies_under setup) e

pub as_alone : (before after : Scene) (link : Link) (a : IsAnswered (new_duty before.host.setup) before after link) → IsUndisturbed (new_duty before.host.setup) before after link a → (input left old new : Option (List ℕ)) (s : stdio.AnswersInput before.host.setup input left old new) → IsGiven before.host.setup input left old new s a.served.read → Appends old new a.served.written
as_alone before after link a p input left old new s given =
    rw (said (new_duty before.host.setup) before after link a p ∙ sym (given_replies before.host.setup input left old new s a.served.read given)) s.written
