-- Reporting a line of a `go`.
use Rattle.std.proofs.Common.{◌≡◌, ◌≢◌, ℕ, suc, ◌+◌, ◌-◌, ◌<◌, ℤ, List, [], ◌∷◌, ◌++◌, refl, sym, ap, ◌∙◌, arith, append_assoc, subst, true, false, Bool, length, drop}
use Rattle.std.proofs.lemmas.Bool.{eqb-true, eq-eqb, cond-true, cond-false, false_from_ne_true}
use Rattle.std.proofs.lemmas.List.{drop_all}
use Rattle.std.specs.Prelude.{cond, ◌==◌}
use Rattle.shogi_core.specs.declared.moves.Move.{Move}
use Rattle.shogi_core.specs.Position.{Shogi}
use Rattle.shogi_moves.specs.LegalMoves.{legal_codes}
use Rattle.shogi_eval.specs.declared.eval.Eval.{Eval}
use Rattle.minimax.specs.Minimax.{value, worth, pv}
use Rattle.usi_session.specs.declared.go_request.GoRequest.{GoRequest}
use Rattle.usi_texts.specs.Texts.{info_line, info_text, numbered_info_text}
use Rattle.usi_session.specs.GoInfos.{numbered_line, numbered_lines}
use Rattle.usi_session.specs.GoTaskView.{listed_at, infos_of_depths, deeper_infos, rest_of_depth, infos_to_come, infos_after_line, ends_depth}
use Rattle.usi_session.specs.Walked.{Walked, IsLine}
use Rattle.usi_session.specs.WholeLines.{GrowsByLines}
use Rattle.usi_session.proofs.WholeReplies.{info_whole, numbered_info_whole, grows_by_text}
use Rattle.usi_session.proofs.Listed.{drop_at, line_below, line_first, one_listed}
use Rattle.usi_session.proofs.RunningGoLaws.{infos_of_depths-suc}

numbered_lines-next : (p : Shogi) (eval : Eval) (depth number code : ℕ) (rest : List ℕ) → numbered_lines p eval depth number (code ∷ rest) ≡ numbered_line p eval depth number code ++ numbered_lines p eval depth (number + 1) rest
unfolding numbered_lines
numbered_lines-next p eval depth number code rest = refl

numbered_lines-none : (p : Shogi) (eval : Eval) (depth number : ℕ) → numbered_lines p eval depth number [] ≡ []
unfolding numbered_lines
numbered_lines-none p eval depth number = refl

-- with one line, its value and pv are reported, and the depth ends
pub reported_one : (go_request : GoRequest) (depths_done lines_done : ℕ) (w : Walked) (old new : List ℕ) (v : ℤ) (moves : List Move) → IsLine go_request depths_done lines_done w → go_request.multi_pv ≡ 1 → legal_codes go_request.position ≢ []
    → v ≡ w.value → moves ≡ w.pv → new ≡ old ++ info_text (depths_done + 1) v moves → new ++ infos_after_line go_request depths_done lines_done ≡ old ++ infos_to_come go_request depths_done lines_done
reported_one go_request depths_done lines_done w old new v moves l n ne value_is moves_are e =
    let z : lines_done ≡ 0 = omega (arith, line_below go_request depths_done lines_done w l, n) in
    let both : (w.value ≡ value go_request.position go_request.eval (depths_done + 1)) × (w.pv ≡ pv go_request.position go_request.eval (depths_done + 1)) = line_first go_request depths_done w (subst (λ (k : ℕ). IsLine go_request depths_done k w) z l) (omega (arith, n)) ne in
    let len : length (listed_at go_request depths_done) ≡ 1 = one_listed go_request.position go_request.eval go_request.multi_pv (depths_done + 1) n (omega arith) ne in
    let ends : ends_depth go_request depths_done lines_done ≡ true = eq-eqb (lines_done + 1) (length (listed_at go_request depths_done)) (omega (arith, z, len)) in
    let left : rest_of_depth go_request depths_done lines_done ≡ info_line go_request.position go_request.eval (depths_done + 1) =
    cond-true (go_request.multi_pv == 1) (info_line go_request.position go_request.eval (depths_done + 1)) (numbered_lines go_request.position go_request.eval (depths_done + 1) (lines_done + 1) (drop lines_done (listed_at go_request depths_done))) (eq-eqb go_request.multi_pv 1 n) in
    let text : info_text (depths_done + 1) v moves ≡ info_line go_request.position go_request.eval (depths_done + 1) =
    ap (λ (x : ℤ). info_text (depths_done + 1) x moves) (value_is ∙ both.0) ∙ ap (λ (ms : List Move). info_text (depths_done + 1) (value go_request.position go_request.eval (depths_done + 1)) ms) (moves_are ∙ both.1) in
    let after : infos_after_line go_request depths_done lines_done ≡ deeper_infos go_request depths_done = cond-true (ends_depth go_request depths_done lines_done) (deeper_infos go_request depths_done) (infos_to_come go_request depths_done (lines_done + 1)) ends in
    ap (λ (xs : List ℕ). xs ++ infos_after_line go_request depths_done lines_done) e
    ∙ ap (λ (xs : List ℕ). (old ++ info_text (depths_done + 1) v moves) ++ xs) after
    ∙ append_assoc old (info_text (depths_done + 1) v moves) (deeper_infos go_request depths_done)
    ∙ ap (λ (xs : List ℕ). old ++ (xs ++ deeper_infos go_request depths_done)) (text ∙ sym left)

-- with several lines, the info lines after the current one: of this depth, and of those above
after_at : (go_request : GoRequest) (depths_done lines_done : ℕ) (ends : Bool) → ends_depth go_request depths_done lines_done ≡ ends → (go_request.multi_pv == 1) ≡ false
    → cond ends (deeper_infos go_request depths_done) (infos_to_come go_request depths_done (lines_done + 1)) ≡ numbered_lines go_request.position go_request.eval (depths_done + 1) (lines_done + 1 + 1) (drop (lines_done + 1) (listed_at go_request depths_done)) ++ deeper_infos go_request depths_done
after_at go_request depths_done lines_done true e n =
    let len : lines_done + 1 ≡ length (listed_at go_request depths_done) = eqb-true (lines_done + 1) (length (listed_at go_request depths_done)) e in
    let none : drop (lines_done + 1) (listed_at go_request depths_done) ≡ [] = drop_all (lines_done + 1) (listed_at go_request depths_done) (omega (arith, len)) in
    sym (ap (λ (xs : List ℕ). numbered_lines go_request.position go_request.eval (depths_done + 1) (lines_done + 1 + 1) xs ++ deeper_infos go_request depths_done) none
    ∙ ap (λ (xs : List ℕ). xs ++ deeper_infos go_request depths_done) (numbered_lines-none go_request.position go_request.eval (depths_done + 1) (lines_done + 1 + 1)))
after_at go_request depths_done lines_done false e n =
    ap (λ (xs : List ℕ). xs ++ deeper_infos go_request depths_done)
    (cond-false (go_request.multi_pv == 1) (info_line go_request.position go_request.eval (depths_done + 1)) (numbered_lines go_request.position go_request.eval (depths_done + 1) (lines_done + 1 + 1) (drop (lines_done + 1) (listed_at go_request depths_done))) n)

not_one : (n : ℕ) → n ≢ 1 → (n == 1) ≡ false
not_one n ne = false_from_ne_true (n == 1) (λ e. ne (eqb-true n 1 e))

-- with several lines, the current one is reported with its number
pub reported_several : (go_request : GoRequest) (depths_done lines_done : ℕ) (w : Walked) (old new : List ℕ) (v : ℤ) (moves : List Move) → IsLine go_request depths_done lines_done w → go_request.multi_pv ≢ 1
    → v ≡ w.value → moves ≡ w.pv → new ≡ old ++ numbered_info_text (depths_done + 1) (lines_done + 1) v moves → new ++ infos_after_line go_request depths_done lines_done ≡ old ++ infos_to_come go_request depths_done lines_done
reported_several go_request depths_done lines_done w old new v moves l ne value_is moves_are e =
    let several : (go_request.multi_pv == 1) ≡ false = not_one go_request.multi_pv ne in
    let more : List ℕ = numbered_lines go_request.position go_request.eval (depths_done + 1) (lines_done + 1 + 1) (drop (lines_done + 1) (listed_at go_request depths_done)) in
    let line : List ℕ = numbered_line go_request.position go_request.eval (depths_done + 1) (lines_done + 1) l.code in
    let k : depths_done + 1 - 1 ≡ depths_done = omega arith in
    let text : numbered_info_text (depths_done + 1) (lines_done + 1) v moves ≡ line =
    ap (λ (x : ℤ). numbered_info_text (depths_done + 1) (lines_done + 1) x moves) (value_is ∙ l.value_is ∙ ap (λ (d : ℕ). worth go_request.position go_request.eval d l.code) (sym k))
    ∙ ap (λ (ms : List Move). numbered_info_text (depths_done + 1) (lines_done + 1) (worth go_request.position go_request.eval (depths_done + 1 - 1) l.code) ms) (moves_are ∙ l.pv_is) in
    let left : rest_of_depth go_request depths_done lines_done ≡ line ++ more =
    cond-false (go_request.multi_pv == 1) (info_line go_request.position go_request.eval (depths_done + 1)) (numbered_lines go_request.position go_request.eval (depths_done + 1) (lines_done + 1) (drop lines_done (listed_at go_request depths_done))) several
    ∙ ap (numbered_lines go_request.position go_request.eval (depths_done + 1) (lines_done + 1)) (drop_at (listed_at go_request depths_done) lines_done l.code l.listed_as)
    ∙ numbered_lines-next go_request.position go_request.eval (depths_done + 1) (lines_done + 1) l.code (drop (lines_done + 1) (listed_at go_request depths_done)) in
    ap (λ (xs : List ℕ). xs ++ infos_after_line go_request depths_done lines_done) (e ∙ ap (λ (xs : List ℕ). old ++ xs) text)
    ∙ ap (λ (xs : List ℕ). (old ++ line) ++ xs) (after_at go_request depths_done lines_done (ends_depth go_request depths_done lines_done) refl several)
    ∙ append_assoc old line (more ++ deeper_infos go_request depths_done)
    ∙ ap (λ (xs : List ℕ). old ++ xs) (sym (append_assoc line more (deeper_infos go_request depths_done)))
    ∙ ap (λ (xs : List ℕ). old ++ (xs ++ deeper_infos go_request depths_done)) (sym left)

-- the only info line of a depth is a whole line
pub one_grows : (old new : List ℕ) (depth : ℕ) (v : ℤ) (moves : List Move) → new ≡ old ++ info_text depth v moves → GrowsByLines old new
one_grows old new depth v moves e = grows_by_text old new (info_text depth v moves) e (info_whole depth v moves)

-- a numbered info line is a whole line
pub several_grow : (old new : List ℕ) (depth number : ℕ) (v : ℤ) (moves : List Move) → new ≡ old ++ numbered_info_text depth number v moves → GrowsByLines old new
several_grow old new depth number v moves e = grows_by_text old new (numbered_info_text depth number v moves) e (numbered_info_whole depth number v moves)

-- the next depth comes after the last line of a depth
pub reported_depth : (go_request : GoRequest) (depths_done : ℕ) → depths_done + 1 < go_request.depth → infos_to_come go_request (depths_done + 1) 0 ≡ deeper_infos go_request depths_done
reported_depth go_request depths_done h =
    let n : go_request.depth - (depths_done + 1) ≡ suc (go_request.depth - (depths_done + 1 + 1)) = omega arith in
    sym (ap (infos_of_depths go_request (depths_done + 1)) n ∙ infos_of_depths-suc go_request (depths_done + 1) (go_request.depth - (depths_done + 1 + 1)))
