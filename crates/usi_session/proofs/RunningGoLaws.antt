-- The replies due and the costs of a `go`, one depth or one search at a time.
use Rattle.std.proofs.Common.{◌≡◌, ◌≢◌, ℕ, zero, suc, ◌+◌, ◌-◌, ◌<◌, List, [], ◌++◌, refl, sym, ap, ◌∙◌, arith, append_assoc, append-nil, add-one, true, false, Bool, Some}
use Rattle.std.proofs.lemmas.Bool.{eqb-true}
use Rattle.std.specs.Prelude.{cond, ◌&&◌, ◌==◌}
use Rattle.shogi_core.specs.Codes.{code_of}
use Rattle.shogi_core.specs.declared.moves.Move.{Move}
use Rattle.shogi_moves.specs.LegalMoves.{legal_codes, legal_above}
use Rattle.usi_lines.specs.declared.command.Hold.{Hold}
use Rattle.usi_lines.specs.declared.command.Hold.TheVariants.{Nothing, UntilStop, UntilHit}
use Rattle.usi_session.specs.declared.go_request.GoRequest.{GoRequest}
use Rattle.usi_session.specs.declared.state.State.{State}
use Rattle.usi_session.specs.declared.state.HeldBestmove.{HeldBestmove}
use Rattle.usi_session.specs.GoInfos.{info_lines, depth_lines, go_infos}
use Rattle.usi_session.specs.Costs.{depth_cost, cost_to_depth}
use Rattle.usi_session.specs.Answer.{write_or_hold, answer_go}
use Rattle.usi_session.specs.Walked.{IsFirstMove}
use Rattle.usi_session.specs.GoTaskView.{GoTaskView, infos_of_depths, deeper_infos, infos_to_come, infos_left, infos_after, bestmove_to, rest_of_go, ends_depth, is_last, cost_of_depths}
use Rattle.usi_session.proofs.Infos.{info_lines-start, info_lines-more, go_infos-some, not_empty}

infos_of_depths-start : (go_request : GoRequest) (depths_done : ℕ) → infos_of_depths go_request depths_done 0 ≡ []
unfolding infos_of_depths
infos_of_depths-start go_request depths_done = refl

pub infos_of_depths-suc : (go_request : GoRequest) (depths_done more : ℕ) → infos_of_depths go_request depths_done (suc more) ≡ depth_lines go_request.position go_request.eval go_request.multi_pv (depths_done + 1) ++ infos_of_depths go_request (depths_done + 1) more
unfolding infos_of_depths
infos_of_depths-suc go_request depths_done more = refl

-- the info lines of the depths done, and of the next ones
infos_of_depths-from : (go_request : GoRequest) (more depths_done : ℕ) → info_lines go_request.position go_request.eval go_request.multi_pv (depths_done + more) ≡ info_lines go_request.position go_request.eval go_request.multi_pv depths_done ++ infos_of_depths go_request depths_done more
infos_of_depths-from go_request zero depths_done = let n : depths_done + 0 ≡ depths_done = omega arith in rw (n, infos_of_depths-start go_request depths_done, append-nil (info_lines go_request.position go_request.eval go_request.multi_pv depths_done)) refl
infos_of_depths-from go_request (suc more) depths_done =
    let n : depths_done + suc more ≡ (depths_done + 1) + more = omega arith in
    rw (n, infos_of_depths-suc go_request depths_done more, infos_of_depths-from go_request more (depths_done + 1), info_lines-more go_request.position go_request.eval go_request.multi_pv depths_done) (append_assoc (info_lines go_request.position go_request.eval go_request.multi_pv depths_done) (depth_lines go_request.position go_request.eval go_request.multi_pv (depths_done + 1)) (infos_of_depths go_request (depths_done + 1) more))

-- above the last depth nothing is said
deeper_infos-none : (go_request : GoRequest) (depths_done : ℕ) → depths_done + 1 ≡ go_request.depth → deeper_infos go_request depths_done ≡ []
deeper_infos-none go_request depths_done e = let n : go_request.depth - (depths_done + 1) ≡ 0 = omega arith in rw n (infos_of_depths-start go_request (depths_done + 1))

-- before the first line of a depth, its info lines and those above are to come
pub infos_to_come-start : (go_request : GoRequest) (depths_done : ℕ) → depths_done < go_request.depth → infos_to_come go_request depths_done 0 ≡ infos_of_depths go_request depths_done (go_request.depth - depths_done)
infos_to_come-start go_request depths_done h =
    let n : go_request.depth - depths_done ≡ suc (go_request.depth - (depths_done + 1)) = omega arith in rw n (sym (infos_of_depths-suc go_request depths_done (go_request.depth - (depths_done + 1))))

-- before the first depth, all info lines are to come
pub infos_to_come-all : (go_request : GoRequest) → 0 < go_request.depth → legal_codes go_request.position ≢ [] → infos_to_come go_request 0 0 ≡ go_infos go_request.position go_request.eval go_request.multi_pv go_request.depth
infos_to_come-all go_request some h =
    let n : go_request.depth - 0 ≡ go_request.depth = omega arith in
    let m : 0 + go_request.depth ≡ go_request.depth = omega arith in
    let whole : info_lines go_request.position go_request.eval go_request.multi_pv (0 + go_request.depth) ≡ info_lines go_request.position go_request.eval go_request.multi_pv 0 ++ infos_of_depths go_request 0 go_request.depth = infos_of_depths-from go_request go_request.depth 0 in
    let same : info_lines go_request.position go_request.eval go_request.multi_pv go_request.depth ≡ infos_of_depths go_request 0 go_request.depth = ap (info_lines go_request.position go_request.eval go_request.multi_pv) (sym m) ∙ whole ∙ ap (λ xs. xs ++ infos_of_depths go_request 0 go_request.depth) (info_lines-start go_request.position go_request.eval go_request.multi_pv) in
    infos_to_come-start go_request 0 some ∙ (rw n (sym same ∙ sym (go_infos-some go_request.position go_request.eval go_request.multi_pv go_request.depth h)))

both : (a b : Bool) → (a && b) ≡ true → (a ≡ true) × (b ≡ true)
both true true e = (refl, refl)
both true false e = absurd (cc)
both false b e = absurd (cc)

-- after the last line of a `go` nothing is said
pub infos_after_line-last : (go : GoTaskView) → is_last go ≡ true → infos_after go ≡ []
infos_after_line-last go e =
    let parts : (ends_depth go.go_request go.depths_done go.lines_done ≡ true) × ((go.depths_done + 1 == go.go_request.depth) ≡ true) = both (ends_depth go.go_request go.depths_done go.lines_done) (go.depths_done + 1 == go.go_request.depth) e in
    ap (λ (b : Bool). cond b (deeper_infos go.go_request go.depths_done) (infos_to_come go.go_request go.depths_done (go.lines_done + 1))) parts.0 ∙ deeper_infos-none go.go_request go.depths_done (eqb-true (go.depths_done + 1) go.go_request.depth parts.1)

cost_of_depths-start : (go_request : GoRequest) (depths_done : ℕ) → cost_of_depths go_request depths_done 0 ≡ 0
unfolding cost_of_depths
cost_of_depths-start go_request depths_done = refl

cost_of_depths-suc : (go_request : GoRequest) (depths_done more : ℕ) → cost_of_depths go_request depths_done (suc more) ≡ depth_cost go_request.position go_request.eval go_request.multi_pv (depths_done + 1) + cost_of_depths go_request (depths_done + 1) more
unfolding cost_of_depths
cost_of_depths-suc go_request depths_done more = refl

cost_to_depth-start : (go_request : GoRequest) → cost_to_depth go_request.position go_request.eval go_request.multi_pv 0 ≡ 0
unfolding cost_to_depth
cost_to_depth-start go_request = refl

cost_to_depth-more : (go_request : GoRequest) (depths_done : ℕ) → cost_to_depth go_request.position go_request.eval go_request.multi_pv (depths_done + 1) ≡ cost_to_depth go_request.position go_request.eval go_request.multi_pv depths_done + depth_cost go_request.position go_request.eval go_request.multi_pv (depths_done + 1)
unfolding cost_to_depth
cost_to_depth-more go_request depths_done = rw add-one refl

-- the cost of a depth and of those above it
pub cost_of_depths-more : (go_request : GoRequest) (depths_done : ℕ) → depths_done < go_request.depth → cost_of_depths go_request depths_done (go_request.depth - depths_done) ≡ depth_cost go_request.position go_request.eval go_request.multi_pv (depths_done + 1) + cost_of_depths go_request (depths_done + 1) (go_request.depth - (depths_done + 1))
cost_of_depths-more go_request depths_done h =
    let n : go_request.depth - depths_done ≡ suc (go_request.depth - (depths_done + 1)) = omega arith in rw n (cost_of_depths-suc go_request depths_done (go_request.depth - (depths_done + 1)))

cost_of_depths-from : (go_request : GoRequest) (more depths_done : ℕ) → cost_to_depth go_request.position go_request.eval go_request.multi_pv (depths_done + more) ≡ cost_to_depth go_request.position go_request.eval go_request.multi_pv depths_done + cost_of_depths go_request depths_done more
cost_of_depths-from go_request zero depths_done = let n : depths_done + 0 ≡ depths_done = omega arith in rw (n, cost_of_depths-start go_request depths_done) (omega arith)
cost_of_depths-from go_request (suc more) depths_done =
    let n : depths_done + suc more ≡ (depths_done + 1) + more = omega arith in
    rw (n, cost_of_depths-suc go_request depths_done more, cost_of_depths-from go_request more (depths_done + 1), cost_to_depth-more go_request depths_done) (omega arith)

-- with no depth done, the cost is that of all depths
pub cost_of_depths-all : (go_request : GoRequest) → cost_of_depths go_request 0 go_request.depth ≡ cost_to_depth go_request.position go_request.eval go_request.multi_pv go_request.depth
cost_of_depths-all go_request =
    let m : 0 + go_request.depth ≡ go_request.depth = omega arith in
    let whole : cost_to_depth go_request.position go_request.eval go_request.multi_pv (0 + go_request.depth) ≡ cost_to_depth go_request.position go_request.eval go_request.multi_pv 0 + cost_of_depths go_request 0 go_request.depth = cost_of_depths-from go_request go_request.depth 0 in
    sym (ap (cost_to_depth go_request.position go_request.eval go_request.multi_pv) (sym m) ∙ whole ∙ omega (arith, cost_to_depth-start go_request))

-- the bytes are the info lines, then those of the bestmove alone
pub write_or_hold-bytes : (s : State) (infos : List ℕ) (held : HeldBestmove) (hold : Hold) → (write_or_hold s infos held hold).bytes ≡ infos ++ (write_or_hold s [] held hold).bytes
write_or_hold-bytes s infos held Nothing = refl
write_or_hold-bytes s infos held UntilStop = sym (append-nil infos)
write_or_hold-bytes s infos held UntilHit = sym (append-nil infos)

pub write_or_hold-state : (s : State) (infos : List ℕ) (held : HeldBestmove) (hold : Hold) → (write_or_hold s infos held hold).state ≡ (write_or_hold s [] held hold).state
write_or_hold-state s infos held Nothing = refl
write_or_hold-state s infos held UntilStop = refl
write_or_hold-state s infos held UntilHit = refl

-- writing or holding a bestmove ends no session
pub write_or_hold-over : (s : State) (infos : List ℕ) (held : HeldBestmove) (hold : Hold) → (write_or_hold s infos held hold).state.is_over ≡ s.is_over
write_or_hold-over s infos held Nothing = refl
write_or_hold-over s infos held UntilStop = refl
write_or_hold-over s infos held UntilHit = refl

-- the request of a `go` in a state
abbrev pub question_of : State → ℕ → Hold → GoRequest
question_of s depth hold = record { position = s.position; eval = s.options.eval; multi_pv = s.options.multi_pv; depth = depth; hold = hold }

-- before the first line of a `go`, its rest is its whole answer
pub begins-rest : (s : State) (depth : ℕ) (hold : Hold) (first : Move) (go : GoTaskView) → 0 < depth → IsFirstMove s.position first → go.go_request ≡ question_of s depth hold → go.depths_done ≡ 0 → go.lines_done ≡ 0 → rest_of_go s go ≡ answer_go s depth hold
begins-rest s depth hold first go some f q t h =
    let all : infos_to_come (question_of s depth hold) 0 0 ≡ go_infos s.position s.options.eval s.options.multi_pv depth = infos_to_come-all (question_of s depth hold) some (not_empty (legal_codes s.position) (legal_above s.position (Some first)) (code_of first) f) in
    let left : infos_left go ≡ go_infos s.position s.options.eval s.options.multi_pv depth = rw (q, t, h) all in
    ap (λ xs. write_or_hold s xs (bestmove_to go.go_request go.go_request.depth) go.go_request.hold) left
    ∙ ap (λ (go_request : GoRequest). write_or_hold s (go_infos s.position s.options.eval s.options.multi_pv depth) (bestmove_to go_request go_request.depth) go_request.hold) q
