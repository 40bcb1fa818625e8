-- The pv searches that a `go` has still to end.
use Rattle.std.proofs.Common.{◌≡◌, ◌∙◌, ◌<◌, ℕ, zero, suc, ◌+◌, ◌-◌, ◌==◌, List, [], ◌∷◌, ◌++◌, Bool, true, false, cond, Option, Some, None, refl, sym, ap, arith, append-nil, drop, length}
use Rattle.std.specs.Prelude.{nat_lt, ◌||◌, is_some, slice_get}
use Rattle.std.proofs.lemmas.Bool.{eqb-true, and_parts}
use Rattle.std.proofs.lemmas.List.{drop_all}
use Rattle.shogi_core.specs.Position.{Shogi}
use Rattle.shogi_core.specs.declared.moves.Move.{Move}
use Rattle.shogi_moves.specs.After.{after, after_code}
use Rattle.shogi_moves.specs.LegalMoves.{legal_codes}
use Rattle.shogi_eval.specs.declared.eval.Eval.{Eval}
use Rattle.minimax.specs.Minimax.{best}
use Rattle.shogi_search.specs.Progress.{Progress}
use Rattle.usi_session.specs.declared.go_request.GoRequest.{GoRequest}
use Rattle.usi_session.specs.GoInfos.{listed_codes}
use Rattle.usi_session.specs.Roots.{Root, root_of, pv_roots, pvs_roots, then_pv_roots, depth_roots, roots_of_depths, roots_where}
use Rattle.usi_session.specs.GoTaskView.{GoTaskView, current_roots, deeper_roots, ends_depth, is_last, is_last_of_depth, is_searching, lines_roots, listed_at, roots_of}
use Rattle.usi_session.specs.Phases.{first_phase, go_at, lines_done_in, root_move_in, walk_in}
use Rattle.usi_session.specs.declared.phase.Child.{Child}
use Rattle.usi_session.specs.declared.phase.Phase.{Phase}
use Rattle.usi_session.specs.declared.phase.Phase.TheVariants.{AtMove, AtLine}
use Rattle.usi_session.specs.Walked.{IsFirstMove, LeavesRoots, running_go_of, walk_from}
use Rattle.usi_session.proofs.Listed.{drop_at, first_some, one_listed}
use Rattle.usi_session.proofs.NextSearch.{not_above}

pv_roots-leaf : (p : Shogi) (eval : Eval) → pv_roots p eval 0 ≡ []
unfolding pv_roots
pv_roots-leaf p eval = refl

pv_roots-suc : (p : Shogi) (eval : Eval) (k : ℕ) → pv_roots p eval (suc k) ≡ root_of p eval (suc k) ∷ then_pv_roots (λ q. pv_roots q eval k) p (best p eval (suc k))
unfolding pv_roots
pv_roots-suc p eval k = refl

pub pv_roots-above : (p : Shogi) (eval : Eval) (k : ℕ) → 0 < k → pv_roots p eval k ≡ root_of p eval k ∷ then_pv_roots (λ q. pv_roots q eval (k - 1)) p (best p eval k)
pv_roots-above p eval zero h = absurd (omega arith)
pv_roots-above p eval (suc k) h = let e : suc k - 1 ≡ k = omega arith in rw e (pv_roots-suc p eval k)

-- without a best move no search follows
pub roots_end : (at : Shogi) (eval : Eval) (plies : ℕ) (b : Option Move) → b ≡ best at eval plies → b ≡ None
    → pv_roots at eval 0 ≡ then_pv_roots (λ q. pv_roots q eval (plies - 1)) at (best at eval plies)
roots_end at eval plies b h n = pv_roots-leaf at eval ∙ sym (ap (then_pv_roots (λ q. pv_roots q eval (plies - 1)) at) (sym h ∙ n))

-- the searches after the best move
pub roots_next : (at next : Shogi) (eval : Eval) (plies : ℕ) (m : Move) (b : Option Move) → b ≡ best at eval plies → b ≡ Some m → next ≡ after at m
    → pv_roots next eval (plies - 1) ≡ then_pv_roots (λ q. pv_roots q eval (plies - 1)) at (best at eval plies)
roots_next at next eval plies m b h n f = ap (λ q. pv_roots q eval (plies - 1)) f ∙ sym (ap (then_pv_roots (λ q. pv_roots q eval (plies - 1)) at) (sym h ∙ n))

-- the searches along the pvs of a listed move and those behind it
pub pvs_roots-next : (p : Shogi) (eval : Eval) (d : ℕ) (xs : List ℕ) (n x : ℕ) → slice_get xs n ≡ Some x → pv_roots (after_code p x) eval d ++ pvs_roots p eval d (drop (n + 1) xs) ≡ pvs_roots p eval d (drop n xs)
pvs_roots-next p eval d xs n x e = sym (ap (pvs_roots p eval d) (drop_at xs n x e))

roots_of_depths-start : (p : Shogi) (eval : Eval) (multi_pv depths_done : ℕ) → roots_of_depths p eval multi_pv depths_done 0 ≡ []
unfolding roots_of_depths
roots_of_depths-start p eval multi_pv depths_done = refl

roots_of_depths-suc : (p : Shogi) (eval : Eval) (multi_pv depths_done more : ℕ) → roots_of_depths p eval multi_pv depths_done (suc more) ≡ depth_roots p eval multi_pv (depths_done + 1) ++ roots_of_depths p eval multi_pv (depths_done + 1) more
unfolding roots_of_depths
roots_of_depths-suc p eval multi_pv depths_done more = refl

-- the searches of a depth and of those above it
depth_and_deeper : (go_request : GoRequest) (depths_done : ℕ) → depths_done < go_request.depth
    → depth_roots go_request.position go_request.eval go_request.multi_pv (depths_done + 1) ++ deeper_roots go_request depths_done
    ≡ roots_of_depths go_request.position go_request.eval go_request.multi_pv depths_done (go_request.depth - depths_done)
depth_and_deeper go_request depths_done h =
    let n : go_request.depth - depths_done ≡ suc (go_request.depth - (depths_done + 1)) = omega arith in
    rw n (sym (roots_of_depths-suc go_request.position go_request.eval go_request.multi_pv depths_done (go_request.depth - (depths_done + 1))))

-- behind the last line no search is left
lines_roots-none : (go_request : GoRequest) (depths_done lines_done : ℕ) → lines_done ≡ length (listed_at go_request depths_done) → lines_roots go_request depths_done lines_done ≡ []
lines_roots-none go_request depths_done lines_done e =
    ap (pvs_roots go_request.position go_request.eval depths_done) (drop_all lines_done (listed_at go_request depths_done) (omega arith))

begun_at : (go_request : GoRequest) (first : Move) (depths_done : ℕ) (search : Progress) (one : Bool) → (go_request.multi_pv == 1) ≡ one → IsFirstMove go_request.position first
    → current_roots (root_move_in (cond one (AtLine (record { walk = walk_from go_request.position go_request.eval (depths_done + 1); listed = None })) (AtMove (record { root_move = first; ranks = record { lines = go_request.multi_pv; pairs = [] } })))) (go_at go_request depths_done (cond one (AtLine (record { walk = walk_from go_request.position go_request.eval (depths_done + 1); listed = None })) (AtMove (record { root_move = first; ranks = record { lines = go_request.multi_pv; pairs = [] } }))) search)
    ≡ cond one (pv_roots go_request.position go_request.eval (depths_done + 1)) (pvs_roots go_request.position go_request.eval (depths_done + 1 - 1) (listed_codes go_request.position go_request.eval go_request.multi_pv (depths_done + 1)))
begun_at go_request first depths_done search true e f =
    let len : length (listed_at go_request depths_done) ≡ 1 = one_listed go_request.position go_request.eval go_request.multi_pv (depths_done + 1) (eqb-true go_request.multi_pv 1 e) (omega arith) (first_some go_request.position first f) in
    ap (λ (roots : List Root). pv_roots go_request.position go_request.eval (depths_done + 1) ++ roots) (lines_roots-none go_request depths_done 1 (sym len))
    ∙ append-nil (pv_roots go_request.position go_request.eval (depths_done + 1))
begun_at go_request first depths_done search false e f =
    let k : depths_done + 1 - 1 ≡ depths_done = omega arith in rw k refl

-- when a depth begins, its searches and those above it are left
pub begun_roots : (go_request : GoRequest) (first : Move) (depths_done : ℕ) (search : Progress) → depths_done < go_request.depth → IsFirstMove go_request.position first
    → roots_of (go_at go_request depths_done (first_phase go_request first depths_done) search)
    ≡ roots_of_depths go_request.position go_request.eval go_request.multi_pv depths_done (go_request.depth - depths_done)
begun_roots go_request first depths_done search h f =
    ap (λ (roots : List Root). roots ++ deeper_roots go_request depths_done) (begun_at go_request first depths_done search (go_request.multi_pv == 1) refl f)
    ∙ depth_and_deeper go_request depths_done h

current_whole : (go : GoTaskView) (root_move : Option Move) → (is_some root_move || nat_lt 0 go.walk_plies) ≡ false
    → current_roots root_move go ≡ lines_roots go.go_request go.depths_done (go.lines_done + 1)
current_whole go (Some m) e = absurd (cc)
current_whole go None e =
    ap (λ (k : ℕ). pv_roots go.walk_position go.go_request.eval k ++ lines_roots go.go_request go.depths_done (go.lines_done + 1)) (not_above go.walk_plies e)
    ∙ ap (λ (roots : List Root). roots ++ lines_roots go.go_request go.depths_done (go.lines_done + 1)) (pv_roots-leaf go.walk_position go.go_request.eval)

-- once a pv is whole, the searches of the pvs behind it and of the depths above are left
pub whole_roots : (go : GoTaskView) → is_searching go ≡ false
    → roots_of go ≡ lines_roots go.go_request go.depths_done (go.lines_done + 1) ++ deeper_roots go.go_request go.depths_done
whole_roots go whole = ap (λ (roots : List Root). roots ++ deeper_roots go.go_request go.depths_done) (current_whole go go.root_move whole)

-- once a depth's last line is whole, the searches of the depths above are left
pub ended_roots : (go : GoTaskView) → is_searching go ≡ false → is_last_of_depth go ≡ true → roots_of go ≡ deeper_roots go.go_request go.depths_done
ended_roots go whole last =
    whole_roots go whole
    ∙ ap (λ (roots : List Root). roots ++ deeper_roots go.go_request go.depths_done) (lines_roots-none go.go_request go.depths_done (go.lines_done + 1) (eqb-true (go.lines_done + 1) (length (listed_at go.go_request go.depths_done)) last))

-- above the last depth no search is left
deeper_roots-none : (go_request : GoRequest) (depths_done : ℕ) → depths_done + 1 ≡ go_request.depth → deeper_roots go_request depths_done ≡ []
deeper_roots-none go_request depths_done e = let n : go_request.depth - (depths_done + 1) ≡ 0 = omega arith in rw n (roots_of_depths-start go_request.position go_request.eval go_request.multi_pv (depths_done + 1))

-- once the last line of a `go` is whole, no search is left
pub roots_of-last : (go : GoTaskView) → is_searching go ≡ false → is_last go ≡ true → roots_of go ≡ []
roots_of-last go whole last =
    let parts = and_parts (ends_depth go.go_request go.depths_done go.lines_done) (go.depths_done + 1 == go.go_request.depth) last in
    ended_roots go whole parts.0 ∙ deeper_roots-none go.go_request go.depths_done (eqb-true (go.depths_done + 1) go.go_request.depth parts.1)

-- if a move is legal, each depth is searched
pub roots_begun : (position : Shogi) (eval : Eval) (multi_pv depth code : ℕ) (codes : List ℕ) → legal_codes position ≡ code ∷ codes
    → roots_of_depths position eval multi_pv 0 depth ≡ roots_where position eval multi_pv depth (legal_codes position)
roots_begun position eval multi_pv depth code codes e = sym (ap (roots_where position eval multi_pv depth) e)

-- if no move is legal, nothing is searched
pub roots_none : (position : Shogi) (eval : Eval) (multi_pv depth : ℕ) → legal_codes position ≡ []
    → [] ≡ roots_where position eval multi_pv depth (legal_codes position)
roots_none position eval multi_pv depth e = sym (ap (roots_where position eval multi_pv depth) e)

-- the search of a root move's child is not along a pv
pub ranking_roots : (go_request : GoRequest) (depths_done : ℕ) (child : Child) (now : Phase) (before after : Progress)
    → lines_done_in now ≡ 0 → LeavesRoots go_request depths_done (root_move_in now) (walk_in go_request now) after
    → roots_of (go_at go_request depths_done now after) ≡ roots_of (go_at go_request depths_done (AtMove child) before)
ranking_roots go_request depths_done child now before after none leaves =
    ap (λ (l : ℕ). roots_of (running_go_of go_request depths_done l (root_move_in now) (walk_in go_request now) after)) none
    ∙ ap (λ (roots : List Root). roots ++ deeper_roots go_request depths_done) leaves
