-- The step of a `go` from one search or line to the next.
use Rattle.std.proofs.Common.{◌≡◌, ◌≢◌, ◌<◌, ◌≤◌, ◌<ℤ◌, ◌≤ℤ◌, ℕ, zero, suc, ℤ, ◌+◌, ◌-◌, ◌*◌, ◌==◌, [], ◌∷◌, Bool, true, false, Option, Some, None, refl, sym, ap, subst, ◌∙◌, arith, drop, length}
use Rattle.std.specs.Prelude.{cond, nat_lt}
use Rattle.std.proofs.lemmas.Bool.{both_ways, eqb-true, ltb-false}
use Rattle.std.proofs.lemmas.List.{drop_all}
use Rattle.shogi_core.specs.declared.moves.Move.{Move}
use Rattle.shogi_core.specs.Codes.{code_of, move_of}
use Rattle.shogi_core.specs.Position.{Shogi}
use Rattle.shogi_core.specs.Validity.{IsValid}
use Rattle.shogi_moves.specs.Legal.{is_legal}
use Rattle.shogi_moves.specs.After.{after, after_code}
use Rattle.shogi_moves.specs.LegalMoves.{legal_codes, legal_above}
use Rattle.shogi_moves.specs.Rising.{is_in}
use Rattle.shogi_moves.proofs.LegalLaws.{after_code_of, legal_above_in, listed_to_legal}
use Rattle.shogi_eval.specs.declared.eval.Eval.{Eval}
use Rattle.minimax.specs.Minimax.{value, worth, negated, tree_size, pv_cost, sum_of_tree_sizes}
use Rattle.shogi_search.specs.Progress.{Progress, untouched, untouched_below}
use Rattle.shogi_search.specs.Ranked.{Ranking, child_beta}
use Rattle.minimax.specs.declared.bounds.TheConstants.{INFINITY}
use Rattle.minimax.proofs.Lines.{pv_cost-above}
use Rattle.minimax.proofs.MinimaxLaws.{worth_plain, tree_size-positive, sum_of_tree_sizes-next}
use Rattle.shogi_search.proofs.RankedLaws.{first_in, top_empty}
use Rattle.shogi_search.proofs.RankedUse.{IsGoneThrough, gone_all, gone_window}
use Rattle.usi_session.specs.declared.go_request.GoRequest.{GoRequest}
use Rattle.usi_session.specs.declared.state.HeldBestmove.{HeldBestmove}
use Rattle.usi_session.specs.Costs.{pvs_cost}
use Rattle.usi_session.specs.GoInfos.{listed_codes}
use Rattle.usi_session.specs.GoTaskView.{listed_at, bestmove_to, cost_of_depths, is_searching, load_of, load_after_root_move}
use Rattle.usi_session.specs.Phases.{IsAtPhase, IsListed, first_phase, go_at, lines_done_in, lines_done_of}
use Rattle.usi_session.specs.declared.phase.Child.{Child}
use Rattle.usi_session.specs.declared.phase.Listed.{Listed}
use Rattle.usi_session.specs.declared.phase.PvLine.{PvLine}
use Rattle.usi_session.specs.declared.phase.Phase.{Phase}
use Rattle.usi_session.specs.declared.phase.Phase.TheVariants.{AtMove, AtLine}
use Rattle.usi_session.specs.Walked.{Walked, walk_from, IsLine, IsQuestionInRange, IsFirstMove, IsUnder, IsRanked, IsRankedTo, IsRankedUpTo, first_search, is_settled, running_go_of}
use Rattle.usi_session.proofs.Listed.{IsFirstLine, first_line, first_listed, first_some, one_listed}
use Rattle.usi_session.proofs.RunningGoLaws.{cost_of_depths-more}

-- a search that was just started has steps left
pub under_start : (s : Progress) (p : Shogi) (eval : Eval) (d : ℕ) (beta : ℤ) → s ≡ untouched_below p eval d beta → IsUnder s p eval d beta
under_start s p eval d beta e =
    let l : s.left ≡ 4 * tree_size p d = ap (λ (t : Progress). t.left) e in
    record {
      root = ap (λ (t : Progress). t.root) e;
      eval_is = ap (λ (t : Progress). t.eval) e;
      depth_is = ap (λ (t : Progress). t.depth) e;
      beta_is = ap (λ (t : Progress). t.beta) e;
      left = omega (arith, tree_size-positive p d);
    }

pub not_above : (n : ℕ) → nat_lt 0 n ≡ false → n ≡ 0
not_above n e = let l : n ≤ 0 = ltb-false 0 n e in omega arith

none_done_at : (walk : Walked) (child : Child) (one : Bool) → lines_done_in (cond one (AtLine (record { walk = walk; listed = None })) (AtMove child)) ≡ 0
none_done_at walk child true = refl
none_done_at walk child false = refl

-- when a depth begins, no line of it is done
pub first_none_done : (go_request : GoRequest) (first : Move) (depths_done : ℕ) → lines_done_in (first_phase go_request first depths_done) ≡ 0
first_none_done go_request first depths_done = none_done_at _ _ (go_request.multi_pv == 1)

-- the current line when its pv is whole
pub record IsWholeLine (go_request : GoRequest) (depths_done : ℕ) (line : PvLine) (kept : HeldBestmove) : Type 0 where
  pub line_is : IsLine go_request depths_done (lines_done_of line.listed) line.walk
  pub listed_is : IsListed go_request depths_done line.listed
  pub kept_is : 0 < lines_done_of line.listed → kept ≡ bestmove_to go_request (depths_done + 1)
  pub plies_is : line.walk.plies ≡ 0

pub whole_line : (go_request : GoRequest) (depths_done : ℕ) (phase : Phase) (line : PvLine) (kept : HeldBestmove) (search : Progress) → phase ≡ AtLine line → IsAtPhase go_request depths_done phase kept search → is_searching (go_at go_request depths_done phase search) ≡ false → IsWholeLine go_request depths_done line kept
whole_line go_request depths_done (AtMove child) line kept search e h whole = absurd (cc)
whole_line go_request depths_done (AtLine l) line kept search e h whole =
    let same : l ≡ line = cc in
    subst (λ (x : PvLine). IsWholeLine go_request depths_done x kept) same (record { line_is = h.line_is; listed_is = h.listed_is; kept_is = h.kept_is; plies_is = not_above l.walk.plies whole })

-- with several lines, all moves are ranked
pub listed_all : (go_request : GoRequest) (depths_done : ℕ) (listed : Option Listed) (all : Listed) → listed ≡ Some all → IsListed go_request depths_done listed → (go_request.multi_pv ≢ 1) × IsRanked go_request depths_done all.ranks
listed_all go_request depths_done None all e h = absurd (cc)
listed_all go_request depths_done (Some l) all e h =
    let same : l ≡ all = cc in
    subst (λ (x : Listed). (go_request.multi_pv ≢ 1) × IsRanked go_request depths_done x.ranks) same h

-- with one line, there is no list
pub listed_none : (go_request : GoRequest) (depths_done : ℕ) (listed : Option Listed) → listed ≡ None → IsListed go_request depths_done listed → go_request.multi_pv ≡ 1
listed_none go_request depths_done None e h = h
listed_none go_request depths_done (Some l) e h = absurd (cc)

-- ranked moves in the form of the laws of ranks, and back
pub gone : (go_request : GoRequest) (depths_done : ℕ) (passed : Option Move) (ranks : Ranking) → IsRankedUpTo go_request depths_done passed ranks → IsGoneThrough go_request.position (worth go_request.position go_request.eval depths_done) passed ranks
gone go_request depths_done passed ranks h = record { seen = h.seen; whole = h.whole; top = h.top }

pub ranked_up_to : (go_request : GoRequest) (depths_done : ℕ) (passed : Option Move) (ranks : Ranking) → IsGoneThrough go_request.position (worth go_request.position go_request.eval depths_done) passed ranks → ranks.lines ≡ go_request.multi_pv → IsRankedUpTo go_request depths_done passed ranks
ranked_up_to go_request depths_done passed ranks g most = record { seen = g.seen; whole = g.whole; top = g.top; most = most }

-- the ranks before any move
abbrev no_ranks : GoRequest → Ranking
no_ranks go_request = record { lines = go_request.multi_pv; pairs = [] }

-- the invariant when a depth begins
begun_at : (go_request : GoRequest) (first : Move) (depths_done : ℕ) (kept : HeldBestmove) (one : Bool) → (go_request.multi_pv == 1) ≡ one → IsQuestionInRange go_request → IsFirstMove go_request.position first
    → IsAtPhase go_request depths_done (cond one (AtLine (record { walk = walk_from go_request.position go_request.eval (depths_done + 1); listed = None })) (AtMove (record { root_move = first; ranks = no_ranks go_request }))) kept (cond one (untouched go_request.position go_request.eval (depths_done + 1)) (untouched (after go_request.position first) go_request.eval depths_done))
begun_at go_request first depths_done kept true e a f =
    let n : go_request.multi_pv ≡ 1 = eqb-true go_request.multi_pv 1 e in
    let w : IsFirstLine go_request.position go_request.eval (depths_done + 1) = first_line go_request.position go_request.eval (depths_done + 1) (omega arith) (first_some go_request.position first f) in
    let k : depths_done + 1 - 1 ≡ depths_done = omega arith in
    record {
      line_is = record {
        code = w.code;
        listed_as = first_listed go_request.position go_request.eval go_request.multi_pv (depths_done + 1) w (omega arith);
        pv_is = w.pv_is;
        value_is = w.value_is ∙ ap (λ (d : ℕ). worth go_request.position go_request.eval d w.code) k;
        eval_is = refl;
      };
      listed_is = n;
      kept_is = λ h. absurd (omega arith);
      searched = λ h. under_start _ go_request.position go_request.eval (depths_done + 1) INFINITY refl;
    }
begun_at go_request first depths_done kept false e a f = record {
  several = λ n. both_ways _ e (ap (λ (k : ℕ). k == 1) n);
  ranked = record { passed = None; next = f; ranked = record { seen = []; whole = refl; top = top_empty (worth go_request.position go_request.eval depths_done) go_request.multi_pv; most = refl } };
  searched = under_start _ (after go_request.position first) go_request.eval depths_done (child_beta (no_ranks go_request)) refl;
}

pub begun : (go_request : GoRequest) (first : Move) (depths_done : ℕ) (kept : HeldBestmove) → IsQuestionInRange go_request → IsFirstMove go_request.position first
    → IsAtPhase go_request depths_done (first_phase go_request first depths_done) kept (first_search go_request first depths_done)
begun go_request first depths_done kept a f = begun_at go_request first depths_done kept (go_request.multi_pv == 1) refl a f

begun_cost_at : (go_request : GoRequest) (first : Move) (depths_done : ℕ) (above : ℕ) (one : Bool) → (go_request.multi_pv == 1) ≡ one → IsFirstMove go_request.position first → move_of (code_of first) ≡ Some first → above ≡ cost_of_depths go_request (depths_done + 1) (go_request.depth - (depths_done + 1))
    → load_of (go_at go_request depths_done (cond one (AtLine (record { walk = walk_from go_request.position go_request.eval (depths_done + 1); listed = None })) (AtMove (record { root_move = first; ranks = no_ranks go_request }))) (cond one (untouched go_request.position go_request.eval (depths_done + 1)) (untouched (after go_request.position first) go_request.eval depths_done)))
    ≤ cond one (pv_cost go_request.position go_request.eval (depths_done + 1)) (4 * sum_of_tree_sizes go_request.position (depths_done + 1 - 1) (legal_codes go_request.position) + pvs_cost go_request.position go_request.eval (depths_done + 1 - 1) (listed_codes go_request.position go_request.eval go_request.multi_pv (depths_done + 1))) + above
begun_cost_at go_request first depths_done above true e f b a =
    let n : go_request.multi_pv ≡ 1 = eqb-true go_request.multi_pv 1 e in
    let l : length (listed_at go_request depths_done) ≡ 1 = one_listed go_request.position go_request.eval go_request.multi_pv (depths_done + 1) n (omega arith) (first_some go_request.position first f) in
    let d : drop (0 + 1) (listed_at go_request depths_done) ≡ [] = drop_all (0 + 1) (listed_at go_request depths_done) (omega arith) in
    let z : pvs_cost go_request.position go_request.eval depths_done (drop (0 + 1) (listed_at go_request depths_done)) ≡ 0 = ap (pvs_cost go_request.position go_request.eval depths_done) d in
    omega (arith, pv_cost-above go_request.position go_request.eval (depths_done + 1) (omega arith))
begun_cost_at go_request first depths_done above false e f b a =
    let k : depths_done + 1 - 1 ≡ depths_done = omega arith in
    let c : sum_of_tree_sizes go_request.position depths_done (legal_codes go_request.position) ≡ tree_size (after go_request.position first) depths_done + sum_of_tree_sizes go_request.position depths_done (legal_above go_request.position (Some first)) =
    sum_of_tree_sizes-next go_request.position depths_done (code_of first) (after go_request.position first) (legal_codes go_request.position) (legal_above go_request.position (Some first)) (sym (after_code_of go_request.position first b)) f in
    rw k (omega arith)

-- when a depth begins, its cost and that of the depths above bound the load
pub begun_cost : (go_request : GoRequest) (first : Move) (depths_done : ℕ) → depths_done < go_request.depth → IsFirstMove go_request.position first → move_of (code_of first) ≡ Some first
    → load_of (go_at go_request depths_done (first_phase go_request first depths_done) (first_search go_request first depths_done)) ≤ cost_of_depths go_request depths_done (go_request.depth - depths_done)
begun_cost go_request first depths_done h f b =
    rw (cost_of_depths-more go_request depths_done h) (begun_cost_at go_request first depths_done (cost_of_depths go_request (depths_done + 1) (go_request.depth - (depths_done + 1))) (go_request.multi_pv == 1) refl f b refl)

-- the bound of a child is a valid search bound
pub child_window : (go_request : GoRequest) (depths_done : ℕ) (root_move : Move) (ranks : Ranking) → IsValid go_request.position → IsQuestionInRange go_request → depths_done < go_request.depth → IsRankedTo go_request depths_done root_move ranks → (negated INFINITY <ℤ child_beta ranks) × (child_beta ranks ≤ℤ INFINITY)
child_window go_request depths_done root_move ranks ok a h r =
    gone_window go_request.position go_request.eval depths_done r.passed ranks ok (let d = a.depth_fits.most in omega arith) (gone go_request depths_done r.passed ranks r.ranked)

-- a move that is not settled is worth what its child's search finds
pub child_worth : (go_request : GoRequest) (depths_done code : ℕ) → is_settled go_request depths_done ≡ false → worth go_request.position go_request.eval depths_done code ≡ negated (value (after_code go_request.position code) go_request.eval depths_done)
child_worth go_request zero code h = worth_plain go_request.position go_request.eval 0 code h
child_worth go_request (suc d) code h = refl

pub child_legal : (go_request : GoRequest) (depths_done : ℕ) (root_move : Move) (ranks : Ranking) → move_of (code_of root_move) ≡ Some root_move → IsRankedTo go_request depths_done root_move ranks → is_legal go_request.position root_move ≡ true
child_legal go_request depths_done root_move ranks b r =
    listed_to_legal go_request.position root_move b (legal_above_in go_request.position r.passed (code_of root_move) (ap (is_in (code_of root_move)) r.next ∙ first_in (code_of root_move) (legal_above go_request.position (Some root_move))))

-- a root move was ranked, and the child of the next is searched
pub ranked_on : (go_request : GoRequest) (depths_done : ℕ) (root_move m : Move) (new : Ranking) → IsRankedUpTo go_request depths_done (Some root_move) new
    → legal_above go_request.position (Some root_move) ≡ code_of m ∷ legal_above go_request.position (Some m) → IsRankedTo go_request depths_done m new
ranked_on go_request depths_done root_move m new h n = record { passed = Some root_move; next = n; ranked = h }

-- the last root move was ranked
pub ranked_all : (go_request : GoRequest) (depths_done : ℕ) (root_move : Move) (new : Ranking) → IsRankedUpTo go_request depths_done (Some root_move) new → legal_above go_request.position (Some root_move) ≡ [] → IsRanked go_request depths_done new
ranked_all go_request depths_done root_move new h n = record {
  top = gone_all go_request.position (worth go_request.position go_request.eval depths_done) (Some root_move) new (gone go_request depths_done (Some root_move) new h) n;
  most = h.most;
}

pub next_child_cost : (go_request : GoRequest) (depths_done : ℕ) (root_move m : Move) (w : Walked) (s : Progress) (beta : ℤ) → s ≡ untouched_below (after go_request.position m) go_request.eval depths_done beta → after go_request.position m ≡ after_code go_request.position (code_of m)
    → legal_above go_request.position (Some root_move) ≡ code_of m ∷ legal_above go_request.position (Some m) → load_of (running_go_of go_request depths_done 0 (Some m) w s) ≤ load_after_root_move go_request depths_done root_move
next_child_cost go_request depths_done root_move m w s beta e a n =
    let l : s.left ≡ 4 * tree_size (after go_request.position m) depths_done = ap (λ (x : Progress). x.left) e in
    let c : sum_of_tree_sizes go_request.position depths_done (legal_above go_request.position (Some root_move)) ≡ tree_size (after go_request.position m) depths_done + sum_of_tree_sizes go_request.position depths_done (legal_above go_request.position (Some m)) =
    sum_of_tree_sizes-next go_request.position depths_done (code_of m) (after go_request.position m) (legal_above go_request.position (Some root_move)) (legal_above go_request.position (Some m)) a n in
    omega arith

-- the next depth's load is at most that of the depths above
pub next_depth_cost : (go_request : GoRequest) (first : Move) (depths_done : ℕ) (phase : Phase) (s : Progress) → depths_done + 1 < go_request.depth → IsFirstMove go_request.position first → move_of (code_of first) ≡ Some first
    → load_of (go_at go_request (depths_done + 1) (first_phase go_request first (depths_done + 1)) (first_search go_request first (depths_done + 1))) ≤ load_of (go_at go_request depths_done phase s)
next_depth_cost go_request first depths_done phase s h f b = omega (arith, begun_cost go_request first (depths_done + 1) h f b)
