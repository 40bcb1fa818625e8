use Rattle.std.proofs.Common.{◌≡◌, ◌+◌, ◌++◌, ℤ, List, Some, refl, sym, ap, ◌∙◌, arith, rules, length}
use Rattle.std.specs.Prelude.{slice_get}
use Rattle.std.proofs.lemmas.Option.{slice_get_read}
use Rattle.shogi_core.specs.declared.moves.Move.{Move}
use Rattle.shogi_core.specs.Codes.{code_of}
use Rattle.shogi_core.specs.Position.{Shogi}
use Rattle.shogi_moves.specs.After.{after_code}
use Rattle.minimax.specs.Minimax.{pv_cost}
use Rattle.usi_session.specs.Roots.{Root, pv_roots}
use Rattle.usi_session.specs.GoTaskView.{listed_at, lines_roots}
use Rattle.usi_session.specs.Walked.{Walked, walk_cost}
use Rattle.usi_session.proofs.Listed.{IsPair, ranked_length, ranked_pair, listed_legal, pv_by_move, pvs_next}
use Rattle.usi_session.proofs.RootLaws.{pvs_roots-next}
use Rattle.usi_session.proofs.go_task.line_of.Goals as goal

pub apply-next-requires : goal.apply-next-requires
apply-next-requires c =
    let go_request = c.args.depth.now.go_request in
    let x = c.index-list-lines_done.result in
    let n : length c.list.result.now ≡ length (listed_at go_request c.args.depth.now.done) = ap length c.list.ensures.value ∙ ranked_length go_request c.args.depth.now.done c.args.ranks.now c.requires.ranked in
    let at : slice_get c.args.ranks.now.pairs c.args.lines_done ≡ Some x = ap (λ (l : List (Move × ℤ)). slice_get l c.args.lines_done) (sym c.list.ensures.value) ∙ slice_get_read c.list.result.now (length c.list.result.now) c.args.lines_done x refl (omega (arith, n, c.requires.lines_done)) c.index-list-lines_done.is in
    let pair : IsPair go_request c.args.depth.now.done c.args.lines_done x.0 x.1 = ranked_pair go_request c.args.depth.now.done c.args.lines_done c.args.ranks.now x c.requires.ranked at in
    listed_legal go_request.position go_request.eval go_request.multi_pv (c.args.depth.now.done + 1) c.args.lines_done x.0 pair.listed_as c.reveal_invariant.ensures.back

pub returns : goal.returns
returns c =
    let go_request = c.args.depth.now.go_request in
    let x = c.index-list-lines_done.result in
    let n : length c.list.result.now ≡ length (listed_at go_request c.args.depth.now.done) = ap length c.list.ensures.value ∙ ranked_length go_request c.args.depth.now.done c.args.ranks.now c.requires.ranked in
    let at : slice_get c.args.ranks.now.pairs c.args.lines_done ≡ Some x = ap (λ (l : List (Move × ℤ)). slice_get l c.args.lines_done) (sym c.list.ensures.value) ∙ slice_get_read c.list.result.now (length c.list.result.now) c.args.lines_done x refl (omega (arith, n, c.requires.lines_done)) c.index-list-lines_done.is in
    let pair : IsPair go_request c.args.depth.now.done c.args.lines_done x.0 x.1 = ranked_pair go_request c.args.depth.now.done c.args.lines_done c.args.ranks.now x c.requires.ranked at in
    let z : c.after.result.value ≡ x.1 = search rules in
    let rest : List Root = lines_roots go_request c.args.depth.now.done (c.args.lines_done + 1) in
    let cost : walk_cost c.after.result ≡ pv_cost _ go_request.eval c.args.depth.now.done = ap walk_cost c.after.ensures ∙ ap (λ (q : Shogi). pv_cost q go_request.eval c.args.depth.now.done) c.apply-next.ensures.by_code in
    let roots : pv_roots c.after.result.at go_request.eval c.after.result.plies ++ rest ≡ pv_roots (after_code go_request.position (code_of x.0)) go_request.eval c.args.depth.now.done ++ rest =
    ap (λ (w : Walked). pv_roots w.at go_request.eval w.plies ++ rest) c.after.ensures ∙ ap (λ (q : Shogi). pv_roots q go_request.eval c.args.depth.now.done ++ rest) c.apply-next.ensures.by_code in
    record {
      line = record {
        code = code_of x.0;
        listed_as = pair.listed_as;
        pv_is = ap (λ (w : Walked). w.pv) c.after.ensures ∙ pv_by_move go_request.position c.apply-next.result go_request.eval c.args.depth.now.done x.0 c.reveal_invariant.ensures.back c.apply-next.ensures.after;
        value_is = z ∙ pair.value_is;
        eval_is = ap (λ (w : Walked). w.eval) c.after.ensures;
      };
      cost = omega (arith, cost, pvs_next go_request.position go_request.eval c.args.depth.now.done (listed_at go_request c.args.depth.now.done) c.args.lines_done (code_of x.0) pair.listed_as);
      roots = roots ∙ pvs_roots-next go_request.position go_request.eval c.args.depth.now.done (listed_at go_request c.args.depth.now.done) c.args.lines_done (code_of x.0) pair.listed_as;
    }
