-- The counter is asked first. A refusal owns nothing, and an answer of the inner allocator is handed on as it is.
use Rattle.std.proofs.Common.{◌≡◌, ◌^◌, ℕ, Bool, false, List, [], ◌∷◌, refl, ap, w64}
use mir.Syntax.{Fn, Args, a_type, dnil, dcons}
use mir.Val.{Val, vint, vptr}
use mir.MapTy.{inst_fn}
use base.Logic.{SProp, id⊢}
use base.Fml.{ftrue, flft}
use prog.Memory.{size, align, capped}
use contract.BorrowLft.{◌⊑◌, ⊑_trans}
use contract.Monad.{fact}
use contract.Running.{tables}
use types.Kit.{‵, raw, ◌⊛◌, some, later, given, prop, at_ret, Sq, ◌$◌, ◌∵◌, !, qed, move, keep, drop, use0, use1, use2, split, join, learn, fsplit, fjoin, feq_i, feq_l, flt_i, pick, await, suffices, done}
use types.Part.{agg}
use types.Run.{stop, fld, lit, addr, no_more, and_then, first, branches, skips, exec, returns, returns_within, enter}
use types.ByLocal.{env, alloc_all, pass_all, free_all, look_at, get, through, sets, lands_as}
use denote.RattleType.{owns}
use denote.Builtin.{usize, bool, RefOf}
use denote.Exit.{yes}
use denote.Memory.{hidden_shr}
use denote.Opens.{unhide}
use denote.Param.{bounded, param}
use denote.Plain.{uint_vals, uint_Tells}
use denote.Ref.{shr_vals}
use denote.Signature.{Slot, plain, types_at}
use denote.Steps.{heard, nothing, only}
use denote.Triple.Call.{calls_at}
use denote.Triple.Clauses.{lasts}
use denote.Triple.Spec.{triple_of}
use denote.Triple.Table.{framed}
use denote.Triple.Walked.{Stays, stay_dropped, walk_of, ends_at, Goes-dropped}
use Rattle.std.specs.Allocator.{block_if_ok}
use Rattle.std.proofs.alloc.Calls.{Al, Answer, answer_val, Answer-typed, token, got, seen, Takes, at_takes, Takes-goes, Takes-gives}
use Rattle.std.proofs.alloc.Resizes.{result_of, result_own}
use Rattle.std.proofs.alloc.Shapes.{after}
use Rattle.std.proofs.raw_atomic.Walks.{proved}
use Rattle.test_support.proofs.Walks.{inner_at, requests_at, promised}
use Rattle.test_support.specs.contracts.allocator.FailingAllocator as whole
use Rattle.test_support.specs.contracts.requests.Requests as counter
use Rattle.test_support.specs.contracts.requests.Requests.refuses as R
use Rattle.test_support.proofs.requests.Requests.refuses.Met.{met as refuses_met}
use Rattle.test_support.specs.contracts.allocator.FailingAllocatorAllocator.allocate as F
use Rattle.test_support.proofs.allocator.FailingAllocatorAllocator.allocate.Statement.{statement}
use Rattle.test_support.proofs.allocator.FailingAllocatorAllocator.allocate.Code as code

module _ (Z : Al) where
  abbrev args : Args
  args = bounded (a_type ∷ []) (Z.row, tt) (dcons Z.d (dcons Z.drops dnil))

  abbrev handle : Slot 2
  handle = RefOf (0 ∷ []) tt (plain (λ _. whole.the_row (param 0 Z.row))) (λ _. tt)

pub allocate_spec : {M : Type 1} → statement M
allocate_spec 𝓤 𝓛 𝓜 𝓡 wired B laws g d drops met _ =
    let Z : Al = record { row = B; laws = laws; g = g; d = d; drops = drops } in
    let E = F.ended B g d drops in
    let c = F.clauses B g d drops 𝓛 𝓜.mem 𝓡.returns in
    let 𝓣 = tables 𝓤 𝓛.H 𝓜 𝓡 𝓡.env in
    let fn : Fn = inst_fn (args Z) code.function in
    let stays : Stays E.signature.params E.kept = (stay_dropped (handle Z) yes, (stay_dropped (plain (λ _. usize)) yes, (stay_dropped (plain (λ _. usize)) yes, tt))) in
    let number = Goes-dropped 𝓛 2 (plain (λ _. usize)) yes (λ κs x f. refl) in
    proved 𝓛 E stays c 𝓜 𝓡 (Goes-dropped 𝓛 2 (handle Z) yes (λ κs x f. refl), (number, (number, tt)))
    (F.Key.name (args Z)) fn (code.unfolded 𝓤 𝓛.H 𝓜 𝓡 wired (B, tt) d drops)
    (λ κs. (shr_vals, (uint_vals w64, (uint_vals w64, tt)))) (λ κs. ((λ r vs s. s.0), (uint_Tells w64, (uint_Tells w64, tt)))) (λ κs qs bounds a τ are.
    let κ = κs.0 in let ρ = κs.1.0 in let q = qs.0 in let s = qs.1.0 in
    let r = a.0 in let n = a.1.0 in let al = a.1.1.0 in
    let h : B.Denot = r.now.inner in
    let y : (walk_of 𝓛 E stays c).Ghost = ((κs, qs, bounds, a, (shr_vals r, (vint w64 n ∷ [], (vint w64 al ∷ [], tt)))), τ) in
    let Post : Val → SProp 𝓤 = (walk_of 𝓛 E stays c).post y in
    let Fits : Type 0 = (capped (size τ) ≡ n) × (capped (align τ) ≡ al) in
    let counted = triple_of 𝓛 R.signature (R.spec 𝓛 𝓜.mem 𝓡.returns) in
    let x : counted.Ghost = (((κ, tt), (q, tt), tt, (record { ref_ptr = requests_at Z r; now = r.now.requests }, (n, tt)), (vptr (requests_at Z r).0 (requests_at Z r).1 ∷ [], (vint w64 n ∷ [], tt))), tt) in
    let taken = Takes Z 𝓛 𝓜.mem 𝓡.returns in
    let z : taken.Ghost = at_takes Z 𝓛 𝓜.mem 𝓡.returns κ q (inner_at Z r) h n al τ in
    -- [what comes with the answer; the two tokens]
    let out : (t : Bool) (b o : ℕ) → Sq 𝓛 (‵ (got (token Z h) τ t b o) ∷ ‵ (flft κ q) ∷ (‵ (flft ρ s) ⊛ ‵ ftrue) ∷ []) (prop (Post (answer_val t b o))) = λ t b o.
    suffices ! _ (ends_at 𝓛 E stays c y (answer_val t b o) (result_of t b o) (tt, (tt, (tt, tt))) (tt, (tt, (tt, tt)))) $
    use1 𝓛 (‵ (block_if_ok (token Z h) τ (result_of t b o))) (promised Z 𝓛 h τ t b o) $
    use0 𝓛 (‵ (Answer.own_val (result_of t b o) (answer_val t b o ∷ []))) (result_own 𝓛 t b o) $
    nothing ! $ nothing ! $ fjoin ! $ nothing ! $ fjoin ! $ nothing ! $ fjoin ! $ join ! $ move ! (2 ∷ 3 ∷ []) $ join ! $ join ! $ done ! in
    qed 𝓛 (((‵ (flft κ q) ⊛ ‵ (flft ρ s) ⊛ ‵ ftrue) ⊛ ‵ (owns (types_at E.signature.params κs) a y.0.4)) ∷ (raw (fact 𝓤 (ρ ⊑ B.lives)) ⊛ raw (fact 𝓤 Fits)) ∷ []) ∵
    move ! (1 ∷ []) $ split ! $ heard ! (ρ ⊑ B.lives) (λ lives. heard ! Fits (λ fits.
    split ! $ split ! $ move ! (2 ∷ []) $ fsplit ! $ fsplit ! $ move ! (1 ∷ []) $ unhide ! $ fsplit ! $ fsplit ! $ move ! (1 ∷ []) $ fsplit ! $
    -- [the counter; the inner allocator; the two tokens]
    keep ! (0 ∷ 2 ∷ 6 ∷ 7 ∷ []) $
    enter ! 𝓣.C 𝓣.Λ fn _ _ $ alloc_all ! (λ l. pass_all ! refl ((tt, tt), ((tt, record { fits = are.1.0.1 }), ((tt, record { fits = are.1.1.0.1 }), tt))) $
    sets ! (addr ! (through ! refl (fld ! refl (stop !)))) refl (tt, tt) $
    use1 𝓛 (‵ (hidden_shr counter.the_row κ r.now.requests (requests_at Z r).0 (requests_at Z r).1)) (id⊢ 𝓤 _) $
    nothing ! $ flt_i ! n (2 ^ 64) are.1.0.1 $ feq_i ! (List Val) (vint w64 n ∷ []) (vint w64 n ∷ []) refl $ fjoin ! $ fjoin ! $
    move ! (1 ∷ []) $ feq_i ! (List Val) (vptr (requests_at Z r).0 (requests_at Z r).1 ∷ []) _ refl $ fjoin ! $ fjoin ! $
    nothing ! $ move ! (3 ∷ 0 ∷ []) $ join ! $ join ! $ nothing ! $ move ! (1 ∷ 0 ∷ []) $ use2 𝓛 (raw (counted.pre x)) (id⊢ 𝓤 _) $
    calls_at ! (framed 𝓤 𝓛.H 𝓜 𝓣) counted (refuses_met 𝓤 𝓛 𝓜 𝓡 (code.calls-test_support::requests::Requests::refuses 𝓡.env wired)) x (and_then ! (get ! refl) (and_then ! (get ! refl) (no_more !))) (λ v.
    use1 𝓛 (later (some (λ (b : Bool). ((‵ (flft κ q) ⊛ ‵ ftrue) ⊛ ‵ (bool.own_val b (v ∷ []))) ⊛ some (λ (ws : Unit {0} × (Unit {0} × Unit {0})). ‵ (lasts R.ended x.0.0 x.0.3 ws) ⊛ ‵ ftrue)))) (id⊢ 𝓤 _) $
    await ! tt $ pick ! (λ b. split ! $ split ! $ split ! $ move ! (2 ∷ []) $ feq_l ! (λ e. move ! (1 ∷ 2 ∷ []) $ drop ! $ drop ! $
    -- [the token; the inner allocator; the other token]
    lands_as ! (ap only e) refl (tt, tt) $ first ! $ branches ! (get ! refl)
    (λ refused. move ! (1 ∷ []) $ drop ! $ sets ! (agg ! (no_more !)) refl (tt, tt) $
    sets ! (agg ! (and_then ! (lit ! tt) (and_then ! (get ! refl) (no_more !)))) refl (Answer-typed false 0 0) $
    returns_within ! Post refl (look_at ! 0 refl) $ free_all ! refl $ nothing ! $ out false 0 0)
    (λ allowed. skips ! $ exec ! 𝓣.C 𝓣.Λ (env fn.locals l) (after 3 fn.body) (at_ret _ Post) $
    sets ! (addr ! (through ! refl (fld ! refl (stop !)))) refl (tt, tt) $
    move ! (1 ∷ []) $ use1 𝓛 (‵ (seen Z κ (inner_at Z r) h)) (id⊢ 𝓤 _) $
    use2 𝓛 (raw (taken.pre z)) (Takes-goes Z 𝓛 𝓜.mem 𝓡.returns κ q (inner_at Z r) h (⊑_trans κ ρ B.lives bounds.0 lives) n al τ fits.0 fits.1 are.1.0.1 are.1.1.0.1) $
    calls_at ! (framed 𝓤 𝓛.H 𝓜 𝓣) taken (met.allocate drops) z (and_then ! (get ! refl) (and_then ! (get ! refl) (and_then ! (get ! refl) (no_more !)))) (λ u.
    use1 𝓛 (later (some (λ (t : Bool × (ℕ × ℕ)). given (u ≡ answer_val t.0 t.1.0 t.1.1) (‵ (got (token Z h) τ t.0 t.1.0 t.1.1))) ⊛ ‵ (flft κ q))) (Takes-gives Z 𝓛 𝓜.mem 𝓡.returns κ q (inner_at Z r) h n al τ u) $
    await ! tt $ split ! $ pick ! (λ t. learn ! (λ e'. lands_as ! e' refl (Answer-typed t.0 t.1.0 t.1.1) $
    returns ! (look_at ! 0 refl) $ free_all ! refl $ out t.0 t.1.0 t.1.1)))))))))))
