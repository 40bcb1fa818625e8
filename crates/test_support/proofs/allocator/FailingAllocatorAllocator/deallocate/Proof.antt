-- The counter is kept, and the inner allocator, from which the block is, takes it back.
use Rattle.std.proofs.Common.{◌≡◌, ◌^◌, ℕ, List, [], ◌∷◌, refl, ap, w64}
use mir.Syntax.{Fn, Args, a_type, dnil, dcons}
use mir.Val.{Val, vunit, vint, vptr}
use mir.MapTy.{inst_fn}
use base.Logic.{id⊢, fst∗, never}
use base.Fml.{ftrue, flft}
use prog.Memory.{size, align, capped}
use prog.Wp.{WpFn}
use types.Logic.{sem}
use contract.BorrowLft.{◌⊑◌, ⊑_trans}
use contract.Monad.{fact}
use contract.Running.{tables}
use types.Kit.{‵, raw, ◌⊛◌, some, later, given, prop, ◌$◌, ◌∵◌, !, qed, move, keep, drop, use1, use2, split, split3, join, learn, fsplit, fjoin, feq_i, feq_l, flt_i, pick, await, regoal, suffices, done}
use types.Run.{stop, fld, addr, unit_lit, of_opd, no_more, and_then, returns, enter}
use types.ByLocal.{alloc_all, pass_all, free_all, look_at, get, through, sets, lands_as}
use denote.RattleType.{owns}
use denote.RawPtr.{Ptr, RawPtr, block_ptr, null_ptr, ptr_val, in_a_block, rawptr_vals, rawptr_Tells}
use denote.Builtin.{usize, unit, RefOf}
use denote.Exit.{yes}
use denote.Memory.{hidden_shr}
use denote.Opens.{unhide}
use denote.Param.{bounded, param}
use denote.Plain.{uint_vals, uint_Tells}
use denote.Ref.{shr_vals}
use denote.Signature.{Slot, plain, types_at}
use denote.Steps.{heard, nothing, only}
use denote.Triple.Call.{calls_at}
use denote.Triple.Clauses.{lasts}
use denote.Triple.Spec.{triple_of}
use denote.Triple.Table.{framed}
use denote.Triple.Walked.{Stays, stay_dropped, walk_of, ends_at, Goes-dropped}
use Rattle.std.specs.Allocator.{owned_block}
use Rattle.std.proofs.alloc.Calls.{Al, token, seen, Gives, at_gives, Gives-goes, Gives-Gives}
use Rattle.std.proofs.raw_atomic.Walks.{proved}
use Rattle.test_support.proofs.Walks.{inner_at, requests_at}
use Rattle.test_support.specs.contracts.allocator.FailingAllocator as whole
use Rattle.test_support.specs.contracts.requests.Requests as counter
use Rattle.test_support.specs.contracts.requests.Requests.give_back as R
use Rattle.test_support.proofs.requests.Requests.give_back.Met.{met as give_back_met}
use Rattle.test_support.specs.contracts.allocator.FailingAllocatorAllocator.deallocate as F
use Rattle.test_support.proofs.allocator.FailingAllocatorAllocator.deallocate.Statement.{statement}
use Rattle.test_support.proofs.allocator.FailingAllocatorAllocator.deallocate.Code as code

module _ (Z : Al) where
  abbrev args : Args
  args = bounded (a_type ∷ []) (Z.row, tt) (dcons Z.d (dcons Z.drops dnil))

  abbrev handle : Slot 2
  handle = RefOf (0 ∷ []) tt (plain (λ _. whole.the_row (param 0 Z.row))) (λ _. tt)

pub deallocate_spec : {M : Type 1} → statement M
deallocate_spec 𝓤 𝓛 𝓜 𝓡 wired B laws g d drops met _ =
    let Z : Al = record { row = B; laws = laws; g = g; d = d; drops = drops } in
    let E = F.ended B g d drops in
    let c = F.clauses B g d drops 𝓛 𝓜.mem 𝓡.returns in
    let 𝓣 = tables 𝓤 𝓛.H 𝓜 𝓡 𝓡.env in
    let fn : Fn = inst_fn (args Z) code.function in
    let stays : Stays E.signature.params E.kept = (stay_dropped (handle Z) yes, (stay_dropped (plain (λ _. RawPtr)) yes, (stay_dropped (plain (λ _. usize)) yes, (stay_dropped (plain (λ _. usize)) yes, tt)))) in
    let number = Goes-dropped 𝓛 2 (plain (λ _. usize)) yes (λ κs x f. refl) in
    proved 𝓛 E stays c 𝓜 𝓡 (Goes-dropped 𝓛 2 (handle Z) yes (λ κs x f. refl), (Goes-dropped 𝓛 2 (plain (λ _. RawPtr)) yes (λ κs x f. refl), (number, (number, tt))))
    (F.Key.name (args Z)) fn (code.unfolded 𝓤 𝓛.H 𝓜 𝓡 wired (B, tt) d drops)
    (λ κs. (shr_vals, (rawptr_vals, (uint_vals w64, (uint_vals w64, tt))))) (λ κs. ((λ r vs s. s.0), (rawptr_Tells, (uint_Tells w64, (uint_Tells w64, tt))))) (λ κs qs bounds a τ are.
    let κ = κs.0 in let ρ = κs.1.0 in let q = qs.0 in let s = qs.1.0 in
    let r = a.0 in let n = a.1.1.0 in let al = a.1.1.1.0 in
    let h : B.Denot = r.now.inner in
    let W = walk_of 𝓛 E stays c in
    let y : Ptr → W.Ghost = λ p. ((κs, qs, bounds, (r, (p, (n, (al, tt)))), (shr_vals r, (rawptr_vals p, (vint w64 n ∷ [], (vint w64 al ∷ [], tt))))), τ) in
    let counted = triple_of 𝓛 R.signature (R.spec 𝓛 𝓜.mem 𝓡.returns) in
    let x : counted.Ghost = (((κ, tt), (q, tt), tt, (record { ref_ptr = requests_at Z r; now = r.now.requests }, (n, tt)), (vptr (requests_at Z r).0 (requests_at Z r).1 ∷ [], (vint w64 n ∷ [], tt))), tt) in
    let given_back = Gives Z 𝓛 𝓜.mem 𝓡.returns in
    let z : ℕ → ℕ → given_back.Ghost = λ b o. at_gives Z 𝓛 𝓜.mem 𝓡.returns κ q (inner_at Z r) h b o n al τ in
    let Fits : Type 0 = (capped (size τ) ≡ n) × (capped (align τ) ≡ al) in
    let Block = λ (p : Ptr). owned_block (token Z h) τ p in
    qed 𝓛 (((‵ (flft κ q) ⊛ ‵ (flft ρ s) ⊛ ‵ ftrue) ⊛ ‵ (owns (types_at E.signature.params κs) a (y a.1.0).0.4)) ∷ (raw (fact 𝓤 (ρ ⊑ B.lives)) ⊛ raw (fact 𝓤 Fits) ⊛ ‵ (Block a.1.0)) ∷ []) ∵
    move ! (1 ∷ []) $ split3 ! $ heard ! (ρ ⊑ B.lives) (λ lives. heard ! Fits (λ fits.
    in_a_block ! a.1.0 Block (fst∗ 𝓤 (never 𝓤) (sem 𝓛 (token Z h τ null_ptr))) (λ b o at.
    move ! (1 ∷ []) $ split ! $ split ! $ move ! (2 ∷ []) $ fsplit ! $ fsplit ! $ move ! (1 ∷ []) $ unhide ! $ fsplit ! $ fsplit ! $ move ! (1 ∷ []) $ fsplit ! $
    -- [the counter; the block; the inner allocator; the two tokens]
    keep ! (0 ∷ 8 ∷ 2 ∷ 6 ∷ 7 ∷ []) $
    regoal ! (λ p. prop (WpFn 𝓤 𝓛.H 𝓣.C 𝓣.Λ fn (vptr r.ref_ptr.0 r.ref_ptr.1 ∷ ptr_val p ∷ vint w64 n ∷ vint w64 al ∷ []) (W.post (y p)))) at refl $
    enter ! 𝓣.C 𝓣.Λ fn _ _ $ alloc_all ! (λ l. pass_all ! refl ((tt, tt), ((tt, tt), ((tt, record { fits = are.1.1.0.1 }), ((tt, record { fits = are.1.1.1.0.1 }), tt)))) $
    sets ! (addr ! (through ! refl (fld ! refl (stop !)))) refl (tt, tt) $
    use1 𝓛 (‵ (hidden_shr counter.the_row κ r.now.requests (requests_at Z r).0 (requests_at Z r).1)) (id⊢ 𝓤 _) $
    nothing ! $ flt_i ! n (2 ^ 64) are.1.1.0.1 $ feq_i ! (List Val) (vint w64 n ∷ []) (vint w64 n ∷ []) refl $ fjoin ! $ fjoin ! $
    move ! (1 ∷ []) $ feq_i ! (List Val) (vptr (requests_at Z r).0 (requests_at Z r).1 ∷ []) _ refl $ fjoin ! $ fjoin ! $
    nothing ! $ move ! (4 ∷ 0 ∷ []) $ join ! $ join ! $ nothing ! $ move ! (1 ∷ 0 ∷ []) $ use2 𝓛 (raw (counted.pre x)) (id⊢ 𝓤 _) $
    calls_at ! (framed 𝓤 𝓛.H 𝓜 𝓣) counted (give_back_met 𝓤 𝓛 𝓜 𝓡 (code.calls-test_support::requests::Requests::give_back 𝓡.env wired)) x (and_then ! (get ! refl) (and_then ! (get ! refl) (no_more !))) (λ u.
    use1 𝓛 (later (some (λ (t : Unit {0}). ((‵ (flft κ q) ⊛ ‵ ftrue) ⊛ ‵ (unit.own_val t (u ∷ []))) ⊛ some (λ (ws : Unit {0} × (Unit {0} × Unit {0})). ‵ (lasts R.ended x.0.0 x.0.3 ws) ⊛ ‵ ftrue)))) (id⊢ 𝓤 _) $
    await ! tt $ pick ! (λ t. split ! $ split ! $ split ! $ move ! (2 ∷ []) $ feq_l ! (λ told. move ! (1 ∷ 2 ∷ []) $ drop ! $ drop ! $
    -- [a token; the block; the inner allocator; the other token]
    move ! (1 ∷ 2 ∷ 0 ∷ []) $ lands_as ! (ap only told) refl (tt, tt) $
    sets ! (addr ! (through ! refl (fld ! refl (stop !)))) refl (tt, tt) $
    fsplit ! $ move ! (2 ∷ []) $ use1 𝓛 (‵ (seen Z κ (inner_at Z r) h)) (id⊢ 𝓤 _) $
    move ! (0 ∷ 3 ∷ []) $ join ! $ move ! (2 ∷ 0 ∷ []) $ join ! $ move ! (1 ∷ 0 ∷ []) $
    use2 𝓛 (raw (given_back.pre (z b o))) (Gives-goes Z 𝓛 𝓜.mem 𝓡.returns κ q (inner_at Z r) h (⊑_trans κ ρ B.lives bounds.0 lives) b o n al τ fits.0 fits.1 are.1.1.0.1 are.1.1.1.0.1) $
    calls_at ! (framed 𝓤 𝓛.H 𝓜 𝓣) given_back (met.deallocate drops) (z b o) (and_then ! (get ! refl) (and_then ! (get ! refl) (and_then ! (get ! refl) (and_then ! (get ! refl) (no_more !))))) (λ v.
    use1 𝓛 (later (given (v ≡ vunit) (‵ (flft κ q)))) (Gives-Gives Z 𝓛 𝓜.mem 𝓡.returns κ q (inner_at Z r) h b o n al τ v) $
    await ! tt $ learn ! (λ e. lands_as ! e refl (tt, tt) $
    sets ! (of_opd ! (unit_lit !)) refl (tt, tt) $ returns ! (look_at ! 0 refl) $ free_all ! refl $
    suffices ! _ (ends_at 𝓛 E stays c (y (block_ptr b o)) vunit tt (tt, (tt, (tt, (tt, tt)))) (tt, (tt, (tt, (tt, tt))))) $
    nothing ! $ feq_i ! (List Val) (vunit ∷ []) (vunit ∷ []) refl $
    nothing ! $ nothing ! $ fjoin ! $ nothing ! $ fjoin ! $ nothing ! $ fjoin ! $ nothing ! $ fjoin ! $ join ! $ move ! (2 ∷ 3 ∷ []) $ join ! $ join ! $ done !))))))))))
