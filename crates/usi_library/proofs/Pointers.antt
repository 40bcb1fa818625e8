-- The machine values of a `Loose` and of a `Hand`, and the steps of walks that take one apart or make it.
use Rattle.std.proofs.Common.{◌≡◌, ℕ, List, [], ◌∷◌, ◌++◌, refl, subst}
use mathlib.Core.Bool.{true, false≢true, ◌&&◌}
use lib.Dec.{T, lit<}
use seplogic.Ra.Ura.{Ura}
use mir.Syntax.{w64, tnil, dnil, impl}
use mir.Raw.{raw as bare}
use mir.Val.{Val, vint, vptr, vstruct, vcons, vnil, of_list, has_ty, WT}
use base.Logic.{never, fst∗}
use types.Logic.{Logic, sem}
use types.Kit.{Item, Goal, Seq, Step, step, ‵, ◌$◌, move, drop, rewrite, fsplit, fjoin, fpick, fpack, feq_i, feq_l}
use denote.RattleType.{RattleType, Valss}
use denote.RawPtr.{Ptr, RawPtr, block_ptr, null_ptr, ptr_val, in_a_block}
use denote.Memory.{lone}
use denote.Steps.{nothing}
use denote.Param.{layout}
use denote.Param.Laws.{Laws}
use denote.Struct.Struct.{within}
use denote.Struct.Owning.{shape}
use Rattle.std.proofs.alloc.Calls.{Al, handle_tells}
use Rattle.std.proofs.cell.Inside.{Good}
use Rattle.std.specs.Prelude.{Option, Some, None, IsSome}
use Rattle.std.specs.contracts.alloc.Global as heap
use Rattle.std.specs.declared.alloc.Global.{Global}
use Rattle.std.specs.declared.alloc.Allocator.{Ghosts}
use Rattle.std.proofs.alloc.Global.TheLaws as heap_laws
use Rattle.std.specs.contracts.impls.GlobalAllocator.TheImpl.{ghosts}
use Rattle.std.specs.Box.Ownership.{box_owns}
use Rattle.std.proofs.ResultValues.{and_tt}
use Rattle.usi_library.specs.Held.{holds}
use Rattle.usi_library.specs.declared.opened.Opened.{Opened}
use Rattle.usi_library.specs.declared.hand.Hand.{Hand}
use Rattle.usi_library.specs.contracts.opened.Opened as opened
use Rattle.usi_library.specs.contracts.loose.Loose as loose
use Rattle.usi_library.specs.contracts.hand.Hand as hand

-- a pointer, and a handle to an allocator
abbrev pub beside : Val → Val → Val
beside v w = vstruct (vcons v (vcons w vnil))

-- the handle's machine value is told by what is owned of it
abbrev pub handle_of : (A : RattleType) → Laws A → Ghosts A.Denot → Al
handle_of A LA g = record { row = A; laws = LA; g = g; d = impl [] tnil dnil; drops = impl [] tnil dnil }

abbrev pub heap_handle : Al
heap_handle = handle_of heap.the_row heap_laws.the_row_laws ghosts

pub good_at : (A : RattleType) (b o : ℕ) (h : Val) → Good (layout A) h → T (has_ty (layout A) h && true) × WT (beside (vptr b o) h)
good_at A b o h fits = (and_tt (has_ty (layout A) h) fits.0, (tt, (fits.1, tt)))

pub good_at_null : (h : Val) → Good (layout heap.the_row) h → T (has_ty (layout heap.the_row) h && true) × WT (beside (vint w64 0) h)
good_at_null h fits = (and_tt (has_ty (layout heap.the_row) h) fits.0, (record { fits = lit< tt }, (fits.1, tt)))

-- the value of an option that is some
pub held : (value : Option Opened) → IsSome value → (x : Opened) × (value ≡ Some x)
held (Some x) is_some = (x, refl)
held None is_some = absurd (false≢true is_some)

module _ (X A : RattleType) (LA : Laws A) (g : Ghosts A.Denot) {M : Type 1} {𝓤 : Ura M} {𝓛 : Logic 𝓤} {K : Type 0} {Γ : List (Item 𝓤)} {G : Goal 𝓤 𝓛.H} where
  -- nothing lies at null, so the pointer is to a block
  pub loose_out : K → (d : (loose.the_row X A g).Denot) (vs : List Val)
      → ((b o : ℕ) (h : Val) → d.at ≡ block_ptr b o → vs ≡ beside (vptr b o) h ∷ [] → Good (layout A) h → Seq K 𝓛 (‵ (box_owns (g.dealloc_token d.alloc) X (block_ptr b o) d.value) ∷ ‵ (A.own_val d.alloc (h ∷ [])) ∷ Γ) G)
      → Seq K 𝓛 (‵ ((loose.the_row X A g).own_val d vs) ∷ Γ) G
  loose_out t d vs then =
      fsplit t $ fpick t (λ vss. fsplit t $ feq_l t (λ whole. fsplit t $ feq_l t (λ pointer. fsplit t $ handle_tells (handle_of A LA g) t d.alloc vss.1.0 (λ h handle fits.
      move t (1 ∷ []) $ drop t $ move t (1 ∷ []) $
      in_a_block t d.at (λ p. box_owns (g.dealloc_token d.alloc) X p d.value) (fst∗ 𝓤 (never 𝓤) (sem 𝓛 (g.dealloc_token d.alloc (bare (lone X.mir)) null_ptr))) (λ b o at. then b o h at
      (subst (λ (p : Ptr). vs ≡ vstruct (of_list (ptr_val p ∷ h ∷ [])) ∷ []) at
      (subst (λ (hs : List Val). vs ≡ vstruct (of_list (ptr_val d.at ∷ (hs ++ []))) ∷ []) handle (subst (λ (ps : List Val). vs ≡ vstruct (of_list (ps ++ (vss.1.0 ++ []))) ∷ []) pointer whole))) fits)))))

  pub loose_in : K → (b o : ℕ) (h : Val) (a : A.Denot) (x : X.Denot)
      → Step K 𝓛 (‵ ((loose.the_row X A g).own_val (record { at = block_ptr b o; alloc = a; value = x }) (beside (vptr b o) h ∷ [])) ∷ Γ) G (‵ (box_owns (g.dealloc_token a) X (block_ptr b o) x) ∷ ‵ (A.own_val a (h ∷ [])) ∷ Γ) G
  loose_in t b o h a x = step (λ rest. let v : Val = beside (vptr b o) h in
      nothing t $ move t (2 ∷ 0 ∷ []) $ fjoin t $ feq_i t (List Val) (vptr b o ∷ []) (vptr b o ∷ []) refl $ fjoin t $ feq_i t (List Val) (v ∷ []) (v ∷ []) refl $ fjoin t $
      fpack t (Valss (RawPtr ∷ A ∷ [])) (within (shape (loose.the_type X A g)) (block_ptr b o, (a, tt)) (v ∷ [])) (vptr b o ∷ [], (h ∷ [], tt)) $ fjoin t $ rest)

module _ {M : Type 1} {𝓤 : Ura M} {𝓛 : Logic 𝓤} {K : Type 0} {Γ : List (Item 𝓤)} {G : Goal 𝓤 𝓛.H} where
  pub hand_out : K → (d : Hand) (x : Opened) → d.value ≡ Some x → (vs : List Val)
      → ((b o : ℕ) (h : Val) → vs ≡ beside (vptr b o) h ∷ [] → Good (layout heap.the_row) h → Seq K 𝓛 (‵ (box_owns (ghosts.dealloc_token d.alloc) opened.the_row (block_ptr b o) x) ∷ ‵ (heap.the_row.own_val d.alloc (h ∷ [])) ∷ Γ) G)
      → Seq K 𝓛 (‵ (hand.the_row.own_val d vs) ∷ Γ) G
  hand_out t d x is vs then =
      fsplit t $ fpick t (λ vss. fsplit t $ feq_l t (λ whole. fsplit t $ feq_l t (λ pointer. fsplit t $ handle_tells heap_handle t d.alloc vss.1.0 (λ h handle fits.
      move t (1 ∷ []) $ drop t $ move t (1 ∷ []) $ rewrite t 0 (λ (value : Option Opened). ‵ (holds opened.the_row d.alloc d.at value)) is refl $
      in_a_block t d.at (λ p. box_owns (ghosts.dealloc_token d.alloc) opened.the_row p x) (fst∗ 𝓤 (never 𝓤) (sem 𝓛 (ghosts.dealloc_token d.alloc (bare (lone opened.the_row.mir)) null_ptr))) (λ b o at. then b o h
      (subst (λ (p : Ptr). vs ≡ vstruct (of_list (ptr_val p ∷ h ∷ [])) ∷ []) at
      (subst (λ (hs : List Val). vs ≡ vstruct (of_list (ptr_val d.at ∷ (hs ++ []))) ∷ []) handle (subst (λ (ps : List Val). vs ≡ vstruct (of_list (ps ++ (vss.1.0 ++ []))) ∷ []) pointer whole))) fits)))))

  pub hand_in : K → (b o : ℕ) (h : Val) (a : Global) (x : Opened)
      → Step K 𝓛 (‵ (hand.the_row.own_val (record { at = block_ptr b o; alloc = a; value = Some x }) (beside (vptr b o) h ∷ [])) ∷ Γ) G (‵ (box_owns (ghosts.dealloc_token a) opened.the_row (block_ptr b o) x) ∷ ‵ (heap.the_row.own_val a (h ∷ [])) ∷ Γ) G
  hand_in t b o h a x = step (λ rest. let v : Val = beside (vptr b o) h in
      nothing t $ move t (2 ∷ 0 ∷ []) $ fjoin t $ feq_i t (List Val) (vptr b o ∷ []) (vptr b o ∷ []) refl $ fjoin t $ feq_i t (List Val) (v ∷ []) (v ∷ []) refl $ fjoin t $
      fpack t (Valss (RawPtr ∷ heap.the_field.row ∷ [])) (within (shape hand.the_type) (block_ptr b o, (heap.the_field.into a, tt)) (v ∷ [])) (vptr b o ∷ [], (h ∷ [], tt)) $ fjoin t $ rest)

  pub empty_in : K → (h : Val) (a : Global)
      → Step K 𝓛 (‵ (hand.the_row.own_val (record { at = null_ptr; alloc = a; value = None }) (beside (vint w64 0) h ∷ [])) ∷ Γ) G (‵ (heap.the_row.own_val a (h ∷ [])) ∷ Γ) G
  empty_in t h a = step (λ rest. let v : Val = beside (vint w64 0) h in
      nothing t $ nothing t $ move t (2 ∷ 0 ∷ []) $ fjoin t $ feq_i t (List Val) (vint w64 0 ∷ []) (vint w64 0 ∷ []) refl $ fjoin t $ feq_i t (List Val) (v ∷ []) (v ∷ []) refl $ fjoin t $
      fpack t (Valss (RawPtr ∷ heap.the_field.row ∷ [])) (within (shape hand.the_type) (null_ptr, (heap.the_field.into a, tt)) (v ∷ [])) (vint w64 0 ∷ [], (h ∷ [], tt)) $ fjoin t $ rest)
