-- What both walks use: the allocator's fields behind a `&`, and the inner allocator's answer.
use Rattle.std.proofs.Common.{ℕ, ◌+◌, Bool, true, false, Bor}
use seplogic.Ra.Ura.{Ura}
use mir.Syntax.{Ty}
use base.Logic.{ent, id⊢}
use prog.Memory.{size, align, up}
use types.Logic.{Logic, sem}
use denote.RattleType.{RattleType}
use Rattle.std.specs.Allocator.{block_if_ok}
use Rattle.std.proofs.alloc.Calls.{Al, α, token, got}
use Rattle.std.proofs.alloc.Resizes.{result_of}
use Rattle.test_support.specs.contracts.allocator.FailingAllocator as whole

module _ (Z : Al) where
  abbrev pub Whole : RattleType
  Whole = whole.the_row Z.row

  -- where the two fields lie
  abbrev pub inner_at : Bor Whole.Denot → ℕ × ℕ
  inner_at r = (r.ref_ptr.0, r.ref_ptr.1 + up (align (α Z)) 0)

  abbrev pub requests_at : Bor Whole.Denot → ℕ × ℕ
  requests_at r = (r.ref_ptr.0, r.ref_ptr.1 + up 8 (up (align (α Z)) 0 + size (α Z)))

  -- what comes with an answer is what the contract promises
  pub promised : {M : Type 1} {𝓤 : Ura M} (𝓛 : Logic 𝓤) (h : Z.row.Denot) (τ : Ty) (y : Bool) (b o : ℕ) → ent 𝓤 (sem 𝓛 (got (token Z h) τ y b o)) (sem 𝓛 (block_if_ok (token Z h) τ (result_of y b o)))
  promised {𝓤 = 𝓤} 𝓛 h τ true b o = id⊢ 𝓤 _
  promised {𝓤 = 𝓤} 𝓛 h τ false b o = id⊢ 𝓤 _
