-- What is owned behind the pointer that C has of a session (own choice).
use base.Fml.{Fml, ftrue}
use denote.RattleType.{RattleType}
use denote.RawPtr.{Ptr}
use Rattle.std.specs.declared.alloc.Global.{Global}
use Rattle.std.specs.Prelude.{Option, None, Some}
use Rattle.std.specs.contracts.impls.GlobalAllocator.TheImpl.{ghosts}
use Rattle.std.specs.Box.Ownership.{box_owns}

-- the value and the right to free its block, if there is one
module _ (R : RattleType) (alloc : Global) (at : Ptr) where
  abbrev pub holds : Option R.Denot → Fml
  holds None = ftrue
  holds (Some value) = box_owns (ghosts.dealloc_token alloc) R at value
