-- The slots after a `&mut` to a session is returned.
use Rattle.std.specs.Prelude.{Option}
use Rattle.std.specs.Borrow.{Lends, LendsIf, Fml, RattleType, MutBor}
use Rattle.std.specs.declared.alloc.Allocator.{Ghosts}
use Rattle.session_slots.specs.Slots.{OpenSessions, with_session}
use Rattle.session_slots.specs.declared.id.SessionId.{SessionId}
use Rattle.session_slots.specs.contracts.slots.Slots.{the_row}

module _ (T A : RattleType) (alloc : Ghosts A.Denot) (s : MutBor (OpenSessions T.Denot)) (id : SessionId) where
  -- once the borrow ends, the id finds the session as the borrower left it
  abbrev pub lends_found : MutBor T.Denot → Fml
  lends_found r = Lends (the_row T A alloc) T s r (with_session s.now id)

  -- once the borrow of a session ends, the id finds it as the borrower left it; without a borrow the slots are unchanged
  abbrev pub lends_if_found : Option (MutBor T.Denot) → Fml
  lends_if_found r = LendsIf (the_row T A alloc) T s r (with_session s.now id) s.now
