-- A slot after a `&mut` to its session is returned.
use Rattle.std.specs.Borrow.{Lends, Fml, RattleType, MutBor}
use Rattle.session_slots.specs.Slots.{OpenSession}
use Rattle.session_slots.specs.contracts.slot.Slot.{the_row}

module _ (T : RattleType) where
  -- once the borrow ends, the slot has the session as the borrower left it
  abbrev pub lends_session : MutBor (OpenSession T.Denot) → MutBor T.Denot → Fml
  lends_session s r = Lends (the_row T) T s r (λ t. record s.now { session = t })
