-- What a host returns of a session by its id: nothing if none is open (own choice).
use Rattle.std.specs.Prelude.{◌≡◌, ℕ, List, [], length, Bool, false, nat_lt, Option, Some, None, is_some}
use Rattle.std.specs.Borrow.{Bor}
use Rattle.usi_session.specs.Due.{SessionView, is_pending, wants_input}
use Rattle.host_core.specs.declared.notes.Activity.{Activity}

-- the queued bytes
abbrev pub queued_of : Option SessionView → List ℕ
queued_of None = []
queued_of (Some t) = t.queued

abbrev pub IsQueue : Option SessionView → Option (Bor (List ℕ)) → Type 0
IsQueue None None = Unit {0}
IsQueue (Some t) (Some bytes) = bytes.now ≡ t.queued
IsQueue _ _ = ⊥

abbrev pub pending_of : Option SessionView → Bool
pending_of None = false
pending_of (Some t) = is_pending t

abbrev pub wants_input_of : Option SessionView → Bool
wants_input_of None = false
wants_input_of (Some t) = wants_input t

abbrev pub is_over_of : Option SessionView → Bool
is_over_of None = false
is_over_of (Some t) = t.state.is_over

-- the activity of a session
abbrev pub activity_of : Option SessionView → Activity
activity_of found = record {
  is_open = is_some found;
  wants_input = wants_input_of found;
  is_pending = pending_of found;
  has_output = nat_lt 0 (length (queued_of found));
  is_over = is_over_of found;
}
