-- How many turns a session waits at most.
use Rattle.std.proofs.Common.{◌≡◌, ◌⊎◌, ℕ, zero, suc, ◌+◌, ◌*◌, ◌<◌, ◌≤◌, Bool, true, false, Option, Some, None, refl, ap, ◌∙◌, arith, inl, inr, List}
use Rattle.session_slots.specs.declared.id.SessionId.{SessionId}
use Rattle.session_slots.specs.Slots.{find}
use Rattle.usi_session.specs.Due.{SessionView, is_pending, load}
use Rattle.host_core.specs.ById.{pending_of}
use Rattle.host_core.specs.Steps.{HostState}
use Rattle.socket_loop.specs.declared.connection.Link.{Link}
use Rattle.socket_loop.specs.Links.{links_of}
use Rattle.socket_loop.specs.Turns.{Fits}
use Rattle.socket_loop.proofs.Loads.{Nearer, near_turn}
use Rattle.socket_loop.proofs.Runs.{next_rises}
use Rattle.socket_loop.specs.Scenes.{Scene}
use Rattle.socket_loop.specs.Serving.{AreTurns, IsTurnAndWait, past_of}
use Rattle.socket_loop.proofs.WholeLives.{lives_turns}
use Rattle.socket_loop.specs.Patience.{before_last, IsThroughInLast, IsNearer, IsWaiting, AnswersInTime}
use Rattle.socket_loop.specs.Past.{PastTurn, scene_after}

abbrev FitsScene : Scene → Type 0
FitsScene scene = Fits (links_of scene.held) scene.bound scene.host

-- the next generation never falls
nexts : (slice n : ℕ) (a b : Scene) → AreTurns slice n a b → a.host.slots.next ≤ b.host.slots.next
nexts slice zero a b e = (let same : b.host.slots.next ≡ a.host.slots.next = ap (λ (s : Scene). s.host.slots.next) e in omega arith)
nexts slice (suc n) a b p =
    let u : a.host.slots.next ≤ p.0.host.slots.next = nexts slice n a p.0 p.1 in
    let v : p.0.host.slots.next ≤ p.2.middle.host.slots.next = next_rises p.0.host p.2.middle.host p.2.turn.turned.asked.turn.host.steps p.2.turn.turned.asked.turn.host.chain in
    let w : b.host.slots.next ≡ p.2.middle.host.slots.next = ap (λ (h : HostState). h.slots.next) p.2.wait.host in
    omega arith

-- one more turn takes a slice off the load, or nothing is pending
more_made : (slice n : ℕ) (s t u : SessionView) (b : Scene) (id : SessionId) (pending : Bool) → is_pending u ≡ pending → find b.host.slots id ≡ Some u → n * slice + load t ≤ load s → (is_pending u ≡ false) ⊎ (slice + load u ≤ load t) → (pending_of (find b.host.slots id) ≡ false) ⊎ IsNearer slice (suc n) s b id
more_made slice n s t u b id pending e f p (inl none) = inl (ap pending_of f ∙ none)
more_made slice n s t u b id false e f p (inr less) = inl (ap pending_of f ∙ e)
more_made slice n s t u b id true e f p (inr less) = inr (record {
  session = u;
  finds = f;
  pending = e;
  made = (let one : suc n * slice ≡ slice + n * slice = grind arith in omega arith);
})

made_by : (slice n : ℕ) (s t : SessionView) (b : Scene) (id : SessionId) (found_ : Option SessionView) → find b.host.slots id ≡ found_ → n * slice + load t ≤ load s → Nearer slice t found_ → (pending_of (find b.host.slots id) ≡ false) ⊎ IsNearer slice (suc n) s b id
made_by slice n s t b id None e p near = inl (ap pending_of e)
made_by slice n s t b id (Some u) e p near = more_made slice n s t u b id (is_pending u) refl e p near

-- the next generation never falls in the last turns
nexts_last : (slice n more : ℕ) (a b : Scene) (turns : AreTurns slice n a b) → (before_last a more (past_of slice n a b turns)).host.slots.next ≤ b.host.slots.next
nexts_last slice zero zero a b e = nexts slice zero a b e
nexts_last slice (suc n) zero a b turns = omega arith
nexts_last slice zero (suc more) a b e = nexts slice zero a b e
nexts_last slice (suc n) (suc more) a b (m, so_far, last) =
    let u : (before_last a more (past_of slice n a m so_far)).host.slots.next ≤ m.host.slots.next = nexts_last slice n more a m so_far in
    let v : m.host.slots.next ≤ b.host.slots.next = nexts slice 1 m b (m, refl, last) in
    omega arith

fits_last : (slice n more : ℕ) (a b : Scene) (turns : AreTurns slice n a b) → Fits (links_of a.held) a.bound a.host → FitsScene (before_last a more (past_of slice n a b turns))
fits_last slice zero zero a b e fit = fit
fits_last slice (suc n) zero a b turns fit = (lives_turns slice (suc n) a b fit turns).fits
fits_last slice zero (suc more) a b e fit = fit
fits_last slice (suc n) (suc more) a b (m, so_far, last) fit = fits_last slice n more a m so_far fit

next_made : (slice n more : ℕ) (a m b : Scene) (s : SessionView) (id : SessionId) (so_far : AreTurns slice n a m) (last : IsTurnAndWait slice m b) → id.generation < m.host.slots.next → IsNearer slice more s m id → IsThroughInLast (suc more) (past_of slice (suc n) a b (m, so_far, last)) id ⊎ IsNearer slice (suc more) s b id
next_made slice n more a m b s id so_far last lt k =
    elim (near_turn slice last.turn.moved m last.middle last.turn.turned.asked.turn id k.session lt k.finds k.pending) [
      | inl refused ↦ inl (inr (inr refused))
      | inr near ↦ elim (made_by slice more s k.session b id (find b.host.slots id) refl k.made (rw last.wait.host near)) [
        | inl none ↦ inl (inr (inl none))
        | inr more_ ↦ inr more_
      ]
    ]

-- the scene after the turns is the scene before the next
nearer_after : (slice n more : ℕ) (a b : Scene) (turns : AreTurns slice n a b) (id : SessionId) (s : SessionView) → IsNearer slice more s (scene_after a (past_of slice n a b turns)) id → IsNearer slice more s b id
nearer_after slice zero more a b e id s near = rw e near
nearer_after slice (suc n) more a b turns id s near = near

waits : (slice n more : ℕ) (a b : Scene) (turns : AreTurns slice n a b) (l : Link) (s : SessionView) → more ≤ n → l.id.generation < (before_last a more (past_of slice n a b turns)).host.slots.next → IsWaiting (before_last a more (past_of slice n a b turns)) l s → IsThroughInLast more (past_of slice n a b turns) l.id ⊎ IsNearer slice more s (scene_after a (past_of slice n a b turns)) l.id
waits slice n zero a b turns l s le lt w = inr (record { session = s; finds = w.finds; pending = w.pending; made = omega arith })
waits slice zero (suc more) a b turns l s le lt w = absurd (omega arith)
waits slice (suc n) (suc more) a b (m, so_far, last) l s le lt w =
    let u : (before_last a more (past_of slice n a m so_far)).host.slots.next ≤ m.host.slots.next = nexts_last slice n more a m so_far in
    elim (waits slice n more a m so_far l s (omega arith) lt w) [
      | inl through ↦ inl (inl through)
      | inr near ↦ next_made slice n more a m b s l.id so_far last (omega arith) (nearer_after slice n more a m so_far l.id s near)
    ]

enough : (slice more : ℕ) (b : Scene) (turns : List PastTurn) (id : SessionId) (s : SessionView) → load s < more * slice → IsThroughInLast more turns id ⊎ IsNearer slice more s b id → IsThroughInLast more turns id
enough slice more b turns id s lt (inl through) = through
enough slice more b turns id s lt (inr near) = (let m : more * slice + load near.session ≤ load s = near.made in absurd (omega arith))

pub answers_in_time : (slice n : ℕ) (a b : Scene) (turns : AreTurns slice n a b) → Fits (links_of a.held) a.bound a.host → AnswersInTime slice n a (past_of slice n a b turns)
answers_in_time slice n a b turns fit = λ more le.
    let fits = fits_last slice n more a b turns fit in
    record {
      nearer = λ l s w. waits slice n more a b turns l s le (fits l w.held).opened w;
      in_time = λ l s w lt. enough slice more (scene_after a (past_of slice n a b turns)) (past_of slice n a b turns) l.id s lt (waits slice n more a b turns l s le (fits l w.held).opened w);
    }
