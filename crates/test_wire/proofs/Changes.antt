-- What a change of one peer leaves, and what is reported of it.
use Rattle.std.proofs.Common.{◌≡◌, ◌≢◌, ◌∙◌, ℕ, zero, suc, ◌<◌, ◌≤◌, ◌++◌, cond, Bool, true, false, List, [], ◌∷◌, length, set, get_or, slice_get, take, ◌↔◌, Option, None, Some, Result, Ok, Err, refl, sym, ap, subst, arith}
use Rattle.std.proofs.lemmas.Option.{slice_get_read, get_or_from_slice_get}
use Rattle.std.specs.Prelude.{IfErr, IfOk, OnErr}
use Rattle.std.specs.Option.{option_map}
use Rattle.std.specs.Io.KnownBytes.{Keeps}
use Rattle.std.proofs.KnownBytes.{Keeps-refl}
use Rattle.transport.specs.declared.wire.Got.{Got}
use Rattle.transport.specs.declared.wire.Got.TheVariants.{Bytes, Nothing, Ended}
use Rattle.transport.specs.declared.wire.WireFault.{WireFault}
use Rattle.transport.specs.declared.wire.WireFault.TheVariants.{Device, OutOfMemory}
use Rattle.transport.specs.Report.{KeepsAll, KeepsOthers, IsRaised, Stays, Reads, Writes, IsWithin, EndsAt, bytes_read, bytes_written}
use Rattle.transport.proofs.Reported.{Appends-none, Consumes-none, kept_same, stays-refl}
use Rattle.test_wire.specs.Memory.{PeerState, WireState, HasGiven, IsKnown, MarksFailure, after_failing, after_read, after_write, bytes_left, called, change_at, changed, failed, failing, fails_for, given_by, giving, new_peer, peer_of, report_by, report_of, taking, unread_of}

-- ---- lists

get_set : {X : Type 0} (xs : List X) (i : ℕ) (y : X) → i < length xs → slice_get (set xs i y) i ≡ Some y
get_set [] i y h = absurd (omega (arith, h))
get_set (x ∷ xs) zero y h = refl
get_set (x ∷ xs) (suc i) y h = get_set xs i y (omega (arith, h))

get_other : {X : Type 0} (xs : List X) (i j : ℕ) (y : X) → j ≢ i → slice_get (set xs i y) j ≡ slice_get xs j
get_other [] i j y n = refl
get_other (x ∷ xs) zero zero y n = absurd (n refl)
get_other (x ∷ xs) zero (suc j) y n = refl
get_other (x ∷ xs) (suc i) zero y n = refl
get_other (x ∷ xs) (suc i) (suc j) y n = get_other xs i j y (λ e. n (ap suc e))

-- where there is no such peer nothing changes
get_changed : (f : PeerState → PeerState) (peers : List PeerState) (number : ℕ) → slice_get (change_at f number peers) number ≡ option_map f (slice_get peers number)
get_changed f [] number = refl
get_changed f (p ∷ peers) zero = refl
get_changed f (p ∷ peers) (suc n) = get_changed f peers n

-- the peer of a number that is given
peer_is : (peers : List PeerState) (number : ℕ) (p : PeerState) → number < length peers → p ≡ get_or peers number p → p ≡ get_or peers number (new_peer [])
peer_is peers number p known is = sym (get_or_from_slice_get peers number p (new_peer []) (slice_get_read peers (length peers) number p refl known is))

-- a number that is known is that of a peer
pub known_within : (peers : List PeerState) (number : ℕ) → IsKnown (report_of peers) number → number < length peers
known_within [] number k = let e : false ≡ true = k in absurd (cc)
known_within (p ∷ peers) zero k = omega arith
known_within (p ∷ peers) (suc n) k = let h : n < length peers = known_within peers n k in omega arith

-- ---- states

-- one peer was changed
pub changed_is : (w v : WireState) (f : PeerState → PeerState) (number : ℕ) (p q : PeerState) → v ≡ w → number < length v.peers → p ≡ get_or v.peers number p → q ≡ f p → record v { peers = set v.peers number q } ≡ changed f number w
changed_is w v f number p q same known is change =
    ap (λ (x : PeerState). record v { peers = set v.peers number x }) (change ∙ ap f (peer_is v.peers number p known is))
    ∙ ap (λ (x : WireState). changed f number x) same

-- the peer is that of the number
pub peer_same : (w : WireState) (peers : List PeerState) (number : ℕ) (p : PeerState) → peers ≡ w.peers → number < length peers → p ≡ get_or peers number p → p ≡ peer_of w number
peer_same w peers number p same known is = peer_is peers number p known is ∙ ap (λ (ps : List PeerState). get_or ps number (new_peer [])) same

pub first : {X : Type 0} (b : Bool) (x y : X) → b ≡ true → x ≡ cond b x y
first true x y e = refl
first false x y e = absurd (cc)

pub second : {X : Type 0} (b : Bool) (x y : X) → b ≡ false → y ≡ cond b x y
second true x y e = absurd (cc)
second false x y e = refl

-- a read that does not fail
pub read_is : (w v : WireState) (number room : ℕ) (p q : PeerState) (lent : List ℕ) → v ≡ called w → fails_for w number ≡ false → number < length v.peers → p ≡ get_or v.peers number p → q ≡ giving room p → lent ≡ given_by room p → record v { peers = set v.peers number q; lent = lent } ≡ after_read w number room
read_is w v number room p q lent same passes known is change given =
    ap (λ (x : WireState). record x { lent = lent }) (changed_is (called w) v (giving room) number p q same known is change)
    ∙ (ap (λ (xs : List ℕ). record (changed (giving room) number (called w)) { lent = xs }) (given ∙ ap (λ (x : PeerState). given_by room x) (peer_same w v.peers number p (ap (λ (x : WireState). x.peers) same) known is))
    ∙ second (fails_for w number) (after_failing w number) (record (changed (giving room) number (called w)) { lent = given_by room (peer_of w number) }) passes)

-- what fits a smaller room fits a larger one
pub within_more : (r : Result Got WireFault) (room most : ℕ) (lent : List ℕ) → room ≤ most → IsWithin r room lent → IsWithin r most lent
within_more (Ok Bytes) room most lent le within = (within.0, omega (arith, within.1))
within_more (Ok Nothing) room most lent le within = tt
within_more (Ok Ended) room most lent le within = tt
within_more (Err fault) room most lent le within = tt

-- a write that does not fail
pub write_is : (w v : WireState) (number : ℕ) (buf : List ℕ) (p q : PeerState) (result : Result ℕ WireFault) → v ≡ called w → number < length v.peers → p ≡ get_or v.peers number p
    → IfOk result (λ n. q ≡ taking (take n buf) p) → OnErr result (q ≡ failing p) → IfErr result (λ fault. fault ≡ OutOfMemory)
    → record v { peers = set v.peers number q } ≡ after_write w number buf result
write_is w v number buf p q (Ok n) same known is ok err fault = changed_is (called w) v (taking (take n buf)) number p q same known is ok
write_is w v number buf p q (Err Device) same known is ok err fault = absurd (cc)
write_is w v number buf p q (Err OutOfMemory) same known is ok err fault = changed_is (called w) v failing number p q same known is err

-- a peer fails for memory alone
pub never_device : (result : Result ℕ WireFault) (b : Bool) → b ≡ false → IfErr result (λ fault. fault ≡ OutOfMemory) → (result ≡ Err Device) ↔ (b ≡ true)
never_device (Ok n) b e f = ((λ d. absurd (cc)), (λ t. absurd (cc)))
never_device (Err x) b e f = ((λ d. absurd (cc)), (λ t. absurd (cc)))

-- a call that is counted changes no peer
pub counted_peers : (b : Bool) (w v : WireState) → v ≡ cond b (failed (called w)) (called w) → v.peers ≡ w.peers
counted_peers true w v e = ap (λ (x : WireState). x.peers) e
counted_peers false w v e = ap (λ (x : WireState). x.peers) e

-- ---- reports

-- where the peers are the same all is kept
pub all_kept : (w v : WireState) → v.peers ≡ w.peers → KeepsAll (report_by w) (report_by v)
all_kept w v e = subst (λ (ps : List PeerState). KeepsAll (report_by w) (report_of ps)) (sym e) (kept_same (report_by w))

others_kept : (peers : List PeerState) (number : ℕ) (q : PeerState) → KeepsOthers (report_of peers) (report_of (set peers number q)) number
others_kept peers number q other apart =
    let e : slice_get (set peers number q) other ≡ slice_get peers other = get_other peers number other q apart in
    record { unread = rw e (Keeps-refl _); given = tt; written = rw e (Keeps-refl _); shut = rw e (stays-refl _); failed = rw e (stays-refl _) }

-- a read that a peer answers
pub reads : (old peers : List PeerState) (number room : ℕ) (p q : PeerState) (got : Got) (lent : List ℕ) → peers ≡ old → number < length peers → p ≡ get_or peers number p → q ≡ giving room p
    → HasGiven p q (bytes_read (Ok got) lent) → EndsAt (Ok got) (Some (unread_of q))
    → Reads (report_of old) (report_of (set peers number q)) number (Ok got) lent
reads old peers number room p q got lent same known is change given ended =
    let before : slice_get peers number ≡ Some p = slice_get_read peers (length peers) number p refl known is in
    let after : slice_get (set peers number q) number ≡ Some q = get_set peers number q known in
    subst (λ (ps : List PeerState). Reads (report_of ps) (report_of (set peers number q)) number (Ok got) lent) same (record {
      consumed = rw (before, after) given;
      given = tt;
      ended = rw after ended;
      written = rw (before, after) (ap (λ (x : PeerState). x.written) change);
      shut = rw (before, after) (ap (λ (x : PeerState). Some x.is_shut) change);
      failed = rw (before, after) (ap (λ (x : PeerState). Some x.has_failed) change);
      others = others_kept peers number q;
    })

-- a write that a peer answers
pub writes : (old peers : List PeerState) (number : ℕ) (p q : PeerState) (result : Result ℕ WireFault) (buf : List ℕ) → peers ≡ old → number < length peers → p ≡ get_or peers number p
    → IfOk result (λ n. n ≤ length buf) → q.written ≡ p.written ++ bytes_written result buf → q.chunks ≡ p.chunks → q.is_shut ≡ p.is_shut → MarksFailure result p q
    → Writes (report_of old) (report_of (set peers number q)) number result buf
writes old peers number p q result buf same known is within written chunks shut failed =
    let before : slice_get peers number ≡ Some p = slice_get_read peers (length peers) number p refl known is in
    let after : slice_get (set peers number q) number ≡ Some q = get_set peers number q known in
    subst (λ (ps : List PeerState). Writes (report_of ps) (report_of (set peers number q)) number result buf) same (record {
      within = within;
      appended = rw (before, after) written;
      unread = rw (before, after) (ap bytes_left chunks);
      given = tt;
      shut = rw (before, after) (ap Some shut);
      failed = rw (before, after) failed;
      others = others_kept peers number q;
    })

-- ---- a call that fails

failing_unread : (o : Option PeerState) → Keeps (option_map unread_of o) (option_map unread_of (option_map failing o))
failing_unread None = tt
failing_unread (Some p) = refl

failing_written : (o : Option PeerState) → Keeps (option_map (λ p. p.written) o) (option_map (λ p. p.written) (option_map failing o))
failing_written None = tt
failing_written (Some p) = refl

failing_shut : (o : Option PeerState) → Stays (option_map (λ p. p.is_shut) o) (option_map (λ p. p.is_shut) (option_map failing o))
failing_shut None = tt
failing_shut (Some p) = refl

failing_failed : (o : Option PeerState) → IsRaised (option_map (λ p. p.has_failed) o) (option_map (λ p. p.has_failed) (option_map failing o))
failing_failed None = tt
failing_failed (Some p) = refl

-- the read of a number fails
pub reads_failing : (w v : WireState) (number : ℕ) (lent : List ℕ) → v ≡ after_failing w number → Reads (report_by w) (report_by v) number (Err Device) lent
reads_failing w v number lent same =
    let e : slice_get (change_at failing number w.peers) number ≡ option_map failing (slice_get w.peers number) = get_changed failing w.peers number in
    subst (λ (x : WireState). Reads (report_by w) (report_by x) number (Err Device) lent) (sym same) (record {
      consumed = rw e (Consumes-none _ _ (failing_unread _));
      given = tt;
      ended = tt;
      written = rw e (failing_written _);
      shut = rw e (failing_shut _);
      failed = rw e (failing_failed _);
      others = others_kept w.peers number (failing (peer_of w number));
    })

-- the write to a number fails
pub writes_failing : (w v : WireState) (number : ℕ) (buf : List ℕ) → v ≡ after_failing w number → Writes (report_by w) (report_by v) number (Err Device) buf
writes_failing w v number buf same =
    let e : slice_get (change_at failing number w.peers) number ≡ option_map failing (slice_get w.peers number) = get_changed failing w.peers number in
    subst (λ (x : WireState). Writes (report_by w) (report_by x) number (Err Device) buf) (sym same) (record {
      within = tt;
      appended = rw e (Appends-none _ _ (failing_written _));
      unread = rw e (failing_unread _);
      given = tt;
      shut = rw e (failing_shut _);
      failed = rw e (failing_failed _);
      others = others_kept w.peers number (failing (peer_of w number));
    })
