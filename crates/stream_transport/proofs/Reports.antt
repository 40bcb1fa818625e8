-- The report of the connections held, and of all others.
use Rattle.std.proofs.Common.{◌≡◌, ◌≢◌, ℕ, ◌≤◌, List, [], ◌++◌, Option, Some, None, Result, Ok, Err, append-nil, length, refl, sym, ap, subst, ◌∙◌, inl, inr}
use Rattle.std.proofs.lemmas.Bool.{cases_eq}
use Rattle.std.specs.Prelude.{IfOk}
use Rattle.std.specs.Io.KnownBytes.{Appends, Consumes, Keeps, prepend_known}
use Rattle.std.proofs.KnownBytes.{Appends-nil, Consumes-nil, Keeps-refl}
use Rattle.transport.specs.Report.{EndsAt, Report, KeepsAll, KeepsOthers, KeepsConnection, Reads, Shuts, Writes, bytes_read, bytes_written}
use Rattle.transport.specs.declared.wire.Got.{Got}
use Rattle.transport.specs.declared.wire.Got.TheVariants.{Nothing}
use Rattle.transport.specs.declared.wire.WireFault.{WireFault}
use Rattle.transport.proofs.Reported.{Appends-none, Consumes-none, kept_same, kept_then, raised_rise, raised_rises, stays-refl, stays_rise, stays_then}
use Rattle.stream_transport.specs.declared.connection.BufferedStream.{BufferedStream}
use Rattle.byte_logs.specs.declared.log.Bytes.{Bytes}
use Rattle.stream_transport.specs.Streams.{HasBack, IsToldShut, KeepsElse, Notes}
use Rattle.stream_transport.specs.Held.{AreAlike, HasGiven, HasTaken, HoldsOthers, IsAlike, bytes_of, given_under, held, none_given, reported, unread_of, written_of}

keeps_nil : (a b : Option (List ℕ)) → Keeps a b → Keeps a (prepend_known [] b)
keeps_nil None b k = tt
keeps_nil (Some x) None k = absurd k
keeps_nil (Some x) (Some y) k = k

-- no byte was read
pub reads_none : (t : Report) (number : ℕ) (lent : List ℕ) → Reads t t number (Ok Nothing) lent
reads_none t number lent = record {
  consumed = Consumes-nil (t.unread number);
  given = Appends-nil (t.given number);
  ended = tt;
  written = Keeps-refl (t.written number);
  shut = stays-refl (t.is_shut number);
  failed = stays-refl (t.has_failed number);
  others = λ other apart. kept_same t other;
}

module _ {S A : Type 0} where
  -- ---- of one number

  keeps_at : (f : BufferedStream S A → Option (List ℕ)) (t u : Option (List ℕ)) (h : Option (BufferedStream S A)) → Keeps t u → Keeps (bytes_of f t h) (bytes_of f u h)
  keeps_at f t u None k = k
  keeps_at f t u (Some p) k = Keeps-refl (f p)

  keeps_is : (f : BufferedStream S A → Option (List ℕ)) (t u : Option (List ℕ)) (a b : Option (BufferedStream S A)) → b ≡ a → Keeps t u → Keeps (bytes_of f t a) (bytes_of f u b)
  keeps_is f t u a b e k = subst (λ x. Keeps (bytes_of f t a) (bytes_of f u x)) (sym e) (keeps_at f t u a k)

  at_end : (P : Option (List ℕ) → Option (List ℕ) → Type 0) (f : BufferedStream S A → Option (List ℕ)) (t u : Option (List ℕ)) (a b : Option (BufferedStream S A)) (p : BufferedStream S A) → a ≡ Some p → b ≡ None → P (f p) u → P (bytes_of f t a) (bytes_of f u b)
  at_end P f t u a b p d e h = subst (λ x. P (bytes_of f t x) (bytes_of f u b)) (sym d) (subst (λ x. P (f p) (bytes_of f u x)) (sym e) h)

  at_start : (P : Option (List ℕ) → Option (List ℕ) → Type 0) (f : BufferedStream S A → Option (List ℕ)) (t u : Option (List ℕ)) (a b : Option (BufferedStream S A)) (q : BufferedStream S A) → a ≡ None → b ≡ Some q → P t (f q) → P (bytes_of f t a) (bytes_of f u b)
  at_start P f t u a b q d e h = subst (λ x. P (bytes_of f t x) (bytes_of f u b)) (sym d) (subst (λ x. P t (bytes_of f u x)) (sym e) h)

  at_both : (P : Option (List ℕ) → Option (List ℕ) → Type 0) (f : BufferedStream S A → Option (List ℕ)) (t u : Option (List ℕ)) (a b : Option (BufferedStream S A)) (p q : BufferedStream S A) → a ≡ Some p → b ≡ Some q → P (f p) (f q) → P (bytes_of f t a) (bytes_of f u b)
  at_both P f t u a b p q d e h = subst (λ x. P (bytes_of f t x) (bytes_of f u b)) (sym d) (subst (λ x. P (f p) (bytes_of f u x)) (sym e) h)

  same_unread : (r : S → Option (List ℕ)) (p q : BufferedStream S A) → q.stream ≡ p.stream → q.buffer.kept ≡ p.buffer.kept → Keeps (unread_of r p) (unread_of r q)
  same_unread r p q s k = subst (λ x. Keeps (unread_of r p) x) (sym (ap (λ x. prepend_known q.buffer.kept (r x)) s ∙ ap (λ x. prepend_known x (r p.stream)) k)) (Keeps-refl (unread_of r p))

  same_written : (c : S → Option (List ℕ)) (p q : BufferedStream S A) → q.stream ≡ p.stream → Keeps (written_of c p) (written_of c q)
  same_written c p q s = subst (λ x. Keeps (written_of c p) x) (sym (ap c s)) (Keeps-refl (written_of c p))

  alike_unread : (r : S → Option (List ℕ)) (t u : Option (List ℕ)) (a b : Option (BufferedStream S A)) → IsAlike a b → Keeps t u → Keeps (bytes_of (unread_of r) t a) (bytes_of (unread_of r) u b)
  alike_unread r t u None b e k = keeps_is (unread_of r) t u None b e k
  alike_unread r t u (Some p) None e k = absurd e
  alike_unread r t u (Some p) (Some q) e k = same_unread r p q e.0 e.1

  alike_written : (c : S → Option (List ℕ)) (t u : Option (List ℕ)) (a b : Option (BufferedStream S A)) → IsAlike a b → Keeps t u → Keeps (bytes_of (written_of c) t a) (bytes_of (written_of c) u b)
  alike_written c t u None b e k = keeps_is (written_of c) t u None b e k
  alike_written c t u (Some p) None e k = absurd e
  alike_written c t u (Some p) (Some q) e k = same_written c p q e.0

  -- ---- of all numbers

  others_kept : (r c : S → Option (List ℕ)) (g h : ℕ → List ℕ) (t u : Report) (old new : List (Option (BufferedStream S A))) (number : ℕ) → HoldsOthers old new number → KeepsOthers t u number → ((other : ℕ) → other ≢ number → h other ≡ g other) → KeepsOthers (reported r c g t old) (reported r c h u new) number
  others_kept r c g h t u old new number holds kept same other apart = record {
    unread = keeps_is (unread_of r) (t.unread other) (u.unread other) (held old other) (held new other) (holds other apart) (kept other apart).unread;
    given = same other apart;
    written = keeps_is (written_of c) (t.written other) (u.written other) (held old other) (held new other) (holds other apart) (kept other apart).written;
    shut = (kept other apart).shut;
    failed = (kept other apart).failed;
  }

  pub alike_keeps : (r c : S → Option (List ℕ)) (g : ℕ → List ℕ) (t u : Report) (old new : List (Option (BufferedStream S A))) → AreAlike old new → KeepsAll t u → KeepsAll (reported r c g t old) (reported r c g u new)
  alike_keeps r c g t u old new alike kept n = record {
    unread = alike_unread r (t.unread n) (u.unread n) (held old n) (held new n) (alike n) (kept n).unread;
    given = refl;
    written = alike_written c (t.written n) (u.written n) (held old n) (held new n) (alike n) (kept n).written;
    shut = (kept n).shut;
    failed = (kept n).failed;
  }

  -- a stream comes under its number
  pub comes : (r c : S → Option (List ℕ)) (g : ℕ → List ℕ) (t u : Report) (old mid new : List (Option (BufferedStream S A))) (number : ℕ) (q : BufferedStream S A) → AreAlike old mid → held mid number ≡ None → held new number ≡ Some q → HoldsOthers mid new number
      → Keeps (t.unread number) (r q.stream) × Keeps (t.written number) (c q.stream) → KeepsElse t u number → q.buffer.kept ≡ [] → KeepsAll (reported r c g t old) (reported r c g u new)
  comes r c g t u old mid new number q alike none some holds out rest nil n =
      kept_then (reported r c g t old) (reported r c g t mid) (reported r c g u new) n
      (alike_keeps r c g t t old mid alike (kept_same t) n)
      (elim (cases_eq n number) [
        | inl same ↦ subst (λ (m : ℕ). KeepsConnection (reported r c g t mid) (reported r c g u new) m) (sym same) (record {
          unread = at_start (λ a b. Keeps a b) (unread_of r) (t.unread number) (u.unread number) (held mid number) (held new number) q none some (subst (λ x. Keeps (t.unread number) (prepend_known x (r q.stream))) (sym nil) (keeps_nil (t.unread number) (r q.stream) out.0));
          given = refl;
          written = at_start (λ a b. Keeps a b) (written_of c) (t.written number) (u.written number) (held mid number) (held new number) q none some out.1;
          shut = rest.shut;
          failed = rest.failed;
        })
        | inr apart ↦ others_kept r c g g t u mid new number holds rest.others (λ other apart. refl) n apart
      ])

  -- no connection is held, and no byte was given
  pub none_held : (r c : S → Option (List ℕ)) (noted : List (ℕ × Bytes)) (t : Report) (places : List (Option (BufferedStream S A))) → noted ≡ [] → places ≡ [] → KeepsAll (none_given t) (reported r c (given_under noted) t places)
  none_held r c noted t places e f = rw (e, f) (λ n. record { unread = Keeps-refl (t.unread n); given = refl; written = Keeps-refl (t.written n); shut = stays-refl (t.is_shut n); failed = stays-refl (t.has_failed n) })

  -- a connection is shut
  pub shuts_held : (r c : S → Option (List ℕ)) (g : ℕ → List ℕ) (t u v : Report) (old new : List (Option (BufferedStream S A))) (number bound : ℕ) (p : BufferedStream S A) → held old number ≡ Some p → held new number ≡ None → HoldsOthers old new number → IsToldShut t u number → HasBack r c v number p.buffer.kept p.stream → KeepsElse u v number → Shuts bound (reported r c g t old) (reported r c g v new) number
  shuts_held r c g t u v old new number bound p d e holds told back rest =
      let raised = raised_rises (t.is_shut number) (u.is_shut number) (v.is_shut number) told.shut (stays_rise (u.is_shut number) (v.is_shut number) rest.shut) in
      record {
        shut = λ lt. raised;
        only_rises = raised_rise (t.is_shut number) (v.is_shut number) raised;
        written = at_end (λ a b. Keeps a b) (written_of c) (t.written number) (v.written number) (held old number) (held new number) p d e back.taken;
        unread = at_end (λ a b. Keeps a b) (unread_of r) (t.unread number) (v.unread number) (held old number) (held new number) p d e back.left;
        given = refl;
        failed = stays_then (t.has_failed number) (u.has_failed number) (v.has_failed number) told.failed rest.failed;
        others = others_kept r c g g t v old new number holds (λ other apart. kept_then t u v other (told.others other apart) (rest.others other apart)) (λ other apart. refl);
      }

  -- ---- reads and writes

  -- no connection is held under this number
  pub reads_missing : (r c : S → Option (List ℕ)) (g : ℕ → List ℕ) (t u : Report) (old new : List (Option (BufferedStream S A))) (number : ℕ) (fault : WireFault) (lent : List ℕ) → held old number ≡ None → held new number ≡ None → HoldsOthers old new number → Notes {T = Got} t u number (Err fault) → Reads (reported r c g t old) (reported r c g u new) number (Err fault) lent
  reads_missing r c g t u old new number fault lent d e holds n = record {
    consumed = Consumes-none _ _ (keeps_is (unread_of r) (t.unread number) (u.unread number) (held old number) (held new number) (e ∙ sym d) n.unread);
    given = sym (append-nil (g number));
    ended = tt;
    written = keeps_is (written_of c) (t.written number) (u.written number) (held old number) (held new number) (e ∙ sym d) n.written;
    shut = n.shut;
    failed = n.failed;
    others = others_kept r c g g t u old new number holds n.others (λ other apart. refl);
  }

  pub writes_missing : (r c : S → Option (List ℕ)) (g : ℕ → List ℕ) (t u : Report) (old new : List (Option (BufferedStream S A))) (number : ℕ) (fault : WireFault) (buf : List ℕ) → held old number ≡ None → held new number ≡ None → HoldsOthers old new number → Notes {T = ℕ} t u number (Err fault) → Writes (reported r c g t old) (reported r c g u new) number (Err fault) buf
  writes_missing r c g t u old new number fault buf d e holds n = record {
    within = tt;
    appended = Appends-none _ _ (keeps_is (written_of c) (t.written number) (u.written number) (held old number) (held new number) (e ∙ sym d) n.written);
    unread = keeps_is (unread_of r) (t.unread number) (u.unread number) (held old number) (held new number) (e ∙ sym d) n.unread;
    given = refl;
    shut = n.shut;
    failed = n.failed;
    others = others_kept r c g g t u old new number holds n.others (λ other apart. refl);
  }

  -- the connection was read, and is held again
  pub reads_held : (r c : S → Option (List ℕ)) (g h : ℕ → List ℕ) (t u : Report) (old new : List (Option (BufferedStream S A))) (number : ℕ) (p q : BufferedStream S A) (result : Result Got WireFault) (lent : List ℕ) → held old number ≡ Some p → held new number ≡ Some q → HoldsOthers old new number → HasGiven r p q (bytes_read result lent) → Keeps (written_of c p) (written_of c q) → EndsAt result (unread_of r q) → Notes t u number result → h number ≡ g number ++ bytes_read result lent → ((other : ℕ) → other ≢ number → h other ≡ g other) → Reads (reported r c g t old) (reported r c h u new) number result lent
  reads_held r c g h t u old new number p q result lent d e holds gave kept ended n more same = record {
    consumed = at_both (λ a b. Consumes a b (bytes_read result lent)) (unread_of r) (t.unread number) (u.unread number) (held old number) (held new number) p q d e gave;
    given = more;
    ended = subst (λ x. EndsAt result (bytes_of (unread_of r) (u.unread number) x)) (sym e) ended;
    written = at_both (λ a b. Keeps a b) (written_of c) (t.written number) (u.written number) (held old number) (held new number) p q d e kept;
    shut = n.shut;
    failed = n.failed;
    others = others_kept r c g h t u old new number holds n.others same;
  }

  pub writes_held : (r c : S → Option (List ℕ)) (g : ℕ → List ℕ) (t u : Report) (old new : List (Option (BufferedStream S A))) (number : ℕ) (p q : BufferedStream S A) (result : Result ℕ WireFault) (buf : List ℕ) → held old number ≡ Some p → held new number ≡ Some q → HoldsOthers old new number → IfOk result (λ k. k ≤ length buf) → HasTaken c p q (bytes_written result buf) → Keeps (unread_of r p) (unread_of r q) → Notes t u number result → Writes (reported r c g t old) (reported r c g u new) number result buf
  writes_held r c g t u old new number p q result buf d e holds within took kept n = record {
    within = within;
    appended = at_both (λ a b. Appends a b (bytes_written result buf)) (written_of c) (t.written number) (u.written number) (held old number) (held new number) p q d e took;
    unread = at_both (λ a b. Keeps a b) (unread_of r) (t.unread number) (u.unread number) (held old number) (held new number) p q d e kept;
    given = refl;
    shut = n.shut;
    failed = n.failed;
    others = others_kept r c g g t u old new number holds n.others (λ other apart. refl);
  }
