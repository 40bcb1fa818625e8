-- The report of a wire, call after call.
use Rattle.std.proofs.Common.{◌≡◌, ℕ, Bool, true, false, List, [], ◌∷◌, ◌++◌, Option, Some, None, Result, Ok, Err, refl, sym, ap, ◌∙◌, append-nil, inl, inr}
use Rattle.std.proofs.lemmas.Bool.{cases_eq}
use Rattle.std.specs.Prelude.{IsSome}
use Rattle.std.specs.Io.KnownBytes.{Keeps, Appends, Consumes}
use Rattle.std.proofs.KnownBytes.{Keeps-refl, Keeps-trans, Appends-trans, Consumes-trans}
use Rattle.transport.specs.declared.wire.Got.TheVariants.{Nothing, Ended}
use Rattle.transport.specs.declared.wire.WireFault.{WireFault}
use Rattle.transport.specs.Report.{Report, Stays, IsRaised, OnlyRises, KeepsConnection, KeepsAll, KeepsOthers, ReportsFailure, Reads, Writes, Shuts, bytes_written}
use Rattle.transport.specs.Moves.{Moves, AllMove, GaveBytes, IsEmptied}

-- ---- flags

pub stays-refl : (a : Option Bool) → Stays a a
stays-refl None = tt
stays-refl (Some x) = refl

pub stays_then : (a b c : Option Bool) → Stays a b → Stays b c → Stays a c
stays_then None b c p q = tt
stays_then (Some x) b c p q = (let r : Stays (Some x) c = rw p at q in r)

pub stays_raised : (a b c : Option Bool) → Stays a b → IsRaised b c → IsRaised a c
stays_raised None b c p q = tt
stays_raised (Some x) b c p q = (let r : IsRaised (Some x) c = rw p at q in r)

true_stays : (c : Option Bool) → OnlyRises (Some true) c → c ≡ Some true
true_stays None q = absurd q
true_stays (Some y) q = ap (λ (b : Bool). Some b) q

pub raised_rises : (a b c : Option Bool) → IsRaised a b → OnlyRises b c → IsRaised a c
raised_rises None b c p q = tt
raised_rises (Some x) b c p q = true_stays c (rw p at q)

pub rises_raised : (a b c : Option Bool) → OnlyRises a b → IsRaised b c → IsRaised a c
rises_raised None b c p q = tt
rises_raised (Some x) None c p q = absurd p
rises_raised (Some x) (Some y) c p q = q

pub rises-refl : (a : Option Bool) → OnlyRises a a
rises-refl None = tt
rises-refl (Some true) = refl
rises-refl (Some false) = tt

pub stays_rise : (a b : Option Bool) → Stays a b → OnlyRises a b
stays_rise None b p = tt
stays_rise (Some x) b p = rw p (rises-refl (Some x))

pub raised_rise : (a b : Option Bool) → IsRaised a b → OnlyRises a b
raised_rise None b p = tt
raised_rise (Some true) b p = rw p refl
raised_rise (Some false) b p = rw p tt

pub rises_then : (a b c : Option Bool) → OnlyRises a b → OnlyRises b c → OnlyRises a c
rises_then None b c p q = tt
rises_then (Some x) None c p q = absurd p
rises_then (Some true) (Some y) c p q = (let r : OnlyRises (Some true) c = rw p at q in r)
rises_then (Some false) (Some y) None p q = absurd q
rises_then (Some false) (Some y) (Some z) p q = tt

-- ---- bytes

pub Keeps-none : (a b : Option (List ℕ)) → Consumes a b [] → Keeps a b
Keeps-none None b p = tt
Keeps-none (Some x) None p = absurd p
Keeps-none (Some x) (Some y) p = sym p

pub Consumes-none : (a b : Option (List ℕ)) → Keeps a b → Consumes a b []
Consumes-none None b p = tt
Consumes-none (Some x) None p = absurd p
Consumes-none (Some x) (Some y) p = sym p

pub Keeps-nothing : (a b : Option (List ℕ)) → Appends a b [] → Keeps a b
Keeps-nothing None b p = tt
Keeps-nothing (Some x) None p = absurd p
Keeps-nothing (Some x) (Some y) p = p ∙ append-nil x

pub Appends-none : (a b : Option (List ℕ)) → Keeps a b → Appends a b []
Appends-none None b p = tt
Appends-none (Some x) None p = absurd p
Appends-none (Some x) (Some y) p = p ∙ sym (append-nil x)

pub Keeps-Appends : (a b c : Option (List ℕ)) (bs : List ℕ) → Keeps a b → Appends b c bs → Appends a c bs
Keeps-Appends None b c bs p q = tt
Keeps-Appends (Some x) None c bs p q = absurd p
Keeps-Appends (Some x) (Some y) None bs p q = absurd q
Keeps-Appends (Some x) (Some y) (Some z) bs p q = q ∙ ap (λ l. l ++ bs) p

-- ---- the whole report of a connection

pub kept_same : (a : Report) (n : ℕ) → KeepsConnection a a n
kept_same a n = record { unread = Keeps-refl _; given = Keeps-refl _; written = Keeps-refl _; shut = stays-refl _; failed = stays-refl _ }

pub kept_then : (a b c : Report) (n : ℕ) → KeepsConnection a b n → KeepsConnection b c n → KeepsConnection a c n
kept_then a b c n p q = record {
  unread = Keeps-trans _ _ _ p.unread q.unread;
  given = Keeps-trans _ _ _ p.given q.given;
  written = Keeps-trans _ _ _ p.written q.written;
  shut = stays_then _ _ _ p.shut q.shut;
  failed = stays_then _ _ _ p.failed q.failed;
}

kept_each : (a b : Report) (number : ℕ) → KeepsConnection a b number → KeepsOthers a b number → KeepsAll a b
kept_each a b number k o n =
    elim (cases_eq n number) [
      | inl same ↦ rw same k
      | inr apart ↦ o n apart
    ]

pub nothing_keeps : (a b : Report) (number : ℕ) (buf : List ℕ) → Reads a b number (Ok Nothing) buf → KeepsAll a b
nothing_keeps a b number buf r = kept_each a b number (record { unread = Keeps-none _ _ r.consumed; given = Keeps-nothing _ _ r.given; written = r.written; shut = r.shut; failed = r.failed }) r.others

pub ended_keeps : (a b : Report) (number : ℕ) (buf : List ℕ) → Reads a b number (Ok Ended) buf → KeepsAll a b
ended_keeps a b number buf r = kept_each a b number (record { unread = Keeps-none _ _ r.consumed; given = Keeps-nothing _ _ r.given; written = r.written; shut = r.shut; failed = r.failed }) r.others

-- ---- bytes that move

pub kept_move : (a b : Report) (n : ℕ) → KeepsConnection a b n → Moves a b n
kept_move a b n k = record {
  gave = [];
  unread = Consumes-none _ _ k.unread;
  given = Appends-none _ _ k.given;
  took = [];
  written = Appends-none _ _ k.written;
  shut = stays_rise _ _ k.shut;
  failed = stays_rise _ _ k.failed;
}

pub all_kept : (a b : Report) → KeepsAll a b → AllMove a b
all_kept a b k = λ n. kept_move a b n (k n)

pub moves_then : (a b c : Report) → AllMove a b → AllMove b c → AllMove a c
moves_then a b c p q = λ n. record {
  gave = (p n).gave ++ (q n).gave;
  unread = Consumes-trans _ _ _ (p n).gave (q n).gave (p n).unread (q n).unread;
  given = Appends-trans _ _ _ (p n).gave (q n).gave (p n).given (q n).given;
  took = (p n).took ++ (q n).took;
  written = Appends-trans _ _ _ (p n).took (q n).took (p n).written (q n).written;
  shut = rises_then _ _ _ (p n).shut (q n).shut;
  failed = rises_then _ _ _ (p n).failed (q n).failed;
}

moves_each : (a b : Report) (number : ℕ) → Moves a b number → KeepsOthers a b number → AllMove a b
moves_each a b number m o n =
    elim (cases_eq n number) [
      | inl same ↦ rw same m
      | inr apart ↦ kept_move a b n (o n apart)
    ]

pub reported_failure : {T : Type 0} (r : Result T WireFault) (a b : Option Bool) → ReportsFailure r a b → OnlyRises a b
reported_failure (Ok x) a b t = stays_rise a b t
reported_failure (Err e) a b t = raised_rise a b t

pub writes_move : (a b : Report) (number : ℕ) (r : Result ℕ WireFault) (buf : List ℕ) → Writes a b number r buf → AllMove a b
writes_move a b number r buf p = moves_each a b number (record {
  gave = [];
  unread = Consumes-none _ _ p.unread;
  given = Appends-none _ _ p.given;
  took = bytes_written r buf;
  written = p.appended;
  shut = stays_rise _ _ p.shut;
  failed = reported_failure r _ _ p.failed;
}) p.others

pub shuts_move : (bound : ℕ) (a b : Report) (number : ℕ) → Shuts bound a b number → AllMove a b
shuts_move bound a b number p = moves_each a b number (record {
  gave = [];
  unread = Consumes-none _ _ p.unread;
  given = Appends-none _ _ p.given;
  took = [];
  written = Appends-none _ _ p.written;
  shut = p.only_rises;
  failed = stays_rise _ _ p.failed;
}) p.others

pub gave_move : (a b : Report) (number : ℕ) (bytes : List ℕ) → GaveBytes a b number bytes → AllMove a b
gave_move a b number bytes p = moves_each a b number (record {
  gave = bytes;
  unread = p.consumed;
  given = p.given;
  took = [];
  written = Appends-none _ _ p.written;
  shut = stays_rise _ _ p.shut;
  failed = p.failed;
}) p.others

pub away_moves : (a b : Report) (number : ℕ) (gave took : List ℕ) → OnlyRises (a.is_shut number) (b.is_shut number) → OnlyRises (a.has_failed number) (b.has_failed number) → Consumes (a.unread number) (b.unread number) gave → Appends (a.given number) (b.given number) gave → Appends (a.written number) (b.written number) took → KeepsOthers a b number → AllMove a b
away_moves a b number gave took shut failed unread given written others = moves_each a b number (record { gave = gave; unread = unread; given = given; took = took; written = written; shut = shut; failed = failed }) others

-- ---- bytes left to be read

empty_both : (xs ys : List ℕ) → [] ≡ xs ++ ys → ys ≡ []
empty_both [] ys e = sym e
empty_both (x ∷ xs) ys e = absurd (cc)

emptied_at : (a b c : Option (List ℕ)) (bytes : List ℕ) → IsEmptied a b → Consumes b c bytes → IsEmptied a c
emptied_at None b c bytes p q = tt
emptied_at (Some x) b c bytes p q = left c (rw p at q)
  where
    left : (d : Option (List ℕ)) → Consumes (Some []) d bytes → d ≡ Some []
    left None r = absurd r
    left (Some ys) r = ap (λ (l : List ℕ). Some l) (empty_both bytes ys r)

pub emptied_move : (a b c : Report) (n : ℕ) → IsEmptied (a.unread n) (b.unread n) → AllMove b c → IsEmptied (a.unread n) (c.unread n)
emptied_move a b c n p m = emptied_at _ _ _ (m n).gave p (m n).unread

move_emptied_at : (a b c : Option (List ℕ)) (bytes : List ℕ) → Consumes a b bytes → IsEmptied b c → IsEmptied a c
move_emptied_at None b c bytes p q = tt
move_emptied_at (Some x) None c bytes p q = absurd p
move_emptied_at (Some x) (Some y) c bytes p q = q

pub move_emptied : (a b c : Report) (n : ℕ) → AllMove a b → IsEmptied (b.unread n) (c.unread n) → IsEmptied (a.unread n) (c.unread n)
move_emptied a b c n m p = move_emptied_at _ _ _ (m n).gave (m n).unread p

-- ---- known connections

known_at : (a b : Option (List ℕ)) (bytes : List ℕ) → Appends a b bytes → IsSome a → IsSome b
known_at None b bytes p s = absurd (cc)
known_at (Some x) None bytes p s = absurd p
known_at (Some x) (Some y) bytes p s = refl

pub known_move : (a b : Report) → AllMove a b → (n : ℕ) → IsSome (a.written n) → IsSome (b.written n)
known_move a b m n s = known_at _ _ (m n).took (m n).written s
