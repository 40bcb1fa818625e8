-- The marks of connections: reads ended, and shut.
use Rattle.std.proofs.Common.{◌≡◌, ◌⊎◌, ℕ, zero, suc, ◌<◌, ◌≤◌, Bool, true, false, List, [], ◌∷◌, length, get_or, set, refl, sym, ap, ◌∙◌, arith, inl, inr}
use Rattle.std.specs.Prelude.{filter, insert, not}
use Rattle.std.proofs.lemmas.Bool.{both_ways, cond_both}
use Rattle.socket_loop.specs.declared.connection.Link.{Link}
use Rattle.socket_loop.specs.declared.connection.Connection.{Connection}
use Rattle.transport.specs.Report.{Report, IsRaised}
use Rattle.socket_loop.specs.Links.{IsAmong, IsMarked, links_of, reads_ended, was_shut}
use Rattle.socket_loop.specs.Parts.{Grows}
use Rattle.transport.specs.Moves.{AllMove, IsEmptied}
use Rattle.transport.proofs.Reported.{emptied_move, move_emptied, raised_rises, rises_raised}
use Rattle.socket_loop.specs.Accepting.{AddsNoMark, HoldsMore}
use Rattle.socket_loop.specs.Visits.{KeepsMarks}

-- the marks of all numbers are kept
abbrev pub KeepsAllMarks : ℕ → Report → List Connection → Report → List Connection → Type 0
KeepsAllMarks bound old held new now = (number : ℕ) → KeepsMarks bound old held new now number

marked_set : (mark : Connection → Bool) (items : List Connection) (i : ℕ) (y : Connection) (n : ℕ) → IsMarked mark (set items i y) n → ((y.link.number ≡ n) × (mark y ≡ true)) ⊎ IsMarked mark items n
marked_set mark [] i y n m = inr m
marked_set mark (x ∷ xs) zero y n (inl p) = inl p
marked_set mark (x ∷ xs) zero y n (inr p) = inr (inr p)
marked_set mark (x ∷ xs) (suc i) y n (inl p) = inr (inl p)
marked_set mark (x ∷ xs) (suc i) y n (inr p) = elim (marked_set mark xs i y n p) [ inl new ↦ inl new | inr old ↦ inr (inr old) ]

pub marked_at : (mark : Connection → Bool) (items : List Connection) (i : ℕ) (d : Connection) → i < length items → mark (get_or items i d) ≡ true → IsMarked mark items (get_or items i d).link.number
marked_at mark [] i d lt e = absurd (omega arith)
marked_at mark (x ∷ xs) zero d lt e = inl (refl, e)
marked_at mark (x ∷ xs) (suc i) d lt e = inr (marked_at mark xs i d (omega arith) e)

marked_insert : (mark : Connection → Bool) (held : List Connection) (place : ℕ) (c : Connection) (n : ℕ) → mark c ≡ false → IsMarked mark (insert held place c) n → IsMarked mark held n
marked_insert mark [] zero c n e (inl p) = absurd (both_ways (mark c) e p.1)
marked_insert mark [] zero c n e (inr p) = p
marked_insert mark [] (suc i) c n e (inl p) = absurd (both_ways (mark c) e p.1)
marked_insert mark [] (suc i) c n e (inr p) = p
marked_insert mark (x ∷ xs) zero c n e (inl p) = absurd (both_ways (mark c) e p.1)
marked_insert mark (x ∷ xs) zero c n e (inr p) = p
marked_insert mark (x ∷ xs) (suc i) c n e (inl p) = inl p
marked_insert mark (x ∷ xs) (suc i) c n e (inr p) = inr (marked_insert mark xs i c n e p)

pub adds_same : (held : List Connection) → (n : ℕ) → AddsNoMark held held n
adds_same held n = record { ended = λ m. m; shut = λ m. m }

pub adds_then : (xs ys zs : List Connection) → ((n : ℕ) → AddsNoMark xs ys n) → ((n : ℕ) → AddsNoMark ys zs n) → (n : ℕ) → AddsNoMark xs zs n
adds_then xs ys zs p q n = record { ended = λ m. (p n).ended ((q n).ended m); shut = λ m. (p n).shut ((q n).shut m) }

pub adds_insert : (held : List Connection) (place : ℕ) (c : Connection) → c.has_ended ≡ false → c.is_shut ≡ false → (n : ℕ) → AddsNoMark held (insert held place c) n
adds_insert held place c e f n = record { ended = λ m. marked_insert reads_ended held place c n e m; shut = λ m. marked_insert was_shut held place c n f m }

pub marks_none : (bound : ℕ) (a b : Report) (held now : List Connection) → ((n : ℕ) → AddsNoMark held now n) → KeepsAllMarks bound a held b now
marks_none bound a b held now p = λ n. record { ended = λ m. inl ((p n).ended m); shut = λ m. inl ((p n).shut m) }

pub marks_same : (bound : ℕ) (a : Report) (held : List Connection) → KeepsAllMarks bound a held a held
marks_same bound a held = marks_none bound a a held held (adds_same held)

pub marks_then : (bound : ℕ) (a b c : Report) (xs ys zs : List Connection) → AllMove a b → AllMove b c → KeepsAllMarks bound a xs b ys → KeepsAllMarks bound b ys c zs → KeepsAllMarks bound a xs c zs
marks_then bound a b c xs ys zs j k p q = λ n. record {
  ended = λ m. elim ((q n).ended m) [
    | inl mid ↦ elim ((p n).ended mid) [ inl old ↦ inl old | inr empty ↦ inr (emptied_move a b c n empty k) ]
    | inr empty ↦ inr (move_emptied a b c n j empty)
  ];
  shut = λ m. elim ((q n).shut m) [
    | inl mid ↦ elim ((p n).shut mid) [ inl old ↦ inl old | inr raised ↦ inr (λ lt. raised_rises _ _ _ (raised lt) (k n).shut) ]
    | inr raised ↦ inr (λ lt. rises_raised _ _ _ (j n).shut (raised lt))
  ];
}

-- the connection at an index was visited
pub marks_visit : (bound : ℕ) (b c : Report) (items : List Connection) (i : ℕ) (d y : Connection) → i < length items → y.link ≡ (get_or items i d).link
    → (y.has_ended ≡ true → ((get_or items i d).has_ended ≡ true) ⊎ IsEmptied (b.unread (get_or items i d).link.number) (c.unread (get_or items i d).link.number))
    → (y.is_shut ≡ true → ((get_or items i d).is_shut ≡ true) ⊎ ((get_or items i d).link.number < bound → IsRaised (b.is_shut (get_or items i d).link.number) (c.is_shut (get_or items i d).link.number)))
    → KeepsAllMarks bound b items c (set items i y)
marks_visit bound b c items i d y lt same f g = λ n. record {
  ended = λ m. elim (marked_set reads_ended items i y n m) [
    | inl new ↦
        let number : (get_or items i d).link.number ≡ n = ap (λ (l : Link). l.number) (sym same) ∙ new.0 in
        elim (f new.1) [ inl was ↦ inl (rw number at (marked_at reads_ended items i d lt was)) | inr empty ↦ inr (rw number at empty) ]
    | inr old ↦ inl old
  ];
  shut = λ m. elim (marked_set was_shut items i y n m) [
    | inl new ↦
        let number : (get_or items i d).link.number ≡ n = ap (λ (l : Link). l.number) (sym same) ∙ new.0 in
        elim (g new.1) [ inl was ↦ inl (rw number at (marked_at was_shut items i d lt was)) | inr raised ↦ inr (rw number at raised) ]
    | inr old ↦ inl old
  ];
}

remove_shut_at : (b : Bool) (x : Connection) (xs : List Connection) (l : Link) → x.is_shut ≡ b → (IsAmong (links_of xs) l → IsAmong (links_of (filter (λ y. not y.is_shut) xs)) l ⊎ IsMarked was_shut xs l.number) → IsAmong (links_of (x ∷ xs)) l → IsAmong (links_of (filter (λ y. not y.is_shut) (x ∷ xs))) l ⊎ IsMarked was_shut (x ∷ xs) l.number
remove_shut_at true x xs l e more (inl same) = inr (inl (ap (λ (k : Link). k.number) (sym same), e))
remove_shut_at true x xs l e more (inr m) = rw e (elim (more m) [ inl stays ↦ inl stays | inr went ↦ inr (inr went) ])
remove_shut_at false x xs l e more (inl same) = rw e (inl (inl same))
remove_shut_at false x xs l e more (inr m) = rw e (elim (more m) [ inl stays ↦ inl (inr stays) | inr went ↦ inr (inr went) ])

-- a removed connection was marked as shut
pub remove_shut : (held : List Connection) (l : Link) → IsAmong (links_of held) l → IsAmong (links_of (filter (λ x. not x.is_shut) held)) l ⊎ IsMarked was_shut held l.number
remove_shut [] l m = absurd m
remove_shut (x ∷ xs) l m = remove_shut_at x.is_shut x xs l refl (remove_shut xs l) m

-- a visit that keeps the mark of ended reads
pub ended_visit : (held items : List Connection) (i : ℕ) (d y : Connection) → i < length items → y.link ≡ (get_or items i d).link → y.has_ended ≡ (get_or items i d).has_ended → ((n : ℕ) → IsMarked reads_ended items n → IsMarked reads_ended held n) → (n : ℕ) → IsMarked reads_ended (set items i y) n → IsMarked reads_ended held n
ended_visit held items i d y lt same e so_far n m = elim (marked_set reads_ended items i y n m) [
  | inl new ↦
      let number : (get_or items i d).link.number ≡ n = ap (λ (l : Link). l.number) (sym same) ∙ new.0 in
      so_far n (rw number at (marked_at reads_ended items i d lt (sym e ∙ new.1)))
  | inr old ↦ so_far n old
]

pub marked_filter : (mark p : Connection → Bool) (xs : List Connection) (n : ℕ) → IsMarked mark (filter p xs) n → IsMarked mark xs n
marked_filter mark p [] n m = m
marked_filter mark p (x ∷ xs) n m =
    cond_both (p x) (x ∷ filter p xs) (filter p xs) (λ (zs : List Connection). IsMarked mark zs n → IsMarked mark (x ∷ xs) n)
    (λ yes o. elim o [ inl here ↦ inl here | inr rest ↦ inr (marked_filter mark p xs n rest) ])
    (λ no o. inr (marked_filter mark p xs n o)) m

-- ---- what is held

held_insert : (held : List Connection) (place : ℕ) (c x : Connection) → IsAmong (insert held place c) x → (x ≡ c) ⊎ IsAmong held x
held_insert [] zero c x m = m
held_insert [] (suc i) c x m = m
held_insert (y ∷ ys) zero c x m = m
held_insert (y ∷ ys) (suc i) c x (inl e) = inr (inl e)
held_insert (y ∷ ys) (suc i) c x (inr m) = elim (held_insert ys i c x m) [ inl e ↦ inl e | inr n ↦ inr (inr n) ]

insert_held : (held : List Connection) (place : ℕ) (c x : Connection) → IsAmong held x → IsAmong (insert held place c) x
insert_held [] i c x m = absurd m
insert_held (y ∷ ys) zero c x m = inr m
insert_held (y ∷ ys) (suc i) c x (inl e) = inl e
insert_held (y ∷ ys) (suc i) c x (inr m) = inr (insert_held ys i c x m)

pub grows_same : (held : List Connection) → Grows held held
grows_same held = record { kept = λ x m. m; unmarked = λ x m. inl m }

pub grows_then : (xs ys zs : List Connection) → Grows xs ys → Grows ys zs → Grows xs zs
grows_then xs ys zs p q = record {
  kept = λ x m. q.kept x (p.kept x m);
  unmarked = λ x m. elim (q.unmarked x m) [ inl mid ↦ p.unmarked x mid | inr new ↦ inr new ];
}

pub grows_insert : (held : List Connection) (place : ℕ) (c : Connection) → c.has_ended ≡ false → c.is_shut ≡ false → Grows held (insert held place c)
grows_insert held place c e f = record {
  kept = λ x m. insert_held held place c x m;
  unmarked = λ x m. elim (held_insert held place c x m) [ inl same ↦ inr (rw same (e, f)) | inr old ↦ inl old ];
}

pub more_same : (held : List Connection) (f : ℕ) → HoldsMore held f held f
more_same held f = record { grows = grows_same held; marks = adds_same held; rising = λ r. r; faults = omega arith }

-- the count of faults may rise in between
pub more_then : (xs ys zs : List Connection) (a b c d : ℕ) → HoldsMore xs a ys b → b ≤ c → HoldsMore ys c zs d → HoldsMore xs a zs d
more_then xs ys zs a b c d p between q = record {
  grows = grows_then xs ys zs p.grows q.grows;
  marks = adds_then xs ys zs p.marks q.marks;
  rising = λ r. q.rising (p.rising r);
  faults = (let u : a ≤ b = p.faults in let v : c ≤ d = q.faults in omega arith);
}
