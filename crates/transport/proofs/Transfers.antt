-- Connections that gave or took a byte.
use Rattle.std.proofs.Common.{◌≡◌, ℕ, ◌+◌, ◌<◌, ◌≤◌, List, Option, Some, None, Ok, length, take, ap, ◌∙◌, arith, inl, inr}
use Rattle.std.proofs.lemmas.List.{length-take-le, length-append}
use Rattle.std.specs.Io.KnownBytes.{Keeps, Appends, Consumes}
use Rattle.transport.specs.declared.wire.Got.TheVariants.{Bytes}
use Rattle.transport.specs.Report.{Report, Reads, Writes}
use Rattle.transport.specs.Moves.{AllMove, IsShorter, IsLonger, Transfers}

shorter_by : (a b : Option (List ℕ)) (bytes : List ℕ) → 1 ≤ length bytes → Consumes a b bytes → IsShorter a b
shorter_by None b bytes lt c = tt
shorter_by (Some x) None bytes lt c = absurd c
shorter_by (Some x) (Some y) bytes lt c = (let e : length x ≡ length bytes + length y = ap length c ∙ length-append bytes y in omega arith)

shorter_kept : (a b c : Option (List ℕ)) → IsShorter a b → Keeps b c → IsShorter a c
shorter_kept None b c p k = tt
shorter_kept (Some x) None c p k = absurd p
shorter_kept (Some x) (Some y) None p k = absurd k
shorter_kept (Some x) (Some y) (Some z) p k = (let e : length z ≡ length y = ap length k in omega arith)

longer_kept : (a b c : Option (List ℕ)) → IsLonger a b → Keeps b c → IsLonger a c
longer_kept None b c p k = tt
longer_kept (Some x) None c p k = absurd p
longer_kept (Some x) (Some y) None p k = absurd k
longer_kept (Some x) (Some y) (Some z) p k = (let e : length z ≡ length y = ap length k in omega arith)

longer_by : (a b : Option (List ℕ)) (bytes : List ℕ) → 1 ≤ length bytes → Appends a b bytes → IsLonger a b
longer_by None b bytes lt c = tt
longer_by (Some x) None bytes lt c = absurd c
longer_by (Some x) (Some y) bytes lt c = (let e : length y ≡ length x + length bytes = ap length c ∙ length-append x bytes in omega arith)

-- a read that gave bytes
pub read_transfers : (a b c : Report) (number : ℕ) (lent : List ℕ) → 1 ≤ length lent → Reads a b number (Ok Bytes) lent → Keeps (b.unread number) (c.unread number) → Keeps (b.given number) (c.given number) → Transfers a c number
read_transfers a b c number lent some r k g =
    inl (
      shorter_kept _ _ _ (shorter_by (a.unread number) (b.unread number) lent some r.consumed) k,
      longer_kept _ _ _ (longer_by (a.given number) (b.given number) lent some r.given) g,
    )

-- a write that took bytes
pub write_longer : (a b : Report) (number n : ℕ) (buf : List ℕ) → 0 < n → Writes a b number (Ok n) buf → IsLonger (a.written number) (b.written number)
write_longer a b number n buf some w =
    let most : n ≤ length buf = w.within in
    let e : length (take n buf) ≡ n = length-take-le n buf most in
    longer_by (a.written number) (b.written number) (take n buf) (omega arith) w.appended

shorter_then : (a b c : Option (List ℕ)) (bytes : List ℕ) → IsShorter a b → Consumes b c bytes → IsShorter a c
shorter_then None b c bytes p q = tt
shorter_then (Some x) None c bytes p q = absurd p
shorter_then (Some x) (Some y) None bytes p q = absurd q
shorter_then (Some x) (Some y) (Some z) bytes p q = (let e : length y ≡ length bytes + length z = ap length q ∙ length-append bytes z in omega arith)

then_shorter : (a b c : Option (List ℕ)) (bytes : List ℕ) → Consumes a b bytes → IsShorter b c → IsShorter a c
then_shorter None b c bytes p q = tt
then_shorter (Some x) None c bytes p q = absurd p
then_shorter (Some x) (Some y) None bytes p q = absurd q
then_shorter (Some x) (Some y) (Some z) bytes p q = (let e : length x ≡ length bytes + length y = ap length p ∙ length-append bytes y in omega arith)

longer_then : (a b c : Option (List ℕ)) (bytes : List ℕ) → IsLonger a b → Appends b c bytes → IsLonger a c
longer_then None b c bytes p q = tt
longer_then (Some x) None c bytes p q = absurd p
longer_then (Some x) (Some y) None bytes p q = absurd q
longer_then (Some x) (Some y) (Some z) bytes p q = (let e : length z ≡ length y + length bytes = ap length q ∙ length-append y bytes in omega arith)

then_longer : (a b c : Option (List ℕ)) (bytes : List ℕ) → Appends a b bytes → IsLonger b c → IsLonger a c
then_longer None b c bytes p q = tt
then_longer (Some x) None c bytes p q = absurd p
then_longer (Some x) (Some y) None bytes p q = absurd q
then_longer (Some x) (Some y) (Some z) bytes p q = (let e : length y ≡ length x + length bytes = ap length p ∙ length-append x bytes in omega arith)

pub transfers_then : (a b c : Report) (n : ℕ) → Transfers a b n → AllMove b c → Transfers a c n
transfers_then a b c n (inl p) m = inl (shorter_then _ _ _ (m n).gave p.0 (m n).unread, longer_then _ _ _ (m n).gave p.1 (m n).given)
transfers_then a b c n (inr p) m = inr (longer_then _ _ _ (m n).took p (m n).written)

pub then_transfers : (a b c : Report) (n : ℕ) → AllMove a b → Transfers b c n → Transfers a c n
then_transfers a b c n m (inl p) = inl (then_shorter _ _ _ (m n).gave (m n).unread p.0, then_longer _ _ _ (m n).gave (m n).given p.1)
then_transfers a b c n m (inr p) = inr (then_longer _ _ _ (m n).took (m n).written p)
