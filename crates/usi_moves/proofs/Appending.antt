-- Texts appended one after another.
use Rattle.std.proofs.Common.{◌≡◌, ℕ, List, ◌++◌, append_assoc}

pub after_two : (old a b x y : List ℕ) → x ≡ old ++ a → y ≡ x ++ b → y ≡ old ++ (a ++ b)
after_two old a b x y e f = rw (f, e) (simp append_assoc)

pub after_three : (old a b c x y z : List ℕ) → x ≡ old ++ a → y ≡ x ++ b → z ≡ y ++ c → z ≡ old ++ (a ++ (b ++ c))
after_three old a b c x y z e f g = rw (g, f, e) (simp append_assoc)

pub after_four : (old a b c d x y z w : List ℕ) → x ≡ old ++ a → y ≡ x ++ b → z ≡ y ++ c → w ≡ z ++ d → w ≡ old ++ (a ++ (b ++ (c ++ d)))
after_four old a b c d x y z w e f g h = rw (h, g, f, e) (simp append_assoc)
