-- The numbers that options name.
use Rattle.std.proofs.Common.{◌≡◌, ◌∙◌, ◌<◌, ◌^◌, ◌≤◌, ℕ, List, Option, Some, None, IfNone, sym, arith}
use Rattle.clap.specs.Words.{Row, Text, first_of}
use Rattle.usi_arguments.specs.CommandLine.{IsFromOne, IsNumber, NamesNumber}

-- a text is the numeral of one number only
number_once : (text : Text) (m n : ℕ) → IsNumber text m → IsNumber text n → m ≡ n
number_once text m n a b = a.1 ∙ sym b.1

-- an option has one number only
pub names_once : (name : Text) (options : List Row) (m n : ℕ) → NamesNumber name options m → NamesNumber name options n → m ≡ n
names_once name options m n a b =
    let same : Some a.0 ≡ Some b.0 = sym a.1 ∙ b.1 in
    let text : a.0 ≡ b.0 = cc in
    number_once b.0 m n (rw text at a.2) b.2

-- an option without a text has no number
pub no_text : (most : ℕ) (name : Text) (options : List Row) → first_of name options ≡ None
    → (n : ℕ) → IsFromOne most n → NamesNumber name options n → ⊥
no_text most name options none n range named = let is = named.1 in cc

-- an option whose text is no number below 2 ^ 64 has none in the range
pub no_number : (most : ℕ) (name : Text) (options : List Row) (text : Text) → most < 2 ^ 64 → first_of name options ≡ Some text
    → ((n : ℕ) → n < 2 ^ 64 → IsNumber text n → ⊥) → (n : ℕ) → IsFromOne most n → NamesNumber name options n → ⊥
no_number most name options text small is none n range named =
    let same : Some text ≡ Some named.0 = sym is ∙ named.1 in
    let texts : named.0 ≡ text = cc in
    let top : n ≤ most = range.1 in
    none n (omega arith) (rw texts at named.2)

-- an option with a number outside the range has none in the range
pub other_in_range : (most : ℕ) (name : Text) (options : List Row) (m : ℕ) → (IsFromOne most m → ⊥) → NamesNumber name options m
    → (n : ℕ) → IsFromOne most n → NamesNumber name options n → ⊥
other_in_range most name options m out other n range named =
    let same : n ≡ m = names_once name options n m named other in
    out (rw same at range)

-- a fact that always holds also holds of a None
pub if_none : {T : Type 0} (r : Option T) (P : Type 0) → P → IfNone r P
if_none (Some n) P p = tt
if_none None P p = p
