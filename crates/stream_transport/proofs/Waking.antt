-- Each stream named by a look or a wait is awake.
use Rattle.std.proofs.Common.{◌≡◌, ◌≢◌, ℕ, Bool, true, ◌+◌, ◌<◌, ◌≤◌, List, Option, Some, None, Result, Ok, Err, refl, sym, ap, subst, ◌∙◌, inl, inr, arith}
use Rattle.std.proofs.lemmas.Bool.{cases_eq}
use Rattle.std.proofs.lemmas.Option.{slice_get_within}
use Rattle.std.specs.Prelude.{is_some, slice_get, length}
use Rattle.stream_transport.specs.declared.listener.Ready.{Ready}
use Rattle.stream_transport.specs.declared.listener.Ready.TheVariants.{Listener, Stream}
use Rattle.stream_transport.specs.declared.connection.BufferedStream.{BufferedStream}
use Rattle.stream_transport.specs.Streams.{NamesListener}
use Rattle.stream_transport.specs.Held.{AreAlike, HoldsAll, HoldsOthers, IsAlike, held}
use Rattle.transport.specs.declared.wire.WireFault.{WireFault}
use Rattle.stream_transport.specs.Asking.{AreAwake, AreAwakeStill, HoldsAccepted, IsAwake, IsAwakeStill}

module _ {S A : Type 0} where
  -- the streams among the first `n` named are awake
  abbrev pub AwakeTo : ℕ → List Ready → List (Option (BufferedStream S A)) → Type 0
  AwakeTo n named places = (place number : ℕ) → place < n → slice_get named place ≡ Some (Stream number) → IsAwake (held places number)

  -- an awake connection stays awake
  awake_one : (a b : Option (BufferedStream S A)) → IsAwakeStill a b → IsAwake a → IsAwake b
  awake_one None b still awake = still
  awake_one (Some p) None still awake = absurd still
  awake_one (Some p) (Some q) still awake = (still.0 awake.0, still.1 awake.1)

  -- a connection unchanged stays as awake
  still_as : (a : Option (BufferedStream S A)) → IsAwakeStill a a
  still_as None = tt
  still_as (Some p) = ((λ e. e), (λ e. e))

  -- unchanged connections stay as awake
  pub still_same : (old new : List (Option (BufferedStream S A))) → HoldsAll old new → AreAwakeStill old new
  still_same old new same m = subst (λ x. IsAwakeStill (held old m) x) (sym (same m)) (still_as (held old m))

  -- if one connection stays awake and the others are unchanged, all stay as awake
  pub still_one : (old new : List (Option (BufferedStream S A))) (number : ℕ) → HoldsOthers old new number → IsAwakeStill (held old number) (held new number) → AreAwakeStill old new
  still_one old new number others one m = elim (cases_eq m number) [
    | inl same ↦ subst (λ (k : ℕ). IsAwakeStill (held old k) (held new k)) (sym same) one
    | inr apart ↦ subst (λ x. IsAwakeStill (held old m) x) (sym (others m apart)) (still_as (held old m))
  ]

  pub still_comes : (old new : List (Option (BufferedStream S A))) (number : ℕ) → HoldsOthers old new number → held old number ≡ None → IsAwake (held new number) → AreAwakeStill old new
  still_comes old new number others none awake = still_one old new number others (subst (λ x. IsAwakeStill x (held new number)) (sym none) awake)

  still_step : (a b d : Option (BufferedStream S A)) → IsAwakeStill a b → IsAwakeStill b d → IsAwakeStill a d
  still_step None b d first second = awake_one b d second first
  still_step (Some p) None d first second = absurd first
  still_step (Some p) (Some q) None first second = absurd second
  still_step (Some p) (Some q) (Some r) first second = ((λ e. second.0 (first.0 e)), (λ e. second.1 (first.1 e)))

  pub still_then : (old mid new : List (Option (BufferedStream S A))) → AreAwakeStill old mid → AreAwakeStill mid new → AreAwakeStill old new
  still_then old mid new first second m = still_step (held old m) (held mid m) (held new m) (first m) (second m)

  pub awake_still : (named : List Ready) (old new : List (Option (BufferedStream S A))) → AreAwakeStill old new → AreAwake named old → AreAwake named new
  awake_still named old new still awake place number is = awake_one (held old number) (held new number) (still number) (awake place number is)

  -- streams named before a call are awake after it
  pub awake_named : (named now : List Ready) (old new : List (Option (BufferedStream S A))) → now ≡ named → AreAwakeStill old new → AreAwake named old → AreAwake now new
  awake_named named now old new e still awake = subst (λ x. AreAwake x new) (sym e) (awake_still named old new still awake)

  -- one more that was named is marked
  pub awake_more : (n : ℕ) (named : List Ready) (found : Option Ready) (old new : List (Option (BufferedStream S A))) → found ≡ slice_get named n → ((number : ℕ) → found ≡ Some (Stream number) → IsAwake (held new number)) → AreAwakeStill old new → AwakeTo n named old → AwakeTo (n + 1) named new
  awake_more n named found old new is one still awake place number lt e = elim (cases_eq place n) [
    | inl same ↦ one number (is ∙ (ap (λ (k : ℕ). slice_get named k) (sym same) ∙ e))
    | inr apart ↦ awake_one (held old number) (held new number) (still number) (awake place number (let a : place ≢ n = apart in omega arith) e)
  ]

  -- an unchanged connection is alike
  alike_refl : (a : Option (BufferedStream S A)) → IsAlike a a
  alike_refl None = refl
  alike_refl (Some p) = (refl, refl)

  pub same_alike : (old new : List (Option (BufferedStream S A))) → HoldsAll old new → AreAlike old new
  same_alike old new same n = subst (λ x. IsAlike (held old n) x) (sym (same n)) (alike_refl (held old n))

  alike_then : (a b d : Option (BufferedStream S A)) → IsAlike a b → IsAlike b d → IsAlike a d
  alike_then None b d e f = (let r : IsAlike None d = rw e at f in r)
  alike_then (Some p) None d e f = absurd e
  alike_then (Some p) (Some q) None e f = absurd f
  alike_then (Some p) (Some q) (Some r) e f = (f.0 ∙ e.0, f.1 ∙ e.1)

  pub still_alike : (old mid new : List (Option (BufferedStream S A))) → AreAlike old mid → AreAlike mid new → AreAlike old new
  still_alike old mid new first second n = alike_then (held old n) (held mid n) (held new n) (first n) (second n)

  -- the connections held after an accept, compared with alike ones
  pub accepted_alike : (r : Result (Option ℕ) WireFault) (old mid new : List (Option (BufferedStream S A))) → AreAlike old mid → HoldsAccepted r mid new → HoldsAccepted r old new
  accepted_alike (Ok (Some n)) old mid new first second = (second.0, λ other apart. alike_then (held old other) (held mid other) (held new other) (first other) (second.1 other apart))
  accepted_alike (Ok None) old mid new first second = still_alike old mid new first second
  accepted_alike (Err fault) old mid new first second = still_alike old mid new first second

  pub accepted_one : (old new : List (Option (BufferedStream S A))) (number again : ℕ) (q : BufferedStream S A) → again ≡ number → held new again ≡ Some q → HoldsOthers old new again → HoldsAccepted (Ok (Some number)) old new
  accepted_one old new number again q same holds others = (
    ap (λ (x : Option (BufferedStream S A)). is_some x) (subst (λ (k : ℕ). held new k ≡ Some q) same holds),
    λ other apart. subst (λ x. IsAlike (held old other) x) (sym (others other (λ e. apart (e ∙ same)))) (alike_refl (held old other)),
  )

  -- nothing is marked yet
  pub awake_none : (named : List Ready) (places : List (Option (BufferedStream S A))) → AwakeTo 0 named places
  awake_none named places place number lt e = absurd (omega arith)

  -- all that were named are marked
  pub awake_all : (n : ℕ) (named : List Ready) (places : List (Option (BufferedStream S A))) → n ≡ length named → AwakeTo n named places → AreAwake named places
  awake_all n named places e awake place number is = awake place number (let lt : place < length named = slice_get_within named place (Stream number) is in omega arith) is

-- if the listener is among the first `n` named, the flag is set
abbrev pub NamedTo : ℕ → List Ready → Bool → Type 0
NamedTo n named now = (place : ℕ) → place < n → slice_get named place ≡ Some Listener → now ≡ true

pub named_none : (named : List Ready) (now : Bool) → NamedTo 0 named now
named_none named now place lt e = absurd (omega arith)

pub named_more : (n : ℕ) (named : List Ready) (found : Option Ready) (old new : Bool) → found ≡ slice_get named n → (found ≡ Some Listener → new ≡ true) → (old ≡ true → new ≡ true) → NamedTo n named old → NamedTo (n + 1) named new
named_more n named found old new is one still before place lt e = elim (cases_eq place n) [
  | inl same ↦ one (is ∙ (ap (λ (k : ℕ). slice_get named k) (sym same) ∙ e))
  | inr apart ↦ still (before place (let a : place ≢ n = apart in omega arith) e)
]

pub named_all : (n : ℕ) (named : List Ready) (now : Bool) → n ≡ length named → NamedTo n named now → NamesListener named → now ≡ true
named_all n named now e before names = before names.0 (let lt : names.0 < length named = slice_get_within named names.0 Listener names.1 in omega arith) names.1

pub at_end : (place last found : ℕ) → last ≤ place → place ≤ last → last ≡ found → place ≡ found
at_end place last found past within is = omega arith
