-- Calls of a memo over several searches.
use Rattle.std.proofs.Common.{◌≡◌, ◌∙◌, ◌<◌, ◌<ℤ◌, ◌≤ℤ◌, ℕ, ℤ, List, [], ◌∷◌, ◌++◌, Option, Some, None, refl, sym, ap, subst, inl, inr, arith, append_assoc}
use Rattle.std.specs.Option.{ForSome}
use Rattle.std.proofs.lemmas.Int.{ints}
use Rattle.shogi_core.specs.Position.{Shogi}
use Rattle.shogi_core.specs.declared.moves.Move.{Move}
use Rattle.shogi_eval.specs.declared.eval.Eval.{Eval}
use Rattle.minimax.specs.Entries.{IsEnoughBelow}
use Rattle.minimax.specs.Minimax.{value, best}
use Rattle.minimax.specs.declared.bounds.TheConstants.{INFINITY}
use Rattle.minimax.specs.declared.entry.Entry.{Entry}
use Rattle.minimax.specs.declared.entry.Entry.TheVariants.{Exact, AtLeast, AtMost}
use Rattle.shogi_search.specs.Calls.{Call, Probe, Note, EndsWith}
use Rattle.shogi_search.specs.Progress.{Progress, FindsBest, FindsValue, IsFoundBy}
use Rattle.shogi_search.specs.SearchCalls.{Says, TellsRoot}
use Rattle.shogi_search.specs.declared.found.Found.{Found}
use Rattle.shogi_search.proofs.CallLaws.{calls_and_calls, no_calls, one_call}
use Rattle.usi_session.specs.Roots.{Root, root_of}
use Rattle.usi_session.specs.Walked.{IsUnder}
use Rattle.usi_session.specs.Told.{AreTold, HasMadeCalls, TellsEnded, TellsEndedFor, TellsValue, entry_of_root}

-- no call was made
pub none_called : {M : Type 0} (called : M → Call → M → Type 0) (a : M) → HasMadeCalls called a a
none_called called a = record { calls = []; each = no_calls called a }

is_called_then : {M : Type 0} (called : M → Call → M → Type 0) (a b c : M)
    → HasMadeCalls called a b → HasMadeCalls called b c → HasMadeCalls called a c
is_called_then called a b c first second = record {
  calls = first.calls ++ second.calls;
  each = calls_and_calls called a b c first.calls second.calls first.each second.each;
}

-- the last of later calls is the last of all
ends_later : {M : Type 0} (called : M → Call → M → Type 0) (a b c : M) (call : Call)
    → HasMadeCalls called a b → EndsWith called b c call → EndsWith called a c call
ends_later called a b c call first last = record {
  calls = first.calls ++ last.calls;
  before = last.before;
  each = calls_and_calls called a b last.before first.calls last.calls first.each last.each;
  ends = last.ends;
}

tells_later : {M : Type 0} (called : M → Call → M → Type 0) (a b c : M) (root : Root)
    → HasMadeCalls called a b → TellsValue called b c root → TellsValue called a c root
tells_later called a b c root first (inl note) = inl (ends_later called a b c _ first note)
tells_later called a b c root first (inr probe) = inr (ends_later called a b c _ first probe)

told_later : {M : Type 0} (called : M → Call → M → Type 0) (a b c : M) (roots : List Root)
    → HasMadeCalls called a b → AreTold called b roots c → AreTold called a roots c
unfolding AreTold
told_later called a b c [] first rest = is_called_then called a b c first rest
told_later called a b c (root ∷ roots) first rest =
    (rest.0, (tells_later called a b rest.0 root first rest.1.0, rest.1.1))

pub told_and_told : {M : Type 0} (called : M → Call → M → Type 0) (a b c : M) (xs ys : List Root)
    → AreTold called a xs b → AreTold called b ys c → AreTold called a (xs ++ ys) c
unfolding AreTold
told_and_told called a b c [] ys first second = told_later called a b c ys first second
told_and_told called a b c (x ∷ xs) ys first second =
    (first.0, (first.1.0, told_and_told called first.0 b c xs ys first.1.1 second))

-- no search ended
pub none_ended : {M : Type 0} (called : M → Call → M → Type 0) (a b : M) (old new : List Root)
    → HasMadeCalls called a b → new ≡ old → TellsEnded called a b old new
unfolding AreTold
none_ended called a b old new calls e = record { ended = []; left = sym e; told = calls }

pub none_ended_for : {M : Type 0} (called : M → Call → M → Type 0) (a b : M) (old new : List ℕ → List Root)
    → HasMadeCalls called a b → ((x : List ℕ) → new x ≡ old x) → TellsEndedFor called a b old new
unfolding AreTold
none_ended_for called a b old new calls e = record { ended = []; left = λ x. sym (e x); told = calls }

-- the first search ended
pub one_ended : {M : Type 0} (called : M → Call → M → Type 0) (a b : M) (root : Root) (old new : List Root)
    → TellsValue called a b root → old ≡ root ∷ new → TellsEnded called a b old new
unfolding AreTold
one_ended called a b root old new told e =
    record { ended = root ∷ []; left = e; told = (b, (told, none_called called b)) }

-- searches ended, then further ones
pub ended_then_for : {M : Type 0} (called : M → Call → M → Type 0) (a b c : M) (x y z : List ℕ → List Root)
    → TellsEndedFor called a b x y → TellsEndedFor called b c y z → TellsEndedFor called a c x z
ended_then_for called a b c x y z first second = record {
  ended = first.ended ++ second.ended;
  left = λ k. first.left k ∙ (ap (λ rest. first.ended ++ rest) (second.left k) ∙ sym (append_assoc first.ended second.ended (z k)));
  told = told_and_told called a b c first.ended second.ended first.told second.told;
}

-- an entry enough below the end of the whole window is the exact value and best move
whole_entry : (root : Root) (entry : Entry) (f : Found) → Says entry f → IsEnoughBelow INFINITY (Some entry)
    → f.value ≡ value root.position root.eval root.depth → f.best ≡ best root.position root.eval root.depth
    → f.value <ℤ INFINITY → entry ≡ entry_of_root root
whole_entry root (Exact v m) f says enough is_value is_best below =
    ap (λ (x : ℤ). Exact x m) (sym says.0 ∙ is_value)
    ∙ ap (λ (k : Option Move). Exact (value root.position root.eval root.depth) k) (sym says.1 ∙ is_best)
whole_entry root (AtLeast v) f says enough is_value is_best below =
    let most : INFINITY ≤ℤ v = enough in
    let same : f.value ≡ v = says.0 in
    absurd (omega (arith, ints))
whole_entry root (AtMost v) f says enough is_value is_best below = absurd says

-- a search with steps left has not ended
pub not_ended : (found result : Option Found) (old new : Progress) → ForSome found (λ f. (result ≡ Some f) × (new ≡ old))
    → new.left ≡ 0 → 0 < old.left → found ≡ None
not_ended None result old new again over left = refl
not_ended (Some f) result old new again over left =
    let same : new.left ≡ old.left = ap (λ (p : Progress). p.left) (again f refl).1 in
    absurd (omega arith)

-- a search in the whole window tells its root's value when it ends
pub told_value : {M : Type 0} (called : M → Call → M → Type 0) (a b : M) (old new : Progress) (result : Option Found) (f : Found)
    (p : Shogi) (eval : Eval) (d : ℕ)
    → IsUnder old p eval d INFINITY → ForSome old.found (λ g. (result ≡ Some g) × (new ≡ old)) → new.left ≡ 0
    → IsFoundBy old f → FindsValue old f → FindsBest old f
    → (old.found ≡ None → TellsRoot called a b old f) → TellsValue called a b (root_of p eval d)
told_value called a b old new result f p eval d under again over below finds_value finds_best tells =
    let root = root_of old.root old.eval old.depth in
    let told : TellsRoot called a b old f = tells (not_ended old.found result old new again over under.left) in
    let enough : IsEnoughBelow INFINITY (Some told.entry) = subst (λ (beta : ℤ). IsEnoughBelow beta (Some told.entry)) under.beta_is told.enough in
    let same : told.entry ≡ entry_of_root root = whole_entry root told.entry f told.says enough (finds_value under.beta_is) (finds_best under.beta_is) below.most in
    let at_root : TellsValue called a b root = elim told.last [
      | inl note ↦ inl (subst (λ (entry : Entry). EndsWith called a b (Note old.root old.eval old.depth entry)) same note)
      | inr probe ↦ inr (subst (λ (entry : Entry). EndsWith called a b (Probe old.root old.eval old.depth (Some entry))) same probe)
    ] in
    subst (TellsValue called a b) (λ k. record { position = under.root k; eval = under.eval_is k; depth = under.depth_is k }) at_root

last_called : {M : Type 0} (called : M → Call → M → Type 0) (a b : M) (call : Call)
    → EndsWith called a b call → HasMadeCalls called a b
last_called called a b call last = record {
  calls = last.calls ++ call ∷ [];
  each = calls_and_calls called a last.before b last.calls (call ∷ []) last.each (one_call called last.before b call last.ends);
}

called_at : {M : Type 0} (called : M → Call → M → Type 0) (a b : M) (root : Root)
    → TellsValue called a b root → HasMadeCalls called a b
called_at called a b root (inl note) = last_called called a b _ note
called_at called a b root (inr probe) = last_called called a b _ probe

-- the calls that were made while searches ended
pub called_after_told : {M : Type 0} (called : M → Call → M → Type 0) (a b : M) (roots : List Root)
    → AreTold called a roots b → HasMadeCalls called a b
unfolding AreTold
called_after_told called a b [] told = told
called_after_told called a b (root ∷ roots) told =
    is_called_then called a told.0 b (called_at called a told.0 root told.1.0) (called_after_told called told.0 b roots told.1.1)
