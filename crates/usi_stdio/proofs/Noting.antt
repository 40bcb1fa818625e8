-- Calls noted one by one.
use Rattle.std.proofs.Common.{◌≡◌, ℕ, List, [], ◌∷◌, ◌++◌, ap, ◌∙◌}
use Rattle.std.proofs.lemmas.List.{map-append}
use Rattle.byte_logs.specs.declared.log.Bytes.{Bytes}
use Rattle.usi_stdio.specs.Noted.{call_by, calls_noted}
use Rattle.usi_stdio.specs.declared.front_end.CallKind.{CallKind}

-- one more call, which moved these bytes, is noted
pub noted_call : (old new : List (CallKind × Bytes)) (kind : CallKind) (moved : Bytes) (none bytes : List ℕ) → new ≡ old ++ (kind, moved) ∷ [] → moved.items ≡ none ++ bytes → none ≡ [] → calls_noted new ≡ calls_noted old ++ call_by kind bytes ∷ []
noted_call old new kind moved none bytes e m z =
    let all : moved.items ≡ bytes = m ∙ ap (λ (l : List ℕ). l ++ bytes) z in
    ap (λ (l : List (CallKind × Bytes)). calls_noted l) e ∙ (map-append (λ (pair : CallKind × Bytes). call_by pair.0 pair.1.items) old ((kind, moved) ∷ []) ∙ ap (λ (l : List ℕ). calls_noted old ++ call_by kind l ∷ []) all)
