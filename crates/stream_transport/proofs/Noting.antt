-- One more recorded call.
use Rattle.std.proofs.Common.{◌≡◌, List, [], ◌∷◌, ◌++◌, Some, ap, ◌∙◌}
use Rattle.std.proofs.lemmas.List.{map-append}
use Rattle.transport.specs.Asked.{Asks}
use Rattle.stream_transport.specs.Streams.{firsts}

pub noted : {A B : Type 0} (old mid new : List (A × B)) (call : A) (beside : B) → mid ≡ old → new ≡ mid ++ (call, beside) ∷ [] → Asks (Some (firsts old)) (Some (firsts new)) (call ∷ [])
noted {A} {B} old mid new call beside same more =
    let all : new ≡ old ++ (call, beside) ∷ [] = more ∙ ap (λ (xs : List (A × B)). xs ++ (call, beside) ∷ []) same in
    let calls : firsts new ≡ firsts old ++ call ∷ [] = ap (λ (xs : List (A × B)). firsts xs) all ∙ map-append (λ (pair : A × B). pair.0) old ((call, beside) ∷ []) in
    ap (λ (xs : List A). Some xs) calls
