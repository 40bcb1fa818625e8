-- The answer to a line whose position was read.
use Rattle.std.proofs.Common.{◌≡◌, ◌≢◌, ◌∙◌, ◌++◌, ℕ, Bool, false, List, [], ◌∷◌, Result, Ok, refl, sym, ap}
use Rattle.shogi_core.specs.Position.{Shogi}
use Rattle.usi_lines.specs.Lines.{Line, Text}
use Rattle.usi_moves.specs.Asked.{position_of_text}
use Rattle.usi_texts.specs.declared.position_command.Refusal.{Refusal}
use Rattle.usi_moves.specs.MateAnswers.{is_bad, is_refusal, line_answer, read_answer}
use Rattle.usi_moves.specs.Solutions.{mate_text}
use Rattle.usi_moves.specs.declared.solutions.MateOptions.{MateOptions}

pub solved_answer : (options : MateOptions) (number : ℕ) (text : List ℕ) (p : Shogi) (old new : List ℕ) → text ≢ [] → Ok p ≡ position_of_text text → new ≡ old ++ mate_text p options
    → (new ≡ old ++ line_answer options number (Text text)) × (false ≡ is_bad (Text text))
solved_answer options number [] p old new some is e = absurd (some refl)
solved_answer options number (byte ∷ rest) p old new some is e = (
  e ∙ ap (λ (r : Result Shogi Refusal). old ++ read_answer options number r) is,
  ap is_refusal is,
)
