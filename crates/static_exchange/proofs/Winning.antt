-- What is left by the move that ends a line, by what the other side wins then.
use Rattle.std.proofs.Common.{◌≡◌, ◌≤◌, ℕ, ℤ, pos, ◌+ℤ◌, ◌≤ℤ◌, true, false, not, sym, ap, ◌∙◌, subst, arith}
use Rattle.std.proofs.lemmas.Int.{ints}
use Rattle.shogi_core.specs.Codes.{move_of}
use Rattle.shogi_core.specs.Position.{Shogi}
use Rattle.shogi_moves.specs.After.{after_code}
use Rattle.shogi_eval.specs.declared.eval.Eval.TheVariants.{Exchange}
use Rattle.shogi_eval.specs.Exchange.{is_quiet, leaf_after}
use Rattle.shogi_eval.specs.Material.{material_of}
use Rattle.minimax.proofs.Settling.{left_loud, left_quiet}
use Rattle.static_exchange.specs.Reprisals.{IsWon, IsWonAtLeast, IsReprisal, IsEnough}

-- after a quiet move the other side wins nothing
pub reprisal_quiet : (p : Shogi) (code : ℕ) → is_quiet p (move_of code) ≡ true → IsReprisal p code 0
reprisal_quiet p code q = let is : leaf_after p Exchange code ≡ material_of (after_code p code) Exchange = left_quiet p Exchange code q in omega (arith, ints, is)

pub enough_quiet : (p : Shogi) (code enough : ℕ) → is_quiet p (move_of code) ≡ true → enough ≤ 0 → IsEnough p code enough
enough_quiet p code enough q h = let is : leaf_after p Exchange code ≡ material_of (after_code p code) Exchange = left_quiet p Exchange code q in omega (arith, ints, is, h)

-- after any other move the score is lowered by what the other side wins
pub reprisal_loud : (p q : Shogi) (code won : ℕ) → is_quiet p (move_of code) ≡ false → q ≡ after_code p code → IsWon q won → IsReprisal p code won
reprisal_loud p q code won loud at is = left_loud p Exchange code (ap not loud) ∙ subst (λ (r : Shogi). IsWon r won) at is

pub enough_loud : (p q : Shogi) (code won : ℕ) → is_quiet p (move_of code) ≡ false → q ≡ after_code p code → IsWonAtLeast q won → IsEnough p code won
enough_loud p q code won loud at is = subst (λ (v : ℤ). (material_of (after_code p code) Exchange +ℤ pos won) ≤ℤ v) (sym (left_loud p Exchange code (ap not loud))) (subst (λ (r : Shogi). IsWonAtLeast r won) at is)
