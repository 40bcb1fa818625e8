-- What is won by exchanges, and what the other side wins after a move that ends a line.
use Rattle.std.specs.Prelude.{◌≡◌, ◌<◌, ℕ, pos, ◌+ℤ◌, ◌-ℤ◌, ◌≤ℤ◌, false}
use Rattle.shogi_core.specs.Bits.{has_bit}
use Rattle.shogi_core.specs.Position.{Shogi}
use Rattle.shogi_moves.specs.After.{after_code}
use Rattle.shogi_eval.specs.declared.eval.Eval.TheVariants.{Exchange}
use Rattle.shogi_eval.specs.Exchange.{best_settled, captures_max, leaf_after, settled}
use Rattle.shogi_eval.specs.Material.{material_of}

-- the move of a code gains its side this much
abbrev pub IsGain : Shogi → ℕ → ℕ → Type 0
IsGain p code gain =
    material_of (after_code p code) Exchange ≡ pos 0 -ℤ (material_of p Exchange +ℤ pos gain)

-- the side to move wins exactly this much on the square, by at most n captures
abbrev pub IsWonOn : Shogi → ℕ → ℕ → ℕ → Type 0
IsWonOn p s n won = settled p Exchange s n ≡ material_of p Exchange +ℤ pos won

-- the side to move wins no more than this on the square
abbrev pub WinsAtMostOn : Shogi → ℕ → ℕ → ℕ → Type 0
WinsAtMostOn p s n won = settled p Exchange s n ≤ℤ (material_of p Exchange +ℤ pos won)

-- the side to move wins no less than this on the square
abbrev pub WinsAtLeastOn : Shogi → ℕ → ℕ → ℕ → Type 0
WinsAtLeastOn p s n won = (material_of p Exchange +ℤ pos won) ≤ℤ settled p Exchange s n

-- the side to move wins no more than this on any square outside the set
abbrev pub WinsAtMostOff : Shogi → ℕ → ℕ → Type 0
WinsAtMostOff p squares won = (s : ℕ) → s < 81 → has_bit squares s ≡ false
    → WinsAtMostOn p s captures_max won

-- the side to move wins exactly this much by its best exchange on one square
abbrev pub IsWon : Shogi → ℕ → Type 0
IsWon p won = best_settled p Exchange ≡ material_of p Exchange +ℤ pos won

-- the side to move wins no less than this by its best exchange
abbrev pub IsWonAtLeast : Shogi → ℕ → Type 0
IsWonAtLeast p won = (material_of p Exchange +ℤ pos won) ≤ℤ best_settled p Exchange

-- after the move of a code the other side wins exactly this much
abbrev pub IsReprisal : Shogi → ℕ → ℕ → Type 0
IsReprisal p code won =
    leaf_after p Exchange code ≡ material_of (after_code p code) Exchange +ℤ pos won

-- after the move of a code the other side wins no less than this
abbrev pub IsEnough : Shogi → ℕ → ℕ → Type 0
IsEnough p code won =
    (material_of (after_code p code) Exchange +ℤ pos won) ≤ℤ leaf_after p Exchange code
