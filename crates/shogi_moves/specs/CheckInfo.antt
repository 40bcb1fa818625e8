-- What is known of check and pins in a position, so that most of its moves need no test of their own.
use Rattle.std.specs.Prelude.{ℕ, ◌≡◌, ◌<◌, Bool, true, false}
use Rattle.shogi_core.specs.Attack.{in_check, OthersAreUnpinned, StaysInCheck}
use Rattle.shogi_core.specs.Bits.{has_bit}
use Rattle.shogi_core.specs.Cell.{is_king}
use Rattle.shogi_core.specs.Movement.{piece_at}
use Rattle.shogi_core.specs.Position.{Shogi}
use Rattle.shogi_moves.specs.declared.check_info.CheckInfo.{CheckInfo}
use Rattle.shogi_moves.specs.declared.check_info.CheckInfo.TheVariants.{InCheck, Free}

-- `checked` says whether the side to move is in check; the squares contain its king's. In check, a move of another piece answers it only on one of them; otherwise every pinned piece stands on one
pub record IsCheckInfo (p : Shogi) (checked : Bool) (pinned_or_king : ℕ) : Type 0 where
  pub check : checked ≡ in_check p.cells p.side
  pub kings : (n : ℕ) → n < 81 → has_bit pinned_or_king n ≡ false
      → is_king p.side (piece_at p.cells n) ≡ false
  pub stays : checked ≡ true → StaysInCheck pinned_or_king p.cells p.side
  pub free : checked ≡ false → OthersAreUnpinned pinned_or_king p.cells p.side

-- the info says that the side to move is in check
abbrev pub is_check : CheckInfo → Bool
is_check (InCheck squares) = true
is_check (Free squares) = false

-- the info's squares, as a mask
abbrev pub squares_of : CheckInfo → ℕ
squares_of (InCheck squares) = squares.bits
squares_of (Free squares) = squares.bits

-- the info is right for the position
abbrev pub IsCheckInfoOf : CheckInfo → Shogi → Type 0
IsCheckInfoOf info p = IsCheckInfo p (is_check info) (squares_of info)
