-- The characters that texts are written with, by the names that code and definitions share (USI and SFEN).
use Rattle.std.specs.Prelude.{◌≡◌, ◌+◌, [], ◌∷◌, codes}
use Rattle.shogi_sfen.specs.declared.board_text.TheConstants.{RANK_SQUARES, BOARD_SQUARES}
use Rattle.shogi_sfen.specs.declared.byte.TheConstants.{FIRST_FILE, FIRST_RANK, KING, LOWER_CASE, PLUS, SLASH, SPACE, STAR, TAB, TO_LOWER_CASE, ZERO}

-- the constants are these characters: blanks, kings, the plus of a promotion, the square `1a`, the star of a drop, the digit 0 and the slash; a rank has nine squares, the board 81
pub record AreCharacters : Type 0 where
  pub blanks : (SPACE ∷ TAB ∷ []) ≡ codes " \t"
  pub pieces : (KING ∷ (KING + TO_LOWER_CASE) ∷ PLUS ∷ []) ≡ codes "Kk+"
  pub lower_case : (LOWER_CASE ∷ []) ≡ codes "a"
  pub squares : (FIRST_FILE ∷ FIRST_RANK ∷ STAR ∷ []) ≡ codes "1a*"
  pub digits : (ZERO ∷ []) ≡ codes "0"
  pub ranks : (SLASH ∷ []) ≡ codes "/"
  pub rank : RANK_SQUARES ≡ 9
  pub board : BOARD_SQUARES ≡ 81
