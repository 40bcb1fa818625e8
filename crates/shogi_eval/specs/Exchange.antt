-- The answer to a capture or promotion that ends a line: the best exchange on one square (own choice; static exchange evaluation, least valuable attacker first).
use Rattle.std.specs.Prelude.{ℕ, zero, suc, ℤ, pos, ◌-ℤ◌, ◌+◌, ◌*◌, ◌==◌, ◌&&◌, Bool, true, false, not, cond, nat_lt, is_some, is_none, List, [], ◌∷◌, Option, Some, None}
use Rattle.std.specs.Int.{int_max}
use Rattle.shogi_core.specs.declared.moves.Move.{Move}
use Rattle.shogi_core.specs.declared.moves.Move.TheVariants.{Board, Drop}
use Rattle.shogi_core.specs.declared.piece.Role.{Role}
use Rattle.shogi_core.specs.declared.piece.Role.TheVariants.{King}
use Rattle.shogi_core.specs.declared.piece.Piece.{Piece}
use Rattle.shogi_core.specs.Codes.{move_of}
use Rattle.shogi_core.specs.Movement.{piece_at}
use Rattle.shogi_core.specs.Position.{Shogi}
use Rattle.shogi_moves.specs.After.{after_code}
use Rattle.shogi_moves.specs.LegalMoves.{legal_codes}
use Rattle.shogi_eval.specs.declared.eval.Eval.{Eval}
use Rattle.shogi_eval.specs.declared.eval.Eval.TheVariants.{Plain, Hand, Exchange}
use Rattle.shogi_eval.specs.Material.{value_of, material_of}

-- the price of sending a piece into an exchange: its value; a king goes last
abbrev pub exchange_price : Role → ℕ
exchange_price King = 10000
exchange_price role = value_of role

-- the price of a capture: twice the price of the piece that captures, and one more if it does not promote
abbrev pub price_with : Option Piece → Bool → ℕ
price_with None promote = 0
price_with (Some piece) promote = 2 * exchange_price piece.role + cond promote 0 1

abbrev pub price : Shogi → Option Move → ℕ
price p (Some (Board from to promote)) = price_with (piece_at p.cells from) promote
price p (Some (Drop kind to)) = 0
price p None = 0

-- the move captures on the square
abbrev pub takes_on : Shogi → ℕ → Option Move → Bool
takes_on p s (Some (Board from to promote)) = to == s && is_some (piece_at p.cells to)
takes_on p s (Some (Drop kind to)) = false
takes_on p s None = false

-- the move neither captures nor promotes
abbrev pub is_quiet : Shogi → Option Move → Bool
is_quiet p (Some (Board from to promote)) = not promote && is_none (piece_at p.cells to)
is_quiet p (Some (Drop kind to)) = true
is_quiet p None = true

-- the cheaper of the best move so far and another; the first of two at one price
abbrev pub cheaper : Shogi → Option ℕ → ℕ → Option ℕ
cheaper p None code = Some code
cheaper p (Some best) code =
    cond (nat_lt (price p (move_of code)) (price p (move_of best))) (Some code) (Some best)

-- the cheapest of the best move so far and the captures on the square; the first of several at one price
abbrev pub cheapest : Shogi → ℕ → Option ℕ → List ℕ → Option ℕ
cheapest p s best [] = best
cheapest p s best (code ∷ codes) =
    cheapest p s (cond (takes_on p s (move_of code)) (cheaper p best code) best) codes

-- the legal capture on the square by the cheapest piece, with promotion if it may; the least code if several do
abbrev pub least_valuable_attacker : Shogi → ℕ → Option ℕ
least_valuable_attacker p s = cheapest p s None (legal_codes p)

-- the value of standing, or of the capture if that is more
abbrev pub stand_or_take : ℤ → (ℕ → ℤ) → Option ℕ → ℤ
stand_or_take has after None = has
stand_or_take has after (Some code) = int_max has (after code)

-- the points of the side to move after the exchange on a square: it stands, or captures there and lets the opponent go on; at most n captures
unfoldable pub settled : Shogi → Eval → ℕ → ℕ → ℤ
settled p e s zero = material_of p e
settled p e s (suc n) =
    stand_or_take (material_of p e) (λ code. pos 0 -ℤ settled (after_code p code) e s n) (least_valuable_attacker p s)

-- the most points that an exchange on one of the squares 0 to s leaves
unfoldable pub most_settled : Shogi → Eval → ℕ → ℕ → ℤ
most_settled p e n zero = settled p e 0 n
most_settled p e n (suc s) = int_max (settled p e (suc s) n) (most_settled p e n s)

-- the most captures of an exchange: each takes one of the forty pieces of a set off the board
abbrev pub captures_max : ℕ
captures_max = 40

-- the points of the side to move after the best exchange on one square
abbrev pub best_settled : Shogi → Eval → ℤ
best_settled p e = most_settled p e captures_max 80

-- the points of the side to move after the move that ends a line: its material, or those after its best exchange, under Exchange if the move was not quiet
abbrev pub leaf_after : Shogi → Eval → ℕ → ℤ
leaf_after p Plain code = material_of (after_code p code) Plain
leaf_after p Hand code = material_of (after_code p code) Hand
leaf_after p Exchange code =
    cond (is_quiet p (move_of code)) (material_of (after_code p code) Exchange)
    (best_settled (after_code p code) Exchange)

-- the evaluation settles exchanges at the end of a line
abbrev pub resolves_captures : Eval → Bool
resolves_captures Plain = false
resolves_captures Hand = false
resolves_captures Exchange = true
