-- Which moves are legal (JSA playing rules: moves, promotion, drops, check, prohibited moves). Repetition and perpetual check are not judged.
use Rattle.std.specs.Prelude.{ℕ, ◌/◌, ◌&&◌, ◌||◌, Bool, true, false, not, Option, Some, None, is_none, nat_lt}
use Rattle.shogi_core.specs.declared.moves.TheConstants.{MOVE_CODE_COUNT}
use Rattle.shogi_core.specs.declared.piece.Color.{Color}
use Rattle.shogi_core.specs.declared.piece.Kind.{Kind}
use Rattle.shogi_core.specs.declared.piece.Kind.TheVariants as kinds
use Rattle.shogi_core.specs.declared.moves.Move.{Move}
use Rattle.shogi_core.specs.declared.moves.Move.TheVariants.{Board, Drop}
use Rattle.shogi_core.specs.Below.{some_below}
use Rattle.shogi_core.specs.Codes.{move_of}
use Rattle.shogi_core.specs.Movement.{Cells, piece_at, reaches}
use Rattle.shogi_core.specs.Position.{Shogi, HandCounts, count_in_hand}
use Rattle.shogi_core.specs.Attack.{in_check}
use Rattle.shogi_core.specs.Cell.{is_piece_of, is_immobile}
use Rattle.shogi_core.specs.Validity.{pawns_on_file}
use Rattle.shogi_core.specs.Zones.{may_promote}
use Rattle.shogi_moves.specs.After.{after, piece_moved, dropped}

-- A `Kind` is a piece in hand; a `Role` is a piece on the board, promoted or not. A move is `Board from to promote` or `Drop kind to`.

-- the kind is the pawn
abbrev pub is_pawn_kind : Kind → Bool
is_pawn_kind kinds.Pawn = true
is_pawn_kind _ = false

-- a piece of the side goes to a square that it reaches and that has no piece of its side; it promotes only if it may, and can move again from there
abbrev pub is_pseudo_legal_board_move : Cells → Color → ℕ → ℕ → Bool → Bool
is_pseudo_legal_board_move cells side from to promote =
    is_piece_of side (piece_at cells from)
    && not (is_piece_of side (piece_at cells to))
    && reaches cells from to
    && (not promote || may_promote (piece_at cells from) from to)
    && not (is_immobile to (piece_moved promote (piece_at cells from)))

-- a piece in hand goes to an empty square from which it can move again, and a pawn to a file without an unpromoted pawn of its side
abbrev pub is_pseudo_legal_drop : Cells → HandCounts → Color → Kind → ℕ → Bool
is_pseudo_legal_drop cells hands side kind to =
    nat_lt 0 (count_in_hand hands side kind)
    && is_none (piece_at cells to)
    && not (is_immobile to (dropped side kind))
    && not (is_pawn_kind kind && nat_lt 0 (pawns_on_file side (to / 9) cells))

-- the move obeys the rules on moves, promotion and drops; check and mate are not tested
abbrev pub is_pseudo_legal : Shogi → Move → Bool
is_pseudo_legal p (Board from to promote) =
    is_pseudo_legal_board_move p.cells p.side from to promote
is_pseudo_legal p (Drop kind to) = is_pseudo_legal_drop p.cells p.hands p.side kind to

-- the move is pseudo-legal and leaves the mover out of check; mate by a pawn drop is not tested
unfoldable pub is_safe : Shogi → Move → Bool
is_safe p m = is_pseudo_legal p m && not (in_check (after p m).cells p.side)

-- there is a move, and it is safe
abbrev pub is_some_and_safe : Shogi → Option Move → Bool
is_some_and_safe p None = false
is_some_and_safe p (Some m) = is_safe p m

-- the code is that of a safe move
abbrev pub is_safe_code : Shogi → ℕ → Bool
is_safe_code p code = is_some_and_safe p (move_of code)

-- the move is a pawn drop
abbrev pub is_pawn_drop : Move → Bool
is_pawn_drop (Board from to promote) = false
is_pawn_drop (Drop kind to) = is_pawn_kind kind

-- the side to move is in check and has no safe move. It is tested after a pawn drop in a valid position: the check comes from an adjacent square, so no drop answers it, and each safe move is legal
abbrev pub is_mated_by_drop : Shogi → Bool
is_mated_by_drop p = in_check p.cells p.side && not (some_below MOVE_CODE_COUNT (is_safe_code p))

-- the move is a pawn drop that mates
abbrev pub is_pawn_drop_mate : Shogi → Move → Bool
is_pawn_drop_mate p m = is_pawn_drop m && is_mated_by_drop (after p m)

-- the move is safe and does not mate by a pawn drop
unfoldable pub is_legal : Shogi → Move → Bool
is_legal p m = is_safe p m && not (is_pawn_drop_mate p m)

-- there is a move, and it is legal
abbrev pub is_some_and_legal : Shogi → Option Move → Bool
is_some_and_legal p None = false
is_some_and_legal p (Some m) = is_legal p m

-- the code is that of a legal move
unfoldable pub is_legal_code : Shogi → ℕ → Bool
is_legal_code p code = is_some_and_legal p (move_of code)
