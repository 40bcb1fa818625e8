-- How a move changes the material.
use Rattle.std.proofs.Common.{◌≡◌, ◌≢◌, ◌≤◌, ◌<◌, ◌+◌, ◌*◌, ◌-◌, ℕ, ℤ, pos, ◌-ℤ◌, ◌+ℤ◌, List, length, length-set, get_or, set, Bool, true, false, cond, Option, Some, None, refl, ap, sym, subst, arith, get_or-set_same, get_or-set_other}
use Rattle.std.specs.Prelude.{sum_by, slice_set}
use Rattle.std.proofs.lemmas.List.Sums.{sum_by-set}
use Rattle.std.proofs.lemmas.Grind.{common_steps}
use Rattle.std.proofs.lemmas.Int.{ints}
use Rattle.std.proofs.lemmas.Bool.{cond-true, cond-false, both_ways}
use Rattle.shogi_core.specs.declared.piece.Color.{Color}
use Rattle.shogi_core.specs.declared.piece.Color.TheVariants.{Black, White}
use Rattle.shogi_core.specs.declared.piece.Kind.{Kind}
use Rattle.shogi_core.specs.declared.piece.Kind.TheVariants as kinds
use Rattle.shogi_core.specs.declared.piece.Piece.{Piece}
use Rattle.shogi_core.specs.Position.{Shogi, HandCounts, count_in_hand, place_of}
use Rattle.shogi_core.specs.declared.piece.Role.{Role}
use Rattle.shogi_core.specs.declared.piece.Role.TheVariants.{King, Pawn}
use Rattle.shogi_core.specs.declared.moves.Move.{Move}
use Rattle.shogi_core.specs.declared.moves.Move.TheVariants.{Board, Drop}
use Rattle.shogi_core.specs.Cell.{is_piece_of}
use Rattle.shogi_core.specs.Movement.{piece_at}
use Rattle.shogi_core.specs.Pieces.{opponent_of, is_same_color, kind_of, role_of, promoted}
use Rattle.shogi_core.specs.Validity.{IsValid}
use Rattle.shogi_moves.specs.After.{after, piece_moved, dropped, with_one_more, with_captured}
use Rattle.shogi_moves.specs.Legal.{is_legal}
use Rattle.shogi_moves.proofs.Keeps.{is_safe_from_legal}
use Rattle.shogi_moves.proofs.KeepsBoard.{IsSafeBoardMove, safe_board_move}
use Rattle.shogi_moves.proofs.KeepsDrop.{IsSafeDrop, safe_drop}
use Rattle.shogi_eval.specs.declared.eval.Eval.{Eval}
use Rattle.shogi_eval.specs.declared.eval.Eval.TheVariants.{Plain, Hand, Exchange}
use Rattle.shogi_eval.specs.Material.{points_at, points_in_hand, points_of, material_of, value_of, value_in_hand, value_of_captured, taken_gain, promotion_gain, drop_gain}

-- the points that a move gains its side
abbrev pub gain_of : Shogi → Eval → Move → ℤ
gain_of p e (Board from to promote) = pos (taken_gain e (piece_at p.cells to) + promotion_gain promote (piece_at p.cells from))
gain_of p e (Drop kind to) = drop_gain e kind

-- a sum over the cells after a piece moves from a to b
sum_moved : (f : Option Piece → ℕ) (xs : List (Option Piece)) (a b : ℕ) (v : Option Piece) → f None ≡ 0 → a < length xs → b < length xs → b ≢ a
    → sum_by f (set (set xs a None) b v) + f (get_or xs a None) + f (get_or xs b None) ≡ sum_by f xs + f v
sum_moved f xs a b v none ha hb other =
    let first : sum_by f (set xs a None) + f (get_or xs a None) ≡ sum_by f xs + f None = sum_by-set f xs a None None ha in
    let second : sum_by f (set (set xs a None) b v) + f (get_or (set xs a None) b None) ≡ sum_by f (set xs a None) + f v = sum_by-set f (set xs a None) b v None (rw length-set hb) in
    let same : get_or (set xs a None) b None ≡ get_or xs b None = get_or-set_other xs a b None None other in
    let second' : sum_by f (set (set xs a None) b v) + f (get_or xs b None) ≡ sum_by f (set xs a None) + f v = rw same at second in
    omega arith

-- the points in hand after one count is written
in_hand_set : (hands : HandCounts) (eval : Eval) (side : Color) (kind : Kind) (n : ℕ) → length hands ≡ 14 → points_in_hand (slice_set hands (place_of side kind) n) eval side + count_in_hand hands side kind * value_in_hand eval kind ≡ points_in_hand hands eval side + n * value_in_hand eval kind
in_hand_set hands Plain Black kinds.Pawn n len = grind (arith, common_steps, get_or-set_same, get_or-set_other)
in_hand_set hands Plain Black kinds.Lance n len = grind (arith, common_steps, get_or-set_same, get_or-set_other)
in_hand_set hands Plain Black kinds.Knight n len = grind (arith, common_steps, get_or-set_same, get_or-set_other)
in_hand_set hands Plain Black kinds.Silver n len = grind (arith, common_steps, get_or-set_same, get_or-set_other)
in_hand_set hands Plain Black kinds.Gold n len = grind (arith, common_steps, get_or-set_same, get_or-set_other)
in_hand_set hands Plain Black kinds.Bishop n len = grind (arith, common_steps, get_or-set_same, get_or-set_other)
in_hand_set hands Plain Black kinds.Rook n len = grind (arith, common_steps, get_or-set_same, get_or-set_other)
in_hand_set hands Plain White kinds.Pawn n len = grind (arith, common_steps, get_or-set_same, get_or-set_other)
in_hand_set hands Plain White kinds.Lance n len = grind (arith, common_steps, get_or-set_same, get_or-set_other)
in_hand_set hands Plain White kinds.Knight n len = grind (arith, common_steps, get_or-set_same, get_or-set_other)
in_hand_set hands Plain White kinds.Silver n len = grind (arith, common_steps, get_or-set_same, get_or-set_other)
in_hand_set hands Plain White kinds.Gold n len = grind (arith, common_steps, get_or-set_same, get_or-set_other)
in_hand_set hands Plain White kinds.Bishop n len = grind (arith, common_steps, get_or-set_same, get_or-set_other)
in_hand_set hands Plain White kinds.Rook n len = grind (arith, common_steps, get_or-set_same, get_or-set_other)
in_hand_set hands Hand Black kinds.Pawn n len = grind (arith, common_steps, get_or-set_same, get_or-set_other)
in_hand_set hands Hand Black kinds.Lance n len = grind (arith, common_steps, get_or-set_same, get_or-set_other)
in_hand_set hands Hand Black kinds.Knight n len = grind (arith, common_steps, get_or-set_same, get_or-set_other)
in_hand_set hands Hand Black kinds.Silver n len = grind (arith, common_steps, get_or-set_same, get_or-set_other)
in_hand_set hands Hand Black kinds.Gold n len = grind (arith, common_steps, get_or-set_same, get_or-set_other)
in_hand_set hands Hand Black kinds.Bishop n len = grind (arith, common_steps, get_or-set_same, get_or-set_other)
in_hand_set hands Hand Black kinds.Rook n len = grind (arith, common_steps, get_or-set_same, get_or-set_other)
in_hand_set hands Hand White kinds.Pawn n len = grind (arith, common_steps, get_or-set_same, get_or-set_other)
in_hand_set hands Hand White kinds.Lance n len = grind (arith, common_steps, get_or-set_same, get_or-set_other)
in_hand_set hands Hand White kinds.Knight n len = grind (arith, common_steps, get_or-set_same, get_or-set_other)
in_hand_set hands Hand White kinds.Silver n len = grind (arith, common_steps, get_or-set_same, get_or-set_other)
in_hand_set hands Hand White kinds.Gold n len = grind (arith, common_steps, get_or-set_same, get_or-set_other)
in_hand_set hands Hand White kinds.Bishop n len = grind (arith, common_steps, get_or-set_same, get_or-set_other)
in_hand_set hands Hand White kinds.Rook n len = grind (arith, common_steps, get_or-set_same, get_or-set_other)
in_hand_set hands Exchange Black kinds.Pawn n len = grind (arith, common_steps, get_or-set_same, get_or-set_other)
in_hand_set hands Exchange Black kinds.Lance n len = grind (arith, common_steps, get_or-set_same, get_or-set_other)
in_hand_set hands Exchange Black kinds.Knight n len = grind (arith, common_steps, get_or-set_same, get_or-set_other)
in_hand_set hands Exchange Black kinds.Silver n len = grind (arith, common_steps, get_or-set_same, get_or-set_other)
in_hand_set hands Exchange Black kinds.Gold n len = grind (arith, common_steps, get_or-set_same, get_or-set_other)
in_hand_set hands Exchange Black kinds.Bishop n len = grind (arith, common_steps, get_or-set_same, get_or-set_other)
in_hand_set hands Exchange Black kinds.Rook n len = grind (arith, common_steps, get_or-set_same, get_or-set_other)
in_hand_set hands Exchange White kinds.Pawn n len = grind (arith, common_steps, get_or-set_same, get_or-set_other)
in_hand_set hands Exchange White kinds.Lance n len = grind (arith, common_steps, get_or-set_same, get_or-set_other)
in_hand_set hands Exchange White kinds.Knight n len = grind (arith, common_steps, get_or-set_same, get_or-set_other)
in_hand_set hands Exchange White kinds.Silver n len = grind (arith, common_steps, get_or-set_same, get_or-set_other)
in_hand_set hands Exchange White kinds.Gold n len = grind (arith, common_steps, get_or-set_same, get_or-set_other)
in_hand_set hands Exchange White kinds.Bishop n len = grind (arith, common_steps, get_or-set_same, get_or-set_other)
in_hand_set hands Exchange White kinds.Rook n len = grind (arith, common_steps, get_or-set_same, get_or-set_other)

in_hand_other : (hands : HandCounts) (eval : Eval) (side : Color) (kind : Kind) (n : ℕ) → points_in_hand (slice_set hands (place_of side kind) n) eval (opponent_of side) ≡ points_in_hand hands eval (opponent_of side)
in_hand_other hands eval Black kinds.Pawn n = grind (arith, common_steps, get_or-set_other)
in_hand_other hands eval Black kinds.Lance n = grind (arith, common_steps, get_or-set_other)
in_hand_other hands eval Black kinds.Knight n = grind (arith, common_steps, get_or-set_other)
in_hand_other hands eval Black kinds.Silver n = grind (arith, common_steps, get_or-set_other)
in_hand_other hands eval Black kinds.Gold n = grind (arith, common_steps, get_or-set_other)
in_hand_other hands eval Black kinds.Bishop n = grind (arith, common_steps, get_or-set_other)
in_hand_other hands eval Black kinds.Rook n = grind (arith, common_steps, get_or-set_other)
in_hand_other hands eval White kinds.Pawn n = grind (arith, common_steps, get_or-set_other)
in_hand_other hands eval White kinds.Lance n = grind (arith, common_steps, get_or-set_other)
in_hand_other hands eval White kinds.Knight n = grind (arith, common_steps, get_or-set_other)
in_hand_other hands eval White kinds.Silver n = grind (arith, common_steps, get_or-set_other)
in_hand_other hands eval White kinds.Gold n = grind (arith, common_steps, get_or-set_other)
in_hand_other hands eval White kinds.Bishop n = grind (arith, common_steps, get_or-set_other)
in_hand_other hands eval White kinds.Rook n = grind (arith, common_steps, get_or-set_other)

same_other : (s c : Color) → is_same_color s c ≡ true → is_same_color (opponent_of s) c ≡ false
same_other Black Black e = refl
same_other White White e = refl
same_other Black White e = cc
same_other White Black e = cc

other_same : (s c : Color) → is_same_color s c ≡ false → is_same_color (opponent_of s) c ≡ true
other_same Black Black e = cc
other_same White White e = cc
other_same Black White e = refl
other_same White Black e = refl

same_itself : (s : Color) → is_same_color s s ≡ true
same_itself Black = refl
same_itself White = refl

opponent_twice : (s : Color) → opponent_of (opponent_of s) ≡ s
opponent_twice Black = refl
opponent_twice White = refl

-- the points in a cell, of either side
abbrev points_there : Option Piece → ℕ
points_there None = 0
points_there (Some piece) = value_of piece.role

-- the points that capturing a piece brings to hand
abbrev captured_gain : Eval → Option Piece → ℕ
captured_gain eval None = 0
captured_gain eval (Some piece) = value_of_captured eval (kind_of piece.role)

taken_parts : (eval : Eval) (cell : Option Piece) → taken_gain eval cell ≡ points_there cell + captured_gain eval cell
taken_parts eval None = refl
taken_parts eval (Some piece) = refl

own_other : (s : Color) (cell : Option Piece) → is_piece_of s cell ≡ true → points_at (opponent_of s) cell ≡ 0
own_other s None e = cc
own_other s (Some piece) e = cond-false _ _ _ (same_other s piece.color e)

free_own : (s : Color) (cell : Option Piece) → is_piece_of s cell ≡ false → points_at s cell ≡ 0
free_own s None e = refl
free_own s (Some piece) e = cond-false _ _ _ e

free_other : (s : Color) (cell : Option Piece) → is_piece_of s cell ≡ false → points_at (opponent_of s) cell ≡ points_there cell
free_other s None e = refl
free_other s (Some piece) e = cond-true _ _ _ (other_same s piece.color e)

promoted_more : (role : Role) → value_of role ≤ value_of (promoted role)
promoted_more King = omega arith
promoted_more Pawn = omega arith
promoted_more _ = omega arith

moved_own : (s : Color) (promote : Bool) (cell : Option Piece) → is_piece_of s cell ≡ true → points_at s (piece_moved promote cell) ≡ points_at s cell + promotion_gain promote cell
moved_own s promote None e = cc
moved_own s false (Some piece) e = omega arith
moved_own s true (Some piece) e =
    let more : value_of piece.role ≤ value_of (promoted piece.role) = promoted_more piece.role in
    let now : cond (is_same_color s piece.color) (value_of piece.role) 0 ≡ value_of piece.role = cond-true _ _ _ e in
    let then : cond (is_same_color s piece.color) (value_of (promoted piece.role)) 0 ≡ value_of (promoted piece.role) = cond-true _ _ _ e in
    omega arith

moved_other : (s : Color) (promote : Bool) (cell : Option Piece) → is_piece_of s cell ≡ true → points_at (opponent_of s) (piece_moved promote cell) ≡ 0
moved_other s promote None e = cc
moved_other s promote (Some piece) e = cond-false _ _ _ (same_other s piece.color e)

one_more_own : (hands : HandCounts) (eval : Eval) (s : Color) (kind : Option Kind) → length hands ≡ 14 → points_in_hand (with_one_more hands s kind) eval s ≡ points_in_hand hands eval s + value_of_captured eval kind
one_more_own hands eval s None len = omega arith
one_more_own hands eval s (Some kind) len = omega (arith, in_hand_set hands eval s kind (count_in_hand hands s kind + 1) len)

one_more_other : (hands : HandCounts) (eval : Eval) (s : Color) (kind : Option Kind) → points_in_hand (with_one_more hands s kind) eval (opponent_of s) ≡ points_in_hand hands eval (opponent_of s)
one_more_other hands eval s None = refl
one_more_other hands eval s (Some kind) = in_hand_other hands eval s kind (count_in_hand hands s kind + 1)

captured_own : (hands : HandCounts) (eval : Eval) (s : Color) (cell : Option Piece) → length hands ≡ 14 → points_in_hand (with_captured hands s cell) eval s ≡ points_in_hand hands eval s + captured_gain eval cell
captured_own hands eval s None len = omega arith
captured_own hands eval s (Some piece) len = one_more_own hands eval s (kind_of piece.role) len

captured_other : (hands : HandCounts) (eval : Eval) (s : Color) (cell : Option Piece) → points_in_hand (with_captured hands s cell) eval (opponent_of s) ≡ points_in_hand hands eval (opponent_of s)
captured_other hands eval s None = refl
captured_other hands eval s (Some piece) = one_more_other hands eval s (kind_of piece.role)

board_own : (p : Shogi) (eval : Eval) (from to : ℕ) (promote : Bool) → IsValid p → from < 81 → to < 81 → to ≢ from → IsSafeBoardMove p from to promote
    → points_of (after p (Board from to promote)) eval p.side ≡ points_of p eval p.side + captured_gain eval (piece_at p.cells to) + promotion_gain promote (piece_at p.cells from)
unfolding points_of
board_own p eval from to promote v f t ne safe =
    let a : from < length p.cells = omega (arith, v.cells_fit) in
    let b : to < length p.cells = omega (arith, v.cells_fit) in
    let board : _ = sum_moved (points_at p.side) p.cells from to (piece_moved promote (piece_at p.cells from)) refl a b ne in
    let hand : _ = captured_own p.hands eval p.side (piece_at p.cells to) v.hands_fit in
    let now : points_at p.side (piece_moved promote (piece_at p.cells from)) ≡ points_at p.side (piece_at p.cells from) + promotion_gain promote (piece_at p.cells from) = moved_own p.side promote (piece_at p.cells from) safe.own in
    let none : points_at p.side (piece_at p.cells to) ≡ 0 = free_own p.side (piece_at p.cells to) safe.free in
    omega (arith, board, hand)

board_other : (p : Shogi) (eval : Eval) (from to : ℕ) (promote : Bool) → IsValid p → from < 81 → to < 81 → to ≢ from → IsSafeBoardMove p from to promote
    → points_of (after p (Board from to promote)) eval (opponent_of p.side) + points_there (piece_at p.cells to) ≡ points_of p eval (opponent_of p.side)
unfolding points_of
board_other p eval from to promote v f t ne safe =
    let a : from < length p.cells = omega (arith, v.cells_fit) in
    let b : to < length p.cells = omega (arith, v.cells_fit) in
    let board : _ = sum_moved (points_at (opponent_of p.side)) p.cells from to (piece_moved promote (piece_at p.cells from)) refl a b ne in
    let hand : _ = captured_other p.hands eval p.side (piece_at p.cells to) in
    let now : points_at (opponent_of p.side) (piece_moved promote (piece_at p.cells from)) ≡ 0 = moved_other p.side promote (piece_at p.cells from) safe.own in
    let left : points_at (opponent_of p.side) (piece_at p.cells from) ≡ 0 = own_other p.side (piece_at p.cells from) safe.own in
    let taken : points_at (opponent_of p.side) (piece_at p.cells to) ≡ points_there (piece_at p.cells to) = free_other p.side (piece_at p.cells to) safe.free in
    omega (arith, board, hand)

apart : (p : Shogi) (from to : ℕ) (promote : Bool) → IsSafeBoardMove p from to promote → to ≢ from
apart p from to promote safe e = both_ways (is_piece_of p.side (piece_at p.cells from)) (subst (λ (x : ℕ). is_piece_of p.side (piece_at p.cells x) ≡ false) e safe.free) safe.own

-- the material after a move on the board, as seen by the opponent
pub material_after_board : (p : Shogi) (eval : Eval) (from to : ℕ) (promote : Bool) → IsValid p → from < 81 → to < 81 → is_legal p (Board from to promote) ≡ true
    → material_of (after p (Board from to promote)) eval ≡ pos 0 -ℤ (material_of p eval +ℤ gain_of p eval (Board from to promote))
unfolding material_of
material_after_board p eval from to promote v f t l =
    let safe : IsSafeBoardMove p from to promote = safe_board_move p from to promote (is_safe_from_legal p (Board from to promote) l) in
    let ne : to ≢ from = apart p from to promote safe in
    let own : _ = board_own p eval from to promote v f t ne safe in
    let other : _ = board_other p eval from to promote v f t ne safe in
    let twice : points_of (after p (Board from to promote)) eval (opponent_of (opponent_of p.side)) ≡ points_of (after p (Board from to promote)) eval p.side = ap (points_of (after p (Board from to promote)) eval) (opponent_twice p.side) in
    let parts : taken_gain eval (piece_at p.cells to) ≡ points_there (piece_at p.cells to) + captured_gain eval (piece_at p.cells to) = taken_parts eval (piece_at p.cells to) in
    omega (arith, ints, own, other)

one_less : (h n v : ℕ) → 1 ≤ h → n ≡ h - 1 → h * v ≡ n * v + v
one_less h n v l e = let s : h ≡ n + 1 = omega arith in rw s (omega arith)

drop_own : (p : Shogi) (eval : Eval) (kind : Kind) (to : ℕ) → IsValid p → to < 81 → 0 < count_in_hand p.hands p.side kind → piece_at p.cells to ≡ None → points_of (after p (Drop kind to)) eval p.side + value_in_hand eval kind ≡ points_of p eval p.side + value_of (role_of kind)
unfolding points_of
drop_own p eval kind to v t h e =
    let b : to < length p.cells = omega (arith, v.cells_fit) in
    let board : _ = sum_by-set (points_at p.side) p.cells to (dropped p.side kind) None b in
    let hand : _ = in_hand_set p.hands eval p.side kind (count_in_hand p.hands p.side kind - 1) v.hands_fit in
    let less : count_in_hand p.hands p.side kind * value_in_hand eval kind ≡ (count_in_hand p.hands p.side kind - 1) * value_in_hand eval kind + value_in_hand eval kind = one_less (count_in_hand p.hands p.side kind) (count_in_hand p.hands p.side kind - 1) (value_in_hand eval kind) (omega arith) refl in
    let empty : points_at p.side (piece_at p.cells to) ≡ 0 = ap (points_at p.side) e in
    let there : points_at p.side (dropped p.side kind) ≡ value_of (role_of kind) = cond-true _ _ _ (same_itself p.side) in
    omega (arith, board, hand)

drop_other : (p : Shogi) (eval : Eval) (kind : Kind) (to : ℕ) → IsValid p → to < 81 → piece_at p.cells to ≡ None → points_of (after p (Drop kind to)) eval (opponent_of p.side) ≡ points_of p eval (opponent_of p.side)
unfolding points_of
drop_other p eval kind to v t e =
    let b : to < length p.cells = omega (arith, v.cells_fit) in
    let board : _ = sum_by-set (points_at (opponent_of p.side)) p.cells to (dropped p.side kind) None b in
    let hand : _ = in_hand_other p.hands eval p.side kind (count_in_hand p.hands p.side kind - 1) in
    let empty : points_at (opponent_of p.side) (piece_at p.cells to) ≡ 0 = ap (points_at (opponent_of p.side)) e in
    let there : points_at (opponent_of p.side) (dropped p.side kind) ≡ 0 = cond-false _ _ _ (same_other p.side p.side (same_itself p.side)) in
    omega (arith, board, hand)

-- the material after a drop, as seen by the opponent
pub material_after_drop : (p : Shogi) (eval : Eval) (kind : Kind) (to : ℕ) → IsValid p → to < 81 → is_legal p (Drop kind to) ≡ true
    → material_of (after p (Drop kind to)) eval ≡ pos 0 -ℤ (material_of p eval +ℤ gain_of p eval (Drop kind to))
unfolding material_of
material_after_drop p eval kind to v t l =
    let safe : IsSafeDrop p kind to = safe_drop p kind to (is_safe_from_legal p (Drop kind to) l) in
    let own : _ = drop_own p eval kind to v t safe.held_one safe.free in
    let other : _ = drop_other p eval kind to v t safe.free in
    let twice : points_of (after p (Drop kind to)) eval (opponent_of (opponent_of p.side)) ≡ points_of (after p (Drop kind to)) eval p.side = ap (points_of (after p (Drop kind to)) eval) (opponent_twice p.side) in
    omega (arith, ints, own, other)

-- the material after a move known to be on the board, as seen by the opponent
pub material_at_board : (p : Shogi) (eval : Eval) (m : Move) (from to : ℕ) (promote : Bool) → m ≡ Board from to promote → IsValid p → from < 81 → to < 81 → is_legal p m ≡ true
    → material_of (after p m) eval ≡ pos 0 -ℤ (material_of p eval +ℤ pos (taken_gain eval (piece_at p.cells to) + promotion_gain promote (piece_at p.cells from)))
material_at_board p eval m from to promote e v f t l = subst (λ (x : Move). is_legal p x ≡ true → material_of (after p x) eval ≡ pos 0 -ℤ (material_of p eval +ℤ pos (taken_gain eval (piece_at p.cells to) + promotion_gain promote (piece_at p.cells from)))) (sym e) (material_after_board p eval from to promote v f t) l

pub material_at_drop : (p : Shogi) (eval : Eval) (m : Move) (kind : Kind) (to : ℕ) → m ≡ Drop kind to → IsValid p → to < 81 → is_legal p m ≡ true → material_of (after p m) eval ≡ pos 0 -ℤ (material_of p eval +ℤ drop_gain eval kind)
material_at_drop p eval m kind to e v t l = subst (λ (x : Move). is_legal p x ≡ true → material_of (after p x) eval ≡ pos 0 -ℤ (material_of p eval +ℤ drop_gain eval kind)) (sym e) (material_after_drop p eval kind to v t) l
