-- A drop and a move of the other side that is clear of its square may be made in either order.
use Rattle.std.proofs.Common.{◌≡◌, ◌≢◌, ℕ, ◌+◌, ◌-◌, ◌<◌, List, Option, Some, None, refl, sym, ap, ◌∙◌, arith, set, get_or-set_other}
use Rattle.std.proofs.lemmas.List.{set_comm}
use Rattle.shogi_core.specs.declared.moves.Move.{Move}
use Rattle.shogi_core.specs.declared.moves.Move.TheVariants.{Board, Drop}
use Rattle.shogi_core.specs.declared.piece.Color.{Color}
use Rattle.shogi_core.specs.declared.piece.Color.TheVariants.{Black, White}
use Rattle.shogi_core.specs.declared.piece.Kind.{Kind}
use Rattle.shogi_core.specs.declared.piece.Piece.{Piece}
use Rattle.shogi_core.specs.Movement.{Cells, piece_at}
use Rattle.shogi_core.specs.Pieces.{kind_number, kind_of, opponent_of}
use Rattle.shogi_core.specs.Position.{HandCounts, Shogi, count_in_hand, place_of}
use Rattle.shogi_core.proofs.Faults.{number_below}
use Rattle.shogi_moves.specs.After.{after, cells_after, dropped, hands_after, piece_moved, with_captured, with_one_more}
use Rattle.analogous_moves.specs.Analogies.{IsOff, after_reply, passed}

-- ---- cells

-- a square that the move neither leaves nor enters keeps its piece
pub stands : (cells : Cells) (side : Color) (m : Move) (n : ℕ) → IsOff m n → piece_at (cells_after cells side m) n ≡ piece_at cells n
stands cells side (Board from to promote) n off = get_or-set_other (set cells from None) to n (piece_moved promote (piece_at cells from)) None off.1 ∙ get_or-set_other cells from n None None off.0
stands cells side (Drop kind to) n off = get_or-set_other cells to n (dropped side kind) None off

pub one_by_two : {X : Type 0} (xs : List X) (a c d : ℕ) (u w z : X) → a ≢ c → a ≢ d → set (set (set xs a u) c w) d z ≡ set (set (set xs c w) d z) a u
one_by_two xs a c d u w z ac ad = ap (λ l. set l d z) (set_comm xs a c u w ac) ∙ set_comm (set xs c w) a d u z ad

pub other_way : (a b : ℕ) → a ≢ b → b ≢ a
other_way a b ne e = ne (sym e)

pub cells_commute : (cells : Cells) (s t : Color) (kind : Kind) (b : ℕ) (r : Move) → IsOff r b → cells_after (cells_after cells s (Drop kind b)) t r ≡ cells_after (cells_after cells t r) s (Drop kind b)
cells_commute cells s t kind b (Board c d promotes) h =
    ap (λ (cell : Option Piece). set (set (cells_after cells s (Drop kind b)) c None) d (piece_moved promotes cell)) (stands cells s (Drop kind b) c (other_way b c h.0))
    ∙ one_by_two cells b c d (dropped s kind) None (piece_moved promotes (piece_at cells c)) h.0 h.1
cells_commute cells s t kind b (Drop held d) h = set_comm cells b d (dropped s kind) (dropped t held) h

-- ---- hands

other_place : (side : Color) (kind other : Kind) → place_of side kind ≢ place_of (opponent_of side) other
other_place Black kind other e = let low : kind_number kind < 7 = number_below kind in absurd (omega (arith, low, e))
other_place White kind other e = let low : kind_number other < 7 = number_below other in absurd (omega (arith, low, e))

-- the hands with one count changed
abbrev put : HandCounts → Color → Kind → (ℕ → ℕ) → HandCounts
put hands side kind f = set hands (place_of side kind) (f (count_in_hand hands side kind))

put_commute : (hands : HandCounts) (side : Color) (k l : Kind) (f g : ℕ → ℕ) → put (put hands side k f) (opponent_of side) l g ≡ put (put hands (opponent_of side) l g) side k f
put_commute hands side k l f g =
    let ne : place_of side k ≢ place_of (opponent_of side) l = other_place side k l in
    ap (λ (n : ℕ). set (put hands side k f) (place_of (opponent_of side) l) (g n)) (get_or-set_other hands (place_of side k) (place_of (opponent_of side) l) (f (count_in_hand hands side k)) 0 (other_way _ _ ne))
    ∙ set_comm hands (place_of side k) (place_of (opponent_of side) l) (f (count_in_hand hands side k)) (g (count_in_hand hands (opponent_of side) l)) ne
    ∙ ap (λ (n : ℕ). set (put hands (opponent_of side) l g) (place_of side k) (f n)) (sym (get_or-set_other hands (place_of (opponent_of side) l) (place_of side k) (g (count_in_hand hands (opponent_of side) l)) 0 ne))

-- the hands with the count of a kind changed, if there is a kind
abbrev change : HandCounts → Color → Option Kind → (ℕ → ℕ) → HandCounts
change hands side None f = hands
change hands side (Some kind) f = put hands side kind f

change_commute : (hands : HandCounts) (side : Color) (k l : Option Kind) (f g : ℕ → ℕ) → change (change hands side k f) (opponent_of side) l g ≡ change (change hands (opponent_of side) l g) side k f
change_commute hands side None l f g = refl
change_commute hands side (Some k) None f g = refl
change_commute hands side (Some k) (Some l) f g = put_commute hands side k l f g

abbrev kind_taken : Option Piece → Option Kind
kind_taken None = None
kind_taken (Some piece) = kind_of piece.role

abbrev kind_changed : Cells → Move → Option Kind
kind_changed cells (Board from to promote) = kind_taken (piece_at cells to)
kind_changed cells (Drop kind to) = Some kind

abbrev count_changed : Move → ℕ → ℕ
count_changed (Board from to promote) = λ n. n + 1
count_changed (Drop kind to) = λ n. n - 1

changed : (hands : HandCounts) (cells : Cells) (side : Color) (m : Move) → hands_after hands cells side m ≡ change hands side (kind_changed cells m) (count_changed m)
changed hands cells side (Board from to promote) = by_cell (piece_at cells to)
  where
    by_kind : (kind : Option Kind) → with_one_more hands side kind ≡ change hands side kind (λ n. n + 1)
    by_kind None = refl
    by_kind (Some kind) = refl

    by_cell : (cell : Option Piece) → with_captured hands side cell ≡ change hands side (kind_taken cell) (λ n. n + 1)
    by_cell None = refl
    by_cell (Some piece) = by_kind (kind_of piece.role)
changed hands cells side (Drop kind to) = refl

same_kind : (cells : Cells) (side : Color) (kind : Kind) (b : ℕ) (r : Move) → IsOff r b → kind_changed (cells_after cells side (Drop kind b)) r ≡ kind_changed cells r
same_kind cells side kind b (Board c d promotes) h = ap kind_taken (stands cells side (Drop kind b) d (other_way b d h.1))
same_kind cells side kind b (Drop held d) h = refl

pub hands_commute : (hands : HandCounts) (cells : Cells) (side : Color) (kind : Kind) (b : ℕ) (r : Move) → IsOff r b
    → hands_after (hands_after hands cells side (Drop kind b)) (cells_after cells side (Drop kind b)) (opponent_of side) r ≡ hands_after (hands_after hands cells (opponent_of side) r) (cells_after cells (opponent_of side) r) side (Drop kind b)
hands_commute hands cells side kind b r h =
    changed (hands_after hands cells side (Drop kind b)) (cells_after cells side (Drop kind b)) (opponent_of side) r
    ∙ ap (λ (k : Option Kind). change (put hands side kind (λ n. n - 1)) (opponent_of side) k (count_changed r)) (same_kind cells side kind b r h)
    ∙ change_commute hands side (Some kind) (kind_changed cells r) (λ n. n - 1) (count_changed r)
    ∙ ap (λ (held : HandCounts). put held side kind (λ n. n - 1)) (sym (changed hands cells (opponent_of side) r))

-- ---- positions

abbrev pub position : Cells → HandCounts → Color → Shogi
position cells hands side = record { cells = cells; hands = hands; side = side }

commute_of : (cells : Cells) (hands : HandCounts) (side : Color) (kind : Kind) (b : ℕ) (r : Move) → IsOff r b
    → after (after (position cells hands side) (Drop kind b)) r ≡ passed (after (after (passed (position cells hands side)) r) (Drop kind b))
commute_of cells hands Black kind b r h =
    ap (λ (c : Cells). position c (hands_after (hands_after hands cells Black (Drop kind b)) (cells_after cells Black (Drop kind b)) White r) Black) (cells_commute cells Black White kind b r h)
    ∙ ap (λ (held : HandCounts). position (cells_after (cells_after cells White r) Black (Drop kind b)) held Black) (hands_commute hands cells Black kind b r h)
commute_of cells hands White kind b r h =
    ap (λ (c : Cells). position c (hands_after (hands_after hands cells White (Drop kind b)) (cells_after cells White (Drop kind b)) Black r) White) (cells_commute cells White Black kind b r h)
    ∙ ap (λ (held : HandCounts). position (cells_after (cells_after cells Black r) White (Drop kind b)) held White) (hands_commute hands cells White kind b r h)

-- a drop and then a reply leave what a pass, the reply and the drop leave, but for the side to move
pub commute : (p : Shogi) (kind : Kind) (b : ℕ) (r : Move) → IsOff r b → after (after p (Drop kind b)) r ≡ passed (after (after_reply p r) (Drop kind b))
commute p kind b r h = commute_of p.cells p.hands p.side kind b r h
