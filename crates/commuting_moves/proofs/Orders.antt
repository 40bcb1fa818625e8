-- Moves that share no square may be made in either order.
use Rattle.std.proofs.Common.{◌≡◌, ℕ, ◌+◌, ◌-◌, ◌<◌, ◌≤◌, Option, Some, None, refl, sym, ap, subst, ◌∙◌, arith, inl, inr, set, length, get_or, get_or-set_same, get_or-set_other}
use Rattle.std.proofs.lemmas.Bool.{cases_eq}
use Rattle.std.proofs.lemmas.List.{set_comm, set-set}
use Rattle.shogi_core.specs.declared.moves.Move.{Move}
use Rattle.shogi_core.specs.declared.moves.Move.TheVariants.{Board, Drop}
use Rattle.shogi_core.specs.declared.piece.Color.{Color}
use Rattle.shogi_core.specs.declared.piece.Color.TheVariants.{Black, White}
use Rattle.shogi_core.specs.declared.piece.Kind.{Kind}
use Rattle.shogi_core.specs.declared.piece.Piece.{Piece}
use Rattle.shogi_core.specs.Movement.{Cells, piece_at}
use Rattle.shogi_core.specs.Pieces.{kind_number, kind_of, opponent_of}
use Rattle.shogi_core.specs.Position.{HandCounts, Shogi, count_in_hand, place_of}
use Rattle.shogi_core.proofs.Faults.{number_below}
use Rattle.shogi_moves.specs.After.{after, cells_after, dropped, hands_after, piece_moved, with_captured, with_one_more}
use Rattle.analogous_moves.specs.Analogies.{IsOff}
use Rattle.analogous_moves.proofs.Commuting.{cells_commute, one_by_two, other_way, position, stands}
use Rattle.commuting_moves.specs.Apart.{AreApart, AreDisjoint, IsHeld}

-- ---- cells

-- what is written on a square that a move is off may be written before it or after it
write_commutes : (cells : Cells) (side : Color) (n : ℕ) (cell : Option Piece) (r : Move) → IsOff r n → cells_after (set cells n cell) side r ≡ set (cells_after cells side r) n cell
write_commutes cells side n cell (Board c d promotes) off =
    ap (λ (here : Option Piece). set (set (set cells n cell) c None) d (piece_moved promotes here)) (get_or-set_other cells n c cell None (other_way n c off.0))
    ∙ one_by_two cells n c d cell None (piece_moved promotes (piece_at cells c)) off.0 off.1
write_commutes cells side n cell (Drop kind d) off = set_comm cells n d cell (dropped side kind) off

pub swap_cells : (cells : Cells) (s t : Color) (a b : Move) → AreDisjoint b a → cells_after (cells_after cells s a) t b ≡ cells_after (cells_after cells t b) s a
swap_cells cells s t (Board from to promote) b off =
    write_commutes (set cells from None) t to (piece_moved promote (piece_at cells from)) b off.1
    ∙ ap (λ (old : Cells). set old to (piece_moved promote (piece_at cells from))) (write_commutes cells t from None b off.0)
    ∙ ap (λ (cell : Option Piece). set (set (cells_after cells t b) from None) to (piece_moved promote cell)) (sym (stands cells t b from off.0))
swap_cells cells s t (Drop kind to) b off = cells_commute cells s t kind to b off

-- ---- hands

-- the count at a place is written
abbrev put : HandCounts → ℕ → (ℕ → ℕ) → HandCounts
put hands i f = set hands i (f (get_or hands i 0))

put_twice : (hands : HandCounts) (i : ℕ) (f g : ℕ → ℕ) → i < length hands → put (put hands i f) i g ≡ set hands i (g (f (get_or hands i 0)))
put_twice hands i f g low =
    set-set hands i (f (get_or hands i 0)) (g (get_or (put hands i f) i 0))
    ∙ ap (λ (n : ℕ). set hands i (g n)) (get_or-set_same hands i (f (get_or hands i 0)) 0 low)

-- at one place both orders have to write the same
abbrev Agree : HandCounts → ℕ → (ℕ → ℕ) → (ℕ → ℕ) → Type 0
Agree hands i f g = (i < length hands) × (g (f (get_or hands i 0)) ≡ f (g (get_or hands i 0)))

put_commute : (hands : HandCounts) (i j : ℕ) (f g : ℕ → ℕ) → (i ≡ j → Agree hands i f g) → put (put hands i f) j g ≡ put (put hands j g) i f
put_commute hands i j f g agree = elim (cases_eq i j) [
  | inl same ↦ subst (λ (k : ℕ). put (put hands i f) k g ≡ put (put hands k g) i f) same
      (put_twice hands i f g (agree same).0 ∙ ap (set hands i) (agree same).1 ∙ sym (put_twice hands i g f (agree same).0))
  | inr ne ↦
      ap (λ (n : ℕ). set (put hands i f) j (g n)) (get_or-set_other hands i j (f (get_or hands i 0)) 0 (other_way _ _ ne))
      ∙ set_comm hands i j (f (get_or hands i 0)) (g (get_or hands j 0)) ne
      ∙ ap (λ (n : ℕ). set (put hands j g) i (f n)) (sym (get_or-set_other hands j i (g (get_or hands j 0)) 0 ne))
]

-- what a move writes at a place, if at any
abbrev change : HandCounts → Option ℕ → (ℕ → ℕ) → HandCounts
change hands None f = hands
change hands (Some i) f = put hands i f

change_commute : (hands : HandCounts) (k l : Option ℕ) (f g : ℕ → ℕ) → ((i : ℕ) → k ≡ Some i → l ≡ Some i → Agree hands i f g) → change (change hands k f) l g ≡ change (change hands l g) k f
change_commute hands None l f g agree = refl
change_commute hands (Some i) None f g agree = refl
change_commute hands (Some i) (Some j) f g agree = put_commute hands i j f g (λ same. agree i refl (ap (λ (n : ℕ). Some n) (sym same)))

abbrev place_of_kind : Color → Option Kind → Option ℕ
place_of_kind side None = None
place_of_kind side (Some kind) = Some (place_of side kind)

abbrev place_taken : Color → Option Piece → Option ℕ
place_taken side None = None
place_taken side (Some piece) = place_of_kind side (kind_of piece.role)

abbrev place_changed : Cells → Color → Move → Option ℕ
place_changed cells side (Board from to promote) = place_taken side (piece_at cells to)
place_changed cells side (Drop kind to) = Some (place_of side kind)

abbrev count_changed : Move → ℕ → ℕ
count_changed (Board from to promote) = λ n. n + 1
count_changed (Drop kind to) = λ n. n - 1

changed : (hands : HandCounts) (cells : Cells) (side : Color) (m : Move) → hands_after hands cells side m ≡ change hands (place_changed cells side m) (count_changed m)
changed hands cells side (Board from to promote) = by_cell (piece_at cells to)
  where
    by_kind : (kind : Option Kind) → with_one_more hands side kind ≡ change hands (place_of_kind side kind) (λ n. n + 1)
    by_kind None = refl
    by_kind (Some kind) = refl

    by_cell : (cell : Option Piece) → with_captured hands side cell ≡ change hands (place_taken side cell) (λ n. n + 1)
    by_cell None = refl
    by_cell (Some piece) = by_kind (kind_of piece.role)
changed hands cells side (Drop kind to) = refl

same_place : (cells : Cells) (s t : Color) (a b : Move) → AreDisjoint a b → place_changed (cells_after cells s a) t b ≡ place_changed cells t b
same_place cells s t a (Board from to promote) off = ap (place_taken t) (stands cells s a to off.1)
same_place cells s t a (Drop kind to) off = refl

-- the places of a side
abbrev IsPlaceOf : Color → ℕ → Type 0
IsPlaceOf Black i = i < 7
IsPlaceOf White i = (7 ≤ i) × (i < 14)

place_right : (side : Color) (kind : Kind) → IsPlaceOf side (place_of side kind)
place_right Black kind = number_below kind
place_right White kind = let low : kind_number kind < 7 = number_below kind in (omega (arith, low), omega (arith, low))

some_inside : (i j : ℕ) → Some i ≡ Some j → i ≡ j
some_inside i j e = cc

place_its : (cells : Cells) (side : Color) (m : Move) (i : ℕ) → place_changed cells side m ≡ Some i → IsPlaceOf side i
place_its cells side (Board from to promote) i e = by_cell (piece_at cells to) e
  where
    by_kind : (kind : Option Kind) → place_of_kind side kind ≡ Some i → IsPlaceOf side i
    by_kind None e = absurd (cc)
    by_kind (Some kind) e = subst (IsPlaceOf side) (some_inside _ _ e) (place_right side kind)

    by_cell : (cell : Option Piece) → place_taken side cell ≡ Some i → IsPlaceOf side i
    by_cell None e = absurd (cc)
    by_cell (Some piece) e = by_kind (kind_of piece.role) e
place_its cells side (Drop kind to) i e = subst (IsPlaceOf side) (some_inside _ _ e) (place_right side kind)

no_common : (side : Color) (i : ℕ) → IsPlaceOf side i → IsPlaceOf (opponent_of side) i → ⊥
no_common Black i a b = omega (arith, a, b.0)
no_common White i a b = omega (arith, a.0, b)

place_fits : (side : Color) (i : ℕ) → IsPlaceOf side i → i < 14
place_fits Black i a = omega (arith, a)
place_fits White i a = a.1

swap_hands : (hands : HandCounts) (cells : Cells) (s t : Color) (a b : Move) → AreDisjoint a b → AreDisjoint b a
    → ((i : ℕ) → place_changed cells s a ≡ Some i → place_changed cells t b ≡ Some i → Agree hands i (count_changed a) (count_changed b))
    → hands_after (hands_after hands cells s a) (cells_after cells s a) t b ≡ hands_after (hands_after hands cells t b) (cells_after cells t b) s a
swap_hands hands cells s t a b ab ba agree =
    changed (hands_after hands cells s a) (cells_after cells s a) t b
    ∙ ap (λ (k : Option ℕ). change (hands_after hands cells s a) k (count_changed b)) (same_place cells s t a b ab)
    ∙ ap (λ (held : HandCounts). change held (place_changed cells t b) (count_changed b)) (changed hands cells s a)
    ∙ change_commute hands (place_changed cells s a) (place_changed cells t b) (count_changed a) (count_changed b) agree
    ∙ ap (λ (held : HandCounts). change held (place_changed cells s a) (count_changed a)) (sym (changed hands cells t b))
    ∙ ap (λ (k : Option ℕ). change (hands_after hands cells t b) k (count_changed a)) (sym (same_place cells t s b a ba))
    ∙ sym (changed (hands_after hands cells t b) (cells_after cells t b) s a)

-- ---- positions

-- the position after a move of the side, but for who is to move
abbrev made : Color → Shogi → Move → Shogi
made side p m = position (cells_after p.cells side m) (hands_after p.hands p.cells side m) p.side

swap : (p : Shogi) (s t : Color) (a b : Move) → AreDisjoint a b → AreDisjoint b a
    → ((i : ℕ) → place_changed p.cells s a ≡ Some i → place_changed p.cells t b ≡ Some i → Agree p.hands i (count_changed a) (count_changed b))
    → made t (made s p a) b ≡ made s (made t p b) a
swap p s t a b ab ba agree =
    ap (λ (cells : Cells). position cells (made t (made s p a) b).hands p.side) (swap_cells p.cells s t a b ba)
    ∙ ap (λ (held : HandCounts). position (made s (made t p b) a).cells held p.side) (swap_hands p.hands p.cells s t a b ab ba agree)

-- a move and one of the other side
swap_sides : (p : Shogi) (side : Color) (a b : Move) → AreDisjoint a b → AreDisjoint b a → made (opponent_of side) (made side p a) b ≡ made side (made (opponent_of side) p b) a
swap_sides p side a b ab ba = swap p side (opponent_of side) a b ab ba (λ i e f. absurd (no_common side i (place_its p.cells side a i e) (place_its p.cells (opponent_of side) b i f)))

-- counts that one move takes from and the other adds to, if there is one to take
agree_counts : (hands : HandCounts) (cells : Cells) (side : Color) (a b : Move) → length hands ≡ 14 → IsHeld hands side a → IsHeld hands side b → (i : ℕ) → place_changed cells side a ≡ Some i → place_changed cells side b ≡ Some i → Agree hands i (count_changed a) (count_changed b)
agree_counts hands cells side a b len ha hb i e f = (let low : i < 14 = place_fits side i (place_its cells side a i e) in omega (arith, len, low), counts a b ha hb e f)
  where
    at : (kind : Kind) → 0 < count_in_hand hands side kind → Some (place_of side kind) ≡ Some i → 0 < get_or hands i 0
    at kind some e = subst (λ (j : ℕ). 0 < get_or hands j 0) (some_inside _ _ e) some

    counts : (a b : Move) → IsHeld hands side a → IsHeld hands side b → place_changed cells side a ≡ Some i → place_changed cells side b ≡ Some i → count_changed b (count_changed a (get_or hands i 0)) ≡ count_changed a (count_changed b (get_or hands i 0))
    counts (Board c d promotes) (Board from to promote) ha hb e f = refl
    counts (Board c d promotes) (Drop kind to) ha hb e f = let some : 0 < get_or hands i 0 = at kind hb f in omega (arith, some)
    counts (Drop held d) (Board from to promote) ha hb e f = let some : 0 < get_or hands i 0 = at held ha e in omega (arith, some)
    counts (Drop held d) (Drop kind to) ha hb e f = refl

-- two moves of one side
swap_own : (p : Shogi) (side : Color) (a b : Move) → length p.hands ≡ 14 → IsHeld p.hands side a → IsHeld p.hands side b → AreDisjoint a b → AreDisjoint b a → made side (made side p a) b ≡ made side (made side p b) a
swap_own p side a b len ha hb ab ba = swap p side side a b ab ba (agree_counts p.hands p.cells side a b len ha hb)

-- ---- three moves

-- the squares of a move are none of the other's, nor the other way round
pub disjoint_back : (a b : Move) → AreDisjoint a b → AreDisjoint b a
disjoint_back (Board c d promotes) (Board from to promote) off = ((other_way _ _ off.0.0, other_way _ _ off.1.0), (other_way _ _ off.0.1, other_way _ _ off.1.1))
disjoint_back (Board c d promotes) (Drop kind to) off = (other_way _ _ off.0, other_way _ _ off.1)
disjoint_back (Drop held d) (Board from to promote) off = (other_way _ _ off.0, other_way _ _ off.1)
disjoint_back (Drop held d) (Drop kind to) off = other_way _ _ off

-- a move, a reply of the other side and another move: the first and the last may change places
made_in_either_order : (p : Shogi) (side : Color) (m r x : Move) → length p.hands ≡ 14 → IsHeld p.hands side m → IsHeld p.hands side x → AreApart m r x → made side (made (opponent_of side) (made side p x) r) m ≡ made side (made (opponent_of side) (made side p m) r) x
made_in_either_order p side m r x len hm hx apart =
    sym (swap_sides (made side p x) side m r (disjoint_back r m apart.reply) apart.reply)
    ∙ ap (λ (q : Shogi). made (opponent_of side) q r) (swap_own p side x m len hx hm apart.other (disjoint_back x m apart.other))
    ∙ swap_sides (made side p m) side x r (disjoint_back r x apart.replied) apart.replied

in_either_order_of : (cells : Cells) (hands : HandCounts) (side : Color) (m r x : Move) → length hands ≡ 14 → IsHeld hands side m → IsHeld hands side x → AreApart m r x
    → after (after (after (position cells hands side) x) r) m ≡ after (after (after (position cells hands side) m) r) x
in_either_order_of cells hands Black m r x len hm hx apart = ap (λ (q : Shogi). position q.cells q.hands White) (made_in_either_order (position cells hands Black) Black m r x len hm hx apart)
in_either_order_of cells hands White m r x len hm hx apart = ap (λ (q : Shogi). position q.cells q.hands Black) (made_in_either_order (position cells hands White) White m r x len hm hx apart)

pub in_either_order : (p : Shogi) (m r x : Move) → length p.hands ≡ 14 → IsHeld p.hands p.side m → IsHeld p.hands p.side x → AreApart m r x → after (after (after p x) r) m ≡ after (after (after p m) r) x
in_either_order p m r x len hm hx apart = in_either_order_of p.cells p.hands p.side m r x len hm hx apart
