-- Hands as functions from side and kind to a count.
use Rattle.std.proofs.Common.{◌≡◌, ℕ, ◌+◌, Bool, true, false, cond, refl, sym, ◌∙◌, ap, arith, List, [], ◌∷◌, ◌++◌, length, get_or, set}
use Rattle.std.specs.Prelude.{◌==◌, ◌&&◌, map}
use Rattle.std.specs.List.{range_with_len}
use Rattle.std.proofs.lemmas.List.{ext_get_or}
use Rattle.std.proofs.lemmas.List.FromFn.{length-map-range_with_len, get_or-map-range_with_len}
use Rattle.shogi_core.specs.declared.piece.Color.{Color}
use Rattle.shogi_core.specs.declared.piece.Color.TheVariants.{Black, White}
use Rattle.shogi_core.specs.declared.piece.Kind.{Kind}
use Rattle.shogi_core.specs.declared.piece.Kind.TheVariants as kinds
use Rattle.shogi_core.specs.Pieces.{is_same_color, kind_number, all_kinds}
use Rattle.shogi_core.specs.Position.{HandCounts, count_in_hand, place_of}

-- the hands with these counts
abbrev pub hands_holding : (Color → Kind → ℕ) → HandCounts
hands_holding count = map (count Black) all_kinds ++ map (count White) all_kinds

pub held-holding : (count : Color → Kind → ℕ) (color : Color) (kind : Kind) → count_in_hand (hands_holding count) color kind ≡ count color kind
held-holding count Black kinds.Pawn = refl
held-holding count White kinds.Pawn = refl
held-holding count Black kind = refl
held-holding count White kind = refl

-- hands are the hands with their counts
pub holding-held : (hands : HandCounts) → length hands ≡ 14 → hands ≡ hands_holding (count_in_hand hands)
holding-held hands len =
    ext_get_or 0 hands (map (λ i. get_or hands i 0) (range_with_len 0 14)) (len ∙ sym (length-map-range_with_len (λ i. get_or hands i 0) 0 14))
    (λ i below. sym (get_or-map-range_with_len (λ i. get_or hands i 0) 0 14 i i 0 (omega arith) (omega arith)))

map_same : (f g : Kind → ℕ) → ((kind : Kind) → f kind ≡ g kind) → (ks : List Kind) → map f ks ≡ map g ks
map_same f g same [] = refl
map_same f g same (kind ∷ ks) = ap (λ (n : ℕ). n ∷ map f ks) (same kind) ∙ ap (λ (ns : List ℕ). g kind ∷ ns) (map_same f g same ks)

-- equal counts give equal hands
pub holding_same : (count other : Color → Kind → ℕ) → ((color : Color) (kind : Kind) → count color kind ≡ other color kind) → hands_holding count ≡ hands_holding other
holding_same count other same =
    ap (λ (ns : List ℕ). ns ++ map (count White) all_kinds) (map_same (count Black) (other Black) (same Black) all_kinds)
    ∙ ap (λ (ns : List ℕ). map (other Black) all_kinds ++ ns) (map_same (count White) (other White) (same White) all_kinds)

-- the hands after one count is changed
pub set-holding : (count : Color → Kind → ℕ) (change : ℕ → ℕ) (color : Color) (kind : Kind) → set (hands_holding count) (place_of color kind) (change (count_in_hand (hands_holding count) color kind))
    ≡ hands_holding (λ other third. cond (is_same_color color other && kind_number kind == kind_number third) (change (count other third)) (count other third))
set-holding count change Black kinds.Pawn = refl
set-holding count change White kinds.Pawn = refl
set-holding count change Black kind = refl
set-holding count change White kind = refl

-- hands with equal counts are equal
pub same_held : (hands others : HandCounts) → length hands ≡ 14 → length others ≡ 14 → ((color : Color) (kind : Kind) → count_in_hand hands color kind ≡ count_in_hand others color kind) → hands ≡ others
same_held hands others len more each = holding-held hands len ∙ (holding_same (count_in_hand hands) (count_in_hand others) each ∙ sym (holding-held others more))

-- the hands with n more of a kind
abbrev pub added : HandCounts → Color → Kind → ℕ → HandCounts
added hands color kind n = set hands (place_of color kind) (count_in_hand hands color kind + n)

changed : (b : Bool) (m n : ℕ) → cond b (m + n) m ≡ m + cond b n 0
changed true m n = refl
changed false m n = omega arith

-- counts of hands with n more of a kind
pub held-added : (hands : HandCounts) (color other : Color) (kind third : Kind) (n : ℕ) → length hands ≡ 14
    → count_in_hand (added hands color kind n) other third ≡ count_in_hand hands other third + cond (is_same_color color other && kind_number kind == kind_number third) n 0
held-added hands color other kind third n len =
    ap (λ (hs : HandCounts). count_in_hand (added hs color kind n) other third) (holding-held hands len)
    ∙ (ap (λ (hs : HandCounts). count_in_hand hs other third) (set-holding (count_in_hand hands) (λ m. m + n) color kind)
    ∙ (held-holding (λ o t. cond (is_same_color color o && kind_number kind == kind_number t) (count_in_hand hands o t + n) (count_in_hand hands o t)) other third
    ∙ changed (is_same_color color other && kind_number kind == kind_number third) (count_in_hand hands other third) n))
