-- Legal destinations of a piece.
use Rattle.std.proofs.Common.{◌≡◌, ◌≢◌, ℕ, ◌-◌, ◌^◌, ◌<◌, Bool, true, false, not, subst, Option, Some, None, refl, sym, ap, ◌∙◌, arith, inl, inr, bit_and, bit_or, length, set, get_or-set_other, length-set}
use Rattle.std.specs.Prelude.{◌&&◌, ◌||◌, ◌==◌, is_none, is_some, ◌/◌, nat_lt}
use Rattle.std.proofs.lemmas.Nat.{and_le_r}
use Rattle.std.proofs.lemmas.Bool.{cases_Bool, eq-eqb, eqb-true, and_parts, both_ways, not-true}
use Rattle.shogi_core.specs.declared.bits.TheConstants.{ALL_SQUARES}
use Rattle.shogi_core.specs.declared.moves.Move.{Move}
use Rattle.shogi_core.specs.declared.moves.Move.TheVariants.{Board, Drop}
use Rattle.shogi_core.specs.declared.piece.Color.{Color}
use Rattle.shogi_core.specs.declared.piece.Kind.{Kind}
use Rattle.shogi_core.specs.declared.piece.Kind.TheVariants as kinds
use Rattle.shogi_core.specs.Validity.{pawns_on_file}
use Rattle.shogi_core.specs.declared.piece.Piece.{Piece}
use Rattle.shogi_core.specs.Attack.{in_check}
use Rattle.shogi_core.specs.Bits.{has_bit}
use Rattle.shogi_core.specs.Cell.{is_piece_of, is_immobile, is_king}
use Rattle.shogi_core.specs.Codes.{move_of, code_of}
use Rattle.shogi_core.specs.Movement.{Cells, piece_at, reaches}
use Rattle.shogi_core.specs.Pieces.{is_same_color}
use Rattle.shogi_core.specs.Position.{Shogi, count_in_hand}
use Rattle.shogi_core.specs.Sets.{HasNone}
use Rattle.shogi_core.proofs.BitLaws.{has_bit-and, has_bit-none, has_bit-or}
use Rattle.shogi_core.proofs.CodesBack.{move_of-board, move_of-drop}
use Rattle.shogi_core.proofs.LineBits.{has_bit-not}
use Rattle.shogi_moves.specs.After.{piece_moved, cells_after, dropped}
use Rattle.shogi_moves.specs.Captures.{captures, matches, is_matching}
use Rattle.shogi_moves.specs.Destinations.{is_destination, leaves_king_safe, AreDropSquares}
use Rattle.shogi_moves.specs.CheckInfo.{IsCheckInfo}
use Rattle.shogi_moves.specs.Legal.{is_safe, is_legal, is_legal_code, is_pseudo_legal_board_move, is_pawn_kind, is_pawn_drop_mate}
use Rattle.shogi_core.specs.Zones.{may_promote, in_promotion_zone}
use Rattle.shogi_moves.proofs.CaptureLaws.{matches_kind_of}
use Rattle.shogi_moves.proofs.CheckInfoLaws.{is_piece_of-piece_moved, unpinned_safe, filled, quiet_drop, same_drop, stays_set, stays_drop}
use Rattle.shogi_moves.proofs.LegalLaws.{is_legal_code_of}
use Rattle.shogi_moves.proofs.MovedPieces.{is_king-piece_moved}
use Rattle.shogi_core.proofs.ZoneLaws.{all_squares}

-- `kept` has the squares of `first` that pass the test or are still to be tried
pub record Sifts (first left kept : ℕ) (test : ℕ → Bool) : Type 0 where
  pub within : (n : ℕ) → has_bit left n ≡ true → has_bit first n ≡ true
  pub bits : (n : ℕ) → n < 81 → has_bit kept n ≡ (has_bit first n && (test n || has_bit left n))

-- ---- squares are tried one by one

pub sift_first : (m : ℕ) (test : ℕ → Bool) → Sifts m m m test
sift_first m test = record { within = λ n e. e; bits = λ n h. grind arith }

pub sift_end : (m left kept : ℕ) (test : ℕ → Bool) → HasNone left → Sifts m left kept test → (n : ℕ) → n < 81 → has_bit kept n ≡ (has_bit m n && test n)
sift_end m left kept test none s n h = grind (arith, none n, s.bits n h)

pub sift_done : (m kept : ℕ) (test : ℕ → Bool) → Sifts m 0 kept test → (n : ℕ) → n < 81 → has_bit kept n ≡ (has_bit m n && test n)
sift_done m kept test s n h = sift_end m 0 kept test has_bit-none s n h

-- the next square to try is still kept
pub sift_there : (m left kept to : ℕ) (test : ℕ → Bool) → Sifts m left kept test → to < 81 → has_bit left to ≡ true → has_bit kept to ≡ true
sift_there m left kept to test s h e = grind (arith, s.bits to h, s.within to e)

pub sift_kept : (m left next kept to : ℕ) (test : ℕ → Bool) → Sifts m left kept test → test to ≡ true → ((i : ℕ) → has_bit next i ≡ (has_bit left i && not (i == to))) → Sifts m next kept test
sift_kept m left next kept to test s t b = record {
  within = λ n e. grind (arith, s.within n, b n);
  bits = λ n h. grind (arith, s.bits n h, b n);
}

pub sift_dropped : (m left next kept less to : ℕ) (test : ℕ → Bool) → Sifts m left kept test → test to ≡ false → ((i : ℕ) → has_bit next i ≡ (has_bit left i && not (i == to))) → ((i : ℕ) → has_bit less i ≡ (has_bit kept i && not (i == to))) → Sifts m next less test
sift_dropped m left next kept less to test s t b d = record {
  within = λ n e. grind (arith, s.within n, b n);
  bits = λ n h. grind (arith, s.bits n h, b n, d n);
}

-- squares from which no pawn mates need not be tried
pub sift_some : (m faces : ℕ) (test : ℕ → Bool) → ((n : ℕ) → n < 81 → has_bit faces n ≡ false → test n ≡ true) → Sifts m (bit_and m faces) m test
sift_some m faces test far = record {
  within = λ n e. grind (arith, has_bit-and m faces n);
  bits = λ n h. grind (arith, has_bit-and m faces n, far n h);
}

pub ruleset sifting = (sift_first, sift_done, sift_there, sift_kept, sift_dropped)

-- ---- emptiness of a set of squares

pub none_there : (squares : ℕ) (empty : Bool) → empty ≡ (squares == 0) → empty ≡ true → squares ≡ 0
none_there squares empty is e = eqb-true squares 0 (sym is ∙ e)

pub none_within : (destinations zone : ℕ) → zone ≡ 0 → bit_and destinations zone ≡ 0
none_within destinations zone none = omega (arith, and_le_r destinations zone)

pub some_there : (squares : ℕ) (empty : Bool) → empty ≡ (squares == 0) → empty ≡ false → squares ≢ 0
some_there squares empty is e none = both_ways empty e (is ∙ eq-eqb squares 0 none)

-- ---- an unpinned piece leaves its king unattacked anywhere

pub unpinned_kept : (p : Shogi) (checked : Bool) (pinned_or_king destinations from n : ℕ) → IsCheckInfo p checked pinned_or_king → length p.cells ≡ 81 → from < 81 → n < 81 → is_piece_of p.side (piece_at p.cells from) ≡ true → (not checked && not (has_bit pinned_or_king from)) ≡ true
    → has_bit destinations n ≡ (has_bit destinations n && leaves_king_safe p (Board from n false))
unpinned_kept p checked pinned_or_king destinations from n g len hf hn own unpinned = grind (arith, unpinned_safe p checked pinned_or_king from n false g len hf hn own)

-- a piece without which there is no check may end anywhere
pub free_kept : (p : Shogi) (destinations from n : ℕ) → length p.cells ≡ 81 → from < 81 → n < 81 → is_piece_of p.side (piece_at p.cells from) ≡ true → is_king p.side (piece_at p.cells from) ≡ false → not (in_check (set p.cells from None) p.side) ≡ true
    → has_bit destinations n ≡ (has_bit destinations n && leaves_king_safe p (Board from n false))
free_kept p destinations from n len hf hn own non_promoting free =
    grind (arith, filled (set p.cells from None) (set p.cells from None) p.side n (piece_moved false (piece_at p.cells from)) (length-set p.cells from None ∙ len) hn (λ x other. refl) (is_piece_of-piece_moved p.side false (piece_at p.cells from) ∙ own) (is_king-piece_moved p.side false (piece_at p.cells from) ∙ non_promoting))

-- ---- the king, and answers to a check

-- squares outside the info's answer no check and are left out
pub narrowed : (destinations pinned_or_king n : ℕ) (u : Bool) → (has_bit destinations n ≡ true → has_bit pinned_or_king n ≡ false → u ≡ false) → (has_bit (bit_and destinations pinned_or_king) n && u) ≡ (has_bit destinations n && u)
narrowed destinations pinned_or_king n u cut = grind (arith, has_bit-and destinations pinned_or_king n)

pub no_answer : (p : Shogi) (checked : Bool) (pinned_or_king from n : ℕ) → IsCheckInfo p checked pinned_or_king → checked ≡ true → length p.cells ≡ 81 → from < 81 → n < 81 → is_piece_of p.side (piece_at p.cells from) ≡ true → is_king p.side (piece_at p.cells from) ≡ false
    → has_bit pinned_or_king n ≡ false → leaves_king_safe p (Board from n false) ≡ false
no_answer p checked pinned_or_king from n g c len hf hn own non_promoting out =
    ap not (stays_set p.cells p.side from n (piece_moved false (piece_at p.cells from)) len hf hn pinned_or_king (g.stays c) out own non_promoting (g.kings n hn out))

pub ruleset unpinned_destinations = (unpinned_kept, free_kept)

-- ---- which moves of a piece match

pub matching_move : (p : Shogi) (capture : Bool) (m : Move) → move_of (code_of m) ≡ Some m → is_matching p capture (code_of m) ≡ (is_legal p m && matches capture (captures p (Some m)))
matching_move p capture m back = rw (is_legal_code_of p (code_of m) m back, matches_kind_of p (code_of m) m back) refl

pub legal_board : (p : Shogi) (from to : ℕ) (promote : Bool) → is_legal p (Board from to promote) ≡ (is_pseudo_legal_board_move p.cells p.side from to promote && leaves_king_safe p (Board from to promote))
unfolding is_legal is_safe
legal_board p from to promote = grind arith

matching_destination : (capture : Bool) (side : Color) (cell : Option Piece) → (not (is_piece_of side cell) && matches capture (is_some cell)) ≡ is_destination capture side cell
matching_destination capture side cell = grind arith

-- promotion changes a moved piece's role alone, and leaves a king a king
king_same : (side : Color) (a b : Bool) (cell : Option Piece) → is_king side (piece_moved b cell) ≡ true → piece_moved a cell ≡ piece_moved b cell
king_same side a b cell e = grind arith

module _ (cells : Cells) (side : Color) (from to : ℕ) (a b : Bool) (len : length cells ≡ 81) (ht : to < 81) (own : is_piece_of side (piece_at cells from) ≡ true) where
  unchecked_if : in_check (cells_after cells side (Board from to a)) side ≡ false → in_check (cells_after cells side (Board from to b)) side ≡ false
  unchecked_if safe = elim (cases_Bool (is_king side (piece_moved b (piece_at cells from)))) [
    | inl king ↦ subst (λ (v : Option Piece). in_check (set (set cells from None) to v) side ≡ false) (king_same side a b (piece_at cells from) king) safe
    | inr plain ↦ filled (cells_after cells side (Board from to a)) (set cells from None) side to (piece_moved b (piece_at cells from)) (length-set cells from None ∙ len) ht
        (λ x other. sym (get_or-set_other (set cells from None) to x (piece_moved a (piece_at cells from)) None other)) (is_piece_of-piece_moved side b (piece_at cells from) ∙ own) plain safe
  ]

pub unchecked_either : (p : Shogi) (from to : ℕ) (promote : Bool) → length p.cells ≡ 81 → to < 81 → is_piece_of p.side (piece_at p.cells from) ≡ true → leaves_king_safe p (Board from to promote) ≡ leaves_king_safe p (Board from to false)
unchecked_either p from to promote len ht own = grind (arith, unchecked_if p.cells p.side from to promote false len ht own, unchecked_if p.cells p.side from to false promote len ht own)

pub still : (n : ℕ) (cell : Option Piece) → is_immobile n (piece_moved false cell) ≡ is_immobile n cell
still n cell = grind arith

-- a promoted piece can always move again
pub alive : (from n : ℕ) (cell : Option Piece) → (may_promote cell from n && not (is_immobile n (piece_moved true cell))) ≡ may_promote cell from n
alive from n cell = grind arith

-- the destinations without and with promotion
pub plain_apart : (destinations dead n : ℕ) (cell : Option Piece) → dead < 2 ^ 81 → n < 81 → has_bit dead n ≡ is_immobile n cell → has_bit (bit_and destinations (2 ^ 128 - 1 - dead)) n ≡ (has_bit destinations n && not (is_immobile n cell))
plain_apart destinations dead n cell fits h d = has_bit-and destinations (2 ^ 128 - 1 - dead) n ∙ (rw (has_bit-not dead n (omega arith) (omega arith), d) refl)

pub promoting_apart : (destinations promoting n : ℕ) (b : Bool) → has_bit promoting n ≡ b → has_bit (bit_and destinations promoting) n ≡ (has_bit destinations n && b)
promoting_apart destinations promoting n b d = has_bit-and destinations promoting n ∙ (rw d refl)

-- a piece that could never move again may promote
mobile : (from n : ℕ) (cell : Option Piece) → may_promote cell from n ≡ false → is_immobile n cell ≡ false
mobile from n cell e = grind arith

-- a piece with no destination in the zone promotes on none
pub promoting_none : (destinations zone n : ℕ) (b : Bool) → has_bit zone n ≡ b → bit_and destinations zone ≡ 0 → has_bit 0 n ≡ (has_bit destinations n && b)
promoting_none destinations zone n b z none = ap (λ (m : ℕ). has_bit m n) (sym none) ∙ (has_bit-and destinations zone n ∙ (rw z refl))

pub plain_all : (destinations zone from n : ℕ) (cell : Option Piece) → has_bit zone n ≡ may_promote cell from n → bit_and destinations zone ≡ 0 → has_bit destinations n ≡ (has_bit destinations n && not (is_immobile n cell))
plain_all destinations zone from n cell z none = grind (arith, promoting_none destinations zone n (may_promote cell from n) z none, has_bit-none n, mobile from n cell)

same_color : (a b : Color) → is_same_color a b ≡ true → a ≡ b
same_color a b e = grind arith

-- a piece that neither starts nor ends in the zone of its side cannot promote
outside_zone : (side : Color) (destinations zone from n : ℕ) (cell : Option Piece) → is_piece_of side cell ≡ true → has_bit zone from ≡ in_promotion_zone side from → has_bit zone n ≡ in_promotion_zone side n
    → has_bit zone from ≡ false → bit_and destinations zone ≡ 0 → has_bit destinations n ≡ true → may_promote cell from n ≡ false
outside_zone side destinations zone from n cell own f t b none set = grind (arith, same_color side, promoting_none destinations zone n (in_promotion_zone side n) t none, has_bit-none n)

pub plain_outside : (side : Color) (destinations zone from n : ℕ) (cell : Option Piece) → is_piece_of side cell ≡ true → has_bit zone from ≡ in_promotion_zone side from → has_bit zone n ≡ in_promotion_zone side n
    → has_bit zone from ≡ false → bit_and destinations zone ≡ 0 → has_bit destinations n ≡ (has_bit destinations n && not (is_immobile n cell))
plain_outside side destinations zone from n cell own f t b none = grind (arith, outside_zone side destinations zone from n cell own f t b none, mobile from n cell)

pub promoting_outside : (side : Color) (destinations zone from n : ℕ) (cell : Option Piece) → is_piece_of side cell ≡ true → has_bit zone from ≡ in_promotion_zone side from → has_bit zone n ≡ in_promotion_zone side n
    → has_bit zone from ≡ false → bit_and destinations zone ≡ 0 → has_bit 0 n ≡ (has_bit destinations n && may_promote cell from n)
promoting_outside side destinations zone from n cell own f t b none = grind (arith, outside_zone side destinations zone from n cell own f t b none, has_bit-none n)

pub ruleset promoting = (plain_apart, promoting_apart)

-- the marked squares, in check and out of check
pub marked_all : (n : ℕ) (checked rest : Bool) → n < 81 → checked ≡ true → has_bit ALL_SQUARES n ≡ (checked || rest)
marked_all n checked rest h e = all_squares n h ∙ (rw e refl)

pub marked_some : (pinned_or_king zone n : ℕ) (checked : Bool) → checked ≡ false → has_bit (bit_or pinned_or_king zone) n ≡ (checked || (has_bit pinned_or_king n || has_bit zone n))
marked_some pinned_or_king zone n checked e = has_bit-or pinned_or_king zone n ∙ (rw e refl)

pub unmarked : (checked a b : Bool) → (checked || (a || b)) ≡ false → (checked ≡ false) × (a ≡ false) × (b ≡ false)
unmarked checked a b h = grind arith

pub ruleset marking = (marked_all, marked_some)

-- the squares that a piece reaches by moves of the kind
pub among_bits : (targets matching n : ℕ) (r e : Bool) → has_bit targets n ≡ r → has_bit matching n ≡ e → has_bit (bit_and targets matching) n ≡ (r && e)
among_bits targets matching n r e t s = has_bit-and targets matching n ∙ (rw (t, s) refl)

-- ---- the legal destinations of a piece on squares without a piece of its side

legal_board_code : (p : Shogi) (promote : Bool) (from to : ℕ) → length p.cells ≡ 81 → from < 81 → to < 81 → is_piece_of p.side (piece_at p.cells from) ≡ true
    → is_legal_code p (code_of (Board from to promote)) ≡ (((reaches p.cells from to && not (is_piece_of p.side (piece_at p.cells to))) && leaves_king_safe p (Board from to false)) && ((not promote || may_promote (piece_at p.cells from) from to) && not (is_immobile to (piece_moved promote (piece_at p.cells from)))))
legal_board_code p promote from to len hf ht own =
    grind (arith, is_legal_code_of p (code_of (Board from to promote)) (Board from to promote) (move_of-board from to promote hf ht), legal_board p from to promote, unchecked_either p from to promote len ht own)

legal_within : (p : Shogi) (promote : Bool) (from to among : ℕ) → length p.cells ≡ 81 → from < 81 → to < 81 → is_piece_of p.side (piece_at p.cells from) ≡ true → (has_bit among to ≡ true → (reaches p.cells from to ≡ true) × (is_piece_of p.side (piece_at p.cells to) ≡ false))
    → (has_bit among to && is_legal_code p (code_of (Board from to promote))) ≡ ((has_bit among to && leaves_king_safe p (Board from to false)) && ((not promote || may_promote (piece_at p.cells from) from to) && not (is_immobile to (piece_moved promote (piece_at p.cells from)))))
legal_within p promote from to among len hf ht own way = grind (arith, legal_board_code p promote from to len hf ht own)

pub plain_destinations : (p : Shogi) (from n among destinations non_promoting : ℕ) → length p.cells ≡ 81 → from < 81 → n < 81 → is_piece_of p.side (piece_at p.cells from) ≡ true → (has_bit among n ≡ true → (reaches p.cells from n ≡ true) × (is_piece_of p.side (piece_at p.cells n) ≡ false))
    → has_bit destinations n ≡ (has_bit among n && leaves_king_safe p (Board from n false)) → has_bit non_promoting n ≡ (has_bit destinations n && not (is_immobile n (piece_at p.cells from)))
    → has_bit non_promoting n ≡ (has_bit among n && is_legal_code p (code_of (Board from n false)))
plain_destinations p from n among destinations non_promoting len hf hn own way e d = d ∙ (rw e (sym (legal_within p false from n among len hf hn own way ∙ (rw (still n (piece_at p.cells from)) refl))))

pub promoting_destinations : (p : Shogi) (from n among destinations promoting : ℕ) → length p.cells ≡ 81 → from < 81 → n < 81 → is_piece_of p.side (piece_at p.cells from) ≡ true → (has_bit among n ≡ true → (reaches p.cells from n ≡ true) × (is_piece_of p.side (piece_at p.cells n) ≡ false))
    → has_bit destinations n ≡ (has_bit among n && leaves_king_safe p (Board from n false)) → has_bit promoting n ≡ (has_bit destinations n && may_promote (piece_at p.cells from) from n)
    → has_bit promoting n ≡ (has_bit among n && is_legal_code p (code_of (Board from n true)))
promoting_destinations p from n among destinations promoting len hf hn own way e m = m ∙ (rw e (sym (legal_within p true from n among len hf hn own way ∙ (rw (alive from n (piece_at p.cells from)) refl))))

-- a piece that reaches nothing has no destination
pub nowhere : (among n : ℕ) (b : Bool) → among ≡ 0 → has_bit 0 n ≡ (has_bit among n && b)
nowhere among n b none = rw (none, has_bit-none n) refl

pub ruleset legal_sets = (plain_destinations, promoting_destinations, nowhere)

-- ---- all legal destinations, and those of a kind

pub entering : (own n : ℕ) (b : Bool) → own < 2 ^ 81 → n < 81 → has_bit own n ≡ b → has_bit (2 ^ 128 - 1 - own) n ≡ not b
entering own n b fits h e = has_bit-not own n (omega arith) (omega arith) ∙ ap not e

pub entering_all : (all own n : ℕ) (b : Bool) → all ≡ 2 ^ 81 - 1 → own < 2 ^ 81 → n < 81 → has_bit own n ≡ b → has_bit (bit_and all (2 ^ 128 - 1 - own)) n ≡ not b
entering_all all own n b whole fits h e = has_bit-and all (2 ^ 128 - 1 - own) n ∙ (rw (whole, all_squares n h, entering own n b fits h e) refl)

pub ruleset entering_bits = (entering_all)

-- a legal board move goes to a square that the piece reaches and that has no piece of its side
legal_way : (p : Shogi) (promote : Bool) (from to : ℕ) → from < 81 → to < 81 → is_legal_code p (code_of (Board from to promote)) ≡ true → (reaches p.cells from to ≡ true) × (is_piece_of p.side (piece_at p.cells to) ≡ false)
legal_way p promote from to hf ht e = grind (arith, is_legal_code_of p (code_of (Board from to promote)) (Board from to promote) (move_of-board from to promote hf ht), legal_board p from to promote)

pub all_destinations : (p : Shogi) (promote : Bool) (from targets squares destinations : ℕ) → from < 81 → ((n : ℕ) → n < 81 → has_bit targets n ≡ reaches p.cells from n) → ((n : ℕ) → n < 81 → has_bit squares n ≡ not (is_piece_of p.side (piece_at p.cells n)))
    → ((n : ℕ) → n < 81 → has_bit destinations n ≡ (has_bit (bit_and targets squares) n && is_legal_code p (code_of (Board from n promote)))) → (n : ℕ) → n < 81 → has_bit destinations n ≡ is_legal_code p (code_of (Board from n promote))
all_destinations p promote from targets squares destinations hf t s e n h =
    grind (arith, e n h, legal_way p promote from n hf h, among_bits targets squares n _ _ (t n h) (s n h))

pub all_ways : (targets squares n : ℕ) (reach own : Bool) → has_bit targets n ≡ reach → has_bit squares n ≡ not own → has_bit (bit_and targets squares) n ≡ true → (reach ≡ true) × (own ≡ false)
all_ways targets squares n reach own t s on = let both = and_parts reach (not own) (sym (among_bits targets squares n reach (not own) t s) ∙ on) in (both.0, not-true own both.1)

not_own : (capture : Bool) (side : Color) (cell : Option Piece) → is_destination capture side cell ≡ true → is_piece_of side cell ≡ false
not_own capture side cell e = grind arith

pub matching_ways : (side : Color) (capture : Bool) (cell : Option Piece) (targets matching n : ℕ) (reach : Bool) → has_bit targets n ≡ reach → has_bit matching n ≡ is_destination capture side cell → has_bit (bit_and targets matching) n ≡ true → (reach ≡ true) × (is_piece_of side cell ≡ false)
matching_ways side capture cell targets matching n reach t s on = let both = and_parts reach (is_destination capture side cell) (sym (among_bits targets matching n reach (is_destination capture side cell) t s) ∙ on) in (both.0, not_own capture side cell both.1)

pub matching_among : (p : Shogi) (capture promote : Bool) (from targets matching destinations : ℕ) → from < 81 → ((n : ℕ) → n < 81 → has_bit targets n ≡ reaches p.cells from n) → ((n : ℕ) → n < 81 → has_bit matching n ≡ is_destination capture p.side (piece_at p.cells n))
    → ((n : ℕ) → n < 81 → has_bit destinations n ≡ (has_bit (bit_and targets matching) n && is_legal_code p (code_of (Board from n promote)))) → (n : ℕ) → n < 81 → has_bit destinations n ≡ is_matching p capture (code_of (Board from n promote))
matching_among p capture promote from targets matching destinations hf t s e n h =
    grind (arith, e n h, among_bits targets matching n _ _ (t n h) (s n h), matches_kind_of p (code_of (Board from n promote)) (Board from n promote) (move_of-board from n promote hf h), legal_way p promote from n hf h, matching_destination capture p.side (piece_at p.cells n))

-- the legal destinations for one choice of promotion
pub matching_board : (p : Shogi) (capture promote : Bool) (from to : ℕ) → length p.cells ≡ 81 → from < 81 → to < 81 → is_piece_of p.side (piece_at p.cells from) ≡ true
    → is_matching p capture (code_of (Board from to promote)) ≡ (((reaches p.cells from to && is_destination capture p.side (piece_at p.cells to)) && leaves_king_safe p (Board from to false)) && ((not promote || may_promote (piece_at p.cells from) from to) && not (is_immobile to (piece_moved promote (piece_at p.cells from)))))
matching_board p capture promote from to len hf ht own =
    grind (arith, matches_kind_of p (code_of (Board from to promote)) (Board from to promote) (move_of-board from to promote hf ht), legal_way p promote from to hf ht, matching_destination capture p.side (piece_at p.cells to), legal_board_code p promote from to len hf ht own)

-- ---- drops

-- ---- the squares of drops

pub squares_free : (p : Shogi) (checked : Bool) (pinned_or_king free : ℕ) → IsCheckInfo p checked pinned_or_king → length p.cells ≡ 81 → checked ≡ false → ((n : ℕ) → n < 81 → has_bit free n ≡ is_none (piece_at p.cells n)) → AreDropSquares p free
squares_free p checked pinned_or_king free g len quiet f = λ kind some n h. grind (arith, f n h, quiet_drop p.cells p.side kind n len h, g.check)

pub squares_tried : (p : Shogi) (checked : Bool) (pinned_or_king free kept : ℕ) → IsCheckInfo p checked pinned_or_king → length p.cells ≡ 81 → checked ≡ true → ((n : ℕ) → n < 81 → has_bit free n ≡ is_none (piece_at p.cells n))
    → ((n : ℕ) → n < 81 → has_bit kept n ≡ (has_bit (bit_and free pinned_or_king) n && leaves_king_safe p (Drop kinds.Pawn n))) → AreDropSquares p kept
squares_tried p checked pinned_or_king free kept g len check f k = λ kind some n h.
    grind (arith, k n h, f n h, has_bit-and free pinned_or_king n, stays_drop pinned_or_king p.cells p.side kinds.Pawn n (g.stays check), same_drop p.cells p.side kinds.Pawn kind n len h)

pub drops_none : (p : Shogi) (kind : Kind) (n : ℕ) → count_in_hand p.hands p.side kind ≡ 0 → has_bit 0 n ≡ is_safe p (Drop kind n)
unfolding is_safe
drops_none p kind n e = has_bit-none n ∙ (rw e refl)

pub drops_pawn : (p : Shogi) (kind : Kind) (squares dead files n : ℕ) → n < 81 → 0 < count_in_hand p.hands p.side kind → is_pawn_kind kind ≡ true → AreDropSquares p squares → dead < 2 ^ 81 → has_bit dead n ≡ is_immobile n (dropped p.side kind)
    → files < 2 ^ 81 → has_bit files n ≡ nat_lt 0 (pawns_on_file p.side (n / 9) p.cells)
    → has_bit (bit_and (bit_and squares (2 ^ 128 - 1 - dead)) (2 ^ 128 - 1 - files)) n ≡ is_safe p (Drop kind n)
unfolding is_safe
drops_pawn p kind squares dead files n h some pawn s df d ff b =
    grind (arith, has_bit-and (bit_and squares (2 ^ 128 - 1 - dead)) (2 ^ 128 - 1 - files) n, has_bit-and squares (2 ^ 128 - 1 - dead) n, has_bit-not dead n (omega arith) (omega arith), has_bit-not files n (omega arith) (omega arith), s kind some n h)

pub drops_other : (p : Shogi) (kind : Kind) (squares dead n : ℕ) → n < 81 → 0 < count_in_hand p.hands p.side kind → is_pawn_kind kind ≡ false → AreDropSquares p squares → dead < 2 ^ 81 → has_bit dead n ≡ is_immobile n (dropped p.side kind)
    → has_bit (bit_and squares (2 ^ 128 - 1 - dead)) n ≡ is_safe p (Drop kind n)
unfolding is_safe
drops_other p kind squares dead n h some other s df d =
    grind (arith, has_bit-and squares (2 ^ 128 - 1 - dead) n, has_bit-not dead n (omega arith) (omega arith), s kind some n h)

pub ruleset safe_dropping = (drops_none, drops_pawn, drops_other)

pub legal_drop : (p : Shogi) (kind : Kind) (n : ℕ) → n < 81 → is_matching p false (code_of (Drop kind n)) ≡ (is_safe p (Drop kind n) && not (is_pawn_drop_mate p (Drop kind n)))
unfolding is_legal
legal_drop p kind n h = grind (arith, matching_move p false (Drop kind n) (move_of-drop kind n h))

pub legal_pawn : (p : Shogi) (destinations kept n : ℕ) → n < 81 → has_bit destinations n ≡ is_safe p (Drop kinds.Pawn n) → has_bit kept n ≡ (has_bit destinations n && not (is_pawn_drop_mate p (Drop kinds.Pawn n))) → has_bit kept n ≡ is_matching p false (code_of (Drop kinds.Pawn n))
legal_pawn p destinations kept n h s e = e ∙ (rw s (sym (legal_drop p kinds.Pawn n h)))

pub legal_other : (p : Shogi) (kind : Kind) (destinations n : ℕ) → n < 81 → is_pawn_kind kind ≡ false → has_bit destinations n ≡ is_safe p (Drop kind n) → has_bit destinations n ≡ is_matching p false (code_of (Drop kind n))
legal_other p kind destinations n h other s = grind (arith, legal_drop p kind n h)

-- a kind without squares has no legal drop
pub legal_nowhere : (p : Shogi) (kind : Kind) (destinations n : ℕ) → n < 81 → destinations ≡ 0 → has_bit destinations n ≡ is_safe p (Drop kind n) → has_bit 0 n ≡ is_matching p false (code_of (Drop kind n))
legal_nowhere p kind destinations n h none s = grind (arith, has_bit-none n, legal_drop p kind n h)

pub ruleset legal_dropping = (legal_pawn, legal_other, legal_nowhere)

-- a drop takes nothing, hence matches exactly if it is legal
pub drop_matching : (p : Shogi) (kind : Kind) (n : ℕ) → n < 81 → is_matching p false (code_of (Drop kind n)) ≡ is_legal_code p (code_of (Drop kind n))
drop_matching p kind n h = grind (arith, matching_move p false (Drop kind n) (move_of-drop kind n h), is_legal_code_of p (code_of (Drop kind n)) (Drop kind n) (move_of-drop kind n h))
