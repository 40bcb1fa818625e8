-- Scores of a piece's moves.
use Rattle.std.proofs.Common.{◌≡◌, ◌<◌, ◌≤◌, ◌+◌, ◌-◌, ◌/◌, ◌%◌, ℕ, ℤ, pos, ◌-ℤ◌, ◌+ℤ◌, ◌≤ℤ◌, Bool, true, false, not, Option, Some, None, bit_and, bit_or, refl, sym, ap, ◌∙◌, subst, arith, inl, inr}
use Rattle.std.specs.Prelude.{◌&&◌, ◌||◌, ◌==◌, is_none}
use Rattle.std.proofs.lemmas.Int.{ints}
use Rattle.std.proofs.Math.Bool.{and-true}
use Rattle.std.proofs.lemmas.Bool.{eq-eqb, or_right, and_parts, and_from, both_ways, cases_Bool, cases_lt, cases_eq, true_from_ne_false, false_from_ne_true, or_parts, not-true}
use Rattle.shogi_core.specs.declared.moves.TheConstants.{FIRST_DROP, MOVE_CODE_COUNT}
use Rattle.shogi_core.specs.declared.moves.Move.TheVariants.{Board, Drop}
use Rattle.shogi_core.specs.declared.piece.Color.{Color}
use Rattle.shogi_core.specs.declared.piece.Color.TheVariants.{Black, White}
use Rattle.shogi_core.specs.declared.piece.Piece.{Piece}
use Rattle.shogi_core.specs.declared.piece.Kind.{Kind}
use Rattle.shogi_core.specs.declared.piece.Kind.TheVariants as kinds
use Rattle.shogi_core.specs.Bits.{has_bit}
use Rattle.shogi_core.specs.Cell.{is_piece_of, is_slider}
use Rattle.shogi_core.specs.Codes.{code_of, move_of, kind_at}
use Rattle.shogi_core.specs.Lines.{are_aligned, is_near}
use Rattle.shogi_core.specs.Movement.{Cells, piece_at, reaches}
use Rattle.shogi_core.specs.Pieces.{opponent_of, is_same_color}
use Rattle.shogi_core.specs.Position.{Shogi}
use Rattle.shogi_core.specs.Validity.{IsValid}
use Rattle.shogi_core.proofs.BitLaws.{has_bit-and, has_bit-none, has_bit-or}
use Rattle.shogi_core.proofs.SeenLaws.{lined_aligned, reaches_near}
use Rattle.shogi_core.proofs.CodesBack.{move_of-board, move_of-drop, code_of-board, code_of-drop}
use Rattle.shogi_moves.specs.After.{after, after_code}
use Rattle.shogi_moves.specs.Legal.{is_legal, is_legal_code, is_pseudo_legal_board_move}
use Rattle.shogi_core.specs.Zones.{may_promote, is_near_zone}
use Rattle.shogi_moves.specs.Destinations.{is_own, AreEnterable, HasMovers, is_destination, leaves_king_safe}
use Rattle.shogi_moves.specs.LegalMoves.{legal_codes}
use Rattle.shogi_moves.specs.Rising.{is_in}
use Rattle.shogi_moves.proofs.DestinationLaws.{legal_board}
use Rattle.shogi_replies.proofs.FarLaws.{far_plain}
use Rattle.shogi_moves.proofs.Keeps.{is_safe_from_legal}
use Rattle.shogi_moves.proofs.KeepsBoard.{IsSafeBoardMove, safe_board_move}
use Rattle.shogi_moves.proofs.LegalLaws.{in_legal, legal_in, legal_code_below, is_legal_code_of, after_code_at, no_piece}
use Rattle.shogi_eval.specs.declared.eval.Eval.{Eval}
use Rattle.shogi_eval.specs.declared.eval.Eval.TheVariants.{Plain, Hand, Exchange}
use Rattle.shogi_eval.specs.declared.gain.TheConstants.{PROMOTION_GAIN_MAX}
use Rattle.shogi_eval.specs.Exchange.{is_quiet, leaf_after}
use Rattle.shogi_eval.specs.Material.{material_of, taken_gain, promotion_gain, drop_gain}
use Rattle.shogi_eval.proofs.Gains.{material_after_board, material_after_drop}
use Rattle.minimax.proofs.Settling.{left_least, left_quiet}
use Rattle.static_exchange.proofs.Won.{promotion_most}
use Rattle.last_ply.proofs.Squares.{left_clear}
use Rattle.last_ply.specs.LastPly.{is_legal_board_move, score_at, raw_score, HasScore, IsReach, ScoresAtMost, ScoresFromAtMost, ScoresAmongAtMost, OnOwn}

-- the score is at most the material after the move
pub score_most : (p : Shogi) (e : Eval) (code : ℕ) → score_at p e code ≤ℤ raw_score p e code
score_most p e code = let least : material_of (after_code p code) e ≤ℤ leaf_after p e code = left_least p e code in omega (arith, ints, least)

-- the material after the move on the board of a code
pub score_board : (p : Shogi) (e : Eval) (from to : ℕ) (promote : Bool) → IsValid p → from < 81 → to < 81 → is_legal_board_move p from to promote ≡ true
    → raw_score p e (code_of (Board from to promote)) ≡ (material_of p e +ℤ pos (taken_gain e (piece_at p.cells to) + promotion_gain promote (piece_at p.cells from)))
score_board p e from to promote v hf ht l =
    let back : move_of (code_of (Board from to promote)) ≡ Some (Board from to promote) = move_of-board from to promote hf ht in
    let legal : is_legal p (Board from to promote) ≡ true = sym (is_legal_code_of p (code_of (Board from to promote)) (Board from to promote) back) ∙ l in
    let law : material_of (after p (Board from to promote)) e ≡ pos 0 -ℤ (material_of p e +ℤ pos (taken_gain e (piece_at p.cells to) + promotion_gain promote (piece_at p.cells from))) = material_after_board p e from to promote v hf ht legal in
    let at : material_of (after_code p (code_of (Board from to promote))) e ≡ material_of (after p (Board from to promote)) e = ap (λ (q : Shogi). material_of q e) (after_code_at p (code_of (Board from to promote)) (Board from to promote) back) in
    omega (arith, ints, law, at)

-- a cell with neither side's piece is empty
pub nobody : (side : Color) (cell : Option Piece) → is_piece_of side cell ≡ false → is_piece_of (opponent_of side) cell ≡ false → cell ≡ None
nobody side None a b = refl
nobody side (Some piece) a b = absurd (go side piece.color a b)
  where
    go : (s c : Color) → is_same_color s c ≡ false → is_same_color (opponent_of s) c ≡ false → ⊥
    go Black Black x y = cc
    go Black White x y = cc
    go White Black x y = cc
    go White White x y = cc

plain_gain : (cell : Option Piece) → promotion_gain false cell ≡ 0
plain_gain None = refl
plain_gain (Some piece) = refl

-- a legal move without capture or promotion scores the node's material
pub score_quiet : (p : Shogi) (e : Eval) (from to : ℕ) → IsValid p → from < 81 → to < 81 → is_legal_board_move p from to false ≡ true → is_piece_of (opponent_of p.side) (piece_at p.cells to) ≡ false → score_at p e (code_of (Board from to false)) ≡ material_of p e
score_quiet p e from to v hf ht l free =
    let back : move_of (code_of (Board from to false)) ≡ Some (Board from to false) = move_of-board from to false hf ht in
    let legal : is_legal p (Board from to false) ≡ true = sym (is_legal_code_of p (code_of (Board from to false)) (Board from to false) back) ∙ l in
    let safe : IsSafeBoardMove p from to false = safe_board_move p from to false (is_safe_from_legal p (Board from to false) legal) in
    let none : piece_at p.cells to ≡ None = nobody p.side (piece_at p.cells to) safe.free free in
    let taken : taken_gain e (piece_at p.cells to) ≡ 0 = ap (taken_gain e) none in
    let promotion : promotion_gain false (piece_at p.cells from) ≡ 0 = plain_gain (piece_at p.cells from) in
    let law : _ = score_board p e from to false v hf ht l in
    let quiet : is_quiet p (move_of (code_of (Board from to false))) ≡ true = ap (is_quiet p) back ∙ ap is_none none in
    let left : leaf_after p e (code_of (Board from to false)) ≡ material_of (after_code p (code_of (Board from to false))) e = left_quiet p e (code_of (Board from to false)) quiet in
    omega (arith, ints, law, taken, promotion, left)

-- conditions that a legal move on the board meets
pub legal_parts : (p : Shogi) (from n : ℕ) (promote : Bool) → from < 81 → n < 81 → is_legal_board_move p from n promote ≡ true → (reaches p.cells from n ≡ true) × (is_own p n ≡ false) × ((not promote || may_promote (piece_at p.cells from) from n) ≡ true)
legal_parts p from n promote hf h l =
    let legal = sym (is_legal_code_of p (code_of (Board from n promote)) (Board from n promote) (move_of-board from n promote hf h) ∙ legal_board p from n promote) ∙ l in
    let four = and_parts _ _ (and_parts (is_pseudo_legal_board_move p.cells p.side from n promote) (leaves_king_safe p (Board from n promote)) legal).0 in
    let three = and_parts _ _ four.0 in
    let two = and_parts _ _ three.0 in
    (two.1, not-true _ (and_parts _ _ two.0).1, three.1)

-- a legal move ends in the piece's reach, and promotes only if the piece may
pub legal_end : (p : Shogi) (from targets n : ℕ) (promote : Bool) → from < 81 → n < 81 → IsReach p from targets → is_legal_board_move p from n promote ≡ true → has_bit targets n ≡ true
legal_end p from targets n promote hf h rb l =
    let parts = legal_parts p from n promote hf h l in
    rb n h ∙ and_from _ _ parts.0 (ap not parts.1)

pub legal_promotion : (p : Shogi) (from targets zone n : ℕ) → from < 81 → n < 81 → IsReach p from targets → has_bit zone n ≡ may_promote (piece_at p.cells from) from n → is_legal_board_move p from n true ≡ true → has_bit (bit_and targets zone) n ≡ true
legal_promotion p from targets zone n hf h rb zb l = has_bit-and targets zone n ∙ and_from _ _ (legal_end p from targets n true hf h rb l) (zb ∙ (legal_parts p from n true hf h l).2)

-- the legal destinations within the reach are all legal destinations
pub all_legal : (p : Shogi) (from targets ends n : ℕ) (promote : Bool) → from < 81 → n < 81 → IsReach p from targets → has_bit ends n ≡ (has_bit targets n && is_legal_board_move p from n promote) → has_bit ends n ≡ is_legal_board_move p from n promote
all_legal p from targets ends n promote hf h rb bits = elim (cases_Bool (is_legal_board_move p from n promote)) [
  | inl legal ↦ bits ∙ (and_from _ _ (legal_end p from targets n promote hf h rb legal) legal ∙ sym legal)
  | inr illegal ↦ false_from_ne_true (has_bit ends n) (λ set. both_ways (is_legal_board_move p from n promote) illegal (and_parts (has_bit targets n) _ (sym bits ∙ set)).1) ∙ sym illegal
]

-- a single square in the reach is tested alone
pub legal_at : (p : Shogi) (from targets square ends to : ℕ) (promote : Bool) → from < 81 → to < 81 → IsReach p from targets → ((i : ℕ) → has_bit square i ≡ (has_bit 0 i || (i == to)))
    → has_bit ends to ≡ (has_bit (bit_and targets square) to && is_legal_board_move p from to promote) → has_bit ends to ≡ is_legal_board_move p from to promote
legal_at p from targets square ends to promote hf ht rb one bits =
    let here : has_bit square to ≡ true = one to ∙ or_right (has_bit 0 to) (to == to) (eq-eqb to to refl) in
    let both : has_bit (bit_and targets square) to ≡ has_bit targets to = has_bit-and targets square to ∙ ap (λ b. has_bit targets to && b) here ∙ and-true (has_bit targets to) in
    all_legal p from targets ends to promote hf ht rb (bits ∙ ap (λ b. b && is_legal_board_move p from to promote) both)

-- a bound of a piece's captures and promotions, if at least the node's material, bounds all its moves
pub from_ends : (p : Shogi) (e : Eval) (from targets foe zone : ℕ) (floor first last : ℤ) → IsValid p → from < 81 → IsReach p from targets
    → ((n : ℕ) → n < 81 → has_bit foe n ≡ is_piece_of (opponent_of p.side) (piece_at p.cells n)) → ((n : ℕ) → n < 81 → has_bit zone n ≡ may_promote (piece_at p.cells from) from n)
    → ScoresAmongAtMost p e from false (bit_and targets foe) first → ScoresAmongAtMost p e from true (bit_and targets zone) last
    → material_of p e ≤ℤ floor → floor ≤ℤ first → first ≤ℤ last → ScoresFromAtMost p e from last
from_ends p e from targets foe zone floor first last v hf rb fb zb takes promotes base up more n promote h l = go promote l
  where
    go : (promote : Bool) → is_legal_board_move p from n promote ≡ true → score_at p e (code_of (Board from n promote)) ≤ℤ last
    go true l = promotes n h (has_bit-and targets zone n ∙ and_from _ _ (legal_end p from targets n true hf h rb l) (zb n h ∙ (legal_parts p from n true hf h l).2)) l
    go false l = elim (cases_Bool (has_bit foe n)) [
      | inl set ↦ (let s : score_at p e (code_of (Board from n false)) ≤ℤ first = takes n h (has_bit-and targets foe n ∙ and_from _ _ (legal_end p from targets n false hf h rb l) set) l in omega (arith, ints))
      | inr out ↦ (let s : score_at p e (code_of (Board from n false)) ≡ material_of p e = score_quiet p e from n v hf h l (sym (fb n h) ∙ out) in omega (arith, ints))
    ]

-- without captures and promotions, any bound holds of them
pub none_among : (p : Shogi) (e : Eval) (from a b : ℕ) (v : ℤ) → bit_or a b ≡ 0 → ScoresAmongAtMost p e from false a v × ScoresAmongAtMost p e from true b v
none_among p e from a b v none = (λ n h set l. absurd (both_ways (has_bit a n) (out n).0 set), λ n h set l. absurd (both_ways (has_bit b n) (out n).1 set))
  where
    out : (n : ℕ) → (has_bit a n ≡ false) × (has_bit b n ≡ false)
    out n = or_parts _ _ (sym (has_bit-or a b n) ∙ (ap (λ (m : ℕ). has_bit m n) none ∙ has_bit-none n))

-- the piece may enter the squares of its reach and of each subset
pub enters : (p : Shogi) (from targets : ℕ) → IsReach p from targets → AreEnterable p from targets
enters p from targets rb n h set =
    let both = and_parts (reaches p.cells from n) (not (is_own p n)) (sym (rb n h) ∙ set) in
    (both.0, not-true (is_own p n) both.1)

pub enters_some : (p : Shogi) (from targets squares : ℕ) → IsReach p from targets → AreEnterable p from (bit_and targets squares)
enters_some p from targets squares rb n h set = enters p from targets rb n h (and_parts (has_bit targets n) _ (sym (has_bit-and targets squares n) ∙ set)).0

-- no drop gains points
drop_gain_most : (e : Eval) (kind : Kind) → drop_gain e kind ≤ℤ pos 0
drop_gain_most Plain kind = omega (arith, ints)
drop_gain_most Exchange kind = omega (arith, ints)
drop_gain_most Hand kinds.Pawn = omega (arith, ints)
drop_gain_most Hand kinds.Lance = omega (arith, ints)
drop_gain_most Hand kinds.Knight = omega (arith, ints)
drop_gain_most Hand kinds.Silver = omega (arith, ints)
drop_gain_most Hand kinds.Gold = omega (arith, ints)
drop_gain_most Hand kinds.Bishop = omega (arith, ints)
drop_gain_most Hand kinds.Rook = omega (arith, ints)

-- no drop scores more than the node's material
pub score_drop : (p : Shogi) (e : Eval) (kind : Kind) (to code : ℕ) → IsValid p → to < 81 → move_of code ≡ Some (Drop kind to) → is_legal_code p code ≡ true → score_at p e code ≤ℤ material_of p e
score_drop p e kind to code v ht back l =
    let legal : is_legal p (Drop kind to) ≡ true = sym (is_legal_code_of p code (Drop kind to) back) ∙ l in
    let law : material_of (after p (Drop kind to)) e ≡ pos 0 -ℤ (material_of p e +ℤ drop_gain e kind) = material_after_drop p e kind to v ht legal in
    let at : material_of (after_code p code) e ≡ material_of (after p (Drop kind to)) e = ap (λ (q : Shogi). material_of q e) (after_code_at p code (Drop kind to) back) in
    let most : drop_gain e kind ≤ℤ pos 0 = drop_gain_most e kind in
    let raw : score_at p e code ≤ℤ raw_score p e code = score_most p e code in
    omega (arith, ints, law, at, raw)

-- a fact about the legal moves of each piece and the drops of each kind holds of all legal moves
pub by_moves : (p : Shogi) (fact : ℕ → Type 0) → OnOwn p (λ from. (n : ℕ) (promote : Bool) → n < 81 → is_legal_board_move p from n promote ≡ true → fact (code_of (Board from n promote)))
    → ((kind : Kind) (n : ℕ) → n < 81 → is_legal_code p (code_of (Drop kind n)) ≡ true → fact (code_of (Drop kind n))) → (code : ℕ) → is_in code (legal_codes p) ≡ true → fact code
by_moves p fact board drops code i =
    let legal : is_legal_code p code ≡ true = legal_in p 0 code i in
    let below : code < MOVE_CODE_COUNT = legal_code_below p code legal in
    elim (cases_lt code FIRST_DROP) [
      | inl low ↦ (
          let same : code_of (Board (code / 2 / 81) (code / 2 % 81) (code % 2 == 1)) ≡ code = code_of-board code in
          let f : code / 2 / 81 < 81 = omega arith in
          let own : is_own p (code / 2 / 81) ≡ true = true_from_ne_false (is_own p (code / 2 / 81)) (λ out. both_ways (is_legal_code p code) (no_piece p (code / 2 / 81) code f out (omega arith) (omega arith)) legal) in
          subst fact same (board (code / 2 / 81) f own (code / 2 % 81) (code % 2 == 1) (omega arith) (ap (is_legal_code p) same ∙ legal)))
      | inr high ↦ (
          let same : code_of (Drop (kind_at ((code - FIRST_DROP) / 81)) ((code - FIRST_DROP) % 81)) ≡ code = code_of-drop code high below in
          subst fact same (drops (kind_at ((code - FIRST_DROP) / 81)) ((code - FIRST_DROP) % 81) (omega arith) (ap (is_legal_code p) same ∙ legal)))
    ]

-- a bound of the moves of all pieces, if at least the node's material, bounds all legal moves
pub all_most : (p : Shogi) (e : Eval) (v : ℤ) → IsValid p → material_of p e ≤ℤ v → OnOwn p (λ from. ScoresFromAtMost p e from v) → ScoresAtMost p e v
all_most p e v ok base each = by_moves p (λ code. score_at p e code ≤ℤ v) each
    (λ kind n h l. let s : score_at p e (code_of (Drop kind n)) ≤ℤ material_of p e = score_drop p e kind n (code_of (Drop kind n)) ok h (move_of-drop kind n h) l in omega (arith, ints))

pub weaker : (p : Shogi) (e : Eval) (from : ℕ) (v w : ℤ) → ScoresFromAtMost p e from v → v ≤ℤ w → ScoresFromAtMost p e from w
weaker p e from v w h up n promote below legal = let s : score_at p e (code_of (Board from n promote)) ≤ℤ v = h n promote below legal in omega (arith, ints)

-- a bound of the pieces passed and of one more holds of them all
pub one_more_piece : (p : Shogi) (e : Eval) (left next k : ℕ) (old new kept : ℤ) → ((i : ℕ) → has_bit next i ≡ (has_bit left i && not (i == k)))
    → OnOwn p (λ n. has_bit left n ≡ false → ScoresFromAtMost p e n old) → old ≤ℤ new → kept ≡ new → ScoresFromAtMost p e k new
    → OnOwn p (λ n. has_bit next n ≡ false → ScoresFromAtMost p e n kept)
one_more_piece p e left next k old new kept bits all up same here n h own out = elim (cases_eq n k) [
  | inl at ↦ subst (λ (x : ℕ). ScoresFromAtMost p e x kept) (sym at) (weaker p e k new kept here (omega (arith, ints)))
  | inr other ↦ weaker p e n old kept (all n h own (left_clear left next k n bits other out)) (omega (arith, ints))
]

-- a legal move without capture or promotion shows that some move scores the node's material
pub quiet_score : (p : Shogi) (e : Eval) (from to : ℕ) → IsValid p → from < 81 → to < 81 → is_legal_board_move p from to false ≡ true → is_piece_of (opponent_of p.side) (piece_at p.cells to) ≡ false → HasScore p e (material_of p e)
quiet_score p e from to v hf ht l free =
    let law : _ = score_quiet p e from to v hf ht l free in
    record { code = code_of (Board from to false); listed = in_legal p 0 (code_of (Board from to false)) (omega arith) l; at_least = omega (arith, ints, law) }

-- a piece that can neither capture nor promote scores the node's material
pub quiet_piece : (p : Shogi) (e : Eval) (from : ℕ) → IsValid p → from < 81 → ((t : ℕ) → t < 81 → (reaches p.cells from t && is_destination true p.side (piece_at p.cells t)) ≡ false) → ((t : ℕ) → t < 81 → reaches p.cells from t ≡ true → may_promote (piece_at p.cells from) from t ≡ false) → ScoresFromAtMost p e from (material_of p e)
quiet_piece p e from v hf takes promotes n true h l =
    let parts = legal_parts p from n true hf h l in
    absurd (both_ways (may_promote (piece_at p.cells from) from n) (promotes n h parts.0) parts.2)
quiet_piece p e from v hf takes promotes n false h l =
    let parts = legal_parts p from n false hf h l in
    let free : is_piece_of (opponent_of p.side) (piece_at p.cells n) ≡ false = false_from_ne_true (is_piece_of (opponent_of p.side) (piece_at p.cells n)) (λ there. both_ways (reaches p.cells from n && is_piece_of (opponent_of p.side) (piece_at p.cells n)) (takes n h) (and_from _ _ parts.0 there)) in
    let s : score_at p e (code_of (Board from n false)) ≡ material_of p e = score_quiet p e from n v hf h l free in
    omega (arith, ints)

-- a piece that is no taker, no slider and not near the zone scores the node's material
pub quiet_others : (p : Shogi) (e : Eval) (own takes zone sliders n : ℕ) → IsValid p → n < 81 → ((i : ℕ) → i < 81 → has_bit own i ≡ is_own p i) → HasMovers p true own takes → ((i : ℕ) → i < 81 → has_bit zone i ≡ is_near_zone p.side i) → ((i : ℕ) → i < 81 → has_bit sliders i ≡ is_slider (piece_at p.cells i))
    → has_bit own n ≡ true → has_bit (bit_or takes (bit_and own (bit_or zone sliders))) n ≡ false → ScoresFromAtMost p e n (material_of p e)
quiet_others p e own takes zone sliders n v h ob m zb sb set out =
    let two = or_parts (has_bit takes n) (has_bit (bit_and own (bit_or zone sliders)) n) (sym (has_bit-or takes (bit_and own (bit_or zone sliders)) n) ∙ out) in
    let near : has_bit (bit_or zone sliders) n ≡ false = false_from_ne_true (has_bit (bit_or zone sliders) n) (λ there. both_ways (has_bit (bit_and own (bit_or zone sliders)) n) two.1 (has_bit-and own (bit_or zone sliders) n ∙ and_from _ _ set there)) in
    let both = or_parts (has_bit zone n) (has_bit sliders n) (sym (has_bit-or zone sliders n) ∙ near) in
    quiet_piece p e n v h (λ t ht. m n t h ht set two.0) (λ t ht r. far_plain p n t h ht (sym (ob n h) ∙ set) (sym (sb n h) ∙ both.1) (sym (zb n h) ∙ both.0) r)

-- a piece without a capture dear enough scores at most a bound with room for any promotion
pub poor_piece : (p : Shogi) (e : Eval) (from : ℕ) (v : ℤ) → IsValid p → from < 81 → (material_of p e +ℤ pos PROMOTION_GAIN_MAX) ≤ℤ v
    → ((t : ℕ) → t < 81 → reaches p.cells from t ≡ true → is_piece_of (opponent_of p.side) (piece_at p.cells t) ≡ true → (material_of p e +ℤ pos (taken_gain e (piece_at p.cells t) + PROMOTION_GAIN_MAX)) ≤ℤ v)
    → ScoresFromAtMost p e from v
poor_piece p e from v ok hf room takes n promote h l =
    let law : _ = score_board p e from n promote ok hf h l in
    let raw : score_at p e (code_of (Board from n promote)) ≤ℤ raw_score p e (code_of (Board from n promote)) = score_most p e (code_of (Board from n promote)) in
    let parts = legal_parts p from n promote hf h l in
    let promotion : promotion_gain promote (piece_at p.cells from) ≤ PROMOTION_GAIN_MAX = promotion_most promote (piece_at p.cells from) in
    elim (cases_Bool (is_piece_of (opponent_of p.side) (piece_at p.cells n))) [
      | inl there ↦ (let t : _ = takes n h parts.0 there in omega (arith, ints, law, raw, t, promotion))
      | inr free ↦ (let taken : taken_gain e (piece_at p.cells n) ≡ 0 = ap (taken_gain e) (nobody p.side (piece_at p.cells n) parts.1 free) in omega (arith, ints, law, raw, taken, promotion, room))
    ]

-- a piece that reaches a square stands near it, or slides on a line with it
pub not_taking : (cells : Cells) (near sliders lines n t : ℕ) → n < 81 → t < 81 → ((i : ℕ) → i < 81 → has_bit near i ≡ is_near t i) → ((i : ℕ) → i < 81 → has_bit sliders i ≡ is_slider (piece_at cells i)) → ((i : ℕ) → i < 81 → has_bit lines i ≡ are_aligned t i)
    → has_bit (bit_or near (bit_and sliders lines)) n ≡ false → reaches cells n t ≡ true → ⊥
not_taking cells near sliders lines n t hn ht nb sb lb out r =
    let two = or_parts (has_bit near n) (has_bit (bit_and sliders lines) n) (sym (has_bit-or near (bit_and sliders lines) n) ∙ out) in
    elim (reaches_near cells n t hn r) [
      | inl beside ↦ both_ways (has_bit near n) two.0 (nb n hn ∙ beside)
      | inr far ↦ both_ways (has_bit (bit_and sliders lines) n) two.1 (has_bit-and sliders lines n ∙ and_from _ _ (sb n hn ∙ far.0) (lb n hn ∙ lined_aligned cells t n far.1))
    ]

-- a legal move whose score is v or more shows that some move scores v or more
pub has_score : (p : Shogi) (e : Eval) (code : ℕ) (v : ℤ) → is_legal_code p code ≡ true → v ≤ℤ score_at p e code → HasScore p e v
has_score p e code v l at = record { code = code; listed = in_legal p 0 code (omega arith) l; at_least = at }
