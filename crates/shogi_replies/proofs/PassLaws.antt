-- Runs of moves that a sweep skips.
use Rattle.std.proofs.Common.{◌≡◌, ◌≢◌, ℕ, zero, suc, ◌+◌, ◌-◌, ◌*◌, ◌/◌, ◌%◌, ◌^◌, ◌<◌, ◌≤◌, List, [], ◌∷◌, ◌⊎◌, Bool, true, false, bit_and, bit_or, length, inl, inr, sym, ap, ◌∙◌, arith, subst, not, Some}
use Rattle.std.proofs.lemmas.Nat.{and_le_l}
use Rattle.std.proofs.lemmas.Bool.{cases_Bool, both_ways, and_parts, and_from, or_parts, true_from_ne_false, false_from_ne_true}
use Rattle.shogi_core.specs.declared.moves.TheConstants.{MOVE_CODE_COUNT, FIRST_DROP, SQUARE_CODES}
use Rattle.shogi_core.specs.declared.moves.Move.{Move}
use Rattle.shogi_core.specs.declared.moves.Move.TheVariants.{Board, Drop}
use Rattle.shogi_core.specs.declared.piece.Kind.{Kind}
use Rattle.shogi_core.specs.Bits.{has_bit}
use Rattle.shogi_core.specs.Cell.{is_piece_of}
use Rattle.shogi_core.specs.Codes.{move_of, code_of}
use Rattle.shogi_core.specs.Movement.{piece_at}
use Rattle.shogi_core.specs.Pieces.{kind_number, opponent_of}
use Rattle.shogi_core.specs.Position.{Shogi}
use Rattle.shogi_core.proofs.BitLaws.{has_bit-and, has_bit-or, has_bit-none}
use Rattle.shogi_core.proofs.LineBits.{has_bit-not}
use Rattle.shogi_core.proofs.CodesBack.{move_of-board, move_of-drop}
use Rattle.shogi_core.proofs.Faults.{number_below}
use Rattle.shogi_core.specs.Attack.{in_check}
use Rattle.shogi_moves.specs.After.{after, after_code}
use Rattle.shogi_moves.specs.Legal.{is_legal, is_legal_code}
use Rattle.shogi_core.specs.Zones.{may_promote}
use Rattle.shogi_replies.specs.declared.move_filter.MoveFilter.{MoveFilter}
use Rattle.shogi_moves.specs.Captures.{is_matching}
use Rattle.shogi_replies.specs.ReplyInfo.{GuaranteesReplies, GuaranteesReply, is_reached, quiet_codes}
use Rattle.shogi_moves.specs.Sweeps.{matching_from, KeepsBoard, KeepsDrop}
use Rattle.shogi_replies.specs.Passes.{IsGuaranteedMove, IsGuaranteedDrop, IsSkipped, IsPassedTo, LeavesReply}
use Rattle.shogi_moves.proofs.CaptureLaws.{HasMatchingOn, skip_one, matching_found}
use Rattle.shogi_moves.proofs.DestinationLaws.{matching_board}
use Rattle.shogi_moves.proofs.LegalLaws.{is_legal_code_of, after_code_of}
use Rattle.shogi_moves.proofs.SweepLaws.{at_code}

-- nothing is skipped
pub passed_none : (fact : ℕ → Type 0) (codes left : List ℕ) → codes ≡ left → IsSkipped fact codes left
passed_none fact [] left e = e
passed_none fact (c ∷ codes) left e = inl e

-- two runs of skipped moves join
pub passed_on : (fact : ℕ → Type 0) (codes middle left : List ℕ) → IsSkipped fact codes middle → IsSkipped fact middle left → IsSkipped fact codes left
passed_on fact [] middle left h k = subst (λ (xs : List ℕ). IsSkipped fact xs left) (sym h) k
passed_on fact (c ∷ codes) middle left h k = elim h [
  | inl same ↦ subst (λ (xs : List ℕ). IsSkipped fact xs left) (sym same) k
  | inr more ↦ inr (more.0, passed_on fact codes middle left more.1 k)
]

-- one more move is skipped before the others
passed_first : (fact : ℕ → Type 0) (codes : List ℕ) (c : ℕ) (rest left : List ℕ) → codes ≡ c ∷ rest → fact c → IsSkipped fact rest left → IsSkipped fact codes left
passed_first fact codes c rest left e f h = subst (λ (xs : List ℕ). IsSkipped fact xs left) (sym e) (inr (f, h))

-- all moves of the kind from a code up to another are skipped
pub passed_range : (p : Shogi) (capture : Bool) (fact : ℕ → Type 0) (n code : ℕ) → code + n ≤ MOVE_CODE_COUNT → ((c : ℕ) → code ≤ c → c < code + n → is_matching p capture c ≡ true → fact c) → IsSkipped fact (matching_from p capture code) (matching_from p capture (code + n))
passed_range p capture fact zero code fits all = passed_none fact _ _ (ap (matching_from p capture) (omega arith))
passed_range p capture fact (suc n) code fits all =
    let rest : IsSkipped fact (matching_from p capture (code + 1)) (matching_from p capture (code + 1 + n)) = passed_range p capture fact n (code + 1) (omega arith) (λ c above below. all c (omega arith) (omega arith)) in
    let left : IsSkipped fact (matching_from p capture (code + 1)) (matching_from p capture (code + suc n)) = subst (λ (x : ℕ). IsSkipped fact (matching_from p capture (code + 1)) (matching_from p capture x)) (omega arith) rest in
    elim (cases_Bool (is_matching p capture code)) [
      | inl here ↦ passed_first fact (matching_from p capture code) code (matching_from p capture (code + 1)) _ (matching_found p capture code (omega arith) here) (all code (omega arith) (omega arith) here) left
      | inr other ↦ subst (λ (xs : List ℕ). IsSkipped fact xs (matching_from p capture (code + suc n))) (sym (skip_one p capture code (omega arith) other)) left
    ]

pub passed_to : (p : Shogi) (capture : Bool) (fact : ℕ → Type 0) (code next : ℕ) → code ≤ next → next ≤ MOVE_CODE_COUNT → ((c : ℕ) → code ≤ c → c < next → is_matching p capture c ≡ true → fact c) → IsSkipped fact (matching_from p capture code) (matching_from p capture next)
passed_to p capture fact code next up fits all =
    let there : code + (next - code) ≡ next = omega arith in
    subst (λ (x : ℕ). IsSkipped fact (matching_from p capture code) (matching_from p capture x)) there (passed_range p capture fact (next - code) code (omega arith) (λ c above below. all c above (omega arith)))

-- ---- the destinations of a piece

-- a matching move of the piece is one of its destinations, promoting or not
pub destination_of : (p : Shogi) (capture : Bool) (from code non_promoting promoting c : ℕ) → KeepsBoard p capture from code non_promoting promoting → code ≤ c → c < from * SQUARE_CODES + SQUARE_CODES → is_matching p capture c ≡ true
    → ((c ≡ code_of (Board from (c / 2 % 81) false)) × (has_bit non_promoting (c / 2 % 81) ≡ true)) ⊎ ((c ≡ code_of (Board from (c / 2 % 81) true)) × (has_bit promoting (c / 2 % 81) ≡ true))
destination_of p capture from code non_promoting promoting c k up below matching =
    let low : from * SQUARE_CODES ≤ code = k.low in
    elim (at_code from c (omega arith) below) [
      | inl at ↦ inl (at, true_from_ne_false (has_bit non_promoting (c / 2 % 81)) (λ out. both_ways (is_matching p capture c) (ap (is_matching p capture) at ∙ k.plains.clear (c / 2 % 81) (omega arith) out (omega arith)) matching))
      | inr at ↦ inr (at, true_from_ne_false (has_bit promoting (c / 2 % 81)) (λ out. both_ways (is_matching p capture c) (ap (is_matching p capture) at ∙ k.promotings.clear (c / 2 % 81) (omega arith) out (omega arith)) matching))
    ]

-- a legal move that guarantees a reply leaves one
leaves_reply : (p : Shogi) (escapes c : ℕ) (m : Move) → c ≡ code_of m → move_of (code_of m) ≡ Some m → is_legal_code p c ≡ true → GuaranteesReply p escapes m → LeavesReply p escapes c
leaves_reply p escapes c m at back listed guaranteed =
    let legal : is_legal p m ≡ true = sym (is_legal_code_of p c m (ap move_of at ∙ back)) ∙ listed in
    let made : after_code p c ≡ after p m = ap (after_code p) at ∙ after_code_of p m back in
    record {
      replied = subst (λ (q : Shogi). quiet_codes q ≢ []) (sym made) (guaranteed.0 legal);
      unchecked = λ none. ap (λ (q : Shogi). in_check q.cells (opponent_of p.side)) made ∙ guaranteed.1 none legal;
    }

-- a matching board move to a guaranteed destination of the filter is guaranteed
guaranteed_move : (p : Shogi) (capture promote : Bool) (move_filter : MoveFilter) (escapes first c from n : ℕ) → from < 81 → n < 81 → first ≤ c → c ≡ code_of (Board from n promote) → is_matching p capture c ≡ true → has_bit move_filter.pieces.bits from ≡ true → has_bit move_filter.squares.bits n ≡ true → (promote ≡ true → move_filter.promotes ≡ true) → GuaranteesReply p escapes (Board from n promote) → IsGuaranteedMove p capture move_filter escapes first c
guaranteed_move p capture promote move_filter escapes first c from n hf hn above at matching piece set lets guaranteed = record {
  above = above;
  on_board = grind arith;
  piece = subst (λ (k : ℕ). has_bit move_filter.pieces.bits k ≡ true) (grind arith) piece;
  end = subst (λ (k : ℕ). has_bit move_filter.squares.bits k ≡ true) (grind arith) set;
  promotes = λ odd. lets (grind arith);
  matching = matching;
  leaves = leaves_reply p escapes c (Board from n promote) at (move_of-board from n promote hf hn) (and_parts _ _ matching).0 guaranteed;
}

-- the moves of a piece below a code are skipped if each of them is guaranteed
pub destinations_passed : (p : Shogi) (capture : Bool) (move_filter : MoveFilter) (escapes from code next non_promoting promoting first : ℕ) → from < 81 → has_bit move_filter.pieces.bits from ≡ true → KeepsBoard p capture from code non_promoting promoting → first ≤ code → code ≤ next → next ≤ from * SQUARE_CODES + SQUARE_CODES
    → ((n : ℕ) → n < 81 → has_bit non_promoting n ≡ true → code_of (Board from n false) < next → (has_bit move_filter.squares.bits n ≡ true) × GuaranteesReply p escapes (Board from n false))
    → ((n : ℕ) → n < 81 → has_bit promoting n ≡ true → code_of (Board from n true) < next → (has_bit move_filter.squares.bits n ≡ true) × (move_filter.promotes ≡ true) × GuaranteesReply p escapes (Board from n true))
    → IsSkipped (IsGuaranteedMove p capture move_filter escapes first) (matching_from p capture code) (matching_from p capture next)
destinations_passed p capture move_filter escapes from code next non_promoting promoting first hf piece k low up high plainly by_promotion =
    passed_to p capture (IsGuaranteedMove p capture move_filter escapes first) code next up (omega arith) (λ c above below matching.
    let hn : c / 2 % 81 < 81 = omega arith in
    elim (destination_of p capture from code non_promoting promoting c k above (omega arith) matching) [
      | inl at ↦ (let it : _ = plainly (c / 2 % 81) hn at.1 (omega (arith, at.0)) in guaranteed_move p capture false move_filter escapes first c from (c / 2 % 81) hf hn (omega arith) at.0 matching piece it.0 (λ no. absurd (cc)) it.1)
      | inr at ↦ (let it : _ = by_promotion (c / 2 % 81) hn at.1 (omega (arith, at.0)) in guaranteed_move p capture true move_filter escapes first c from (c / 2 % 81) hf hn (omega arith) at.0 matching piece it.0 (λ _. it.1) it.2)
    ])

-- a destination that is not uncertain is guaranteed
pub not_uncertain : (destinations guaranteed n : ℕ) → guaranteed < 2 ^ 128 → n < 81 → has_bit (bit_and destinations (2 ^ 128 - 1 - guaranteed)) n ≡ false → has_bit destinations n ≡ true → has_bit guaranteed n ≡ true
not_uncertain destinations guaranteed n fits h out set = true_from_ne_false (has_bit guaranteed n) (λ out_of.
    both_ways (has_bit (bit_and destinations (2 ^ 128 - 1 - guaranteed)) n) out (has_bit-and destinations (2 ^ 128 - 1 - guaranteed) n ∙ and_from _ _ set (has_bit-not guaranteed n fits (omega arith) ∙ ap not out_of)))

pub none_uncertain : (destinations guaranteed n : ℕ) → guaranteed < 2 ^ 128 → n < 81 → bit_and destinations (2 ^ 128 - 1 - guaranteed) ≡ 0 → has_bit destinations n ≡ true → has_bit guaranteed n ≡ true
none_uncertain destinations guaranteed n fits h none set = not_uncertain destinations guaranteed n fits h (ap (λ m. has_bit m n) none ∙ has_bit-none n) set

-- an uncertain square is a destination
pub uncertain_destination : (destinations guaranteed to : ℕ) → has_bit (bit_and destinations (2 ^ 128 - 1 - guaranteed)) to ≡ true → has_bit destinations to ≡ true
uncertain_destination destinations guaranteed to set = (and_parts (has_bit destinations to) _ (sym (has_bit-and destinations (2 ^ 128 - 1 - guaranteed) to) ∙ set)).0

-- the destinations below the lowest uncertain one are guaranteed
pub below_uncertain : (destinations guaranteed to n : ℕ) → guaranteed < 2 ^ 128 → n < 81 → n < to → ((i : ℕ) → has_bit (bit_and destinations (2 ^ 128 - 1 - guaranteed)) i ≡ true → to ≤ i) → has_bit destinations n ≡ true → has_bit guaranteed n ≡ true
below_uncertain destinations guaranteed to n fits h down least set = not_uncertain destinations guaranteed n fits h (false_from_ne_true (has_bit (bit_and destinations (2 ^ 128 - 1 - guaranteed)) n) (λ there. (let le : to ≤ n = least n there in omega arith))) set

-- a destination uncertain in neither set is in the filter and guaranteed
pub of_both : (non_promoting among guaranteed promoting among_promoting promoted n : ℕ) → among < 2 ^ 128 → among_promoting < 2 ^ 128 → n < 81
    → has_bit (bit_or (bit_and non_promoting (2 ^ 128 - 1 - bit_and among guaranteed)) (bit_and promoting (2 ^ 128 - 1 - bit_and among_promoting promoted))) n ≡ false
    → (has_bit non_promoting n ≡ true → (has_bit among n ≡ true) × (has_bit guaranteed n ≡ true)) × (has_bit promoting n ≡ true → (has_bit among_promoting n ≡ true) × (has_bit promoted n ≡ true))
of_both non_promoting among guaranteed promoting among_promoting promoted n f g h none =
    let parts : _ = or_parts _ _ (sym (has_bit-or (bit_and non_promoting (2 ^ 128 - 1 - bit_and among guaranteed)) (bit_and promoting (2 ^ 128 - 1 - bit_and among_promoting promoted)) n) ∙ none) in (
      λ set. and_parts _ _ (sym (has_bit-and among guaranteed n) ∙ not_uncertain non_promoting (bit_and among guaranteed) n (omega (arith, f, and_le_l among guaranteed)) h parts.0 set),
      λ set. and_parts _ _ (sym (has_bit-and among_promoting promoted n) ∙ not_uncertain promoting (bit_and among_promoting promoted) n (omega (arith, g, and_le_l among_promoting promoted)) h parts.1 set),
    )

-- ---- all moves of a piece

-- a matching move ends on a square that the piece reaches, with promotion only if it may promote
plain_among : (p : Shogi) (capture : Bool) (from n : ℕ) → length p.cells ≡ 81 → from < 81 → n < 81 → is_piece_of p.side (piece_at p.cells from) ≡ true → is_matching p capture (code_of (Board from n false)) ≡ true → is_reached p capture from n ≡ true
plain_among p capture from n len hf hn own matching = grind (arith, matching_board p capture false from n len hf hn own)

promoting_among : (p : Shogi) (capture : Bool) (from n : ℕ) → length p.cells ≡ 81 → from < 81 → n < 81 → is_piece_of p.side (piece_at p.cells from) ≡ true → is_matching p capture (code_of (Board from n true)) ≡ true
    → (is_reached p capture from n ≡ true) × (may_promote (piece_at p.cells from) from n ≡ true)
promoting_among p capture from n len hf hn own matching = grind (arith, matching_board p capture true from n len hf hn own)

-- each move of the piece is guaranteed
pub guaranteed_moves : (p : Shogi) (capture : Bool) (move_filter : MoveFilter) (escapes from ends zone guaranteed promotions promoted : ℕ) → ((n : ℕ) → n < 81 → has_bit ends n ≡ is_reached p capture from n) → ((n : ℕ) → n < 81 → has_bit zone n ≡ may_promote (piece_at p.cells from) from n)
    → has_bit move_filter.pieces.bits from ≡ true → move_filter.squares.bits < 2 ^ 128 → promotions < 2 ^ 128 → ((n : ℕ) → has_bit promotions n ≡ true → move_filter.promotes ≡ true) → ((n : ℕ) → n < 81 → has_bit guaranteed n ≡ true → GuaranteesReply p escapes (Board from n false)) → ((n : ℕ) → n < 81 → has_bit promoted n ≡ true → GuaranteesReply p escapes (Board from n true))
    → bit_or (bit_and ends (2 ^ 128 - 1 - bit_and move_filter.squares.bits guaranteed)) (bit_and (bit_and ends zone) (2 ^ 128 - 1 - bit_and promotions promoted)) ≡ 0 → GuaranteesReplies p capture move_filter escapes from
guaranteed_moves p capture move_filter escapes from ends zone guaranteed promotions promoted ends_bits zone_bits piece f g lets answered by_promotion none =
    let at : (n : ℕ) → n < 81 → _ = λ n h. of_both ends move_filter.squares.bits guaranteed (bit_and ends zone) promotions promoted n f g h (ap (λ m. has_bit m n) none ∙ has_bit-none n) in
    record {
      piece = piece;
      non_promoting = λ n h e. (let it : _ = (at n h).0 (ends_bits n h ∙ e) in (it.0, answered n h it.1));
      promoting = λ n h e may. (let it : _ = (at n h).1 (has_bit-and ends zone n ∙ and_from _ _ (ends_bits n h ∙ e) (zone_bits n h ∙ may)) in (lets n it.0, by_promotion n h it.1));
    }

-- the moves of all pieces below a square are skipped if each of them is guaranteed
row_passed : (p : Shogi) (capture : Bool) (move_filter : MoveFilter) (escapes first code moving end : ℕ) → length p.cells ≡ 81 → end ≤ 81 → HasMatchingOn p capture code moving
    → ((n : ℕ) → n < 81 → has_bit moving n ≡ true → is_piece_of p.side (piece_at p.cells n) ≡ true) → ((n : ℕ) → n < 81 → n < end → has_bit moving n ≡ true → GuaranteesReplies p capture move_filter escapes n)
    → first ≤ code → code ≤ end * SQUARE_CODES → IsSkipped (IsGuaranteedMove p capture move_filter escapes first) (matching_from p capture code) (matching_from p capture (end * SQUARE_CODES))
row_passed p capture move_filter escapes first code moving end len he on mine guaranteed low up =
    passed_to p capture (IsGuaranteedMove p capture move_filter escapes first) code (end * SQUARE_CODES) up (omega arith) (λ c above below matching.
    let hf : c / SQUARE_CODES < 81 = omega arith in
    let hn : c / 2 % 81 < 81 = omega arith in
    let here : has_bit moving (c / SQUARE_CODES) ≡ true = on.on c above (omega arith) matching in
    let own : is_piece_of p.side (piece_at p.cells (c / SQUARE_CODES)) ≡ true = mine (c / SQUARE_CODES) hf here in
    let moves : GuaranteesReplies p capture move_filter escapes (c / SQUARE_CODES) = guaranteed (c / SQUARE_CODES) hf (omega arith) here in
    elim (at_code (c / SQUARE_CODES) c (omega arith) (omega arith)) [
      | inl at ↦ (
          let it : _ = moves.non_promoting (c / 2 % 81) hn (plain_among p capture (c / SQUARE_CODES) (c / 2 % 81) len hf hn own (ap (is_matching p capture) (sym at) ∙ matching)) in
          guaranteed_move p capture false move_filter escapes first c (c / SQUARE_CODES) (c / 2 % 81) hf hn (omega arith) at matching moves.piece it.0 (λ no. absurd (cc)) it.1)
      | inr at ↦ (
          let there : (is_reached p capture (c / SQUARE_CODES) (c / 2 % 81) ≡ true) × (may_promote (piece_at p.cells (c / SQUARE_CODES)) (c / SQUARE_CODES) (c / 2 % 81) ≡ true) = promoting_among p capture (c / SQUARE_CODES) (c / 2 % 81) len hf hn own (ap (is_matching p capture) (sym at) ∙ matching) in
          let it : _ = moves.promoting (c / 2 % 81) hn there.0 there.1 in
          guaranteed_move p capture true move_filter escapes first c (c / SQUARE_CODES) (c / 2 % 81) hf hn (omega arith) at matching moves.piece (moves.non_promoting (c / 2 % 81) hn there.0).0 (λ _. it.0) it.1)
    ])

pub row_passed_to : (p : Shogi) (capture : Bool) (move_filter : MoveFilter) (escapes code moving end : ℕ) → length p.cells ≡ 81 → end ≤ 81 → HasMatchingOn p capture code moving
    → ((n : ℕ) → n < 81 → has_bit moving n ≡ true → is_piece_of p.side (piece_at p.cells n) ≡ true) → ((n : ℕ) → n < 81 → n < end → has_bit moving n ≡ true → GuaranteesReplies p capture move_filter escapes n)
    → code ≤ end * SQUARE_CODES → IsPassedTo p capture move_filter escapes code (end * SQUARE_CODES)
row_passed_to p capture move_filter escapes code moving end len he on mine guaranteed up = record {
  up = up;
  passed = λ first low. row_passed p capture move_filter escapes first code moving end len he on mine guaranteed low up;
}

-- ---- the drops of a kind

pub drop_of : (p : Shogi) (kind : Kind) (code destinations c : ℕ) → KeepsDrop p kind code destinations → code ≤ c → c < FIRST_DROP + 81 + kind_number kind * 81 → is_matching p false c ≡ true → (c ≡ code_of (Drop kind (c - FIRST_DROP - kind_number kind * 81))) × (has_bit destinations (c - FIRST_DROP - kind_number kind * 81) ≡ true)
drop_of p kind code destinations c k up below matching =
    let low : FIRST_DROP + kind_number kind * 81 ≤ code = k.low in
    let at : c ≡ code_of (Drop kind (c - FIRST_DROP - kind_number kind * 81)) = omega arith in
    (at, true_from_ne_false (has_bit destinations (c - FIRST_DROP - kind_number kind * 81)) (λ out. both_ways (is_matching p false c) (ap (is_matching p false) at ∙ k.drops.clear (c - FIRST_DROP - kind_number kind * 81) (omega arith) out (omega arith)) matching))

pub drops_passed : (p : Shogi) (kind : Kind) (squares escapes code next destinations : ℕ) → KeepsDrop p kind code destinations → code ≤ next → next ≤ FIRST_DROP + 81 + kind_number kind * 81
    → ((n : ℕ) → n < 81 → has_bit destinations n ≡ true → code_of (Drop kind n) < next → (has_bit squares n ≡ true) × GuaranteesReply p escapes (Drop kind n)) → IsSkipped (IsGuaranteedDrop p kind squares escapes code) (matching_from p false code) (matching_from p false next)
drops_passed p kind squares escapes code next destinations k up high guaranteed =
    let seven : kind_number kind < 7 = number_below kind in
    let low : FIRST_DROP + kind_number kind * 81 ≤ code = k.low in
    passed_to p false (IsGuaranteedDrop p kind squares escapes code) code next up (omega arith) (λ c above below matching.
    let ht : c - FIRST_DROP - kind_number kind * 81 < 81 = omega arith in
    let at : (c ≡ code_of (Drop kind (c - FIRST_DROP - kind_number kind * 81))) × (has_bit destinations (c - FIRST_DROP - kind_number kind * 81) ≡ true) = drop_of p kind code destinations c k above (omega arith) matching in
    let legal : is_legal_code p c ≡ true = (and_parts _ _ matching).0 in
    let it : (has_bit squares (c - FIRST_DROP - kind_number kind * 81) ≡ true) × GuaranteesReply p escapes (Drop kind (c - FIRST_DROP - kind_number kind * 81)) = guaranteed (c - FIRST_DROP - kind_number kind * 81) ht at.1 (omega (arith, at.0)) in
    record {
      above = above;
      low = omega arith;
      high = omega arith;
      among = it.0;
      legal = legal;
      leaves = leaves_reply p escapes c (Drop kind (c - FIRST_DROP - kind_number kind * 81)) at.0 (move_of-drop kind (c - FIRST_DROP - kind_number kind * 81) ht) legal it.1;
    })
