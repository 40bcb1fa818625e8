-- In check, a piece that reaches no evasion square has no legal move.
use Rattle.std.proofs.Common.{◌≡◌, ◌<◌, ◌-◌, ◌^◌, ℕ, Bool, true, false, not, bit_and, bit_or, sym, ap, ◌∙◌, arith}
use Rattle.std.proofs.lemmas.Bool.{and_parts, and_from, both_ways, or_parts, true_from_ne_false}
use Rattle.shogi_core.specs.declared.moves.Move.TheVariants.{Board}
use Rattle.shogi_core.specs.Bits.{has_bit, HasBits}
use Rattle.shogi_core.specs.Cell.{is_king}
use Rattle.shogi_core.specs.Codes.{code_of}
use Rattle.shogi_core.specs.Movement.{piece_at, reaches}
use Rattle.shogi_core.specs.Position.{Shogi}
use Rattle.shogi_core.specs.Validity.{IsValid}
use Rattle.shogi_core.proofs.BitLaws.{has_bit-and, has_bit-or}
use Rattle.shogi_core.proofs.LineBits.{has_bit-not}
use Rattle.shogi_core.proofs.CodesBack.{move_of-board}
use Rattle.shogi_moves.specs.CheckInfo.{IsCheckInfo}
use Rattle.shogi_moves.specs.Destinations.{is_own, leaves_king_safe}
use Rattle.shogi_moves.specs.Legal.{is_pseudo_legal_board_move}
use Rattle.shogi_moves.proofs.DestinationLaws.{legal_board, no_answer, unchecked_either}
use Rattle.shogi_moves.proofs.LegalLaws.{is_legal_code_of}
use Rattle.last_ply.specs.LastPly.{is_legal_board_move, HasNoneFrom, HasReachers, OnEach, OnRest}
use Rattle.last_ply.proofs.Scores.{legal_parts}
use Rattle.last_ply.proofs.Squares.{out_within}

-- in check, a legal move of a piece other than the king ends on an evasion square
answers_on : (p : Shogi) (checked : Bool) (pinned_or_king from n : ℕ) (promote : Bool) → IsValid p → IsCheckInfo p checked pinned_or_king → checked ≡ true → from < 81 → n < 81 → is_own p from ≡ true → is_king p.side (piece_at p.cells from) ≡ false
    → is_legal_board_move p from n promote ≡ true → has_bit pinned_or_king n ≡ true
answers_on p checked pinned_or_king from n promote v g check hf hn own non_promoting l =
    let legal = sym (is_legal_code_of p (code_of (Board from n promote)) (Board from n promote) (move_of-board from n promote hf hn) ∙ legal_board p from n promote) ∙ l in
    let safe : leaves_king_safe p (Board from n promote) ≡ true = (and_parts (is_pseudo_legal_board_move p.cells p.side from n promote) (leaves_king_safe p (Board from n promote)) legal).1 in
    true_from_ne_false (has_bit pinned_or_king n) (λ out. both_ways (leaves_king_safe p (Board from n false)) (no_answer p checked pinned_or_king from n g check v.cells_fit hf hn own non_promoting out) (sym (unchecked_either p from n promote v.cells_fit hn own) ∙ safe))

pub none_without_answer : (p : Shogi) (checked : Bool) (pinned_or_king own kings reaching : ℕ) → IsValid p → IsCheckInfo p checked pinned_or_king → checked ≡ true → own < 2 ^ 81 → HasBits own (is_own p) → ((n : ℕ) → n < 81 → has_bit kings n ≡ is_king p.side (piece_at p.cells n))
    → OnEach (bit_and pinned_or_king (2 ^ 128 - 1 - own)) (HasReachers p.cells reaching) → OnRest own (bit_and own (bit_or kings reaching)) (HasNoneFrom p)
none_without_answer p checked pinned_or_king own kings reaching v g check fits owns crowns far n h mine out to promote ht l =
    let two = or_parts (has_bit kings n) (has_bit reaching n) (sym (has_bit-or kings reaching n) ∙ out_within own (bit_or kings reaching) n mine out) in
    let parts = legal_parts p n to promote h ht l in
    let there : has_bit pinned_or_king to ≡ true = answers_on p checked pinned_or_king n to promote v g check h ht (sym (owns n h) ∙ mine) (sym (crowns n h) ∙ two.0) l in
    let free : has_bit own to ≡ false = owns to ht ∙ parts.1 in
    both_ways (reaches p.cells n to) (far to ht (has_bit-and pinned_or_king (2 ^ 128 - 1 - own) to ∙ and_from _ _ there (has_bit-not own to (omega (arith, fits)) (omega arith) ∙ ap not free)) n h two.1) parts.0
