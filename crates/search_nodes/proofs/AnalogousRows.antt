-- Rows of analogous moves that a picker skips.
use Rattle.std.proofs.Common.{◌≡◌, ◌≤◌, ◌<◌, ◌+◌, ◌-◌, ◌*◌, ◌/◌, ◌%◌, ◌≤ℤ◌, ℕ, true, false, bit_and, bit_or, ◌^◌, None, Some, Option, refl, sym, ap, ◌∙◌, arith, inl, inr}
use Rattle.std.specs.Prelude.{is_some, not}
use Rattle.std.proofs.lemmas.Bool.{and_parts, both_ways, or_parts}
use Rattle.std.proofs.lemmas.Int.{ints}
use Rattle.shogi_core.specs.declared.moves.Move.TheVariants.{Board, Drop}
use Rattle.shogi_core.specs.declared.moves.TheConstants.{FIRST_DROP, SQUARE_CODES}
use Rattle.shogi_core.specs.declared.piece.Kind.{Kind}
use Rattle.shogi_core.specs.declared.piece.Piece.{Piece}
use Rattle.shogi_core.specs.Bits.{has_bit}
use Rattle.shogi_core.specs.Codes.{code_of}
use Rattle.shogi_core.specs.Movement.{piece_at}
use Rattle.shogi_core.specs.Pieces.{kind_number}
use Rattle.shogi_core.specs.Position.{Shogi}
use Rattle.shogi_core.proofs.BitLaws.{has_bit-or}
use Rattle.shogi_core.proofs.CodesBack.{move_of-board, move_of-drop}
use Rattle.shogi_core.proofs.Faults.{number_below}
use Rattle.shogi_moves.specs.Captures.{captures, is_matching, matches}
use Rattle.shogi_moves.specs.Legal.{is_legal}
use Rattle.shogi_moves.specs.Sweeps.{KeepsBoard, KeepsDrop, matching_from}
use Rattle.shogi_moves.proofs.DestinationLaws.{matching_move}
use Rattle.shogi_replies.specs.Passes.{IsSkipped}
use Rattle.shogi_replies.proofs.PassLaws.{destination_of, drop_of, not_uncertain, passed_to}
use Rattle.analogous_moves.specs.declared.moves.AnalogousMoves.{AnalogousMoves}
use Rattle.analogous_moves.specs.Analogies.{AreAnalogous, drops_of}
use Rattle.minimax.specs.Minimax.{worth}
use Rattle.minimax.specs.Window.{code_at, move_alpha}
use Rattle.search_nodes.specs.declared.frame.Frame.{Frame}
use Rattle.search_nodes.specs.declared.frame.NodeState.TheVariants.{Expanding}
use Rattle.search_nodes.specs.declared.move_picker.MovePicker.{MovePicker}
use Rattle.search_nodes.specs.Frames.{PrunesAnalogous, worth_of}
use Rattle.search_nodes.specs.Order.{IsAnalogousFrom, todo}
use Rattle.search_nodes.specs.Visits.{IsKnownWhile}
use Rattle.search_nodes.proofs.Passed.{skipped_known, threshold_rises}

bare : (cell : Option Piece) → not (is_some cell) ≡ true → cell ≡ None
bare None e = refl
bare (Some piece) e = absurd (cc)

-- a legal quiet move captures nothing on its destination
takes_nothing : (p : Shogi) (from n : ℕ) → from < 81 → n < 81 → is_matching p false (code_of (Board from n false)) ≡ true → (is_legal p (Board from n false) ≡ true) × (piece_at p.cells n ≡ None)
takes_nothing p from n hf hn matching =
    let both = and_parts (is_legal p (Board from n false)) (matches false (captures p (Some (Board from n false)))) (sym (matching_move p false (Board from n false) (move_of-board from n false hf hn)) ∙ matching) in
    (both.0, bare (piece_at p.cells n) both.1)

-- if a destination is not among the others, it is an analogous end and no promotion
pub among_ends : (non_promoting ends promoting others n : ℕ) → others ≡ bit_or (bit_and non_promoting (2 ^ 128 - 1 - ends)) promoting → ends < 2 ^ 128 → n < 81 → has_bit others n ≡ false → (has_bit non_promoting n ≡ true → has_bit ends n ≡ true) × (has_bit promoting n ≡ false)
among_ends non_promoting ends promoting others n is fits h out =
    let parts = or_parts (has_bit (bit_and non_promoting (2 ^ 128 - 1 - ends)) n) (has_bit promoting n) (sym (has_bit-or (bit_and non_promoting (2 ^ 128 - 1 - ends)) promoting n) ∙ (ap (λ (m : ℕ). has_bit m n) (sym is) ∙ out)) in
    (λ set. not_uncertain non_promoting ends n fits h parts.0 set, parts.1)

-- the piece's destinations below a code are skipped if they are analogous
pub analogous_destinations : (p : Shogi) (d : AnalogousMoves) (from code next non_promoting promoting : ℕ) → from < 81 → has_bit d.pieces.bits from ≡ true → KeepsBoard p false from code non_promoting promoting → code ≤ next → next ≤ from * SQUARE_CODES + SQUARE_CODES
    → ((n : ℕ) → n < 81 → code_of (Board from n false) < next → has_bit non_promoting n ≡ true → has_bit d.ends.bits n ≡ true)
    → ((n : ℕ) → n < 81 → code_of (Board from n true) < next → has_bit promoting n ≡ false)
    → IsSkipped (IsAnalogousFrom p d code) (matching_from p false code) (matching_from p false next)
analogous_destinations p d from code next non_promoting promoting hf piece k up high ends none =
    passed_to p false (IsAnalogousFrom p d code) code next up (omega arith) (λ c above below matching.
    let hn : c / 2 % 81 < 81 = omega arith in
    elim (destination_of p false from code non_promoting promoting c k above (omega arith) matching) [
      | inl at ↦ (
          let it = takes_nothing p from (c / 2 % 81) hf hn (ap (is_matching p false) (sym at.0) ∙ matching) in
          record {
            above = above;
            move = Board from (c / 2 % 81) false;
            is = at.0;
            on_board = (hf, hn);
            among = (piece, ends (c / 2 % 81) hn (omega (arith, at.0)) at.1);
            quiet = (refl, it.1);
            legal = it.0;
          })
      | inr at ↦ absurd (both_ways (has_bit promoting (c / 2 % 81)) (none (c / 2 % 81) hn (omega (arith, at.0))) at.1)
    ])

-- drops of the kind below a code are skipped if they are analogous
pub analogous_drops : (p : Shogi) (d : AnalogousMoves) (kind : Kind) (code next destinations : ℕ) → KeepsDrop p kind code destinations → code ≤ next → next ≤ FIRST_DROP + 81 + kind_number kind * 81
    → ((n : ℕ) → n < 81 → code_of (Drop kind n) < next → has_bit destinations n ≡ true → has_bit (drops_of d.drops kind).bits n ≡ true) → IsSkipped (IsAnalogousFrom p d code) (matching_from p false code) (matching_from p false next)
analogous_drops p d kind code next destinations k up high among =
    let seven : kind_number kind < 7 = number_below kind in
    let low : FIRST_DROP + kind_number kind * 81 ≤ code = k.low in
    passed_to p false (IsAnalogousFrom p d code) code next up (omega arith) (λ c above below matching.
    let ht : c - FIRST_DROP - kind_number kind * 81 < 81 = omega arith in
    let at : (c ≡ code_of (Drop kind (c - FIRST_DROP - kind_number kind * 81))) × (has_bit destinations (c - FIRST_DROP - kind_number kind * 81) ≡ true) = drop_of p kind code destinations c k above (omega arith) matching in
    record {
      above = above;
      move = Drop kind (c - FIRST_DROP - kind_number kind * 81);
      is = at.0;
      on_board = ht;
      among = among (c - FIRST_DROP - kind_number kind * 81) ht (omega (arith, at.0)) at.1;
      quiet = tt;
      legal = (and_parts _ _ (sym (matching_move p false (Drop kind (c - FIRST_DROP - kind_number kind * 81)) (move_of-drop kind (c - FIRST_DROP - kind_number kind * 81) ht)) ∙ (ap (is_matching p false) (sym at.0) ∙ matching))).0;
    })

-- ---- what is known of a node

pub deep : (f : Frame) → PrunesAnalogous f → 0 < f.depth
deep f (inl three) = omega (arith, three)
deep f (inr four) = omega (arith, four)

-- skipping analogous moves keeps what is known of a node
pub analogous_known : (f : Frame) (d : AnalogousMoves) (first : ℕ) (picker : MovePicker) → f.state ≡ Expanding → PrunesAnalogous f → AreAnalogous f.node.position f.node.eval f.depth d → d.most ≤ℤ move_alpha f.best_value (code_at f.best_move) first
    → IsSkipped (IsAnalogousFrom f.node.position d first) (todo f.node.position f.picker) (todo f.node.position picker) → IsKnownWhile f.node.position f.node.eval f.depth f.alpha f.beta f.best_value (code_at f.best_move) (todo f.node.position picker) f.state
analogous_known f d first picker next there analogous low passed = skipped_known f (IsAnalogousFrom f.node.position d first) picker next
    (λ c is. (
    let most : worth_of f is.move ≤ℤ d.most = analogous is.move is.on_board is.among is.quiet is.legal in
    let same : worth f.node.position f.node.eval (f.depth - 1) c ≡ worth_of f is.move = ap (worth f.node.position f.node.eval (f.depth - 1)) is.is in
    let up : move_alpha f.best_value (code_at f.best_move) first ≤ℤ move_alpha f.best_value (code_at f.best_move) c = threshold_rises f.best_value (code_at f.best_move) first c is.above in
    omega (arith, ints, most, same, up, low)))
    passed
