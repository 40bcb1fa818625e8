-- Rows of moves that are skipped since they fail low.
use Rattle.std.proofs.Common.{◌≡◌, ◌≢◌, ◌<◌, ◌≤◌, ◌+◌, ◌-◌, ◌*◌, ℕ, ℤ, ◌≤ℤ◌, List, [], ◌∷◌, true, inl, inr, Bool, Option, Some, None, refl, sym, ap, ◌∙◌, arith, subst, ◌/◌, ◌%◌, ◌+ℤ◌, false, pos, ◌-ℤ◌}
use Rattle.std.specs.Prelude.{not, is_some}
use Rattle.std.proofs.lemmas.Bool.{and_parts, cases_eq}
use Rattle.std.proofs.lemmas.Int.{ints}
use Rattle.std.proofs.lemmas.Bool.Decides.{nat_tests}
use Rattle.shogi_core.specs.declared.moves.TheConstants.{FIRST_DROP, SQUARE_CODES}
use Rattle.shogi_core.specs.declared.piece.Piece.{Piece}
use Rattle.shogi_core.specs.Attack.{in_check}
use Rattle.shogi_core.specs.Bits.{has_bit}
use Rattle.shogi_core.specs.Movement.{piece_at}
use Rattle.shogi_core.specs.declared.moves.Move.{Move}
use Rattle.shogi_core.specs.declared.moves.Move.TheVariants.{Board, Drop}
use Rattle.shogi_core.specs.declared.piece.Kind.{Kind}
use Rattle.shogi_core.specs.Codes.{move_of, code_of}
use Rattle.shogi_core.specs.Pieces.{kind_number, opponent_of}
use Rattle.shogi_core.specs.Position.{Shogi}
use Rattle.shogi_core.specs.Validity.{IsValid}
use Rattle.shogi_core.proofs.CodesBack.{move_of-board, move_of-drop}
use Rattle.shogi_moves.specs.After.{after, after_code}
use Rattle.shogi_moves.specs.Legal.{is_legal}
use Rattle.shogi_moves.specs.Captures.{is_matching}
use Rattle.shogi_replies.specs.declared.move_filter.MoveFilter.{MoveFilter}
use Rattle.shogi_replies.specs.Passes.{IsGuaranteedMove, IsGuaranteedDrop, IsSkipped, LeavesReply}
use Rattle.shogi_replies.specs.ReplyInfo.{GuaranteesReply, quiet_codes}
use Rattle.shogi_moves.proofs.DestinationLaws.{matching_move}
use Rattle.shogi_moves.proofs.LegalLaws.{is_legal_code_of, after_code_of}
use Rattle.shogi_eval.specs.declared.eval.Eval.{Eval}
use Rattle.shogi_eval.specs.Material.{material_of, taken_gain, promotion_gain}
use Rattle.shogi_eval.proofs.Gains.{material_at_board}
use Rattle.shogi_eval.proofs.RoleGains as roles
use Rattle.search_nodes.specs.Frames.{DropFailsLow, LeavesAtLeast, MovesLeave}
use Rattle.minimax.specs.Minimax.{value, worth, negated, sum_of_tree_sizes}
use Rattle.minimax.specs.Window.{move_alpha, code_at, IsCovered}
use Rattle.search_nodes.specs.Order.{todo}
use Rattle.search_nodes.specs.Visits.{moves_at, IsKnownWhile}
use Rattle.search_nodes.specs.Changes.{left_of_frame}
use Rattle.shogi_eval.specs.declared.gain.TheConstants.{PROMOTION_GAIN_MAX}
use Rattle.search_nodes.specs.declared.frame.Frame.{Frame}
use Rattle.search_nodes.specs.declared.move_picker.MovePicker.{MovePicker}
use Rattle.search_nodes.specs.declared.frame.NodeState.TheVariants.{Expanding}
use Rattle.minimax.proofs.Cover.{IsCovered-skip}
use Rattle.search_nodes.proofs.Ahead.{unpromoted, worth_below}
use Rattle.minimax.proofs.MinimaxLaws.{sum_of_tree_sizes-next}

-- skipping moves that fail low keeps the node covered
pub covered_passed : (f : ℕ → ℤ) (fact : ℕ → Type 0) (all codes left : List ℕ) (alpha best_value : ℤ) (b : Option ℕ) → IsSkipped fact codes left → ((c : ℕ) → fact c → f c ≤ℤ move_alpha best_value b c) → IsCovered f all codes alpha best_value b → IsCovered f all left alpha best_value b
covered_passed f fact all [] left alpha best_value b p low h = subst (λ (xs : List ℕ). IsCovered f all xs alpha best_value b) p h
covered_passed f fact all (c ∷ codes) left alpha best_value b p low h = elim p [
  | inl same ↦ subst (λ (xs : List ℕ). IsCovered f all xs alpha best_value b) same h
  | inr more ↦ covered_passed f fact all codes left alpha best_value b more.1 low (IsCovered-skip f all codes alpha best_value b c h (low c more.0))
]

-- skipping moves does not raise the sum over their trees
sum_passed : (p : Shogi) (d : ℕ) (fact : ℕ → Type 0) (codes left : List ℕ) → IsSkipped fact codes left → sum_of_tree_sizes p d left ≤ sum_of_tree_sizes p d codes
sum_passed p d fact [] left h = omega (arith, ap (sum_of_tree_sizes p d) h)
sum_passed p d fact (c ∷ codes) left h = elim h [
  | inl same ↦ omega (arith, ap (sum_of_tree_sizes p d) same)
  | inr more ↦ omega (arith, sum_passed p d fact codes left more.1, sum_of_tree_sizes-next p d c (after_code p c) (c ∷ codes) codes refl refl)
]

-- the threshold rises with the code
pub threshold_rises : (best_value : ℤ) (b : Option ℕ) (first c : ℕ) → first ≤ c → move_alpha best_value b first ≤ℤ move_alpha best_value b c
threshold_rises best_value None first c up = omega (arith, ints)
threshold_rises best_value (Some b) first c up = grind (arith, ints, nat_tests)

-- a code that leaves a reply is a move that guarantees one
guaranteed_move : (p : Shogi) (escapes c : ℕ) (m : Move) → after_code p c ≡ after p m → LeavesReply p escapes c → GuaranteesReply p escapes m
guaranteed_move p escapes c m made leaves = (
  λ _. subst (λ (q : Shogi). quiet_codes q ≢ []) made leaves.replied,
  λ none _. subst (λ (q : Shogi). in_check q.cells (opponent_of p.side) ≡ false) made (leaves.unchecked none),
)

-- the drop with the code, which guarantees a reply
pub record IsDropAt (p : Shogi) (kind : Kind) (squares escapes c to : ℕ) : Type 0 where
  pub fits : to < 81
  pub is : c ≡ code_of (Drop kind to)
  pub set : has_bit squares to ≡ true
  pub legal : is_legal p (Drop kind to) ≡ true
  pub guaranteed : GuaranteesReply p escapes (Drop kind to)

pub drop_at : (p : Shogi) (kind : Kind) (squares escapes first c : ℕ) → IsGuaranteedDrop p kind squares escapes first c → IsDropAt p kind squares escapes c (c - FIRST_DROP - kind_number kind * 81)
drop_at p kind squares escapes first c k =
    let to : ℕ = c - FIRST_DROP - kind_number kind * 81 in
    let fits : to < 81 = omega (arith, k.low, k.high) in
    let is : c ≡ code_of (Drop kind to) = omega (arith, k.low, k.high) in
    let back : move_of (code_of (Drop kind to)) ≡ Some (Drop kind to) = move_of-drop kind to fits in
    record {
      fits = fits;
      is = is;
      set = k.among;
      legal = sym (is_legal_code_of p c (Drop kind to) (ap move_of is ∙ back)) ∙ k.legal;
      guaranteed = guaranteed_move p escapes c (Drop kind to) (ap (after_code p) is ∙ after_code_of p (Drop kind to) back) k.leaves;
    }

-- a drop fails low if the opponent's material after it, less `loss`, suffices for that
pub drop_worth : (f : Frame) (kind : Kind) (squares escapes first c to : ℕ) (loss : ℤ) → f.depth ≡ 2 → DropFailsLow f kind first loss → first ≤ c → IsDropAt f.node.position kind squares escapes c to → LeavesAtLeast f loss (Drop kind to)
    → worth f.node.position f.node.eval (f.depth - 1) c ≤ℤ move_alpha f.best_value (code_at f.best_move) c
drop_worth f kind squares escapes first c to loss last short above at leaves =
    let most : worth f.node.position f.node.eval (f.depth - 1) (code_of (Drop kind to)) ≤ℤ negated (material_of (after f.node.position (Drop kind to)) f.node.eval -ℤ loss) = worth_below f.node.position f.node.eval f.depth (Drop kind to) _ (move_of-drop kind to at.fits) last leaves in
    let same : worth f.node.position f.node.eval (f.depth - 1) c ≡ worth f.node.position f.node.eval (f.depth - 1) (code_of (Drop kind to)) = ap (worth f.node.position f.node.eval (f.depth - 1)) at.is in
    let up : move_alpha f.best_value (code_at f.best_move) first ≤ℤ move_alpha f.best_value (code_at f.best_move) c = threshold_rises f.best_value (code_at f.best_move) first c above in
    omega (arith, ints, most, same, up, short to at.fits at.legal)

-- no promotion gains more than the maximum
promotion_within : (cell : Option Piece) → promotion_gain true cell ≤ PROMOTION_GAIN_MAX
promotion_within None = omega arith
promotion_within (Some piece) = omega (arith, roles.promotion_gain piece.role, roles.promotion_range piece.role)

-- a board move is worth at most the material with its gain and `loss`
gain_worth : (p : Shogi) (e : Eval) (d c from to : ℕ) (promote : Bool) (loss : ℤ) → IsValid p → d ≡ 2 → from < 81 → to < 81 → c ≡ code_of (Board from to promote) → is_legal p (Board from to promote) ≡ true → (material_of (after p (Board from to promote)) e -ℤ loss) ≤ℤ value (after p (Board from to promote)) e 1
    → worth p e (d - 1) c ≤ℤ (material_of p e +ℤ pos (taken_gain e (piece_at p.cells to) + promotion_gain promote (piece_at p.cells from)) +ℤ loss)
gain_worth p e d c from to promote loss valid last from_fits to_fits is legal leaves =
    let law : material_of (after p (Board from to promote)) e ≡ pos 0 -ℤ (material_of p e +ℤ pos (taken_gain e (piece_at p.cells to) + promotion_gain promote (piece_at p.cells from))) = material_at_board p e (Board from to promote) from to promote refl valid from_fits to_fits legal in
    let most : worth p e (d - 1) (code_of (Board from to promote)) ≤ℤ negated (material_of (after p (Board from to promote)) e -ℤ loss) = worth_below p e d (Board from to promote) _ (move_of-board from to promote from_fits to_fits) last leaves in
    let at : worth p e (d - 1) c ≡ worth p e (d - 1) (code_of (Board from to promote)) = ap (worth p e (d - 1)) is in
    omega (arith, ints, most, at, law)

nothing_taken : (e : Eval) (cell : Option Piece) → not (is_some cell) ≡ true → taken_gain e cell ≡ 0
nothing_taken e None h = refl
nothing_taken e (Some piece) h = cc

-- a quiet board move is worth at most the material with `most` for a promotion, and `loss`
quiet_at : (f : Frame) (move_filter : MoveFilter) (escapes first c most from to : ℕ) (promote : Bool) (loss : ℤ) → f.depth ≡ 2 → MovesLeave f loss move_filter.pieces.bits move_filter.squares.bits escapes → IsGuaranteedMove f.node.position false move_filter escapes first c → from < 81 → to < 81 → c ≡ code_of (Board from to promote) → has_bit move_filter.pieces.bits from ≡ true → has_bit move_filter.squares.bits to ≡ true → promotion_gain promote (piece_at f.node.position.cells from) ≤ most
    → worth f.node.position f.node.eval (f.depth - 1) c ≤ℤ (material_of f.node.position f.node.eval +ℤ pos most +ℤ loss)
quiet_at f move_filter escapes first c most from to promote loss last leave k from_fits to_fits is piece set more =
    let back : move_of (code_of (Board from to promote)) ≡ Some (Board from to promote) = move_of-board from to promote from_fits to_fits in
    let parts : (is_legal f.node.position (Board from to promote) ≡ true) × (not (is_some (piece_at f.node.position.cells to)) ≡ true) = and_parts _ _ (sym (matching_move f.node.position false (Board from to promote) back) ∙ (ap (is_matching f.node.position false) (sym is) ∙ k.matching)) in
    let guaranteed : GuaranteesReply f.node.position escapes (Board from to promote) = guaranteed_move f.node.position escapes c (Board from to promote) (ap (after_code f.node.position) is ∙ after_code_of f.node.position (Board from to promote) back) k.leaves in
    let worth_most : _ = gain_worth f.node.position f.node.eval f.depth c from to promote loss f.valid last from_fits to_fits is parts.0 (leave from to promote from_fits to_fits piece set parts.0 guaranteed) in
    omega (arith, ints, worth_most, nothing_taken f.node.eval (piece_at f.node.position.cells to) parts.1, more)

quiet_worth : (f : Frame) (move_filter : MoveFilter) (escapes first c most : ℕ) (loss : ℤ) → f.depth ≡ 2 → MovesLeave f loss move_filter.pieces.bits move_filter.squares.bits escapes → (move_filter.promotes ≡ true → PROMOTION_GAIN_MAX ≤ most) → IsGuaranteedMove f.node.position false move_filter escapes first c
    → worth f.node.position f.node.eval (f.depth - 1) c ≤ℤ (material_of f.node.position f.node.eval +ℤ pos most +ℤ loss)
quiet_worth f move_filter escapes first c most loss last leave within k =
    let from : ℕ = c / SQUARE_CODES in
    let to : ℕ = c / 2 % 81 in
    let from_fits : from < 81 = omega (arith, k.on_board) in
    let to_fits : to < 81 = omega arith in
    elim (cases_eq (c % 2) 0) [
      | inl even ↦ (
          let none : promotion_gain false (piece_at f.node.position.cells from) ≡ 0 = unpromoted (piece_at f.node.position.cells from) in
          quiet_at f move_filter escapes first c most from to false loss last leave k from_fits to_fits (omega (arith, even)) k.piece k.end (omega (arith, none)))
      | inr odd ↦ quiet_at f move_filter escapes first c most from to true loss last leave k from_fits to_fits (omega (arith, odd)) k.piece k.end (omega (arith, within (k.promotes (omega (arith, odd))), promotion_within (piece_at f.node.position.cells from)))
    ]

-- what is known of an expanding node
pub known_next : (f : Frame) → f.state ≡ Expanding → IsCovered (worth f.node.position f.node.eval (f.depth - 1)) (moves_at f.node.position f.depth) (todo f.node.position f.picker) f.alpha f.best_value (code_at f.best_move)
known_next f next = rw next at f.known

-- quiet board moves fail low if the material, a promotion and `loss` do not beat the threshold
pub quiets_lost : (f : Frame) (move_filter : MoveFilter) (escapes first most : ℕ) (loss : ℤ) → f.depth ≡ 2 → MovesLeave f loss move_filter.pieces.bits move_filter.squares.bits escapes → (move_filter.promotes ≡ true → PROMOTION_GAIN_MAX ≤ most) → (material_of f.node.position f.node.eval +ℤ pos most +ℤ loss) ≤ℤ move_alpha f.best_value (code_at f.best_move) first
    → (c : ℕ) → IsGuaranteedMove f.node.position false move_filter escapes first c → worth f.node.position f.node.eval (f.depth - 1) c ≤ℤ move_alpha f.best_value (code_at f.best_move) c
quiets_lost f move_filter escapes first most loss last leave within low = λ c is.
    let worth_most : worth f.node.position f.node.eval (f.depth - 1) c ≤ℤ (material_of f.node.position f.node.eval +ℤ pos most +ℤ loss) = quiet_worth f move_filter escapes first c most loss last leave within is in
    let up : move_alpha f.best_value (code_at f.best_move) first ≤ℤ move_alpha f.best_value (code_at f.best_move) c = threshold_rises f.best_value (code_at f.best_move) first c is.above in
    omega (arith, ints, worth_most, up, low)

-- skipping moves that fail low keeps what is known of a node
pub skipped_known : (f : Frame) (fact : ℕ → Type 0) (picker : MovePicker) → f.state ≡ Expanding → ((c : ℕ) → fact c → worth f.node.position f.node.eval (f.depth - 1) c ≤ℤ move_alpha f.best_value (code_at f.best_move) c) → IsSkipped fact (todo f.node.position f.picker) (todo f.node.position picker)
    → IsKnownWhile f.node.position f.node.eval f.depth f.alpha f.beta f.best_value (code_at f.best_move) (todo f.node.position picker) f.state
skipped_known f fact picker next lost passed = rw next (covered_passed (worth f.node.position f.node.eval (f.depth - 1)) fact (moves_at f.node.position f.depth) _ _ f.alpha f.best_value (code_at f.best_move) passed lost (known_next f next))

-- skipping moves leaves no more steps than before
pub left_passed : (f : Frame) (picker : MovePicker) (fact : ℕ → Type 0) → IsSkipped fact (todo f.node.position f.picker) (todo f.node.position picker)
    → 1 + 2 * sum_of_tree_sizes f.node.position (f.depth - 1) (todo f.node.position picker) ≤ left_of_frame f
left_passed f picker fact passed = omega (arith, sum_passed f.node.position (f.depth - 1) fact _ _ passed)
