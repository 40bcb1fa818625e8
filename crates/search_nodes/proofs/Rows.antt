-- Rows of moves that are skipped since the material or a threat settles them.
use Rattle.std.proofs.Common.{◌≡◌, ◌≢◌, ◌≤◌, ◌+◌, ◌-◌, ◌*◌, ℕ, ℤ, pos, ◌-ℤ◌, ◌≤ℤ◌, ◌∷◌, Option, Bool, true, false, refl, sym, ap, ◌∙◌, arith, subst, inl, inr, bit_or}
use Rattle.std.proofs.lemmas.Bool.{both_ways, or_cases}
use Rattle.std.proofs.Props.{props}
use Rattle.std.proofs.Math.Logic.{∥∥₁_elim}
use Rattle.shogi_core.specs.declared.moves.Move.{Move}
use Rattle.shogi_core.specs.declared.moves.Move.TheVariants.{Board, Drop}
use Rattle.shogi_core.specs.declared.moves.TheConstants.{FIRST_DROP}
use Rattle.shogi_core.specs.declared.piece.Kind.{Kind}
use Rattle.shogi_core.specs.Attack.{in_check}
use Rattle.shogi_core.specs.Bits.{has_bit}
use Rattle.shogi_core.specs.Cell.{is_slider}
use Rattle.shogi_core.specs.Codes.{code_of}
use Rattle.shogi_core.specs.Pieces.{kind_number, opponent_of}
use Rattle.shogi_core.specs.Position.{Shogi}
use Rattle.shogi_core.proofs.BitLaws.{has_bit-none, has_bit-or}
use Rattle.shogi_core.proofs.CodesBack.{move_of-board, move_of-drop}
use Rattle.shogi_moves.specs.After.{after, after_code, dropped}
use Rattle.shogi_moves.specs.Escapes.{AreEscapes}
use Rattle.shogi_replies.proofs.ThreatLaws.{retake_drop, retake_unchecked, threat_board, threat_drop}
use Rattle.shogi_eval.specs.Evaluated.{Evaluated}
use Rattle.shogi_eval.specs.Material.{taken_gain}
use Rattle.minimax.specs.Minimax.{sum_of_tree_sizes, worth}
use Rattle.minimax.specs.Window.{code_at, move_alpha}
use Rattle.search_nodes.specs.declared.frame.Frame.{Frame}
use Rattle.search_nodes.specs.declared.frame.NodeState.TheVariants.{AwaitingChild, Expanding}
use Rattle.search_nodes.specs.declared.move_picker.MovePicker.{MovePicker}
use Rattle.search_nodes.specs.declared.reply_cache.ReplyCache.{ReplyCache}
use Rattle.search_nodes.specs.ReplyCache.{IsPreFrontier, IsReplyCacheOf}
use Rattle.search_nodes.specs.declared.threat.Threat.{Threat}
use Rattle.search_nodes.specs.declared.threat.Threats.{Threats}
use Rattle.search_nodes.specs.Frames.{DropsFailLow, DropFailsLow, IsLost, LeavesAtLeast, MovesLeave, RepliesLoseAtMost, move_alpha_of, worth_of}
use Rattle.search_nodes.specs.Order.{todo}
use Rattle.search_nodes.specs.Changes.{IsSame, KeepsMoves, PrunesFiltered, left_of_frame, steps_after}
use Rattle.search_nodes.specs.Threats.{AreNonInterfering, AreThreatsIn, IsAttacked, IsThreatIn, TakesAfter}
use Rattle.search_nodes.specs.Visits.{IsKnownWhile}
use Rattle.minimax.proofs.MinimaxLaws.{sum_of_tree_sizes-next}
use Rattle.shogi_eval.specs.Exchange.{resolves_captures}
use Rattle.search_nodes.proofs.Ahead.{material_left, retake_gain, standing_quiet, threat_gain, threat_left}
use Rattle.search_nodes.proofs.Passed.{IsDropAt, drop_at, drop_worth, known_next}

-- moves that guarantee a reply leave the opponent its material, less what a drop may cost
pub material_leaves : (f : Frame) (loss : ℤ) (pieces squares escapes : ℕ) → pos 0 ≤ℤ loss → RepliesLoseAtMost f loss → MovesLeave f loss pieces squares escapes
material_leaves f loss pieces squares escapes least fails_low_by_threat = λ from to promote hf ht piece set legal guaranteed. material_left f.node.position f.node.eval loss (Board from to promote) f.valid (move_of-board from to promote hf ht) legal least fails_low_by_threat (standing_quiet (after f.node.position (Board from to promote)) f.node.eval (guaranteed.0 legal))

-- drops fail low if the material after them does not beat the threshold
pub material_drops : (f : Frame) (kind : Kind) (squares escapes first : ℕ) (loss : ℤ) → f.depth ≡ 2 → pos 0 ≤ℤ loss → RepliesLoseAtMost f loss → DropFailsLow f kind first loss → DropsFailLow f kind squares escapes first
material_drops f kind squares escapes first loss last least fails_low_by_threat short = λ code is.
    let at : _ = drop_at f.node.position kind squares escapes first code is in
    drop_worth f kind squares escapes first code _ loss last short is.above at (material_left f.node.position f.node.eval loss (Drop kind (code - FIRST_DROP - kind_number kind * 81)) f.valid (move_of-drop kind (code - FIRST_DROP - kind_number kind * 81) at.fits) at.legal least fails_low_by_threat
    (standing_quiet (after f.node.position (Drop kind (code - FIRST_DROP - kind_number kind * 81))) f.node.eval (at.guaranteed.0 at.legal)))

-- board moves that leave a threat and give no check leave the opponent its material and the threat's gain
pub threat_leaves : (f : Frame) (plain : resolves_captures f.node.eval ≡ false) (threat : Threat) (loss : ℤ) (pieces aside : ℕ) → IsThreatIn f.node.position f.node.eval threat → loss ≡ pos 0 -ℤ pos threat.gain → ((n : ℕ) → has_bit pieces n ≡ true → n ≢ threat.target) → AreNonInterfering threat true aside → MovesLeave f loss pieces aside 0
threat_leaves f plain threat loss pieces aside is gains others spared = λ from to promote hf ht piece set legal guaranteed.
    let shut : in_check (after f.node.position (Board from to promote)).cells (opponent_of f.node.position.side) ≡ false = guaranteed.1 refl legal in
    let takes : TakesAfter f.node.position f.node.eval (Board from to promote) threat.gain = threat_gain f.node.position f.node.eval plain (Board from to promote) threat.from threat.target threat.gain threat.promote f.valid (move_of-board from to promote hf ht) legal is.gains.is_threat is.gains.gain_is
    (others from piece, spared to _ ht set (λ _. refl) f.node.position f.node.eval (Board from to promote) is refl refl) in
    let least : _ = threat_left f.node.position f.node.eval (Board from to promote) threat.gain (threat_board f.node.position from to promote f.valid hf ht legal shut) (retake_unchecked f.node.position from to promote f.valid hf ht legal shut) takes in
    subst (λ (x : ℤ). LeavesAtLeast f x (Board from to promote)) (sym gains) least

-- drops that leave a threat and give no check leave the opponent its material and the threat's gain
pub drop_survived : (f : Frame) (plain : resolves_captures f.node.eval ≡ false) (threat : Threat) (loss : ℤ) (kind : Kind) (sliding : Bool) (aside squares c to : ℕ) → IsThreatIn f.node.position f.node.eval threat → loss ≡ pos 0 -ℤ pos threat.gain → AreNonInterfering threat sliding aside → (is_slider (dropped f.node.position.side kind) ≡ true → sliding ≡ true) → has_bit aside to ≡ true → IsDropAt f.node.position kind squares 0 c to
    → LeavesAtLeast f loss (Drop kind to)
drop_survived f plain threat loss kind sliding aside squares c to is gains spared slides set at =
    let shut : in_check (after f.node.position (Drop kind to)).cells (opponent_of f.node.position.side) ≡ false = at.guaranteed.1 refl at.legal in
    let takes : TakesAfter f.node.position f.node.eval (Drop kind to) threat.gain = threat_gain f.node.position f.node.eval plain (Drop kind to) threat.from threat.target threat.gain threat.promote f.valid (move_of-drop kind to at.fits) at.legal is.gains.is_threat is.gains.gain_is
    (spared to _ at.fits set slides f.node.position f.node.eval (Drop kind to) is refl refl) in
    let least : _ = threat_left f.node.position f.node.eval (Drop kind to) threat.gain (threat_drop f.node.position kind to f.valid at.fits shut) (retake_drop f.node.position kind to f.valid at.fits) takes in
    subst (λ (x : ℤ). LeavesAtLeast f x (Drop kind to)) (sym gains) least

-- a drop that gives no check on an attacked square leaves the opponent its material and the capture's gain
pub drop_retaken : (f : Frame) (plain : resolves_captures f.node.eval ≡ false) (loss : ℤ) (kind : Kind) (gain squares c to : ℕ) → gain ≡ taken_gain f.node.eval (dropped f.node.position.side kind) → loss ≡ pos 0 -ℤ pos gain → ∥ IsAttacked f.node.position to ∥₁ → IsDropAt f.node.position kind squares 0 c to → LeavesAtLeast f loss (Drop kind to)
drop_retaken f plain loss kind gain squares c to value gains attacked at =
    let shut : in_check (after f.node.position (Drop kind to)).cells (opponent_of f.node.position.side) ≡ false = at.guaranteed.1 refl at.legal in
    let takes : TakesAfter f.node.position f.node.eval (Drop kind to) gain = λ keeps retakes. ∥∥₁_elim attacked (Prim.hlevel props) (λ here. retake_gain f.node.position f.node.eval plain (Drop kind to) to gain f.valid (move_of-drop kind to at.fits) at.legal refl here value keeps retakes) in
    let least : _ = threat_left f.node.position f.node.eval (Drop kind to) gain (threat_drop f.node.position kind to f.valid at.fits shut) (retake_drop f.node.position kind to f.valid at.fits) takes in
    subst (λ (x : ℤ). LeavesAtLeast f x (Drop kind to)) (sym gains) least

-- drops that leave a threat fail low if its gain suffices, and so do drops on attacked squares
pub surviving_drops : (f : Frame) (plain : resolves_captures f.node.eval ≡ false) (threat : Threat) (loss : ℤ) (kind : Kind) (sliding : Bool) (aside first : ℕ) → f.depth ≡ 2 → IsThreatIn f.node.position f.node.eval threat → loss ≡ pos 0 -ℤ pos threat.gain → AreNonInterfering threat sliding aside → (is_slider (dropped f.node.position.side kind) ≡ true → sliding ≡ true) → DropFailsLow f kind first loss → DropsFailLow f kind aside 0 first
surviving_drops f plain threat loss kind sliding aside first last is gains spared slides short = λ code guaranteed.
    let at : _ = drop_at f.node.position kind aside 0 first code guaranteed in
    drop_worth f kind aside 0 first code _ loss last short guaranteed.above at (drop_survived f plain threat loss kind sliding aside aside code _ is gains spared slides at.set at)

pub taken_drops : (f : Frame) (plain : resolves_captures f.node.eval ≡ false) (threats : Threats) (loss : ℤ) (kind : Kind) (gain first : ℕ) → f.depth ≡ 2 → AreThreatsIn f.node.position f.node.eval threats → gain ≡ taken_gain f.node.eval (dropped f.node.position.side kind) → loss ≡ pos 0 -ℤ pos gain → DropFailsLow f kind first loss → DropsFailLow f kind threats.takes.bits 0 first
taken_drops f plain threats loss kind gain first last are value gains short = λ code guaranteed.
    let at : _ = drop_at f.node.position kind threats.takes.bits 0 first code guaranteed in
    drop_worth f kind threats.takes.bits 0 first code _ loss last short guaranteed.above at (drop_retaken f plain loss kind gain threats.takes.bits code _ value gains (are.takes _ at.fits at.set) at)

pub no_drops : (f : Frame) (kind : Kind) (squares escapes first : ℕ) → squares ≡ 0 → DropsFailLow f kind squares escapes first
no_drops f kind squares escapes first none = λ code guaranteed. absurd (both_ways (has_bit 0 (code - FIRST_DROP - kind_number kind * 81)) (has_bit-none (code - FIRST_DROP - kind_number kind * 81)) (subst (λ (mask : ℕ). has_bit mask (code - FIRST_DROP - kind_number kind * 81) ≡ true) none guaranteed.among))

-- drops that fail low on two sets of squares do so on their union
pub drops_of_either : (f : Frame) (kind : Kind) (a b escapes first : ℕ) → DropsFailLow f kind a escapes first → DropsFailLow f kind b escapes first → DropsFailLow f kind (bit_or a b) escapes first
drops_of_either f kind a b escapes first lost more = λ code k. elim (or_cases (has_bit a (code - FIRST_DROP - kind_number kind * 81)) (has_bit b (code - FIRST_DROP - kind_number kind * 81)) (sym (has_bit-or a b (code - FIRST_DROP - kind_number kind * 81)) ∙ k.among)) [
  | inl one ↦ lost code (record { above = k.above; low = k.low; high = k.high; among = one; legal = k.legal; leaves = k.leaves })
  | inr other ↦ more code (record { above = k.above; low = k.low; high = k.high; among = other; legal = k.legal; leaves = k.leaves })
]

pub no_escapes : (p : Shogi) → AreEscapes p 0
no_escapes p = λ k e hk king he among. absurd (both_ways (has_bit 0 e) (has_bit-none e) among)

-- ---- frames that keep a node

pub same_again : (f g h : Frame) → IsSame f g → IsSame g h → IsSame f h
same_again f g h s t = (t.0 ∙ s.0, (t.1.0 ∙ s.1.0, (t.1.1.0 ∙ s.1.1.0, t.1.1.1 ∙ s.1.1.1)))

-- a reply cache stays true in a frame of the same node
pub same_at : (f g : Frame) (cache : ReplyCache) → IsSame f g → IsPreFrontier f cache → IsPreFrontier g cache
same_at f g cache s at = (s.1.0 ∙ at.0, subst (λ (n : Evaluated). IsReplyCacheOf n cache) (sym s.0) at.1)

-- a move that fails low does so in a frame that keeps the moves
pub lost_kept : (f g : Frame) (m : Move) → KeepsMoves f g → IsLost f m → IsLost g m
lost_kept f g m k lost =
    let same : worth_of g m ≡ worth_of f m =
    ap (λ (n : Evaluated). worth n.position n.eval (g.depth - 1) (code_of m)) k.0.0
    ∙ ap (λ (d : ℕ). worth f.node.position f.node.eval (d - 1) (code_of m)) k.0.1.0 in
    let most : move_alpha_of g m ≡ move_alpha_of f m =
    ap (λ (v : ℤ). move_alpha v (code_at g.best_move) (code_of m)) k.1.1.1.0
    ∙ ap (λ (b : Option Move). move_alpha f.best_value (code_at b) (code_of m)) k.1.1.1.1 in
    subst (λ (x : ℤ). worth_of g m ≤ℤ x) (sym most)
    (subst (λ (x : ℤ). x ≤ℤ move_alpha_of f m) (sym same) lost)

-- picking the next move keeps what is known of a node
pub asked_known : (f : Frame) (m : Move) (picker : MovePicker) → f.state ≡ Expanding
    → todo f.node.position f.picker ≡ code_of m ∷ todo f.node.position picker
    → IsKnownWhile f.node.position f.node.eval f.depth f.alpha f.beta f.best_value (code_at f.best_move) (todo f.node.position picker) (AwaitingChild m)
asked_known f m picker next codes = rw (← codes) (known_next f next)

-- a picker with equal moves to visit keeps what is known of a node
pub turned_known : (f : Frame) (picker : MovePicker) → todo f.node.position picker ≡ todo f.node.position f.picker
    → IsKnownWhile f.node.position f.node.eval f.depth f.alpha f.beta f.best_value (code_at f.best_move) (todo f.node.position picker) f.state
turned_known f picker codes = rw codes f.known

-- a picker with equal moves to visit leaves no more steps than before
pub turned_left : (f : Frame) (picker : MovePicker) → todo f.node.position picker ≡ todo f.node.position f.picker
    → 1 + 2 * sum_of_tree_sizes f.node.position (f.depth - 1) (todo f.node.position picker) ≤ left_of_frame f
turned_left f picker codes = omega (arith, ap (sum_of_tree_sizes f.node.position (f.depth - 1)) codes)

-- picking a move takes the steps for its tree off those left
pub asked_left : (f : Frame) (m : Move) (picker : MovePicker)
    → todo f.node.position f.picker ≡ code_of m ∷ todo f.node.position picker
    → steps_after f m + (1 + 2 * sum_of_tree_sizes f.node.position (f.depth - 1) (todo f.node.position picker)) ≤ left_of_frame f
asked_left f m picker codes = omega (arith, sum_of_tree_sizes-next f.node.position (f.depth - 1) (code_of m) (after_code f.node.position (code_of m)) (todo f.node.position f.picker) (todo f.node.position picker) refl codes)

pub prunes_again : (f g h : Frame) → PrunesFiltered f g → PrunesFiltered g h → PrunesFiltered f h
prunes_again f g h r s = (same_again f g h r.0 s.0, (s.1.0 ∙ r.1.0, omega (arith, r.1.1, s.1.1)))
