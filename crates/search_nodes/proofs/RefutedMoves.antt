-- What a node that is cut off says of the move that led to it, and what that says of other nodes.
use Rattle.std.proofs.Common.{◌≡◌, ℕ, ℤ, ◌+◌, ◌-◌, ◌<◌, ◌≤ℤ◌, true, Some, sym, ap, subst, ◌∙◌, arith}
use Rattle.shogi_core.specs.declared.moves.Move.{Move}
use Rattle.shogi_core.specs.Codes.{code_of, move_of}
use Rattle.shogi_core.specs.Position.{Shogi}
use Rattle.shogi_moves.specs.After.{after}
use Rattle.shogi_moves.specs.Legal.{is_legal}
use Rattle.shogi_moves.specs.LegalMoves.{legal_codes}
use Rattle.shogi_moves.specs.Rising.{is_in}
use Rattle.shogi_moves.proofs.LegalLaws.{after_code_of, listed_to_legal}
use Rattle.shogi_eval.specs.declared.eval.Eval.{Eval}
use Rattle.minimax.specs.Minimax.{negated, worth}
use Rattle.minimax.specs.Window.{code_at}
use Rattle.commuting_moves.specs.declared.Refutation.{Refutation}
use Rattle.commuting_moves.specs.declared.refuted_moves.RefutedMoves.{RefutedMoves}
use Rattle.commuting_moves.specs.Refuted.{AreRefuted, IsRefuted}
use Rattle.analogous_moves.specs.declared.moves.AnalogousMoves.{AnalogousMoves}
use Rattle.analogous_moves.specs.Analogies.{AreAnalogous}
use Rattle.search_nodes.specs.declared.pairs.Refutations.{Refutations}
use Rattle.search_nodes.specs.declared.pairs.Refutations.TheVariants.{Analogous, Pairs}
use Rattle.search_nodes.specs.Pairs.{AreRefutations}
use Rattle.commuting_moves.proofs.Worth.{refuted_by}
use Rattle.search_nodes.specs.declared.frame.Frame.{Frame}
use Rattle.search_nodes.specs.declared.frame.NodeState.{NodeState}
use Rattle.search_nodes.specs.declared.frame.NodeState.TheVariants.{AwaitingChild, CutOff}
use Rattle.search_nodes.specs.Frames.{IsLost, move_alpha_of, position_after}
use Rattle.search_nodes.specs.Refuted.{IsRefutedAfter, IsRefutedAt, Refutes}
use Rattle.search_nodes.specs.Order.{todo}
use Rattle.search_nodes.specs.Visits.{IsKnownWhile}
use Rattle.search_nodes.proofs.Nodes.{asked, waits}

-- analogous moves that were found are analogous
pub found_analogous : (p : Shogi) (e : Eval) (d : ℕ) (found : Refutations) (analogous : AnalogousMoves) → found ≡ Analogous analogous → AreRefutations p e d found → AreAnalogous p e d analogous
found_analogous p e d found analogous is h = subst (λ (x : Refutations). AreRefutations p e d x) is h

-- moves that are kept are refuted, with two plies less
pub found_kept : (p : Shogi) (e : Eval) (d : ℕ) (found : Refutations) (kept : RefutedMoves) → found ≡ Pairs kept → AreRefutations p e d found → AreRefuted p e (d - 2) kept
found_kept p e d found kept is h = subst (λ (x : Refutations). AreRefutations p e d x) is h

-- the move that cut the node off is legal there and worth so much
reached_by : (f : Frame) (v : ℤ) (r : Move) → f.state ≡ CutOff v → f.best_move ≡ Some r → (is_in (code_of r) (legal_codes f.node.position) ≡ true) × (v ≤ℤ worth f.node.position f.node.eval (f.depth - 1) (code_of r))
reached_by f v r cut best =
    let known : IsKnownWhile f.node.position f.node.eval f.depth f.alpha f.beta f.best_value (code_at f.best_move) (todo f.node.position f.picker) (CutOff v) = subst (λ (w : NodeState). IsKnownWhile f.node.position f.node.eval f.depth f.alpha f.beta f.best_value (code_at f.best_move) (todo f.node.position f.picker) w) cut f.known in
    known.1.1 (code_of r) (ap code_at best)

pub refutes : (f : Frame) (v : ℤ) (r : Move) → 1 < f.depth → f.state ≡ CutOff v → f.best_move ≡ Some r → move_of (code_of r) ≡ Some r → Refutes f (record { reply = r; bound = negated v })
refutes f v r deep cut best back p x lx at =
    let by = reached_by f v r cut best in
    refuted_by p f.node.eval (f.depth - 1) x r v back (omega arith) lx
    (subst (λ (q : Shogi). is_in (code_of r) (legal_codes q) ≡ true) at by.0)
    (subst (λ (q : Shogi). v ≤ℤ worth q f.node.eval (f.depth - 1) (code_of r)) at by.1)

-- ---- on the stack

-- a move that a node waits for is legal there
asked_legal : (f : Frame) (m : Move) → f.state ≡ AwaitingChild m → move_of (code_of m) ≡ Some m → is_legal f.node.position m ≡ true
asked_legal f m at back = listed_to_legal f.node.position m back (waits _ _ _ _ _ _ _ _ f.state m (asked f.state m at) f.known).is_listed

-- what the child that was cut off says of the move is what its parent may keep
pub refuted_at : (f g : Frame) (x : Move) (found : Refutation) → f.state ≡ AwaitingChild x → move_of (code_of x) ≡ Some x → g.node.position ≡ position_after f x → g.node.eval ≡ f.node.eval → g.depth ≡ f.depth - 1 → Refutes g found → IsRefutedAt f x found
refuted_at f g x found at back first same less refuted =
    let r : IsRefuted f.node.position g.node.eval (g.depth - 1) x found.reply found.bound = refuted f.node.position x (asked_legal f x at back) (first ∙ after_code_of f.node.position x back) in
    let depth : g.depth - 1 ≡ f.depth - 2 = omega (arith, less) in
    subst (λ (n : ℕ). IsRefuted f.node.position f.node.eval n x found.reply found.bound) depth
    (subst (λ (e : Eval). IsRefuted f.node.position e (g.depth - 1) x found.reply found.bound) same r)

-- a node f waits for m, its child g for the reply r, and the child h of g for x:
pub lost_on_stack : (f g h : Frame) (m r x : Move) → f.state ≡ AwaitingChild m → g.state ≡ AwaitingChild r → h.state ≡ AwaitingChild x
    → move_of (code_of m) ≡ Some m → move_of (code_of r) ≡ Some r → move_of (code_of x) ≡ Some x
    → g.node.position ≡ position_after f m → h.node.position ≡ position_after g r → h.node.eval ≡ f.node.eval → h.depth + 2 ≡ f.depth → 1 < h.depth
    → IsRefutedAfter f m r x (move_alpha_of h x) → IsLost h x
lost_on_stack f g h m r x at_f at_g at_h back_m back_r back_x first second eval less deep refuted =
    let one : g.node.position ≡ after f.node.position m = first ∙ after_code_of f.node.position m back_m in
    let two : h.node.position ≡ after (after f.node.position m) r = second ∙ after_code_of g.node.position r back_r ∙ ap (λ (q : Shogi). after q r) one in
    let low : worth (after (after f.node.position m) r) f.node.eval (f.depth - 3) (code_of x) ≤ℤ move_alpha_of h x = refuted (omega (arith, less, deep))
    (record {
      first = asked_legal f m at_f back_m;
      reply = subst (λ (q : Shogi). is_legal q r ≡ true) one (asked_legal g r at_g back_r);
      last = subst (λ (q : Shogi). is_legal q x ≡ true) two (asked_legal h x at_h back_x);
    }) in
    let depth : f.depth - 3 ≡ h.depth - 1 = omega (arith, less) in
    subst (λ (n : ℕ). worth h.node.position h.node.eval n (code_of x) ≤ℤ move_alpha_of h x) depth
    (subst (λ (e : Eval). worth h.node.position e (f.depth - 3) (code_of x) ≤ℤ move_alpha_of h x) (sym eval)
    (subst (λ (q : Shogi). worth q f.node.eval (f.depth - 3) (code_of x) ≤ℤ move_alpha_of h x) (sym two) low))
