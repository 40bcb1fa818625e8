use Rattle.std.proofs.Common.{◌≡◌, ◌≤ℤ◌, ◌+ℤ◌, ℤ, pos, ℕ, ◌<◌, Bool, true, false, rules, FitsSigned, w32, sym, ap, subst, ◌∙◌, arith}
use Rattle.std.proofs.lemmas.Int.{ints, to_z-of_z}
use mir.Val.{to_z, of_z}
use Rattle.shogi_core.specs.Attack.{in_check}
use Rattle.shogi_core.specs.Bits.{has_bit}
use Rattle.shogi_core.specs.Movement.{Cells}
use Rattle.shogi_core.specs.Position.{Shogi}
use Rattle.shogi_core.specs.Validity.{IsValid}
use Rattle.shogi_moves.specs.After.{after}
use Rattle.shogi_moves.specs.Legal.{is_legal}
use Rattle.shogi_eval.specs.Evaluated.{Evaluated}
use Rattle.shogi_eval.specs.Material.{material_of}
use Rattle.minimax.specs.Minimax.{lost_value}
use Rattle.analogous_moves.specs.Analogies.{AreAnalogous, ReplySuffices, after_reply, drops_of, passed}
use Rattle.analogous_moves.specs.PassedReplies.{KingHasRepliesEachLifted, IsOwnIn, place_in, with_cells}
use Rattle.analogous_moves.proofs.AnalogyLaws.{all_analogous, own_stays, replied_analogous, replied_quiets, spared_among}
use Rattle.analogous_moves.proofs.Passing.{passed_valid}
use Rattle.analogous_moves.proofs.PassedReplyLaws.{off_left, off_right}
use Rattle.analogous_moves.proofs.Sets.{out_parts}
use Rattle.analogous_moves.proofs.moves.AnalogousMoves.of.Goals as goal

pub of_valid-passed-requires : goal.of_valid-passed-requires
of_valid-passed-requires c =
    let unchecked : in_check c.args.node.now.position.cells c.args.node.now.position.side ≡ false = rw c.as_position-p.ensures at (sym c.in_check.ensures ∙ c.if-in_check.false) in
    let v : IsValid c.args.node.now.position = rw c.as_position-p.ensures at c.reveal_invariant.ensures in
    rw (c.board.ensures, c.hands.ensures, c.opponent.ensures, c.side.ensures, c.as_position-p.ensures) (passed_valid c.args.node.now.position v unchecked).no_fault

pub unthreatening_ends-ends-requires : goal.unthreatening_ends-ends-requires
unthreatening_ends-ends-requires c =
    let away : c.of_valid-passed.result ≡ passed c.args.node.now.position = rw (c.board.ensures, c.hands.ensures, c.opponent.ensures, c.side.ensures, c.as_position-p.ensures) at c.of_valid-passed.ensures in
    let there : c.in_ok-replied.replied.node.position ≡ after_reply c.args.node.now.position c.args.reply = ap (λ (n : Evaluated). n.position) c.in_ok-replied.ensures.node ∙ (c.advance.ensures.after ∙ ap (λ (q : Shogi). after q c.args.reply) (c.of-next.ensures.position ∙ away)) in
    let is : place_in c.in_ok-replied.replied ≡ after_reply c.args.node.now.position c.args.reply = ap (λ (cells : Cells). with_cells c.in_ok-replied.replied.node.position cells) (c.in_ok-replied.ensures.board ∙ ap (λ (n : Evaluated). n.position.cells) (sym c.in_ok-replied.ensures.node)) ∙ there in
    let out : (a : ℕ) → a < 81 → has_bit c.without-pieces.result.bits a ≡ true → (has_bit c.own.result.bits a ≡ true) × (has_bit c.bitor-2.result.bits a ≡ false) = λ a h set. out_parts c.own.result.bits c.bitor-2.result.bits a c.bitor-2.result.fits h (rw c.without-pieces.ensures at set) in
    let apart : (a : ℕ) → a < 81 → has_bit c.without-pieces.result.bits a ≡ true → has_bit c.squares_touched-touched.result.bits a ≡ false = λ a h set. off_left c.squares_touched-touched.result.bits c.in_ok-relied.relied.pieces.bits a (rw c.bitor-2.ensures at (out a h set).1) in
    let loose : (a : ℕ) → a < 81 → has_bit c.without-pieces.result.bits a ≡ true → has_bit c.in_ok-relied.relied.pieces.bits a ≡ false = λ a h set. off_right c.squares_touched-touched.result.bits c.in_ok-relied.relied.pieces.bits a (rw c.bitor-2.ensures at (out a h set).1) in
    let mine : (a : ℕ) → a < 81 → has_bit c.without-pieces.result.bits a ≡ true → IsOwnIn c.in_ok-replied.replied a = λ a h set. own_stays c.args.node.now.position (place_in c.in_ok-replied.replied) c.args.reply a is (c.squares_touched-touched.ensures.spared a h (apart a h set)).0 (sym ((rw (c.side-2.ensures, c.as_board-2.ensures, c.as_position-p.ensures) at c.own.ensures.squares) a h) ∙ (out a h set).0) in
    let lifts : KingHasRepliesEachLifted c.in_ok-replied.replied c.without-pieces.result.bits = λ a h set. (c.in_ok-relied.ensures.relied.no_threats a h (mine a h set) (loose a h set)).king_replies in
    record { king_replies = lifts }

pub returns-clause-analogous : goal.returns-clause-analogous
returns-clause-analogous c =
    let unchecked : in_check c.args.node.now.position.cells c.args.node.now.position.side ≡ false = rw c.as_position-p.ensures at (sym c.in_check.ensures ∙ c.if-in_check.false) in
    let v : IsValid c.args.node.now.position = rw c.as_position-p.ensures at c.reveal_invariant.ensures in
    let away : c.of_valid-passed.result ≡ passed c.args.node.now.position = rw (c.board.ensures, c.hands.ensures, c.opponent.ensures, c.side.ensures, c.as_position-p.ensures) at c.of_valid-passed.ensures in
    let there : c.in_ok-replied.replied.node.position ≡ after_reply c.args.node.now.position c.args.reply = ap (λ (n : Evaluated). n.position) c.in_ok-replied.ensures.node ∙ (c.advance.ensures.after ∙ ap (λ (q : Shogi). after q c.args.reply) (c.of-next.ensures.position ∙ away)) in
    let is : place_in c.in_ok-replied.replied ≡ after_reply c.args.node.now.position c.args.reply = ap (λ (cells : Cells). with_cells c.in_ok-replied.replied.node.position cells) (c.in_ok-replied.ensures.board ∙ ap (λ (n : Evaluated). n.position.cells) (sym c.in_ok-replied.ensures.node)) ∙ there in
    let out : (a : ℕ) → a < 81 → has_bit c.without-pieces.result.bits a ≡ true → (has_bit c.own.result.bits a ≡ true) × (has_bit c.bitor-2.result.bits a ≡ false) = λ a h set. out_parts c.own.result.bits c.bitor-2.result.bits a c.bitor-2.result.fits h (rw c.without-pieces.ensures at set) in
    let apart : (a : ℕ) → a < 81 → has_bit c.without-pieces.result.bits a ≡ true → has_bit c.squares_touched-touched.result.bits a ≡ false = λ a h set. off_left c.squares_touched-touched.result.bits c.in_ok-relied.relied.pieces.bits a (rw c.bitor-2.ensures at (out a h set).1) in
    let loose : (a : ℕ) → a < 81 → has_bit c.without-pieces.result.bits a ≡ true → has_bit c.in_ok-relied.relied.pieces.bits a ≡ false = λ a h set. off_right c.squares_touched-touched.result.bits c.in_ok-relied.relied.pieces.bits a (rw c.bitor-2.ensures at (out a h set).1) in
    let mine : (a : ℕ) → a < 81 → has_bit c.without-pieces.result.bits a ≡ true → IsOwnIn c.in_ok-replied.replied a = λ a h set. own_stays c.args.node.now.position (place_in c.in_ok-replied.replied) c.args.reply a is (c.squares_touched-touched.ensures.spared a h (apart a h set)).0 (sym ((rw (c.side-2.ensures, c.as_board-2.ensures, c.as_position-p.ensures) at c.own.ensures.squares) a h) ∙ (out a h set).0) in
    let alike : c.in_ok-replied.replied.node.eval ≡ c.args.node.now.eval = ap (λ (n : Evaluated). n.eval) c.in_ok-replied.ensures.node ∙ (c.advance.ensures.eval ∙ (c.of-next.ensures.eval ∙ c.eval-2.ensures)) in
    let told : ReplySuffices c.in_ok-replied.replied.quiet_only c.args.node.now.eval c.args.depth = subst (λ (b : Bool). ReplySuffices b c.args.node.now.eval c.args.depth) (sym c.in_ok-replied.ensures.quiet_only) (rw c.eval.ensures at c.needs_quiet-quiet_only.ensures) in
    let lr : is_legal (passed c.args.node.now.position) c.args.reply ≡ true = rw away at (sym c.is_legal.ensures.value ∙ c.if-not-is_legal.false) in
    let fits : FitsSigned w32 c.args.most = search rules in
    let same = to_z-of_z w32 c.args.most fits in
    let low : lost_value 1 ≤ℤ c.args.most = omega (arith, ints, c.if-most.false, same) in
    let before : (material_of c.in_ok-replied.replied.node.position c.in_ok-replied.replied.node.eval +ℤ pos c.in_ok-replied.replied.gains) ≤ℤ c.args.most = subst (λ (t : ℤ). (material_of c.in_ok-replied.replied.node.position c.in_ok-replied.replied.node.eval +ℤ pos c.in_ok-replied.replied.gains) ≤ℤ t) same (subst (λ (n : Evaluated). (material_of n.position n.eval +ℤ pos c.in_ok-replied.replied.gains) ≤ℤ to_z w32 (of_z w32 c.args.most)) (sym c.in_ok-replied.ensures.node) c.in_ok-replied.ensures.room) in
    let room : (material_of (place_in c.in_ok-replied.replied) c.in_ok-replied.replied.node.eval +ℤ pos c.in_ok-replied.replied.gains) ≤ℤ c.args.most = subst (λ (q : Shogi). (material_of q c.in_ok-replied.replied.node.eval +ℤ pos c.in_ok-replied.replied.gains) ≤ℤ c.args.most) (there ∙ sym is) before in
    subst (λ (t : ℤ). AreAnalogous c.args.node.now.position c.args.node.now.eval c.args.depth (record { most = t; drops = c.unthreatening_drops-drops.result; pieces = c.without-pieces.result; ends = c.unthreatening_ends-ends.result })) (sym same) (all_analogous c.args.node.now.position c.args.node.now.eval c.args.depth (record { most = c.args.most; drops = c.unthreatening_drops-drops.result; pieces = c.without-pieces.result; ends = c.unthreatening_ends-ends.result })
    (λ kind. replied_analogous c.in_ok-replied.replied.quiet_only c.args.depth c.args.node.now.position (place_in c.in_ok-replied.replied) c.args.node.now.eval c.in_ok-replied.replied.node.eval kind c.args.reply c.in_ok-replied.replied.gains c.in_ok-replied.replied.king c.in_ok-replied.replied.squares.bits c.in_ok-relied.relied.empty.bits c.args.most (drops_of c.unthreatening_drops-drops.result kind).bits
    told is alike v unchecked c.squares_touched-touched.ensures.on_board lr (sym c.drops_pawn.ensures ∙ c.if-drops_pawn.false)
    (spared_among c.args.reply c.in_ok-relied.relied.empty.bits c.squares_touched-touched.result.bits c.bitor.result.bits c.free.result.bits c.without-free.result.bits (drops_of c.unthreatening_drops-drops.result kind).bits c.squares_touched-touched.ensures.spared c.bitor.ensures c.bitor.result.fits c.without-free.ensures (c.unthreatening_drops-drops.ensures.among kind))
    c.in_ok-relied.ensures.no_threats low room (c.unthreatening_drops-drops.ensures.unthreatening kind))
    (replied_quiets c.in_ok-replied.replied.quiet_only c.args.depth c.args.node.now.position (place_in c.in_ok-replied.replied) c.args.node.now.eval c.in_ok-replied.replied.node.eval c.args.reply c.in_ok-replied.replied.gains c.in_ok-replied.replied.king c.in_ok-replied.replied.squares.bits c.in_ok-relied.relied.empty.bits c.args.most c.without-pieces.result.bits c.unthreatening_ends-ends.result.bits
    told is alike v unchecked c.squares_touched-touched.ensures.on_board lr (sym c.drops_pawn.ensures ∙ c.if-drops_pawn.false)
    (spared_among c.args.reply c.in_ok-relied.relied.empty.bits c.squares_touched-touched.result.bits c.bitor.result.bits c.free.result.bits c.without-free.result.bits c.unthreatening_ends-ends.result.bits c.squares_touched-touched.ensures.spared c.bitor.ensures c.bitor.result.fits c.without-free.ensures c.unthreatening_ends-ends.ensures.among)
    c.in_ok-relied.ensures.no_threats low room (λ a h set. (c.squares_touched-touched.ensures.spared a h (apart a h set)).0) (λ a h set. c.in_ok-relied.ensures.relied.off_open_lines a h (loose a h set))
    (λ a h set. c.in_ok-relied.ensures.relied.no_threats a h (mine a h set) (loose a h set)) (rw c.as_position-p.ensures at c.unthreatening_ends-ends.ensures.unthreatening)))
