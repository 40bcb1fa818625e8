-- Lower bounds of a position's value with one ply left, for a side with a legal move.
use Rattle.std.proofs.Common.{◌≡◌, ◌≢◌, ◌<◌, ◌-◌, ◌/◌, ◌%◌, ◌==◌, ◌+◌, ℕ, ℤ, pos, ◌-ℤ◌, ◌+ℤ◌, ◌≤ℤ◌, List, [], ◌∷◌, Bool, true, false, cond, filter, Option, Some, None, inl, inr, refl, sym, ap, ◌∙◌, arith, subst, set, get_or-set_other}
use Rattle.std.proofs.lemmas.Int.{ints}
use Rattle.std.proofs.lemmas.Bool.{both_ways, or_left, or_right, cond_both, eq-eqb, cases_lt}
use Rattle.shogi_core.specs.declared.moves.TheConstants.{FIRST_DROP, MOVE_CODE_COUNT}
use Rattle.shogi_core.specs.declared.moves.Move.{Move}
use Rattle.shogi_core.specs.declared.moves.Move.TheVariants.{Board, Drop}
use Rattle.shogi_core.specs.declared.piece.Kind.{Kind}
use Rattle.shogi_core.specs.declared.piece.Piece.{Piece}
use Rattle.shogi_core.specs.Codes.{move_of, code_of, kind_at}
use Rattle.shogi_core.specs.Cell.{is_piece_of}
use Rattle.shogi_core.specs.Movement.{piece_at}
use Rattle.shogi_core.specs.Pieces.{opponent_of}
use Rattle.shogi_core.specs.Position.{Shogi}
use Rattle.shogi_core.specs.Validity.{IsValid}
use Rattle.shogi_core.proofs.CodesBack.{move_of-board}
use Rattle.shogi_moves.specs.After.{after, after_code, dropped, piece_moved}
use Rattle.shogi_moves.specs.Legal.{is_legal}
use Rattle.shogi_moves.specs.LegalMoves.{legal_codes}
use Rattle.shogi_moves.specs.Rising.{is_in}
use Rattle.shogi_replies.specs.ReplyInfo as replies
use Rattle.shogi_replies.specs.ReplyInfo.{is_quiet_code, quiet_codes}
use Rattle.shogi_core.specs.Moves.{end_of}
use Rattle.shogi_replies.specs.Threats.{IsAttack, IsTaken, IsThreat, KeepsThreats, LeavesThreat, MayRetake, MayTake, put_by}
use Rattle.shogi_moves.proofs.CheckInfoLaws.{other_side}
use Rattle.shogi_moves.proofs.Keeps.{is_safe_from_legal}
use Rattle.shogi_moves.proofs.KeepsDrop.{safe_drop}
use Rattle.shogi_replies.proofs.ReplyLaws.{legal_own, other_counts, quiet_legal}
use Rattle.shogi_moves.proofs.LegalLaws.{legal_in, legal_code_below, is_legal_code_of, after_code_at, after_code_of, legal_to_listed}
use Rattle.shogi_eval.specs.declared.eval.Eval.{Eval}
use Rattle.shogi_eval.specs.Material.{material_of, drop_gain, taken_gain, promotion_gain}
use Rattle.shogi_eval.proofs.Gains.{material_after_board, material_after_drop}
use Rattle.shogi_eval.specs.Exchange.{resolves_captures, leaf_after, is_quiet}
use Rattle.minimax.proofs.Settling.{IsBounded, left_bounded, left_plain, left_quiet}
use Rattle.shogi_eval.specs.Losses.{LosesAtMost}
use Rattle.search_nodes.specs.Frames.{standing_codes}
use Rattle.search_nodes.specs.Threats.{IsAttacked, TakesAfter}
use Rattle.minimax.specs.Minimax.{value, worth, ended, negated, if_no_move_else, lost_value}
use Rattle.minimax.proofs.MinimaxLaws.{cut}
use Rattle.minimax.proofs.Valid.{after_valid, board_of, drop_of}

-- a move changes nothing in the opponent's hand, so the opponent's drops cost no more after it
loses_after : (p : Shogi) (e : Eval) (loss : ℤ) (m : Move) → LosesAtMost p.hands (opponent_of p.side) e loss → LosesAtMost (after p m).hands (opponent_of p.side) e loss
loses_after p e loss m h kind held = h kind (subst (λ (n : ℕ). 0 < n) (other_counts p m kind) held)

-- a legal board move, drop or code keeps its side's material, less what a drop may cost
board_left : (q : Shogi) (e : Eval) (loss : ℤ) (from to : ℕ) (promote : Bool) → IsValid q → pos 0 ≤ℤ loss → from < 81 → to < 81 → is_legal q (Board from to promote) ≡ true → material_of (after q (Board from to promote)) e ≤ℤ negated (material_of q e -ℤ loss)
board_left q e loss from to promote v h f t l =
    let law : material_of (after q (Board from to promote)) e ≡ pos 0 -ℤ (material_of q e +ℤ pos (taken_gain e (piece_at q.cells to) + promotion_gain promote (piece_at q.cells from))) = material_after_board q e from to promote v f t l in
    omega (arith, ints, law, h)

drop_left : (q : Shogi) (e : Eval) (loss : ℤ) (kind : Kind) (to : ℕ) → IsValid q → LosesAtMost q.hands q.side e loss → to < 81 → is_legal q (Drop kind to) ≡ true → material_of (after q (Drop kind to)) e ≤ℤ negated (material_of q e -ℤ loss)
drop_left q e loss kind to v h t l =
    let law : material_of (after q (Drop kind to)) e ≡ pos 0 -ℤ (material_of q e +ℤ drop_gain e kind) = material_after_drop q e kind to v t l in
    let least : negated loss ≤ℤ drop_gain e kind = h kind (safe_drop q kind to (is_safe_from_legal q (Drop kind to) l)).held_one in
    omega (arith, ints, law, least)

move_left : (q : Shogi) (e : Eval) (loss : ℤ) (code : ℕ) (m : Move) → is_in code (legal_codes q) ≡ true → move_of code ≡ Some m → (is_legal q m ≡ true → material_of (after q m) e ≤ℤ negated (material_of q e -ℤ loss)) → material_of (after_code q code) e ≤ℤ negated (material_of q e -ℤ loss)
move_left q e loss code m i is h = subst (λ (r : Shogi). material_of r e ≤ℤ negated (material_of q e -ℤ loss)) (sym (after_code_at q code m is)) (h (sym (is_legal_code_of q code m is) ∙ legal_in q 0 code i))

pub reply_left : (q : Shogi) (e : Eval) (loss : ℤ) (code : ℕ) → IsValid q → pos 0 ≤ℤ loss → LosesAtMost q.hands q.side e loss → is_in code (legal_codes q) ≡ true → material_of (after_code q code) e ≤ℤ negated (material_of q e -ℤ loss)
reply_left q e loss code v h l i =
    let below : code < MOVE_CODE_COUNT = legal_code_below q code (legal_in q 0 code i) in
    elim (cases_lt code FIRST_DROP) [
      | inl low ↦ move_left q e loss code _ i (board_of code low) (board_left q e loss (code / 2 / 81) (code / 2 % 81) (code % 2 == 1) v h (omega arith) (omega arith))
      | inr high ↦ move_left q e loss code _ i (drop_of code high below) (drop_left q e loss (kind_at ((code - FIRST_DROP) / 81)) ((code - FIRST_DROP) % 81) v l (omega arith))
    ]

-- a leaf is worth at most its material
leaf_most : (moves : List ℕ) (v : ℤ) → negated (pos 30000) ≤ℤ v → if_no_move_else (lost_value 0) v moves ≤ℤ v
leaf_most [] v h = omega (arith, ints)
leaf_most (m ∷ ms) v h = omega (arith, ints)

-- with one ply left, a side is worth at least the material after any legal move that is not settled
value_reply : (q : Shogi) (e : Eval) (code : ℕ) → IsValid q → is_in code (legal_codes q) ≡ true → leaf_after q e code ≡ material_of (after_code q code) e → negated (material_of (after_code q code) e) ≤ℤ value q e 1
value_reply q e code v i left =
    let leaf : ended q e code ≤ℤ leaf_after q e code = leaf_most (legal_codes (after_code q code)) (leaf_after q e code) (let b : IsBounded (leaf_after q e code) = left_bounded q e code (after_valid q code v i) in omega (arith, ints, b.least)) in
    cut q e 1 code (negated (material_of (after_code q code) e)) (omega arith) i (omega (arith, ints, left, leaf))

-- with one ply left, a side that may capture a piece is worth at least its material and the gain
value_taking : (q : Shogi) (e : Eval) (plain : resolves_captures e ≡ false) (a t : ℕ) (promote : Bool) (cell : Option Piece) → IsValid q → a < 81 → t < 81 → MayTake q a t promote cell → (material_of q e +ℤ pos (taken_gain e cell + promotion_gain promote (piece_at q.cells a))) ≤ℤ value q e 1
value_taking q e plain a t promote cell v ha ht may =
    let back : move_of (code_of (Board a t promote)) ≡ Some (Board a t promote) = move_of-board a t promote ha ht in
    let law : material_of (after q (Board a t promote)) e ≡ pos 0 -ℤ (material_of q e +ℤ pos (taken_gain e (piece_at q.cells t) + promotion_gain promote (piece_at q.cells a))) = material_after_board q e a t promote v ha ht may.legal in
    let gain : taken_gain e (piece_at q.cells t) ≡ taken_gain e cell = ap (taken_gain e) may.stands in
    let made : material_of (after_code q (code_of (Board a t promote))) e ≡ material_of (after q (Board a t promote)) e = ap (λ (r : Shogi). material_of r e) (after_code_of q (Board a t promote) back) in
    let worth_so : negated (material_of (after_code q (code_of (Board a t promote))) e) ≤ℤ value q e 1 = value_reply q e (code_of (Board a t promote)) v (legal_to_listed q (Board a t promote) back may.legal) (left_plain q e (code_of (Board a t promote)) plain) in
    omega (arith, ints, law, gain, made, worth_so)

-- a legal move leaves a valid position
valid_after : (p : Shogi) (m : Move) → IsValid p → move_of (code_of m) ≡ Some m → is_in (code_of m) (legal_codes p) ≡ true → IsValid (after p m)
valid_after p m v back i = subst IsValid (after_code_of p m back) (after_valid p (code_of m) v i)

-- a move leaves the opponent's pieces as they are, except on its destination
kept_at : (p : Shogi) (m : Move) (a : ℕ) → is_legal p m ≡ true → is_piece_of (opponent_of p.side) (piece_at p.cells a) ≡ true → a ≢ end_of m → piece_at (after p m).cells a ≡ piece_at p.cells a
kept_at p (Board from to promote) a legal theirs off =
    let apart : a ≢ from = λ (same : a ≡ from). both_ways (is_piece_of (opponent_of p.side) (piece_at p.cells from)) (other_side p.side (piece_at p.cells from) (legal_own p from to promote legal)) (subst (λ (y : ℕ). is_piece_of (opponent_of p.side) (piece_at p.cells y) ≡ true) same theirs) in
    get_or-set_other (set p.cells from None) to a (piece_moved promote (piece_at p.cells from)) None off ∙ get_or-set_other p.cells from a None None apart
kept_at p (Drop kind to) a legal theirs off = get_or-set_other p.cells to a (dropped p.side kind) None off

-- a move that leaves a threat does not end on its attacker
attacker_off : (p : Shogi) (m : Move) (a t : ℕ) → LeavesThreat p a t m → a ≢ end_of m
attacker_off p (Board from to promote) a t leaves same = leaves.1.attacker_stays (sym same)
attacker_off p (Drop kind to) a t leaves same = leaves.attacker_stays (sym same)

-- a threat that stands after the move still gains as much
pub threat_gain : (p : Shogi) (e : Eval) (plain : resolves_captures e ≡ false) (m : Move) (a t gain : ℕ) (promote : Bool) → IsValid p → move_of (code_of m) ≡ Some m → is_legal p m ≡ true → IsThreat p a t promote → gain ≡ taken_gain e (piece_at p.cells t) + promotion_gain promote (piece_at p.cells a) → LeavesThreat p a t m → TakesAfter p e m gain
threat_gain p e plain m a t gain promote v back legal threat is leaves = λ keeps retakes.
    let valid : IsValid (after p m) = valid_after p m v back (legal_to_listed p m back legal) in
    let least : (material_of (after p m) e +ℤ pos (taken_gain e (piece_at p.cells t) + promotion_gain promote (piece_at (after p m).cells a))) ≤ℤ value (after p m) e 1 = value_taking (after p m) e plain a t promote (piece_at p.cells t) valid threat.attack.attacker.on_board threat.attack.on_board (keeps a t promote threat leaves) in
    let same : promotion_gain promote (piece_at (after p m).cells a) ≡ promotion_gain promote (piece_at p.cells a) = ap (promotion_gain promote) (kept_at p m a legal threat.attack.attacker.theirs (attacker_off p m a t leaves)) in
    omega (arith, ints, least, same, is)

pub unpromoted : (cell : Option Piece) → promotion_gain false cell ≡ 0
unpromoted None = refl
unpromoted (Some piece) = refl

-- a capture on the move's destination gains the piece put there
pub taken_left : (p : Shogi) (e : Eval) (plain : resolves_captures e ≡ false) (m : Move) → IsValid p → move_of (code_of m) ≡ Some m → is_legal p m ≡ true → IsTaken p m → (material_of (after p m) e +ℤ pos (taken_gain e (put_by p m))) ≤ℤ value (after p m) e 1
taken_left p e plain m v back legal taken =
    let valid : IsValid (after p m) = valid_after p m v back (legal_to_listed p m back legal) in
    let least : (material_of (after p m) e +ℤ pos (taken_gain e (put_by p m) + promotion_gain false (piece_at (after p m).cells taken.taker))) ≤ℤ value (after p m) e 1 = value_taking (after p m) e plain taken.taker (end_of m) false (put_by p m) valid taken.on_board.0 taken.on_board.1 taken.takes in
    let none : promotion_gain false (piece_at (after p m).cells taken.taker) ≡ 0 = unpromoted (piece_at (after p m).cells taken.taker) in
    omega (arith, ints, least, none)

-- an attack on the move's destination may capture there
pub retaken : (p : Shogi) (m : Move) (to : ℕ) → end_of m ≡ to → MayRetake p m → IsAttacked p to → IsTaken p m
retaken p m to ends retakes attacked =
    let attack : IsAttack p attacked.0 (end_of m) false = subst (λ (n : ℕ). IsAttack p attacked.0 n false) (sym ends) attacked.1 in
    record { taker = attacked.0; on_board = (attack.attacker.on_board, attack.on_board); takes = retakes attacked.0 false attack }

pub retake_gain : (p : Shogi) (e : Eval) (plain : resolves_captures e ≡ false) (m : Move) (to gain : ℕ) → IsValid p → move_of (code_of m) ≡ Some m → is_legal p m ≡ true → end_of m ≡ to → IsAttacked p to → gain ≡ taken_gain e (put_by p m) → TakesAfter p e m gain
retake_gain p e plain m to gain v back legal ends attacked is = λ keeps retakes. omega (arith, ints, taken_left p e plain m v back legal (retaken p m to ends retakes attacked), is)

-- ---- replies that are not settled

-- `is_quiet` means one thing to the replies and to the evaluation
same_quiet : (q : Shogi) (m : Option Move) → replies.is_quiet q m ≡ is_quiet q m
same_quiet q (Some (Board from to promote)) = refl
same_quiet q (Some (Drop kind to)) = refl
same_quiet q None = refl

-- the first element of a filtered list is in the list and passes the test
first_kept : (t : ℕ → Bool) (codes : List ℕ) (c : ℕ) (cs : List ℕ) → filter t codes ≡ c ∷ cs → (is_in c codes ≡ true) × (t c ≡ true)
first_kept t [] c cs e = absurd (cc)
first_kept t (x ∷ xs) c cs e =
    cond_both (t x) (x ∷ filter t xs) (filter t xs) (λ (ys : List ℕ). ys ≡ c ∷ cs → (is_in c (x ∷ xs) ≡ true) × (t c ≡ true))
    (λ skips is. let same : x ≡ c = cc in (or_left (c == x) (is_in c xs) (eq-eqb c x (sym same)), subst (λ (n : ℕ). t n ≡ true) same skips))
    (λ fails is. let rest : _ = first_kept t xs c cs is in (or_right (c == x) (is_in c xs) rest.0, rest.1))
    e

-- a standing move is legal, and the material after it is not settled
first_standing : (q : Shogi) (e : Eval) (c : ℕ) (cs : List ℕ) → standing_codes q e ≡ c ∷ cs → (is_in c (legal_codes q) ≡ true) × (leaf_after q e c ≡ material_of (after_code q c) e)
first_standing q e c cs is =
    cond_both (resolves_captures e) (quiet_codes q) (legal_codes q) (λ (xs : List ℕ). xs ≡ c ∷ cs → (is_in c (legal_codes q) ≡ true) × (leaf_after q e c ≡ material_of (after_code q c) e))
    (λ _ first. let kept : _ = first_kept (is_quiet_code q) (legal_codes q) c cs first in (kept.0, left_quiet q e c (sym (same_quiet q (move_of c)) ∙ kept.1)))
    (λ plain first. (subst (λ (xs : List ℕ). is_in c xs ≡ true) (sym first) (or_left _ _ (eq-eqb c c refl)), left_plain q e c plain))
    is

-- a standing move exists if a quiet one does or, unless captures are settled, any legal move
pub standing_quiet : (q : Shogi) (e : Eval) → quiet_codes q ≢ [] → standing_codes q e ≢ []
standing_quiet q e some = cond_both (resolves_captures e) (quiet_codes q) (legal_codes q) (λ (xs : List ℕ). xs ≢ []) (λ _. some) (λ _. quiet_legal q some)

pub standing_plain : (q : Shogi) (e : Eval) → resolves_captures e ≡ false → legal_codes q ≢ [] → standing_codes q e ≢ []
standing_plain q e plain some = subst (λ (b : Bool). cond b (quiet_codes q) (legal_codes q) ≢ []) (sym plain) some

-- with one ply left, a side with a standing move is worth at least its material, less what a drop may cost
value_least : (q : Shogi) (e : Eval) (loss : ℤ) (codes : List ℕ) → standing_codes q e ≡ codes → IsValid q → pos 0 ≤ℤ loss → LosesAtMost q.hands q.side e loss → codes ≢ [] → (material_of q e -ℤ loss) ≤ℤ value q e 1
value_least q e loss [] is v h l some = absurd (some refl)
value_least q e loss (c ∷ cs) is v h l some =
    let first : (is_in c (legal_codes q) ≡ true) × (leaf_after q e c ≡ material_of (after_code q c) e) = first_standing q e c cs is in
    omega (arith, ints, reply_left q e loss c v h l first.0, value_reply q e c v first.0 first.1)

-- ---- what a move at depth 2 is worth at most

-- a move is worth at most the negated lower bound of the position after it
pub worth_below : (p : Shogi) (e : Eval) (d : ℕ) (m : Move) (least : ℤ) → move_of (code_of m) ≡ Some m → d ≡ 2 → least ≤ℤ value (after p m) e 1 → worth p e (d - 1) (code_of m) ≤ℤ negated least
worth_below p e d m least back last h =
    let same : value (after_code p (code_of m)) e 1 ≡ value (after p m) e 1 = ap (λ (q : Shogi). value q e 1) (after_code_of p m back) in
    rw last (omega (arith, ints, h, same))

-- after the move, the opponent keeps its material, less what a drop may cost
pub material_left : (p : Shogi) (e : Eval) (loss : ℤ) (m : Move) → IsValid p → move_of (code_of m) ≡ Some m → is_legal p m ≡ true → pos 0 ≤ℤ loss → LosesAtMost p.hands (opponent_of p.side) e loss → standing_codes (after p m) e ≢ [] → (material_of (after p m) e -ℤ loss) ≤ℤ value (after p m) e 1
material_left p e loss m v back legal h l some = value_least (after p m) e loss (standing_codes (after p m) e) refl (valid_after p m v back (legal_to_listed p m back legal)) h (loses_after p e loss m l) some

-- after the move, the opponent gains what a standing threat does
pub threat_left : (p : Shogi) (e : Eval) (m : Move) (gain : ℕ) → KeepsThreats p m → MayRetake p m → TakesAfter p e m gain → (material_of (after p m) e -ℤ negated (pos gain)) ≤ℤ value (after p m) e 1
threat_left p e m gain keeps retakes takes = omega (arith, ints, takes keeps retakes)
