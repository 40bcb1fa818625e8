-- What is won by an exchange on one square, and on the best of them.
use Rattle.std.proofs.Common.{◌≡◌, ◌<◌, ◌≤◌, ◌+◌, ◌-◌, ℕ, zero, suc, ℤ, pos, ◌+ℤ◌, ◌-ℤ◌, ◌≤ℤ◌, Bool, true, false, not, Option, Some, None, refl, sym, ap, ◌∙◌, subst, arith, inl, inr}
use Rattle.std.specs.Prelude.{◌&&◌, ◌==◌}
use Rattle.std.specs.Int.{int_max}
use Rattle.std.proofs.lemmas.Bool.{cases_eq, cases_lt}
use Rattle.std.proofs.lemmas.Int.{ints, clamps}
use Rattle.shogi_core.specs.declared.moves.Move.TheVariants.{Board}
use Rattle.shogi_core.specs.declared.piece.Piece.{Piece}
use Rattle.shogi_core.specs.Bits.{has_bit}
use Rattle.shogi_core.specs.Movement.{piece_at}
use Rattle.shogi_core.specs.Position.{Shogi}
use Rattle.shogi_core.specs.Validity.{IsValid}
use Rattle.shogi_core.proofs.CodesBack.{move_of-board}
use Rattle.shogi_moves.specs.After.{after, after_code}
use Rattle.shogi_moves.proofs.LegalLaws.{after_code_at, after_code_of, legal_to_listed}
use Rattle.shogi_eval.specs.declared.eval.Eval.TheVariants.{Exchange}
use Rattle.shogi_eval.specs.declared.gain.TheConstants.{PROMOTION_GAIN_MAX}
use Rattle.shogi_eval.specs.Exchange.{best_settled, captures_max, most_settled, settled, least_valuable_attacker}
use Rattle.shogi_eval.specs.Material.{material_of, promotion_gain, taken_gain}
use Rattle.shogi_eval.proofs.Gains.{material_after_board}
use Rattle.shogi_eval.proofs.RoleGains as roles
use Rattle.minimax.proofs.Settling.{best_least, settled_least}
use Rattle.minimax.proofs.Valid.{after_valid}
use Rattle.static_exchange.specs.Reprisals.{IsGain, IsWon, IsWonAtLeast, IsWonOn, WinsAtLeastOn, WinsAtMostOn, WinsAtMostOff}
use Rattle.static_exchange.specs.Takers.{promotes, taking, taking_code, NoneTakenOff, TakesFirst}
use Rattle.static_exchange.proofs.Cheapest.{TakesFrom, left_or_passed, taker_takes}
use Rattle.static_exchange.proofs.Takings.{settled_stands, settled_takes, settled_zero}

-- the exchange wins no more than its bound
pub wins_so_much : (p : Shogi) (s n won : ℕ) → IsWonOn p s n won → WinsAtMostOn p s n won
wins_so_much p s n won is = omega (arith, ints, is)

-- if nothing takes, nothing is won
pub won_stands : (p : Shogi) (s n : ℕ) → None ≡ least_valuable_attacker p s → IsWonOn p s n 0
won_stands p s zero none = let is : settled p Exchange s 0 ≡ material_of p Exchange = settled_zero p Exchange s 0 refl in omega (arith, ints, is)
won_stands p s (suc n) none = let is : settled p Exchange s (suc n) ≡ material_of p Exchange = settled_stands p Exchange s (suc n) (omega arith) none in omega (arith, ints, is)

pub won_zero : (p : Shogi) (s n : ℕ) → n ≡ 0 → IsWonOn p s n 0
won_zero p s n h = let is : settled p Exchange s n ≡ material_of p Exchange = settled_zero p Exchange s n h in omega (arith, ints, is)

larger : (has next after won : ℤ) (gain back : ℕ) → next ≡ (pos 0 -ℤ (has +ℤ pos gain)) → after ≡ (next +ℤ pos back) → won ≡ int_max has (pos 0 -ℤ after) → won ≡ (has +ℤ pos (gain - back))
larger has next after won gain back n a w = omega (arith, ints, clamps, n, a, w)

upper : (has next after won : ℤ) (gain back : ℕ) → next ≡ (pos 0 -ℤ (has +ℤ pos gain)) → (next +ℤ pos back) ≤ℤ after → won ≡ int_max has (pos 0 -ℤ after) → won ≤ℤ (has +ℤ pos (gain - back))
upper has next after won gain back n a w = omega (arith, ints, clamps, n, a, w)

lower : (has next after won : ℤ) (gain back : ℕ) → next ≡ (pos 0 -ℤ (has +ℤ pos gain)) → after ≤ℤ (next +ℤ pos back) → won ≡ int_max has (pos 0 -ℤ after) → (has +ℤ pos (gain - back)) ≤ℤ won
lower has next after won gain back n a w = omega (arith, ints, clamps, n, a, w)

-- bounds of what is won back bound what is won
pub won_upper : (p q : Shogi) (s n code gain back : ℕ) → 0 < n → Some code ≡ least_valuable_attacker p s → q ≡ after_code p code → IsGain p code gain → WinsAtLeastOn q s (n - 1) back → WinsAtMostOn p s n (gain - back)
won_upper p q s n code gain back h is at g b =
    upper (material_of p Exchange) (material_of q Exchange) (settled q Exchange s (n - 1)) (settled p Exchange s n) gain back
    (ap (λ (r : Shogi). material_of r Exchange) at ∙ g) b
    (settled_takes p q Exchange s n code (settled q Exchange s (n - 1)) h is at refl)

pub won_lower : (p q : Shogi) (s n code gain back : ℕ) → 0 < n → Some code ≡ least_valuable_attacker p s → q ≡ after_code p code → IsGain p code gain → WinsAtMostOn q s (n - 1) back → WinsAtLeastOn p s n (gain - back)
won_lower p q s n code gain back h is at g b =
    lower (material_of p Exchange) (material_of q Exchange) (settled q Exchange s (n - 1)) (settled p Exchange s n) gain back
    (ap (λ (r : Shogi). material_of r Exchange) at ∙ g) b
    (settled_takes p q Exchange s n code (settled q Exchange s (n - 1)) h is at refl)

-- at least nothing is won back
pub none_least : (q : Shogi) (s n : ℕ) → WinsAtLeastOn q s n 0
none_least q s n = let least : material_of q Exchange ≤ℤ settled q Exchange s n = settled_least q Exchange s n in omega (arith, ints, least)

-- an exchange wins no more than its first capture gains
pub won_gain : (p : Shogi) (s n code gain : ℕ) → 0 < n → Some code ≡ least_valuable_attacker p s → IsGain p code gain → WinsAtMostOn p s n gain
won_gain p s n code gain h is g =
    let whole : gain - 0 ≡ gain = omega arith in
    subst (WinsAtMostOn p s n) whole (won_upper p (after_code p code) s n code gain 0 h is refl g (none_least (after_code p code) s (n - 1)))

-- it wins exactly that if nothing is taken back
pub won_whole : (p : Shogi) (s n code gain : ℕ) → 0 < n → Some code ≡ least_valuable_attacker p s → IsGain p code gain → None ≡ least_valuable_attacker (after_code p code) s → WinsAtLeastOn p s n gain
won_whole p s n code gain h is g none =
    let whole : gain - 0 ≡ gain = omega arith in
    subst (WinsAtLeastOn p s n) whole (won_lower p (after_code p code) s n code gain 0 h is refl g (wins_so_much (after_code p code) s (n - 1) 0 (won_stands (after_code p code) s (n - 1) none)))

-- a number is one from below, if it is more than a floor that depends on it
pub recursed : (q : Shogi) (s n gain enough back : ℕ) → (gain - enough < back → WinsAtLeastOn q s n back) → gain - back < enough → WinsAtLeastOn q s n back
recursed q s n gain enough back least below = elim (cases_lt (gain - enough) back) [
  | inl low ↦ least low
  | inr high ↦ (let none : back ≡ 0 = omega arith in subst (WinsAtLeastOn q s n) (sym none) (none_least q s n))
]

-- what a promotion gains at most
pub promotion_most : (promote : Bool) (cell : Option Piece) → promotion_gain promote cell ≤ PROMOTION_GAIN_MAX
promotion_most promote None = omega arith
promotion_most false (Some piece) = omega arith
promotion_most true (Some piece) = subst (λ (v : ℕ). v ≤ PROMOTION_GAIN_MAX) (roles.promotion_gain piece.role) (roles.promotion_range piece.role)

-- the capture of what stands on the square gains no more than that with any promotion
pub gain_most : (p : Shogi) (s code : ℕ) → IsValid p → s < 81 → TakesFrom p s code → (gain : ℕ) × IsGain p code gain × (gain ≤ taken_gain Exchange (piece_at p.cells s) + PROMOTION_GAIN_MAX)
gain_most p s code v hs x =
    let law : material_of (after p (Board x.from s x.promote)) Exchange ≡ pos 0 -ℤ (material_of p Exchange +ℤ pos (taken_gain Exchange (piece_at p.cells s) + promotion_gain x.promote (piece_at p.cells x.from))) = material_after_board p Exchange x.from s x.promote v x.here hs x.legal in
    let most : promotion_gain x.promote (piece_at p.cells x.from) ≤ PROMOTION_GAIN_MAX = promotion_most x.promote (piece_at p.cells x.from) in (
      taken_gain Exchange (piece_at p.cells s) + promotion_gain x.promote (piece_at p.cells x.from),
      ap (λ (q : Shogi). material_of q Exchange) (after_code_at p code (Board x.from s x.promote) x.back) ∙ law,
      omega (arith, most),
    )

bounded : (has next after won : ℤ) (gain most : ℕ) → next ≡ (pos 0 -ℤ (has +ℤ pos gain)) → next ≤ℤ after → gain ≤ most → won ≡ int_max has (pos 0 -ℤ after) → won ≤ℤ (has +ℤ pos most)
bounded has next after won gain most n a g w = omega (arith, ints, clamps, n, a, g, w)

won_most_by : (p : Shogi) (s n : ℕ) (o : Option ℕ) → IsValid p → s < 81 → o ≡ least_valuable_attacker p s → WinsAtMostOn p s (suc n) (taken_gain Exchange (piece_at p.cells s) + PROMOTION_GAIN_MAX)
won_most_by p s n None v hs is = let stands : settled p Exchange s (suc n) ≡ material_of p Exchange +ℤ pos 0 = won_stands p s (suc n) is in omega (arith, ints, stands)
won_most_by p s n (Some code) v hs is =
    let g : _ = gain_most p s code v hs (taker_takes p s code (sym is)) in
    bounded (material_of p Exchange) (material_of (after_code p code) Exchange) (settled (after_code p code) Exchange s (suc n - 1)) (settled p Exchange s (suc n)) g.0 (taken_gain Exchange (piece_at p.cells s) + PROMOTION_GAIN_MAX)
    g.1 (settled_least (after_code p code) Exchange s (suc n - 1)) g.2
    (settled_takes p (after_code p code) Exchange s (suc n) code (settled (after_code p code) Exchange s (suc n - 1)) (omega arith) is refl refl)

-- an exchange wins no more than the piece and the largest promotion
pub won_most : (p : Shogi) (s n : ℕ) → IsValid p → s < 81 → WinsAtMostOn p s n (taken_gain Exchange (piece_at p.cells s) + PROMOTION_GAIN_MAX)
won_most p s zero v hs = let is : settled p Exchange s 0 ≡ material_of p Exchange = settled_zero p Exchange s 0 refl in omega (arith, ints, is)
won_most p s (suc n) v hs = won_most_by p s n (least_valuable_attacker p s) v hs refl

-- ---- the best square

most_least : (p : Shogi) (n s k : ℕ) → s ≤ k → settled p Exchange s n ≤ℤ most_settled p Exchange n k
unfolding most_settled
most_least p n s zero h = let q : s ≡ 0 = omega arith in subst (λ (x : ℕ). settled p Exchange x n ≤ℤ settled p Exchange 0 n) (sym q) (omega (arith, ints))
most_least p n s (suc k) h = elim (cases_eq s (suc k)) [
  | inl same ↦ subst (λ (x : ℕ). settled p Exchange x n ≤ℤ int_max (settled p Exchange (suc k) n) (most_settled p Exchange n k)) (sym same) (omega (arith, ints, clamps))
  | inr other ↦ (let rest : settled p Exchange s n ≤ℤ most_settled p Exchange n k = most_least p n s k (omega arith) in omega (arith, ints, clamps, rest))
]

most_at_most : (p : Shogi) (n k : ℕ) (v : ℤ) → ((s : ℕ) → s ≤ k → settled p Exchange s n ≤ℤ v) → most_settled p Exchange n k ≤ℤ v
unfolding most_settled
most_at_most p n zero v h = h 0 (omega arith)
most_at_most p n (suc k) v h =
    let here : settled p Exchange (suc k) n ≤ℤ v = h (suc k) (omega arith) in
    let rest : most_settled p Exchange n k ≤ℤ v = most_at_most p n k v (λ s l. h s (omega arith)) in
    omega (arith, ints, clamps, here, rest)

-- what is won on one square is won at least
pub won_so_much : (p : Shogi) (s won : ℕ) → s < 81 → WinsAtLeastOn p s captures_max won → IsWonAtLeast p won
won_so_much p s won h is = let least : settled p Exchange s captures_max ≤ℤ best_settled p Exchange = most_least p captures_max s 80 (omega arith) in omega (arith, ints, least, is)

-- a side always wins at least nothing
pub wins_nothing : (p : Shogi) → IsWonAtLeast p 0
wins_nothing p = let least : material_of p Exchange ≤ℤ best_settled p Exchange = best_least p Exchange captures_max 80 in omega (arith, ints, least)

pub won_less : (p : Shogi) (less won : ℕ) → less ≤ won → IsWonAtLeast p won → IsWonAtLeast p less
won_less p less won h l = omega (arith, ints, h, l)

-- a sum that is won, and exceeded on no square, is won exactly
pub won_exactly : (p : Shogi) (won : ℕ) → IsWonAtLeast p won → ((s : ℕ) → s < 81 → WinsAtMostOn p s captures_max won) → IsWon p won
won_exactly p won least most =
    let high : best_settled p Exchange ≤ℤ (material_of p Exchange +ℤ pos won) = most_at_most p captures_max 80 (material_of p Exchange +ℤ pos won) (λ s l. most s (omega arith)) in
    omega (arith, ints, least, high)

pub wins_more : (p : Shogi) (s n less more : ℕ) → less ≤ more → WinsAtMostOn p s n less → WinsAtMostOn p s n more
wins_more p s n less more h l = omega (arith, ints, h, l)

-- ---- the first capture

-- the gain of the first capture
pub gain_first : (p : Shogi) (s from : ℕ) → IsValid p → s < 81 → TakesFirst p s from → IsGain p (taking_code p s from) (taken_gain Exchange (piece_at p.cells s) + promotion_gain (promotes p s from) (piece_at p.cells from))
gain_first p s from v hs t =
    ap (λ (q : Shogi). material_of q Exchange) (after_code_of p (taking p s from) (move_of-board from s (promotes p s from) t.here hs))
    ∙ material_after_board p Exchange from s (promotes p s from) v t.here hs t.legal

-- the first capture leaves a valid position
pub after_first : (p : Shogi) (s from : ℕ) → IsValid p → s < 81 → TakesFirst p s from → IsValid (after_code p (taking_code p s from))
after_first p s from v hs t = after_valid p (taking_code p s from) v (legal_to_listed p (taking p s from) (move_of-board from s (promotes p s from) t.here hs) t.legal)

-- ---- the squares but for that of the last move

pub begins_off : (p : Shogi) (squares next last floor : ℕ) → NoneTakenOff p squares → ((i : ℕ) → has_bit next i ≡ (has_bit squares i && not (i == last))) → WinsAtMostOn p last captures_max floor → WinsAtMostOff p next floor
begins_off p squares next last floor none bits there s h out = elim (left_or_passed squares next last s bits out) [
  | inl same ↦ subst (λ (x : ℕ). WinsAtMostOn p x captures_max floor) (sym same) there
  | inr off ↦ wins_more p s captures_max 0 floor (omega arith) (wins_so_much p s captures_max 0 (won_stands p s captures_max (none s h off)))
]

pub one_square : (p : Shogi) (left next k old new : ℕ) → ((i : ℕ) → has_bit next i ≡ (has_bit left i && not (i == k))) → old ≤ new → WinsAtMostOn p k captures_max new → WinsAtMostOff p left old → WinsAtMostOff p next new
one_square p left next k old new bits up here all s h out = elim (left_or_passed left next k s bits out) [
  | inl same ↦ subst (λ (x : ℕ). WinsAtMostOn p x captures_max new) (sym same) here
  | inr off ↦ wins_more p s captures_max old new up (all s h off)
]
