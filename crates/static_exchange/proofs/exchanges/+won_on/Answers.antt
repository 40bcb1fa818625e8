use Rattle.std.proofs.Common.{◌<◌, ◌-◌, ℕ, refl, sym, subst, arith}
use Rattle.shogi_core.specs.Position.{Shogi}
use Rattle.shogi_moves.specs.After.{after_code}
use Rattle.static_exchange.specs.Reprisals.{WinsAtLeastOn, WinsAtMostOn}
use Rattle.static_exchange.specs.Takers.{taking_code}
use Rattle.static_exchange.proofs.Won.{recursed, wins_so_much, won_gain, won_lower, won_stands, won_upper, won_zero}
use Rattle.static_exchange.proofs.exchanges.+won_on.Goals as goal

pub returns-then-n-eq0-clause-most : goal.returns-then-n-eq0-clause-most
returns-then-n-eq0-clause-most t c = λ _ p e. wins_so_much p c.args.x.now.square c.args.n 0 (won_zero p c.args.x.now.square c.args.n c.if-n-eq0.true)

pub returns-in_default-clause-most : goal.returns-in_default-clause-most
returns-in_default-clause-most t c = λ _ p e. wins_so_much p c.args.x.now.square c.args.n 0 (won_stands p c.args.x.now.square c.args.n (c.in_default.ensures.if_none refl p e))

pub returns-then-gain-floor-clause-most : goal.returns-then-gain-floor-clause-most
returns-then-gain-floor-clause-most t c = λ _ p e.
    let first = c.in-Some.ensures.first p e in
    won_gain p c.args.x.now.square c.args.n (taking_code p c.args.x.now.square c.in-Some.from) c.gain_by-gain.result (omega (arith, c.if-n-eq0.false)) first.taker_is (c.gain_by-gain.ensures.gain p e first)

pub returns-then-least-enough-clause-least : goal.returns-then-least-enough-clause-least
returns-then-least-enough-clause-least t c = λ _ p e.
    let s = c.args.x.now.square in
    let first = c.in-Some.ensures.first p e in
    let q : Shogi = after_code p (taking_code p s c.in-Some.from) in
    let most : WinsAtMostOn q s (c.args.n - 1) c.most.result = subst (λ (k : ℕ). WinsAtMostOn q k (c.args.n - 1) c.most.result) c.after-next.ensures.square (c.most.ensures.most q (c.args.n - 1) (c.after-next.ensures.after p e first)) in
    subst (WinsAtLeastOn p s c.args.n) (sym c.saturating_sub-least.ensures)
    (won_lower p q s c.args.n (taking_code p s c.in-Some.from) c.gain_by-gain.result c.most.result
    (omega (arith, c.if-n-eq0.false)) first.taker_is refl (c.gain_by-gain.ensures.gain p e first) most)

pub returns-clause-most : goal.returns-clause-most
returns-clause-most t c = λ below p e.
    let s = c.args.x.now.square in
    let first = c.in-Some.ensures.first p e in
    let q : Shogi = after_code p (taking_code p s c.in-Some.from) in
    let least : c.gain_by-gain.result - c.args.enough < c.won_on-back.result → WinsAtLeastOn q s (c.args.n - 1) c.won_on-back.result =
    λ low. subst (λ (k : ℕ). WinsAtLeastOn q k (c.args.n - 1) c.won_on-back.result) c.after-next.ensures.square
    (c.won_on-back.ensures.least (subst (λ (v : ℕ). v < c.won_on-back.result) (sym c.saturating_sub.ensures) low) q (c.after-next.ensures.after p e first)) in
    subst (WinsAtMostOn p s c.args.n) (sym c.saturating_sub-2.ensures)
    (won_upper p q s c.args.n (taking_code p s c.in-Some.from) c.gain_by-gain.result c.won_on-back.result
    (omega (arith, c.if-n-eq0.false)) first.taker_is refl (c.gain_by-gain.ensures.gain p e first)
    (recursed q s (c.args.n - 1) c.gain_by-gain.result c.args.enough c.won_on-back.result least (subst (λ (v : ℕ). v < c.args.enough) c.saturating_sub-2.ensures below)))

pub returns-clause-least : goal.returns-clause-least
returns-clause-least t c = λ above p e.
    let s = c.args.x.now.square in
    let first = c.in-Some.ensures.first p e in
    let q : Shogi = after_code p (taking_code p s c.in-Some.from) in
    let low : c.args.floor < c.gain_by-gain.result - c.won_on-back.result = subst (λ (v : ℕ). c.args.floor < v) c.saturating_sub-2.ensures above in
    subst (WinsAtLeastOn p s c.args.n) (sym c.saturating_sub-2.ensures)
    (won_lower p q s c.args.n (taking_code p s c.in-Some.from) c.gain_by-gain.result c.won_on-back.result
    (omega (arith, c.if-n-eq0.false)) first.taker_is refl (c.gain_by-gain.ensures.gain p e first)
    (subst (λ (k : ℕ). WinsAtMostOn q k (c.args.n - 1) c.won_on-back.result) c.after-next.ensures.square (c.won_on-back.ensures.most (omega (arith, low)) q (c.after-next.ensures.after p e first))))
