use Rattle.std.proofs.Common.{◌≡◌, ◌∙◌, ◌<ℤ◌, ◌≤ℤ◌, Some, ap, false, refl, sym, arith, rules}
use Rattle.std.proofs.lemmas.Int.{ints}
use Rattle.shogi_core.specs.Codes.{code_of}
use Rattle.shogi_core.specs.Position.{Shogi}
use Rattle.shogi_moves.specs.After.{after}
use Rattle.shogi_moves.proofs.LegalLaws.{after_code_of}
use Rattle.minimax.specs.Minimax.{worth, value, negated}
use Rattle.shogi_search.specs.Ranked.{child_beta}
use Rattle.shogi_search.proofs.RankedUse.{gone_fresh, gone_on, gone_unlisted}
use Rattle.usi_session.specs.Walked.{is_settled}
use Rattle.usi_session.proofs.NextSearch.{child_legal, child_window, child_worth, gone, ranked_up_to}
use Rattle.usi_session.proofs.go_task.rank.Goals as goal

pub last_worth-worth-requires : goal.last_worth-worth-requires
last_worth-worth-requires c = child_legal c.args.depth.now.go_request c.args.depth.now.done c.args.root_move c.args.ranks.now c.reveal_invariant.ensures.back c.requires.ranked

pub offer-requires : goal.offer-requires
offer-requires c = gone_fresh _ _ _ _ _ _ (gone _ _ _ _ c.requires.ranked.ranked) c.requires.ranked.next

pub returns-then-is_settled : goal.returns-then-is_settled
returns-then-is_settled c =
    let q = c.args.depth.now.go_request in
    let f = worth q.position q.eval c.args.depth.now.done in
    ranked_up_to q c.args.depth.now.done (Some c.args.root_move) c.offer.new.self
    (gone_on q.position f c.requires.ranked.passed c.args.ranks.now c.offer.new.self c.args.root_move (gone _ _ _ _ c.requires.ranked.ranked) c.requires.ranked.next (λ codes t i. c.offer.ensures.top f codes t i (search rules)))
    (c.offer.ensures.lines ∙ c.requires.ranked.ranked.most)

pub child_beta-requires : goal.child_beta-requires
child_beta-requires c =
    let w = child_window c.args.depth.now.go_request c.args.depth.now.done c.args.root_move c.args.ranks.now c.reveal_invariant-2.ensures c.args.depth.now.range c.args.depth.now.left c.requires.ranked in
    record { above = w.0; most = w.1 }

pub offer-requires-then-found-child_beta : goal.offer-requires-then-found-child_beta
offer-requires-then-found-child_beta c = gone_fresh _ _ _ _ _ _ (gone _ _ _ _ c.requires.ranked.ranked) c.requires.ranked.next

pub returns-then-found-child_beta : goal.returns-then-found-child_beta
returns-then-found-child_beta c =
    let q = c.args.depth.now.go_request in
    let f = worth q.position q.eval c.args.depth.now.done in
    let at : after q.position c.args.root_move ≡ _ = sym (after_code_of q.position c.args.root_move c.reveal_invariant.ensures.back) in
    let plain : is_settled q c.args.depth.now.done ≡ false = search rules in
    let low : c.args.found.now.value <ℤ child_beta c.args.ranks.now = search rules in
    let v : c.args.found.now.value ≡ value (after q.position c.args.root_move) q.eval c.args.depth.now.done = c.requires.below.value_is low in
    let w : f (code_of c.args.root_move) ≡ negated c.args.found.now.value =
    child_worth q c.args.depth.now.done (code_of c.args.root_move) plain ∙ sym (ap negated (v ∙ ap (λ (p : Shogi). value p q.eval c.args.depth.now.done) at)) in
    ranked_up_to q c.args.depth.now.done (Some c.args.root_move) c.offer-then-found-child_beta.new.self
    (gone_on q.position f c.requires.ranked.passed c.args.ranks.now c.offer-then-found-child_beta.new.self c.args.root_move (gone _ _ _ _ c.requires.ranked.ranked) c.requires.ranked.next (λ codes t i. c.offer-then-found-child_beta.ensures.top f codes t i (omega (arith, ints))))
    (c.offer-then-found-child_beta.ensures.lines ∙ c.requires.ranked.ranked.most)

pub returns-else-found-child_beta : goal.returns-else-found-child_beta
returns-else-found-child_beta c =
    let q = c.args.depth.now.go_request in
    let at : after q.position c.args.root_move ≡ _ = sym (after_code_of q.position c.args.root_move c.reveal_invariant.ensures.back) in
    let plain : is_settled q c.args.depth.now.done ≡ false = search rules in
    let high : child_beta c.args.ranks.now ≤ℤ c.args.found.now.value = search rules in
    ranked_up_to q c.args.depth.now.done (Some c.args.root_move) c.args.ranks.now
    (gone_unlisted q.position q.eval c.args.depth.now.done c.requires.ranked.passed c.args.ranks.now c.args.root_move (after q.position c.args.root_move) (child_beta c.args.ranks.now) c.args.found.now (child_worth q c.args.depth.now.done (code_of c.args.root_move) plain) (gone _ _ _ _ c.requires.ranked.ranked) c.requires.ranked.next at c.requires.below refl high)
    c.requires.ranked.ranked.most
