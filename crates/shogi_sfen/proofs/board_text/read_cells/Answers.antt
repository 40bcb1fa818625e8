use Rattle.std.proofs.Common.{◌≡◌, ◌<◌, ◌≤◌, ◌∙◌, ◌++◌, ◌+◌, ℕ, List, ap, sym, subst, length, rules}
use Rattle.shogi_sfen.specs.BoardTexts.{rank_of}
use Rattle.shogi_sfen.proofs.BoardLaws.{HasRanks, ranks-step, ranks-short, ranks-wrong, ranks-long, ranks-last_wrong, ranks-last}
use Rattle.shogi_sfen.proofs.board_text.read_cells.Goals as goal

pub returns-then-len-rest-clause-value : goal.returns-then-len-rest-clause-value
returns-then-len-rest-clause-value c =
    let few : c.loop.counter < 8 = search rules in
    let here : c.part_len-len.result ≡ length c.loop.rest.now = search rules in
    ranks-short c.args.word.now c.loop.rest.now c.loop.squares.items c.loop.counter c.part_len-len.result c.loop.invariant few c.part_len-len.ensures.value here

pub returns-in_default-clause-value : goal.returns-in_default-clause-value
returns-in_default-clause-value c =
    let below : c.part_len-len.result < length c.loop.rest.now = search rules in
    ranks-wrong c.args.word.now c.loop.rest.now c.loop.squares.items c.loop.counter c.part_len-len.result c.loop.invariant c.part_len-len.ensures.value below
    (ap rank_of (sym c.split_at.ensures.front) ∙ c.in_default.ensures.value)

pub loop-preserved : goal.loop-preserved
loop-preserved c =
    let below : c.part_len-len.result < length c.loop.rest.now = search rules in
    let add : c.push_rank.new.squares.items ≡ c.loop.squares.items ++ c.in-Some.rank.items = search rules in
    subst (λ (rest : List ℕ). HasRanks c.args.word.now rest c.push_rank.new.squares.items (c.loop.counter + 1)) (sym c.skip-rest.ensures)
    (ranks-step c.args.word.now c.loop.rest.now c.loop.squares.items c.in-Some.rank.items c.push_rank.new.squares.items c.loop.counter c.part_len-len.result c.loop.invariant c.part_len-len.ensures.value below
    (ap rank_of (sym c.split_at.ensures.front) ∙ c.in-Some.ensures.value) c.in-Some.ensures.len add)

pub returns-then-part_len-rest-clause-value : goal.returns-then-part_len-rest-clause-value
returns-then-part_len-rest-clause-value c =
    let below : c.part_len.result < length c.loop.rest.now = search rules in
    let eight : c.loop.counter ≡ 8 = search rules in
    ranks-long c.args.word.now c.loop.rest.now c.loop.squares.items c.part_len.result (subst (λ (n : ℕ). HasRanks c.args.word.now c.loop.rest.now c.loop.squares.items n) eight c.loop.invariant) c.part_len.ensures.value below

pub returns-in_default-read_rank-clause-value : goal.returns-in_default-read_rank-clause-value
returns-in_default-read_rank-clause-value c =
    let over : length c.loop.rest.now ≤ c.part_len.result = search rules in
    ranks-last_wrong c.args.word.now c.loop.rest.now c.loop.squares.items c.loop.counter c.loop.invariant (subst (λ (n : ℕ). length c.loop.rest.now ≤ n) c.part_len.ensures.value over) c.in_default-read_rank.ensures.value

pub returns-clause-value : goal.returns-clause-value
returns-clause-value c =
    let over : length c.loop.rest.now ≤ c.part_len.result = search rules in
    let eight : c.loop.counter ≡ 8 = search rules in
    let add : c.push_rank-2.new.squares.items ≡ c.loop.squares.items ++ c.in-Some-read_rank.last.items = search rules in
    ranks-last c.args.word.now c.loop.rest.now c.loop.squares.items c.in-Some-read_rank.last.items c.push_rank-2.new.squares.items
    (subst (λ (n : ℕ). HasRanks c.args.word.now c.loop.rest.now c.loop.squares.items n) eight c.loop.invariant) (subst (λ (n : ℕ). length c.loop.rest.now ≤ n) c.part_len.ensures.value over)
    c.in-Some-read_rank.ensures.value add
