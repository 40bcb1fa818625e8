use Rattle.std.proofs.Common.{◌≡◌, ◌∙◌, ◌≤◌, ◌+◌, ◌*◌, ℕ, ap, arith, length}
use Rattle.std.specs.List.{flat_map, range_with_len}
use Rattle.shogi_sfen.specs.Written.{board_text, rank_text}
use Rattle.shogi_sfen.proofs.WriteLaws.{flat_range}
use Rattle.shogi_sfen.proofs.position_text.push_board.Goals as goal

pub loop-rank-preserved : goal.loop-rank-preserved
loop-rank-preserved c =
    let before : length c.loop-rank.text.items ≤ 19 * c.loop-rank.rank = c.loop-rank.invariant.len in
    let after : length c.push_rank.new.text.items ≤ length c.loop-rank.text.items + 19 = c.push_rank.ensures.len in
    record {
      value = c.push_rank.ensures.value ∙ flat_range (rank_text c.args.board.now) c.loop-rank.rank c.loop-rank.text.items c.loop-rank.invariant.value;
      len = omega arith;
    }

pub returns-clause-value : goal.returns-clause-value
unfolding board_text
returns-clause-value c =
    let nine : c.loop-rank.rank ≡ 9 = omega arith in
    c.loop-rank.invariant.value ∙ ap (λ (n : ℕ). flat_map (rank_text c.args.board.now) (range_with_len 0 n)) nine
