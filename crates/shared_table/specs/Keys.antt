-- Keys of the table, the same exactly if position, evaluation and depth are (own choice: the key is the whole position).
use Rattle.std.specs.Prelude.{◌==◌, ◌&&◌, ℕ, Bool}
use Rattle.shogi_core.specs.Position.{Shogi}
use Rattle.shogi_core.specs.Same.{is_same_position}
use Rattle.shogi_eval.specs.declared.eval.Eval.{Eval}
use Rattle.shogi_eval.specs.declared.eval.Eval.TheVariants.{Plain, Hand, Exchange}

-- a key: a position, an evaluation and a depth
pub record Key : Type 0 where
  pub position : Shogi
  pub eval : Eval
  pub depth : ℕ

-- 0 for `Plain`, 1 for `Hand`, 2 for `Exchange`
abbrev pub eval_number : Eval → ℕ
eval_number Plain = 0
eval_number Hand = 1
eval_number Exchange = 2

-- the keys have the same depth, the same evaluation and the same position
unfoldable pub is_same_key : Key → Key → Bool
is_same_key a b =
    a.depth == b.depth
    && (eval_number a.eval == eval_number b.eval && is_same_position a.position b.position)

-- the key of a position under an evaluation at a depth
abbrev pub key_of : Shogi → Eval → ℕ → Key
key_of position eval depth = record { position = position; eval = eval; depth = depth }
