-- What is known of the opponent's replies at a node of depth 2 (own choice).
use Rattle.std.specs.Prelude.{◌≡◌}
use Rattle.std.specs.Option.{ForSome}
use Rattle.shogi_moves.specs.Escapes.{AreEscapes}
use Rattle.shogi_replies.specs.ReplyInfo.{IsReplyInfoOf}
use Rattle.shogi_eval.specs.Evaluated.{Evaluated}
use Rattle.search_nodes.specs.declared.frame.Frame.{Frame}
use Rattle.search_nodes.specs.declared.reply_cache.ReplyCache.{ReplyCache}
use Rattle.search_nodes.specs.Threats.{AreSomeThreats}

-- the cache is true of the node
abbrev pub IsReplyCacheOf : Evaluated → ReplyCache → Type 0
IsReplyCacheOf node cache =
    IsReplyInfoOf cache.replies node.position
    × (ForSome cache.escapes (λ squares. AreEscapes node.position squares.bits)
    × AreSomeThreats node.position node.eval cache.threats)

-- a cache that was true of the node stays true of it
abbrev pub StaysTrue : Evaluated → ReplyCache → ReplyCache → Type 0
StaysTrue node old new = IsReplyCacheOf node old → IsReplyCacheOf node new

-- the node has depth 2, and the cache is true of it
abbrev pub IsPreFrontier : Frame → ReplyCache → Type 0
IsPreFrontier f cache = (f.depth ≡ 2) × IsReplyCacheOf f.node cache

-- the cache is true of the node if that has depth 2
abbrev pub IsFoundAt : Frame → ReplyCache → Type 0
IsFoundAt f cache = f.depth ≡ 2 → IsReplyCacheOf f.node cache
