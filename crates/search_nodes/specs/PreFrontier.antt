-- What a look at a node of depth 2 leaves unchanged (own choice).
use Rattle.std.specs.Prelude.{◌≡◌}
use Rattle.search_nodes.specs.declared.asked_move.AskedMove.{AskedMove}
use Rattle.search_nodes.specs.declared.pre_frontier.PreFrontier.{PreFrontier}

-- the node, its picked move and the place of the cache stay
abbrev pub StaysAsked : AskedMove → AskedMove → Type 0
StaysAsked old new =
    (new.cache.ghost_name ≡ old.cache.ghost_name)
    × ((new.frame.now ≡ old.frame.now) × (new.current.now ≡ old.current.now))

-- the places of the node and of the cache stay
abbrev pub Stays : PreFrontier → PreFrontier → Type 0
Stays old new =
    (new.frame.ghost_name ≡ old.frame.ghost_name) × (new.cache.ghost_name ≡ old.cache.ghost_name)

-- these places and the node stay
abbrev pub KeepsFrame : PreFrontier → PreFrontier → Type 0
KeepsFrame old new = Stays old new × (new.frame.now ≡ old.frame.now)
