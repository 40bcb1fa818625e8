use Rattle.search_nodes.proofs.reply_cache.ReplyCache.known_escapes.Goals as goal

pub returns-in-Some : goal.returns-in-Some
returns-in-Some c = λ node of. of.1.0 c.in-Some.squares c.in-Some.is
