use Rattle.std.proofs.Common.{rules, ◌≡◌, sym, ◌∙◌, ap, true, get_or}
use Rattle.std.proofs.lemmas.List.Sums.{position_or_len_is}
use Rattle.usi_replay.specs.Playback.{is_transcript_under, no_transcript}
use Rattle.usi_replay.proofs.Transcripts.{item_is}
use Rattle.usi_replay.proofs.playback.Playback.place_of.Goals as goal

pub returns-then-is_under-clause-value : goal.returns-then-is_under-clause-value
returns-then-is_under-clause-value g c =
    let item : get_or c.args.self.now.transcripts.items c.loop-i.i no_transcript ≡ c.index.result.now = item_is c.args.self.now.transcripts.items c.loop-i.i c.index.result.now (search rules) c.index.ensures in
    let here : is_transcript_under c.args.name (get_or c.args.self.now.transcripts.items c.loop-i.i no_transcript) ≡ true = ap (is_transcript_under c.args.name) item ∙ (sym c.is_under.ensures ∙ c.if-is_under.true) in
    sym (position_or_len_is (is_transcript_under c.args.name) c.args.self.now.transcripts.items c.loop-i.i no_transcript (search rules) c.loop-i.invariant (λ _. here))

pub returns-clause-value : goal.returns-clause-value
returns-clause-value g c = sym (position_or_len_is (is_transcript_under c.args.name) c.args.self.now.transcripts.items c.len.result no_transcript (search rules) (search rules) (λ lt. absurd (search rules)))
