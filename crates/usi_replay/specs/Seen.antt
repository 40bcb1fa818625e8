-- Lines of a script and replays of the code, as those of the definitions.
use Rattle.usi_replay.specs.declared.script_line.ScriptLine as code
use Rattle.usi_replay.specs.declared.script_line.ScriptLine.TheVariants as code_line
use Rattle.usi_replay.specs.declared.playback.Playback.{Playback}
use Rattle.usi_replay.specs.Playback.{Play}
use Rattle.usi_replay.specs.Script.{ScriptLine, Empty, Open, Close, Send, Bad}

abbrev pub script_line_of : code.ScriptLine → ScriptLine
script_line_of code_line.Empty = Empty
script_line_of (code_line.Open name) = Open name
script_line_of (code_line.Close name) = Close name
script_line_of (code_line.Send name text) = Send name text.now
script_line_of code_line.Bad = Bad

abbrev pub play_of : {S A Z : Type 0} → Playback S A Z → Play
play_of p = record { host = p.host; transcripts = p.transcripts.items }
