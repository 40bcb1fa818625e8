-- The output of a replay, and the start of reading its lines.
use Rattle.std.proofs.Common.{◌≡◌, ◌≢◌, ℕ, zero, suc, ◌+◌, ◌<◌, ◌≤◌, List, [], ◌∷◌, ◌++◌, Bool, true, false, cond, Option, Some, None, Ok, Err, length, get_or, drop, refl, sym, ap, ◌∙◌, arith, append_assoc, append-nil}
use Rattle.std.specs.Prelude.{codes, is_some}
use Rattle.std.proofs.lemmas.List.{drop_all}
use Rattle.usi_texts.specs.declared.setup.Setup.{Setup}
use Rattle.session_slots.specs.declared.id.SessionId.{SessionId}
use Rattle.usi_lines.specs.Lines.{Line, lines}
use Rattle.usi_session.specs.WholeStream.{replies_under}
use Rattle.host_core.specs.Steps.{HostState}
use Rattle.session_slots.specs.Slots.{OpenSessions, count}
use Rattle.usi_session.specs.Due.{SessionView}
use Rattle.usi_replay.specs.Script.{Opening, section, output, or_else, openings_after_line, read_from, read_script, meaning}
use Rattle.usi_replay.specs.Playback.{Transcript, play, no_transcript, no_opening, open_id, transcript_section, HasAllReplies, HasMade, IsTranscriptOf, AreTranscripts, IsPlayback, KeepsPlayback, IsReadTo, IsPlaybackOutput, LeadsTo, Plays}
use Rattle.usi_replay.specs.Replayed.{IsOutputOn}
use Rattle.usi_replay.specs.Sessions.{HasOpenedNone, RunsBy}
use Rattle.usi_replay.proofs.Transcripts.{transcripts_get, transcripts_len}
use Rattle.usi_lines.specs.declared.line.TheConstants.{LINE_FEED}

-- the bytes written for a transcript are those of its `+` line
answer_is : (setup : Setup) (h : HostState) (id : Option SessionId) (used refused : Bool) (text made : List ℕ) → HasMade setup h id used refused text made → (cond used id None ≢ None → made ≡ replies_under setup text) → cond (is_some id) made (codes "refused 1\n") ≡ cond refused (codes "refused 1\n") (replies_under setup text)
answer_is setup h None used refused text made m all = rw m refl
answer_is setup h (Some id) true refused text made m all = rw m.0 (all (λ e. cc))
answer_is setup h (Some id) false refused text made m all = rw m.0 m.1

pub section_is : {setup : Setup} (h : HostState) (o : Opening) (e : Transcript) → IsTranscriptOf setup h o e → (open_id e ≢ None → HasAllReplies setup o e) → transcript_section e ≡ section setup o
section_is {setup} h o e i all = ap (λ n. codes "== " ++ (n ∷ LINE_FEED ∷ cond (is_some e.id) e.made (codes "refused 1\n"))) i.name_is ∙ ap (λ xs. codes "== " ++ (o.name ∷ LINE_FEED ∷ xs)) (answer_is setup h e.id e.in_use o.refused o.text e.made i.made_is all)

output_from : (setup : Setup) (os : List Opening) (i : ℕ) → i < length os → output setup (drop i os) ≡ section setup (get_or os i no_opening) ++ output setup (drop (i + 1) os)
output_from setup [] i lt = absurd (omega arith)
output_from setup (o ∷ os) zero lt = refl
output_from setup (o ∷ os) (suc i) lt = (let e : suc i + 1 ≡ suc (i + 1) = omega arith in rw e (output_from setup os i (omega arith)))

-- the output so far and that of the `+` lines left are the whole output
abbrev pub WritesTo : HostState → List Transcript → HostState → List Transcript → ℕ → List ℕ → Type 0
WritesTo old es now fs i out = (setup : Setup) (slots : ℕ) (os : List Opening) → IsPlayback setup slots old os es → IsPlayback setup slots now os fs × (out ++ output setup (drop i os) ≡ output setup os)

pub writes_start : (h : HostState) (es : List Transcript) → WritesTo h es h es 0 []
writes_start h es setup slots os p = (p, refl)

pub writes_next : (old mid new : HostState) (es fs gs : List Transcript) (i : ℕ) (out more : List ℕ) (x : Transcript) → WritesTo old es mid fs i out → KeepsPlayback (play mid fs) (play new gs) → ((setup : Setup) (slots : ℕ) (os : List Opening) → IsPlayback setup slots mid os fs → open_id (get_or gs i no_transcript) ≢ None → HasAllReplies setup (get_or os i no_opening) (get_or gs i no_transcript)) → i < length gs → get_or gs i no_transcript ≡ x → more ≡ out ++ transcript_section x → WritesTo old es new gs (i + 1) more
writes_next old mid new es fs gs i out more x w played all lt item e setup slots os p =
    let q = w setup slots os p in
    let r : IsPlayback setup slots new os gs = played setup slots os q.0 in
    let n : length os ≡ length gs = transcripts_len setup new 0 os gs r.transcripts in
    let s : transcript_section (get_or gs i no_transcript) ≡ section setup (get_or os i no_opening) = section_is new (get_or os i no_opening) (get_or gs i no_transcript) (transcripts_get setup new 0 os gs i r.transcripts lt) (all setup slots os q.0) in
    (r, ap (λ xs. xs ++ output setup (drop (i + 1) os)) (e ∙ ap (λ xs. out ++ xs) (ap transcript_section (sym item) ∙ s)) ∙ (append_assoc out (section setup (get_or os i no_opening)) (output setup (drop (i + 1) os)) ∙ (ap (λ xs. out ++ xs) (sym (output_from setup os i (omega arith))) ∙ q.1)))

pub writes_end : (old now : HostState) (es fs : List Transcript) (i : ℕ) (out : List ℕ) → WritesTo old es now fs i out → length fs ≤ i → (setup : Setup) (slots : ℕ) (os : List Opening) → IsPlayback setup slots old os es → out ≡ output setup os
writes_end old now es fs i out w le setup slots os p =
    let q = w setup slots os p in
    let n : length os ≡ length fs = transcripts_len setup now 0 os fs q.0.transcripts in
    sym (append-nil out) ∙ (ap (λ (rest : List Opening). out ++ output setup rest) (sym (drop_all i os (omega arith))) ∙ q.1)

pub writes_kept : (old now : HostState) (es fs : List Transcript) (i : ℕ) (out : List ℕ) → WritesTo old es now fs i out → KeepsPlayback (play old es) (play now fs)
writes_kept old now es fs i out w = λ setup slots os p. (w setup slots os p).0

-- a script before its first line
pub read_start : (bytes : List ℕ) (h : HostState) → HasOpenedNone h → IsReadTo h.setup h.slots.max h [] bytes 0 bytes
unfolding AreTranscripts
read_start bytes h e =
    let next : h.slots.next ≡ 0 = ap (λ (s : OpenSessions SessionView). s.next) e in
    record {
      openings = [];
      play = record { transcripts = omega arith; count_is = ap count e; max_is = refl; setup_is = refl; few = omega (arith, next) };
      comes = refl;
    }

read_good : (slots number : ℕ) (line : Line) (rest : List Line) (os next : List Opening) → openings_after_line slots line os ≡ Some next → read_from slots number (line ∷ rest) os ≡ read_from slots (number + 1) rest next
unfolding read_from
read_good slots number line rest os next e = ap (λ (o : Option (List Opening)). or_else o (Err number) (λ n. read_from slots (number + 1) rest n)) e

read_bad : (slots number : ℕ) (line : Line) (rest : List Line) (os : List Opening) → openings_after_line slots line os ≡ None → read_from slots number (line ∷ rest) os ≡ Err number
unfolding read_from
read_bad slots number line rest os e = ap (λ (o : Option (List Opening)). or_else o (Err number) (λ n. read_from slots (number + 1) rest n)) e

read_end : (slots number : ℕ) (os : List Opening) → read_from slots number [] os ≡ Ok os
unfolding read_from
read_end slots number os = refl

pub read_next : {setup : Setup} (slots : ℕ) (h new : HostState) (es fs : List Transcript) (bytes : List ℕ) (number : ℕ) (rest left : List ℕ) (line : Line) → IsReadTo setup slots h es bytes number rest → lines rest ≡ line ∷ lines left → Plays {E = Bool} (Ok true) (play h es) (meaning line) (play new fs) → IsReadTo setup slots new fs bytes (number + 1) left
read_next {setup} slots h new es fs bytes number rest left line r e d =
    let q : LeadsTo setup true slots (openings_after_line slots line r.openings) new fs = d setup slots r.openings r.play in
    record {
      openings = q.0;
      play = q.2;
      comes = r.comes ∙ (ap (λ (ls : List Line). read_from slots (number + 1) ls r.openings) e ∙ read_good slots (number + 1) line (lines left) r.openings q.0 q.1);
    }

pub read_fails : {setup : Setup} (slots : ℕ) (h new : HostState) (es fs : List Transcript) (bytes : List ℕ) (number : ℕ) (rest left : List ℕ) (line : Line) → IsReadTo setup slots h es bytes number rest → lines rest ≡ line ∷ lines left → Plays {E = Bool} (Ok false) (play h es) (meaning line) (play new fs) → read_script slots bytes ≡ Err (number + 1)
read_fails {setup} slots h new es fs bytes number rest left line r e d =
    r.comes ∙ (ap (λ (ls : List Line). read_from slots (number + 1) ls r.openings) e ∙ read_bad slots (number + 1) line (lines left) r.openings (d setup slots r.openings r.play))

pub read_whole : (slice : ℕ) (before h now : HostState) (es fs : List Transcript) (bytes : List ℕ) (number : ℕ) (rest out : List ℕ) → IsReadTo before.setup before.slots.max h es bytes number rest → lines rest ≡ [] → IsPlaybackOutput (play h es) out → KeepsPlayback (play h es) (play now fs) → RunsBy slice before now → IsOutputOn slice before bytes now out
read_whole slice before h now es fs bytes number rest out r e whole kept run = record {
  openings = r.openings;
  comes = r.comes ∙ (ap (λ (ls : List Line). read_from before.slots.max (number + 1) ls r.openings) e ∙ read_end before.slots.max (number + 1) r.openings);
  out_is = whole before.setup before.slots.max r.openings r.play;
  transcripts = fs;
  played = kept before.setup before.slots.max r.openings r.play;
  run = run;
}
