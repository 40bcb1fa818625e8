-- Every reply is whole lines.
use Rattle.std.proofs.Common.{◌≡◌, ℕ, ℤ, zero, suc, ◌+◌, ◌-◌, ◌==◌, Bool, true, false, cond, List, [], ◌∷◌, ◌++◌, refl, sym, ap, ◌∙◌, append_assoc, append-nil, Option, Some, None, Result, Ok, Err}
use Rattle.std.specs.Prelude.{codes, decimal, OnSome}
use Rattle.shogi_core.specs.Position.{Shogi}
use Rattle.shogi_core.specs.declared.moves.Move.{Move}
use Rattle.shogi_moves.specs.LegalMoves.{legal_codes}
use Rattle.shogi_eval.specs.declared.eval.Eval.{Eval}
use Rattle.minimax.specs.Minimax.{value, worth, pv}
use Rattle.shogi_sfen.specs.MoveTexts.{text_of}
use Rattle.usi_lines.specs.Commands.{Command, Usi, IsReady, SetDepth, SetEval, SetLines, NewGame, Startpos, Sfen, BadPosition, Go, GoMate, Stop, PonderHit, GameOver, Quit, Other}
use Rattle.usi_lines.specs.CommandLines.{command_of}
use Rattle.usi_lines.specs.Lines.{Line, Text, TooLong}
use Rattle.usi_lines.specs.declared.command.Hold.{Hold}
use Rattle.usi_lines.specs.declared.command.Hold.TheVariants.{Nothing, UntilStop, UntilHit}
use Rattle.usi_texts.specs.declared.position_command.Refusal.{Refusal}
use Rattle.usi_texts.specs.declared.position_command.Refusal.TheVariants as refusals
use Rattle.usi_session.specs.declared.state.HeldBestmove.{HeldBestmove}
use Rattle.usi_session.specs.declared.state.State.{State}
use Rattle.usi_texts.specs.Options.{option_lines}
use Rattle.usi_texts.specs.Texts.{usi_reply, score_text, moves_text, info_for, info_text, numbered_info_text, info_line, bestmove_line, bad_position_line, illegal_move_line}
use Rattle.usi_texts.specs.PositionCommand.{position_of_startpos, position_of_sfen}
use Rattle.usi_session.specs.GoInfos.{listed_codes, pv_by, numbered_line, numbered_lines, depth_lines, info_lines, go_infos, go_infos_where}
use Rattle.usi_texts.specs.declared.setup.Setup.{Setup}
use Rattle.usi_texts.specs.Setup.{offers}
use Rattle.usi_session.specs.Answer.{answer, answer_with, set_options, depth_of_go, answer_position, write_or_hold, answer_stop, answer_ponderhit_held, answer_ponderhit, held_line, bestmove_at}
use Rattle.usi_session.specs.WholeStream.{answer_to}
use Rattle.usi_session.specs.GoTaskView.{GoTaskView, with_rest}
use Rattle.usi_session.specs.WholeLines.{last_byte, AreWholeLines, GrowsByLines}
use Rattle.usi_lines.specs.declared.line.TheConstants.{LINE_FEED}

last_byte-then : (before : ℕ) (xs ys : List ℕ) → last_byte before (xs ++ ys) ≡ last_byte (last_byte before xs) ys
last_byte-then before [] ys = refl
last_byte-then before (x ∷ xs) ys = last_byte-then x xs ys

-- whole lines after whole lines are whole lines
lines_then : (xs ys : List ℕ) → AreWholeLines xs → AreWholeLines ys → AreWholeLines (xs ++ ys)
lines_then xs ys e f = last_byte-then LINE_FEED xs ys ∙ (ap (λ b. last_byte b ys) e ∙ f)

-- the last byte is LF, whatever comes before
record EndsInLf (bytes : List ℕ) : Type 0 where
  pub ends : (before : ℕ) → last_byte before bytes ≡ LINE_FEED

lf : EndsInLf (codes "\n")
lf = record { ends = λ before. refl }

after : (xs : List ℕ) {ys : List ℕ} → EndsInLf ys → EndsInLf (xs ++ ys)
after xs {ys} e = record { ends = λ before. last_byte-then before xs ys ∙ e.ends (last_byte before xs) }

valued_pv_ends : (which : List ℕ) (depth : ℕ) (value : ℤ) (moves : List Move) → EndsInLf (info_for which depth value moves)
valued_pv_ends which depth value moves =
    after (codes "info depth " ++ (decimal depth ++ (which ++ codes " score "))) (after (score_text depth value)
    (after (codes " pv") (after (moves_text moves) lf)))

pub info_whole : (depth : ℕ) (value : ℤ) (moves : List Move) → AreWholeLines (info_text depth value moves)
info_whole depth value moves = (valued_pv_ends [] depth value moves).ends LINE_FEED

pub numbered_info_whole : (depth number : ℕ) (value : ℤ) (moves : List Move) → AreWholeLines (numbered_info_text depth number value moves)
numbered_info_whole depth number value moves = (valued_pv_ends (codes " multipv " ++ decimal number) depth value moves).ends LINE_FEED

-- a text of whole lines was appended
pub grows_by_text : (old new text : List ℕ) → new ≡ old ++ text → AreWholeLines text → GrowsByLines old new
grows_by_text old new text e whole = record { lines = text; after_is = e; whole = whole }

bestmove_ends : (best ponder : Option Move) → EndsInLf (bestmove_line best ponder)
bestmove_ends None ponder = after (codes "bestmove resign") lf
bestmove_ends (Some best) None = after (codes "bestmove ") (after (text_of best) lf)
bestmove_ends (Some best) (Some ponder) =
    after (codes "bestmove ") (after (text_of best) (after (codes " ponder ") (after (text_of ponder) lf)))

bestmove_whole : (best ponder : Option Move) → AreWholeLines (bestmove_line best ponder)
bestmove_whole best ponder = (bestmove_ends best ponder).ends LINE_FEED

usi_ends : (setup : Setup) → EndsInLf (usi_reply setup)
usi_ends setup =
    after (codes "id name Shared Shogi Host\nid author Shared Shogi Host Team\n")
    (after (option_lines setup) (after (codes "usiok") lf))

bad_position_line-ends : (fault : ℕ) → EndsInLf (bad_position_line fault)
bad_position_line-ends fault = after (codes "info string bad position ") (after (decimal fault) lf)

illegal_move_line-ends : (number : ℕ) → EndsInLf (illegal_move_line number)
illegal_move_line-ends number = after (codes "info string illegal move ") (after (decimal number) lf)

numbered_lines-whole : (p : Shogi) (eval : Eval) (depth number : ℕ) (codes : List ℕ) → AreWholeLines (numbered_lines p eval depth number codes)
unfolding numbered_lines
numbered_lines-whole p eval depth number [] = refl
numbered_lines-whole p eval depth number (code ∷ rest) = lines_then (numbered_line p eval depth number code) (numbered_lines p eval depth (number + 1) rest) (numbered_info_whole depth number (worth p eval (depth - 1) code) (pv_by p eval depth code)) (numbered_lines-whole p eval depth (number + 1) rest)

either-whole : (b : Bool) (xs ys : List ℕ) → AreWholeLines xs → AreWholeLines ys → AreWholeLines (cond b xs ys)
either-whole true xs ys e f = e
either-whole false xs ys e f = f

depth_lines-whole : (p : Shogi) (eval : Eval) (multi_pv depth : ℕ) → AreWholeLines (depth_lines p eval multi_pv depth)
depth_lines-whole p eval multi_pv depth = either-whole (multi_pv == 1) (info_line p eval depth) (numbered_lines p eval depth 1 (listed_codes p eval multi_pv depth)) (info_whole depth (value p eval depth) (pv p eval depth)) (numbered_lines-whole p eval depth 1 (listed_codes p eval multi_pv depth))

info_lines-whole : (p : Shogi) (eval : Eval) (multi_pv depth : ℕ) → AreWholeLines (info_lines p eval multi_pv depth)
unfolding info_lines
info_lines-whole p eval multi_pv zero = refl
info_lines-whole p eval multi_pv (suc depth) = lines_then (info_lines p eval multi_pv depth) (depth_lines p eval multi_pv (suc depth)) (info_lines-whole p eval multi_pv depth) (depth_lines-whole p eval multi_pv (suc depth))

go_infos_where-whole : (p : Shogi) (eval : Eval) (multi_pv depth : ℕ) (moves : List ℕ) → AreWholeLines (go_infos_where p eval multi_pv depth moves)
go_infos_where-whole p eval multi_pv depth [] = refl
go_infos_where-whole p eval multi_pv depth (m ∷ rest) = info_lines-whole p eval multi_pv depth

write_or_hold-whole : (s : State) (infos : List ℕ) (held : HeldBestmove) (hold : Hold) → AreWholeLines infos → AreWholeLines (write_or_hold s infos held hold).bytes
write_or_hold-whole s infos held Nothing e = lines_then infos (held_line held) e (bestmove_whole held.best held.ponder)
write_or_hold-whole s infos held UntilStop e = e
write_or_hold-whole s infos held UntilHit e = e

answer_position-whole : (s : State) (outcome : Result Shogi Refusal) → AreWholeLines (answer_position s outcome).bytes
answer_position-whole s (Ok p) = refl
answer_position-whole s (Err (refusals.BadPosition fault)) = (bad_position_line-ends fault).ends LINE_FEED
answer_position-whole s (Err (refusals.IllegalMove number)) = (illegal_move_line-ends number).ends LINE_FEED

answer_stop-whole : (s : State) (held : Option HeldBestmove) → AreWholeLines (answer_stop s held).bytes
answer_stop-whole s None = refl
answer_stop-whole s (Some held) = bestmove_whole held.best held.ponder

answer_ponderhit_held-whole : (s : State) (held : HeldBestmove) (hold : Hold) → AreWholeLines (answer_ponderhit_held s held hold).bytes
answer_ponderhit_held-whole s held UntilHit = bestmove_whole held.best held.ponder
answer_ponderhit_held-whole s held UntilStop = refl
answer_ponderhit_held-whole s held Nothing = refl

answer_ponderhit-whole : (s : State) (held : Option HeldBestmove) → AreWholeLines (answer_ponderhit s held).bytes
answer_ponderhit-whole s None = refl
answer_ponderhit-whole s (Some held) = answer_ponderhit_held-whole s held held.until

answer_eval-whole : (s : State) (eval : Eval) (offered : Bool) → AreWholeLines (cond offered (set_options s (record s.options { eval = eval })) (answer_with s [])).bytes
answer_eval-whole s eval true = refl
answer_eval-whole s eval false = refl

answer-whole : (s : State) (command : Command) → AreWholeLines (answer s command).bytes
answer-whole s Usi = (usi_ends s.setup).ends LINE_FEED
answer-whole s IsReady = refl
answer-whole s (SetDepth depth) = refl
answer-whole s (SetEval eval) = answer_eval-whole s eval (offers s.setup eval)
answer-whole s (SetLines multi_pv) = refl
answer-whole s NewGame = refl
answer-whole s (Startpos rest) = answer_position-whole s (position_of_startpos rest)
answer-whole s (Sfen rest) = answer_position-whole s (position_of_sfen rest)
answer-whole s BadPosition = (bad_position_line-ends 0).ends LINE_FEED
answer-whole s (Go depth hold) = write_or_hold-whole s (go_infos s.position s.options.eval s.options.multi_pv (depth_of_go s depth)) (bestmove_at s.position s.options.eval (depth_of_go s depth) hold) hold (go_infos_where-whole s.position s.options.eval s.options.multi_pv (depth_of_go s depth) (legal_codes s.position))
answer-whole s GoMate = refl
answer-whole s Stop = answer_stop-whole s s.held
answer-whole s PonderHit = answer_ponderhit-whole s s.held
answer-whole s GameOver = refl
answer-whole s Quit = refl
answer-whole s Other = refl

answer_to-whole : (s : State) (line : Line) → AreWholeLines (answer_to s line).bytes
answer_to-whole s (Text text) = answer-whole s (command_of text)
answer_to-whole s TooLong = refl

-- a line's answer is whole lines, or its `go` starts and nothing is written yet
pub reply_whole : (s next : State) (reply : List ℕ) (go_task : Option GoTaskView) (line : Line) → with_rest reply next go_task ≡ (answer_to s line).bytes → OnSome go_task (reply ≡ []) → AreWholeLines reply
reply_whole s next reply None line e quiet = ap (last_byte LINE_FEED) e ∙ answer_to-whole s line
reply_whole s next reply (Some go) line e quiet = ap (last_byte LINE_FEED) quiet

-- a reported line is whole
pub reported_whole : (depths_done : List ℕ) → GrowsByLines [] depths_done → AreWholeLines depths_done
reported_whole depths_done g = ap (last_byte LINE_FEED) g.after_is ∙ g.whole

-- the last line and the bestmove are whole lines
pub end_whole : (s : State) (depths_done reply : List ℕ) (held : HeldBestmove) → GrowsByLines [] depths_done → reply ≡ depths_done ++ (write_or_hold s [] held held.until).bytes → AreWholeLines reply
end_whole s depths_done reply held g f =
    ap (last_byte LINE_FEED) f ∙ lines_then depths_done (write_or_hold s [] held held.until).bytes (reported_whole depths_done g) (write_or_hold-whole s [] held held.until refl)

-- the queue grows by no lines
pub grows_by_none : (queued : List ℕ) → GrowsByLines queued queued
grows_by_none queued = record { lines = []; after_is = sym (append-nil queued); whole = refl }

-- two growths make one
pub grows_then : {a b c : List ℕ} → GrowsByLines a b → GrowsByLines b c → GrowsByLines a c
grows_then {a} {b} {c} g h = record {
  lines = g.lines ++ h.lines;
  after_is = h.after_is ∙ (ap (λ xs. xs ++ h.lines) g.after_is ∙ append_assoc a g.lines h.lines);
  whole = lines_then g.lines h.lines g.whole h.whole;
}
