use Rattle.std.proofs.Common.{◌≡◌, ◌++◌, ℕ, List, [], Bool, true, false, cond, Option, None, Some, Result, Ok, Err, arith, refl, rules, subst, sym, ap, ◌∙◌, append-nil}
use Rattle.std.specs.Prelude.{unwrap_or}
use Rattle.shogi_core.specs.Position.{Shogi}
use Rattle.usi_lines.specs.Commands.{Command, Usi, IsReady, SetDepth, SetEval, SetLines, NewGame, Startpos, Sfen, BadPosition, Go, GoMate, Stop, PonderHit, GameOver, Quit, Other}
use Rattle.usi_lines.specs.Options.{IsDepth, IsInRange}
use Rattle.usi_lines.specs.Seen.{meaning_of}
use Rattle.usi_lines.specs.declared.command.Hold.{Hold}
use Rattle.usi_lines.specs.declared.command.Hold.TheVariants.{Nothing, UntilStop, UntilHit}
use Rattle.usi_texts.specs.declared.position_command.Refusal.{Refusal}
use Rattle.usi_texts.specs.declared.position_command.Refusal.TheVariants as refusals
use Rattle.usi_session.specs.declared.state.HeldBestmove.{HeldBestmove}
use Rattle.usi_texts.specs.Options.{AreInRange}
use Rattle.usi_texts.specs.PositionCommand.{position_of_startpos, position_of_sfen}
use Rattle.usi_session.specs.declared.state.State.{State}
use Rattle.usi_texts.specs.Setup.{offers}
use Rattle.usi_texts.proofs.SetupLaws.{in_order}
use Rattle.shogi_eval.specs.declared.eval.Eval.{Eval}
use Rattle.usi_session.specs.Answer.{Answer, answer, answer_with, allowed_depth, answer_eval, depth_of_go, set_options, answer_ponderhit, answer_ponderhit_held, answer_position, answer_stop, bestmove_at, write_or_hold}
use Rattle.usi_session.specs.GoInfos.{go_infos}
use Rattle.usi_session.specs.GoTaskView.{IsBegun}
use Rattle.usi_session.proofs.answer.answer.Goals.{in-Usi+in_ok-write_usi-in-Usi, in-IsReady+in_ok-extend_from_slice-in-IsReady, in-SetDepth, in-SetEval, in-SetLines, in-NewGame, in-Startpos+in_ok-answer_position-in-Startpos, in-Sfen+in_ok-answer_position-in-Sfen, in-BadPosition+in_ok-write_bad_position-in-BadPosition, in-GoMate+in_ok-write_mate_not_implemented-in-GoMate, in-Stop+in_ok-answer_stop-in-Stop, in-PonderHit+in_ok-answer_ponderhit-in-PonderHit, in-GameOver, in-Quit, in-Other}
use Rattle.usi_session.proofs.answer.answer.Goals as goal

-- a command that starts no `go` is answered at once
at_once : (answer : Answer) (before after : List ℕ) (state : State) → after ≡ before ++ answer.bytes → state ≡ answer.state → IsBegun answer 0 [] before after state None
at_once answer before after state bytes is = record { bytes = bytes; state_is = is; load = omega arith; roots_are = refl; reports = omega arith; quiet = tt; new_go = tt }

position_keeps : (s : State) (outcome : Result Shogi Refusal) → (answer_position s outcome).state.options ≡ s.options
position_keeps s (Ok position) = refl
position_keeps s (Err (refusals.BadPosition fault)) = refl
position_keeps s (Err (refusals.IllegalMove number)) = refl

stop_keeps : (s : State) (held : Option HeldBestmove) → (answer_stop s held).state.options ≡ s.options
stop_keeps s None = refl
stop_keeps s (Some held) = refl

held_keeps : (s : State) (held : HeldBestmove) (until : Hold) → (answer_ponderhit_held s held until).state.options ≡ s.options
held_keeps s held UntilHit = refl
held_keeps s held UntilStop = refl
held_keeps s held Nothing = refl

ponderhit_keeps : (s : State) (held : Option HeldBestmove) → (answer_ponderhit s held).state.options ≡ s.options
ponderhit_keeps s None = refl
ponderhit_keeps s (Some held) = held_keeps s held held.until

go_keeps : (s : State) (infos : List ℕ) (held : HeldBestmove) (until : Hold) → (write_or_hold s infos held until).state.options ≡ s.options
go_keeps s infos held Nothing = refl
go_keeps s infos held UntilStop = refl
go_keeps s infos held UntilHit = refl

-- setting an evaluation writes nothing
eval_says : (s : State) (eval : Eval) (offered : Bool) → (cond offered (set_options s (record s.options { eval = eval })) (answer_with s [])).bytes ≡ []
eval_says s eval true = refl
eval_says s eval false = refl

says_nothing : (s : State) (eval : Eval) (before after : List ℕ) (state : State) → after ≡ before → state ≡ (answer_eval s eval).state → IsBegun (answer_eval s eval) 0 [] before after state None
says_nothing s eval before after state same is =
    let none : before ++ (answer_eval s eval).bytes ≡ before = ap (λ (said : List ℕ). before ++ said) (eval_says s eval (offers s.setup eval)) ∙ append-nil before in
    at_once (answer_eval s eval) before after state (same ∙ sym none) is

eval_keeps : (s : State) (eval : Eval) (offered : Bool) → AreInRange s.options → AreInRange (cond offered (set_options s (record s.options { eval = eval })) (answer_with s [])).state.options
eval_keeps s eval true h = record { depth_fits = h.depth_fits; multi_pv_fits = h.multi_pv_fits }
eval_keeps s eval false h = h

-- a depth capped at the setup's greatest is in its range
allowed : (s : State) (depth : ℕ) → IsDepth depth → IsDepth (allowed_depth s depth)
allowed s depth h =
    let greatest : IsDepth s.setup.max_depth = (in_order s.setup).max_depth_fits in
    record { least = omega (arith, h.least, greatest.least); most = omega (arith, h.most) }

-- a command leaves the options in their ranges
answer_in_range : (s : State) (command : Command) → AreInRange s.options → IsInRange command → AreInRange (answer s command).state.options
answer_in_range s Usi h r = h
answer_in_range s IsReady h r = h
answer_in_range s (SetDepth depth) h r = record { depth_fits = allowed s depth r; multi_pv_fits = h.multi_pv_fits }
answer_in_range s (SetEval eval) h r = eval_keeps s eval (offers s.setup eval) h
answer_in_range s (SetLines lines) h r = record { depth_fits = h.depth_fits; multi_pv_fits = r }
answer_in_range s NewGame h r = h
answer_in_range s (Startpos rest) h r = subst AreInRange (sym (position_keeps s (position_of_startpos rest))) h
answer_in_range s (Sfen rest) h r = subst AreInRange (sym (position_keeps s (position_of_sfen rest))) h
answer_in_range s BadPosition h r = h
answer_in_range s (Go depth hold) h r = subst AreInRange (sym (go_keeps s (go_infos s.position s.options.eval s.options.multi_pv (depth_of_go s depth)) (bestmove_at s.position s.options.eval (depth_of_go s depth) hold) hold)) h
answer_in_range s GoMate h r = h
answer_in_range s Stop h r = subst AreInRange (sym (stop_keeps s s.held)) h
answer_in_range s PonderHit h r = subst AreInRange (sym (ponderhit_keeps s s.held)) h
answer_in_range s GameOver h r = h
answer_in_range s Quit h r = h
answer_in_range s Other h r = h

go_depth : (depth : Option ℕ) (hold : Hold) (usual : ℕ) → IsInRange (Go depth hold) → IsDepth usual → IsDepth (unwrap_or depth usual)
go_depth None hold usual r h = h
go_depth (Some depth) hold usual r h = r

go_allowed : (s : State) (depth : Option ℕ) (hold : Hold) → AreInRange s.options → IsInRange (Go depth hold) → IsDepth (depth_of_go s depth)
go_allowed s depth hold h r = allowed s (unwrap_or depth s.options.depth) (go_depth depth hold s.options.depth r h.depth_fits)

pub answer_go-requires-clause-least : goal.answer_go-requires-clause-least
answer_go-requires-clause-least g c =
    let range : IsInRange (Go c.in-Go.depth c.in-Go.hold) = rw c.in-Go.is at c.requires.range in
    rw c.depth_of_go-depth.ensures (go_allowed c.args.state.now c.in-Go.depth c.in-Go.hold c.requires.options range).least

pub answer_go-requires-clause-most : goal.answer_go-requires-clause-most
answer_go-requires-clause-most g c =
    let range : IsInRange (Go c.in-Go.depth c.in-Go.hold) = rw c.in-Go.is at c.requires.range in
    rw c.depth_of_go-depth.ensures (go_allowed c.args.state.now c.in-Go.depth c.in-Go.hold c.requires.options range).most

pub returns-clause-begun : goal.returns-clause-begun
returns-clause-begun g c = elim c.match-command.branch [
  | in-Usi+in_ok-write_usi-in-Usi w ↦ rw w.in-Usi.is (at_once _ _ _ _ (search rules) (search rules))
  | in-IsReady+in_ok-extend_from_slice-in-IsReady w ↦ rw w.in-IsReady.is (at_once _ _ _ _ (search rules) (search rules))
  | in-SetDepth w ↦ rw w.in-SetDepth.is (at_once _ _ _ _ (search rules) (search rules))
  | in-SetEval w ↦ rw w.in-SetEval.is (says_nothing c.args.state.now w.in-SetEval.eval _ _ _ (search rules) (search rules))
  | in-SetLines w ↦ rw w.in-SetLines.is (at_once _ _ _ _ (search rules) (search rules))
  | in-NewGame w ↦ rw w.in-NewGame.is (at_once _ _ _ _ (search rules) (search rules))
  | in-Startpos+in_ok-answer_position-in-Startpos w ↦ rw w.in-Startpos.is (at_once _ _ _ _ (search rules) (search rules))
  | in-Sfen+in_ok-answer_position-in-Sfen w ↦ rw w.in-Sfen.is (at_once _ _ _ _ (search rules) (search rules))
  | in-BadPosition+in_ok-write_bad_position-in-BadPosition w ↦ rw w.in-BadPosition.is (at_once _ _ _ _ (search rules) (search rules))
  | in-GoMate+in_ok-write_mate_not_implemented-in-GoMate w ↦ rw w.in-GoMate.is (at_once _ _ _ _ (search rules) (search rules))
  | in-Stop+in_ok-answer_stop-in-Stop w ↦ rw w.in-Stop.is (at_once _ _ _ _ (search rules) (search rules))
  | in-PonderHit+in_ok-answer_ponderhit-in-PonderHit w ↦ rw w.in-PonderHit.is (at_once _ _ _ _ (search rules) (search rules))
  | in-GameOver w ↦ rw w.in-GameOver.is (at_once _ _ _ _ (search rules) (search rules))
  | in-Quit w ↦ rw w.in-Quit.is (at_once _ _ _ _ (search rules) (search rules))
  | in-Other w ↦ rw w.in-Other.is (at_once _ _ _ _ (search rules) (search rules))
]

pub returns-clause-over : goal.returns-clause-over
returns-clause-over g c = λ _ _. refl

pub returns-clause-options : goal.returns-clause-options
returns-clause-options g c =
    rw (returns-clause-begun g c).state_is (answer_in_range c.args.state.now (meaning_of c.args.command) c.requires.options c.requires.range)
