-- The command of a line, by its first word, and the depth in it.
use Rattle.std.proofs.Common.{◌≡◌, ℕ, Bool, cond, sym, ◌∙◌, ap, arith, List, [], ◌∷◌, Option, Some, None, max, min}
use Rattle.std.specs.Prelude.{IfSome, codes, ◌&&◌}
use Rattle.std.specs.Option.{option_map, option_map_or}
use Rattle.std.specs.Str.{bytes_eq}
use Rattle.std.proofs.lemmas.Bool.{cond_both}
use Rattle.shogi_eval.specs.declared.eval.Eval.{Eval}
use Rattle.shogi_sfen.specs.Words.{words, after_word}
use Rattle.shogi_sfen.specs.Numbers.{is_number, number_written}
use Rattle.usi_lines.specs.declared.command.Hold.{Hold}
use Rattle.usi_lines.specs.declared.options.TheConstants.{DEPTH_MIN, DEPTH_MAX, MULTI_PV_MIN, MULTI_PV_MAX}
use Rattle.usi_lines.specs.Commands.{Command, Usi, IsReady, NewGame, BadPosition, GoMate, Stop, PonderHit, GameOver, Quit, Startpos, Sfen, Other, SetDepth, SetEval, SetLines, Go}
use Rattle.usi_lines.specs.Options.{IsDepth, IsMultiPv, IsInRange, clamped_read, depth_read, eval_read, multi_pv_read, command_for, option_of}
use Rattle.usi_lines.specs.CommandLines.{depth_in_first, depth_of, position_of, hold_of, has_word, named_by, by_words, command_of}

pub command_of-none : (line : List ℕ) → words line ≡ [] → Other ≡ command_of line
unfolding command_of
command_of-none line e = sym (ap (λ (ws : List (List ℕ)). by_words ws (after_word (after_word line))) e)

pub command_of-some : (line name rest : List ℕ) → words line ≡ name ∷ words rest → rest ≡ after_word line → named_by name (words rest) (after_word rest) ≡ command_of line
unfolding command_of
command_of-some line name rest e r =
    ap (λ (t : List ℕ). named_by name (words rest) (after_word t)) r
    ∙ sym (ap (λ (ws : List (List ℕ)). by_words ws (after_word (after_word line))) e)

-- a property of each clamped number holds of a number that is read
clamped_read_fits : (least most : ℕ) (word : List ℕ) (P : ℕ → Type 0) → ((n : ℕ) → P (max least (min most n))) → IfSome (clamped_read least most word) P
clamped_read_fits least most word P h = cond_both (is_number word) (Some (min most (number_written word))) None (λ (o : Option ℕ). IfSome (option_map (max least) o) P) (λ e. h (number_written word)) (λ e. tt)

depth_clamped : (n : ℕ) → IsDepth (max DEPTH_MIN (min DEPTH_MAX n))
depth_clamped n = record { least = omega arith; most = omega arith }

depth_read_fits : (word : List ℕ) → IfSome (depth_read word) IsDepth
depth_read_fits word = clamped_read_fits DEPTH_MIN DEPTH_MAX word IsDepth depth_clamped

lines_clamped : (n : ℕ) → IsMultiPv (max MULTI_PV_MIN (min MULTI_PV_MAX n))
lines_clamped n = record { least = omega arith; most = omega arith }

multi_pv_read_fits : (word : List ℕ) → IfSome (multi_pv_read word) IsMultiPv
multi_pv_read_fits word = clamped_read_fits MULTI_PV_MIN MULTI_PV_MAX word IsMultiPv lines_clamped

depth_in_first_fits : (ws : List (List ℕ)) → IfSome (depth_in_first ws) IsDepth
depth_in_first_fits [] = tt
depth_in_first_fits (word ∷ more) = depth_read_fits word

depth_of_fits : (ws : List (List ℕ)) → IfSome (depth_of ws) IsDepth
depth_of_fits [] = tt
depth_of_fits (word ∷ more) = cond_both (bytes_eq word (codes "depth")) (depth_in_first more) (depth_of more) (λ (o : Option ℕ). IfSome o IsDepth) (λ e. depth_in_first_fits more) (λ e. depth_of_fits more)

-- each number in the command is in its range
record Fits (command : Command) : Type 0 where
  in_range : IsInRange command

depth_set_fits : (o : Option ℕ) → IfSome o IsDepth → Fits (option_map_or SetDepth o Other)
depth_set_fits None h = record { in_range = tt }
depth_set_fits (Some d) h = record { in_range = h }

eval_set_fits : (o : Option Eval) → Fits (option_map_or SetEval o Other)
eval_set_fits None = record { in_range = tt }
eval_set_fits (Some eval) = record { in_range = tt }

lines_set_fits : (o : Option ℕ) → IfSome o IsMultiPv → Fits (option_map_or SetLines o Other)
lines_set_fits None h = record { in_range = tt }
lines_set_fits (Some lines) h = record { in_range = h }

go_fits : (o : Option ℕ) (hold : Hold) → IfSome o IsDepth → Fits (Go o hold)
go_fits None hold h = record { in_range = tt }
go_fits (Some d) hold h = record { in_range = h }

either : (b : Bool) (x y : Command) → Fits x → Fits y → Fits (cond b x y)
either b x y p q = cond_both b x y Fits (λ e. p) (λ e. q)

plain : (command : Command) → IsInRange command → Fits command
plain command h = record { in_range = h }

-- a row for each option
command_for_fits : (name value : List ℕ) → Fits (command_for name value)
command_for_fits name value =
    either (bytes_eq name (codes "Depth")) _ _ (depth_set_fits (depth_read value) (depth_read_fits value)) (
    either (bytes_eq name (codes "Eval")) _ _ (eval_set_fits (eval_read value)) (
    either (bytes_eq name (codes "MultiPV")) _ _ (lines_set_fits (multi_pv_read value) (multi_pv_read_fits value)) (
    plain Other tt)))

option_fits : (ws : List (List ℕ)) → Fits (option_of ws)
option_fits [] = plain Other tt
option_fits (a ∷ []) = plain Other tt
option_fits (a ∷ b ∷ []) = plain Other tt
option_fits (a ∷ b ∷ c ∷ []) = plain Other tt
option_fits (a ∷ b ∷ c ∷ d ∷ []) =
    either (bytes_eq a (codes "name") && bytes_eq c (codes "value")) _ _ (command_for_fits b d) (plain Other tt)
option_fits (a ∷ b ∷ c ∷ d ∷ e ∷ more) = plain Other tt

position_fits : (ws : List (List ℕ)) (rest : List ℕ) → Fits (position_of ws rest)
position_fits [] rest = record { in_range = tt }
position_fits (word ∷ more) rest = either _ _ _ (plain (Startpos rest) tt) (either _ _ _ (plain (Sfen rest) tt) (plain BadPosition tt))

named_fits : (name : List ℕ) (ws : List (List ℕ)) (rest : List ℕ) → Fits (named_by name ws rest)
named_fits name ws rest =
    either (bytes_eq name (codes "usi")) _ _ (plain Usi tt) (
    either (bytes_eq name (codes "isready")) _ _ (plain IsReady tt) (
    either (bytes_eq name (codes "usinewgame")) _ _ (plain NewGame tt) (
    either (bytes_eq name (codes "stop")) _ _ (plain Stop tt) (
    either (bytes_eq name (codes "ponderhit")) _ _ (plain PonderHit tt) (
    either (bytes_eq name (codes "gameover")) _ _ (plain GameOver tt) (
    either (bytes_eq name (codes "quit")) _ _ (plain Quit tt) (
    either (bytes_eq name (codes "setoption")) _ _ (option_fits ws) (
    either (bytes_eq name (codes "position")) _ _ (position_fits ws rest) (
    either (bytes_eq name (codes "go")) _ _ (either (has_word (codes "mate") ws) _ _ (plain GoMate tt) (go_fits (depth_of ws) (hold_of ws) (depth_of_fits ws))) (
    plain Other tt))))))))))

by_words_fits : (ws : List (List ℕ)) (rest : List ℕ) → Fits (by_words ws rest)
by_words_fits [] rest = record { in_range = tt }
by_words_fits (name ∷ ws) rest = named_fits name ws rest

pub command_of_fits : (line : List ℕ) → IsInRange (command_of line)
unfolding command_of
command_of_fits line = (by_words_fits (words line) (after_word (after_word line))).in_range
