-- The first line of a stream that arrived whole.
use Rattle.std.proofs.Common.{◌≡◌, ℕ, ◌+◌, ◌-◌, ◌≤◌, ◌<◌, refl, sym, ◌∙◌, ap, arith, List, [], ◌∷◌, ◌++◌, length, take, drop, append-nil}
use Rattle.std.specs.List.{position_or_len}
use Rattle.std.specs.Str.Lines.{strip_carriage_return}
use Rattle.usi_lines.specs.Lines.{Text, TooLong, is_line_feed, lines}
use Rattle.usi_lines.proofs.LineLaws.{lines-long, lines-open}
use Rattle.usi_lines.proofs.Waiting.{ahead_text}
use Rattle.usi_lines.specs.declared.line.TheConstants.{LINE_MAX}

pub lines-none : lines [] ≡ []
lines-none = lines-open [] refl (omega arith)

pub first_text : (bytes : List ℕ) (n : ℕ) → n ≡ position_or_len is_line_feed bytes → n < length bytes → n ≤ LINE_MAX → lines bytes ≡ Text (strip_carriage_return (take n bytes)) ∷ lines (drop (n + 1) bytes)
first_text bytes n e below fits =
    let same : n - 0 ≡ n = omega arith in
    let t = ahead_text bytes 0 n (record { within = omega arith; searched = omega arith }) below (omega arith) [] in
    ap lines (sym (append-nil bytes)) ∙ (t ∙ (ap (λ k. Text (strip_carriage_return (take k bytes)) ∷ lines (drop (n + 1) bytes ++ [])) same ∙ ap (λ rest. Text (strip_carriage_return (take n bytes)) ∷ lines rest) (append-nil (drop (n + 1) bytes))))

pub first_long : (bytes : List ℕ) (n : ℕ) → n ≡ position_or_len is_line_feed bytes → LINE_MAX < n → lines bytes ≡ TooLong ∷ lines []
first_long bytes n e long = lines-long bytes (omega arith) ∙ ap (λ rest. TooLong ∷ rest) (sym lines-none)

pub first_none : (bytes : List ℕ) (n : ℕ) → n ≡ position_or_len is_line_feed bytes → n ≤ LINE_MAX → n ≡ length bytes → lines bytes ≡ []
first_none bytes n e fits all = lines-open bytes (omega arith) (omega arith)
