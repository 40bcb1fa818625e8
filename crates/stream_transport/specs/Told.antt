-- What a listener tells from its records (own choice).
use Rattle.std.specs.Prelude.{ℕ, List, None, Some}
use Rattle.transport.specs.Report.{Report}
use Rattle.byte_logs.specs.Noted.{is_noted, last_under}
use Rattle.byte_logs.specs.declared.log.Bytes.{Bytes}

-- for each number: the bytes that its stream took, once taken back; whether it was shut; and whether a call of it
-- failed
abbrev pub told_by : List (ℕ × Bytes) → List (ℕ × Unit {0}) → List (ℕ × Unit {0}) → Report
told_by back shut failed = record {
  unread = λ number. None;
  given = λ number. None;
  written = λ number. Some (last_under (λ bytes. bytes.items) back number);
  is_shut = λ number. Some (is_noted shut number);
  has_failed = λ number. Some (is_noted failed number);
}
