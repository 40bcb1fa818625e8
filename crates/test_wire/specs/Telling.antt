-- What a listener in memory tells (own choice).
use Rattle.std.specs.Prelude.{ℕ, List, [], None, Some, cond}
use Rattle.transport.specs.Report.{Report}
use Rattle.byte_logs.specs.Noted.{is_noted, last_under}
use Rattle.stream_transport.specs.Told.{told_by}
use Rattle.test_wire.specs.declared.returns.Remains.{Remains}

-- of a number whose stream came back, what was left of that and what it took; and what else was told of any
abbrev pub told_of : List (ℕ × Remains) → (shut failed : List (ℕ × Unit {0}))
    → Report
told_of back shut failed = record (told_by [] shut failed) {
  unread = λ number. cond (is_noted back number)
      (Some (last_under (λ remains. remains.unread.items) back number)) None;
  written = λ number. cond (is_noted back number)
      (Some (last_under (λ remains. remains.written.items) back number)) None;
}
