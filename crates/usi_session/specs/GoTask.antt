-- The fields of a running `go`: their view and their invariant (own choice).
use Rattle.usi_session.specs.declared.go_task.GoTask.TheInside.{Inside}
use Rattle.usi_session.specs.GoTaskView.{GoTaskView}
use Rattle.usi_session.specs.Phases.{IsAtPhase, go_at}

-- the view of a running `go`, by its fields
abbrev pub go_task_in : {A : Type 0} → Inside A → GoTaskView
go_task_in g = go_at g.depth.go_request g.depth.done g.phase g.search.value

-- the invariant of the fields
abbrev pub IsGoTask : {A : Type 0} → Inside A → Type 0
IsGoTask g = IsAtPhase g.depth.go_request g.depth.done g.phase g.bestmove g.search.value
