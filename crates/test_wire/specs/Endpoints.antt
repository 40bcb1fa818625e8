-- The calls of an endpoint and of a binder in memory, by what was noted of each (own choice).
use Rattle.std.specs.Prelude.{ℕ, List, [], map}
use Rattle.stream_transport.specs.System.{Accept, BinderCall, Listen, Name, NameListener, Open, Poll, SystemCall, most_of}
use Rattle.byte_logs.specs.declared.log.Bytes.{Bytes}
use Rattle.test_wire.specs.declared.socket.BinderStep.{BinderStep}
use Rattle.test_wire.specs.declared.socket.BinderStep.TheVariants as steps
use Rattle.test_wire.specs.declared.socket.EndpointCall.{EndpointCall}
use Rattle.test_wire.specs.declared.socket.EndpointCall.TheVariants as noted

-- a call that was noted; its polls give no events
abbrev pub call_of : EndpointCall → SystemCall
call_of (noted.Accept answer) = Accept answer
call_of (noted.Name number answer) = Name number answer
call_of (noted.NameListener number answer) = NameListener number answer
call_of (noted.Poll patience answer) = Poll (most_of patience) [] answer

abbrev pub calls_of : List (EndpointCall × Unit {0}) → List SystemCall
calls_of noted = map (λ pair. call_of pair.0) noted

-- a call of a binder that was noted, with its path
abbrev pub step_of : BinderStep → List ℕ → BinderCall
step_of (steps.Open answer) path = Open answer
step_of (steps.Listen answer) path = Listen path answer

abbrev pub steps_of : List (BinderStep × Bytes) → List BinderCall
steps_of noted = map (λ pair. step_of pair.0 pair.1.items) noted
