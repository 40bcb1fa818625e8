-- The calls that a wire keeps, as those that it was asked for (own choice).
use Rattle.transport.specs.Asked as asked
use Rattle.test_host.specs.declared.connections.call.Call as code
use Rattle.test_host.specs.declared.connections.call.Call.TheVariants as call

abbrev pub call_of : {A : Type 0} → code.Call A → asked.Call
call_of (call.Accept answer) = asked.Accept answer
call_of (call.Read number most) = asked.Read number most
call_of (call.Write number bytes) = asked.Write number bytes.items
call_of (call.Shut number) = asked.Shut number
call_of (call.Wait idle answer) = asked.Wait idle answer
