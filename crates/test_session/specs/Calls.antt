-- The calls that a front end keeps, as those that it reports (own choice).
use Rattle.std.specs.Prelude.{List, map, Option, Some}
use Rattle.usi_stdio.specs.Calls as told
use Rattle.test_session.specs.declared.call.Call as code
use Rattle.test_session.specs.declared.call.Call.TheVariants as call

abbrev pub call_of : {A : Type 0} → code.Call A → told.StdioCall
call_of (call.Read bytes) = told.Read bytes.items
call_of (call.Write bytes) = told.Write bytes.items
call_of call.Flush = told.Flush
call_of call.FailedRead = told.FailedRead
call_of call.FailedWrite = told.FailedWrite
call_of call.FailedFlush = told.FailedFlush

-- what a front end reports that kept these calls
abbrev pub told_by : {A : Type 0} → List (code.Call A) → Option (List told.StdioCall)
told_by calls = Some (map call_of calls)
