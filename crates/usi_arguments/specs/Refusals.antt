-- The message and the exit status for arguments that name no job (own choice).
use Rattle.std.specs.Prelude.{ℕ, List, codes, string_bytes}
use Rattle.usi_arguments.specs.declared.arguments.ArgumentsFault.{ArgumentsFault}
use Rattle.usi_arguments.specs.declared.arguments.ArgumentsFault.TheVariants.{OutOfMemory, NotAccepted}

-- the text on standard error
abbrev pub complaint_of : ArgumentsFault → List ℕ
complaint_of OutOfMemory = codes "usi_host: out of memory\n"
complaint_of (NotAccepted text) = string_bytes text

-- 1 if memory ran out, 2 if the arguments are not accepted
abbrev pub arguments_status : ArgumentsFault → ℕ
arguments_status OutOfMemory = 1
arguments_status (NotAccepted text) = 2
