-- The calls of a run in their order: replies due are written and flushed before more is read, and the result is the one that the last call asks for (own choice).
use Rattle.std.specs.Prelude.{◌≡◌, ◌+◌, ◌-◌, ◌^◌, ◌⊎◌, ℕ, List, [], ◌∷◌, ◌++◌, Bool, true, false, Option, None, Some, Result, Ok, Err}
use Rattle.usi_texts.specs.declared.setup.Setup.{Setup}
use Rattle.usi_session.specs.WholeStream.{replies_under, is_over_after_under}
use Rattle.usi_stdio.specs.Calls.{StdioCall, Read, Write, Flush, FailedRead, FailedWrite, FailedFlush, Makes}
use Rattle.usi_stdio.specs.declared.streams.StdioFault.{StdioFault}
use Rattle.usi_stdio.specs.declared.streams.StdioFault.TheVariants as fault

-- a run after some of its calls: the bytes read and the number of reads, the bytes written and whether they are flushed, and the result that the last call asks for, if any
pub record Talk : Type 0 where
  pub read : List ℕ
  pub reads : ℕ
  pub written : List ℕ
  pub is_flushed : Bool
  pub outcome : Option (Result (Unit {0}) StdioFault)

-- a run before its first call
abbrev pub no_call : Talk
no_call = record { read = []; reads = 0; written = []; is_flushed = true; outcome = None }

-- a read that gives nothing ends the input
abbrev pub asked_by_read : List ℕ → Option (Result (Unit {0}) StdioFault)
asked_by_read [] = Some (Ok tt)
asked_by_read (byte ∷ rest) = None

-- a write that takes nothing has failed
abbrev pub asked_by_write : List ℕ → Option (Result (Unit {0}) StdioFault)
asked_by_write [] = Some (Err fault.WriteFailed)
asked_by_write (byte ∷ rest) = None

abbrev pub after_call : Talk → StdioCall → Talk
after_call talk (Read bytes) =
    record talk {
      read = talk.read ++ bytes;
      reads = talk.reads + 1;
      outcome = asked_by_read bytes;
    }
after_call talk (Write bytes) =
    record talk {
      written = talk.written ++ bytes;
      is_flushed = false;
      outcome = asked_by_write bytes;
    }
after_call talk Flush = record talk { is_flushed = true }
after_call talk FailedRead = record talk { outcome = Some (Err fault.ReadFailed) }
after_call talk FailedWrite = record talk { outcome = Some (Err fault.WriteFailed) }
after_call talk FailedFlush = record talk { outcome = Some (Err fault.WriteFailed) }

abbrev pub after_calls : Talk → List StdioCall → Talk
after_calls talk [] = talk
after_calls talk (call ∷ rest) = after_calls (after_call talk call) rest

-- all replies to the bytes read, under a setup, are written and flushed
abbrev pub HasFlushedReplies : Setup → Talk → Type 0
HasFlushedReplies setup talk =
    (talk.written ≡ replies_under setup talk.read) × (talk.is_flushed ≡ true)

-- nothing is read before all replies are written and flushed, nor after the session is over
abbrev pub MayFollow : Setup → Talk → StdioCall → Type 0
MayFollow setup talk (Read bytes) =
    HasFlushedReplies setup talk × (is_over_after_under setup talk.read ≡ false)
MayFollow setup talk FailedRead =
    HasFlushedReplies setup talk × (is_over_after_under setup talk.read ≡ false)
MayFollow setup talk (Write bytes) = Unit {0}
MayFollow setup talk FailedWrite = Unit {0}
MayFollow setup talk Flush = Unit {0}
MayFollow setup talk FailedFlush = Unit {0}

-- each call may follow those before it, none of which asked for a result
abbrev pub IsDialogue : Setup → Talk → List StdioCall → Type 0
IsDialogue setup talk [] = Unit {0}
IsDialogue setup talk (call ∷ rest) =
    (talk.outcome ≡ None) × MayFollow setup talk call × IsDialogue setup (after_call talk call) rest

-- success: the input or the session has ended, and all replies are written and flushed. A fault is the one that the last call asked for, but for `OutOfMemory`, and for `ReadFailed` after 2^64 - 1 reads
abbrev pub EndsAs : Setup → Talk → Result (Unit {0}) StdioFault → Type 0
EndsAs setup talk (Ok done) =
    HasFlushedReplies setup talk
    × ((talk.outcome ≡ Some (Ok tt))
    ⊎ ((talk.outcome ≡ None) × (is_over_after_under setup talk.read ≡ true)))
EndsAs setup talk (Err fault.OutOfMemory) = talk.outcome ≡ None
EndsAs setup talk (Err fault.WriteFailed) = talk.outcome ≡ Some (Err fault.WriteFailed)
EndsAs setup talk (Err fault.ReadFailed) =
    (talk.outcome ≡ Some (Err fault.ReadFailed))
    ⊎ ((talk.outcome ≡ None) × (talk.reads ≡ 2 ^ 64 - 1))

-- the bytes written are a prefix of the replies to the bytes read
abbrev pub IsFront : Setup → Talk → Type 0
IsFront setup talk = (left : List ℕ) × (replies_under setup talk.read ≡ talk.written ++ left)

-- if calls are reported, the run is a dialogue that ends with this result
pub record Talks (setup : Setup) (old new : Option (List StdioCall))
    (result : Result (Unit {0}) StdioFault) : Type 0 where
  pub calls : List StdioCall
  pub called : Makes old new calls
  pub dialogue : IsDialogue setup no_call calls
  pub front : IsFront setup (after_calls no_call calls)
  pub ended : EndsAs setup (after_calls no_call calls) result
