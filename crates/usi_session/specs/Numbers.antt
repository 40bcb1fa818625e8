-- The numbers that a front end meets (own choice, but for the one line that is usual, which is USI's).
use Rattle.std.specs.Prelude.{◌≡◌, pos}
use Rattle.minimax.specs.declared.bounds.TheConstants.{SEARCH_DEPTH_MAX, INFINITY, MATE}
use Rattle.usi_lines.specs.declared.line.TheConstants.{LINE_MAX, LINE_FEED}
use Rattle.usi_lines.specs.declared.options.TheConstants.{DEPTH_MIN, DEPTH_MAX, MULTI_PV_MIN, MULTI_PV_MAX}
use Rattle.usi_session.specs.declared.limits.TheConstants.{CHUNK_MAX, QUEUE_FULL}
use Rattle.usi_texts.specs.declared.setup.TheConstants.{DEPTH_DEFAULT, MULTI_PV_DEFAULT}

-- depths, in plies
pub record AreDepths : Type 0 where
  pub least : DEPTH_MIN ≡ 1
  pub usual : DEPTH_DEFAULT ≡ 3
  pub greatest : DEPTH_MAX ≡ 16
  pub searched : SEARCH_DEPTH_MAX ≡ 16

-- numbers of lines of a `go` (MultiPV)
pub record AreLines : Type 0 where
  pub least : MULTI_PV_MIN ≡ 1
  pub usual : MULTI_PV_DEFAULT ≡ 1
  pub greatest : MULTI_PV_MAX ≡ 8

-- bytes: the line end, the most of a line without it, the most of one `feed`, and a full queue
pub record AreBytes : Type 0 where
  pub line_end : LINE_FEED ≡ 10
  pub line : LINE_MAX ≡ 65535
  pub chunk : CHUNK_MAX ≡ 4096
  pub queue : QUEUE_FULL ≡ 65536

-- values: a win, to which the plies left are added, and the bound above all values
pub record AreValues : Type 0 where
  pub mate : MATE ≡ pos 30000
  pub infinity : INFINITY ≡ pos 31000

pub record AreNumbers : Type 0 where
  pub depths : AreDepths
  pub lines : AreLines
  pub bytes : AreBytes
  pub values : AreValues
