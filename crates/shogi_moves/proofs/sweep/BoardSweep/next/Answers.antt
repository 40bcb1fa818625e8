use Rattle.std.proofs.Common.{◌≡◌, ◌∙◌, ◌∷◌, sym, refl, arith, not, true, false}
use Rattle.shogi_core.specs.declared.moves.Move.TheVariants.{Board}
use Rattle.shogi_core.specs.Bits.{has_bit}
use Rattle.shogi_core.specs.Codes.{code_of}
use Rattle.shogi_moves.specs.Sweeps.{matching_from}
use Rattle.shogi_moves.proofs.SweepLaws.{least_plain, least_promoting, least_taken, plain_kept, promoting_set, promoting_kept}
use Rattle.shogi_moves.proofs.sweep.BoardSweep.next.Goals as goal
use Rattle.shogi_moves.proofs.sweep.BoardSweep.next.Goals.{then-promote, else-promote}

pub without_lowest-requires-clause-set : goal.without_lowest-requires-clause-set
without_lowest-requires-clause-set c =
    let out : has_bit c.fill.new.self.destinations.non_promoting.bits c.lowest-lowest.result ≡ false = (rw c.of_index-to.ensures at (sym c.has-promote.ensures)) ∙ c.if-promote.true in
    promoting_set c.args.p.now c.args.capture c.fill.new.self.from c.fill.new.self.code c.fill.new.self.destinations.non_promoting.bits c.fill.new.self.destinations.promoting.bits c.lowest-lowest.result c.fill.ensures.consistent.destinations (omega arith) c.lowest-lowest.ensures.range (rw c.bitor.ensures at c.lowest-lowest.ensures.least) (rw c.bitor.ensures at c.lowest-lowest.ensures.set) out

pub without_lowest-requires-clause-least : goal.without_lowest-requires-clause-least
without_lowest-requires-clause-least c = least_promoting c.fill.new.self.destinations.non_promoting.bits c.fill.new.self.destinations.promoting.bits c.lowest-lowest.result (rw c.bitor.ensures at c.lowest-lowest.ensures.least)

pub without_lowest-requires-else-promote-clause-least : goal.without_lowest-requires-else-promote-clause-least
without_lowest-requires-else-promote-clause-least c = least_plain c.fill.new.self.destinations.non_promoting.bits c.fill.new.self.destinations.promoting.bits c.lowest-lowest.result (rw c.bitor.ensures at c.lowest-lowest.ensures.least)

pub returns-clause-consistent : goal.returns-clause-consistent
returns-clause-consistent c = elim c.if-promote.branch [
  | then-promote w ↦ (
      let out : has_bit c.fill.new.self.destinations.non_promoting.bits c.lowest-lowest.result ≡ false = (rw c.of_index-to.ensures at (sym c.has-promote.ensures)) ∙ w.if-promote.true in
      rw (w.self-is, c.code_above-self.ensures.code, w.if-promote.true, c.of_index-to.ensures) (record {
        info = c.fill.ensures.consistent.info;
        destinations = promoting_kept c.args.p.now c.args.capture c.fill.new.self.from c.fill.new.self.code c.fill.new.self.destinations.non_promoting.bits c.fill.new.self.destinations.promoting.bits c.lowest-lowest.result c.fill.ensures.consistent.destinations (omega arith) c.lowest-lowest.ensures.range (rw c.bitor.ensures at c.lowest-lowest.ensures.least) w.without_lowest.result out (promoting_set c.args.p.now c.args.capture c.fill.new.self.from c.fill.new.self.code c.fill.new.self.destinations.non_promoting.bits c.fill.new.self.destinations.promoting.bits c.lowest-lowest.result c.fill.ensures.consistent.destinations (omega arith) c.lowest-lowest.ensures.range (rw c.bitor.ensures at c.lowest-lowest.ensures.least) (rw c.bitor.ensures at c.lowest-lowest.ensures.set) out) w.without_lowest.ensures.bits;
      }))
  | else-promote w ↦ (
      let set : has_bit c.fill.new.self.destinations.non_promoting.bits c.lowest-lowest.result ≡ true = (rw c.of_index-to.ensures at (sym c.has-promote.ensures)) ∙ w.if-promote.false in
      rw (w.self-is, c.code_above-self.ensures.code, w.if-promote.false, c.of_index-to.ensures) (record {
        info = c.fill.ensures.consistent.info;
        destinations = plain_kept c.args.p.now c.args.capture c.fill.new.self.from c.fill.new.self.code c.fill.new.self.destinations.non_promoting.bits c.fill.new.self.destinations.promoting.bits c.lowest-lowest.result c.fill.ensures.consistent.destinations (omega arith) c.lowest-lowest.ensures.range (rw c.bitor.ensures at c.lowest-lowest.ensures.least) w.without_lowest-else-promote.result set w.without_lowest-else-promote.ensures.bits;
      }))
]

pub returns-clause-next : goal.returns-clause-next
returns-clause-next c =
    let code : c.if-promote.self.code ≡ c.code_above-self.result = elim c.if-promote.branch [ then-promote w ↦ rw w.self-is refl | else-promote w ↦ rw w.self-is refl ] in
    let rest : matching_from c.args.p.now c.args.capture c.fill.new.self.code ≡ code_of (Board c.fill.new.self.from c.of_index-to.result (not c.has-promote.result)) ∷ matching_from c.args.p.now c.args.capture c.if-promote.self.code =
    rw (code, c.code_above-self.ensures.code, c.has-promote.ensures, c.of_index-to.ensures) ((least_taken c.args.p.now c.args.capture c.fill.new.self.from c.fill.new.self.code c.fill.new.self.destinations.non_promoting.bits c.fill.new.self.destinations.promoting.bits c.lowest-lowest.result c.fill.ensures.consistent.destinations (omega arith) c.lowest-lowest.ensures.range (rw c.bitor.ensures at c.lowest-lowest.ensures.least) (rw c.bitor.ensures at c.lowest-lowest.ensures.set)).next) in
    (c.fill.ensures.some c.if-not-fill.false).1 ∙ rest

pub returns-clause-legal : goal.returns-clause-legal
returns-clause-legal c = rw (c.has-promote.ensures, c.of_index-to.ensures) ((least_taken c.args.p.now c.args.capture c.fill.new.self.from c.fill.new.self.code c.fill.new.self.destinations.non_promoting.bits c.fill.new.self.destinations.promoting.bits c.lowest-lowest.result c.fill.ensures.consistent.destinations (omega arith) c.lowest-lowest.ensures.range (rw c.bitor.ensures at c.lowest-lowest.ensures.least) (rw c.bitor.ensures at c.lowest-lowest.ensures.set)).legal)
