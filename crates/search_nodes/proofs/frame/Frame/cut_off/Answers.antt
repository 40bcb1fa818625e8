use Rattle.std.proofs.Common.{FitsSigned, w32}
use Rattle.std.proofs.lemmas.Int.{to_z-of_z}
use Rattle.shogi_core.specs.Codes.{code_of}
use Rattle.minimax.proofs.MinimaxLaws.{cut}
use Rattle.search_nodes.proofs.Nodes.{waits, cuts}
use Rattle.search_nodes.proofs.frame.Frame.cut_off.Goals as goal

pub invariant_of-self-clause-known : goal.invariant_of-self-clause-known
invariant_of-self-clause-known c =
    let w : _ = waits _ _ _ _ _ _ _ _ _ _ c.requires.current c.args.self.now.known in
    let f : FitsSigned w32 c.args.value = c.ranges.value in
    cuts _ _ _ _ c.args.value _ (code_of c.args.current.now) (to_z-of_z _ _ f) (cut c.args.self.now.node.position c.args.self.now.node.eval c.args.self.now.depth (code_of c.args.current.now) c.args.value w.deep w.is_listed c.requires.worth) c.requires.beta w.is_listed c.requires.worth
