use Rattle.std.proofs.Common.{◌≡◌, ◌≤◌, ◌+◌, ◌++◌, arith, length, take, sym, ap, subst, ◌∙◌}
use Rattle.usi_lines.specs.OneLine.{IsOneLine, one_line}
use Rattle.usi_lines.proofs.OneLines.{one_line_front}
use Rattle.stream_transport.specs.ReadBuffer.{Buffered, between, lent_by}
use Rattle.stream_transport.proofs.Giving.{front_and_back, front_line, line_fits, with_rest}
use Rattle.stream_transport.proofs.kept.ReadBuffer.give_line.Goals as goal

-- bytes are left
pub returns-else-self-clause-given : goal.returns-else-self-clause-given
returns-else-self-clause-given g c =
    let within : c.self.inside.end ≤ length c.self.inside.bytes.items = omega (arith, c.self.invariant.within, c.self.inside.bytes.ok) in
    let kept : between c.self.inside.start c.self.inside.end c.self.inside.bytes.items ≡ c.args.self.now.kept = ap (λ (b : Buffered). b.kept) c.self.view_is in
    let split : between c.self.inside.start c.self.inside.end c.self.inside.bytes.items ≡ c.cut_line.result.0.now ++ c.cut_line.result.1.now = kept ∙ (sym c.as_slice.ensures ∙ c.cut_line.ensures.whole) in
    let fits : c.self.inside.start + c.min-n.result ≤ c.self.inside.end = line_fits c.self.inside.start c.self.inside.end c.min-n.result c.args.most c.self.inside.bytes.items c.cut_line.result.0.now c.cut_line.result.1.now c.self.invariant.start_before within split c.min-n.ensures in
    let line : c.cut_line.result.0.now ≡ one_line c.args.self.now.kept = c.cut_line.ensures.line ∙ ap (λ xs. one_line xs) c.as_slice.ensures in
    with_rest (lent_by c.args.spare.now) c.self.inside.start c.self.inside.end c.min-n.result c.self.inside.bytes.items within fits c.if-self.false ∙ (front_line c.self.inside.start c.self.inside.end c.min-n.result c.args.most c.self.inside.bytes.items c.cut_line.result.0.now c.cut_line.result.1.now fits split c.min-n.ensures ∙ ap (λ xs. take c.args.most xs) line)

pub returns-else-self-clause-line : goal.returns-else-self-clause-line
returns-else-self-clause-line g c = subst (λ xs. IsOneLine xs) (sym (returns-else-self-clause-given g c)) (one_line_front c.args.self.now.kept c.args.most)

pub returns-else-self-clause-kept : goal.returns-else-self-clause-kept
returns-else-self-clause-kept g c =
    let within : c.self.inside.end ≤ length c.self.inside.bytes.items = omega (arith, c.self.invariant.within, c.self.inside.bytes.ok) in
    let kept : between c.self.inside.start c.self.inside.end c.self.inside.bytes.items ≡ c.args.self.now.kept = ap (λ (b : Buffered). b.kept) c.self.view_is in
    let split : between c.self.inside.start c.self.inside.end c.self.inside.bytes.items ≡ c.cut_line.result.0.now ++ c.cut_line.result.1.now = kept ∙ (sym c.as_slice.ensures ∙ c.cut_line.ensures.whole) in
    let fits : c.self.inside.start + c.min-n.result ≤ c.self.inside.end = line_fits c.self.inside.start c.self.inside.end c.min-n.result c.args.most c.self.inside.bytes.items c.cut_line.result.0.now c.cut_line.result.1.now c.self.invariant.start_before within split c.min-n.ensures in
    ap (λ xs. xs ++ between (c.self.inside.start + c.min-n.result) c.self.inside.end c.self.inside.bytes.items) (with_rest (lent_by c.args.spare.now) c.self.inside.start c.self.inside.end c.min-n.result c.self.inside.bytes.items within fits c.if-self.false) ∙ (front_and_back c.self.inside.start c.self.inside.end c.min-n.result c.self.inside.bytes.items fits ∙ kept)

-- all bytes were given
pub returns-then-self-clause-given : goal.returns-then-self-clause-given
returns-then-self-clause-given g c =
    let within : c.self.inside.end ≤ length c.self.inside.bytes.items = omega (arith, c.self.invariant.within, c.self.inside.bytes.ok) in
    let kept : between c.self.inside.start c.self.inside.end c.self.inside.bytes.items ≡ c.args.self.now.kept = ap (λ (b : Buffered). b.kept) c.self.view_is in
    let split : between c.self.inside.start c.self.inside.end c.self.inside.bytes.items ≡ c.cut_line.result.0.now ++ c.cut_line.result.1.now = kept ∙ (sym c.as_slice.ensures ∙ c.cut_line.ensures.whole) in
    let fits : c.self.inside.start + c.min-n.result ≤ c.self.inside.end = line_fits c.self.inside.start c.self.inside.end c.min-n.result c.args.most c.self.inside.bytes.items c.cut_line.result.0.now c.cut_line.result.1.now c.self.invariant.start_before within split c.min-n.ensures in
    let line : c.cut_line.result.0.now ≡ one_line c.args.self.now.kept = c.cut_line.ensures.line ∙ ap (λ xs. one_line xs) c.as_slice.ensures in
    ap (λ v. between c.self.inside.start (c.self.inside.start + c.min-n.result) v.items) c.swap.ensures.y_after ∙ (front_line c.self.inside.start c.self.inside.end c.min-n.result c.args.most c.self.inside.bytes.items c.cut_line.result.0.now c.cut_line.result.1.now fits split c.min-n.ensures ∙ ap (λ xs. take c.args.most xs) line)

pub returns-then-self-clause-line : goal.returns-then-self-clause-line
returns-then-self-clause-line g c = subst (λ xs. IsOneLine xs) (sym (returns-then-self-clause-given g c)) (one_line_front c.args.self.now.kept c.args.most)
