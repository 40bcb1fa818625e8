use Rattle.std.proofs.Common.{ℕ, [], false, ◌+◌, IsOk, OnOk, Result, ◌≡◌, ◌∙◌, ◌<◌, ◌≤◌, ◌++◌, List, arith, Ok, Err, ap, length, take, refl, rules, subst, sym}
use Rattle.std.specs.Prelude.{min}
use Rattle.std.proofs.lemmas.Bool.{both_ways}
use Rattle.test_wire.specs.declared.memory.TheConstants.{LENT_MAX}
use Rattle.transport.specs.declared.wire.WireFault.TheVariants.{Device}
use Rattle.test_wire.specs.Memory.{PeerState, WireState, after_failing, called, fails_for, got_from, past_empty, peer_of}
use Rattle.test_wire.proofs.Changes.{first, peer_same, read_is, reads, reads_failing, second, within_more}
use Rattle.test_wire.proofs.memory.MemoryWireWire.read.Goals as goal

pub returns-then-fails_for-clause-answer : goal.returns-then-fails_for-clause-answer
returns-then-fails_for-clause-answer g c = first (fails_for c.args.self.now c.args.number) (Err Device) _ (sym c.if-fails_for.ensures.test)

pub returns-then-fails_for-clause-after : goal.returns-then-fails_for-clause-after
returns-then-fails_for-clause-after g c = c.if-fails_for.ensures.after ∙ first (fails_for c.args.self.now c.args.number) (after_failing c.args.self.now c.args.number) _ (sym c.if-fails_for.ensures.test)

pub returns-then-fails_for-clause-bound : goal.returns-then-fails_for-clause-bound
returns-then-fails_for-clause-bound g c = ap (λ (w : WireState). w.accepted) c.if-fails_for.ensures.after

pub returns-then-fails_for-clause-read : goal.returns-then-fails_for-clause-read
returns-then-fails_for-clause-read g c = reads_failing c.args.self.now c.fails_for.new.self c.args.number _ c.if-fails_for.ensures.after

pub returns-then-fails_for-clause-cause : goal.returns-then-fails_for-clause-cause
returns-then-fails_for-clause-cause g c = (c.if-fails_for.ensures.rises, (λ _. c.if-fails_for.ensures.cause refl))

pub index_mut-requires : goal.index_mut-requires
index_mut-requires g c =
    let known : c.args.number < length c.self.inside.peers.items = subst (λ (w : WireState). c.args.number < length w.peers) (sym c.self.view_is) (c.if-fails_for.ensures.known refl) in
    omega (arith, known, c.self.inside.peers.ok)

-- what is there has the value that is promised then
there : {T E P : Type 0} (r : Result T E) → IsOk r → OnOk r P → P
there (Ok x) is p = p
there (Err e) is p = absurd (both_ways false refl is)

-- what fits is taken
taken : {T E : Type 0} (r : Result T E) (before given after buf : List ℕ) (n most : ℕ) → OnOk r (after ≡ before ++ given) → (length before + length given ≤ LENT_MAX → IsOk r) → before ≡ [] → given ≡ take n buf → length given ≡ n → n ≤ min most LENT_MAX → after ≡ take n buf
taken r before given after buf n most ok fits none is len le =
    let empty : length before ≡ 0 = ap length none in
    there r (fits (omega (arith, empty, len, le))) ok ∙ (ap (λ xs. xs ++ given) none ∙ is)

pub returns-clause-answer : goal.returns-clause-answer
returns-clause-answer g c =
    let same : _ ≡ called c.args.self.now = c.self.view_is ∙ c.if-fails_for.ensures.after in
    let known : c.args.number < length c.self.inside.peers.items = subst (λ (w : WireState). c.args.number < length w.peers) (sym c.self.view_is) (c.if-fails_for.ensures.known refl) in
    let is : c.index_mut.result.now ≡ peer_of c.args.self.now c.args.number = peer_same c.args.self.now c.self.inside.peers.items c.args.number c.index_mut.result.now (ap (λ (w : WireState). w.peers) same) known c.index_mut.ensures.value in
    let len : length c.split_at_mut-front.result.0.now ≡ min c.args.most LENT_MAX = c.split_at_mut-front.ensures.front_len ∙ c.min.ensures in
    ap Ok (rw len at c.read-got.ensures.got ∙ ap (λ (p : PeerState). got_from (past_empty p.chunks) (min c.args.most LENT_MAX)) is)
    ∙ second (fails_for c.args.self.now c.args.number) (Err Device) _ (sym c.if-fails_for.ensures.test)

pub returns-clause-after : goal.returns-clause-after
returns-clause-after g c =
    let same : _ ≡ called c.args.self.now = c.self.view_is ∙ c.if-fails_for.ensures.after in
    let known : c.args.number < length c.self.inside.peers.items = subst (λ (w : WireState). c.args.number < length w.peers) (sym c.self.view_is) (c.if-fails_for.ensures.known refl) in
    let len : length c.split_at_mut-front.result.0.now ≡ min c.args.most LENT_MAX = c.split_at_mut-front.ensures.front_len ∙ c.min.ensures in
    let lent : c.try_extend_from_slice-fits.new.self.items ≡ take c.read-got.result.1 c.read-got.new.buf = taken c.try_extend_from_slice-fits.result c.clear.new.self.items c.split_at.result.0.now _ c.read-got.new.buf c.read-got.result.1 c.args.most c.try_extend_from_slice-fits.ensures.ok c.try_extend_from_slice-fits.ensures.variant.1 c.clear.ensures c.split_at.ensures.front c.split_at.ensures.front_len (rw len at c.read-got.ensures.fits) in
    read_is c.args.self.now _ c.args.number (min c.args.most LENT_MAX) c.index_mut.result.now c.read-got.new.self c.try_extend_from_slice-fits.new.self.items same (sym c.if-fails_for.ensures.test) known c.index_mut.ensures.value (rw len at c.read-got.ensures.left) (lent ∙ rw len at c.read-got.ensures.given.all)

pub returns-clause-within : goal.returns-clause-within
returns-clause-within g c =
    let len : length c.split_at_mut-front.result.0.now ≡ min c.args.most LENT_MAX = c.split_at_mut-front.ensures.front_len ∙ c.min.ensures in
    let lent : c.try_extend_from_slice-fits.new.self.items ≡ take c.read-got.result.1 c.read-got.new.buf = taken c.try_extend_from_slice-fits.result c.clear.new.self.items c.split_at.result.0.now _ c.read-got.new.buf c.read-got.result.1 c.args.most c.try_extend_from_slice-fits.ensures.ok c.try_extend_from_slice-fits.ensures.variant.1 c.clear.ensures c.split_at.ensures.front c.split_at.ensures.front_len (rw len at c.read-got.ensures.fits) in
    rw lent (within_more (Ok c.read-got.result.0) (min c.args.most LENT_MAX) c.args.most (take c.read-got.result.1 c.read-got.new.buf) (omega arith) (rw len at c.read-got.ensures.within))

pub returns-clause-bound : goal.returns-clause-bound
returns-clause-bound g c = ap (λ (w : WireState). w.accepted) (c.self.view_is ∙ c.if-fails_for.ensures.after)

pub returns-clause-read : goal.returns-clause-read
returns-clause-read g c =
    let same : _ ≡ called c.args.self.now = c.self.view_is ∙ c.if-fails_for.ensures.after in
    let known : c.args.number < length c.self.inside.peers.items = subst (λ (w : WireState). c.args.number < length w.peers) (sym c.self.view_is) (c.if-fails_for.ensures.known refl) in
    let len : length c.split_at_mut-front.result.0.now ≡ min c.args.most LENT_MAX = c.split_at_mut-front.ensures.front_len ∙ c.min.ensures in
    let lent : c.try_extend_from_slice-fits.new.self.items ≡ take c.read-got.result.1 c.read-got.new.buf = taken c.try_extend_from_slice-fits.result c.clear.new.self.items c.split_at.result.0.now _ c.read-got.new.buf c.read-got.result.1 c.args.most c.try_extend_from_slice-fits.ensures.ok c.try_extend_from_slice-fits.ensures.variant.1 c.clear.ensures c.split_at.ensures.front c.split_at.ensures.front_len (rw len at c.read-got.ensures.fits) in
    rw lent (reads c.args.self.now.peers c.self.inside.peers.items c.args.number (length c.split_at_mut-front.result.0.now) c.index_mut.result.now c.read-got.new.self c.read-got.result.0 (take c.read-got.result.1 c.read-got.new.buf) (ap (λ (w : WireState). w.peers) same) known c.index_mut.ensures.value
    c.read-got.ensures.left c.read-got.ensures.consumed c.read-got.ensures.ended)

pub returns-clause-cause : goal.returns-clause-cause
returns-clause-cause g c = (subst (λ (w : WireState). c.args.self.now.failed ≤ w.failed) (sym c.self.view_is) c.if-fails_for.ensures.rises, search rules)
