use Rattle.std.proofs.Common.{◌≡◌, ℕ, false}
use Rattle.shogi_core.specs.declared.piece.Kind.{Kind}
use Rattle.shogi_core.specs.Bits.{has_bit}
use Rattle.analogous_moves.specs.PassedReplies.{DropsAreNoThreatIn, DropsGetNoThreatsIn}
use Rattle.analogous_moves.proofs.PassedReplyLaws.{each_kind, off_left, off_right}
use Rattle.analogous_moves.proofs.passed_reply.PassedReply.relied_on_for_kinds.Goals as goal

pub returns-clause-no_threat : goal.returns-clause-no_threat
returns-clause-no_threat c = each_kind (λ (kind : Kind). DropsAreNoThreatIn c.args.self.now kind) c.in_ok-pawn.ensures.no_threat c.in_ok-lance.ensures.no_threat c.in_ok-knight.ensures.no_threat c.in_ok-silver.ensures.no_threat c.in_ok-gold.ensures.no_threat c.in_ok-bishop.ensures.no_threat c.in_ok-rook.ensures.no_threat

pub returns-clause-relied : goal.returns-clause-relied
returns-clause-relied c =
    let l5 : (a : ℕ) → has_bit c.bitor-6.result.bits a ≡ false → has_bit c.bitor-5.result.bits a ≡ false = λ a out. off_left c.bitor-5.result.bits c.in_ok-rook.rook.bits a (rw c.bitor-6.ensures at (out)) in
    let r5 : (a : ℕ) → has_bit c.bitor-6.result.bits a ≡ false → has_bit c.in_ok-rook.rook.bits a ≡ false = λ a out. off_right c.bitor-5.result.bits c.in_ok-rook.rook.bits a (rw c.bitor-6.ensures at (out)) in
    let l4 : (a : ℕ) → has_bit c.bitor-6.result.bits a ≡ false → has_bit c.bitor-4.result.bits a ≡ false = λ a out. off_left c.bitor-4.result.bits c.in_ok-bishop.bishop.bits a (rw c.bitor-5.ensures at (l5 a out)) in
    let r4 : (a : ℕ) → has_bit c.bitor-6.result.bits a ≡ false → has_bit c.in_ok-bishop.bishop.bits a ≡ false = λ a out. off_right c.bitor-4.result.bits c.in_ok-bishop.bishop.bits a (rw c.bitor-5.ensures at (l5 a out)) in
    let l3 : (a : ℕ) → has_bit c.bitor-6.result.bits a ≡ false → has_bit c.bitor-3.result.bits a ≡ false = λ a out. off_left c.bitor-3.result.bits c.in_ok-gold.gold.bits a (rw c.bitor-4.ensures at (l4 a out)) in
    let r3 : (a : ℕ) → has_bit c.bitor-6.result.bits a ≡ false → has_bit c.in_ok-gold.gold.bits a ≡ false = λ a out. off_right c.bitor-3.result.bits c.in_ok-gold.gold.bits a (rw c.bitor-4.ensures at (l4 a out)) in
    let l2 : (a : ℕ) → has_bit c.bitor-6.result.bits a ≡ false → has_bit c.bitor-2.result.bits a ≡ false = λ a out. off_left c.bitor-2.result.bits c.in_ok-silver.silver.bits a (rw c.bitor-3.ensures at (l3 a out)) in
    let r2 : (a : ℕ) → has_bit c.bitor-6.result.bits a ≡ false → has_bit c.in_ok-silver.silver.bits a ≡ false = λ a out. off_right c.bitor-2.result.bits c.in_ok-silver.silver.bits a (rw c.bitor-3.ensures at (l3 a out)) in
    let l1 : (a : ℕ) → has_bit c.bitor-6.result.bits a ≡ false → has_bit c.bitor.result.bits a ≡ false = λ a out. off_left c.bitor.result.bits c.in_ok-knight.knight.bits a (rw c.bitor-2.ensures at (l2 a out)) in
    let r1 : (a : ℕ) → has_bit c.bitor-6.result.bits a ≡ false → has_bit c.in_ok-knight.knight.bits a ≡ false = λ a out. off_right c.bitor.result.bits c.in_ok-knight.knight.bits a (rw c.bitor-2.ensures at (l2 a out)) in
    let l0 : (a : ℕ) → has_bit c.bitor-6.result.bits a ≡ false → has_bit c.in_ok-pawn.pawn.bits a ≡ false = λ a out. off_left c.in_ok-pawn.pawn.bits c.in_ok-lance.lance.bits a (rw c.bitor.ensures at (l1 a out)) in
    let r0 : (a : ℕ) → has_bit c.bitor-6.result.bits a ≡ false → has_bit c.in_ok-lance.lance.bits a ≡ false = λ a out. off_right c.in_ok-pawn.pawn.bits c.in_ok-lance.lance.bits a (rw c.bitor.ensures at (l1 a out)) in
    each_kind (λ (kind : Kind). DropsGetNoThreatsIn c.args.self.now kind c.bitor-6.result.bits)
    (λ some a h out. c.in_ok-pawn.ensures.relied some a h (l0 a out))
    (λ some a h out. c.in_ok-lance.ensures.relied some a h (r0 a out))
    (λ some a h out. c.in_ok-knight.ensures.relied some a h (r1 a out))
    (λ some a h out. c.in_ok-silver.ensures.relied some a h (r2 a out))
    (λ some a h out. c.in_ok-gold.ensures.relied some a h (r3 a out))
    (λ some a h out. c.in_ok-bishop.ensures.relied some a h (r4 a out))
    (λ some a h out. c.in_ok-rook.ensures.relied some a h (r5 a out))
