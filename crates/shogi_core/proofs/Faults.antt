-- The first fault of a position, rule by rule.
use Rattle.std.proofs.Common.{◌≡◌, ℕ, ◌<◌, ◌≤◌, Bool, true, false, cond, refl, sym, subst, arith, Option, Some, None, get_or}
use Rattle.std.specs.Prelude.{count_by, nat_lt}
use Rattle.std.specs.List.{list_any}
use Rattle.std.proofs.lemmas.Bool.{false_from_ne_true, both_ways, or_parts, or_from, ltb-false, le-ltb}
use Rattle.std.proofs.lemmas.List.Folds.{list_any_at}
use Rattle.shogi_core.specs.declared.piece.Color.{Color}
use Rattle.shogi_core.specs.declared.piece.Color.TheVariants.{Black, White}
use Rattle.shogi_core.specs.declared.piece.Kind.{Kind}
use Rattle.shogi_core.specs.declared.piece.Kind.TheVariants as kinds
use Rattle.shogi_core.specs.Movement.{Cells}
use Rattle.shogi_core.specs.Pieces.{all_kinds, set_size, kind_number}
use Rattle.shogi_core.specs.Position.{Shogi, HandCounts}
use Rattle.shogi_core.specs.Cell.{is_immobile_on, is_king}
use Rattle.shogi_core.specs.Validity.{fault_of, count_of, has_too_many, has_two_kings, has_two_pawns, has_two_pawns_on, pawns_on_file}
use Rattle.shogi_core.proofs.Faultless.{IsFaultless}
use Rattle.shogi_core.proofs.Below.{some_below_not, some_below_no}

-- a chain of tests without a fault failed each
pub cond_none : {F : Type 0} (b : Bool) (fault : F) (rest : Option F) → cond b (Some fault) rest ≡ None → (b ≡ false) × (rest ≡ None)
cond_none false fault rest e = (refl, e)
cond_none true fault rest e = cc

pub none_cond : {F : Type 0} (b : Bool) (fault : F) (rest : Option F) → b ≡ false → rest ≡ None → cond b (Some fault) rest ≡ None
none_cond b fault rest e f = rw (e, f) refl

pub number_below : (kind : Kind) → kind_number kind < 7
number_below kinds.Pawn = omega arith
number_below _ = omega arith

pub kind_there : (kind : Kind) → get_or all_kinds (kind_number kind) kinds.Pawn ≡ kind
kind_there kinds.Pawn = refl
kind_there _ = refl

counts_from : (cells : Cells) (hands : HandCounts) → has_too_many cells hands ≡ false → (kind : Kind) → count_of kind cells hands ≤ set_size kind
counts_from cells hands e kind =
    let test : Kind → Bool = λ (k : Kind). nat_lt (set_size k) (count_of k cells hands) in
    ltb-false (set_size kind) (count_of kind cells hands)
    (false_from_ne_true (test kind) (λ found. both_ways (list_any test all_kinds) e (list_any_at test all_kinds (kind_number kind) kinds.Pawn (number_below kind) (subst (λ (k : Kind). test k ≡ true) (sym (kind_there kind)) found))))

counts_to : (cells : Cells) (hands : HandCounts) → ((kind : Kind) → count_of kind cells hands ≤ set_size kind) → has_too_many cells hands ≡ false
counts_to cells hands h =
    let test : Kind → Bool = λ (k : Kind). nat_lt (set_size k) (count_of k cells hands) in
    let no : (k : Kind) → test k ≡ false = λ k. le-ltb (set_size k) (count_of k cells hands) (h k) in
    or_from _ _ (no kinds.Pawn) (or_from _ _ (no kinds.Lance) (or_from _ _ (no kinds.Knight) (or_from _ _ (no kinds.Silver) (or_from _ _ (no kinds.Gold) (or_from _ _ (no kinds.Bishop) (or_from _ _ (no kinds.Rook) refl))))))

kings_from : (cells : Cells) → has_two_kings cells ≡ false → (color : Color) → count_by (is_king color) cells ≤ 1
kings_from cells e Black = ltb-false 1 (count_by (is_king Black) cells) ((or_parts _ _ e).0)
kings_from cells e White = ltb-false 1 (count_by (is_king White) cells) ((or_parts (nat_lt 1 (count_by (is_king Black) cells)) _ e).1)

kings_to : (cells : Cells) → ((color : Color) → count_by (is_king color) cells ≤ 1) → has_two_kings cells ≡ false
kings_to cells h = or_from _ _ (le-ltb 1 (count_by (is_king Black) cells) (h Black)) (le-ltb 1 (count_by (is_king White) cells) (h White))

pawns_from : (cells : Cells) → has_two_pawns cells ≡ false → (color : Color) (file : ℕ) → file < 9 → pawns_on_file color file cells ≤ 1
pawns_from cells e Black file h = ltb-false 1 (pawns_on_file Black file cells) ((or_parts _ _ (some_below_not 9 (has_two_pawns_on cells) file e h)).0)
pawns_from cells e White file h = ltb-false 1 (pawns_on_file White file cells) ((or_parts (nat_lt 1 (pawns_on_file Black file cells)) _ (some_below_not 9 (has_two_pawns_on cells) file e h)).1)

pawns_to : (cells : Cells) → ((color : Color) (file : ℕ) → file < 9 → pawns_on_file color file cells ≤ 1) → has_two_pawns cells ≡ false
pawns_to cells h = some_below_no 9 (has_two_pawns_on cells) (λ file below. or_from _ _ (le-ltb 1 (pawns_on_file Black file cells) (h Black file below)) (le-ltb 1 (pawns_on_file White file cells) (h White file below)))

pub faultless_from : (p : Shogi) → fault_of p ≡ None → IsFaultless p
unfolding fault_of
faultless_from p e =
    let one = cond_none _ _ _ e in
    let two = cond_none _ _ _ (one.1) in
    let three = cond_none _ _ _ (two.1) in
    let four = cond_none _ _ _ (three.1) in
    let five = cond_none _ _ _ (four.1) in
    record {
      counts = counts_from p.cells p.hands (one.0);
      kings = kings_from p.cells (two.0);
      pawns = pawns_from p.cells (three.0);
      alive = λ square h. some_below_not 81 (is_immobile_on p.cells) square (four.0) h;
      shut = five.0;
    }

pub faultless_to : (p : Shogi) → IsFaultless p → fault_of p ≡ None
unfolding fault_of
faultless_to p h =
    none_cond _ _ _ (counts_to p.cells p.hands h.counts)
    (none_cond _ _ _ (kings_to p.cells h.kings)
    (none_cond _ _ _ (pawns_to p.cells h.pawns)
    (none_cond _ _ _ (some_below_no 81 (is_immobile_on p.cells) h.alive)
    (none_cond _ _ _ h.shut refl))))
