-- A safe move leaves a valid position.
use Rattle.std.proofs.Common.{◌≡◌, ℕ, ◌<◌, ◌≤◌, Bool, true, arith, None}
use Rattle.std.proofs.lemmas.Bool.{and_parts}
use Rattle.shogi_core.specs.declared.moves.Move.{Move}
use Rattle.shogi_core.specs.declared.moves.Move.TheVariants.{Board, Drop}
use Rattle.shogi_core.specs.Position.{Shogi, count_in_hand}
use Rattle.shogi_core.proofs.Faults.{faultless_from, faultless_to}
use Rattle.shogi_moves.specs.Legal.{is_safe, is_legal}
use Rattle.shogi_core.specs.declared.piece.Color.{Color}
use Rattle.shogi_core.specs.declared.piece.Kind.{Kind}
use Rattle.shogi_core.specs.Pieces.{set_size}
use Rattle.shogi_core.specs.Validity.{IsValid, fault_of}
use Rattle.shogi_moves.specs.After.{after}
use Rattle.shogi_moves.proofs.KeepsBoard.{faultless_after_board}
use Rattle.shogi_moves.proofs.KeepsDrop.{faultless_after_drop, safe_drop}
use Rattle.shogi_moves.proofs.LegalLaws.{after_code_of}

set_size_fits : (kind : Kind) → set_size kind ≤ 18
set_size_fits kind = grind arith

-- a count in hand fits a byte, as a set has fewer pieces of the kind
pub held_fits : (p : Shogi) (side : Color) (kind : Kind) → IsValid p → count_in_hand p.hands side kind < 255
held_fits p side kind valid = grind (arith, (faultless_from p valid.no_fault).counts kind, set_size_fits kind)

-- a dropped piece was in hand
pub held_some : (p : Shogi) (kind : Kind) (to : ℕ) → is_safe p (Drop kind to) ≡ true → 1 ≤ count_in_hand p.hands p.side kind
held_some p kind to safe = omega (arith, (safe_drop p kind to safe).held_one)

-- the position after a safe move has no fault
pub no_fault_after_board : (p : Shogi) (from to : ℕ) (promote : Bool) → is_safe p (Board from to promote) ≡ true → IsValid p → from < 81 → to < 81 → fault_of (after p (Board from to promote)) ≡ None
no_fault_after_board p from to promote safe valid hfrom hto = faultless_to (after p (Board from to promote)) (faultless_after_board p from to promote valid hfrom hto safe)

pub no_fault_after_drop : (p : Shogi) (kind : Kind) (to : ℕ) → is_safe p (Drop kind to) ≡ true → IsValid p → to < 81 → fault_of (after p (Drop kind to)) ≡ None
no_fault_after_drop p kind to safe valid hto = faultless_to (after p (Drop kind to)) (faultless_after_drop p kind to valid hto safe)

-- a legal move is safe
pub is_safe_from_legal : (p : Shogi) (m : Move) → is_legal p m ≡ true → is_safe p m ≡ true
unfolding is_legal
is_safe_from_legal p m e = (and_parts (is_safe p m) _ e).0

pub ruleset keeping = (no_fault_after_board, no_fault_after_drop)

pub ruleset making = (is_safe_from_legal, after_code_of)
