-- The tables of gains by capture and by promotion.
use Rattle.std.proofs.Common.{◌≡◌, ◌≤◌, ◌+◌, ◌-◌, ◌*◌, get_or, refl, arith}
use Rattle.shogi_core.specs.declared.piece.Role.{Role}
use Rattle.shogi_core.specs.declared.piece.Role.TheVariants.{King, Pawn, Lance, Knight, Silver, Gold, Bishop, Rook, PromotedPawn, PromotedLance, PromotedKnight, PromotedSilver, Horse, Dragon}
use Rattle.shogi_core.specs.Pieces.{kind_of, promoted}
use Rattle.shogi_core.specs.Same.{role_number}
use Rattle.shogi_eval.specs.declared.eval.Eval.TheVariants.{Plain, Hand, Exchange}
use Rattle.shogi_eval.specs.declared.gain.TheConstants.{PLAIN_GAINS, HAND_GAINS, PROMOTION_GAIN_MAX, PROMOTION_GAINS}
use Rattle.shogi_eval.specs.declared.points.TheConstants.{PIECE_VALUE_MAX}
use Rattle.shogi_eval.specs.Material.{value_of, value_of_captured}

pub plain_gain : (role : Role) → get_or PLAIN_GAINS (role_number role) 0 ≡ value_of role + value_of_captured Plain (kind_of role)
plain_gain King = refl
plain_gain Pawn = refl
plain_gain Lance = refl
plain_gain Knight = refl
plain_gain Silver = refl
plain_gain Gold = refl
plain_gain Bishop = refl
plain_gain Rook = refl
plain_gain PromotedPawn = refl
plain_gain PromotedLance = refl
plain_gain PromotedKnight = refl
plain_gain PromotedSilver = refl
plain_gain Horse = refl
plain_gain Dragon = refl

pub exchange_gain : (role : Role) → get_or PLAIN_GAINS (role_number role) 0 ≡ value_of role + value_of_captured Exchange (kind_of role)
exchange_gain King = refl
exchange_gain Pawn = refl
exchange_gain Lance = refl
exchange_gain Knight = refl
exchange_gain Silver = refl
exchange_gain Gold = refl
exchange_gain Bishop = refl
exchange_gain Rook = refl
exchange_gain PromotedPawn = refl
exchange_gain PromotedLance = refl
exchange_gain PromotedKnight = refl
exchange_gain PromotedSilver = refl
exchange_gain Horse = refl
exchange_gain Dragon = refl

pub plain_range : (role : Role) → get_or PLAIN_GAINS (role_number role) 0 ≤ 2 * PIECE_VALUE_MAX
plain_range King = omega arith
plain_range Pawn = omega arith
plain_range Lance = omega arith
plain_range Knight = omega arith
plain_range Silver = omega arith
plain_range Gold = omega arith
plain_range Bishop = omega arith
plain_range Rook = omega arith
plain_range PromotedPawn = omega arith
plain_range PromotedLance = omega arith
plain_range PromotedKnight = omega arith
plain_range PromotedSilver = omega arith
plain_range Horse = omega arith
plain_range Dragon = omega arith

pub hand_gain : (role : Role) → get_or HAND_GAINS (role_number role) 0 ≡ value_of role + value_of_captured Hand (kind_of role)
hand_gain King = refl
hand_gain Pawn = refl
hand_gain Lance = refl
hand_gain Knight = refl
hand_gain Silver = refl
hand_gain Gold = refl
hand_gain Bishop = refl
hand_gain Rook = refl
hand_gain PromotedPawn = refl
hand_gain PromotedLance = refl
hand_gain PromotedKnight = refl
hand_gain PromotedSilver = refl
hand_gain Horse = refl
hand_gain Dragon = refl

pub hand_range : (role : Role) → get_or HAND_GAINS (role_number role) 0 ≤ 2 * PIECE_VALUE_MAX
hand_range King = omega arith
hand_range Pawn = omega arith
hand_range Lance = omega arith
hand_range Knight = omega arith
hand_range Silver = omega arith
hand_range Gold = omega arith
hand_range Bishop = omega arith
hand_range Rook = omega arith
hand_range PromotedPawn = omega arith
hand_range PromotedLance = omega arith
hand_range PromotedKnight = omega arith
hand_range PromotedSilver = omega arith
hand_range Horse = omega arith
hand_range Dragon = omega arith

pub promotion_gain : (role : Role) → get_or PROMOTION_GAINS (role_number role) 0 ≡ value_of (promoted role) - value_of role
promotion_gain King = refl
promotion_gain Pawn = refl
promotion_gain Lance = refl
promotion_gain Knight = refl
promotion_gain Silver = refl
promotion_gain Gold = refl
promotion_gain Bishop = refl
promotion_gain Rook = refl
promotion_gain PromotedPawn = refl
promotion_gain PromotedLance = refl
promotion_gain PromotedKnight = refl
promotion_gain PromotedSilver = refl
promotion_gain Horse = refl
promotion_gain Dragon = refl

pub promotion_range : (role : Role) → get_or PROMOTION_GAINS (role_number role) 0 ≤ PROMOTION_GAIN_MAX
promotion_range King = omega arith
promotion_range Pawn = omega arith
promotion_range Lance = omega arith
promotion_range Knight = omega arith
promotion_range Silver = omega arith
promotion_range Gold = omega arith
promotion_range Bishop = omega arith
promotion_range Rook = omega arith
promotion_range PromotedPawn = omega arith
promotion_range PromotedLance = omega arith
promotion_range PromotedKnight = omega arith
promotion_range PromotedSilver = omega arith
promotion_range Horse = omega arith
promotion_range Dragon = omega arith

pub ruleset gains = (plain_gain, exchange_gain, plain_range, hand_gain, hand_range, promotion_gain, promotion_range)
