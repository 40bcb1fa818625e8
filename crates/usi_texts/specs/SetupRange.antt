-- The ranges of a setup (own choice).
use Rattle.std.specs.Prelude.{ℕ, Bool, ◌&&◌, nat_le}
use Rattle.usi_lines.specs.declared.options.TheConstants.{DEPTH_MIN, DEPTH_MAX, MULTI_PV_MIN, MULTI_PV_MAX}

-- the depth is in its range
abbrev pub is_depth : ℕ → Bool
is_depth depth = nat_le DEPTH_MIN depth && nat_le depth DEPTH_MAX

-- the number of best lines is in its range
abbrev pub is_multi_pv : ℕ → Bool
is_multi_pv multi_pv = nat_le MULTI_PV_MIN multi_pv && nat_le multi_pv MULTI_PV_MAX

-- each number of a setup is in its range, and the depth is not above the greatest
abbrev pub is_setup : ℕ → ℕ → ℕ → Bool
is_setup depth max_depth multi_pv =
    is_depth depth && (is_depth max_depth && (is_multi_pv multi_pv && nat_le depth max_depth))
