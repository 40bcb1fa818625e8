-- The ranges of a setup.
use Rattle.std.proofs.Common.{◌≡◌, ◌≤◌, ℕ, true}
use Rattle.std.specs.Prelude.{nat_le}
use Rattle.std.proofs.lemmas.Bool.{and_parts, leb-true}
use Rattle.usi_lines.specs.declared.options.TheConstants.{DEPTH_MIN, DEPTH_MAX, MULTI_PV_MIN, MULTI_PV_MAX}
use Rattle.usi_lines.specs.Options.{IsDepth, IsMultiPv}
use Rattle.usi_texts.specs.declared.setup.Setup.{Setup}
use Rattle.usi_texts.specs.SetupRange.{is_depth, is_multi_pv}
use Rattle.usi_texts.specs.Options.{AreInRange, options_under}

depth_in_range : (depth : ℕ) → is_depth depth ≡ true → IsDepth depth
depth_in_range depth e =
    let parts = and_parts (nat_le DEPTH_MIN depth) (nat_le depth DEPTH_MAX) e in
    record { least = leb-true DEPTH_MIN depth parts.0; most = leb-true depth DEPTH_MAX parts.1 }

lines_in_range : (multi_pv : ℕ) → is_multi_pv multi_pv ≡ true → IsMultiPv multi_pv
lines_in_range multi_pv e =
    let parts = and_parts (nat_le MULTI_PV_MIN multi_pv) (nat_le multi_pv MULTI_PV_MAX) e in
    record { least = leb-true MULTI_PV_MIN multi_pv parts.0; most = leb-true multi_pv MULTI_PV_MAX parts.1 }

-- the ranges and the order of a setup's numbers
pub record IsInOrder (setup : Setup) : Type 0 where
  pub depth_fits : IsDepth setup.depth
  pub max_depth_fits : IsDepth setup.max_depth
  pub multi_pv_fits : IsMultiPv setup.multi_pv
  pub within : setup.depth ≤ setup.max_depth

pub in_order : (setup : Setup) → IsInOrder setup
in_order setup =
    let a = and_parts _ _ setup.fits in
    let b = and_parts _ _ a.1 in
    let c = and_parts _ _ b.1 in
    record {
      depth_fits = depth_in_range setup.depth a.0;
      max_depth_fits = depth_in_range setup.max_depth b.0;
      multi_pv_fits = lines_in_range setup.multi_pv c.0;
      within = leb-true setup.depth setup.max_depth c.1;
    }

-- each initial option under a setup is in its range
pub setup_in_range : (setup : Setup) → AreInRange (options_under setup)
setup_in_range setup =
    record { depth_fits = (in_order setup).depth_fits; multi_pv_fits = (in_order setup).multi_pv_fits }
