-- The product is exact, and cut to a whole number it is the light's units.
use Rattle.std.proofs.Common.{T, sym, ◌∙◌, subst}
use lib.Ieee.{binary32, fits}
use Rattle.light_units.specs.UnitsLaws.{units_most}
use Rattle.light_units.proofs.Scaled.{cut_of}
use Rattle.light_units.proofs.inner.units_of.Goals as goal
use Rattle.light_units.proofs.inner.units_of.Goals.{Start}

held : (c : Start) → T (fits binary32 c.args.light)
held c = subst T (sym c.well_formed.0.1) tt

pub truncating_f32_to_u64-requires : goal.truncating_f32_to_u64-requires
truncating_f32_to_u64-requires c =
    let p = cut_of c.args.light (held c) c.requires in record {
      lower_bound = p.above;
      upper_bound = p.below;
    }

pub returns : goal.returns
returns c =
    let s = c.before in
    let e = c.truncating_f32_to_u64.ensures ∙ (cut_of s.args.light (held s) s.requires).whole in
    (e, rw e (units_most s.args.light s.requires))
