-- `candidates::boundary::Faces::new` meets its contract: signs, codes and flags. Assumes nothing.
use native.Mathlib.Omega.{arith}
use Rattle.laws.proofs.Choice.Conditions.{accepted}
use Rattle.trail.specs.Pool.{lists_of}
use Rattle.fillings.proofs.ByCode.BoundaryCodes.{accepted_points_few, accepted_triangles_below_16, accepted_triangles_few, boundary_code_flags}
use Rattle.candidates.proofs.boundary.Faces.new.Goals as goal

pub fill_rows-requires : goal.fill_rows-requires
fill_rows-requires c =
    let l = lists_of c.args.lists.now in ((accepted l c.requires).near, accepted_points_few l c.requires, omega arith)

pub boundary_codes-boundary-requires : goal.boundary_codes-boundary-requires
boundary_codes-boundary-requires c =
    let l = lists_of c.args.lists.now in (accepted_triangles_few l c.requires, accepted_triangles_below_16 l c.requires)

pub returns : goal.returns
returns c =
    record {
      signs = c.fill_rows.ensures;
      boundary_codes = c.boundary_codes-boundary.ensures.0;
      bounds = boundary_code_flags (lists_of c.args.lists.now) c.boundary_codes-boundary.ensures.0 c.named-bound.ensures;
      bound_long = omega arith;
    }
