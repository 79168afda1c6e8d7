-- `search::search::problem_of` meets its contract. Assumes nothing.
use mathlib.Core.Path.{refl}
use native.Mathlib.Omega.{arith}
use Rattle.laws.specs.Lists.{Lists, job_lists}
use Rattle.fillings.proofs.ByCode.BoundaryCodes.{accepted_triangles_few}
use Rattle.search.proofs.Preparing.{prepared_of}
use Rattle.search.proofs.search.problem_of.Goals as goal

pub pool-requires : goal.pool-requires
pool-requires c =
    let a = c.args in
    let few = accepted_triangles_few (job_lists a.points.now a.triangles.now a.kept.now a.inner.now a.table.now) c.requires.0 in omega arith

pub returns-clause-prepared : goal.returns-clause-prepared
returns-clause-prepared c =
    let q = c.requires in
    let a = c.args in
    prepared_of (record { points = a.points; triangles = a.triangles; kept = a.kept; inner = a.inner; table = a.table }) a.faces.now a.candidates.now _ refl c.pool.ensures refl q.0 q.1 q.2 q.3 q.4
