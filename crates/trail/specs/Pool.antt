-- A job's lists and a pool as they are lent, read as what the laws and the theory of fillings speak of. Assumes nothing: these are definitions.
use Rattle.std.specs.Prelude.{List}
use Rattle.geometry.specs.declared.tetrahedron.Four.{Four}
use Rattle.laws.specs.Laws.{fours_in}
use Rattle.laws.specs.Lists.{Lists, job_lists}
use Rattle.trail.specs.declared.pool.Lists.{Lists as LentLists}
use Rattle.trail.specs.declared.pool.Pool.{Pool}

-- a job by its lists
abbrev pub lists_of : LentLists → Lists
lists_of l = job_lists l.points.now l.triangles.now l.kept.now l.inner.now l.table.now

-- the candidates of a pool
abbrev pub fours_of : Pool → List Four
fours_of p = fours_in p.m p.fours.now
