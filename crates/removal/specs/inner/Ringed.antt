-- What a lent ring stands for: its job, its rows as lists of fours, and a row's fours. Assumes nothing: these are definitions.
use Rattle.std.specs.Prelude.{List, [], ℕ, length}
use Rattle.geometry.specs.declared.tetrahedron.Four.{Four}
use Rattle.laws.specs.Laws.{Job}
use Rattle.laws.specs.Lists.{job_lists, with_table}
use Rattle.laws.specs.Check.{job}
use Rattle.triangulations.specs.Rings.{row_at}
use Rattle.triangulations.specs.EdgeRing.{row_fours}
use Rattle.removal.specs.Removal.{ring_rows}
use Rattle.removal.specs.declared.ring.Ring.{Ring}

abbrev pub job_of : Ring → Job
job_of r = job (job_lists r.points.now r.triangles.now [] [] r.table.now)

-- with its points and qualities alone, on which a worst quality rests
abbrev pub measured_job : Ring → Job
measured_job r = job (with_table r.points.now r.table.now)

abbrev pub rows_of : Ring → List (List Four)
rows_of r = ring_rows r.a r.b r.ring.now

abbrev pub fours_of : Ring → (row : ℕ) → List Four
fours_of r row = row_fours r.a r.b r.ring.now (row_at (length r.ring.now) row)
