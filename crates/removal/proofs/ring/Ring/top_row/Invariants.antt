-- `removal::ring::Ring::top_row` meets its contract. The invariant: the best of the first r rows, lawful or not. Assumes nothing.
use mathlib.Core.Path.{◌≡◌}
use mathlib.Core.List.{[]}
use Prim.Native.Nat.{◌≤◌}
use lib.ListN.{length}
use Rattle.laws.specs.Lists.{job_lists}
use Rattle.laws.specs.Check.{job}
use Rattle.triangulations.specs.Rings.{rows}
use Rattle.removal.specs.Removal.{ring_rows}
use Rattle.removal.specs.inner.Leading.{Tops}
use Rattle.removal.proofs.ring.Ring.top_row.Given as goal

abbrev pub invariant-loop-r : goal.invariant-loop-r
invariant-loop-r l = (l.r ≤ length (rows (length l.self.ring.now))) × (l.r-end ≡ length (rows (length l.self.ring.now))) × Tops (job (job_lists l.self.points.now l.self.triangles.now [] [] l.self.table.now)) (ring_rows l.self.a l.self.b l.self.ring.now) l.r l.best
