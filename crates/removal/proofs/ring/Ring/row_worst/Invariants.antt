-- `removal::ring::Ring::row_worst` meets its contract. The invariant: going on from the least so far over the triples from the i-th on makes the worst of all. Assumes nothing.
use mathlib.Core.Path.{◌≡◌}
use Prim.Native.Nat.{◌-◌, ◌≤◌}
use lib.ListN.{length, drop}
use Rattle.laws.specs.Laws.{worst, worst_from}
use Rattle.laws.specs.Lists.{with_table}
use Rattle.laws.specs.Check.{job}
use Rattle.triangulations.specs.Rings.{row_at}
use Rattle.triangulations.specs.EdgeRing.{joins}
use Rattle.removal.proofs.ring.Ring.row_worst.Given as goal

abbrev pub invariant-loop-i : goal.invariant-loop-i
invariant-loop-i l =
    (l.i ≤ length l.self.ring.now - 2) × (l.i-end ≡ length l.self.ring.now - 2) ×
    (worst (job (with_table l.self.points.now l.self.table.now)) (joins l.self.a l.self.b l.self.ring.now (row_at (length l.self.ring.now) l.row)) ≡ worst_from l.least (job (with_table l.self.points.now l.self.table.now)) (joins l.self.a l.self.b l.self.ring.now (drop l.i (row_at (length l.self.ring.now) l.row))))
