-- `removal::ring::Ring::scan_rows` meets its contract. The invariant: the best row of the first r leads. Assumes nothing.
use mathlib.Core.List.{[]}
use Prim.Native.Nat.{◌+◌}
use native.Mathlib.Omega.{arith}
use lib.ListN.{length}
use Rattle.laws.specs.Lists.{job_lists}
use Rattle.laws.specs.Check.{job}
use Rattle.triangulations.proofs.GoodRings.{good_ring}
use Rattle.removal.specs.Removal.{ring_rows}
use Rattle.removal.proofs.Leading.{start}
use Rattle.removal.proofs.ring.Ring.scan_rows.Goals as goal

pub row_count-r-end-requires : goal.row_count-r-end-requires
row_count-r-end-requires c =
    let g = good_ring (length c.args.self.now.ring.now + 2) c.args.self.now.a c.args.self.now.b c.args.self.now.ring.now c.args.self.now.good in (g.least, g.most)

pub loop-r-init : goal.loop-r-init
loop-r-init c =
    let a = c.args in
    (omega arith, c.row_count-r-end.ensures, start (job (job_lists a.self.now.points.now a.self.now.triangles.now [] [] a.self.now.table.now)) (ring_rows a.self.now.a a.self.now.b a.self.now.ring.now))
