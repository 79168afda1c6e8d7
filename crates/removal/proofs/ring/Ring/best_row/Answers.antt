-- `removal::ring::Ring::best_row` meets its contract. Assumes nothing.
use Prim.Native.Nat.{◌≤◌}
use native.Mathlib.Omega.{arith}
use lib.ListN.{length}
use Rattle.triangulations.specs.Rings.{rows}
use Rattle.removal.specs.inner.Ringed.{job_of, rows_of}
use Rattle.removal.proofs.TopRow.{decided_leads}
use Rattle.removal.proofs.RingRows.{ring_rows_long}
use Rattle.removal.proofs.ring.Ring.best_row.Goals as goal

pub returns-in-Some : goal.returns-in-Some
returns-in-Some c =
    let r = c.args.self.now in
    let e = ring_rows_long r.a r.b r.ring.now in
    let l : length (rows_of r) ≤ length (rows (length r.ring.now)) = omega arith in
    decided_leads (job_of r) (rows_of r) (length (rows (length r.ring.now))) c.in-Some.top l c.in-Some.ensures
