-- `removal::ring::Ring::with_top` meets its contract. Assumes nothing.
use mathlib.Core.Path.{subst}
use mathlib.Core.List.{List, []}
use Prim.Native.Nat.{ℕ, ◌<◌}
use native.Mathlib.Omega.{arith}
use lib.ListN.{get_or}
use Rattle.geometry.specs.declared.tetrahedron.Four.{Four}
use Rattle.laws.specs.Laws.{worst}
use Rattle.laws.specs.Lists.{Lists, job_lists}
use Rattle.removal.specs.declared.ring.Ring.{Ring}
use Rattle.removal.specs.inner.Ringed.{job_of, rows_of}
use Rattle.removal.specs.inner.Leading.{Above, led_worst}
use Rattle.removal.proofs.TopRow.{not_above, is_above, top_stays, top_rises}
use Rattle.removal.proofs.RingRows.{row_seen}
use Rattle.removal.proofs.ring.Ring.with_top.Goals as goal
use Rattle.removal.proofs.ring.Ring.with_top.Goals.{Start, After-row_worst-worst}

abbrev the_lists : Ring → Lists
the_lists r = job_lists r.points.now r.triangles.now [] [] r.table.now

-- the row's list, by its number
abbrev the_row : Ring → (row : ℕ) → List Four
the_row r row = get_or (rows_of r) row []

pub row_worst-worst-requires : goal.row_worst-worst-requires
row_worst-worst-requires c = let s : Start = (goal.at.row_worst-worst-requires c).Start in c.requires.0

-- what was measured is the row's worst quality, as far as it is above the best so far
measured : (c : After-row_worst-worst) → Above c.led_worst-bound.result (worst (job_of c.args.self.now) (the_row c.args.self.now c.args.row)) c.row_worst-worst.result
measured c =
    let r = c.args.self.now in
    subst (λ (w : ℕ). Above c.led_worst-bound.result w c.row_worst-worst.result) (row_seen (the_lists r) r.a r.b r.ring.now c.args.row) c.row_worst-worst.ensures

pub returns-then-bound-worst : goal.returns-then-bound-worst
returns-then-bound-worst c =
    let b = c.led_worst-bound in
    let l : led_worst c.args.best < c.row_worst-worst.result = omega (arith, b.ensures, c.if-bound-worst.true) in
    top_rises (job_of c.args.self.now) (rows_of c.args.self.now) c.args.row c.args.best c.requires.1
    (is_above b.result (worst (job_of c.args.self.now) (the_row c.args.self.now c.args.row)) c.row_worst-worst.result (measured (goal.at.returns-then-bound-worst c).After-row_worst-worst) c.if-bound-worst.true) l

pub returns : goal.returns
returns c =
    let b = c.led_worst-bound in
    let n = not_above b.result (worst (job_of c.args.self.now) (the_row c.args.self.now c.args.row)) c.row_worst-worst.result (measured (goal.at.returns c).After-row_worst-worst) (omega arith) in
    top_stays (job_of c.args.self.now) (rows_of c.args.self.now) c.args.row c.args.best c.requires.1 (omega (arith, n, b.ensures))
