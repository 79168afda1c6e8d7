-- `removal::ring::Ring::lawful_top` meets its contract. Assumes nothing.
use mathlib.Core.Path.{sym, ap, ◌∙◌}
use mathlib.Core.List.{List, []}
use lib.ListN.{length}
use Rattle.geometry.specs.declared.tetrahedron.Four.{Four}
use Rattle.laws.specs.Laws.{Job, lawful}
use Rattle.laws.specs.Lists.{job_lists}
use Rattle.laws.specs.Check.{job}
use Rattle.triangulations.specs.Rings.{rows}
use Rattle.removal.specs.Removal.{ring_rows}
use Rattle.removal.proofs.TopRow.{top_decides, undecided}
use Rattle.removal.proofs.RingRows.{ring_rows_long, ring_row}
use Rattle.removal.proofs.ring.Ring.lawful_top.Goals as goal
use Rattle.removal.proofs.ring.Ring.lawful_top.Goals.{Start}

abbrev the_job : Start → Job
the_job s = job (job_lists s.args.self.now.points.now s.args.self.now.triangles.now [] [] s.args.self.now.table.now)

abbrev the_rows : Start → List (List Four)
the_rows s = ring_rows s.args.self.now.a s.args.self.now.b s.args.self.now.ring.now

pub returns-in-Some : goal.returns-in-Some
returns-in-Some c =
    let s : Start = (goal.at.returns-in-Some c).Start in
    let r = c.args.self.now in
    let e = sym (ring_rows_long r.a r.b r.ring.now) in
    let f = ap (lawful (the_job s)) (ring_row r.a r.b r.ring.now c.in-Some.top.row) ∙ sym c.is_row_lawful.ensures ∙ c.if-is_row_lawful.true in
    top_decides (the_job s) (the_rows s) (length (rows (length r.ring.now))) c.in-Some.top e c.in-Some.ensures f

pub returns-in_default : goal.returns-in_default
returns-in_default c = let s : Start = (goal.at.returns-in_default c).Start in undecided (the_job s) (the_rows s)
