-- `removal::ring::Ring::with_row` meets its contract. Assumes nothing.
use mathlib.Core.Path.{sym, ap, ◌∙◌, subst}
use mathlib.Core.List.{List, []}
use Prim.Native.Nat.{ℕ, ◌<◌}
use native.Mathlib.Omega.{arith}
use lib.ListN.{length, get_or}
use Rattle.geometry.specs.declared.tetrahedron.Four.{Four}
use Rattle.laws.specs.Laws.{lawful, worst}
use Rattle.laws.specs.Lists.{Lists, job_lists}
use Rattle.removal.specs.declared.ring.Ring.{Ring}
use Rattle.removal.specs.inner.Ringed.{job_of, rows_of}
use Rattle.removal.specs.inner.Leading.{Above}
use Rattle.removal.proofs.Leading.{unlawful_passed, no_better_passed, better_leads}
use Rattle.removal.proofs.TopRow.{not_above, is_above}
use Rattle.removal.proofs.RingRows.{ring_rows_long, ring_row, row_seen}
use Rattle.removal.proofs.ring.Ring.with_row.Goals as goal
use Rattle.removal.proofs.ring.Ring.with_row.Goals.{Start, After-row_worst-worst, then-worst-bound-via-then-worst-bound, then-worst-bound-via-else-worst-bound+then-not-is_row_lawful}

abbrev the_lists : Ring → Lists
the_lists r = job_lists r.points.now r.triangles.now [] [] r.table.now

-- the row's list, by its number
abbrev the_row : Ring → (row : ℕ) → List Four
the_row r row = get_or (rows_of r) row []

within : (s : Start) → s.args.row < length (rows_of s.args.self.now)
within s = let r = s.args.self.now in subst (λ (n : ℕ). s.args.row < n) (sym (ring_rows_long r.a r.b r.ring.now)) s.requires.0

pub row_worst-worst-requires : goal.row_worst-worst-requires
row_worst-worst-requires c = let s : Start = (goal.at.row_worst-worst-requires c).Start in c.requires.0

-- what was measured is the row's worst quality, as far as it is above the best so far
measured : (c : After-row_worst-worst) → Above c.led_worst-bound.result (worst (job_of c.args.self.now) (the_row c.args.self.now c.args.row)) c.row_worst-worst.result
measured c =
    let r = c.args.self.now in
    subst (λ (w : ℕ). Above c.led_worst-bound.result w c.row_worst-worst.result) (row_seen (the_lists r) r.a r.b r.ring.now c.args.row) c.row_worst-worst.ensures

pub returns-then-worst-bound : goal.returns-then-worst-bound
returns-then-worst-bound c =
    let r = c.args.self.now in
    let b = c.led_worst-bound in
    let m = measured (goal.at.returns-then-worst-bound c).After-row_worst-worst in
    elim c.then-worst-bound.branch [
      | then-worst-bound-via-then-worst-bound w ↦
          let n = not_above b.result (worst (job_of r) (the_row r c.args.row)) c.row_worst-worst.result m w.if-worst-bound.true in
          no_better_passed (job_of r) (rows_of r) c.args.row (within (goal.at.returns-then-worst-bound c).Start) c.args.best c.requires.1 (omega (arith, n, b.ensures))
      | then-worst-bound-via-else-worst-bound+then-not-is_row_lawful w ↦
          unlawful_passed (job_of r) (rows_of r) c.args.row (within (goal.at.returns-then-worst-bound c).Start) c.args.best c.requires.1
          (sym (w.is_row_lawful.ensures ∙ ap (lawful (job_of r)) (sym (ring_row r.a r.b r.ring.now c.args.row))) ∙ w.if-not-is_row_lawful.true)
    ]

pub returns : goal.returns
returns c =
    let r = c.args.self.now in
    let b = c.led_worst-bound in
    let over : b.result < c.row_worst-worst.result = omega (arith, c.if-worst-bound.false) in
    let e = is_above b.result (worst (job_of r) (the_row r c.args.row)) c.row_worst-worst.result (measured (goal.at.returns c).After-row_worst-worst) over in
    better_leads (job_of r) (rows_of r) c.args.row (within (goal.at.returns c).Start) c.args.best c.requires.1 e (omega (arith, b.ensures, over))
    (sym (c.is_row_lawful.ensures ∙ ap (lawful (job_of r)) (sym (ring_row r.a r.b r.ring.now c.args.row))) ∙ c.if-not-is_row_lawful.false)
