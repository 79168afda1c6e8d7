-- `cavity_job::gather::picked` meets its contract. The loop's invariant: the list holds those of the tetrahedra passed whose mark is as asked. Assumes nothing.
use mathlib.Core.Path.{◌≡◌, sym, ◌∙◌}
use Prim.Native.Nat.{◌/◌}
use native.Mathlib.Omega.{arith}
use lib.ListN.{length}
use Rattle.cavity_job.specs.inner.Cavity.{is_set}
use Rattle.cavity_job.proofs.CavityLists.PickedTets.{set_as, tets_start, tets_few, tets_taken, tets_passed}
use Rattle.cavity_job.proofs.gather.picked.Goals as goal
use Rattle.cavity_job.proofs.gather.picked.Goals.{then-in_cavity-i, else-in_cavity-i}

pub loop-i-init : goal.loop-i-init
loop-i-init c = tets_start c.args.tets.now (is_set c.args.set c.args.in_cavity.now) c.new-list.ensures

pub push-requires : goal.push-requires
push-requires c =
    let a = c.args in
    let l = c.loop-i in (omega (arith, tets_few a.tets.now (is_set a.set a.in_cavity.now) l.i l.invariant), omega arith)

pub loop-i-preserved : goal.loop-i-preserved
loop-i-preserved c =
    let a = c.args in
    let l = c.loop-i in
    let few = tets_few a.tets.now (is_set a.set a.in_cavity.now) l.i l.invariant in
    let e = sym (set_as a.set a.in_cavity.now l.i) in
    elim c.if-in_cavity-i.branch [
      | then-in_cavity-i w ↦ tets_taken a.tets.now (is_set a.set a.in_cavity.now) l.i (omega arith) (omega arith) (e ∙ w.if-in_cavity-i.true) (w.list-is ∙ w.push.ensures) l.invariant
      | else-in_cavity-i w ↦ tets_passed a.tets.now (is_set a.set a.in_cavity.now) l.i (e ∙ w.if-in_cavity-i.false) w.list-is l.invariant
    ]

pub returns : goal.returns
returns c =
    let e : c.loop-i.i ≡ length c.args.tets.now / 4 = omega arith in rw e at c.loop-i.invariant
