-- `cavity_job::gather::picked` meets its contract. The loop's invariant: the list holds those of the tetrahedra passed whose mark is as asked. Assumes nothing.
use Rattle.cavity_job.specs.inner.Cavity.{Holds, is_set, picked}
use Rattle.cavity_job.proofs.gather.picked.Given as goal

abbrev pub invariant-loop-i : goal.invariant-loop-i
invariant-loop-i l = Holds (picked l.tets (is_set l.set l.in_cavity) l.i) l.list
