-- `removal::ring::Ring::with_triple` meets its contract. Assumes nothing.
use mathlib.Core.List.{[]}
use Rattle.laws.specs.Lists.{Lists, job_lists}
use Rattle.laws.proofs.Checker.AcceptedJob.{accepted_table}
use Rattle.removal.specs.declared.ring.Ring.{Ring}
use Rattle.removal.proofs.ring.Ring.with_triple.Goals as goal

abbrev the_lists : Ring → Lists
the_lists r = job_lists r.points.now r.triangles.now [] [] r.table.now

pub quality_of-x-requires : goal.quality_of-x-requires
quality_of-x-requires c = rw c.joined.ensures (accepted_table (the_lists c.args.self.now) c.args.self.now.accepted, c.requires.0)

pub quality_of-y-requires : goal.quality_of-y-requires
quality_of-y-requires c = rw c.joined-2.ensures (accepted_table (the_lists c.args.self.now) c.args.self.now.accepted, c.requires.1)
