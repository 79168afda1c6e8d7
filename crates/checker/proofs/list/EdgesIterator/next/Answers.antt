-- `checker::list::Edges::next` meets its contract. Assumes nothing.
use mathlib.Core.Path.{ap}
use native.Mathlib.Omega.{arith}
use lib.ListN.{length}
use Rattle.checker.proofs.Listed.{edges_none, edges_first}
use Rattle.checker.proofs.list.EdgesIterator.next.Goals as goal

pub returns-in_default-clause-steps : goal.returns-in_default-clause-steps
returns-in_default-clause-steps c = let e = edges_none c.args.self.now.0.now c.in_default.len_below in (e, e)

pub returns-clause-steps : goal.returns-clause-steps
returns-clause-steps c = edges_first c.args.self.now.0.now c.in-len2-up.len_at_least

pub returns-clause-goes : goal.returns-clause-goes
returns-clause-goes c =
    record { on = λ _. (tt, tt, omega (arith, ap length (edges_first c.args.self.now.0.now c.in-len2-up.len_at_least))); keeps = tt; rests = λ _. tt }
