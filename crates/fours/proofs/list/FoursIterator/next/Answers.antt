-- `fours::list::Fours::next` meets its contract. Assumes nothing.
use mathlib.Core.Path.{ap}
use native.Mathlib.Omega.{arith}
use lib.ListN.{length}
use Rattle.geometry.specs.Space.{four}
use Rattle.fours.proofs.Listed.{fours_none, fours_first}
use Rattle.fours.proofs.list.FoursIterator.next.Goals as goal

pub returns-in_default-clause-steps : goal.returns-in_default-clause-steps
returns-in_default-clause-steps c = let e = fours_none c.args.self.now.0.now c.in_default.len_below in (e, e)

pub returns-clause-steps : goal.returns-clause-steps
unfolding four
returns-clause-steps c = rw c.from.ensures (fours_first c.args.self.now.0.now c.in-len4-up.len_at_least)

pub returns-clause-goes : goal.returns-clause-goes
returns-clause-goes c =
    record { on = λ _. (tt, tt, omega (arith, ap length (fours_first c.args.self.now.0.now c.in-len4-up.len_at_least))); keeps = tt; rests = λ _. tt }
