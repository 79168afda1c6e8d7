-- `checker::list::Points::next` meets its contract. Assumes nothing.
use mathlib.Core.Path.{ap}
use native.Mathlib.Omega.{arith}
use lib.ListN.{length, get_or}
use lib.IntN.{pos}
use mir.Syntax.{w32}
use mir.Val.{SFits}
use mir.Facts.{to_z-of_z}
use Rattle.checker.proofs.Listed.{points_none, points_first}
use Rattle.checker.proofs.list.PointsIterator.next.Goals as goal

pub returns-in_default-clause-steps : goal.returns-in_default-clause-steps
returns-in_default-clause-steps c = let e = points_none c.args.self.now.0.now c.in_default.len_below in (e, e)

pub returns-clause-steps : goal.returns-clause-steps
returns-clause-steps c =
    let cs = c.args.self.now.0.now in
    let x : SFits w32 (get_or cs 0 (pos 0)) = record { sfits = c.result-1.given } in
    let y : SFits w32 (get_or cs 1 (pos 0)) = record { sfits = c.result-2-1.given } in
    let z : SFits w32 (get_or cs 2 (pos 0)) = record { sfits = c.result-3-1.given } in
    rw (to_z-of_z x, to_z-of_z y, to_z-of_z z) (points_first cs c.in-len3-up.len_at_least)

pub returns-clause-goes : goal.returns-clause-goes
returns-clause-goes c =
    record { on = λ _. (tt, tt, omega (arith, ap length (points_first c.args.self.now.0.now c.in-len3-up.len_at_least))); keeps = tt; rests = λ _. tt }
