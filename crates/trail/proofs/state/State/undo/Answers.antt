-- `trail::state::State::undo` meets its contract: what the trail has from the end on is alive again. Assumes nothing.
use Prim.Native.Nat.{◌-◌}
use native.Mathlib.Omega.{arith}
use Rattle.trail.proofs.Counting.{can_count_in}
use Rattle.trail.proofs.Undoing.{undoes_start, undoes_last, undoes_next, undoes_end}
use Rattle.trail.proofs.state.State.undo.Goals as goal

pub loop-self-init : goal.loop-self-init
loop-self-init c = let p = c.requires in undoes_start p.0 p.2.0 p.2.1 p.1

pub count_in-requires : goal.count_in-requires
count_in-requires c =
    let p = c.requires in
    let l = c.loop-self in
    can_count_in _ _ _ _ _ _ _ (omega arith) (undoes_last p.0 p.2.0 p.2.1 (l.self.top - 1) (omega arith) (omega arith) l.invariant).below p.0 l.invariant.undoing.alive

pub loop-self-preserved : goal.loop-self-preserved
loop-self-preserved c =
    let p = c.requires in
    let l = c.loop-self in
    undoes_next p.0 p.2.0 p.2.1 l.self (l.self.top - 1) _ (omega arith) (omega arith) l.invariant c.count_in.ensures

pub returns : goal.returns
returns c = let p = c.requires in undoes_end p.0 p.2.0 p.2.1 c.loop-self-test.false c.loop-self.invariant
