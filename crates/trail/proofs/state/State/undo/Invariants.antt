-- `trail::state::State::undo` meets its contract: what the trail has from its end on is alive again. Assumes nothing.
use Rattle.trail.proofs.Undoing.{Undoes}
use Rattle.trail.proofs.state.State.undo.Given as goal

abbrev pub invariant-loop-self : goal.invariant-loop-self
invariant-loop-self l = Undoes l.pool l.to l.initial.self l.self

abbrev pub decreases-loop-self : goal.decreases-loop-self
decreases-loop-self l = l.self.top
