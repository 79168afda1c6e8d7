-- `trail::state::State::unset` meets its contract: its faces pass from the set owners to the alive ones. Assumes nothing.
use mathlib.Core.Path.{refl}
use native.Mathlib.Omega.{arith}
use Rattle.trail.proofs.Counting.{can_count_in, can_count_out}
use Rattle.trail.proofs.Trailing.{unset_one}
use Rattle.trail.proofs.state.State.unset.Goals as goal

pub count_out-requires : goal.count_out-requires
count_out-requires c = let p = c.requires in can_count_out _ _ _ _ _ _ p.1 p.2 p.0 p.4

pub count_in-requires : goal.count_in-requires
count_in-requires c = let p = c.requires in can_count_in _ _ _ _ _ _ _ (omega arith) p.1 p.0 p.3

pub returns : goal.returns
returns c = let p = c.requires in (unset_one p.0 (omega arith) p.1 p.2 p.3 p.4 c.count_in.ensures c.count_out.ensures, record { trail = refl; top = refl })
