-- `trail::state::State::drop` meets its contract: its owners are counted out, and it stands on the trail. Assumes nothing.
use mathlib.Core.Path.{refl}
use Rattle.trail.proofs.Counting.{can_count_out}
use Rattle.trail.proofs.Trailing.{dropped_one}
use Rattle.trail.proofs.state.State.drop.Goals as goal

pub count_out-requires : goal.count_out-requires
count_out-requires c = let p = c.requires in can_count_out _ _ _ _ _ _ p.1 p.2 p.0 p.3.alive

pub returns : goal.returns
returns c = let p = c.requires in (dropped_one c.args.k p.1 p.2 p.0 p.3 c.count_out.ensures, record { held = refl })
