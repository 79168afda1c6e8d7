-- `thresholds::threshold::begin` meets its contract. Assumes nothing.
use mathlib.Core.Path.{refl}
use native.Mathlib.Omega.{arith}
use Rattle.thresholds.proofs.Beginning.{recounted_begun}
use Rattle.thresholds.proofs.threshold.begin.Goals as goal

pub returns : goal.returns
returns c =
    let s = c.args.state.now in (
      recounted_begun c.args.pool.now (record s { marks = c.start.new.marks; top = 0 }) c.recount.new.self (omega arith) (omega arith) refl c.start.ensures c.recount.ensures,
      c.recount.ensures.trail,
    )
