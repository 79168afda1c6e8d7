-- `candidates::table::compact` meets its contract. The loop's invariant: the new table holds the alive ones among the first k. Assumes nothing.
use Prim.Native.Nat.{◌≤◌}
use Rattle.candidates.proofs.Pooling.Compacting.{Compacted}
use Rattle.candidates.proofs.table.compact.Given as goal

abbrev pub invariant-loop-k : goal.invariant-loop-k
invariant-loop-k l = (l.k ≤ l.pool.m) × Compacted l.pool l.marks l.k l.alive
