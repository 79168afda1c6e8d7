use Rattle.std.proofs.Common.{length, ◌≤◌}
use Rattle.enumerator.proofs.enumerate.subset.Given as goal

abbrev pub invariant-loop-f : goal.invariant-loop-f
invariant-loop-f l = length l.list.items ≤ l.f-index
