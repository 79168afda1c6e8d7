-- `reading::run::append_entries` meets its contract. The loop's invariant: the entries of the values so far are appended. Assumes nothing.
use Rattle.std.proofs.Common.{map, take}
use Rattle.text.specs.inner.Runs.{Appended}
use Rattle.reading.proofs.run.append_entries.Given as goal

abbrev pub invariant-loop-v : goal.invariant-loop-v
invariant-loop-v g l = Appended l.initial.list l.list l.count (map g.T.Entry.entry_of (take l.v-index l.values)) l.at
