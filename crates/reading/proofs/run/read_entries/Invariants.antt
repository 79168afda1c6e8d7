-- `reading::run::read_entries` meets its contract. The loop's invariant: what is listed so far and the lines left make up all. Assumes nothing.
use Rattle.std.proofs.Common.{◌-◌, length, List, ℕ}
use Rattle.text.specs.Text.{coordinate}
use Rattle.parsing.specs.Parsing.{rank}
use Rattle.reading.proofs.RunLoop.{Reading}
use Rattle.reading.proofs.run.read_entries.Given as goal

abbrev pub invariant-loop-l : goal.invariant-loop-l
invariant-loop-l g l = Reading (λ (w : List ℕ). g.T.Entry.entry_of (coordinate w)) (rank l.kind) l.text l.from l.initial.list l.list l.count l.at

abbrev pub decreases-loop-l : goal.decreases-loop-l
decreases-loop-l g l = length l.text - l.at
