-- `reading::run::read_entries` meets its contract. Assumes nothing.
use Rattle.std.proofs.Common.{ap, ◌∙◌, map}
use mathlib.Core.List.{map-map}
use Rattle.text.specs.Text.{coordinate}
use Rattle.parsing.specs.Parsing.{rank}
use Rattle.reading.proofs.NextLine.{none_left}
use Rattle.reading.proofs.RunLoop.{reading_done, reading_more}
use Rattle.reading.proofs.run.read_entries.Goals as goal

pub loop-l-preserved : goal.loop-l-preserved
loop-l-preserved g c =
    let l = c.in-Some.ensures in
    reading_more c.loop-l.invariant c.in-Some.l l c.append_entries-count.ensures
    (ap (map g.T.Entry.entry_of) (c.numbers.ensures ∙ l.numbers) ∙ map-map g.T.Entry.entry_of coordinate l.line.fields)

pub returns : goal.returns
returns g c = reading_done c.loop-l.invariant (none_left (rank c.args.kind) c.args.text.now c.loop-l.at c.next_line.result c.next_line.ensures c.in_default.not-Some)
