-- `judge::faces::is_shut` meets its contract. Assumes nothing.
use mathlib.Core.Path.{ap, ◌∙◌}
use Rattle.laws.specs.Laws.{faces}
use Rattle.laws.specs.inner.FaceFlags.{all_closed}
use Rattle.laws.proofs.Judge.FourList.{present_is, turned_present, present_below}
use Rattle.judge.proofs.faces.is_shut.Goals as goal

pub are_closed-requires : goal.are_closed-requires
are_closed-requires c =
    let cs = c.args.points.now in
    present_below cs c.oriented.result c.requires.few (present_is cs c.oriented.ensures (turned_present cs c.args.f c.requires.there))

pub returns : goal.returns
returns c = c.are_closed.ensures ∙ ap (λ g. all_closed (faces g) c.args.own.now c.args.bound.now) c.oriented.ensures
