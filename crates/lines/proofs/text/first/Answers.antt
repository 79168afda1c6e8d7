use Rattle.std.proofs.Common.{◌∙◌, ◌==◌, ap, length}
use Rattle.std.specs.Option.{unwrap_or}
use Rattle.lines.proofs.Place.{position_or_length}
use Rattle.lines.proofs.text.first.Goals as goal

pub returns-clause-place : goal.returns-clause-place
returns-clause-place c =
    c.unwrap_or.ensures
    ∙ ap (λ o. unwrap_or o (length c.args.s.now)) c.place.ensures
    ∙ position_or_length (λ x. x == c.args.b) c.args.s.now
