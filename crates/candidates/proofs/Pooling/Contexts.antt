-- The context of candidates filed for a job that is not refused. Assumes nothing.
use mathlib.Core.Path.{◌≡◌}
use lib.ListN.{length}
use Rattle.laws.specs.Lists.{Lists}
use Rattle.laws.specs.Check.{job_refusal}
use Rattle.fillings.specs.Steps.{Context}
use Rattle.candidates.specs.declared.boundary.Faces.{Faces}
use Rattle.candidates.specs.declared.table.Candidates.{Candidates}
use Rattle.candidates.specs.Faces.{FacesOf}
use Rattle.candidates.specs.Table.{FiledIn}

pub context_filed : {L : Lists} {f : Faces} (c : Candidates) → job_refusal L ≡ 0 → FacesOf L f → length f.bound ≡ 4096 → FiledIn L c → Context L c.fours c.codes f.bound c.m
context_filed c ok f long p =
    record { accepted = ok; few = p.few; long = p.long; pool = p.pool; faces = p.faces; bounds = f.bounds; bound_long = long }
