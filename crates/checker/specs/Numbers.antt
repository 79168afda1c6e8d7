-- The numbers of the refusals of a job. Assumes nothing: these are definitions.
use Rattle.std.specs.Prelude.{ℕ, Result, Ok, Err}
use Rattle.checker.specs.declared.refusal.Refusal.{Refusal}
use Rattle.checker.specs.declared.refusal.Refusal.TheVariants.{Points, Far, PointsAlike, Triangles, BadTriangle, TrianglesAlike, Unmatched, Kept, BadEdge, Table, BadEntry, Unmeasured, Inner, BadInner}

abbrev pub number_of : Refusal → ℕ
number_of Points = 2
number_of Far = 3
number_of PointsAlike = 4
number_of Triangles = 5
number_of BadTriangle = 6
number_of TrianglesAlike = 7
number_of Unmatched = 8
number_of Kept = 9
number_of BadEdge = 10
number_of Table = 11
number_of BadEntry = 12
number_of Unmeasured = 13
number_of Inner = 22
number_of BadInner = 23

-- the number of an answer, 0 where it is no refusal
abbrev pub number_in : {A : Type 0} → Result A Refusal → ℕ
number_in (Ok x) = 0
number_in (Err r) = number_of r
