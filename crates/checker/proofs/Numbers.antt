-- The numbers of the refusals. Assumes nothing.
use Rattle.std.proofs.Common.{◌≡◌, arith}
use Rattle.checker.specs.Numbers.{number_of}
use Rattle.checker.specs.declared.refusal.Refusal.{Refusal}
use Rattle.checker.specs.declared.refusal.Refusal.TheVariants.{Points, Far, PointsAlike, Triangles, BadTriangle, TrianglesAlike, Unmatched, Kept, BadEdge, Table, BadEntry, Unmeasured, Inner, BadInner}

-- no refusal has the number 0, which says that there is none
pub number_of_≢0 : (r : Refusal) → number_of r ≡ 0 → ⊥
number_of_≢0 Points e = omega (arith, e)
number_of_≢0 Far e = omega (arith, e)
number_of_≢0 PointsAlike e = omega (arith, e)
number_of_≢0 Triangles e = omega (arith, e)
number_of_≢0 BadTriangle e = omega (arith, e)
number_of_≢0 TrianglesAlike e = omega (arith, e)
number_of_≢0 Unmatched e = omega (arith, e)
number_of_≢0 Kept e = omega (arith, e)
number_of_≢0 BadEdge e = omega (arith, e)
number_of_≢0 Table e = omega (arith, e)
number_of_≢0 BadEntry e = omega (arith, e)
number_of_≢0 Unmeasured e = omega (arith, e)
number_of_≢0 Inner e = omega (arith, e)
number_of_≢0 BadInner e = omega (arith, e)
