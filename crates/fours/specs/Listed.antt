-- Fours as the iterator over a list of bytes hands them out. Assumes nothing: these are definitions.
use Rattle.std.specs.Prelude.{Bool, true, List, [], ◌∷◌}
use Rattle.geometry.specs.declared.tetrahedron.Four.{Four}
use Rattle.laws.specs.Laws.{four_before}
use Rattle.laws.specs.inner.ListedFours.{fours_listed}
use Rattle.fours.specs.declared.list.Fours.{Fours}

abbrev pub fours_left : Fours → List Four
fours_left s = fours_listed s.0.now

-- f comes before the first of the others, where there is one
unfoldable pub leads : Four → List Four → Bool
leads f [] = true
leads f (g ∷ gs) = four_before f g
