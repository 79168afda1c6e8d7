-- The numbers of the laws. Assumes nothing.
use Rattle.std.proofs.Common.{◌≡◌, arith, refl, sym, Bool, true, false, not, true≢false, Option, Some, None, is_some}
use borrow.Author.Tests.{ne_eqb}
use lib.Dec.{eqb}
use Rattle.judge.specs.Judge.{law_number, law_in}
use Rattle.judge.specs.declared.law.Law.{Law}
use Rattle.judge.specs.declared.law.Law.TheVariants.{Order, Quality, PointsOut, Faces, Apart, Corners, Edges, Inner}

-- no law has the number 0, which says that none is broken
pub law_number_≢0 : (l : Law) → law_number l ≡ 0 → ⊥
law_number_≢0 Order e = omega (arith, e)
law_number_≢0 Quality e = omega (arith, e)
law_number_≢0 PointsOut e = omega (arith, e)
law_number_≢0 Faces e = omega (arith, e)
law_number_≢0 Apart e = omega (arith, e)
law_number_≢0 Corners e = omega (arith, e)
law_number_≢0 Edges e = omega (arith, e)
law_number_≢0 Inner e = omega (arith, e)

-- none is broken exactly where the number is 0
pub none_broken : (o : Option Law) (b : Bool) → is_some o ≡ not b → b ≡ eqb (law_in o) 0
none_broken None true e = refl
none_broken None false e = absurd (true≢false (sym e))
none_broken (Some l) true e = absurd (true≢false e)
none_broken (Some l) false e = sym (ne_eqb (law_number l) 0 (law_number_≢0 l))
