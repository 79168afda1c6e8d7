-- The fours of a list of bytes, the first one and the others; the order of fours. Assumes nothing.
use mathlib.Core.Path.{◌≡◌, refl}
use mathlib.Core.List.{List, [], ◌∷◌}
use Prim.Native.Nat.{ℕ, suc, ◌-◌, ◌/◌, ◌≤◌, ◌<◌}
use native.Mathlib.Omega.{arith}
use lib.ListN.{length, get_or, take, drop}
use Rattle.std.proofs.lemmas.List.{take_rest, length-drop}
use Rattle.geometry.specs.Space.{four}
use Rattle.laws.specs.Laws.{fours_in}
use Rattle.laws.specs.inner.ListedFours.{fours_listed}

pub fours_none : (bs : List ℕ) → length bs < 4 → fours_listed bs ≡ []
unfolding fours_in
fours_none bs h = let d : length bs / 4 ≡ 0 = omega arith in rw d refl

pub fours_first : (bs : List ℕ) → 4 ≤ length bs →
    fours_listed bs ≡ record { a = get_or bs 0 0; b = get_or bs 1 0; c = get_or bs 2 0; d = get_or bs 3 0 } ∷ fours_listed (take (length bs - 4) (drop 4 bs))
unfolding fours_in four
fours_first bs h =
    let d : length bs / 4 ≡ suc ((length bs - 4) / 4) = omega arith in
    rw (d, take_rest bs 4, length-drop 4 bs) refl
