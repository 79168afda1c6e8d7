-- A tetrahedron's corners by number: one that is absent, and two that are the same. Assumes nothing: these are definitions.
use Rattle.std.specs.Prelude.{Bool, ◌||◌, ℕ, leb, eqb}
use Rattle.geometry.specs.declared.tetrahedron.Four.{Four}

abbrev pub absent : (n : ℕ) → Four → Bool
absent n f = (leb n f.a || leb n f.b) || (leb n f.c || leb n f.d)

abbrev pub repeated : Four → Bool
repeated f = ((eqb f.a f.b || eqb f.a f.c) || (eqb f.a f.d || eqb f.b f.c)) || (eqb f.b f.d || eqb f.c f.d)
