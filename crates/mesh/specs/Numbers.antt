-- Document 01's numbers of a mesh's refusals. Assumes nothing: these are definitions.
use Rattle.std.specs.Prelude.{ℕ, Result, Ok, Err}
use Rattle.mesh.specs.declared.refusal.MeshRefusal.{MeshRefusal}
use Rattle.mesh.specs.declared.refusal.MeshRefusal.TheVariants.{PointCount, FarPoint, PointTwice, TetCount, BadTet, FaceTwice}

abbrev pub refusal_number : MeshRefusal → ℕ
refusal_number PointCount = 2
refusal_number FarPoint = 3
refusal_number PointTwice = 4
refusal_number TetCount = 17
refusal_number BadTet = 18
refusal_number FaceTwice = 19

-- 0 for a mesh that is not refused
abbrev pub number_of : {T : Type 0} → Result T MeshRefusal → ℕ
number_of (Ok u) = 0
number_of (Err r) = refusal_number r
