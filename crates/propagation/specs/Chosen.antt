-- A choice among open faces, as the theory of fillings numbers it: 0 an open face that no alive candidate owns, 1 none so far, 2 any other. Assumes nothing: these are definitions.
use Rattle.std.specs.Prelude.{ℕ, cond, eqb, Option, Some, None}
use Rattle.fillings.specs.Tables.{GoesOn}
use Rattle.trail.specs.declared.pool.Pool.{Pool}
use Rattle.trail.specs.declared.state.State.{State}
use Rattle.trail.specs.State.{owners_of, held_of}
use Rattle.propagation.specs.declared.choose.OpenFace.{OpenFace}

abbrev pub choice_kind : Option OpenFace → ℕ
choice_kind None = 1
choice_kind (Some f) = cond (eqb f.owners 0) 0 2

abbrev pub choice_face : Option OpenFace → ℕ
choice_face None = 0
choice_face (Some f) = f.face

-- the choice `from`, and then the one over the faces `seen`
abbrev pub ChosenOn : Pool → State → (seen : ℕ → Type 0) → (from to : Option OpenFace) → Type 0
ChosenOn p s seen from to = GoesOn (held_of s) p.bound.now (owners_of s) seen (choice_kind from) (choice_face from) (choice_kind to) (choice_face to)
