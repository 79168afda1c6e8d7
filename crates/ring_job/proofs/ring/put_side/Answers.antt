-- `ring_job::ring::put_side` meets its contract. Assumes nothing.
use mathlib.Core.Path.{◌≡◌, sym, ap, ◌∙◌}
use mathlib.Core.List.{List, [], ◌∷◌, ◌++◌, append_assoc}
use Prim.Native.Nat.{ℕ, ◌+◌, ◌*◌, ◌-◌}
use native.Mathlib.Omega.{arith}
use lib.ListN.{take, drop}
use lib.Seq.{drop-drop}
use Rattle.std.proofs.lemmas.List.Edits.{sets-eq}
use Rattle.ring_job.proofs.ring.put_side.Goals as goal

pub returns : goal.returns
returns c =
    let a = c.args in
    let e = sets-eq (a.r ∷ a.s ∷ a.a ∷ a.s ∷ a.r ∷ a.b ∷ []) a.boundary.now (a.i * 6) (omega arith) in
    let d : a.i * 6 + 6 - a.i * 6 ≡ 6 = omega arith in
    rw (d, c.copy_from_slice.ensures.after) (ap (λ (ys : List ℕ). take (a.i * 6) a.boundary.now ++ (a.r ∷ a.s ∷ a.a ∷ a.s ∷ a.r ∷ a.b ∷ ys)) (drop-drop 6 (a.i * 6) a.boundary.now) ∙ sym (append_assoc (take (a.i * 6) a.boundary.now) (a.r ∷ a.s ∷ a.a ∷ a.s ∷ a.r ∷ a.b ∷ []) (drop (a.i * 6 + 6) a.boundary.now)) ∙ sym e)
