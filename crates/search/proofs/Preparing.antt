-- A problem made of a job and its candidates is prepared. Assumes nothing.
use mathlib.Core.Path.{◌≡◌, sym, subst, ap, ◌∙◌}
use mathlib.Core.List.{List}
use Prim.Native.Nat.{ℕ, ◌/◌, ◌≤◌, ◌<◌}
use native.Mathlib.Omega.{arith}
use lib.ListN.{length, get_or, take}
use Rattle.std.proofs.lemmas.List.{get_or-take, length-take-le}
use Rattle.geometry.specs.Space.{points_in}
use Rattle.laws.specs.Check.{job_refusal}
use Rattle.fillings.specs.Clashes.{CornerSets, PiercingSets}
use Rattle.fillings.specs.Steps.{Context}
use Rattle.fillings.specs.Tables.{AllBelow, BoundaryCodes}
use Rattle.signs.specs.Rows.{Rows}
use Rattle.trail.specs.declared.pool.Lists.{Lists as LentLists}
use Rattle.trail.specs.declared.pool.Problem.{Problem}
use Rattle.trail.specs.Pool.{lists_of}
use Rattle.candidates.specs.declared.boundary.Faces.{Faces}
use Rattle.candidates.specs.declared.table.Candidates.{Candidates}
use Rattle.candidates.specs.Faces.{FacesOf}
use Rattle.candidates.specs.Table.{FiledIn, PoolOf}
use Rattle.candidates.proofs.Pooling.Contexts.{context_filed}
use Rattle.propagation.specs.Prepared.{Prepared}

-- the boundary's codes without what is behind them
codes_taken : {ts boundary : List ℕ} → BoundaryCodes ts boundary → BoundaryCodes ts (take (length ts / 3) boundary)
codes_taken {ts} {boundary} b =
    let n = length-take-le (length ts / 3) boundary b.long in
    record { long = omega arith; each = λ i h. get_or-take (length ts / 3) boundary i 0 h ∙ b.each i h }

-- the first ones of a list of small numbers
pub below_taken : {n bound : ℕ} {xs ys : List ℕ} → AllBelow bound n xs → ys ≡ take n xs → AllBelow bound (length ys) ys
below_taken {n} {bound} {xs} {ys} b e =
    let few : length ys ≡ n = ap length e ∙ length-take-le n xs b.long in
    record {
      long = omega arith;
      each = λ i h.
          let l : i < n = omega arith in
          let x : get_or ys i 0 ≡ get_or xs i 0 = ap (λ (zs : List ℕ). get_or zs i 0) e ∙ get_or-take n xs i 0 l in
          omega (arith, b.each i l, x);
    }

module _ (l : LentLists) (f : Faces) (c : Candidates) (p : Problem) (same : p.lists ≡ l) (x : PoolOf l f c p.pool) (rows : p.rows.now ≡ f.rows) where
  pub prepared_of :
      job_refusal (lists_of l) ≡ 0 → FacesOf (lists_of l) f → FiledIn (lists_of l) c → CornerSets c.m c.fours p.corners.now → PiercingSets (points_in l.points.now) c.m c.fours p.piercing.now → Prepared p
  prepared_of ok e filed corners piercing =
      let long : length f.bound ≡ 4096 = ap length (sym x.bound) ∙ x.bound_long in
      let context : Context (lists_of l) p.pool.fours.now p.pool.codes.now p.pool.bound.now p.pool.m = rw (x.count, x.fours, x.codes, x.bound) (context_filed c ok e long filed) in
      let signs : Rows (points_in l.points.now) p.rows.now = rw rows e.signs in
      let codes : BoundaryCodes l.triangles.now p.pool.boundary.now = rw x.boundary (codes_taken e.boundary_codes) in
      let codes-long : length p.pool.boundary.now ≡ length l.triangles.now / 3 = ap length x.boundary ∙ length-take-le (length l.triangles.now / 3) f.boundary e.boundary_codes.long in
      let sets : CornerSets p.pool.m p.pool.fours.now p.corners.now = rw (x.count, x.fours) corners in
      let through : PiercingSets (points_in l.points.now) p.pool.m p.pool.fours.now p.piercing.now = rw (x.count, x.fours) piercing in
      record {
        context = subst (λ (k : LentLists). Context (lists_of k) p.pool.fours.now p.pool.codes.now p.pool.bound.now p.pool.m) (sym same) context;
        signs = subst (λ (k : LentLists). Rows (points_in k.points.now) p.rows.now) (sym same) signs;
        boundary_codes = subst (λ (k : LentLists). BoundaryCodes k.triangles.now p.pool.boundary.now) (sym same) codes;
        boundary_long = subst (λ (k : LentLists). length p.pool.boundary.now ≡ length k.triangles.now / 3) (sym same) codes-long;
        corner_sets = sets;
        piercing_sets = subst (λ (k : LentLists). PiercingSets (points_in k.points.now) p.pool.m p.pool.fours.now p.piercing.now) (sym same) through;
      }
