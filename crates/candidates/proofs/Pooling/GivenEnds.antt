-- The points that a chunk of an accepted job's list names: they are present. Assumes nothing.
use mathlib.Core.Path.{◌≡◌}
use mathlib.Core.List.{List}
use Prim.Native.Nat.{ℕ, ◌+◌, ◌*◌, ◌<◌}
use native.Mathlib.Omega.{arith}
use lib.ListN.{length, get_or}
use Rattle.geometry.specs.Space.{points_in}
use Rattle.laws.specs.Laws.{tri}
use Rattle.laws.specs.Lists.{Lists}
use Rattle.laws.specs.Check.{job_refusal}
use Rattle.laws.specs.inner.Listed.{edge_at, tri_at}
use Rattle.fillings.proofs.ByCode.BoundaryCodes.{accepted_kept_present, accepted_inner_present}
use Rattle.trail.proofs.Chunks.{ChunkOf, chunk_first}

-- t names the points a, b (and c) of the list
pub record EdgeGiven (n a b : ℕ) (t : List ℕ) : Type 0 where
  pub first : get_or t 0 0 ≡ a
  pub second : get_or t 1 0 ≡ b
  pub first_present : get_or t 0 0 < n
  pub second_present : get_or t 1 0 < n

pub record TriangleGiven (n a b c : ℕ) (t : List ℕ) : Type 0 where
  pub first : get_or t 0 0 ≡ a
  pub second : get_or t 1 0 ≡ b
  pub third : get_or t 2 0 ≡ c
  pub first_present : get_or t 0 0 < n
  pub second_present : get_or t 1 0 < n
  pub third_present : get_or t 2 0 < n

module _ (L : Lists) (accepted : job_refusal L ≡ 0) {i : ℕ} {t : List ℕ} where
  pub kept_given : ChunkOf 2 L.kept i t → EdgeGiven (length (points_in L.points)) (edge_at L.kept i).a (edge_at L.kept i).b t
  kept_given g =
      let there = accepted_kept_present L accepted in
      let within = g.within in
      let a = chunk_first (omega arith) g in
      let b = g.each 1 (omega arith) in
      record { first = a; second = b; first_present = omega (arith, there.each (i * 2) (omega arith), a); second_present = omega (arith, there.each (i * 2 + 1) (omega arith), b) }

  pub inner_given : ChunkOf 3 L.inner i t → TriangleGiven (length (points_in L.points)) (tri_at L.inner i).a (tri_at L.inner i).b (tri_at L.inner i).c t
  unfolding tri
  inner_given g =
      let within = g.within in
      let there = accepted_inner_present L accepted i (omega arith) in
      let a = chunk_first (omega arith) g in
      let b = g.each 1 (omega arith) in
      let c = g.each 2 (omega arith) in
      record { first = a; second = b; third = c; first_present = omega (arith, there.a, a); second_present = omega (arith, there.b, b); third_present = omega (arith, there.c, c) }
