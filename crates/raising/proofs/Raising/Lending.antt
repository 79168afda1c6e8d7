-- A table of candidates lent as a pool: what is said of the table is said of the pool. Assumes nothing.
use mathlib.Core.Path.{◌≡◌, refl}
use Prim.Native.Nat.{ℕ}
use Rattle.laws.specs.Lists.{Lists}
use Rattle.laws.specs.Check.{job}
use Rattle.fillings.specs.Codes.{BoundFlags}
use Rattle.fillings.specs.Tables.{Whole}
use Rattle.trail.specs.declared.pool.Lists.{Lists as LentLists}
use Rattle.trail.specs.declared.pool.Pool.{Pool}
use Rattle.trail.specs.Pool.{lists_of, fours_of}
use Rattle.candidates.specs.declared.boundary.Faces.{Faces}
use Rattle.candidates.specs.declared.table.Candidates.{Candidates}
use Rattle.candidates.specs.Faces.{FacesOf}
use Rattle.candidates.specs.Table.{PoolOf, WholeIn, candidates_of}

module _ (l : LentLists) (f : Faces) (c : Candidates) (p : Pool) (x : PoolOf l f c p) where
  pub lent_whole : {L : Lists} {q : ℕ} → WholeIn L q c → Whole L q p.fours.now p.codes.now p.qualities.now p.m
  lent_whole w = rw (x.count, x.fours, x.codes, x.qualities) w

  pub lent_fours : fours_of p ≡ candidates_of c
  lent_fours = rw (x.count, x.fours) refl

  pub lent_flags : FacesOf (lists_of l) f → BoundFlags (job (lists_of l)).triangles p.bound.now
  lent_flags e = rw x.bound e.bounds
