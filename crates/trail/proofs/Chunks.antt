-- A loop over the chunks of a list: where it stands, and the chunk that it is given. Assumes nothing.
use mathlib.Core.Path.{◌≡◌, sym, ap, ◌∙◌}
use mathlib.Core.List.{List, ◌++◌}
use denote.Ref.{Bor}
use Prim.Native.Nat.{ℕ, ◌+◌, ◌*◌, ◌≤◌, ◌<◌}
use native.Mathlib.Omega.{arith}
use lib.ListN.{length, get_or, drop, get_or-append}
use lib.Seq.{drop-append_seam}
use Rattle.std.specs.Prelude.{Some, None}
use Rattle.std.specs.Slice.Iter.{chunks_exact_rest, chunks_exact_size, chunks_exact_steps}
use Rattle.std.specs.declared.slice.ChunksExact.{ChunksExact}
use Rattle.laws.specs.Laws.{tri}
use Rattle.laws.specs.inner.Listed.{tri_at}
use Rattle.std.proofs.lemmas.List.{drop-drop, length-drop, length-append, get_or-drop}

-- i chunks of n numbers have been passed
pub record AtChunk (n : ℕ) (xs : List ℕ) (s : ChunksExact ℕ) (i : ℕ) : Type 0 where
  pub size : chunks_exact_size s ≡ n
  pub rest : chunks_exact_rest s ≡ drop (i * n) xs
  pub within : i * n ≤ length xs

-- t is the chunk i of the list
pub record ChunkOf (n : ℕ) (xs : List ℕ) (i : ℕ) (t : List ℕ) : Type 0 where
  pub long : length t ≡ n
  pub within : i * n + n ≤ length xs
  pub each : (k : ℕ) → k < n → get_or t k 0 ≡ get_or xs (i * n + k) 0

pub chunks_begin : {n : ℕ} {xs : List ℕ} {s : ChunksExact ℕ} → chunks_exact_size s ≡ n → chunks_exact_rest s ≡ xs → AtChunk n xs s 0
chunks_begin {n} {xs} e r =
    let none : 0 * n ≡ 0 = omega arith in record { size = e; rest = r ∙ ap (λ k. drop k xs) (sym none); within = omega arith }

module _ {n : ℕ} {xs : List ℕ} {s : ChunksExact ℕ} {i : ℕ} (at : AtChunk n xs s i) (u : ChunksExact ℕ) where
  abbrev Given : (t : Bor (List ℕ)) → Type 0
  Given t = chunks_exact_steps {A = ℕ} s (Some t) u

  cut : (t : Bor (List ℕ)) → Given t → t.now ++ chunks_exact_rest u ≡ drop (i * n) xs
  cut t p = sym p.1.0 ∙ at.rest

  pub chunk_given : (t : Bor (List ℕ)) → Given t → ChunkOf n xs i t.now
  chunk_given t p =
      let parts = cut t p in
      let long : length t.now ≡ n = p.1.1 ∙ at.size in
      let sum : length t.now + length (chunks_exact_rest u) ≡ length (drop (i * n) xs) = sym (length-append t.now (chunks_exact_rest u)) ∙ ap length parts in
      let left = length-drop (i * n) xs in
      let within = at.within in
      record {
        long = long;
        within = omega arith;
        each = λ k h. sym (get_or-append t.now (chunks_exact_rest u) 0 k (omega arith)) ∙ ap (λ (ys : List ℕ). get_or ys k 0) parts ∙ get_or-drop (i * n) xs k 0;
      }

  pub chunk_passed : (t : Bor (List ℕ)) → Given t → AtChunk n xs u (i + 1)
  chunk_passed t p =
      let g = chunk_given t p in
      let within = g.within in
      let up : (i + 1) * n ≡ i * n + n = omega arith in
      record {
        size = p.0 ∙ at.size;
        rest =
            sym (drop-append_seam t.now (chunks_exact_rest u)) ∙ ap (drop (length t.now)) (cut t p) ∙ ap (λ k. drop k (drop (i * n) xs)) g.long
            ∙ drop-drop n (i * n) xs ∙ ap (λ k. drop k xs) (sym up);
        within = omega arith;
      }

  pub chunks_over : chunks_exact_steps {A = ℕ} s None u → length xs < i * n + n
  chunks_over p =
      let left = length-drop (i * n) xs in
      let rest = ap length at.rest in let within = at.within in let size = at.size in let few = p.1.0 in omega arith

-- ---- the first place of a chunk, and a triangle of a list of them
pub chunk_first : {n : ℕ} {xs : List ℕ} {i : ℕ} {t : List ℕ} → 0 < n → ChunkOf n xs i t → get_or t 0 0 ≡ get_or xs (i * n) 0
chunk_first {n} {xs} {i} h g =
    let none : i * n + 0 ≡ i * n = omega arith in g.each 0 h ∙ ap (λ k. get_or xs k 0) none

pub chunk_triangle : {xs : List ℕ} {i : ℕ} {t : List ℕ} → ChunkOf 3 xs i t → tri (get_or t 0 0) (get_or t 1 0) (get_or t 2 0) ≡ tri_at xs i
chunk_triangle g =
    let a = chunk_first (omega arith) g in let b = g.each 1 (omega arith) in let c = g.each 2 (omega arith) in cc
