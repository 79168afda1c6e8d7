-- The triangles and the edges of a list of bytes, the first one and the others. Assumes nothing.
use mathlib.Core.Path.{◌≡◌, refl, sym, subst, ap, ◌∙◌}
use mathlib.Core.Bool.{Bool, true, false, ◌&&◌, ◌||◌, not}
use mathlib.Core.List.{List, [], ◌∷◌}
use Prim.Native.Nat.{ℕ, zero, suc, ◌+◌, ◌-◌, ◌/◌, ◌≤◌, ◌<◌}
use native.Mathlib.Omega.{arith}
use lib.Dec.{eqb}
use lib.ListN.{length, get_or, take, drop}
use lib.IntN.{ℤ, pos}
use Rattle.std.proofs.Common.{int_eq, add-zero}
use Rattle.std.specs.Bool.{Decides}
use Rattle.std.proofs.lemmas.Bool.Decides.{Decides-int_eq}
use Rattle.geometry.specs.Space.{V3, v3, of, equal, points_in, same_place}
use Rattle.laws.proofs.Checker.Signed.{equal_same, same_equal}
use Rattle.std.proofs.lemmas.List.{take_rest, length-drop}
use Rattle.laws.specs.Laws.{Tri, tri, Edge}
use Rattle.laws.specs.Check.{tris_in, edges_in, tri_bad, any_tri_bad, tri_taken, tris_alike, directed, unmatched, edge_bad, entry_bad, any_entry_bad, place_taken, two_alike}
use Rattle.laws.specs.inner.Listed.{triangles_in, kept_in, same_three, edge_wrong, Within, AllWithin, Counts, tris_from, edges_from, tri_at, edge_at, count_of, balanced}
use Rattle.laws.proofs.Basics.Lists.{Each, none, more}
use Rattle.laws.proofs.Basics.Scan.{Step}
use Rattle.laws.proofs.Checker.Counts.{Counting, edge, counting_end}
use Rattle.laws.proofs.Checker.Rest.{tris_start, tris_more, tris_done, edges_start, edges_more}
use Rattle.checker.specs.declared.list.Triangle.{Triangle}
use Rattle.checker.specs.declared.list.Point.{Point}
use Rattle.checker.specs.Listed.{tri_of, tri_even, point_of}
use Rattle.checker.proofs.Asking.{some}

pub triangles_none : (bs : List ℕ) → length bs < 3 → triangles_in bs ≡ []
unfolding tris_in
triangles_none bs h = let d : length bs / 3 ≡ 0 = omega arith in rw d refl

pub triangles_first : (bs : List ℕ) → 3 ≤ length bs → triangles_in bs ≡ tri (get_or bs 0 0) (get_or bs 1 0) (get_or bs 2 0) ∷ triangles_in (take (length bs - 3) (drop 3 bs))
unfolding tris_in
triangles_first bs h =
    let d : length bs / 3 ≡ suc ((length bs - 3) / 3) = omega arith in
    rw (d, take_rest bs 3, length-drop 3 bs) refl

pub edges_none : (bs : List ℕ) → length bs < 2 → kept_in bs ≡ []
unfolding edges_in
edges_none bs h = let d : length bs / 2 ≡ 0 = omega arith in rw d refl

pub edges_first : (bs : List ℕ) → 2 ≤ length bs → kept_in bs ≡ record { a = get_or bs 0 0; b = get_or bs 1 0 } ∷ kept_in (take (length bs - 2) (drop 2 bs))
unfolding edges_in
edges_first bs h =
    let d : length bs / 2 ≡ suc ((length bs - 2) / 2) = omega arith in
    rw (d, take_rest bs 2, length-drop 2 bs) refl

pub points_none : (cs : List ℤ) → length cs < 3 → points_in cs ≡ []
unfolding points_in
points_none [] h = refl
points_none (x ∷ []) h = refl
points_none (x ∷ y ∷ []) h = refl
points_none (x ∷ y ∷ w ∷ ps) h = absurd (omega arith)

pub points_first : (cs : List ℤ) → 3 ≤ length cs →
    points_in cs ≡ v3 (of (get_or cs 0 (pos 0))) (of (get_or cs 1 (pos 0))) (of (get_or cs 2 (pos 0))) ∷ points_in (take (length cs - 3) (drop 3 cs))
unfolding points_in
points_first [] h = absurd (omega arith)
points_first (x ∷ []) h = absurd (omega arith)
points_first (x ∷ y ∷ []) h = absurd (omega arith)
points_first (x ∷ y ∷ w ∷ ps) h = rw (take_rest (x ∷ y ∷ w ∷ ps) 3) refl

-- ---- two points are one where they coincide
coordinate_is : (x y : ℤ) → int_eq x y ≡ equal (of x) (of y)
coordinate_is x y = go (int_eq x y) (equal (of x) (of y)) (Decides-int_eq x y) refl
  where
    go : (a b : Bool) → Decides a (x ≡ y) → equal (of x) (of y) ≡ b → a ≡ b
    go true b d e = sym (equal_same x y (d.0 refl)) ∙ e
    go false true d e = d.1 (same_equal x y e)
    go false false d e = refl

pub same_place_is : (p q : Point) → (int_eq p.x q.x && (int_eq p.y q.y && int_eq p.z q.z)) ≡ same_place (point_of p) (point_of q)
unfolding same_place v3
same_place_is p q = rw (coordinate_is p.x q.x, coordinate_is p.y q.y, coordinate_is p.z q.z) refl

-- ---- the tests of whole lists, element by element
pub edge_bad_is : (n : ℕ) (es : List Edge) → some (edge_wrong n) es ≡ edge_bad n es
unfolding some edge_bad
edge_bad_is n [] = refl
edge_bad_is n (e ∷ es) = rw (edge_bad_is n es) refl

pub any_entry_bad_is : (vs : List ℤ) → some entry_bad vs ≡ any_entry_bad vs
unfolding some any_entry_bad
any_entry_bad_is [] = refl
any_entry_bad_is (v ∷ vs) = rw (any_entry_bad_is vs) refl

pub place_taken_is : (p : V3) (ps : List V3) → some (same_place p) ps ≡ place_taken p ps
unfolding some place_taken
place_taken_is p [] = refl
place_taken_is p (q ∷ qs) = rw (place_taken_is p qs) refl

pub two_alike_first : {ps later : List V3} (p : V3) → ps ≡ p ∷ later → Step (two_alike ps) (place_taken p later) (two_alike later)
unfolding two_alike
two_alike_first p e = record { is = rw e refl }

pub two_alike_none : {ps : List V3} → ps ≡ [] → two_alike ps ≡ false
unfolding two_alike
two_alike_none e = rw e refl

pub any_tri_bad_is : (n : ℕ) (ts : List Tri) → some (tri_bad n) ts ≡ any_tri_bad n ts
unfolding some any_tri_bad
any_tri_bad_is n [] = refl
any_tri_bad_is n (t ∷ ts) = rw (any_tri_bad_is n ts) refl

pub tri_taken_is : (t : Tri) (ts : List Tri) → some (same_three t) ts ≡ tri_taken t ts
unfolding some tri_taken
tri_taken_is t [] = refl
tri_taken_is t (s ∷ ss) = rw (tri_taken_is t ss) refl

pub alike_first : {ts later : List Tri} (t : Tri) → ts ≡ t ∷ later → Step (tris_alike ts) (tri_taken t later) (tris_alike later)
unfolding tris_alike
alike_first t e = record { is = rw e refl }

pub alike_none : {ts : List Tri} → ts ≡ [] → tris_alike ts ≡ false
unfolding tris_alike
alike_none e = rw e refl

-- ---- the triangles of present points
each_from : (n : ℕ) (bs : List ℕ) → AllWithin n bs → (left i : ℕ) → i + left ≡ length bs / 3 → Each (Within n) (tris_from bs i)
each_from n bs w zero i e = rw (tris_done bs i (omega arith)) none
each_from n bs w (suc left) i e = rw (tris_more bs i (omega arith)) (more (w i (omega arith)) (each_from n bs w left (i + 1) (omega arith)))

pub each_within : (n : ℕ) (bs : List ℕ) → AllWithin n bs → Each (Within n) (triangles_in bs)
each_within n bs w = rw (tris_start bs) (each_from n bs w (length bs / 3) 0 (omega arith))

pub first_of_each : {A : Type 0} {P : A → Type 0} {ts later : List A} {t : A} → ts ≡ t ∷ later → Each P ts → P t × Each P later
first_of_each {A} {P} e w = go (rw e at w)
  where
    go : {later : List A} {t : A} → Each P (t ∷ later) → P t × Each P later
    go (more p ps) = (p, ps)

pub each_at : {A : Type 0} {P : A → Type 0} {ts : List A} {t : A} → Each P ts → (k : ℕ) → k < length ts → t ≡ get_or ts k t → P t
each_at {P = P} (more p ps) zero h e = subst P (sym e) p
each_at (more p ps) (suc k) h e = each_at ps k (omega arith) e
each_at none k h e = absurd (omega arith)

-- ---- counting the edges of the first triangle
pub counting_first : {counts : List ℕ} {all : List Edge} {ts later : List Tri} (t : Triangle) → ts ≡ tri_of t ∷ later → Counting counts (directed ts) all →
    Counting counts (edge t.a t.b ∷ edge t.b t.c ∷ edge t.c t.a ∷ directed later) all
unfolding directed tri
counting_first t e k = rw e at k

pub counting_none : {counts : List ℕ} {all : List Edge} {ts : List Tri} → ts ≡ [] → Counting counts (directed ts) all → Counts counts all
unfolding directed
counting_none e k = counting_end (rw e at k)

-- ---- number 8: the edges of a triangle by the table
three : (p q r s : Bool) → (not (p && (q && r)) || s) ≡ (not p || (not q || (not r || s)))
three true true true s = refl
three true true false s = refl
three true false r s = refl
three false q r s = refl

even_is : {counts : List ℕ} {es : List Edge} → Counts counts es → {a b : ℕ} → a < 16 → b < 16 → eqb (count_of counts a b) (count_of counts b a) ≡ balanced es a b
even_is k {a} {b} h m = rw (k.each a b h m, k.each b a m h) refl

pub unmatched_is : {counts : List ℕ} {es : List Edge} → Counts counts es → (ts : List Tri) → Each (Within 16) ts → some (λ t. not (tri_even counts t)) ts ≡ unmatched (directed ts) es
unfolding some directed unmatched tri_even
unmatched_is k [] w = refl
unmatched_is {counts} {es} k (t ∷ ts) (more h w) =
    rw (unmatched_is k ts w, even_is k h.a h.b, even_is k h.b h.c, even_is k h.c h.a) (three (balanced es t.a t.b) (balanced es t.b t.c) (balanced es t.c t.a) (unmatched (directed ts) es))

-- ---- the triangles and the edges by number
pub triangles_count : (bs : List ℕ) → length (triangles_in bs) ≡ length bs / 3
unfolding tris_in
triangles_count bs = go (length bs / 3) bs
  where
    go : (n : ℕ) (cs : List ℕ) → length (tris_in n cs) ≡ n
    go zero cs = refl
    go (suc n) cs = ap suc (go n (drop 3 cs))

pub edges_count : (bs : List ℕ) → length (kept_in bs) ≡ length bs / 2
unfolding edges_in
edges_count bs = go (length bs / 2) bs
  where
    go : (n : ℕ) (cs : List ℕ) → length (edges_in n cs) ≡ n
    go zero cs = refl
    go (suc n) cs = ap suc (go n (drop 2 cs))

triangle_from : (bs : List ℕ) (k i : ℕ) (d : Tri) → i + k < length bs / 3 → get_or (tris_from bs i) k d ≡ tri_at bs (i + k)
triangle_from bs zero i d h = rw (tris_more bs i (omega arith), add-zero i) refl
triangle_from bs (suc k) i d h = let e : i + suc k ≡ i + 1 + k = omega arith in rw (tris_more bs i (omega arith), e) (triangle_from bs k (i + 1) d (omega arith))

pub triangle_is : (bs : List ℕ) (i : ℕ) (d : Tri) → i < length bs / 3 → get_or (triangles_in bs) i d ≡ tri_at bs i
triangle_is bs i d h = let e : 0 + i ≡ i = omega arith in rw (tris_start bs) (triangle_from bs i 0 d (omega arith) ∙ ap (tri_at bs) e)

edge_from : (bs : List ℕ) (k i : ℕ) (d : Edge) → i + k < length bs / 2 → get_or (edges_from bs i) k d ≡ edge_at bs (i + k)
edge_from bs zero i d h = rw (edges_more bs i (omega arith), add-zero i) refl
edge_from bs (suc k) i d h = let e : i + suc k ≡ i + 1 + k = omega arith in rw (edges_more bs i (omega arith), e) (edge_from bs k (i + 1) d (omega arith))

pub edge_is : (bs : List ℕ) (i : ℕ) (d : Edge) → i < length bs / 2 → get_or (kept_in bs) i d ≡ edge_at bs i
edge_is bs i d h = let e : 0 + i ≡ i = omega arith in rw (edges_start bs) (edge_from bs i 0 d (omega arith) ∙ ap (edge_at bs) e)
