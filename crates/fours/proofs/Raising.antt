-- Flags raised from the first triangle to the last are those raised from the last to the first, and as many of them were down before. Assumes nothing.
use mathlib.Core.Path.{◌≡◌, refl, sym, ap, ◌∙◌}
use mathlib.Core.Bool.{Bool, true, false, ◌&&◌, not, and_assoc}
use mathlib.Core.List.{List, [], ◌∷◌, ◌++◌}
use Prim.Native.Nat.{ℕ, zero, suc}
use native.Mathlib.Decide.{ℕ_discrete}
use native.Mathlib.Omega.{arith}
use borrow.Author.Tests.{lt-ltb, ne_eqb}
use lib.Dec.{ltb, eqb}
use lib.ListN.{get_or, set}
use lib.Seq.{get_or-set_other}
use Rattle.std.proofs.lemmas.List.{set_comm}
use Rattle.laws.specs.Laws.{Tri}
use Rattle.laws.specs.inner.FaceCodes.{face_code}
use Rattle.laws.specs.inner.FaceFlags.{flagged, flag, flag_all, all_new}

-- ---- two flags, in either order
flag_swap : (s t : Tri) (fl : List ℕ) → flag (flag fl s) t ≡ flag (flag fl t) s
unfolding flag
flag_swap s t fl = go (ℕ_discrete (face_code s) (face_code t))
  where
    go : Dec (face_code s ≡ face_code t) → set (set fl (face_code s) 1) (face_code t) 1 ≡ set (set fl (face_code t) 1) (face_code s) 1
    go (yes e) = rw e refl
    go (no n) = set_comm fl (face_code s) (face_code t) 1 1 n

down_swap : (s t : Tri) (fl : List ℕ) → (not (flagged (flag fl t) s) && not (flagged fl t)) ≡ (not (flagged (flag fl s) t) && not (flagged fl s))
unfolding flag flagged
down_swap s t fl = go (ℕ_discrete (face_code s) (face_code t))
  where
    both : (a b : Bool) → (a && b) ≡ (b && a)
    both true true = refl
    both true false = refl
    both false true = refl
    both false false = refl

    go : Dec (face_code s ≡ face_code t) →
        (not (ltb 0 (get_or (set fl (face_code t) 1) (face_code s) 0)) && not (ltb 0 (get_or fl (face_code t) 0)))
        ≡ (not (ltb 0 (get_or (set fl (face_code s) 1) (face_code t) 0)) && not (ltb 0 (get_or fl (face_code s) 0)))
    go (yes e) = rw e refl
    go (no n) =
        rw (get_or-set_other fl (face_code t) (face_code s) 1 0 n, get_or-set_other fl (face_code s) (face_code t) 1 0 (λ e. n (sym e)))
        (both (not (ltb 0 (get_or fl (face_code s) 0))) (not (ltb 0 (get_or fl (face_code t) 0))))

-- ---- a flag before the others
pub flag_first : (t : Tri) (ts : List Tri) (fl : List ℕ) → flag_all ts (flag fl t) ≡ flag_all (t ∷ ts) fl
unfolding flag_all
flag_first t [] fl = refl
flag_first t (s ∷ ss) fl = ap (λ k. flag k s) (flag_first t ss fl) ∙ flag_swap t s (flag_all ss fl)

one_then : (a b c d e n m : Bool) → (a && b) ≡ (c && d) → (d && n) ≡ (e && m) → (a && (b && n)) ≡ (e && (c && m))
one_then a b true d e n m h k = sym (and_assoc a b n) ∙ ap (λ x. x && n) h ∙ k
one_then a b false d true n m h k = sym (and_assoc a b n) ∙ ap (λ x. x && n) h
one_then a b false d false n m h k = sym (and_assoc a b n) ∙ ap (λ x. x && n) h

pub new_first : (t : Tri) (ts : List Tri) (fl : List ℕ) → all_new (t ∷ ts) fl ≡ (not (flagged fl t) && all_new ts (flag fl t))
unfolding all_new flag_all
new_first t [] fl = refl
new_first t (s ∷ ss) fl =
    let g = flag_all ss fl in
    rw (flag_first t ss fl)
    (one_then (not (flagged (flag g s) t)) (not (flagged g s)) (not (flagged (flag g t) s)) (not (flagged g t)) (not (flagged fl t)) (all_new ss fl) (all_new ss (flag fl t))
    (down_swap t s g) (new_first t ss fl))

-- ---- some before the others
pub flag_then : (ts us : List Tri) (fl : List ℕ) → flag_all us (flag_all ts fl) ≡ flag_all (ts ++ us) fl
unfolding flag_all
flag_then [] us fl = refl
flag_then (t ∷ ts) us fl = flag_first t us (flag_all ts fl) ∙ ap (λ k. flag k t) (flag_then ts us fl)

pub new_then : (ts us : List Tri) (fl : List ℕ) → all_new (ts ++ us) fl ≡ (all_new ts fl && all_new us (flag_all ts fl))
unfolding all_new flag_all
new_then [] us fl = refl
new_then (t ∷ ts) us fl =
    new_first t (ts ++ us) fl ∙ ap (λ b. not (flagged fl t) && b) (new_then ts us (flag fl t))
    ∙ sym (and_assoc (not (flagged fl t)) (all_new ts (flag fl t)) (all_new us (flag_all ts (flag fl t))))
    ∙ ap (λ b. b && all_new us (flag_all ts (flag fl t))) (sym (new_first t ts fl)) ∙ ap (λ k. all_new (t ∷ ts) fl && all_new us k) (flag_first t ts fl)

-- ---- a flag that is down
pub down_is : (x : ℕ) → eqb x 0 ≡ not (ltb 0 x)
down_is zero = refl
down_is (suc x) = rw (lt-ltb 0 (suc x) (omega arith), ne_eqb (suc x) 0 (λ e. absurd (omega arith))) refl
