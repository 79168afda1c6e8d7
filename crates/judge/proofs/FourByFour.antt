-- What the tests of the laws answer for whole lists, four by four, point by point, triangle by triangle. Assumes nothing.
use mathlib.Core.Path.{◌≡◌, refl, sym, ap, ◌∙◌}
use mathlib.Core.Bool.{Bool, true, false, ◌&&◌, not, and-true, and_assoc}
use mathlib.Core.List.{List, [], ◌∷◌}
use Prim.Native.Nat.{ℕ, zero, suc, ◌+◌, min}
use native.Mathlib.Omega.{arith}
use native.Mathlib.Numerals.{add-one}
use lib.Dec.{ltb}
use lib.ListN.{length, drop}
use lib.IntN.{ℤ}
use Rattle.std.specs.List.{range_with_len}
use Rattle.geometry.specs.Range.{any_far, Present}
use Rattle.geometry.specs.Space.{V3, point, points_in, solid, turned, inside, apart}
use Rattle.geometry.specs.declared.tetrahedron.Four.{Four}
use Rattle.laws.specs.Laws.{Job, Tri, Edge, rising, entry, quality, law_1, law_2, interior_empty, none_inside, law_3, faces, all_faces, apart_all, law_5, corner_of, corners_from, holds_edge, all_kept, worst_from}
use Rattle.laws.specs.inner.NextFour.{Ordered}
use Rattle.laws.specs.inner.FaceFlags.{flag_all, all_new, flagged, all_flagged, flagged_either, all_flagged_either, all_closed}
use Rattle.laws.proofs.Basics.Lists.{Each, each_map}
use Rattle.laws.proofs.Basics.Passes.{Test, TwoTests}
use Rattle.laws.proofs.Order.Sorted.{increasing, law_1_well_formed}
use Rattle.laws.proofs.Faces.FlagLoops.{closed_append}
use Rattle.laws.proofs.Judge.FourList.{ordered_present}
use Rattle.laws.proofs.Judge.LawSteps.{inside_test, inside_end}
use Rattle.checker.proofs.Asking.{some, each}
use Rattle.judge.proofs.Judging.{edge_to_itself}
use Rattle.fours.specs.Listed.{leads}
use Rattle.fours.proofs.Raising.{flag_then, new_then}

-- ---- a list that keeps law 1: each four has rising numbers of present points
pub ordered_each : (n : ℕ) (fs : List Four) → law_1 n fs ≡ true → Each (Ordered n) fs
ordered_each n fs e =
    each_map (λ f w. let u = increasing n f w in record { ab = omega (arith, u); bc = omega (arith, u); cd = omega (arith, u); dn = omega (arith, u) })
    (law_1_well_formed n fs e)

pub present_each : (cs : List ℤ) (fs : List Four) → any_far cs ≡ false → law_1 (length (points_in cs)) fs ≡ true → Each (Present cs) fs
present_each cs fs n e = each_map (λ f w. ordered_present cs f n w) (ordered_each (length (points_in cs)) fs e)

-- ---- law 1
order_by : (n : ℕ) (f : Four) (gs : List Four) → law_1 n (f ∷ gs) ≡ ((rising f && ltb f.d n) && (leads f gs && law_1 n gs))
unfolding law_1 leads
order_by n f [] = sym (and-true (rising f && ltb f.d n))
order_by n f (g ∷ gs) = refl

pub order_first : (n : ℕ) {fs later : List Four} (f : Four) → fs ≡ f ∷ later → TwoTests (law_1 n fs) (rising f && ltb f.d n) (leads f later) (law_1 n later)
order_first n {later = later} f e = record { is = rw e (order_by n f later) }

pub order_none : (n : ℕ) {fs : List Four} → fs ≡ [] → law_1 n fs ≡ true
unfolding law_1
order_none n e = rw e refl

-- the later fours keep law 1 too
pub order_later : (n : ℕ) {fs later : List Four} (f : Four) → fs ≡ f ∷ later → law_1 n fs ≡ true → law_1 n later ≡ true
order_later n {fs} {later} f e h = go (rising f && ltb f.d n) (leads f later) (law_1 n later) (sym (order_first n f e).is ∙ h)
  where
    go : (a b c : Bool) → (a && (b && c)) ≡ true → c ≡ true
    go true true c k = k
    go true false c k = cc
    go false b c k = cc

-- ---- laws 2 and 3
pub law_2_is : (j : Job) (fs : List Four) → each (λ f. solid j.points f && ltb 0 (quality (entry j f))) fs ≡ law_2 j fs
unfolding each law_2
law_2_is j [] = refl
law_2_is j (f ∷ fs) = rw (law_2_is j fs) refl

pub law_3_is : (j : Job) (fs : List Four) → each (interior_empty j.points) fs ≡ law_3 j fs
unfolding each law_3
law_3_is j [] = refl
law_3_is j (f ∷ fs) = rw (law_3_is j fs) refl

inside_from : (ps : List V3) (f : Four) (left i : ℕ) → i + left ≡ length ps → each (λ p. not (inside ps f (point ps p))) (range_with_len i left) ≡ none_inside ps f (drop i ps)
unfolding each
inside_from ps f zero i e = sym (inside_end ps f i (omega arith))
inside_from ps f (suc left) i e = rw (inside_from ps f left (i + 1) (omega arith)) (sym (inside_test ps f i (omega arith)).is)

pub none_inside_is : (ps : List V3) (f : Four) → each (λ p. not (inside ps f (point ps p))) (range_with_len 0 (length ps)) ≡ none_inside ps f ps
none_inside_is ps f = inside_from ps f (length ps) 0 (omega arith)

-- ---- law 4 and law 8 by flags
pub flagged_is : (fl : List ℕ) (ts : List Tri) → each (flagged fl) ts ≡ all_flagged ts fl
unfolding each all_flagged
flagged_is fl [] = refl
flagged_is fl (t ∷ ts) = rw (flagged_is fl ts) refl

pub either_is : (fl : List ℕ) (ts : List Tri) → each (flagged_either fl) ts ≡ all_flagged_either ts fl
unfolding each all_flagged_either
either_is fl [] = refl
either_is fl (t ∷ ts) = rw (either_is fl ts) refl

pub closed_is : (ps : List V3) (own bnd : List ℕ) (fs : List Four) → each (λ f. all_closed (faces (turned ps f)) own bnd) fs ≡ all_closed (all_faces ps fs) own bnd
unfolding each all_closed all_faces
closed_is ps own bnd [] = refl
closed_is ps own bnd (f ∷ fs) = rw (closed_is ps own bnd fs) (sym (closed_append (faces (turned ps f)) (all_faces ps fs) own bnd))

-- ---- law 5
pub apart_all_is : (ps : List V3) (f : Four) (gs : List Four) → each (apart ps f) gs ≡ apart_all ps f gs
unfolding each apart_all
apart_all_is ps f [] = refl
apart_all_is ps f (g ∷ gs) = rw (apart_all_is ps f gs) refl

pub law_5_first : (j : Job) {fs later : List Four} (f : Four) → fs ≡ f ∷ later → Test (law_5 j fs) (apart_all j.points f later) (law_5 j later)
unfolding law_5
law_5_first j f e = record { is = rw e refl }

pub law_5_none : (j : Job) {fs : List Four} → fs ≡ [] → law_5 j fs ≡ true
unfolding law_5
law_5_none j e = rw e refl

-- ---- laws 6 and 7
pub held_is : (e : Edge) (fs : List Four) → some (λ f. corner_of e.a f && corner_of e.b f) fs ≡ holds_edge e fs
unfolding some holds_edge
held_is e [] = refl
held_is e (f ∷ fs) = rw (held_is e fs) refl

pub corners_is : (fs : List Four) (n p : ℕ) → each (λ q. holds_edge (record { a = q; b = q }) fs) (range_with_len p n) ≡ corners_from n p fs
unfolding each corners_from
corners_is fs zero p = refl
corners_is fs (suc n) p = rw (add-one p, corners_is fs n (suc p), edge_to_itself p fs) refl

pub all_kept_is : (fs : List Four) (es : List Edge) → each (λ e. holds_edge e fs) es ≡ all_kept es fs
unfolding each all_kept
all_kept_is fs [] = refl
all_kept_is fs (e ∷ es) = rw (all_kept_is fs es) refl

-- ---- the worst quality
pub worst_first : (j : Job) (w : ℕ) {fs later : List Four} (f : Four) → fs ≡ f ∷ later → worst_from w j fs ≡ worst_from (min w (quality (entry j f))) j later
unfolding worst_from
worst_first j w f e = rw e refl

pub worst_none : (j : Job) (w : ℕ) {fs : List Four} → fs ≡ [] → worst_from w j fs ≡ w
unfolding worst_from
worst_none j w e = rw e refl

-- ---- the flags of the first four's faces, and those of the others
pub raised_first :
    (ps : List V3) {fs later : List Four} (f : Four) → fs ≡ f ∷ later → {g : Four} → g ≡ turned ps f → (new : Bool) (fl : List ℕ) {r : Bool} {raised : List ℕ} →
    (r ≡ all_new (faces g) fl) × (raised ≡ flag_all (faces g) fl) →
    ((new && all_new (all_faces ps fs) fl) ≡ ((new && r) && all_new (all_faces ps later) raised)) × (flag_all (all_faces ps fs) fl ≡ flag_all (all_faces ps later) raised)
unfolding all_faces
raised_first ps {later = later} f e {g} t new fl (n, u) = (
  rw (e, sym t, n, u) (ap (λ b. new && b) (new_then (faces g) (all_faces ps later) fl) ∙ sym (and_assoc new (all_new (faces g) fl) (all_new (all_faces ps later) (flag_all (faces g) fl)))),
  rw (e, sym t, u) (sym (flag_then (faces g) (all_faces ps later) fl)),
)

pub raised_none : (ps : List V3) {fs : List Four} → fs ≡ [] → (new : Bool) (fl : List ℕ) → ((new && all_new (all_faces ps fs) fl) ≡ new) × (flag_all (all_faces ps fs) fl ≡ fl)
unfolding all_faces all_new flag_all
raised_none ps e new fl = (rw e (and-true new), rw e refl)
