-- `removal::ring::Ring::row_worst` meets its contract. The invariant: going on from the least so far over the triples from the i-th on makes the worst of all. Assumes nothing.
use mathlib.Core.Path.{◌≡◌, refl, sym, ap, ◌∙◌, subst}
use mathlib.Core.List.{List, [], ◌∷◌}
use Prim.Native.Nat.{ℕ, suc, ◌+◌, ◌-◌, ◌≤◌, ◌<◌, min}
use native.Mathlib.Omega.{arith}
use native.Mathlib.Numerals.{add-one}
use lib.ListN.{length, drop}
use Rattle.geometry.specs.declared.tetrahedron.Four.{Four}
use Rattle.laws.specs.Laws.{Job, entry, quality, worst, worst_from}
use Rattle.laws.specs.Lists.{with_table}
use Rattle.laws.specs.Check.{job}
use Rattle.laws.specs.inner.NextFour.{Ordered}
use Rattle.triangulations.specs.Rings.{row_at, triple_at}
use Rattle.triangulations.specs.EdgeRing.{joined, joins, row_fours}
use Rattle.triangulations.proofs.GoodRings.{Good, good_ring}
use Rattle.triangulations.proofs.RowFours.{joins_more, joins_end, position_rises, join_a, join_b}
use Rattle.triangulations.proofs.WorstSorted.{worst_sorted}
use Rattle.removal.specs.inner.Leading.{Above}
use Rattle.removal.specs.inner.Ringed.{measured_job}
use Rattle.removal.proofs.ring.Ring.row_worst.Goals as goal
use Rattle.removal.proofs.ring.Ring.row_worst.Goals.{Start, At-loop-i}

good : (s : Start) → Good (length s.args.self.now.ring.now + 2) s.args.self.now.a s.args.self.now.b s.args.self.now.ring.now
good s = good_ring (length s.args.self.now.ring.now + 2) s.args.self.now.a s.args.self.now.b s.args.self.now.ring.now s.args.self.now.good

-- two fours more
worst_two : (j : Job) (w : ℕ) (f g : Four) {fs gs : List Four} → gs ≡ f ∷ g ∷ fs → worst_from w j gs ≡ worst_from (min (min w (quality (entry j f))) (quality (entry j g))) j fs
unfolding worst_from
worst_two j w f g e = rw e refl

-- going on never makes it greater
worst_falls : (j : Job) (w : ℕ) (fs : List Four) → worst_from w j fs ≤ w
unfolding worst_from
worst_falls j w [] = omega arith
worst_falls j w (f ∷ fs) = let e = worst_falls j (min w (quality (entry j f))) fs in omega arith

pub overflow_sub-i-end : goal.overflow_sub-i-end
overflow_sub-i-end c = let g = good (goal.at.overflow_sub-i-end c).Start in omega arith

pub loop-i-init : goal.loop-i-init
unfolding worst
loop-i-init c = (omega arith, refl, refl)

pub triple_at-requires : goal.triple_at-requires
triple_at-requires c = let g = good (goal.at.triple_at-requires c).Start in (c.args.self.now.rows, g.least, g.most, c.requires, omega arith)

pub with_triple-least-requires : goal.with_triple-least-requires
with_triple-least-requires c =
    let a = c.args in
    let i = c.loop-i.i in
    let l : i < length a.self.now.ring.now - 2 = omega arith in
    let p = position_rises a.self.now.a a.self.now.b a.self.now.ring.now c.args.self.now.good a.row i c.requires l in
    let x = join_a a.self.now.a a.self.now.b a.self.now.ring.now c.args.self.now.good a.row i c.requires l in
    let y = join_b a.self.now.a a.self.now.b a.self.now.ring.now c.args.self.now.good a.row i c.requires l in
    let n = sym c.args.self.now.many in
    rw c.triple_at.ensures (subst (λ (m : ℕ). Ordered m (joined a.self.now.a a.self.now.ring.now (triple_at (length a.self.now.ring.now) a.row i))) n x, subst (λ (m : ℕ). Ordered m (joined a.self.now.b a.self.now.ring.now (triple_at (length a.self.now.ring.now) a.row i))) n y, omega arith, omega arith, omega arith)

pub loop-i-preserved : goal.loop-i-preserved
loop-i-preserved c =
    let a = c.args in
    let l = c.loop-i in
    let r = a.self.now.ring.now in
    let j = job (with_table a.self.now.points.now a.self.now.table.now) in
    let t = triple_at (length r) a.row l.i in
    let m = joins_more a.self.now.a a.self.now.b r (length r) a.row c.requires l.i (omega arith) in
    let e : c.with_triple-least.result ≡ min (min l.least (quality (entry j (joined a.self.now.a r t)))) (quality (entry j (joined a.self.now.b r t))) = rw c.triple_at.ensures at c.with_triple-least.ensures in
    let f = worst_two j l.least (joined a.self.now.a r t) (joined a.self.now.b r t) m in
    (omega arith, l.invariant.1, l.invariant.2 ∙ f ∙ rw (add-one l.i) (ap (λ (w : ℕ). worst_from w j (joins a.self.now.a a.self.now.b r (drop (suc l.i) (row_at (length r) a.row)))) (sym e)))

-- the row's worst quality, from what is left
from_here : (c : At-loop-i) → worst (measured_job c.args.self.now) (row_fours c.args.self.now.a c.args.self.now.b c.args.self.now.ring.now (row_at (length c.args.self.now.ring.now) c.args.row)) ≡ worst_from c.loop-i.least (measured_job c.args.self.now) (joins c.args.self.now.a c.args.self.now.b c.args.self.now.ring.now (drop c.loop-i.i (row_at (length c.args.self.now.ring.now) c.args.row)))
unfolding row_fours
from_here c =
    let a = c.args in
    worst_sorted (measured_job c.args.self.now) (joins a.self.now.a a.self.now.b a.self.now.ring.now (row_at (length a.self.now.ring.now) a.row)) ∙ c.loop-i.invariant.2

pub returns-then-least-bound : goal.returns-then-least-bound
unfolding Above
returns-then-least-bound c =
    let s : Start = (goal.at.returns-then-least-bound c).Start in let a = c.args in
    let l = c.loop-i in
    let e = from_here (goal.at.returns-then-least-bound c).At-loop-i in
    let m = worst_falls (measured_job c.args.self.now) l.least (joins a.self.now.a a.self.now.b a.self.now.ring.now (drop l.i (row_at (length a.self.now.ring.now) a.row))) in
    let t = c.if-least-bound.true in
    (λ h. let no : ⊥ = omega (arith, e, m, t, h) in absurd no, λ h. t)

pub returns : goal.returns
unfolding worst_from Above
returns c =
    let s : Start = (goal.at.returns c).Start in let a = c.args in
    let l = c.loop-i in
    let r = a.self.now.ring.now in
    let n = joins_end a.self.now.a a.self.now.b r (length r) a.row c.requires l.i (omega arith) in
    let e = from_here (goal.at.returns c).At-loop-i ∙ ap (worst_from l.least (measured_job c.args.self.now)) n in
    (λ h. sym e, λ h. omega (arith, e, h))
