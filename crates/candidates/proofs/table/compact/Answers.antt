-- `candidates::table::compact` meets its contract. The loop's invariant: the new table holds the alive ones among the first k. Assumes nothing.
use mathlib.Core.Path.{◌≡◌, refl, sym, subst, ap, ◌∙◌}
use mathlib.Core.List.{List}
use Prim.Native.Nat.{ℕ, ◌+◌}
use native.Mathlib.Omega.{arith}
use lib.ListN.{get_or}
use Rattle.fillings.specs.Filing.{put_four}
use Rattle.candidates.proofs.Pooling.Compacting.{Compacted, compacted_below, compacted_copy, compacted_filed, compacted_pass, compacted_start, same_candidates, with_copy}
use Rattle.candidates.proofs.table.compact.Goals as goal
use Rattle.candidates.proofs.table.compact.Goals.{then-marks-k-eq1, else-marks-k-eq1}

pub loop-k-init : goal.loop-k-init
loop-k-init c = (omega arith, compacted_start c.args.pool.now c.args.marks.now (record (c.args.alive.now) { m = 0 }) refl (omega arith) (omega arith) (omega arith))

pub push-requires : goal.push-requires
push-requires c = let b = compacted_below c.loop-k.invariant.1 in omega arith

pub loop-k-preserved : goal.loop-k-preserved
loop-k-preserved c =
    let a = c.args in
    let k = c.loop-k.k in
    let i = c.loop-k.invariant in
    let x = c.loop-k.alive in (
      omega arith,
      elim c.if-marks-k-eq1.branch [
        | then-marks-k-eq1 w ↦
            let p = w.push.ensures in
            let fours = p.fours ∙ ap (λ (xs : List ℕ). put_four x.m (get_or xs 0 0) (get_or xs 1 0) (get_or xs 2 0) (get_or xs 3 0) x.fours) w.points_of.ensures in
            let codes = p.codes ∙ ap (λ (xs : List ℕ). put_four x.m (get_or xs 0 0) (get_or xs 1 0) (get_or xs 2 0) (get_or xs 3 0) x.codes) w.faces_of.ensures in
            let count = p.count in
            let grades = p.qualities in
            rw w.alive-is
            (subst (Compacted a.pool.now a.marks.now (k + 1)) (sym (same_candidates w.push.new.self (with_copy i.1 c.requires.0 c.loop-k-test.true) count fours codes grades))
            (compacted_copy i.1 c.requires.0 c.loop-k-test.true w.if-marks-k-eq1.true))
        | else-marks-k-eq1 w ↦ rw w.alive-is (compacted_pass i.1 w.if-marks-k-eq1.false)
      ],
    )

pub returns-clause-filed : goal.returns-clause-filed
returns-clause-filed c =
    let e : c.loop-k.k ≡ c.args.pool.now.m = omega arith in
    let w = rw e at c.loop-k.invariant.1 in
    λ L p. compacted_filed L p w
