-- `removal::ring::Ring::is_row_lawful` meets its contract. Assumes nothing.
use mathlib.Core.Path.{◌≡◌, sym, ap, ◌∙◌}
use mathlib.Core.List.{[]}
use Prim.Native.Nat.{ℕ, ◌+◌, ◌*◌, ◌-◌, ◌%◌, ◌≤◌}
use native.Mathlib.Omega.{arith}
use lib.Dec.{eqb}
use lib.ListN.{length, take}
use lib.Seq.{length-take-le}
use Rattle.laws.specs.Laws.{broken, lawful}
use Rattle.laws.specs.Lists.{Lists, job_lists}
use Rattle.laws.specs.Check.{job}
use Rattle.judge.proofs.Laws.{none_broken}
use Rattle.judge.proofs.Judging.{whole_fours}
use Rattle.offers.proofs.BytesOfFours.{fours_listed_in_front}
use Rattle.triangulations.proofs.GoodRings.{Good, good_ring}
use Rattle.removal.proofs.ring.Ring.is_row_lawful.Goals as goal
use Rattle.removal.proofs.ring.Ring.is_row_lawful.Goals.{Start, After-write_row}

good : (s : Start) → Good (length s.args.self.now.ring.now + 2) s.args.self.now.a s.args.self.now.b s.args.self.now.ring.now
good s = good_ring (length s.args.self.now.ring.now + 2) s.args.self.now.a s.args.self.now.b s.args.self.now.ring.now s.args.self.now.good

pub overflow_sub-end : goal.overflow_sub-end
overflow_sub-end c = let g = good (goal.at.overflow_sub-end c).Start in omega arith

pub overflow_mul-end-2 : goal.overflow_mul-end-2
overflow_mul-end-2 c = let g = good (goal.at.overflow_mul-end-2 c).Start in omega arith

-- the row's fours have room in the list
room : (c : After-write_row) → (length c.args.self.now.ring.now - 2) * 2 * 4 ≤ length c.write_row.new.list
room c = let g = good_ring (length c.args.self.now.ring.now + 2) c.args.self.now.a c.args.self.now.b c.args.self.now.ring.now c.args.self.now.good in let e = c.write_row.ensures.1 in omega arith

pub slice_bounds-list-end : goal.slice_bounds-list-end
slice_bounds-list-end c = room (goal.at.slice_bounds-list-end c).After-write_row

pub slice_bounds-lowest_broken-end : goal.slice_bounds-lowest_broken-end
slice_bounds-lowest_broken-end c =
    let s : After-write_row = (goal.at.slice_bounds-lowest_broken-end c).After-write_row in sym (length-take-le ((length c.args.self.now.ring.now - 2) * 2 * 4) c.write_row.new.list (room s))

pub returns : goal.returns
unfolding lawful
returns c =
    let w : After-write_row = (goal.at.returns c).After-write_row in let m = (length c.args.self.now.ring.now - 2) * 2 in
    let xs = c.write_row.new.list in
    let l : Lists = job_lists c.args.self.now.points.now c.args.self.now.triangles.now [] [] c.args.self.now.table.now in
    let z : length (take (m * 4) xs) % 4 ≡ 0 = rw (length-take-le (m * 4) xs (room w)) (omega arith) in
    let e = whole_fours (job l) (take (m * 4) xs) z ∙ ap (broken (job l)) (fours_listed_in_front m xs (room w) ∙ c.write_row.ensures.0) in
    none_broken c.lowest_broken.result c.is_none.result c.is_none.ensures ∙ ap (λ (x : ℕ). eqb x 0) (c.lowest_broken.ensures ∙ e)
