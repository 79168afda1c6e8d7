-- `cavity_job::boundary::push_face` meets its contract. Assumes nothing.
use mathlib.Core.Path.{ap, ◌∙◌}
use Prim.Native.Nat.{ℕ}
use native.Mathlib.Omega.{arith}
use Rattle.bench_rules.specs.Bench.{member}
use Rattle.cavity_job.proofs.CavityLists.PlaceLoop.{place_most}
use Rattle.cavity_job.proofs.FaceLists.BoundaryFaces.{member_any, listed_matched, listed_open}
use Rattle.cavity_job.proofs.boundary.push_face.Goals as goal

pub returns-then-contains : goal.returns-then-contains
returns-then-contains c =
    let a = c.args in
    let e = c.contains.ensures.value ∙ member_any _ a.codes.now ∙ ap (λ (x : ℕ). member x a.codes.now) c.tri_code.ensures in
    (omega arith, λ ts w. listed_matched a.codes.now a.a a.b a.c e c.if-contains.true w)

pub overflow_cast-list : goal.overflow_cast-list
overflow_cast-list c = omega (arith, c.requires.2, c.place_of.ensures, place_most c.args.numbers.now c.args.a)

pub overflow_cast-list-2 : goal.overflow_cast-list-2
overflow_cast-list-2 c = omega (arith, c.requires.2, c.place_of-2.ensures, place_most c.args.numbers.now c.args.b)

pub overflow_cast-list-3 : goal.overflow_cast-list-3
overflow_cast-list-3 c = omega (arith, c.requires.2, c.place_of-3.ensures, place_most c.args.numbers.now c.args.c)

pub returns : goal.returns
returns c =
    let a = c.args in
    let e = c.contains.ensures.value ∙ member_any _ a.codes.now ∙ ap (λ (x : ℕ). member x a.codes.now) c.tri_code.ensures in (
      omega arith,
      λ ts w. listed_open a.codes.now a.a a.b a.c e c.if-contains.false c.requires.0 c.place_of.ensures c.place_of-2.ensures c.place_of-3.ensures w,
    )
