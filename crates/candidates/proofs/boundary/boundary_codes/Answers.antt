-- `candidates::boundary::boundary_codes` meets its contract. The loop's invariant: the triangles passed are numbered. Assumes nothing.
use mathlib.Core.Path.{◌≡◌, subst, sym, ap, ◌∙◌}
use Prim.Native.Nat.{◌+◌, ◌*◌, ◌≤◌, ◌<◌}
use native.Mathlib.Omega.{arith}
use lib.ListN.{length, replicate}
use Rattle.std.specs.Iterator.Adapters.{enumerate_count, enumerate_source}
use Rattle.std.specs.Slice.Iter.{chunks_exact_rest, chunks_exact_size}
use Rattle.laws.specs.inner.FaceCodes.{face_code}
use Rattle.laws.specs.inner.Listed.{tri_at}
use Rattle.fillings.proofs.Loops.BoundaryLoops.{BoundaryCodesTo, boundary_codes_start, boundary_codes_next, boundary_codes_done}
use Rattle.trail.proofs.Chunks.{AtChunk, chunks_begin, chunk_given, chunk_passed, chunk_triangle, chunks_over}
use Rattle.candidates.proofs.boundary.boundary_codes.Goals as goal

pub loop-i-init : goal.loop-i-init
loop-i-init c =
    let ts = c.args.triangles.now in
    let e = c.enumerate-i-items.ensures in
    let made = c.into_iter-i-iterator.ensures.into_iter_gives in
    let none : enumerate_count c.into_iter-i-iterator.result ≡ 0 = ap (λ s. enumerate_count s) made ∙ e.count in
    let source = ap (λ s. enumerate_source s) made ∙ e.source in (
      subst (AtChunk 3 ts (enumerate_source c.into_iter-i-iterator.result)) (sym none)
          (chunks_begin (ap (λ s. chunks_exact_size s) source ∙ c.chunks_exact.ensures.size) (ap (λ s. chunks_exact_rest s) source ∙ c.chunks_exact.ensures.rest)),
      subst (λ k. BoundaryCodesTo k ts (replicate 4096 0)) (sym none) (boundary_codes_start ts),
    )

pub loop-i-preserved : goal.loop-i-preserved
loop-i-preserved c =
    let i = enumerate_count c.loop-i.i-iterator in
    let ts = c.args.triangles.now in
    let steps = c.in-Some.ensures.steps in
    let up = steps.2 in
    let passed = chunk_passed c.loop-i.invariant.0 (enumerate_source c.next.new.self) c.in-Some.t steps.0 in
    let g = chunk_given c.loop-i.invariant.0 (enumerate_source c.next.new.self) c.in-Some.t steps.0 in
    let same : c.face_code.result ≡ face_code (tri_at ts i) = c.face_code.ensures.0 ∙ ap face_code (chunk_triangle g) in
    let small : c.face_code.result < 4096 = c.face_code.ensures.1 in
    let within : i * 3 + 3 ≤ length ts = g.within in
    let few : i < 4096 = omega (arith, c.requires.0) in
    rw (steps.2, steps.1) (passed, boundary_codes_next c.face_code.result few same small c.loop-i.invariant.1)

pub returns : goal.returns
returns c =
    let over = chunks_over c.loop-i.invariant.0 (enumerate_source c.next.new.self) (c.in-None.ensures.steps.0) in boundary_codes_done c.requires.0 (omega arith) c.loop-i.invariant.1
