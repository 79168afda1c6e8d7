-- `cavity_job::boundary::push_faces` meets its contract. Assumes nothing.
use mathlib.Core.Path.{subst}
use mathlib.Core.List.{List}
use Rattle.laws.specs.Laws.{Tri}
use Rattle.cavity_job.specs.inner.Faces.{Listed}
use Rattle.cavity_job.proofs.FaceLists.BoundaryFaces.{one_face, two_faces, three_faces, four_faces}
use Rattle.cavity_job.proofs.boundary.push_faces.Goals as goal

pub returns : goal.returns
returns c =
    let a = c.args in
    λ ts w.
    subst (λ (us : List Tri). Listed a.numbers.now us c.push_face-4.new.list.triangle c.push_face-4.new.list.count) (four_faces a.codes.now a.f ts)
    (c.push_face-4.ensures.1 (three_faces a.codes.now a.f ts)
    (c.push_face-3.ensures.1 (two_faces a.codes.now a.f ts) (c.push_face-2.ensures.1 (one_face a.codes.now a.f ts) (c.push_face.ensures.1 ts w))))
