-- `mesh::state::is_mesh` meets its contract. Assumes nothing.
use mathlib.Core.Path.{sym, ap, ◌∙◌}
use mathlib.Core.Bool.{Bool, ◌&&◌}
use Rattle.bench_rules.specs.Bench.{mesh_qualities, same_numbers}
use Rattle.mesh.proofs.Holding.{accepted_sound, is_accepted, accepted_test}
use Rattle.mesh.proofs.state.is_mesh.Goals as goal

pub are_measured-requires : goal.are_measured-requires
are_measured-requires c =
    let s = c.args in
    accepted_sound s.points.now s.tets.now (is_accepted c.mesh_refusal.result c.mesh_refusal.ensures (sym c.is_ok.ensures.value ∙ c.if-is_ok.true))

pub returns-then-is_ok : goal.returns-then-is_ok
returns-then-is_ok c =
    let s = c.args in
    c.are_measured.ensures
    ∙ sym (ap (λ (b : Bool). b && same_numbers s.qualities.now (mesh_qualities s.points.now s.tets.now)) (sym (accepted_test c.mesh_refusal.result c.mesh_refusal.ensures) ∙ sym c.is_ok.ensures.value ∙ c.if-is_ok.true))

pub returns-else-is_ok : goal.returns-else-is_ok
returns-else-is_ok c =
    let s = c.args in
    c.if-is_ok.false
    ∙ sym (ap (λ (b : Bool). b && same_numbers s.qualities.now (mesh_qualities s.points.now s.tets.now)) (sym (accepted_test c.mesh_refusal.result c.mesh_refusal.ensures) ∙ sym c.is_ok.ensures.value ∙ c.if-is_ok.false))
