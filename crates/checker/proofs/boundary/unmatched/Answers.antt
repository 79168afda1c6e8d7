-- `checker::boundary::unmatched` meets its contract. Assumes nothing.
use mathlib.Core.Path.{◌∙◌}
use mathlib.Core.Bool.{not}
use borrow.Author.Tests.{tests}
use Rattle.std.proofs.Common.{rules}
use Rattle.std.proofs.lemmas.Iterator.Consumers.{YieldsList-from_first}
use Rattle.std.proofs.lemmas.Iterator.Adapters.{serves_from_places}
use Rattle.laws.specs.inner.Listed.{triangles_in, Within}
use Rattle.checker.specs.Listed.{tri_of, triangles_left, tri_even}
use Rattle.checker.proofs.Asking.{any_is}
use Rattle.checker.proofs.Listed.{each_within, each_at, unmatched_is}
use Rattle.checker.proofs.boundary.unmatched.Goals as goal

pub any-requires-clause-callable : goal.any-requires-clause-callable
any-requires-clause-callable c =
    serves_from_places (YieldsList-from_first tri_of triangles_left _ c.of.ensures) (λ x q k. search (rules, tests))
    (λ x k h e. let w : Within 16 (tri_of x) = each_at (each_within 16 c.args.triangles.now c.requires.1) k h e in search (rules, w))

pub returns : goal.returns
returns c =
    any_is (λ t. not (tri_even c.edge_counts-counts.result t)) c.any.new.self _ _ c.any.ensures.ran (YieldsList-from_first tri_of triangles_left _ c.of.ensures) (λ x b q k. search (rules, tests))
    ∙ unmatched_is c.edge_counts-counts.ensures (triangles_in c.args.triangles.now) (each_within 16 c.args.triangles.now c.requires.1)
