-- `search::search::search_from` meets its contract: what pruning leaves of all candidates, searched. Assumes nothing.
use native.Mathlib.Omega.{arith}
use Rattle.fillings.proofs.ByCode.BoundaryCodes.{accepted_triangles_few}
use Rattle.trail.specs.Pool.{lists_of}
use Rattle.raising.proofs.Raising.Lending.{lent_flags, lent_whole}
use Rattle.search.proofs.search.search_from.Goals as goal

pub pool-pool-requires : goal.pool-pool-requires
pool-pool-requires c = let few = accepted_triangles_few (lists_of c.args.lists.now) c.requires.0 in omega arith

pub reduce-requires : goal.reduce-requires
reduce-requires c =
    let a = c.args in
    let p = c.requires in
    let x = c.pool-pool.ensures in
    let q = c.pool-pool.result in
    (p.0, lent_flags a.lists.now a.faces.now a.all.now q x p.1, x.bound_long, p.3, p.4, lent_whole a.lists.now a.faces.now a.all.now q x {L = lists_of a.lists.now} {q = 1} p.2)
