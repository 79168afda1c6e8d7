-- `removal::ring::Ring::top_row` meets its contract. The invariant: the best of the first r rows, lawful or not. Assumes nothing.
use Prim.Native.Nat.{◌+◌}
use lib.ListN.{length}
use Rattle.triangulations.proofs.GoodRings.{good_ring}
use Rattle.removal.proofs.ring.Ring.top_row.Goals as goal

pub row_count-r-end-requires : goal.row_count-r-end-requires
row_count-r-end-requires c =
    let g = good_ring (length c.args.self.now.ring.now + 2) c.args.self.now.a c.args.self.now.b c.args.self.now.ring.now c.args.self.now.good in (g.least, g.most)
