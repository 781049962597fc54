use Rattle.mcv_hubs.proofs.Counting.{same_eight}
use Rattle.mcv_hubs.proofs.seats.Seats.merge.Goals as goal

pub returns : goal.returns
returns g c =
    rw (← c.self.view_is, ← c.other.view_is) (same_eight _ _ _ _ _ _ _ _ _ _ _ _ _ _ _ _ c.merge.ensures c.merge-2.ensures c.merge-3.ensures c.merge-4.ensures c.merge-5.ensures c.merge-6.ensures c.merge-7.ensures c.merge-8.ensures)
