use Rattle.mcv_hubs.proofs.Counting.{same_eight}
use Rattle.mcv_hubs.proofs.seats.HubPasses.seats.Goals as goal

pub returns-clause-unused : goal.returns-clause-unused
returns-clause-unused g c = same_eight _ _ _ _ _ _ _ _ _ _ _ _ _ _ _ _ c.next_seat.ensures.unused c.next_seat-2.ensures.unused c.next_seat-3.ensures.unused c.next_seat-4.ensures.unused c.next_seat-5.ensures.unused c.next_seat-6.ensures.unused c.next_seat-7.ensures.unused c.next_seat-8.ensures.unused
