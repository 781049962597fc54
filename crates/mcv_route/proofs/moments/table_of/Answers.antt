use Rattle.mcv_route.proofs.Breaks.{made-table}
use Rattle.mcv_route.proofs.moments.table_of.Goals as goal

-- the table of the moments as they are after both calls
pub returns : goal.returns
returns c =
    rw (c.in_ok-moments_of.ensures, c.as_slice.ensures.value) (made-table _ _ _ c.sort_unstable.ensures.permutation c.sort_unstable.ensures.sorted c.dedup.ensures.filtered)
