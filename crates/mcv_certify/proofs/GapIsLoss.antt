-- Routes with a gap aren't covered.
use Rattle.std.proofs.Common.{◌<◌, sym, ap, subst}
use Rattle.std.specs.List.{All}
use Rattle.std.proofs.lemmas.Option.{slice_get_within}
use Rattle.mcv_cert.specs.Pair.{PlaceValue}
use Rattle.mcv_symbolic.proofs.CoveredByMembers.{covered_by_members}
use Rattle.mcv_blocks.proofs.CoveredHasReasons.{covered_has_reasons}
use Rattle.mcv_certify.specs.Gap.{GapIsLoss}

pub gap_lost : GapIsLoss
gap_lost r s i server sound positive bytes g covered =
    let word : All (λ c. c < 256) g.block.spot.class = subst (All (λ c. c < 256)) (sym (ap (λ (p : PlaceValue). p.spot.class) g.placed)) bytes in
    g.unanswered (covered_has_reasons covered_by_members r g.block g.leaf i sound positive covered g.block_is word g.readable (slice_get_within g.leaf.servers i server g.has))
