use Rattle.std.proofs.Common.{◌≡◌, ◌∙◌, ap, refl, sym, true, true≢false}
use Rattle.std.specs.Prelude.{is_some}
use Rattle.mcv_judge.specs.PairsInMemory.{leg_of}
use Rattle.mcv_picks.specs.Picks.{borrowed, first_twin}
use Rattle.mcv_picks.proofs.SearchResults.{mapped_some}
use Rattle.mcv_gaps.proofs.Answering.{twin_answers, twin_if}
use Rattle.mcv_gaps.proofs.gaps.is_missed.Goals as goal

pub returns-then-is_some : goal.returns-then-is_some
returns-then-is_some c = λ sizes sized.
    let legs = c.args.picks.now in
    let leaf = leg_of c.args.leaf.now in
    let some : is_some (first_twin legs leaf) ≡ true = ap is_some (sym c.twin.ensures) ∙ mapped_some borrowed c.twin.result ∙ sym c.is_some.ensures ∙ c.if-is_some.true in
    (λ e. absurd (true≢false (sym e)), λ m. absurd (twin_answers sizes legs leaf sized (twin_if legs leaf (first_twin legs leaf) refl some) m))
