use Rattle.std.proofs.Common.{◌≡◌, ◌∙◌, None, Option, ap, drop, refl, sym}
use Rattle.mcv_places.specs.Site.{Site, site_below}
use Rattle.mcv_places.specs.View.{found_site}
use Rattle.mcv_places.proofs.Sites.{none_below}
use Rattle.mcv_places.proofs.site.site_at.Goals as goal

pub returns-in_default : goal.returns-in_default
returns-in_default c =
    let rest = drop c.loop-number.number-index c.args.position.now in
    let none : found_site c.loop-number.pointer.items c.loop-number.found ≡ None = rw c.in_default.is refl in
    sym (c.loop-number.invariant ∙ (ap (λ (s : Option Site). site_below s rest) none ∙ none_below rest))
