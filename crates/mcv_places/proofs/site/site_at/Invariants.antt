use Rattle.std.proofs.Common.{◌≡◌, drop}
use Rattle.serde_json.specs.View.{view}
use Rattle.mcv_places.specs.Site.{site_at, site_below}
use Rattle.mcv_places.specs.View.{found_site}
use Rattle.mcv_places.proofs.site.site_at.Given as goal

abbrev pub invariant-loop-number : goal.invariant-loop-number
invariant-loop-number l = site_at (view l.document) l.route l.position ≡ site_below (found_site l.pointer.items l.found) (drop l.number-index l.position)
