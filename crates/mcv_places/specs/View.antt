-- What the code's values mean.
use Rattle.std.specs.Prelude.{ℕ, List, Option, option_map}
use Rattle.serde_json.specs.View.{view}
use Rattle.mcv_places.specs.Site.{Name, Site, value, text, server}
use Rattle.mcv_places.specs.declared.name.Named.{Named}
use Rattle.mcv_places.specs.declared.name.Named.TheVariants as named

abbrev pub name_of : Named → Name
name_of (named.Value v) = value (view v.now)
name_of (named.Text t) = text t.now
name_of (named.Server pool i) = server pool.now i

-- the site of what was found, with the pointer that leads to it
abbrev pub found_site : (pointer : List ℕ) → Option Named → Option Site
found_site pointer found = option_map (λ n. record { pointer = pointer; name = name_of n }) found
