-- Routes with the same classes. Only private contracts cite this.
use Rattle.std.specs.Prelude.{◌≡◌, ℕ, List, Some, map, slice_get}
use Rattle.std.specs.List.{Contains}
use Rattle.mcv_blocks.specs.declared.classes.RouteClass.{RouteClass}
use Rattle.mcv_classes.specs.Class.{ClassValue, IsListed}
use Rattle.mcv_classes.specs.Words.{class_words}
use Rattle.mcv_route.specs.Routes.{RouteEntry, RoutesValue}
use Rattle.mcv_route.specs.Tree.{Tree}

-- by route and word
abbrev pub place_of : RouteClass → ℕ × List ℕ
place_of c = (c.route, c.class.word)

abbrev pub places_of : List RouteClass → List (ℕ × List ℕ)
places_of cs = map place_of cs

-- each class of the first tree that has a member is one of the second
abbrev pub AreListedToo : Tree → Tree → Type 0
AreListedToo t u = (c : ClassValue) → IsListed (class_words t) c → Contains (class_words u) c.word

-- routes of one number have the same classes
abbrev pub HaveSameClasses : RoutesValue → RoutesValue → Type 0
HaveSameClasses r n = (i : ℕ) (e d : RouteEntry) → slice_get r.entries i ≡ Some e → slice_get n.entries i ≡ Some d → AreListedToo e.tree d.tree × AreListedToo d.tree e.tree
