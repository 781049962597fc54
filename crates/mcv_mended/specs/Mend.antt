-- Routes beside those that they were mended from (own).
use Rattle.std.specs.Prelude.{◌≡◌, ◌≢◌, ◌↔◌, ℕ, List, Option, Some, All, map, slice_get}
use Rattle.std.specs.List.{Contains}
use Rattle.mcv_base.specs.Key.{IsRest}
use Rattle.mcv_base.specs.declared.operation.Op.{Op}
use Rattle.mcv_base.specs.declared.operation.Op.TheVariants.{Delete}
use Rattle.mcv_alike.specs.Alike.{DeletesMore, DoesAlike}
use Rattle.mcv_classes.specs.Class.{ClassValue, IsClassWord, IsListed}
use Rattle.mcv_classes.specs.Words.{class_words}
use Rattle.mcv_judge.specs.Reason.{LegValue}
use Rattle.mcv_route.specs.Eras.{IsEra}
use Rattle.mcv_route.specs.Routes.{RouteEntry, RoutesValue}
use Rattle.mcv_route.specs.Situation.{asked}
use Rattle.mcv_route.specs.Tree.{Tree}
use Rattle.mcv_needs.specs.Needs.{NeedValue}

-- for the keys of a class the second tree does what the first one does, but that deletes send these legs too
pub record IsClassMended (r n : RoutesValue) (t u : Tree) (word : List ℕ) (legs : List LegValue) : Type 0 where
  pub alike : (op : Op) (rest : List ℕ) (since : Option ℕ) → op ≢ Delete → IsRest rest → IsClassWord (class_words t) rest word → IsEra r since → DoesAlike r n t u (asked op rest since)
  pub deletes : (rest : List ℕ) (since : Option ℕ) → IsRest rest → IsClassWord (class_words t) rest word → IsEra r since → DeletesMore r n t u (asked Delete rest since) legs

-- the need is that of a class of the first routes' tree of its number, which is mended by it
pub record IsMendedBy (r n : RoutesValue) (need : NeedValue) : Type 0 where
  pub entry : RouteEntry
  pub mended : RouteEntry
  pub numbered : slice_get r.entries need.route ≡ Some entry
  pub also : slice_get n.entries need.route ≡ Some mended
  pub class : IsClassMended r n entry.tree mended.tree need.word need.legs

-- one of the needs is of this class
abbrev pub HasNeedFor : List NeedValue → (route : ℕ) → (word : List ℕ) → Type 0
HasNeedFor needs route word = (need : NeedValue) × Contains needs need × (need.route ≡ route) × (need.word ≡ word)

-- the second routes are the first ones, mended by these needs: the same routing prefixes and eras, and each class of each route is mended by its need
pub record IsMendOf (r n : RoutesValue) (needs : List NeedValue) : Type 0 where
  pub aliases : map (λ e. e.aliases) n.entries ≡ map (λ e. e.aliases) r.entries
  pub eras : (since : Option ℕ) → IsEra n since ↔ IsEra r since
  pub classes : All (IsMendedBy r n) needs
  pub all : (i : ℕ) (e : RouteEntry) (c : ClassValue) → slice_get r.entries i ≡ Some e → IsListed (class_words e.tree) c → HasNeedFor needs i c.word
