-- Coverage of all routes, for all rests and eras, and by a member of each class.
use Rattle.std.specs.Prelude.{◌≡◌, ◌↔◌, ℕ, ◌≤◌, List, Option, Some, map}
use Rattle.std.specs.List.{Contains}
use Rattle.mcv_base.specs.Key.{IsRest}
use Rattle.mcv_route.specs.Eras.{IsEra, IsNear}
use Rattle.mcv_route.specs.Routes.{RouteEntry, RoutesValue, IsSoundRoutes, within}
use Rattle.mcv_route.specs.Verdict.{IsCovered}
use Rattle.mcv_classes.specs.Class.{IsMember}
use Rattle.mcv_classes.specs.Words.{class_words}
use Rattle.mcv_symbolic.specs.JustifiedRoutes.{IsJustified}

-- the number of servers of each symbol
abbrev pub sizes_of : RoutesValue → List ℕ
sizes_of r = map (λ s. s.n) r.symbols

-- every route is covered at every rest in every two eras that are near, within the window of the routes
abbrev pub AreCovered : RoutesValue → Type 0
AreCovered r =
    (e : RouteEntry) (rest : List ℕ) (since read : Option ℕ) → Contains r.entries e → IsRest rest → IsEra r since → IsEra r read → IsNear r r.window since read
    → IsCovered (sizes_of r) e.tree rest since read

-- every route is justified at the member of every class in every two eras that are near, within the window of the routes
abbrev pub AreJustified : RoutesValue → Type 0
AreJustified r =
    (e : RouteEntry) (word member : List ℕ) (since read : Option ℕ) → Contains r.entries e → Contains (class_words e.tree) word → IsMember (class_words e.tree) word (Some member) → IsRest member → IsEra r since → IsEra r read
    → IsNear r r.window since read → IsJustified (sizes_of r) e.tree member since read

-- the routes are covered exactly when finitely many comparisons say so
abbrev pub CoveredByMembers : Type 0
CoveredByMembers = (r : RoutesValue) → IsSoundRoutes r → AreCovered r ↔ AreJustified r

-- what is covered for a time is for a shorter one
abbrev pub CoveredForLess : Type 0
CoveredForLess = (r : RoutesValue) (v : ℕ) → v ≤ r.window → AreCovered r → AreCovered (within v r)

-- for no time each era is looked at by itself
abbrev pub CoveredInOneEra : Type 0
CoveredInOneEra =
    (r : RoutesValue) → r.window ≡ 0 → AreCovered r ↔ ((e : RouteEntry) (rest : List ℕ) (since : Option ℕ) → Contains r.entries e → IsRest rest → IsEra r since → IsCovered (sizes_of r) e.tree rest since since)
