-- Eras: what handles send changes at certain moments only, their breaks. An era lasts from one to the next (own).
use Rattle.std.specs.Prelude.{◌≡◌, ◌≢◌, ◌≤◌, ◌<◌, ◌↔◌, ◌⊎◌, ℕ, zero, suc, ◌+◌, ◌*◌, List, [], ◌∷◌, ◌++◌, Option, Some, None, ⊤, nat_le, nat_eq, max, filter, length, slice_get, slice_index}
use Rattle.std.specs.Option.{option_map_or}
use Rattle.std.specs.List.{All, Contains, flat_map}
use Rattle.std.specs.List.Sorted.{IsStrictlyIncreasing}
use Rattle.mcv_pools.specs.Table.{numbered}
use Rattle.mcv_route.specs.Tree.{Tree, Trees, pool, null, error, many, warm_up, migrate, prefix_selector, operation_selector, none, child}
use Rattle.mcv_route.specs.Routes.{RoutesValue}
use Rattle.mcv_route.specs.Situation.{has_passed}

-- of a migration its start, and one and two intervals later (mcrouter wiki, MigrateRoute)
abbrev pub own_breaks : ℕ → ℕ → List ℕ
own_breaks start interval = start ∷ (start + interval) ∷ (start + 2 * interval) ∷ []

abbrev mutual
  -- those of each migration, and of what is below it
  pub breaks : Tree → List ℕ
  breaks (pool p ranges targets) = breaks_each targets
  breaks null = []
  breaks error = []
  breaks (many kind ts) = breaks_each ts
  breaks (warm_up cold warm exptime) = breaks cold ++ breaks warm
  breaks (migrate from to start interval) = own_breaks start interval ++ (breaks from ++ breaks to)
  breaks (prefix_selector prefixes ts) = breaks_each ts
  breaks (operation_selector ops ts) = breaks_each ts

  pub breaks_each : Trees → List ℕ
  breaks_each none = []
  breaks_each (child t ts) = breaks t ++ breaks_each ts

-- those of all routes
abbrev pub breaks_of : RoutesValue → List ℕ
breaks_of r = flat_map (λ e. breaks e.tree) r.entries

-- in rising order, each break once
pub record IsBreakTable (bs table : List ℕ) : Type 0 where
  pub rising : IsStrictlyIncreasing table
  pub all : All (Contains table) bs
  pub only : All (Contains bs) table

-- the breaks at the moment or before it
abbrev pub passed : List ℕ → ℕ → List ℕ
passed bs moment = filter (λ b. nat_le b moment) bs

abbrev pub greatest : List ℕ → Option ℕ
greatest [] = None
greatest (b ∷ bs) = Some (option_map_or (max b) (greatest bs) b)

-- the break that opened the era of a moment: the last at the moment or before it, and none in the first era
abbrev pub since_at : List ℕ → ℕ → Option ℕ
since_at bs moment = greatest (passed bs moment)

-- the number of the era of a moment: how many breaks, each counted once, are at the moment or before it
abbrev pub era_at : List ℕ → ℕ → ℕ
era_at bs moment = length (numbered nat_eq (passed bs moment))

-- the break at which some era of the routes began, and none for the first era
abbrev pub IsEra : RoutesValue → Option ℕ → Type 0
IsEra r None = ⊤
IsEra r (Some b) = Contains (breaks_of r) b

-- the break that opened the era of this number: none opened era 0, and the later ones were opened by the breaks in rising order
abbrev pub IsEraOf : RoutesValue → ℕ → Option ℕ → Type 0
IsEraOf r zero since = since ≡ None
IsEraOf r (suc k) since = (table : List ℕ) × IsBreakTable (breaks_of r) table × (slice_get table k ≡ since) × (since ≢ None)

-- the routes have an era of this number
abbrev pub HasEra : RoutesValue → ℕ → Type 0
HasEra r era = (since : Option ℕ) × IsEraOf r era since

-- a moment of the one era and a moment of the other are at most w apart
pub record HaveMomentsWithin (bs : List ℕ) (w : ℕ) (since other : Option ℕ) : Type 0 where
  pub moment : ℕ
  pub another : ℕ
  pub in_one : since_at bs moment ≡ since
  pub in_other : since_at bs another ≡ other
  pub after : another ≤ moment + w
  pub before : moment ≤ another + w

-- the eras that these breaks opened are near: they have moments at most w apart, or are one, which may have no moment
abbrev pub IsNear : RoutesValue → ℕ → Option ℕ → Option ℕ → Type 0
IsNear r w since other = (since ≡ other) ⊎ HaveMomentsWithin (breaks_of r) w since other

-- era `other` is one of the routes', and near era `era`, by their numbers
abbrev pub IsNearEra : RoutesValue → ℕ → ℕ → ℕ → Type 0
IsNearEra r w era other = (since : Option ℕ) × (read : Option ℕ) × IsEraOf r era since × IsEraOf r other read × IsNear r w since read

-- the eras from `first` on, and before `end`, are those that are near one
pub record AreNearEras (r : RoutesValue) (w era first end : ℕ) : Type 0 where
  pub first_is : first ≤ era
  pub end_is : era < end
  pub near : (other : ℕ) → first ≤ other → other < end → IsNearEra r w era other
  pub all : (other : ℕ) → IsNearEra r w era other → (first ≤ other) × (other < end)

-- s is the last of the breaks that are at the moment or before it, or none of them is
abbrev pub IsSince : List ℕ → ℕ → Option ℕ → Type 0
IsSince bs moment None = All (λ b. moment < b) bs
IsSince bs moment (Some s) = Contains bs s × (s ≤ moment) × All (λ b. b ≤ moment → b ≤ s) bs

-- since_at is what its name says
abbrev pub SinceIsTheLastBreak : Type 0
SinceIsTheLastBreak = (bs : List ℕ) (moment : ℕ) → IsSince bs moment (since_at bs moment)

-- moments after the same break are in one era
abbrev pub ErasAreOpenedByBreaks : Type 0
ErasAreOpenedByBreaks = (bs : List ℕ) (m n : ℕ) → since_at bs m ≡ since_at bs n → era_at bs m ≡ era_at bs n

-- each break has passed by the one that opened the era where it has passed by the moment: an era says all that rules ask of a moment
abbrev pub ErasSayWhatHasPassed : Type 0
ErasSayWhatHasPassed = (bs : List ℕ) (moment b : ℕ) → Contains bs b → has_passed (since_at bs moment) b ≡ nat_le b moment

-- at every moment the last break before it is what opened the era of the moment's number, and begins one of the routes' eras
abbrev pub MomentsHaveEras : Type 0
MomentsHaveEras = (r : RoutesValue) (moment : ℕ) → IsEraOf r (era_at (breaks_of r) moment) (since_at (breaks_of r) moment) × IsEra r (since_at (breaks_of r) moment)

-- two moments at most w apart are in near eras
abbrev pub MomentsAreNear : Type 0
MomentsAreNear = (r : RoutesValue) (w m n : ℕ) → n ≤ m + w → m ≤ n + w → IsNear r w (since_at (breaks_of r) m) (since_at (breaks_of r) n)

-- of two eras that aren't one, the earlier ends by the break of its number in the table, and the later began at that before its own: they are near where the
-- second of these is less than w after the first, but before a break at 0 there is no moment
abbrev pub NearByBreaks : Type 0
NearByBreaks =
    (r : RoutesValue) (table : List ℕ) (w e f : ℕ) (since other : Option ℕ) → IsBreakTable (breaks_of r) table → e ≤ f → IsEraOf r e since → IsEraOf r (suc f) other
    → IsNear r w since other ↔ (0 < slice_index table e) × (slice_index table f < slice_index table e + w)

-- each era is near itself, and the near ones of another are those to which it is near
abbrev pub NearIsSymmetric : Type 0
NearIsSymmetric = (r : RoutesValue) (w : ℕ) (since other : Option ℕ) → IsNear r w since since × (IsNear r w since other → IsNear r w other since)

-- within no time no other era is near, and within more time none is lost
abbrev pub NearGrows : Type 0
NearGrows = (r : RoutesValue) (w v : ℕ) (since other : Option ℕ) → (IsNear r 0 since other → since ≡ other) × (w ≤ v → IsNear r w since other → IsNear r v since other)
