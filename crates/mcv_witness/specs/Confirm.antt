-- How the code decides on a finding. Nothing but private contracts cites this.
use Rattle.std.specs.Prelude.{ℕ, suc, Bool, true, false, ◌&&◌, not, List, [], ◌∷◌, Option, Some, None, nat_lt, slice_index}
use Rattle.std.specs.Cmp.Lexicographic.{slice_cmp}
use Rattle.std.specs.Ordering.{is_lt, nat_cmp}
use Rattle.mcv_base.specs.Reply.{is_error}
use Rattle.mcv_pools.specs.Symbol.{SymbolValue}
use Rattle.mcv_route.specs.Eras.{IsEraOf, IsNear}
use Rattle.mcv_route.specs.Outcomes.{History}
use Rattle.mcv_route.specs.Routes.{RoutesValue}
use Rattle.mcv_route.specs.Tree.{Tree}
use Rattle.mcv_witness.specs.Breaks.{IsAtPlace}
use Rattle.mcv_witness.specs.Finding.{FindingValue}
use Rattle.mcv_witness.specs.declared.seen.Seen.{Seen}
use Rattle.mcv_witness.specs.declared.seen.SeenReply.{SeenReply}

-- there is no place as the finding names it
abbrev pub IsNowhere : RoutesValue → FindingValue → Type 0
IsNowhere r f = (t : Tree) (rest : List ℕ) (since get_since : Option ℕ) → IsAtPlace r f t rest since get_since → ⊥

-- these breaks opened the eras of the finding's delete and of its get, which are near
pub record AreErasOf (r : RoutesValue) (f : FindingValue) (since get_since : Option ℕ) : Type 0 where
  pub era : IsEraOf r f.place.spot.era since
  pub get_era : IsEraOf r f.place.spot.get_era get_since
  pub near : IsNear r f.window since get_since

-- the routes have no such eras
abbrev pub HaveNoEras : RoutesValue → FindingValue → Type 0
HaveNoEras r f = (since get_since : Option ℕ) → AreErasOf r f since get_since → ⊥

-- ---- tests of what was seen

abbrev pub reply_hits : Option SeenReply → Bool
reply_hits None = false
reply_hits (Some x) = x.is_hit

-- a hit of the leaf is among the replies
abbrev pub hit_seen : Option Seen → Bool
hit_seen None = false
hit_seen (Some x) = reply_hits x.reply

abbrev pub reply_acknowledges : Option SeenReply → Bool
reply_acknowledges None = false
reply_acknowledges (Some x) = not (is_error x.outcome)

-- there is a reply that isn't an error, and no leg was sent to the server
abbrev pub missed_seen : Option Seen → Bool
missed_seen None = false
missed_seen (Some x) = not x.sent && reply_acknowledges x.reply

-- ---- rising positions

-- each position comes before the next, the first of which is p
abbrev pub rising_from : List ℕ → History → Bool
rising_from p [] = true
rising_from p (e ∷ es) = is_lt (slice_cmp nat_cmp p e.0) && rising_from e.0 es

abbrev pub are_rising : History → Bool
are_rising [] = true
are_rising (e ∷ es) = rising_from e.0 es

-- ---- choices

-- each of the symbols, the first of which has number k, has an index below its number of servers
abbrev pub has_indexes : List ℕ → ℕ → List SymbolValue → Bool
has_indexes choice k [] = true
has_indexes choice k (s ∷ symbols) = nat_lt (slice_index choice k) s.n && has_indexes choice (suc k) symbols
