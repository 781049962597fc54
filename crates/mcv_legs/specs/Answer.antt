-- What answers an input at a moment.
use Rattle.std.specs.Prelude.{◌≡◌, ℕ, List, [], Option, Some, None, find, option_map, slice_index}
use Rattle.mcv_base.specs.declared.operation.Op.{Op}
use Rattle.mcv_base.specs.Key.{hashed_part}
use Rattle.mcv_pools.specs.Hash.{fnv_index}
use Rattle.mcv_pools.specs.Choice.{chosen_each}
use Rattle.mcv_config.specs.Config.{Names}
use Rattle.mcv_config.specs.ConfigValue.{ConfigValue}
use Rattle.mcv_route.specs.NamedRoutes.{routes_named}
use Rattle.mcv_route.specs.Eras.{breaks_of, since_at}
use Rattle.mcv_route.specs.Launched.{launched}
use Rattle.mcv_route.specs.Outcomes.{Choice, outcomes}
use Rattle.mcv_route.specs.Places.{is_alias}
use Rattle.mcv_route.specs.Reply.{reply}
use Rattle.mcv_route.specs.Routes.{RouteEntry, RoutesValue}
use Rattle.mcv_route.specs.Situation.{Situation, asked}
use Rattle.mcv_route.specs.Tree.{Tree}
use Rattle.mcv_legs.specs.Request.{Asks}
use Rattle.mcv_legs.specs.Text.{legs_text}

-- the first route that has the prefix among its aliases
abbrev pub entry_for : List ℕ → RoutesValue → Option RouteEntry
entry_for prefix routes = find (is_alias prefix) routes.entries

-- the whole route is asked, in the era of the moment
abbrev pub situation_at : ℕ → RoutesValue → Op → List ℕ → Situation
situation_at moment routes op rest = asked op rest (since_at (breaks_of routes) moment)

-- each symbol has the index that the shipped hash gives it at the rest's hashed part
abbrev pub shipped_choice : RoutesValue → List ℕ → Choice
shipped_choice routes rest = slice_index (chosen_each fnv_index routes.symbols (hashed_part rest))

-- the lines of the legs that a tree sends before any outcome, and of the reply that there is by then
abbrev pub text_of : List (List ℕ) → Tree → Situation → Choice → List ℕ
text_of servers tree situation choice =
    legs_text servers (launched tree situation choice (outcomes [])) (option_map (λ answer. answer.outcome) (reply tree situation []))

-- the text answers the input at the moment
pub record IsAnswer (moment : ℕ) (input text : List ℕ) : Type 0 where
  pub op : Op
  pub prefix : List ℕ
  pub rest : List ℕ
  pub configuration : List ℕ
  pub asks : Asks input op prefix rest configuration
  pub config : ConfigValue
  pub names : Names configuration config
  pub entry : RouteEntry
  pub selected : entry_for prefix (routes_named config) ≡ Some entry
  pub is : text ≡ text_of (routes_named config).servers entry.tree (situation_at moment (routes_named config) op rest) (shipped_choice (routes_named config) rest)

-- the input asks, and none of the routes that its configuration names has the prefix
pub record IsWithoutRoute (input : List ℕ) : Type 0 where
  pub op : Op
  pub prefix : List ℕ
  pub rest : List ℕ
  pub configuration : List ℕ
  pub asks : Asks input op prefix rest configuration
  pub config : ConfigValue
  pub names : Names configuration config
  pub unselected : entry_for prefix (routes_named config) ≡ None
