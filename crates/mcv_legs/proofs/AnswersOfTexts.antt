-- That a text answers, by what each part of it is.
use Rattle.std.proofs.Common.{◌≡◌, ◌∙◌, ℕ, List, Option, Some, None, option_map, slice_index, refl, ap, ap₂}
use Rattle.mcv_base.specs.declared.operation.Op.{Op}
use Rattle.mcv_base.specs.Key.{hashed_part}
use Rattle.mcv_pools.specs.Choice.{chosen_each}
use Rattle.mcv_pools.specs.Hash.{fnv_index}
use Rattle.mcv_pools.specs.Symbol.{SymbolValue}
use Rattle.mcv_route.specs.Eras.{breaks_of, since_at}
use Rattle.mcv_route.specs.Routes.{RouteEntry, RoutesValue}
use Rattle.mcv_route.specs.Tree.{Tree}
use Rattle.mcv_rules.specs.RouteCall.{Called, situation_of}
use Rattle.mcv_names.specs.declared.fault.ReadFault.{ReadFault}
use Rattle.mcv_names.specs.declared.fault.ReadFault.TheVariants.{Config, Memory}
use Rattle.mcv_names.specs.Fault.{Refuses}
use Rattle.mcv_config.specs.Config.{Faulty}
use Rattle.mcv_input.specs.Fault.{of_reading}
use Rattle.mcv_legs.specs.Fault.{IsRunFault}
use Rattle.mcv_legs.specs.Answer.{shipped_choice, situation_at, text_of}
use Rattle.mcv_legs.specs.Request.{Asks}

-- the entry whose tree was found
pub the_entry : (x : Option RouteEntry) (t : Tree) → Some t ≡ option_map (λ e. e.tree) x → (entry : RouteEntry) × (x ≡ Some entry) × (t ≡ entry.tree)
the_entry None t is = absurd (cc)
the_entry (Some e) t is = (e, refl, inside)
  where
    inside : t ≡ e.tree
    inside = cc

-- what a call's rules say, as lines
abbrev text_for : RoutesValue → Called → List ℕ
text_for routes call = text_of routes.servers call.tree (situation_of call) (slice_index call.choice)

pub text_is_answer : (text : List ℕ) (servers : List (List ℕ)) (call : Called) (routes : RoutesValue) (entry : RouteEntry)
    (moment : ℕ) (op : Op) (rest : List ℕ) (tree : Tree) (since : Option ℕ) (choice : List ℕ) (symbols : List SymbolValue) (part : List ℕ)
    → text ≡ text_of servers call.tree (situation_of call) (slice_index call.choice) → servers ≡ routes.servers
    → call ≡ record { tree = tree; op = op; rest = rest; since = since; choice = choice }
    → tree ≡ entry.tree → since ≡ since_at (breaks_of routes) moment
    → choice ≡ chosen_each fnv_index symbols part → symbols ≡ routes.symbols → part ≡ hashed_part rest
    → text ≡ text_of routes.servers entry.tree (situation_at moment routes op rest) (shipped_choice routes rest)
text_is_answer text servers call routes entry moment op rest tree since choice symbols part text_is servers_is call_is tree_is since_is choice_is symbols_is part_is =
    let chosen : choice ≡ chosen_each fnv_index routes.symbols (hashed_part rest) = choice_is ∙ ap₂ (chosen_each fnv_index) symbols_is part_is in
    let of : Tree → Option ℕ → List ℕ → Called = λ t s c. record { tree = t; op = op; rest = rest; since = s; choice = c } in
    let same : call ≡ of entry.tree (since_at (breaks_of routes) moment) (chosen_each fnv_index routes.symbols (hashed_part rest)) =
    call_is ∙ ap (λ t. of t since choice) tree_is ∙ ap (λ s. of entry.tree s choice) since_is ∙ ap (of entry.tree (since_at (breaks_of routes) moment)) chosen in
    text_is ∙ ap (λ s. text_of s call.tree (situation_of call) (slice_index call.choice)) servers_is ∙ ap (text_for routes) same

-- ---- a configuration's fault, as one of a run

pub refused_so : (text : List ℕ) (op : Op) (prefix rest configuration : List ℕ) → Asks text op prefix rest configuration → (fault : ReadFault) → Refuses fault (Faulty configuration)
    → IsRunFault text (of_reading fault)
refused_so text op prefix rest configuration asks (Config fault) is = record { op = op; prefix = prefix; rest = rest; configuration = configuration; asks = asks; faulty = is }
refused_so text op prefix rest configuration asks Memory is = tt
