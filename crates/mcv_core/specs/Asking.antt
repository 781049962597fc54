-- What a client's request asks of the core (own).
use Rattle.std.specs.Prelude.{◌≡◌, ◌≢◌, ◌⊎◌, ℕ, true, List, [], Option, None, Some, ⊤, option_map, slice_get}
use Rattle.mcv_base.specs.declared.key.KeyFault.{KeyFault}
use Rattle.mcv_base.specs.declared.operation.Op.{Op}
use Rattle.mcv_base.specs.declared.request.Request.{Request}
use Rattle.mcv_base.specs.declared.request.Request.TheVariants.{Ask, Version, Quit}
use Rattle.mcv_base.specs.Key.{IsCut, IsKeyFault, hashed_part, is_key_word}
use Rattle.mcv_pools.specs.Choice.{chosen_each}
use Rattle.mcv_pools.specs.Symbol.{SymbolValue}
use Rattle.mcv_route.specs.Places.{route_of_prefix}
use Rattle.mcv_route.specs.Routes.{RoutesValue}
use Rattle.mcv_world.specs.Moves.{new_call}
use Rattle.mcv_events.specs.Rows.{world_of}
use Rattle.mcv_core.specs.Beginning.{IsFull}
use Rattle.mcv_core.specs.CoreView.{CoreView}
use Rattle.mcv_core.specs.declared.fault.CoreFault.{CoreFault}
use Rattle.mcv_core.specs.declared.fault.CoreFault.TheVariants.{UnknownPrefix, BadKey, LegsFull, ChapterFull, NothingWaiting, NoSuchLeg, Busy, ClockBack, Memory, NoSuchCall}

-- the operation of a request, and its key word of this number, from 0
abbrev pub word_in : Request → ℕ → Option (Op × List ℕ)
word_in (Ask ask) key = option_map (λ word. (ask.op, word.items)) (slice_get ask.keys.items key)
word_in Version key = None
word_in Quit key = None

-- the word of this number is a key, with this prefix and this rest
pub record IsKeyOf (request : Request) (key : ℕ) (op : Op) (prefix rest : List ℕ) : Type 0 where
  pub word : List ℕ
  pub there : word_in request key ≡ Some (op, word)
  pub is_key : is_key_word word ≡ true
  pub cut : IsCut word prefix rest
  pub some : rest ≢ []

-- a call for the key: its route is the one of the key's prefix, and each symbol of the routes has the index that the hash gives it
-- at the hashed part of the rest
pub record IsAsked (r : RoutesValue) (chosen : SymbolValue → List ℕ → ℕ) (request : Request) (key : ℕ) (op : Op) (route : ℕ) (rest choice : List ℕ) : Type 0 where
  pub prefix : List ℕ
  pub key_is : IsKeyOf request key op prefix rest
  pub routed : route_of_prefix prefix r.entries ≡ Some route
  pub choice_is : choice ≡ chosen_each chosen r.symbols (hashed_part rest)

-- ---- why no call begins

-- the word of this number is no key
pub record IsNoKey (request : Request) (key : ℕ) : Type 0 where
  pub op : Op
  pub word : List ℕ
  pub fault : KeyFault
  pub there : word_in request key ≡ Some (op, word)
  pub faulty : IsKeyFault word fault

abbrev pub HasNoKey : Request → ℕ → Type 0
HasNoKey request key = (word_in request key ≡ None) ⊎ IsNoKey request key

-- no route has the key's prefix
pub record HasNoRoute (r : RoutesValue) (request : Request) (key : ℕ) : Type 0 where
  pub op : Op
  pub prefix : List ℕ
  pub rest : List ℕ
  pub key_is : IsKeyOf request key op prefix rest
  pub unrouted : route_of_prefix prefix r.entries ≡ None

-- the call that is asked for doesn't fit
pub record HasNoRoom (v : CoreView) (chosen : SymbolValue → List ℕ → ℕ) (request : Request) (key : ℕ) (fault : CoreFault) : Type 0 where
  pub op : Op
  pub route : ℕ
  pub rest : List ℕ
  pub choice : List ℕ
  pub asked : IsAsked v.routes chosen request key op route rest choice
  pub full : IsFull v (new_call (world_of v.rows) op route rest choice) fault

-- the causes; one for the key comes before one for its prefix, and that before what doesn't fit. Memory may run out before them
abbrev pub IsUnbegun : CoreView → (SymbolValue → List ℕ → ℕ) → Request → ℕ → CoreFault → Type 0
IsUnbegun v chosen request key UnknownPrefix = HasNoRoute v.routes request key
IsUnbegun v chosen request key BadKey = HasNoKey request key
IsUnbegun v chosen request key LegsFull = HasNoRoom v chosen request key LegsFull
IsUnbegun v chosen request key ChapterFull = HasNoRoom v chosen request key ChapterFull
IsUnbegun v chosen request key NothingWaiting = ⊥
IsUnbegun v chosen request key NoSuchLeg = ⊥
IsUnbegun v chosen request key Busy = ⊥
IsUnbegun v chosen request key ClockBack = ⊥
IsUnbegun v chosen request key Memory = ⊤
IsUnbegun v chosen request key NoSuchCall = ⊥
