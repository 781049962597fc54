-- What a reason says of a readable leaf, and what may be wrong with it (own).
use Rattle.std.specs.Prelude.{◌≡◌, ◌⊎◌, ◌<◌, ℕ, suc, Bool, true, false, ◌&&◌, List, [], ◌∷◌, Option, Some, None, if◌then◌else◌, length, nat_eq, find, is_none, slice_get}
use Rattle.std.specs.List.{list_any}
use Rattle.std.specs.Ordering.{is_eq}
use Rattle.mcv_cert.specs.Pair.{SpotValue, ReasonValue, never, twin, same, all, index_of, list_cmp}
use Rattle.mcv_judge.specs.declared.fault.PairFault.{PairFault}
use Rattle.mcv_judge.specs.declared.fault.PairFault.TheVariants.{NotAcknowledged, OtherServer, CanBeAcknowledged}

-- the reason speaks of all indexes of the leaf
abbrev pub is_whole : ReasonValue → Bool
is_whole never = true
is_whole (twin leg) = true
is_whole (same index leg) = false
is_whole (all index legs) = false

-- a leg at its place: the number of its symbol, and its servers, one for each index of the symbol
pub record LegValue : Type 0 where
  pub position : List ℕ
  pub symbol : ℕ
  pub servers : List ℕ

-- what a route gives for the rests of a class in an era: the legs from which a get, gets, incr or decr can be answered, those that every delete that has a reply has sent, and whether a delete can be acknowledged
pub record BlockValue : Type 0 where
  pub spot : SpotValue
  pub readable : List LegValue
  pub acknowledged : List LegValue
  pub can_be_acknowledged : Bool

abbrev pub is_same_list : List ℕ → List ℕ → Bool
is_same_list xs ys = is_eq (list_cmp xs ys)

-- the leg at a position
abbrev pub leg_at : List LegValue → List ℕ → Option LegValue
leg_at legs p = find (λ d. is_same_list d.position p) legs

abbrev pub server_at : LegValue → ℕ → Option ℕ
server_at d i = slice_get d.servers i

-- both are there, and equal
abbrev pub is_same_server : Option ℕ → Option ℕ → Bool
is_same_server None y = false
is_same_server (Some x) None = false
is_same_server (Some x) (Some y) = nat_eq x y

-- the leg has the leaf's symbol and servers
abbrev pub is_twin : LegValue → LegValue → Bool
is_twin leaf d = nat_eq d.symbol leaf.symbol && is_same_list d.servers leaf.servers

-- the leg has the symbol, and the server at the index
abbrev pub has_server : (symbol : ℕ) → (server : Option ℕ) → (index : ℕ) → LegValue → Bool
has_server s x i d = nat_eq d.symbol s && is_same_server (server_at d i) x

-- a leg is there, and passes
abbrev pub is_there_with : (LegValue → Bool) → Option LegValue → Bool
is_there_with test None = false
is_there_with test (Some d) = test d

-- the legs at the positions have the symbol and the server, the first at this index, the next at the next one
abbrev pub have_server : List LegValue → (symbol : ℕ) → (server : Option ℕ) → (index : ℕ) → List (List ℕ) → Bool
have_server legs s x i [] = true
have_server legs s x i (p ∷ ps) = is_there_with (has_server s x i) (leg_at legs p) && have_server legs s x (suc i) ps

-- they have the symbol of this leg, are as many as it has indexes, and have the server, each at its own index
abbrev pub fill_symbol_of : List LegValue → (server : Option ℕ) → List (List ℕ) → LegValue → Bool
fill_symbol_of legs x ps d = nat_eq (length ps) (length d.servers) && have_server legs d.symbol x 0 ps

-- they fill the symbol of the first of them
abbrev pub fill_a_symbol : List LegValue → (server : Option ℕ) → List (List ℕ) → Bool
fill_a_symbol legs x [] = false
fill_a_symbol legs x (p ∷ ps) = is_there_with (fill_symbol_of legs x (p ∷ ps)) (leg_at legs p)

-- one of the positions has no leg
abbrev pub is_one_missing : List LegValue → List (List ℕ) → Bool
is_one_missing legs ps = list_any (λ p. is_none (leg_at legs p)) ps

abbrev pub unless : Bool → PairFault → Option PairFault
unless fine f = if fine then None else Some f

-- the leg has to be there, and then to pass
abbrev pub fault_of_leg : Option LegValue → (LegValue → Bool) → Option PairFault
fault_of_leg None test = Some NotAcknowledged
fault_of_leg (Some d) test = unless (test d) OtherServer

-- what is wrong with a reason for a readable leaf. All legs that it names are looked for before any is compared
abbrev pub fault_of : BlockValue → LegValue → ReasonValue → Option PairFault
fault_of b leaf never = if b.can_be_acknowledged then Some CanBeAcknowledged else None
fault_of b leaf (twin p) = fault_of_leg (leg_at b.acknowledged p) (is_twin leaf)
fault_of b leaf (same i p) = fault_of_leg (leg_at b.acknowledged p) (has_server leaf.symbol (server_at leaf i) i)
fault_of b leaf (all i ps) = if is_one_missing b.acknowledged ps then Some NotAcknowledged else unless (fill_a_symbol b.acknowledged (server_at leaf i) ps) OtherServer

-- some reason answers for the leaf at the index: for all its indexes or for this one, and without a fault
abbrev pub HasReason : BlockValue → LegValue → ℕ → Type 0
HasReason b leaf i = (reason : ReasonValue) × ((is_whole reason ≡ true) ⊎ (index_of reason ≡ i)) × (fault_of b leaf reason ≡ None)

-- one answers at each index
abbrev pub HasReasons : BlockValue → LegValue → Type 0
HasReasons b leaf = (i : ℕ) → i < length leaf.servers → HasReason b leaf i
