-- The numbers that servers and symbols of routes have in other routes, and legs in memory. Only private contracts cite this.
use Rattle.std.specs.Prelude.{◌≡◌, ◌<◌, ℕ, List, Some, map, slice_get}
use Rattle.mcv_judge.specs.PairsInMemory.{numbers}
use Rattle.mcv_judge.specs.Reason.{LegValue}
use Rattle.mcv_pools.specs.Symbol.{SymbolValue}
use Rattle.mcv_route.specs.Routes.{RoutesValue}
use Rattle.mcv_alike.specs.Alike.{server_text}
use Rattle.mcv_alike.specs.declared.needed.NeededLeg.{NeededLeg}
use Rattle.mcv_alike.specs.declared.numbering.Numbering.{Numbering}

abbrev pub leg_value : NeededLeg → LegValue
leg_value l = record { position = l.position; symbol = l.symbol; servers = numbers l.servers.items }

abbrev pub legs_value : List NeededLeg → List LegValue
legs_value legs = map leg_value legs

-- each number is that of the same server in the other routes
abbrev pub AreServerNumbers : RoutesValue → RoutesValue → List ℕ → Type 0
AreServerNumbers r n table = (i x : ℕ) → slice_get table i ≡ Some x → server_text r i ≡ server_text n x

-- a symbol of the first routes, its number in the second ones, and its number of servers
pub record IsSymbolNumber (r n : RoutesValue) (s : ℕ) (z : ℕ × ℕ) : Type 0 where
  pub symbol : SymbolValue
  pub old : slice_get r.symbols s ≡ Some symbol
  pub new : slice_get n.symbols z.0 ≡ Some symbol
  pub size : z.1 ≡ symbol.n
  pub some : 0 < symbol.n

abbrev pub AreSymbolNumbers : RoutesValue → RoutesValue → List (ℕ × ℕ) → Type 0
AreSymbolNumbers r n table = (s : ℕ) (z : ℕ × ℕ) → slice_get table s ≡ Some z → IsSymbolNumber r n s z

pub record IsNumbering (r n : RoutesValue) (table : Numbering) : Type 0 where
  pub servers : AreServerNumbers r n table.servers.items
  pub symbols : AreSymbolNumbers r n table.symbols.items

-- the symbol of the number is over so many servers
abbrev pub IsOver : RoutesValue → (symbol count : ℕ) → Type 0
IsOver r s k = (symbol : SymbolValue) × (slice_get r.symbols s ≡ Some symbol) × (symbol.n ≡ k)
