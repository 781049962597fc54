-- Symbols: what a choice gives an index. Pools with the same hash function, salt and number of servers share one (mcrouter wiki, PoolRoute).
use Rattle.std.specs.Prelude.{ℕ, List, Bool, nat_eq}
use Rattle.std.specs.Cmp.Lexicographic.{pointwise}
use Rattle.std.specs.Ordering.{on, eq_of_both}
use Rattle.mcv_pools.specs.declared.symbol.HashFunc.{HashFunc}
use Rattle.mcv_pools.specs.declared.symbol.HashFunc.TheVariants.{Ch3, Crc32}

-- a hash function, the salt that it takes behind the key, and a number of servers
pub record SymbolValue : Type 0 where
  pub func : HashFunc
  pub salt : List ℕ
  pub n : ℕ

abbrev pub func_number : HashFunc → ℕ
func_number Ch3 = 0
func_number Crc32 = 1

-- whether the two have one function, one salt and one number of servers
abbrev pub same_symbol : SymbolValue → SymbolValue → Bool
same_symbol = eq_of_both (on (λ s. func_number s.func) nat_eq) (eq_of_both (on (λ s. s.salt) (pointwise nat_eq)) (on (λ s. s.n) nat_eq))
