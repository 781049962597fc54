use Rattle.std.proofs.Common.{◌≡◌, drop}
use Rattle.std.specs.List.{list_any}
use Rattle.std.specs.Prelude.{nat_lt}
use Rattle.mcv_pools.specs.Symbol.{SymbolValue}
use Rattle.mcv_explain.proofs.sentences.has_choice.Given as goal

-- it is decided by those that are left
abbrev pub invariant-loop-symbol : goal.invariant-loop-symbol
invariant-loop-symbol l = list_any (λ (y : SymbolValue). nat_lt 1 y.n) l.symbols ≡ list_any (λ (y : SymbolValue). nat_lt 1 y.n) (drop l.symbol-index l.symbols)
