use Rattle.std.proofs.Common.{◌∙◌, ℕ, List, ap, subst, sym}
use Rattle.std.specs.Prelude.{slice_get}
use Rattle.mcv_pools.specs.Symbol.{SymbolValue, same_symbol}
use Rattle.mcv_pools.specs.Table.{number_in}
use Rattle.mcv_alike.specs.Numbers.{IsSymbolNumber}
use Rattle.mcv_alike.proofs.Numbers.{same_number}
use Rattle.mcv_alike.proofs.numbering.symbol_number.Goals as goal

pub returns : goal.returns
returns c = subst (λ (k : ℕ). IsSymbolNumber c.args.old.now c.args.new.now c.args.number (c.in_ok-found.found, k)) (sym c.n.ensures.value) (same_number c.args.old.now c.args.new.now c.args.number c.in_ok-found.found c.in_ok-symbol.symbol.now
    (ap (λ (xs : List SymbolValue). slice_get xs c.args.number) (sym c.symbols.ensures.value) ∙ sym c.in_ok-symbol.ensures)
    (ap (λ (xs : List SymbolValue). number_in same_symbol xs c.in_ok-symbol.symbol.now) (sym c.symbols-2.ensures.value) ∙ sym c.in_ok-found.ensures) c.n.ensures.some)
