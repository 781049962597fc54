use Rattle.std.proofs.Common.{◌≡◌, ℕ, List, subst, sym, arith}
use Rattle.std.proofs.lemmas.Grind.{common_steps}
use Rattle.mcv_pools.specs.Choice.{HasIndexEach, chosen_each}
use Rattle.mcv_pools.proofs.Choices.{chosen_within}
use Rattle.mcv_pools.proofs.choice.choose.Goals as goal

pub returns-clause-within : goal.returns-clause-within
returns-clause-within g c =
    let chosen = g.H.KeyHash.chosen c.args.hash.now in
    let all : c.loop-symbol.indexes.items ≡ chosen_each chosen c.args.symbols.now c.args.part.now = grind (arith, common_steps, c.loop-symbol.invariant, c.as_slice-symbol-items.ensures.value) in
    subst (λ (indexes : List ℕ). HasIndexEach c.args.symbols.now indexes) (sym all)
    (chosen_within chosen c.args.symbols.now c.args.part.now (g.met.H.KeyHash.within c.args.hash.now) c.as_slice-symbol-items.ensures.some)
