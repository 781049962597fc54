use Rattle.std.proofs.Common.{◌≡◌, ◌∙◌, ◌++◌, ◌∷◌, [], ◌+◌, ℕ, Bool, map, length, take, ap, sym, arith, length-take}
use Rattle.std.specs.Prelude.{if◌then◌else◌, nat_eq}
use Rattle.std.specs.Borrow.{Bor}
use Rattle.std.proofs.lemmas.List.{take_all, take_more}
use Rattle.mcv_pools.specs.Symbol.{SymbolValue}
use Rattle.mcv_rules.specs.declared.plan.PlannedLeg.{PlannedLeg}
use Rattle.mcv_make.specs.FreeIndexes.{free_index, free_indexes, least_free}
use Rattle.mcv_make.proofs.TakenIndexes.{indexes-append}
use Rattle.mcv_make.proofs.free.free_choice.Goals as goal

pub loop-number-preserved : goal.loop-number-preserved
loop-number-preserved c =
    let symbols = c.args.symbols.now in
    let i = c.loop-number.number in
    let legs = map (λ (l : Bor PlannedLeg). l.now) c.args.legs.now in
    let x = c.args.server.0 in
    let own = c.args.own in
    let at = c.args.at in
    let s = c.index-symbols-number.result in
    let more : take (i + 1) symbols ≡ take i symbols ++ s ∷ [] = take_more symbols i s c.loop-number-test.true ∙ ap (λ (y : SymbolValue). take i symbols ++ y ∷ []) (sym c.index-symbols-number.is) in
    let count : i ≡ 0 + length (take i symbols) = omega (arith, length-take i symbols, c.loop-number-test.true) in
    let index : c.index_for.result ≡ free_index legs x own at (0 + length (take i symbols)) s.n =
    c.index_for.ensures
    ∙ ap (λ (t : ℕ → Bool). if nat_eq i own then at else least_free t 0 c.n.result) (λ k j. c.in_ok-taken.ensures (i, j) k)
    ∙ ap (free_index legs x own at i) c.n.ensures.value
    ∙ ap (λ k. free_index legs x own at k s.n) count in
    c.in_ok-push.ensures.items
    ∙ ap (λ ys. ys ++ c.index_for.result ∷ []) c.loop-number.invariant
    ∙ ap (λ y. free_indexes legs x own at 0 (take i symbols) ++ y ∷ []) index
    ∙ sym (indexes-append legs x own at 0 (take i symbols) s)
    ∙ ap (free_indexes legs x own at 0) (sym more)

pub returns : goal.returns
returns c =
    let legs = map (λ (l : Bor PlannedLeg). l.now) c.args.legs.now in
    c.new.ensures ∙ c.loop-number.invariant
    ∙ ap (free_indexes legs c.args.server.0 c.args.own c.args.at 0) (take_all c.loop-number.number c.args.symbols.now c.loop-number-test.false)
