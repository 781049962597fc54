use Rattle.std.proofs.Common.{◌∙◌, ℕ, Bool, sym}
use Rattle.std.specs.BTreeSet.{contains}
use Rattle.mcv_make.specs.FreeIndexes.{slot_cmp}
use Rattle.mcv_make.proofs.TakenIndexes.{here-free, next-free, none-free}
use Rattle.mcv_make.proofs.free.least_free.Goals as goal

pub loop-index-preserved : goal.loop-index-preserved
loop-index-preserved c =
    let taken : ℕ → Bool = λ j. contains slot_cmp c.args.taken.now (c.args.symbol, j) in
    sym (next-free taken c.loop-index.index c.args.n c.loop-index-test.true (sym c.contains.ensures ∙ c.if-not-contains.false)) ∙ c.loop-index.invariant

pub returns-then-not-contains : goal.returns-then-not-contains
returns-then-not-contains c =
    let taken : ℕ → Bool = λ j. contains slot_cmp c.args.taken.now (c.args.symbol, j) in
    here-free taken c.loop-index.index c.args.n c.loop-index-test.true (sym c.contains.ensures ∙ c.if-not-contains.true) ∙ c.loop-index.invariant

pub returns : goal.returns
returns c =
    let taken : ℕ → Bool = λ j. contains slot_cmp c.args.taken.now (c.args.symbol, j) in
    none-free taken c.loop-index.index c.args.n c.loop-index-test.false ∙ c.loop-index.invariant
