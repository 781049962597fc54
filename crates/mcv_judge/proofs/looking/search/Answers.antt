use Rattle.std.proofs.Common.{rules}
use Rattle.std.proofs.lemmas.Fn.{always_returns_same}
use Rattle.mcv_judge.proofs.Lookup.{searched}
use Rattle.mcv_cert.specs.Pair.{list_cmp}
use Rattle.mcv_judge.proofs.looking.search.Goals as goal

-- the closure compares a leaf's position
pub returns : goal.returns
returns c =
    let facts = c.binary_search_by.ensures in
    let by_position = facts.position (λ m. list_cmp m.position.now c.args.position.now) (always_returns_same _ _ _ (λ a r g called. (search rules, search rules))) in
    searched _ c.requires c.args.position.now _ facts.bound by_position
