use Rattle.std.proofs.Common.{◌≡◌, ℕ, List, ◌++◌, ◌∷◌, [], length, arith, ap, subst, ◌∙◌}
use Rattle.std.specs.Prelude.{IfOk}
use Rattle.mcv_pools.specs.declared.symbol.HashFunc.TheVariants.{Ch3}
use Rattle.mcv_pools.specs.Symbol.{same_symbol}
use Rattle.mcv_pools.specs.Table.{with_entry}
use Rattle.mcv_route.specs.NamedRoutes.{pool_named, symbol_of}
use Rattle.mcv_route.specs.View.{pool_view}
use Rattle.mcv_route.specs.Walk.{list_view}
use Rattle.mcv_route.specs.declared.tree.Leaf.{Leaf}
use Rattle.mcv_route.proofs.Building.{length-server, server-at}
use Rattle.mcv_route.proofs.build.server_leaf.Goals as goal

pub index-requires : goal.index-requires
index-requires c =
    let inside = length-server c.args.lists.now c.args.number c.args.index c.index-lists-number.result c.requires.inside c.index-lists-number.is c.requires.listed in
    omega (arith, inside, ap (λ v. length v.items) c.deref.ensures, c.deref.result.now.ok.0)

pub returns : goal.returns
returns c =
    let inside = length-server c.args.lists.now c.args.number c.args.index c.index-lists-number.result c.requires.inside c.index-lists-number.is c.requires.listed in
    let one = ap (λ v. v.items) c.in_ok-servers-2.ensures.ok ∙ c.in_ok-push.ensures.items ∙ ap (λ xs. xs ++ c.index.result.now ∷ []) c.in_ok-servers.ensures.items in
    let shown = server-at c.args.lists.now c.args.number c.args.index c.index-lists-number.result c.in_ok-servers-2.servers c.index.result.now c.requires.inside c.index-lists-number.is inside (rw c.deref.ensures at c.index.ensures) one in
    let own : List ℕ = list_view c.in_ok-servers-2.servers in
    let leaf_of : List ℕ → List ℕ → Type 0 = λ salt servers. IfOk c.leaf_of.result (λ (l : Leaf). pool_view l ≡ pool_named c.leaf_of.new.symbols Ch3 salt servers) in
    let table_of : List ℕ → List ℕ → Type 0 = λ salt servers. IfOk c.leaf_of.result (λ (l : Leaf). c.leaf_of.new.symbols ≡ with_entry same_symbol c.args.symbols.now (symbol_of Ch3 salt servers)) in
    record {
      leaf = subst (leaf_of []) shown (subst (λ salt. leaf_of salt own) c.new-salt.ensures.items c.leaf_of.ensures.leaf);
      table = subst (table_of []) shown (subst (λ salt. table_of salt own) c.new-salt.ensures.items c.leaf_of.ensures.table);
    }
