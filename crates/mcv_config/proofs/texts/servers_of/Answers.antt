use Rattle.std.proofs.Common.{◌≡◌, ◌∷◌, [], map, ap, ◌∙◌, arith, rules}
use Rattle.std.proofs.lemmas.List.{map-append}
use Rattle.std.proofs.lemmas.List.FromFn.{map-range_with_len_more}
use Rattle.mcv_config.specs.ConfigValue.{named_of, server}
use Rattle.mcv_config.specs.declared.config.NamedRoute.{Server, the_lemmas}
use Rattle.mcv_config.proofs.texts.servers_of.Goals as goal

pub loop-index-preserved : goal.loop-index-preserved
loop-index-preserved c =
    let i = c.loop-index.index in
    let seen : named_of (Server c.args.pool i) ≡ server c.args.pool i = search (rules, the_lemmas) in
    let one = map-range_with_len_more (server c.args.pool) 0 i i (omega arith) in
    ap (map named_of) c.in_ok-push.ensures.items ∙ map-append named_of c.loop-index.children.items (Server c.args.pool i ∷ []) ∙ rw (c.loop-index.invariant, seen, one)
