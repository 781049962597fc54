use Rattle.std.proofs.Common.{◌≡◌, ◌++◌, ◌∷◌, [], map, string_bytes, sym, ap, ◌∙◌, arith}
use Rattle.std.proofs.lemmas.List.{map-append}
use Rattle.std.proofs.lemmas.Grind.{common_steps}
use Rattle.serde_json.proofs.Views.{Entry}
use Rattle.serde_json.specs.View.{view, members_view}
use Rattle.mcv_names.specs.declared.trail.Trail.{the_lemmas}
use Rattle.mcv_names.specs.Fault.{good}
use Rattle.mcv_names.specs.Lists.{each_member}
use Rattle.mcv_names.specs.Path.{path_of, key_step}
use Rattle.mcv_config.specs.ConfigValue.{pool_servers}
use Rattle.mcv_config.specs.Pools.{pool_read}
use Rattle.mcv_names.proofs.ReadLists.{after, each_member-more}
use Rattle.mcv_config.proofs.pools.read_each_pool.Goals as goal

pub loop-name-preserved : goal.loop-name-preserved
loop-name-preserved c =
    let path = path_of c.args.trail.now in
    let e : Entry = (c.in-Some.name.now, c.in-Some.value.now) in
    let rest = c.next.new.self in
    let front = c.loop-name.pools.items in
    let p = c.in_ok-read_pool.field-0 in
    let left = c.read_pool.new.servers in
    let pushed : map pool_servers c.push.new.self.items ≡ map pool_servers front ++ pool_servers p ∷ [] = ap (map pool_servers) c.in_ok-push.ensures.items ∙ map-append pool_servers front (p ∷ []) in
    let read : pool_read c.loop-name.servers (key_step path (string_bytes e.0)) (string_bytes e.0) (view e.1) ≡ good (pool_servers p, left) = grind (arith, common_steps, the_lemmas) in
    c.loop-name.invariant ∙ each_member-more pool_read c.loop-name.servers path e rest c.loop-name.name-iterator (map pool_servers front) (pool_servers p) left c.in-Some.ensures.steps read
    ∙ ap (λ ps. after ps (each_member pool_read left path (members_view rest))) (sym pushed)
