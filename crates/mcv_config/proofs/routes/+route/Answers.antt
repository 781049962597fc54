use Rattle.std.proofs.Common.{◌≡◌, ◌++◌, ◌∷◌, [], map, string_bytes, sym, ap, ◌∙◌, arith}
use Rattle.std.proofs.lemmas.List.{map-append}
use Rattle.std.proofs.lemmas.Grind.{common_steps}
use Rattle.serde_json.proofs.Views.{Entry}
use Rattle.serde_json.specs.View.{view, members_view}
use Rattle.mcv_names.specs.declared.trail.Trail.{the_lemmas}
use Rattle.mcv_names.specs.Fault.{good}
use Rattle.mcv_names.specs.Lists.{each_member}
use Rattle.mcv_names.specs.Path.{item_step, key_step, path_of}
use Rattle.mcv_config.specs.ConfigValue.{named_of, prefix_of, shadow_of}
use Rattle.mcv_config.specs.Routes.{route}
use Rattle.mcv_config.specs.Selectors.{policy_read}
use Rattle.mcv_config.specs.Shadows.{shadow_read}
use Rattle.mcv_config.specs.View.{so_far_of}
use Rattle.mcv_names.proofs.ReadLists.{after, each-more, each_member-more}
use Rattle.mcv_config.proofs.routes.+route.Goals as goal

pub read_each_policy-loop-name-preserved : goal.read_each_policy-loop-name-preserved
read_each_policy-loop-name-preserved t c =
    let path = path_of c.args.trail.now in
    let reader = policy_read (route c.args.depth) in
    let e : Entry = (c.in-Some.name.now, c.in-Some.value.now) in
    let rest = c.next.new.self in
    let front = c.loop-name.policies.items in
    let p = c.in_ok-read_policy.field-0 in
    let left = so_far_of c.read_policy.new.so_far in
    let pushed : map prefix_of c.push.new.self.items ≡ map prefix_of front ++ prefix_of p ∷ [] = ap (map prefix_of) c.in_ok-push.ensures.items ∙ map-append prefix_of front (p ∷ []) in
    let read : reader (so_far_of c.loop-name.so_far) (key_step path (string_bytes e.0)) (string_bytes e.0) (view e.1) ≡ good (prefix_of p, left) = grind (arith, common_steps, the_lemmas) in
    c.loop-name.invariant ∙ each_member-more reader (so_far_of c.loop-name.so_far) path e rest c.loop-name.name-iterator (map prefix_of front) (prefix_of p) left c.in-Some.ensures.steps read
    ∙ ap (λ ps. after ps (each_member reader left path (members_view rest))) (sym pushed)

pub read_each-loop-index-preserved : goal.read_each-loop-index-preserved
read_each-loop-index-preserved t c =
    let path = path_of c.args.trail.now in
    let reader = route c.args.depth in
    let i = c.loop-index.index in
    let item = c.index-list-index.result in
    let front = c.loop-index.children.items in
    let child = c.in_ok-read_route.field-0 in
    let left = so_far_of c.read_route.new.so_far in
    let pushed : map named_of c.push.new.self.items ≡ map named_of front ++ named_of child ∷ [] = ap (map named_of) c.in_ok-push.ensures.items ∙ map-append named_of front (child ∷ []) in
    let read : reader (so_far_of c.loop-index.so_far) (item_step path i) (view item) ≡ good (named_of child, left) = grind (arith, common_steps, the_lemmas) in
    c.loop-index.invariant
    ∙ each-more reader view (so_far_of c.loop-index.so_far) path c.args.list.now i item (map named_of front) (map named_of c.push.new.self.items) (named_of child) left c.loop-index-test.true c.index-list-index.is pushed read

pub read_shadows-loop-index-preserved : goal.read_shadows-loop-index-preserved
read_shadows-loop-index-preserved t c =
    let path = path_of c.args.trail.now in
    let reader = shadow_read (route c.args.depth) in
    let i = c.loop-index.index in
    let item = c.index-list-index.result in
    let front = c.loop-index.shadows.items in
    let shadow = c.in_ok-read_shadow.field-0 in
    let left = so_far_of c.read_shadow.new.so_far in
    let pushed : map shadow_of c.push.new.self.items ≡ map shadow_of front ++ shadow_of shadow ∷ [] = ap (map shadow_of) c.in_ok-push.ensures.items ∙ map-append shadow_of front (shadow ∷ []) in
    let read : reader (so_far_of c.loop-index.so_far) (item_step path i) (view item) ≡ good (shadow_of shadow, left) = grind (arith, common_steps, the_lemmas) in
    c.loop-index.invariant
    ∙ each-more reader view (so_far_of c.loop-index.so_far) path c.args.list.now i item (map shadow_of front) (map shadow_of c.push.new.self.items) (shadow_of shadow) left c.loop-index-test.true c.index-list-index.is pushed read
