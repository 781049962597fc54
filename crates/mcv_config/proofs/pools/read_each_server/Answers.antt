use Rattle.std.proofs.Common.{◌≡◌, ◌++◌, ◌∷◌, [], map, ap, ◌∙◌, arith}
use Rattle.std.proofs.lemmas.List.{map-append}
use Rattle.std.proofs.lemmas.Grind.{common_steps}
use Rattle.serde_json.specs.View.{view}
use Rattle.mcv_base.specs.declared.request.ServerId.{ServerId}
use Rattle.mcv_names.specs.declared.trail.Trail.{the_lemmas}
use Rattle.mcv_names.specs.Fault.{good}
use Rattle.mcv_names.specs.Path.{item_step, path_of}
use Rattle.mcv_names.proofs.ReadLists.{each-more}
use Rattle.mcv_config.specs.Pools.{server_read}
use Rattle.mcv_config.proofs.pools.read_each_server.Goals as goal

pub loop-index-preserved : goal.loop-index-preserved
loop-index-preserved c =
    let path = path_of c.args.trail.now in
    let i = c.loop-index.index in
    let item = c.index-list-index.result in
    let ids = c.loop-index.ids.items in
    let id = c.in_ok-read_server.field-0 in
    let left = c.read_server.new.servers in
    let pushed : map (λ (s : ServerId). s.0) c.push.new.self.items ≡ map (λ (s : ServerId). s.0) ids ++ id.0 ∷ [] = ap (map (λ (s : ServerId). s.0)) c.in_ok-push.ensures.items ∙ map-append (λ (s : ServerId). s.0) ids (id ∷ []) in
    let read : server_read path c.loop-index.servers (item_step path i) (view item) ≡ good (id.0, left) = grind (arith, common_steps, the_lemmas) in
    c.loop-index.invariant
    ∙ each-more (server_read path) view c.loop-index.servers path c.args.list.now i item (map (λ (s : ServerId). s.0) ids) (map (λ (s : ServerId). s.0) c.push.new.self.items) id.0 left c.loop-index-test.true c.index-list-index.is pushed read
