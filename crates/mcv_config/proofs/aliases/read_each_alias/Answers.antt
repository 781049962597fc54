use Rattle.std.proofs.Common.{◌≡◌, ◌∙◌, arith}
use Rattle.std.proofs.lemmas.Grind.{common_steps}
use Rattle.serde_json.specs.View.{view}
use Rattle.mcv_names.specs.declared.trail.Trail.{the_lemmas}
use Rattle.mcv_names.specs.Fault.{good}
use Rattle.mcv_names.specs.Path.{item_step, path_of}
use Rattle.mcv_names.proofs.ReadLists.{each-more}
use Rattle.mcv_config.specs.Aliases.{alias_read}
use Rattle.mcv_config.proofs.aliases.read_each_alias.Goals as goal

pub loop-index-preserved : goal.loop-index-preserved
loop-index-preserved c =
    let path = path_of c.args.trail.now in
    let i = c.loop-index.index in
    let item = c.index-list-index.result in
    let alias = c.in_ok-read_alias.field-0 in
    let left = c.read_alias.new.seen in
    let read : alias_read c.loop-index.seen (item_step path i) (view item) ≡ good (alias, left) = grind (arith, common_steps, the_lemmas) in
    c.loop-index.invariant
    ∙ each-more alias_read view c.loop-index.seen path c.args.list.now i item c.loop-index.aliases.items c.push.new.self.items alias left c.loop-index-test.true c.index-list-index.is c.in_ok-push.ensures.items read
