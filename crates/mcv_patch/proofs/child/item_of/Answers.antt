use Rattle.std.proofs.Common.{sym}
use Rattle.serde_json.specs.View.{view}
use Rattle.mcv_patch.proofs.Put.{behind_item}
use Rattle.mcv_patch.proofs.child.item_of.Goals as goal

pub returns : goal.returns
returns c =
    behind_item c.in-Some.number (view c.args.pair.old.now) (view c.args.pair.new.now) (view c.in-Some-get.old.now) (view c.in-Some-get-2.new.now) 127
    c.requires.0 c.requires.1 (sym c.in-Some-get.ensures) (sym c.in-Some-get-2.ensures) (c.in_ok-is_set.ensures c.if-not-branch.false)
