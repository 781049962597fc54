use Rattle.std.proofs.Common.{◌∙◌, sym}
use Rattle.serde_json.specs.View.{view}
use Rattle.mcv_patch.proofs.Put.{added_member, behind_member}
use Rattle.mcv_patch.proofs.child.member_of.Goals as goal

pub returns-in-Some-get-2 : goal.returns-in-Some-get-2
returns-in-Some-get-2 c =
    behind_member c.in-Some.key.now (view c.args.pair.old.now) (view c.args.pair.new.now) (view c.in-Some-get-2.old.now) (view c.in-Some-get.value.now) 127
    (sym c.is_object.ensures ∙ c.if-not-is_object.false) c.requires.0 c.requires.1 (sym c.in-Some-get-2.ensures) (sym c.in-Some-get.ensures)
    (c.in_ok-is_put.ensures c.if-not-branch.false)

pub returns-in-None : goal.returns-in-None
returns-in-None c =
    added_member c.in-Some.key.now (view c.args.pair.old.now) (view c.args.pair.new.now) (view c.in-Some-get.value.now)
    (sym c.is_object.ensures ∙ c.if-not-is_object.false) (c.in_ok-is_put.ensures c.if-not-branch.false)
