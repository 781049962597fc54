use Rattle.std.proofs.Common.{◌≡◌}
use Rattle.serde_json.specs.View.{members_view}
use Rattle.mcv_places.specs.Site.{member_at}
use Rattle.mcv_places.proofs.child.member_at.Given as goal

abbrev pub invariant-loop-name : goal.invariant-loop-name
invariant-loop-name l = member_at l.fn.number (members_view l.members.entries) ≡ member_at l.left (members_view l.name-iterator)
