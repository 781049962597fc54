use Rattle.std.proofs.Common.{◌≡◌, drop}
use Rattle.mcv_spans.specs.Place.{items_view, members_view}
use Rattle.mcv_spans.specs.Stands.{ItemsStand, MembersStand}
use Rattle.mcv_spans.proofs.standing.+standing.Given as goal

abbrev pub invariant-members_stand-loop-member : goal.invariant-members_stand-loop-member
invariant-members_stand-loop-member l =
    MembersStand l.text l.around.start l.around.end (members_view (drop l.member-index l.members)) → MembersStand l.text l.around.start l.around.end (members_view l.members)

abbrev pub invariant-items_stand-loop-item : goal.invariant-items_stand-loop-item
invariant-items_stand-loop-item l = (l.left.end ≡ l.around.end)
    × (ItemsStand l.text l.left.start l.around.end (items_view (drop l.item-index l.items)) → ItemsStand l.text l.around.start l.around.end (items_view l.items))
