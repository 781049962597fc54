use Rattle.std.proofs.Common.{List, ℕ, Some, None, option_map, subst}
use Rattle.mcv_classes.specs.Class.{IsMember}
use Rattle.mcv_route.specs.View.{view}
use Rattle.mcv_witness.specs.Finding.{finding_of}
use Rattle.mcv_picture.proofs.Reaching.{no_member, no_route, reached_at}
use Rattle.mcv_picture.proofs.marks.reach.Goals as goal

pub returns-in_default : goal.returns-in_default
returns-in_default c =
    no_route c.args.routes.now (finding_of c.args.finding.now) c.nothing_reached.result.deletes.items c.nothing_reached.result.readable.items (rw c.in_default.is at c.route.ensures)

pub returns-in_default-member_of : goal.returns-in_default-member_of
returns-in_default-member_of c =
    let none = subst (λ (word : List ℕ). IsMember c.in_ok-table.table word None) c.as_slice.ensures.value (rw c.in_default-member_of.is at c.member_of.ensures) in
    no_member c.args.routes.now (finding_of c.args.finding.now) (view c.in-Some.route.now) c.in_ok-table.table c.nothing_reached-in_default-member_of.result.deletes.items
    c.nothing_reached-in_default-member_of.result.readable.items c.in-Some.ensures c.in_ok-table.ensures none

pub returns : goal.returns
returns c =
    let member = c.in-Some-member_of.member in
    let own = subst (λ (word : List ℕ). IsMember c.in_ok-table.table word (Some member)) c.as_slice.ensures.value c.in-Some-member_of.ensures in
    reached_at c.args.routes.now (finding_of c.args.finding.now) (view c.in-Some.route.now) c.in_ok-table.table member (option_map (λ m. m.0) c.opened-since.result)
    (option_map (λ m. m.0) c.opened-since_read.result) c.in_ok-deletes.deletes.items c.in_ok-readable.readable.items c.in-Some.ensures c.in_ok-table.ensures own
    c.opened-since.ensures.some c.opened-since_read.ensures.some c.in_ok-deletes.ensures c.in_ok-readable.ensures
