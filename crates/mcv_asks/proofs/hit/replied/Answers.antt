use Rattle.std.proofs.Common.{◌≡◌, rules}
use Rattle.mcv_route.specs.Reply.{reply}
use Rattle.mcv_route.specs.View.{view}
use Rattle.mcv_rules.specs.History.{history_of}
use Rattle.mcv_rules.specs.Status.{status_of}
use Rattle.mcv_rules.specs.declared.status.Source.TheVariants as sources
use Rattle.mcv_rules.specs.declared.status.Status.TheVariants.{Replied, Waits}
use Rattle.mcv_asks.specs.Hits.{situation_of}
use Rattle.mcv_asks.proofs.ReplyOfStatus.{status_said}
use Rattle.mcv_asks.proofs.hit.replied.Goals as goal

pub returns-in-Waits : goal.returns-in-Waits
returns-in-Waits c =
    let xs = c.args.answered.now in
    let s = situation_of c.args.call in
    let is : Waits ≡ status_of s.op xs (reply (view c.args.route.now) s (history_of xs)) = search rules in
    status_said (view c.args.route.now) s xs Waits is

pub returns-in-Replied-Fixed : goal.returns-in-Replied-Fixed
returns-in-Replied-Fixed c =
    let xs = c.args.answered.now in
    let s = situation_of c.args.call in
    let is : Replied (sources.Fixed c.in-Replied-Fixed.reply) ≡ status_of s.op xs (reply (view c.args.route.now) s (history_of xs)) = search rules in
    status_said (view c.args.route.now) s xs (Replied (sources.Fixed c.in-Replied-Fixed.reply)) is

pub returns-in-Replied-Outcome : goal.returns-in-Replied-Outcome
returns-in-Replied-Outcome c =
    let xs = c.args.answered.now in
    let s = situation_of c.args.call in
    let is : Replied (sources.Outcome c.in-Replied-Outcome.place) ≡ status_of s.op xs (reply (view c.args.route.now) s (history_of xs)) = search rules in
    rw (status_said (view c.args.route.now) s xs (Replied (sources.Outcome c.in-Replied-Outcome.place)) is) at c.reply_of.ensures
