use Rattle.std.proofs.Common.{◌≡◌, ◌∙◌, ap, sym, subst, rules}
use Rattle.std.specs.Option.{option_copied_mut}
use Rattle.std.proofs.Math.Path.{fun_ext}
use Rattle.mcv_base.specs.Reply.{part_value}
use Rattle.mcv_core.specs.CallProgress.{launch_at}
use Rattle.mcv_queues.specs.Queues.{legs, room as leg_room, servers as known}
use Rattle.mcv_route.specs.Routes.{RoutesValue}
use Rattle.mcv_world.proofs.Numbers.{same_some}
use Rattle.mcv_events.specs.Rows.{CanRecord, IsCore, Rows}
use Rattle.mcv_core.specs.Recordings.{CanNote, HasRecorded}
use Rattle.mcv_core.specs.Rows.{call_row, entries_of, IsRunning}
use Rattle.mcv_core.proofs.calls.Calls.hear.Goals as goal

pub hear-requires : goal.hear-requires
hear-requires c =
    let there = sym c.get_mut.ensures.value ∙ ap option_copied_mut c.in-Some.is in
    record {
      can = subst (λ v. CanNote v c.args.entry (legs c.args.queues.now) (leg_room c.args.queues.now) (known c.args.queues.now) c.args.next) (same_some (sym c.requires.can.there ∙ there)) c.requires.can.can;
    }

pub returns-in-Some-clause-recorded : goal.returns-in-Some-clause-recorded
returns-in-Some-clause-recorded c call here =
    let there = sym c.get_mut.ensures.value ∙ ap option_copied_mut c.in-Some.is in
    record {
      call = c.hear.new.self;
      at = fun_ext (λ q. ((c.get_mut.follows.holds c.hear.new.self).3 (search rules)).0 q);
      recorded = subst (λ v. (r : RoutesValue) (w : Rows) → IsCore r w → CanRecord r w c.args.number (call_row v) c.args.entry (launch_at (entries_of v) c.args.entry) → IsRunning r c.args.number v
          → w.next_leg ≡ c.args.next → part_value c.args.taken ≡ part_value c.args.outcome
          → HasRecorded r w c.args.number v c.hear.new.self c.args.entry (part_value c.args.outcome) (legs c.args.queues.now) (legs c.hear.new.queues) c.hear.result) (same_some (sym there ∙ here))
          (λ r w core can running next same. c.hear.ensures.recorded r w c.args.number core can running next same);
    }
