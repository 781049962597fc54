use Rattle.std.proofs.Common.{◌≡◌, ◌∙◌, ap, refl, arith}
use Rattle.mcv_core.specs.CallProgress.{fresh}
use Rattle.mcv_queues.specs.Queues.{legs, room, servers as known}
use Rattle.mcv_world.specs.World.{tree_of, situation_of, choice_of}
use Rattle.mcv_core.specs.Rows.{call_of, entries_of, past_of}
use Rattle.mcv_core.specs.Facts.{records_in}
use Rattle.mcv_core.proofs.Recordings
use Rattle.mcv_core.proofs.SpoolNumbers
use Rattle.mcv_core.proofs.call.Call.hear.Goals as goal

pub note-requires : goal.note-requires
note-requires c =
    let q = c.requires.can in
    let call = c.args.self.now in
    let low = Recordings.low q.routes q.rows q.number call c.args.entry q.core q.can q.running c.args.outcome c.args.taken in
    let counted = q.running.counted in
    let len = q.running.len in
    record {
      known = omega (arith, low, counted);
      within = omega (arith, low, len);
      room = Recordings.has_room q.routes q.rows q.number call c.args.entry q.core q.can q.running c.args.outcome c.args.taken;
    }

pub launch-launched-requires : goal.launch-launched-requires
launch-launched-requires c =
    let q = c.requires.can in
    let call = c.args.self.now in
    let can = Recordings.can_advance q.routes q.rows q.number call c.args.entry q.core q.can q.running c.args.outcome c.args.taken in
    let fresh1 = c.note.ensures.fresh (tree_of q.routes call.route) (situation_of (call_of call)) (choice_of (call_of call)) (entries_of call) (past_of call.recorded.items) q.running.tracked can in
    let n = Recordings.fresh_count q.routes q.rows q.number call c.args.entry q.core q.can q.running c.args.outcome c.args.taken c.note.new.self c.note.ensures.noted fresh1 in
    let m = Recordings.within_left q.routes q.rows q.number call c.args.entry q.core q.can q.running c.args.outcome c.args.taken c.note.new.self c.note.ensures.noted fresh1 in
    let left = q.running.left in
    let same : c.note.new.self.left ≡ call.left = ap (λ v. v.left) c.note.ensures.noted.same in
    record {
      can = Recordings.can_launch q.routes q.rows q.number call c.args.entry q.core q.can q.running c.args.outcome c.args.taken c.note.new.self c.note.ensures.noted fresh1
          (legs c.args.queues.now) (room c.args.queues.now) (known c.args.queues.now) c.args.next q.free q.enough q.small q.known;
      left = omega (arith, n, m, left, same);
    }

pub returns-clause-recorded : goal.returns-clause-recorded
returns-clause-recorded c r w k core can running next_is same =
    let call = c.args.self.now in
    let advance = Recordings.can_advance r w k call c.args.entry core can running c.args.outcome c.args.taken in
    let fresh1 = c.note.ensures.fresh (tree_of r call.route) (situation_of (call_of call)) (choice_of (call_of call)) (entries_of call) (past_of call.recorded.items) running.tracked advance in
    let tracked1 = c.note.ensures.tracked (tree_of r call.route) (situation_of (call_of call)) (choice_of (call_of call)) (entries_of call) (past_of call.recorded.items) running.tracked advance in
    Recordings.has_recorded r w k call c.args.entry core can running c.args.outcome c.args.taken c.note.new.self c.note.ensures.noted fresh1
    c.launch-launched.new.self (legs c.args.queues.now) (legs c.launch-launched.new.queues) c.args.next next_is c.launch-launched.ensures.same c.launch-launched.ensures.launched tracked1 c.note.ensures.count same
    _ c.launch-launched.ensures.count refl c.has_ended.ensures

pub returns-clause-records : goal.returns-clause-records
returns-clause-records c =
    ap records_in c.launch-launched.ensures.launched.legs_are ∙ SpoolNumbers.records_launched c.args.next (fresh c.note.new.self.state) c.note.new.self.entries.items (legs c.args.queues.now) c.requires.can.free
