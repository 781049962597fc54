use Rattle.std.proofs.Common.{rules, ◌≡◌, ◌<◌, ◌≤◌, ◌+◌, ◌∙◌, suc, length, get_or, set, Some, sym, ap, subst, refl, arith}
use Rattle.std.proofs.lemmas.Option.{slice_get_read, slice_get-get_or}
use Rattle.std.specs.Prelude.{slice_get}
use Rattle.mcv_queues.specs.Queues.{legs, room, in_flight, servers as known}
use Rattle.mcv_core.specs.Launching.{HasCome}
use Rattle.mcv_core.proofs.Launches
use Rattle.mcv_core.proofs.launch.launch_each.Goals as goal
use Rattle.mcv_core.proofs.launch.launch_each.Goals.{in-Some, in_default}

pub index_mut-requires : goal.index_mut-requires
index_mut-requires c =
    let i = c.loop-entry.entry-index in
    let e = get_or c.args.fresh.now c.loop-entry.entry-index 0 in
    let here : slice_get c.args.fresh.now i ≡ Some e = slice_get-get_or c.args.fresh.now i 0 c.loop-entry-test.true in
    let low : e < length c.loop-entry.entries.items =
    Launches.there c.args.next c.loop-entry.number i c.args.fresh.now c.args.entries.now.items c.loop-entry.entries.items (legs c.args.queues.now) (legs c.loop-entry.queues) (room c.args.queues.now)
    (room c.loop-entry.queues) (known c.args.queues.now) c.requires.can c.loop-entry.invariant.come e here in
    search rules

pub push-requires-clause-server : goal.push-requires-clause-server
push-requires-clause-server c =
    let i = c.loop-entry.entry-index in
    let e = get_or c.args.fresh.now c.loop-entry.entry-index 0 in
    let entries = c.loop-entry.entries.items in
    let before = c.index_mut.result.now in
    let here : slice_get c.args.fresh.now i ≡ Some e = slice_get-get_or c.args.fresh.now i 0 c.loop-entry-test.true in
    let low : e < length entries =
    Launches.there c.args.next c.loop-entry.number i c.args.fresh.now c.args.entries.now.items entries (legs c.args.queues.now) (legs c.loop-entry.queues) (room c.args.queues.now) (room c.loop-entry.queues)
    (known c.args.queues.now) c.requires.can c.loop-entry.invariant.come e here in
    let at : slice_get entries e ≡ Some before = slice_get_read entries (length entries) e before refl low c.index_mut.ensures.value in
    let k = Launches.is_known c.args.next c.loop-entry.number i c.args.fresh.now c.args.entries.now.items entries (legs c.args.queues.now) (legs c.loop-entry.queues) (room c.args.queues.now)
    (room c.loop-entry.queues) (known c.args.queues.now) c.requires.can c.loop-entry.invariant.come e here before at c.in-Some.errand (sym c.launch.ensures.errand ∙ c.in-Some.is) in
    let s = ap (λ v. v.0) c.server-server.ensures in
    let q = c.loop-entry.invariant.servers in
    omega (arith, k, s, q)

pub loop-entry-preserved : goal.loop-entry-preserved
loop-entry-preserved c =
    let i = c.loop-entry.entry-index in
    let e = get_or c.args.fresh.now c.loop-entry.entry-index 0 in
    let entries = c.loop-entry.entries.items in
    let before = c.index_mut.result.now in
    let here : slice_get c.args.fresh.now i ≡ Some e = slice_get-get_or c.args.fresh.now i 0 c.loop-entry-test.true in
    let low : e < length entries =
    Launches.there c.args.next c.loop-entry.number i c.args.fresh.now c.args.entries.now.items entries (legs c.args.queues.now) (legs c.loop-entry.queues) (room c.args.queues.now) (room c.loop-entry.queues)
    (known c.args.queues.now) c.requires.can c.loop-entry.invariant.come e here in
    let at : slice_get entries e ≡ Some before = slice_get_read entries (length entries) e before refl low c.index_mut.ensures.value in
    let more : suc c.loop-entry.number ≡ c.loop-entry.number + 1 = omega arith in
    let step : suc c.loop-entry.entry-index ≡ c.loop-entry.entry-index + 1 = omega arith in
    elim c.match-launch.branch [
      | in-Some w ↦
          let come = Launches.one_more c.args.next c.loop-entry.number i c.args.fresh.now c.args.entries.now.items entries (legs c.args.queues.now) (legs c.loop-entry.queues) (room c.args.queues.now)
          (room c.loop-entry.queues) (known c.args.queues.now) c.requires.can c.loop-entry.invariant.come e here before at c.launch.new.self w.in-Some.errand w.server-server.result
          (set entries e c.launch.new.self) (legs c.match-launch.queues) (room c.match-launch.queues) (sym c.launch.ensures.errand ∙ w.in-Some.is) c.launch.ensures.leg c.launch.ensures.place refl
          w.server-server.ensures (ap legs w.queues-is ∙ w.push.ensures.legs) (subst (λ q. room c.loop-entry.queues ≤ room q + 1) (sym w.queues-is) w.push.ensures.room) in
          record {
            come = subst (λ n. HasCome c.args.next n (c.loop-entry.entry-index + 1) c.args.fresh.now c.args.entries.now.items (set entries e c.launch.new.self) (legs c.args.queues.now)
                (legs c.match-launch.queues) (room c.args.queues.now) (room c.match-launch.queues)) more
                (subst (λ m. HasCome c.args.next (suc c.loop-entry.number) m c.args.fresh.now c.args.entries.now.items (set entries e c.launch.new.self) (legs c.args.queues.now)
                (legs c.match-launch.queues) (room c.args.queues.now) (room c.match-launch.queues)) step come);
            flights = λ s. ap (λ q. in_flight q s) w.queues-is ∙ w.push.ensures.flights s ∙ c.loop-entry.invariant.flights s;
            servers = ap known w.queues-is ∙ w.push.ensures.servers ∙ c.loop-entry.invariant.servers;
          }
      | in_default w ↦
          absurd (Launches.has_errand c.args.next c.loop-entry.number i c.args.fresh.now c.args.entries.now.items entries (legs c.args.queues.now) (legs c.loop-entry.queues) (room c.args.queues.now)
          (room c.loop-entry.queues) (known c.args.queues.now) c.requires.can c.loop-entry.invariant.come e here before at (sym c.launch.ensures.errand ∙ w.in_default.is))
    ]
