use Rattle.std.proofs.Common.{◌≡◌, ◌∙◌, ◌||◌, [], get_or, Some, ap, arith}
use Rattle.std.specs.BTreeSet.{contains}
use Rattle.std.specs.Prelude.{slice_get}
use Rattle.std.specs.Option.{option_map}
use Rattle.std.proofs.lemmas.Bool.{eq-eqb, ne_eqb}
use Rattle.std.proofs.lemmas.Option.{slice_get-get_or}
use Rattle.mcv_base.specs.declared.request.ServerId.{ServerId}
use Rattle.mcv_judge.specs.PairsInMemory.{numbers}
use Rattle.mcv_judge.specs.Reason.{LegValue}
use Rattle.mcv_judge.proofs.Servers.{server_of, servers_counted}
use Rattle.mcv_make.specs.FreeIndexes.{slot_cmp}
use Rattle.mcv_make.proofs.TakenIndexes.{all_among, left, none_among, put}
use Rattle.mcv_make.proofs.free.insert_slots.Goals as goal
use Rattle.mcv_make.proofs.free.insert_slots.Goals.{then-own-server+in_ok-insert, else-own-server}

pub loop-index-init : goal.loop-index-init
loop-index-init c = λ q. none_among (contains slot_cmp c.args.taken.now q) (record { position = []; symbol = c.args.symbol; servers = numbers c.args.servers.now }) c.args.server.0 q

pub loop-index-preserved : goal.loop-index-preserved
loop-index-preserved c =
    let d : LegValue = record { position = []; symbol = c.args.symbol; servers = numbers c.args.servers.now } in
    let servers = c.args.servers.now in
    let i = c.loop-index.index in
    let y = (get_or servers i (record { 0 = 0 })).0 in
    let x = c.args.server.0 in
    let there : slice_get d.servers i ≡ Some y = server_of servers i ∙ ap (option_map (λ (s : ServerId). s.0)) (slice_get-get_or servers i (record { 0 = 0 }) c.loop-index-test.true) in
    elim c.if-own-server.branch [
      | then-own-server+in_ok-insert w ↦
          λ q. ap (λ t. contains slot_cmp t q) w.taken-is ∙ w.in_ok-insert.ensures.updates.0 q
          ∙ put d x i y there (contains slot_cmp c.loop-index.taken) (contains slot_cmp c.args.taken.now) c.loop-index.invariant (eq-eqb y x w.if-own-server.true) q
      | else-own-server w ↦
          λ q. ap (λ t. contains slot_cmp t q) w.taken-is
          ∙ left d x i y there (contains slot_cmp c.loop-index.taken) (contains slot_cmp c.args.taken.now) c.loop-index.invariant (ne_eqb y x w.if-own-server.false) q
    ]

pub returns : goal.returns
returns c = λ q.
    let d : LegValue = record { position = []; symbol = c.args.symbol; servers = numbers c.args.servers.now } in
    c.loop-index.invariant q
    ∙ ap (λ b. contains slot_cmp c.args.taken.now q || b) (all_among d c.args.server.0 c.loop-index.index (let count = servers_counted c.args.servers.now in let past = c.loop-index-test.false in let within = c.loop-index.auto.index-end in omega (arith, count, past, within)) q)
