use Rattle.std.proofs.Common.{◌≡◌, false, true, get_or, ap, sym, ◌∙◌, arith}
use Rattle.std.specs.BTreeMap.{get}
use Rattle.std.specs.Option.{option_map, option_or}
use Rattle.std.specs.Prelude.{is_some}
use Rattle.mcv_judge.specs.PairsInMemory.{leg_of}
use Rattle.mcv_judge.proofs.Servers.{servers_counted}
use Rattle.mcv_picks.specs.Picks.{borrowed}
use Rattle.mcv_picks.specs.Tables.{slot_cmp}
use Rattle.mcv_picks.proofs.FilledSlots.{all_given, put, server_read, taken}
use Rattle.mcv_picks.proofs.SearchResults.{mapped_cond, mapped_some}
use Rattle.mcv_picks.proofs.slots.insert_servers.Goals as goal
use Rattle.mcv_picks.proofs.slots.insert_servers.Goals.{then-not-contains_key+in_ok-insert, else-not-contains_key}

pub loop-index-preserved : goal.loop-index-preserved
loop-index-preserved c =
    let d = leg_of c.args.leg.now in
    let servers = c.args.leg.now.servers.now in
    let i = c.loop-index.index in
    let x = (get_or servers i (record { 0 = 0 })).0 in
    let there = server_read servers i (record { 0 = 0 }) c.loop-index-test.true in
    elim c.if-not-contains_key.branch [
      | then-not-contains_key+in_ok-insert w ↦
          let h = w.if-not-contains_key.true in
          let none : is_some (get slot_cmp c.loop-index.table (d.symbol, i, x)) ≡ false = sym c.contains_key.ensures ∙ h in
          λ q.
          ap (λ t. option_map borrowed (get slot_cmp t q)) w.table-is
          ∙ ap (option_map borrowed) (w.in_ok-insert.ensures.updates.0 q)
          ∙ mapped_cond borrowed _ _ _
          ∙ put d i x there (λ s. option_map borrowed (get slot_cmp c.loop-index.table s)) (λ s. option_map borrowed (get slot_cmp c.args.table.now s)) c.loop-index.invariant (mapped_some borrowed (get slot_cmp c.loop-index.table (d.symbol, i, x)) ∙ none) q
      | else-not-contains_key w ↦
          let h = w.if-not-contains_key.false in
          let some : is_some (get slot_cmp c.loop-index.table (d.symbol, i, x)) ≡ true = sym c.contains_key.ensures ∙ h in
          λ q.
          ap (λ t. option_map borrowed (get slot_cmp t q)) w.table-is
          ∙ taken d i x there (λ s. option_map borrowed (get slot_cmp c.loop-index.table s)) (λ s. option_map borrowed (get slot_cmp c.args.table.now s)) c.loop-index.invariant (mapped_some borrowed (get slot_cmp c.loop-index.table (d.symbol, i, x)) ∙ some) q
    ]

pub returns : goal.returns
returns c = λ q.
    c.loop-index.invariant q
    ∙ ap (option_or (option_map borrowed (get slot_cmp c.args.table.now q)))
    (all_given (leg_of c.args.leg.now) c.loop-index.index (let count = servers_counted c.args.leg.now.servers.now in let past = c.loop-index-test.false in let within = c.loop-index.auto.index-end in omega arith) q)
