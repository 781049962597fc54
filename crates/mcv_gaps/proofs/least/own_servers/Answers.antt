use Rattle.std.proofs.Common.{◌≡◌, ◌∙◌, ◌∷◌, [], ◌++◌, ℕ, List, Some, ap, cond, get_or, nat_eq, sym, take}
use Rattle.std.specs.BTreeMap.{get}
use Rattle.std.specs.List.{list_any}
use Rattle.std.specs.Ordering.{nat_cmp}
use Rattle.std.proofs.lemmas.List.{map_more}
use Rattle.mcv_base.specs.declared.request.ServerId.{ServerId}
use Rattle.mcv_judge.specs.PairsInMemory.{numbers}
use Rattle.mcv_gaps.specs.Least.{owner_of}
use Rattle.mcv_gaps.proofs.Owners.{kept_more}
use Rattle.mcv_gaps.proofs.least.own_servers.Goals as goal

pub loop-server-preserved : goal.loop-server-preserved
loop-server-preserved c = λ x.
    let servers = c.args.leg.now.servers.now in
    let i = c.loop-server.server-index in
    let y = (get_or servers i (record { 0 = 0 })).0 in
    let old = get nat_cmp c.args.owners.now x in
    let more = map_more (λ (s : ServerId). s.0) servers i (record { 0 = 0 }) c.loop-server-test.true in
    c.in_ok-own_server.ensures x
    ∙ kept_more x y c.args.number (numbers (take i servers)) old (get nat_cmp c.loop-server.owners x) (c.loop-server.invariant x)
    ∙ ap (λ (ys : List ℕ). cond (list_any (nat_eq x) ys) (Some (owner_of c.args.number old)) old) (sym more)
