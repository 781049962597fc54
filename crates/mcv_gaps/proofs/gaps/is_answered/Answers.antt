use Rattle.std.proofs.Common.{◌≡◌, ◌<◌, List, Vec, Global, length, get_or, true, refl, sym, ap, ◌∙◌, arith}
use Rattle.std.specs.Prelude.{is_some, map}
use Rattle.std.specs.Borrow.{Bor}
use Rattle.std.specs.Option.{option_map}
use Rattle.mcv_judge.specs.declared.block.Leg.{Leg}
use Rattle.mcv_judge.specs.Reason.{LegValue}
use Rattle.std.proofs.lemmas.Option.{get_or_from_slice_get}
use Rattle.mcv_judge.specs.PairsInMemory.{leg_of}
use Rattle.mcv_judge.proofs.Servers.{servers_counted}
use Rattle.mcv_picks.specs.Picks.{borrowed, first_with}
use Rattle.mcv_picks.proofs.FilledSlots.{server_read}
use Rattle.mcv_picks.proofs.SearchResults.{mapped_some, none_there}
use Rattle.mcv_gaps.proofs.Answering.{decided, one_answers}
use Rattle.mcv_gaps.proofs.gaps.is_answered.Goals as goal

pub returns-then-is_some : goal.returns-then-is_some
returns-then-is_some c = λ sizes sized.
    let leaf = leg_of c.args.leaf.now in
    let servers = c.args.leaf.now.servers.now in
    let i = c.args.index in
    let x = (get_or servers i (record { 0 = 0 })).0 in
    let count = servers_counted servers in
    let within : i < length leaf.servers = omega (arith, count, c.requires) in
    let there = get_or_from_slice_get leaf.servers i x 0 (server_read servers i (record { 0 = 0 }) c.requires) in
    let some : is_some (first_with c.args.picks.now leaf.symbol x i) ≡ true = ap is_some (sym c.same.ensures) ∙ mapped_some borrowed c.same.result ∙ sym c.is_some.ensures ∙ c.if-is_some.true in
    let answered = one_answers sizes c.args.picks.now leaf sized i x within there (first_with c.args.picks.now leaf.symbol x i) refl some in
    (λ _. answered, λ _. refl)

pub returns : goal.returns
returns c = λ sizes sized.
    let leaf = leg_of c.args.leaf.now in
    let legs = c.args.picks.now in
    let servers = c.args.leaf.now.servers.now in
    let i = c.args.index in
    let x = (get_or servers i (record { 0 = 0 })).0 in
    let count = servers_counted servers in
    let within : i < length leaf.servers = omega (arith, count, c.requires) in
    let there = get_or_from_slice_get leaf.servers i x 0 (server_read servers i (record { 0 = 0 }) c.requires) in
    let none = none_there (first_with legs leaf.symbol x i) (ap is_some (sym c.same.ensures) ∙ mapped_some borrowed c.same.result ∙ sym c.is_some.ensures ∙ c.if-is_some.false) in
    let seen : Vec (Bor Leg) Global → List LegValue = λ v. map borrowed v.items in
    let d = decided sizes legs leaf sized i x within there (option_map seen c.in_ok-found.found) none c.in_ok-found.ensures in
    let same : is_some (option_map seen c.in_ok-found.found) ≡ c.is_some-2.result = mapped_some seen c.in_ok-found.found ∙ sym c.is_some-2.ensures in
    (λ e. d.0 (same ∙ e), λ a. sym same ∙ d.1 a)
