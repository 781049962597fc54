use Rattle.std.proofs.Common.{ℕ, arith, below_more, subst}
use Rattle.mcv_hubs.specs.Choice.{IsHubOf}
use Rattle.mcv_desks.proofs.KeysOfHubs.{all_have_hub}
use Rattle.mcv_desks.proofs.one_hub.one_hub.Goals as goal

pub loop-key-init : goal.loop-key-init
loop-key-init c =
    let P : ℕ → Type 0 = λ k. IsHubOf c.args.choice.now c.args.request.now k c.hub_of_key-hub.result in
    below_more P 0 (λ k h. absurd (omega (arith, h))) c.hub_of_key-hub.ensures.hub

pub loop-key-preserved : goal.loop-key-preserved
loop-key-preserved c =
    let P : ℕ → Type 0 = λ k. IsHubOf c.args.choice.now c.args.request.now k c.hub_of_key-hub.result in
    let same : IsHubOf c.args.choice.now c.args.request.now c.loop-key.key c.hub_of_key-hub.result = subst (λ hub. IsHubOf c.args.choice.now c.args.request.now c.loop-key.key hub) c.if-hub_of_key-hub.false c.hub_of_key.ensures.hub in
    below_more P c.loop-key.key c.loop-key.invariant same

pub returns-clause-some : goal.returns-clause-some
returns-clause-some c =
    all_have_hub c.key_words_have_one_reading.ensures.one c.key_words_have_one_reading.ensures.no_rest c.args.choice.now c.args.request.now c.hub_of_key-hub.result c.loop-key.key c.loop-key.invariant (omega (arith, c.key_count-key-end.ensures))
