use Rattle.std.proofs.Common.{◌∙◌, ap, arith, refl, subst, sym}
use Rattle.mcv_base.specs.declared.request.Request.{Request}
use Rattle.mcv_hubs.specs.Choice.{IsHubOf}
use Rattle.mcv_desks.specs.Mixed.{MixedRequest}
use Rattle.mcv_desks.proofs.MixedRequests.{goes_on, is_there, none_changes}
use Rattle.mcv_desks.proofs.desks.next_key.Goals as goal

pub returns-in_default-clause-same : goal.returns-in_default-clause-same
returns-in_default-clause-same g c = none_changes c.args.mixed.now c.args.mixed.now refl

pub returns-in_default-next_key-clause-same : goal.returns-in_default-next_key-clause-same
returns-in_default-next_key-clause-same g c = goes_on c.args.mixed.now c.args.place c.in-Some.one.now c.next_key.new.self (sym c.in-Some.ensures.value) c.next_key.ensures.same

pub returns-clause-same : goal.returns-clause-same
returns-clause-same g c = goes_on c.args.mixed.now c.args.place c.in-Some.one.now c.next_key.new.self (sym c.in-Some.ensures.value) c.next_key.ensures.same

pub returns-clause-key : goal.returns-clause-key
returns-clause-key g c =
    let same = c.next_key.ensures.same in
    record {
      request = c.in-Some.one.now.request;
      there = is_there c.args.mixed.now c.args.place c.in-Some.one.now (sym c.in-Some.ensures.value);
      serial = c.serial.ensures ∙ ap (λ (q : MixedRequest). q.serial) same;
      alone = c.in-Some-next_key.ensures.key;
      of_key = subst (λ (r : Request). IsHubOf c.args.choice.now r c.in-Some-next_key.alone.key c.hub_of_key.result) (c.request.ensures ∙ ap (λ (q : MixedRequest). q.asked) same) c.hub_of_key.ensures.hub;
    }

pub returns-clause-there : goal.returns-clause-there
returns-clause-there g c = let lower = c.hub_of_key.ensures.there in let most = c.hub_of_key.ensures.most in omega (arith, lower, most)
