use Rattle.std.proofs.Common.{◌≡◌, ◌∙◌, sym, subst, rules, true, false, true≢false, refl, Option, Some, None, option_map}
use Rattle.std.specs.Prelude.{is_none}
use Rattle.mcv_queues.specs.Groups.{is_in}
use Rattle.mcv_queues.specs.Numbers.{IsLeast, leg_number}
use Rattle.mcv_queues.specs.Queues.{legs}
use Rattle.mcv_queues.specs.declared.roots.Group.TheVariants.{LegsInReplay}
use Rattle.mcv_core.proofs.IdleCores
use Rattle.mcv_core.proofs.dispatcher.Dispatcher.is_at_rest.Goals as goal

none_of : {A : Type 0} (o : Option A) → is_none o ≡ true → o ≡ None
none_of None e = refl
none_of (Some x) e = absurd (true≢false (sym e))

none_from : {A B : Type 0} (f : A → B) (o : Option A) → option_map f o ≡ None → is_none o ≡ true
none_from f None e = refl
none_from f (Some x) e = absurd cc

pub returns-then-not-are_quiet : goal.returns-then-not-are_quiet
returns-then-not-are_quiet c =
    let d = c.args.self.now in
    let noisy : c.are_quiet.result ≡ false = search rules in
    (λ t. absurd (true≢false (sym t)), λ h. absurd (true≢false (sym (c.are_quiet.ensures.1 (IdleCores.rest_runs d h, IdleCores.rest_queues d h)) ∙ noisy)))

pub returns : goal.returns
returns c =
    let d = c.args.self.now in
    let quiet : c.are_quiet.result ≡ true = search rules in
    let zeros = c.are_quiet.ensures.0 quiet in
    let test : c.is_none.result ≡ is_none c.in_replay.result = search rules in (
      λ t. IdleCores.at_rest d zeros.0 zeros.1 (subst (λ o. IsLeast (is_in (legs d.queues) LegsInReplay) (option_map leg_number o)) (none_of c.in_replay.result (sym test ∙ t)) c.in_replay.ensures),
      λ h. test ∙ none_from leg_number c.in_replay.result (IdleCores.rest_replays d h (option_map leg_number c.in_replay.result) c.in_replay.ensures),
    )
