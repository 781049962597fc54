use Rattle.std.proofs.Common.{◌∙◌, ap, sym, subst, rules}
use Rattle.std.specs.Option.{option_copied_mut}
use Rattle.std.proofs.Math.Path.{fun_ext}
use Rattle.mcv_world.proofs.Numbers.{same_some}
use Rattle.mcv_core.specs.Taking.{HasTaken}
use Rattle.mcv_core.proofs.calls.Calls.take.Goals as goal

pub returns-in-Some-clause-taken : goal.returns-in-Some-clause-taken
returns-in-Some-clause-taken c call here =
    let there = sym c.get_mut.ensures.value ∙ ap option_copied_mut c.in-Some.is in
    record {
      call = c.take-part.new.self;
      part = c.take-part.result;
      at = fun_ext (λ q. ((c.get_mut.follows.holds c.take-part.new.self).3 (search rules)).0 q);
      took = subst (λ v. HasTaken v c.take-part.new.self c.take-part.result) (same_some (sym there ∙ here)) c.take-part.ensures;
      is = ap (λ e. record { part = c.take-part.result; left = c.take-part.new.self.left; ended = e }) c.has_ended.ensures;
    }
