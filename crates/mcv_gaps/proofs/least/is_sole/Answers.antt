use Rattle.std.proofs.Common.{◌∙◌, List, ℕ, get_or, subst, sym}
use Rattle.std.specs.List.{Contains}
use Rattle.std.proofs.lemmas.List.Elements.{Contains-get_or}
use Rattle.mcv_gaps.proofs.least.is_sole.Goals as goal

pub returns-then-is_own : goal.returns-then-is_own
returns-then-is_own c = λ _.
    let servers = c.deref-server-items.result.now in
    let i = c.loop-server.server-index in
    let x = get_or servers i 0 in (
      x,
      subst (λ (xs : List ℕ). Contains xs x) c.deref-server-items.ensures.value (Contains-get_or servers i 0 c.loop-server-test.true),
      sym (c.copied.ensures ∙ c.get.ensures.value) ∙ c.is_own.ensures c.if-is_own.true,
    )
