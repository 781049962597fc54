use Rattle.std.proofs.Common.{◌≡◌, ◌∙◌, ◌+◌, List, ⊎_elim, ap, length, subst, sym, take, arith}
use Rattle.std.specs.List.{Contains}
use Rattle.std.proofs.lemmas.List.{take_all}
use Rattle.std.proofs.lemmas.List.Elements.{Contains-push_cases}
use Rattle.mcv_judge.specs.PairsInMemory.{leg_of, legs_of}
use Rattle.mcv_judge.specs.Reason.{LegValue}
use Rattle.mcv_judge.specs.declared.block.Leg.{Leg}
use Rattle.mcv_gaps.specs.Gaps.{wanted_of}
use Rattle.mcv_gaps.specs.Least.{HasTwin, HaveServers, legs_missing}
use Rattle.mcv_gaps.proofs.Mapped.{item, one_further}
use Rattle.mcv_gaps.proofs.missing.insert_all.Goals as goal

pub loop-leaf-init : goal.loop-leaf-init
loop-leaf-init c = record { only = λ ws at all. all; tells = c.requires; kept = λ d t. t; twins = λ d at. absurd (omega (arith, at.1)) }

pub loop-leaf-preserved : goal.loop-leaf-preserved
loop-leaf-preserved c =
    let v = wanted_of c.args.wanted.now in
    let missed = c.deref-leaf-items.result.now in
    let i = c.loop-leaf.leaf-index in
    let leaf = c.leaf-item.result in
    let at = subst (λ (xs : List Leg). Contains (legs_of xs) (leg_of leaf)) c.deref-leaf-items.ensures.value (item leg_of missed i leaf c.loop-leaf-test.true c.leaf-item.is) in
    let read = c.in_ok-missed.ensures.only (leg_of leaf) at in
    let have = subst (λ (xs : List Leg). HaveServers c.in_ok-sent.sent (legs_of xs)) c.as_slice.ensures.value c.in_ok-sent.ensures in
    let far = c.loop-leaf.invariant in
    let now = c.in_ok-insert_missing.ensures in
    record {
      only = λ ws at all. now.only v ws at read have (far.only ws at all);
      tells = now.tells far.tells;
      kept = λ d t. now.kept d (far.kept d t);
      twins = λ d at. ⊎_elim
          (λ h. now.kept d (far.twins d h))
          (λ e. subst (HasTwin (legs_missing c.insert_missing.new.found.missing.items)) e (now.twin far.tells))
          (Contains-push_cases (legs_of (take i missed)) (leg_of leaf) d (subst (λ (ls : List LegValue). Contains ls d) (one_further leg_of missed i leaf c.loop-leaf-test.true c.leaf-item.is) at));
    }

pub returns : goal.returns
returns c =
    let far = c.loop-leaf.invariant in
    record {
      only = far.only;
      tells = far.tells;
      kept = far.kept;
      all = λ sizes sized leaf read gone. far.twins leaf
          (subst (λ (xs : List Leg). Contains (legs_of xs) leaf) (sym (take_all c.loop-leaf.leaf-index c.deref-leaf-items.result.now c.loop-leaf-test.false ∙ c.deref-leaf-items.ensures.value)) (c.in_ok-missed.ensures.all sizes sized leaf read gone));
    }
