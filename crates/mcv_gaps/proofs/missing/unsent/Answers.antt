use Rattle.std.proofs.Common.{◌≡◌, ◌∙◌, ◌++◌, ◌∷◌, [], ℕ, List, ⊎_elim, ap, false, get_or, subst, sym}
use Rattle.std.specs.BTreeSet.{contains}
use Rattle.std.specs.List.{Contains}
use Rattle.std.specs.Ordering.{nat_cmp}
use Rattle.std.proofs.lemmas.List.Elements.{Contains-get_or, Contains-push_cases}
use Rattle.mcv_base.specs.declared.request.ServerId.{ServerId}
use Rattle.mcv_judge.specs.PairsInMemory.{leg_of}
use Rattle.mcv_gaps.proofs.Mapped.{mapped}
use Rattle.mcv_gaps.proofs.missing.unsent.Goals as goal
use Rattle.mcv_gaps.proofs.missing.unsent.Goals.{then-not-contains+in_ok-push, else-not-contains}

pub loop-server-preserved : goal.loop-server-preserved
loop-server-preserved c =
    let servers = c.args.leg.now.servers.now in
    let i = c.loop-server.server-index in
    let one = get_or servers i (record { 0 = 0 }) in
    let Own : ℕ → Type 0 = λ x. Contains (leg_of c.args.leg.now).servers x × (contains nat_cmp c.args.sent.now x ≡ false) in
    elim c.if-not-contains.branch [
      | then-not-contains+in_ok-push w ↦
          let items : c.if-not-contains.unsent.items ≡ c.loop-server.unsent.items ++ one.0 ∷ [] = (λ k. (w.unsent-is k).items) ∙ w.in_ok-push.ensures.items in
          let own : Own one.0 = (mapped (λ (s : ServerId). s.0) servers one (Contains-get_or servers i (record { 0 = 0 }) c.loop-server-test.true), sym c.contains.ensures ∙ w.if-not-contains.true) in
          λ x at. ⊎_elim (λ h. c.loop-server.invariant x h) (λ e. subst Own e own) (Contains-push_cases c.loop-server.unsent.items one.0 x (subst (λ (ys : List ℕ). Contains ys x) items at))
      | else-not-contains w ↦
          let items : c.if-not-contains.unsent.items ≡ c.loop-server.unsent.items = λ k. (w.unsent-is k).items in
          λ x at. c.loop-server.invariant x (subst (λ (ys : List ℕ). Contains ys x) items at)
    ]
