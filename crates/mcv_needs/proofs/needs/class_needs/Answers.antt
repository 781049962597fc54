use Rattle.std.proofs.Common.{◌≡◌, ◌∙◌, ◌++◌, ◌∷◌, [], List, ap, map, map-id, rules, subst, sym}
use Rattle.std.specs.List.{All, Contains}
use Rattle.std.proofs.lemmas.Iterator.Consumers.{YieldsList-end}
use Rattle.std.proofs.lemmas.Iterator.Adapters.{YieldsList-from_vec}
use Rattle.std.proofs.lemmas.List.{map-append}
use Rattle.std.proofs.lemmas.List.Elements.{All-append, All-cons, All-contains, All-nil}
use Rattle.mcv_blocks.specs.Places.{AreRouteClasses, IsRouteClass}
use Rattle.mcv_blocks.specs.declared.classes.RouteClass.{RouteClass}
use Rattle.mcv_gaps.proofs.Mapped.{from, mapped}
use Rattle.mcv_gaps.proofs.Needed.{of_each}
use Rattle.mcv_needs.specs.InMemory.{class_of_need, need_value, needs_value}
use Rattle.mcv_needs.specs.Needs.{IsLeastNeed}
use Rattle.mcv_needs.specs.declared.needs.Need.{Need}
use Rattle.mcv_needs.proofs.needs.class_needs.Goals as goal

pub loop-class-init : goal.loop-class-init
loop-class-init c =
    let P : Need → Type 0 = λ n. IsRouteClass c.args.routes.now (class_of_need n) → IsLeastNeed c.args.routes.now (need_value n) in
    record {
      classes = ap (map class_of_need) c.new-needs.ensures.items;
      least = subst (λ (ns : List Need). All P ns) (sym c.new-needs.ensures.items) (All-nil P);
    }

pub loop-class-preserved : goal.loop-class-preserved
loop-class-preserved c =
    let P : Need → Type 0 = λ n. IsRouteClass c.args.routes.now (class_of_need n) → IsLeastNeed c.args.routes.now (need_value n) in
    let old = c.loop-class.needs.items in
    let m : Need = record { class = c.in-Some.class; legs = c.in_ok-legs.legs } in
    let items : c.push.new.self.items ≡ old ++ m ∷ [] = c.in_ok-push.ensures.items in
    record {
      classes = ap (map class_of_need) items ∙ map-append class_of_need old (m ∷ []) ∙ ap (λ (cs : List RouteClass). cs ++ c.in-Some.class ∷ []) c.loop-class.invariant.classes;
      least = subst (λ (ns : List Need). All P ns) (sym items) (All-append P old (m ∷ []) c.loop-class.invariant.least (All-cons P m [] c.in_ok-legs.ensures (All-nil P)));
    }

pub returns : goal.returns
returns c =
    let r = c.args.routes.now in
    let P : Need → Type 0 = λ n. IsRouteClass r (class_of_need n) → IsLeastNeed r (need_value n) in
    let needs = c.loop-class.needs.items in
    let own = c.in_ok-class-items.class-items.items in
    let are = c.in_ok-class-items.ensures in
    let end = YieldsList-end (YieldsList-from_vec {s = c.into_iter-class-iterator.result} own (search rules) (search rules))
    c.loop-class.yielded c.loop-class.class-iterator c.loop-class.yielded_by c.next.result c.next.new.self c.in-None.is c.next.ensures.steps in
    let all : c.loop-class.yielded ≡ own = sym (map-id c.loop-class.yielded) ∙ end.0 in
    let same : map class_of_need needs ≡ own = c.loop-class.invariant.classes ∙ all in
    record {
      classes = subst (AreRouteClasses r) (sym same) are;
      least = of_each (IsLeastNeed r) (needs_value needs) (λ v at.
          let m = from need_value needs v at in
          let there = subst (λ (cs : List RouteClass). Contains cs (class_of_need m.0)) same (mapped class_of_need needs m.0 m.1) in
          subst (IsLeastNeed r) m.2 (All-contains P needs m.0 c.loop-class.invariant.least m.1 (All-contains (IsRouteClass r) own (class_of_need m.0) are.only there)));
    }
