use Rattle.std.proofs.Common.{◌≡◌, ◌∙◌, List, ap, map, subst, sym}
use Rattle.std.specs.List.{All}
use Rattle.std.proofs.lemmas.List.{take_all}
use Rattle.std.proofs.lemmas.List.Elements.{All-contains}
use Rattle.mcv_blocks.specs.Places.{AreRouteClasses, IsRouteClass}
use Rattle.mcv_blocks.specs.declared.classes.RouteClass.{RouteClass}
use Rattle.mcv_gaps.proofs.Mapped.{from, item}
use Rattle.mcv_gaps.proofs.Needed.{of_each}
use Rattle.mcv_mended.specs.Classes.{HaveSameClasses, places_of}
use Rattle.mcv_needs.specs.InMemory.{class_of_need, need_value, needs_value}
use Rattle.mcv_mended.specs.Mend.{IsMendedBy}
use Rattle.mcv_needs.specs.declared.needs.Need.{Need}
use Rattle.mcv_mended.proofs.EachOperation.{all_more}
use Rattle.mcv_mended.proofs.SameClasses.{need_for, same_classes}
use Rattle.mcv_mended.proofs.mended.is_mended.Goals as goal

pub is_need_met-requires-clause-numbering : goal.is_need_met-requires-clause-numbering
is_need_met-requires-clause-numbering c = rw c.in-Some.is at c.in_ok-numbering.ensures

pub is_need_met-requires-clause-class : goal.is_need_met-requires-clause-class
is_need_met-requires-clause-class c =
    let needs = c.args.needs.now in
    All-contains (IsRouteClass c.args.old.now) (map class_of_need needs) (class_of_need c.need-item.result) c.requires.classes.only (item class_of_need needs c.loop-need.need-index c.need-item.result c.loop-need-test.true c.need-item.is)

pub is_need_met-requires-clause-classes : goal.is_need_met-requires-clause-classes
is_need_met-requires-clause-classes c =
    same_classes c.args.old.now c.args.new.now (map class_of_need c.args.needs.now) c.in_ok-classes.classes.items c.requires.classes c.in_ok-classes.ensures
    (c.are_classes.ensures c.if-not-are_classes.false ∙ ap places_of c.as_slice.ensures.value)

pub loop-need-preserved : goal.loop-need-preserved
loop-need-preserved c =
    let P : Need → Type 0 = λ need. IsMendedBy c.args.old.now c.args.new.now (need_value need) in
    all_more P c.args.needs.now c.loop-need.need-index c.need-item.result c.loop-need-test.true c.loop-need.invariant (subst P c.need-item.is (c.in_ok-met.ensures c.if-not-met.false))

pub returns : goal.returns
returns c = λ _.
    let P : Need → Type 0 = λ need. IsMendedBy c.args.old.now c.args.new.now (need_value need) in
    let needs = c.args.needs.now in
    let all : All P needs = subst (λ (xs : List Need). All P xs) (take_all c.loop-need.need-index needs c.loop-need-test.false) c.loop-need.invariant in
    record {
      aliases = c.requires.aliases;
      eras = c.have_same_eras.ensures c.if-not-have_same_eras.false;
      classes = of_each (IsMendedBy c.args.old.now c.args.new.now) (needs_value needs) (λ v at. let m = from need_value needs v at in subst (IsMendedBy c.args.old.now c.args.new.now) m.2 (All-contains P needs m.0 all m.1));
      all = need_for c.args.old.now needs c.requires.classes;
    }
