-- A class is mended where its routes do what they should at its member.
use Rattle.std.proofs.Common.{◌≡◌, ◌∙◌, ◌<◌, ◌+◌, ⊎_elim, ◌⊎◌, inl, inr, ℕ, List, Option, Some, None, ap, sym, subst, refl, arith}
use Rattle.std.specs.Prelude.{option_map, slice_get}
use Rattle.std.proofs.lemmas.Option.{same_Some}
use Rattle.mcv_alike.specs.Numbers.{IsNumbering, legs_value}
use Rattle.mcv_base.specs.Key.{IsRest}
use Rattle.mcv_base.specs.declared.operation.Op.{Op}
use Rattle.mcv_blocks.specs.Places.{IsRouteClass}
use Rattle.mcv_blocks.proofs.BlockOfSets.{tree_of}
use Rattle.mcv_classes.specs.Class.{IsMember}
use Rattle.mcv_classes.specs.Words.{class_words}
use Rattle.mcv_route.specs.Eras.{IsEraOf}
use Rattle.mcv_route.specs.Routes.{RouteEntry, RoutesValue}
use Rattle.mcv_route.specs.Tree.{Tree}
use Rattle.mcv_mended.specs.Classes.{HaveSameClasses}
use Rattle.mcv_needs.specs.InMemory.{class_of_need, need_value}
use Rattle.mcv_mended.specs.Members.{IsAskedWell, IsMemberMended}
use Rattle.mcv_mended.specs.Mend.{IsMendedBy}
use Rattle.mcv_needs.specs.declared.needs.Need.{Need}
use Rattle.mcv_mended.proofs.ClassMended.{class_mended}

-- the entry that has the tree
some_entry : (o : Option RouteEntry) (t : Tree) → Some t ≡ option_map (λ (e : RouteEntry). e.tree) o → (d : RouteEntry) × (o ≡ Some d) × (d.tree ≡ t)
some_entry None t h = absurd cc
some_entry (Some d) t h = (d, refl, sym (same_Some t d.tree h))

pub need_met : (r n : RoutesValue) (need : Need) (t u : Tree) (member : List ℕ) → IsRouteClass r (class_of_need need) → HaveSameClasses r n
    → Some t ≡ option_map (λ (e : RouteEntry). e.tree) (slice_get r.entries need.class.route) → Some u ≡ option_map (λ (e : RouteEntry). e.tree) (slice_get n.entries need.class.route)
    → Some member ≡ need.class.class.member → IsRest member → IsMemberMended r n t u member (legs_value need.legs.items) → IsMendedBy r n (need_value need)
need_met r n need t u member is classes old new has rest mended =
    let d = some_entry (slice_get n.entries need.class.route) u new in
    let tree : is.entry.tree ≡ t = tree_of r (class_of_need need) is t old in
    let both = classes need.class.route is.entry d.0 is.numbered d.1 in
    let words = class_words is.entry.tree in
    let inside : IsMember words need.class.class.word (Some member) = subst (IsMember words need.class.class.word) (sym has) is.listed.member in
    let Fine : Tree → Tree → Type 0 = λ x y. IsMemberMended r n x y member (legs_value need.legs.items) in
    let fine : Fine is.entry.tree d.0.tree = subst (λ (x : Tree). Fine x d.0.tree) (sym tree) (subst (Fine t) (sym d.2) mended) in
    record {
      entry = is.entry;
      mended = d.0;
      numbered = is.numbered;
      also = d.1;
      class = class_mended r n is.entry.tree d.0.tree need.class.class.word member (legs_value need.legs.items) both.0 both.1 rest inside fine;
    }
