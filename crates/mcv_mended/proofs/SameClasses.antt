-- Routes with the same classes and the same breaks.
use Rattle.std.proofs.Common.{◌≡◌, ◌<◌, ◌+◌, ◌↔◌, ℕ, List, [], ◌∷◌, ◌++◌, Option, Some, None, get_or, length, map, take, refl, sym, ap, ap₂, ◌∙◌, subst}
use Rattle.std.specs.Prelude.{All, slice_get}
use Rattle.std.specs.List.{Contains}
use Rattle.std.proofs.lemmas.List.{map-append, map_more}
use Rattle.mcv_base.specs.declared.request.Moment.{Moment}
use Rattle.std.proofs.lemmas.List.Elements.{All-contains}
use Rattle.mcv_gaps.proofs.Mapped.{one_further}
use Rattle.std.proofs.lemmas.Option.{same_Some}
use Rattle.mcv_blocks.specs.Places.{AreRouteClasses, IsRouteClass, of_route}
use Rattle.mcv_blocks.specs.declared.classes.RouteClass.{RouteClass}
use Rattle.mcv_blocks.proofs.Searches.{from_map, into_map}
use Rattle.mcv_classes.specs.Class.{ClassValue, IsListed}
use Rattle.mcv_classes.specs.Words.{class_words}
use Rattle.mcv_route.specs.Eras.{IsBreakTable, IsEra, breaks_of}
use Rattle.mcv_route.specs.Routes.{RouteEntry, RoutesValue}
use Rattle.mcv_route.specs.Tree.{Tree}
use Rattle.mcv_mended.specs.Classes.{AreListedToo, HaveSameClasses, place_of, places_of}
use Rattle.mcv_needs.specs.InMemory.{class_of_need, need_value, needs_value}
use Rattle.mcv_mended.specs.Mend.{HasNeedFor}
use Rattle.mcv_needs.specs.declared.needs.Need.{Need}

module _ (r n : RoutesValue) (cs ds : List RouteClass) (are : AreRouteClasses r cs) (also : AreRouteClasses n ds) (same : places_of cs ≡ places_of ds) where
  listed_too : (i : ℕ) (e d : RouteEntry) → slice_get r.entries i ≡ Some e → slice_get n.entries i ≡ Some d → AreListedToo e.tree d.tree
  listed_too i e d at there c listed =
      let own : RouteClass = of_route i c in
      let is : IsRouteClass r own = record { entry = e; numbered = at; listed = listed } in
      let placed : Contains (places_of ds) (i, c.word) = subst (λ ps. Contains ps (i, c.word)) same (into_map place_of cs own (are.all own is)) in
      let other = from_map place_of ds (i, c.word) placed in
      let found : IsRouteClass n other.0 = All-contains (IsRouteClass n) ds other.0 also.only other.1 in
      let route : other.0.route ≡ i = ap (λ (p : ℕ × List ℕ). p.0) other.2 in
      let word : other.0.class.word ≡ c.word = ap (λ (p : ℕ × List ℕ). p.1) other.2 in
      let entry : found.entry ≡ d = same_Some found.entry d (sym found.numbered ∙ ap (slice_get n.entries) route ∙ there) in
      subst (Contains (class_words d.tree)) word (subst (λ (x : RouteEntry). Contains (class_words x.tree) other.0.class.word) entry found.listed.word)

pub same_classes : (r n : RoutesValue) (cs ds : List RouteClass) → AreRouteClasses r cs → AreRouteClasses n ds → places_of cs ≡ places_of ds → HaveSameClasses r n
same_classes r n cs ds are also same i e d at there = (listed_too r n cs ds are also same i e d at there, listed_too n r ds cs also are (sym same) i d e there at)

-- each class has a need
pub need_for : (r : RoutesValue) (needs : List Need) → AreRouteClasses r (map class_of_need needs) → (i : ℕ) (e : RouteEntry) (c : ClassValue) → slice_get r.entries i ≡ Some e → IsListed (class_words e.tree) c
    → HasNeedFor (needs_value needs) i c.word
need_for r needs are i e c at listed =
    let own : RouteClass = of_route i c in
    let need = from_map class_of_need needs own (are.all own (record { entry = e; numbered = at; listed = listed })) in
    (need_value need.0, into_map need_value needs need.0 need.1, ap (λ (x : RouteClass). x.route) need.2, ap (λ (x : RouteClass). x.class.word) need.2)

-- a class more
pub places_more : (needs : List Need) (cs : List RouteClass) (i : ℕ) (x : Need) (c : RouteClass) → i < length needs → x ≡ get_or needs i x → i < length cs → c ≡ get_or cs i c → place_of (class_of_need x) ≡ place_of c
    → places_of (map class_of_need (take i needs)) ≡ places_of (take i cs) → places_of (map class_of_need (take (i + 1) needs)) ≡ places_of (take (i + 1) cs)
places_more needs cs i x c lt is less at e h =
    ap places_of (one_further class_of_need needs i x lt is)
    ∙ map-append place_of (map class_of_need (take i needs)) (class_of_need x ∷ [])
    ∙ ap₂ (λ (ps : List (ℕ × List ℕ)) (p : ℕ × List ℕ). ps ++ p ∷ []) h e
    ∙ sym (one_further place_of cs i c less at)

-- a moment more
pub moments_more : (xs ys : List Moment) (i : ℕ) (d e : Moment) → i < length xs → i < length ys → map (λ (m : Moment). m.0) (take i xs) ≡ map (λ (m : Moment). m.0) (take i ys) → (get_or xs i d).0 ≡ (get_or ys i e).0
    → map (λ (m : Moment). m.0) (take (i + 1) xs) ≡ map (λ (m : Moment). m.0) (take (i + 1) ys)
moments_more xs ys i d e lt less same one =
    map_more (λ (m : Moment). m.0) xs i d lt ∙ ap₂ (λ (bs : List ℕ) (b : ℕ). bs ++ b ∷ []) same one ∙ sym (map_more (λ (m : Moment). m.0) ys i e less)

-- ---- eras

brought : (r n : RoutesValue) (table : List ℕ) → IsBreakTable (breaks_of r) table → IsBreakTable (breaks_of n) table → (since : Option ℕ) → IsEra n since → IsEra r since
brought r n table own other None era = tt
brought r n table own other (Some b) era = All-contains (Contains (breaks_of r)) table b own.only (All-contains (Contains table) (breaks_of n) b other.all era)

pub same_eras : (r n : RoutesValue) (table : List ℕ) → IsBreakTable (breaks_of r) table → IsBreakTable (breaks_of n) table → (since : Option ℕ) → IsEra n since ↔ IsEra r since
same_eras r n table own other since = (brought r n table own other since, brought n r table other own since)
