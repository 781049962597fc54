-- What deletes and gets of a finding's keys reach: by the tree, the member and the breaks of its spot.
use Rattle.std.proofs.Common.{◌≡◌, ◌∙◌, ℕ, List, [], ◌∷◌, Option, Some, None, ap, arith, option_map, subst, sym}
use Rattle.std.proofs.lemmas.Option.{none-some, same_Some}
use Rattle.std.specs.Prelude.{slice_get}
use Rattle.mcv_blocks.proofs.RouteClasses.{route_at}
use Rattle.mcv_classes.specs.Class.{IsMember}
use Rattle.mcv_classes.specs.Table.{IsWordTable}
use Rattle.mcv_classes.specs.Words.{class_words}
use Rattle.mcv_make.proofs.Members.{member-here, member-there}
use Rattle.mcv_route.proofs.BreakTables.{one_era}
use Rattle.mcv_route.specs.Eras.{HasEra, IsEraOf}
use Rattle.mcv_route.specs.Routes.{RouteEntry, RoutesValue}
use Rattle.mcv_route.specs.Tree.{Tree}
use Rattle.mcv_witness.specs.Finding.{FindingValue}
use Rattle.mcv_picture.specs.Reached.{AreDeletesTo, AreReadableAt, AreReached}

abbrev tree_of : RouteEntry → Tree
tree_of e = e.tree

one_member : (words : List (List ℕ)) (class m n : List ℕ) → IsMember words class (Some m) → IsMember words class (Some n) → m ≡ n
one_member words [] m n h g =
    let low = h.3 g.0 g.2 in
    let high = g.3 h.0 h.2 in
    let same : h.0 ≡ g.0 = omega (arith, low, high) in
    h.1 ∙ ap (λ (b : ℕ). b ∷ []) same ∙ sym g.1
one_member words (b ∷ word) m n h g = h.0 ∙ sym g.0

one_tree : (r : RoutesValue) (number : ℕ) (t u : Tree) (e : RouteEntry) → Some t ≡ option_map tree_of (slice_get r.entries number) → slice_get r.entries number ≡ Some e → e.tree ≡ u → t ≡ u
one_tree r number t u e has numbered is =
    let here = route_at t (slice_get r.entries number) has in
    sym here.2 ∙ ap tree_of (same_Some here.0 e (sym here.1 ∙ numbered)) ∙ is

-- a finding without a route or without a member has no spot
pub no_route : (r : RoutesValue) (f : FindingValue) (deletes readable : List (List ℕ)) → None ≡ option_map tree_of (slice_get r.entries f.place.spot.route) → AreReached r f deletes readable
no_route r f deletes readable none t member since read spot = absurd (none-some spot.entry.tree (none ∙ ap (option_map tree_of) spot.numbered))

pub no_member : (r : RoutesValue) (f : FindingValue) (t : Tree) (table deletes readable : List (List ℕ)) → Some t ≡ option_map tree_of (slice_get r.entries f.place.spot.route)
    → IsWordTable (class_words t) table → IsMember table f.place.spot.class None → AreReached r f deletes readable
no_member r f t table deletes readable has words none u member since read spot =
    let tree = one_tree r f.place.spot.route t u spot.entry has spot.numbered spot.has_tree in
    let own = subst (λ (x : Tree). IsMember (class_words x) f.place.spot.class (Some member)) (sym tree) spot.has_member in
    absurd (member-there (class_words t) table words f.place.spot.class (member, own) none)

pub reached_at : (r : RoutesValue) (f : FindingValue) (t : Tree) (table : List (List ℕ)) (m : List ℕ) (s q : Option ℕ) (deletes readable : List (List ℕ))
    → Some t ≡ option_map tree_of (slice_get r.entries f.place.spot.route) → IsWordTable (class_words t) table → IsMember table f.place.spot.class (Some m)
    → (HasEra r f.place.spot.era → IsEraOf r f.place.spot.era s) → (HasEra r f.place.spot.get_era → IsEraOf r f.place.spot.get_era q)
    → AreDeletesTo t m s f deletes → AreReadableAt t m q readable → AreReached r f deletes readable
reached_at r f t table m s q deletes readable has words of opened read_opened to at u n z y spot =
    let tree : t ≡ u = one_tree r f.place.spot.route t u spot.entry has spot.numbered spot.has_tree in
    let here = member-here (class_words t) table words f.place.spot.class m of in
    let member : m ≡ n = one_member (class_words u) f.place.spot.class m n (subst (λ (x : Tree). IsMember (class_words x) f.place.spot.class (Some m)) tree here) spot.has_member in
    let since : s ≡ z = one_era r f.place.spot.era s z (opened (z, spot.opened)) spot.opened in
    let read : q ≡ y = one_era r f.place.spot.get_era q y (read_opened (y, spot.read_opened)) spot.read_opened in (
      subst (λ (x : Tree). AreDeletesTo x n z f deletes) tree (subst (λ (x : List ℕ). AreDeletesTo t x z f deletes) member (subst (λ (x : Option ℕ). AreDeletesTo t m x f deletes) since to)),
      subst (λ (x : Tree). AreReadableAt x n y readable) tree (subst (λ (x : List ℕ). AreReadableAt t x y readable) member (subst (λ (x : Option ℕ). AreReadableAt t m x readable) read at)),
    )
