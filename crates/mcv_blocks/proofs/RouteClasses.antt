-- The classes of the routes up to one, in order.
use Rattle.std.proofs.Common.{◌≡◌, inl, inr, ℕ, suc, ◌+◌, ◌<◌, ◌≤◌, ◌^◌, cond, ◌==◌, List, [], ◌∷◌, ◌++◌, map, length, get_or, Option, Some, None, option_map, refl, sym, ap, ◌∙◌, subst, arith}
use Rattle.std.specs.Prelude.{slice_get}
use Rattle.std.specs.List.{All, AllPairs, Contains, sum_by}
use Rattle.std.specs.Ordering.{nat_cmp, ordering_then}
use Rattle.std.specs.declared.cmp.Ordering.TheVariants.{Less, Equal, Greater}
use Rattle.std.proofs.lemmas.Bool.{cases_lt, lt-ltb}
use Rattle.std.proofs.lemmas.Cmp.{nat_cmp_total, tied_itself}
use Rattle.std.proofs.lemmas.List.Elements.{All-append, All-head, All-map, All-nil, All-tail, All-weaker, Contains-append_left, Contains-append_right}
use Rattle.std.proofs.lemmas.List.Kept.{AllPairs-cons}
use Rattle.std.proofs.lemmas.List.Sums.{sum_by-cons}
use Rattle.std.proofs.lemmas.Option.{none-some, same_Some, slice_get_cases, slice_get_within}
use Rattle.mcv_cert.specs.Pair.{list_cmp}
use Rattle.mcv_classes.specs.Class.{ClassValue, IsBefore, IsClassList, IsListed}
use Rattle.mcv_classes.specs.Words.{class_words}
use Rattle.mcv_route.specs.Limits.{AreWithinLimits, handles_in}
use Rattle.mcv_route.specs.Routes.{RouteEntry, RoutesValue}
use Rattle.mcv_route.specs.Tree.{Tree, pool, null, error, many, warm_up, migrate, prefix_selector, operation_selector}
use Rattle.mcv_blocks.specs.Places.{AreRouteClasses, IsRouteClass, class_cmp, of_route}
use Rattle.mcv_blocks.specs.declared.classes.RouteClass.{RouteClass}
use Rattle.mcv_route.proofs.RisingLists.{rises_behind}
use Rattle.mcv_blocks.proofs.Searches.{into_map}

-- ---- lists

pub less : (i j : ℕ) → i < j → nat_cmp i j ≡ Less
less i j h = ap (λ b. cond b Less (cond (i == j) Equal Greater)) (lt-ltb i j h)

module _ {X : Type 0} (R : X → X → Type 0) where
  from_first : (x : X) (xs : List X) → AllPairs R (x ∷ xs) → All (R x) xs
  from_first x xs up k d low = up 0 (suc k) d (omega arith) (omega (arith, low))

  append_rises : (xs ys : List X) → AllPairs R xs → AllPairs R ys → All (λ x. All (R x) ys) xs → AllPairs R (xs ++ ys)
  append_rises [] ys up over cross = over
  append_rises (x ∷ xs) ys up over cross =
      AllPairs-cons R x (xs ++ ys) (All-append (R x) xs ys (from_first x xs up) (All-head (λ z. All (R z) ys) x xs cross))
      (append_rises xs ys (rises_behind R x xs up) over (All-tail (λ z. All (R z) ys) x xs cross))

-- ---- one route

before-word : (n : ℕ) (a b : ClassValue) → IsBefore a.word b.word → class_cmp (of_route n a) (of_route n b) ≡ Less
before-word n a b h = ap (λ x. ordering_then x (list_cmp a.word b.word)) (tied_itself nat_cmp_total n) ∙ h

before-route : (c d : RouteClass) → c.route < d.route → class_cmp c d ≡ Less
before-route c d h = ap (λ x. ordering_then x (list_cmp c.class.word d.class.word)) (less c.route d.route h)

own_rises : (n : ℕ) (own : List ClassValue) → AllPairs (λ (a b : ClassValue). IsBefore a.word b.word) own → AllPairs (λ c d. class_cmp c d ≡ Less) (map (of_route n) own)
own_rises n [] up = λ i j d low high. absurd (omega (arith, high))
own_rises n (a ∷ own) up =
    AllPairs-cons (λ c d. class_cmp c d ≡ Less) (of_route n a) (map (of_route n) own)
    (All-map (λ d. class_cmp (of_route n a) d ≡ Less) (of_route n) own (All-weaker (λ (b : ClassValue). IsBefore a.word b.word) (λ b. class_cmp (of_route n a) (of_route n b) ≡ Less) (λ b h. before-word n a b h) own (from_first (λ (a b : ClassValue). IsBefore a.word b.word) a own up)))
    (own_rises n own (rises_behind (λ (a b : ClassValue). IsBefore a.word b.word) a own up))

-- ---- the routes below one

pub record AreClassesBelow (r : RoutesValue) (n : ℕ) (cs : List RouteClass) : Type 0 where
  pub rising : AllPairs (λ c d. class_cmp c d ≡ Less) cs
  pub only : All (IsRouteClass r) cs
  pub below : All (λ c. c.route < n) cs
  pub all : (c : RouteClass) → IsRouteClass r c → c.route < n → Contains cs c

pub none_below : (r : RoutesValue) → AreClassesBelow r 0 []
none_below r = record {
  rising = λ i j d low high. absurd (omega (arith, high));
  only = All-nil (IsRouteClass r);
  below = All-nil (λ (c : RouteClass). c.route < 0);
  all = λ c is low. absurd (omega (arith, low));
}

module _ (r : RoutesValue) (n : ℕ) (e : RouteEntry) (at : slice_get r.entries n ≡ Some e) (cs : List RouteClass) (so_far : AreClassesBelow r n cs) (own : List ClassValue) (are : IsClassList (class_words e.tree) own) where
  is-class : (c : ClassValue) → IsListed (class_words e.tree) c → IsRouteClass r (of_route n c)
  is-class c h = record { entry = e; numbered = at; listed = h }

  among-own : (c : RouteClass) → IsRouteClass r c → c.route ≡ n → Contains (map (of_route n) own) c
  among-own c is same =
      let entry : is.entry ≡ e = same_Some is.entry e (sym is.numbered ∙ ap (slice_get r.entries) same ∙ at) in
      let listed : IsListed (class_words e.tree) c.class = subst (λ (x : RouteEntry). IsListed (class_words x.tree) c.class) entry is.listed in
      let whole : of_route n c.class ≡ c = λ i. of_route (sym same i) c.class in
      subst (Contains (map (of_route n) own)) whole (into_map (of_route n) own c.class (are.all c.class listed))

  pub one_more : AreClassesBelow r (n + 1) (cs ++ map (of_route n) own)
  one_more = record {
    rising =
        append_rises (λ c d. class_cmp c d ≡ Less) cs (map (of_route n) own) so_far.rising (own_rises n own are.rising)
        (All-weaker (λ (c : RouteClass). c.route < n) (λ c. All (λ d. class_cmp c d ≡ Less) (map (of_route n) own)) (λ c low. All-map (λ d. class_cmp c d ≡ Less) (of_route n) own (λ k d h. before-route c (of_route n (get_or own k d)) low)) cs so_far.below);
    only = All-append (IsRouteClass r) cs (map (of_route n) own) so_far.only (All-map (IsRouteClass r) (of_route n) own (All-weaker (IsListed (class_words e.tree)) (λ c. IsRouteClass r (of_route n c)) is-class own are.only));
    below =
        All-append (λ (c : RouteClass). c.route < n + 1) cs (map (of_route n) own) (All-weaker (λ (c : RouteClass). c.route < n) (λ c. c.route < n + 1) (λ c low. omega (arith, low)) cs so_far.below)
        (All-map (λ (c : RouteClass). c.route < n + 1) (of_route n) own (λ k d h. omega arith));
    all = λ c is low. elim (cases_lt c.route n) [
      | inl under ↦ Contains-append_left cs (map (of_route n) own) c (so_far.all c is under)
      | inr over ↦ Contains-append_right cs (map (of_route n) own) c (among-own c is (omega (arith, low, over)))
    ];
  }

pub all_below : (r : RoutesValue) (n : ℕ) (cs : List RouteClass) → AreClassesBelow r n cs → length r.entries ≤ n → AreRouteClasses r cs
all_below r n cs h over = record {
  rising = h.rising;
  only = h.only;
  all = λ c is. let low = slice_get_within r.entries c.route is.entry is.numbered in h.all c is (omega (arith, low, over));
}

-- ---- the routes by their numbers

abbrev tree_of : RouteEntry → Tree
tree_of e = e.tree

pub route_at : (t : Tree) (x : Option RouteEntry) → Some t ≡ option_map tree_of x → (e : RouteEntry) × (x ≡ Some e) × (e.tree ≡ t)
route_at t None h = absurd (none-some t (sym h))
route_at t (Some e) h = (e, refl, sym (same_Some t e.tree h))

pub number_within : (r : RoutesValue) (n : ℕ) (t : Tree) → Some t ≡ option_map tree_of (slice_get r.entries n) → n < length r.entries
number_within r n t h = let at = route_at t (slice_get r.entries n) h in slice_get_within r.entries n at.0 at.1

pub no_route_left : (r : RoutesValue) (n : ℕ) → None ≡ option_map tree_of (slice_get r.entries n) → length r.entries ≤ n
no_route_left r n h =
    elim (slice_get_cases r.entries n).1 [
      | inl at ↦ absurd (none-some at.0.tree (h ∙ ap (option_map tree_of) at.2))
      | inr past ↦ past.0
    ]

pub more_classes : (r : RoutesValue) (n : ℕ) (cs : List RouteClass) (t : Tree) → Some t ≡ option_map tree_of (slice_get r.entries n) → AreClassesBelow r n cs → (own : List ClassValue) → IsClassList (class_words t) own → AreClassesBelow r (n + 1) (cs ++ map (of_route n) own)
more_classes r n cs t h so_far own are =
    let at = route_at t (slice_get r.entries n) h in
    one_more r n at.0 at.1 cs so_far own (subst (λ u. IsClassList (class_words u) own) (sym at.2) are)

-- ---- routes are few

some-handles : (t : Tree) → 0 < handles_in t
some-handles (pool p ranges targets) = omega arith
some-handles null = omega arith
some-handles error = omega arith
some-handles (many kind ts) = omega arith
some-handles (warm_up cold warm exptime) = omega arith
some-handles (migrate from to start interval) = omega arith
some-handles (prefix_selector prefixes ts) = omega arith
some-handles (operation_selector ops ts) = omega arith

fewer-than-handles : (es : List RouteEntry) → length es ≤ sum_by (λ (e : RouteEntry). handles_in e.tree) es
fewer-than-handles [] = omega arith
fewer-than-handles (e ∷ es) = omega (arith, some-handles e.tree, fewer-than-handles es, sum_by-cons (λ (x : RouteEntry). handles_in x.tree) e es)

pub few_routes : (r : RoutesValue) → AreWithinLimits r → length r.entries < 2 ^ 63
few_routes r limits = omega (arith, limits.handles, fewer-than-handles r.entries)
