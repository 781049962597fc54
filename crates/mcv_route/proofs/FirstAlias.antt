-- The first alias of a route selects that route, since no alias comes twice.
use Rattle.std.proofs.Common.{◌≡◌, ℕ, zero, suc, ◌+◌, ◌<◌, ◌≤◌, Bool, true, false, ◌||◌, List, [], ◌∷◌, ◌++◌, length, get_or, slice_get, Some, refl, sym, ap, subst, ◌∙◌, arith, nat_lt, bytes_eq}
use Rattle.std.specs.Prelude.{option_and_then, position}
use Rattle.std.specs.List.{Contains, list_any, position_or_len}
use Rattle.std.specs.Cmp.Lexicographic.{bytes_decides}
use Rattle.std.proofs.lemmas.Bool.Decides.{nat_tests}
use Rattle.std.proofs.lemmas.List.Elements.{All-map}
use Rattle.std.proofs.lemmas.List.Folds.{flat_map-map}
use Rattle.std.proofs.lemmas.List.Sums.{position_or_len_is}
use Rattle.std.proofs.lemmas.Map.Keys.{any_passes_from_place}
use Rattle.std.proofs.lemmas.Option.{none-some, same_Some, option_and_then_some, slice_get_within, slice_get-get_or, get_or_from_slice_get}
use Rattle.mcv_config.specs.Aliases.{IsAlias, alias_limit}
use Rattle.mcv_config.specs.ConfigValue.{AreAliases, EntryValue, IsSound, ConfigValue}
use Rattle.mcv_pools.specs.Table.{IsOneToOne}
use Rattle.mcv_route.specs.Aliases.{AreSelected, all_aliases, first_alias}
use Rattle.mcv_route.specs.NamedRoutes.{routes_named, symbols_named, tree_named}
use Rattle.mcv_route.specs.Places.{is_alias, route_of_prefix}
use Rattle.mcv_route.specs.Routes.{RouteEntry, RoutesValue}

-- ---- the routes of a sound configuration

pub selected-built : (p : ConfigValue) → IsSound p → AreSelected (routes_named p).entries
selected-built p sound =
    let built : EntryValue → RouteEntry = λ e. record { aliases = e.aliases; tree = tree_named (symbols_named p) p.pools e.route } in
    record {
      each = All-map (λ e. AreAliases e.aliases) built p.entries sound.aliases;
      apart = subst IsOneToOne (sym (flat_map-map (λ e. e.aliases) built p.entries)) sound.apart;
    }

-- ---- where the aliases of a route are among those of all routes

get_left : {A : Type 0} (xs ys : List A) (i : ℕ) (x : A) → slice_get xs i ≡ Some x → slice_get (xs ++ ys) i ≡ Some x
get_left [] ys i x h = absurd (none-some x h)
get_left (y ∷ xs) ys zero x h = h
get_left (y ∷ xs) ys (suc i) x h = get_left xs ys i x h

get_right : {A : Type 0} (xs ys : List A) (i : ℕ) → slice_get (xs ++ ys) (length xs + i) ≡ slice_get ys i
get_right [] ys i = let n : 0 + i ≡ i = omega arith in ap (slice_get ys) n
get_right (x ∷ xs) ys i = let n : length (x ∷ xs) + i ≡ suc (length xs + i) = omega arith in ap (slice_get (x ∷ xs ++ ys)) n ∙ get_right xs ys i

-- how many aliases come before those of the route of this number
abbrev before : List RouteEntry → ℕ → ℕ
before [] n = 0
before (e ∷ es) zero = 0
before (e ∷ es) (suc n) = length e.aliases + before es n

placed : (es : List RouteEntry) (n i : ℕ) (e : RouteEntry) (a : List ℕ) → slice_get es n ≡ Some e → slice_get e.aliases i ≡ Some a → slice_get (all_aliases es) (before es n + i) ≡ Some a
placed [] n i e a h at = absurd (none-some e h)
placed (x ∷ es) zero i e a h at =
    let n : 0 + i ≡ i = omega arith in
    ap (slice_get (all_aliases (x ∷ es))) n ∙ get_left x.aliases (all_aliases es) i a (ap (λ y. slice_get y.aliases i) (same_Some x e h) ∙ at)
placed (x ∷ es) (suc n) i e a h at =
    let sum : length x.aliases + before es n + i ≡ length x.aliases + (before es n + i) = omega arith in
    ap (slice_get (all_aliases (x ∷ es))) sum ∙ get_right x.aliases (all_aliases es) (before es n + i) ∙ placed es n i e a h at

earlier : (es : List RouteEntry) (k n : ℕ) (e : RouteEntry) → slice_get es k ≡ Some e → k < n → before es k + length e.aliases ≤ before es n
earlier [] k n e h below = absurd (none-some e h)
earlier (x ∷ es) k zero e h below = absurd (omega arith)
earlier (x ∷ es) zero (suc n) e h below = let same : length x.aliases ≡ length e.aliases = ap (λ y. length y.aliases) (same_Some x e h) in omega arith
earlier (x ∷ es) (suc k) (suc n) e h below = let others : before es k + length e.aliases ≤ before es n = earlier es k n e h (omega arith) in omega arith

-- ---- the first route that has an alias

-- the place of a text among some
found : (texts : List (List ℕ)) (p : List ℕ) → list_any (λ a. bytes_eq a p) texts ≡ true → (i : ℕ) × (slice_get texts i ≡ Some p)
found [] p h = absurd (let f : false ≡ true = h in cc)
found (a ∷ texts) p h = by (bytes_eq a p) refl (found texts p)
  where
    by : (b : Bool) → bytes_eq a p ≡ b → (list_any (λ a. bytes_eq a p) texts ≡ true → (i : ℕ) × (slice_get texts i ≡ Some p)) → (i : ℕ) × (slice_get (a ∷ texts) i ≡ Some p)
    by true is others = (0, ap Some ((bytes_decides a p).0 is))
    by false is others = let other = others (subst (λ b. (b || list_any (λ a. bytes_eq a p) texts) ≡ true) is h) in (suc other.0, other.1)

-- an alias of a route is none of a route before it
not_before : (es : List RouteEntry) (k n i : ℕ) (d e : RouteEntry) (p : List ℕ) → IsOneToOne (all_aliases es) → k < n → slice_get es k ≡ Some d → slice_get es n ≡ Some e → slice_get e.aliases i ≡ Some p
    → is_alias p d ≡ false
not_before es k n i d e p apart below at_k at_n at = by (is_alias p d) refl
  where
    by : (b : Bool) → is_alias p d ≡ b → b ≡ false
    by false is = refl
    by true is =
        let other = found d.aliases p is in
        let within : other.0 < length d.aliases = slice_get_within d.aliases other.0 p other.1 in
        let before_n : before es k + length d.aliases ≤ before es n = earlier es k n d at_k below in
        let same : before es k + other.0 ≡ before es n + i = apart (before es k + other.0) (before es n + i) p (placed es k other.0 d p at_k other.1) (placed es n i e p at_n at) in
        absurd (omega (arith, within, before_n, same))

position_at : {A : Type 0} (p : A → Bool) (xs : List A) (n : ℕ) → n < length xs → position_or_len p xs ≡ n → position p xs ≡ Some n
position_at p xs n within is = let yes : nat_lt n (length xs) ≡ true = grind (arith, nat_tests) in rw (is, yes) refl

selects_at : (es : List RouteEntry) (n i : ℕ) (e : RouteEntry) (p : List ℕ) → IsOneToOne (all_aliases es) → slice_get es n ≡ Some e → slice_get e.aliases i ≡ Some p → route_of_prefix p es ≡ Some n
selects_at es n i e p apart at_n at =
    let within : n < length es = slice_get_within es n e at_n in
    let own : is_alias p e ≡ true = any_passes_from_place (λ a. bytes_eq a p) e.aliases i p at ((bytes_decides p p).1 refl) in
    position_at (is_alias p) es n within
    (position_or_len_is (is_alias p) es n e (omega arith)
    (λ k below. not_before es k n i (get_or es k e) e p apart below (slice_get-get_or es k e (omega arith)) at_n at)
    (λ _. ap (is_alias p) (get_or_from_slice_get es n e e at_n) ∙ own))

-- ---- for those who call `first_alias`

of_entry : (es : List RouteEntry) (n : ℕ) (e : RouteEntry) → AreSelected es → slice_get es n ≡ Some e → AreAliases e.aliases
of_entry es n e selected at = subst (λ e. AreAliases e.aliases) (get_or_from_slice_get es n e e at) (selected.each n e (slice_get_within es n e at))

first_of : (texts : List (List ℕ)) → 0 < length texts → (p : List ℕ) × (slice_get texts 0 ≡ Some p) × Contains texts p
first_of [] some = absurd (omega arith)
first_of (a ∷ texts) some = (a, refl, (0, omega arith, refl))

entry_of : (r : RoutesValue) (n : ℕ) (p : List ℕ) → first_alias r n ≡ Some p → (e : RouteEntry) × (slice_get r.entries n ≡ Some e) × (slice_get e.aliases 0 ≡ Some p)
entry_of r n p h = option_and_then_some (λ e. slice_get e.aliases 0) (slice_get r.entries n) p h (λ e at first. (e, at, first))

-- a route has a first alias, one of its own
pub has-alias : (r : RoutesValue) (n : ℕ) (e : RouteEntry) → AreSelected r.entries → slice_get r.entries n ≡ Some e → (p : List ℕ) × (first_alias r n ≡ Some p) × Contains e.aliases p
has-alias r n e selected at =
    let first = first_of e.aliases (of_entry r.entries n e selected at).some in
    (first.0, ap (option_and_then (λ e. slice_get e.aliases 0)) at ∙ first.1, first.2)

-- it is a routing prefix of the length allowed
pub is-alias : (r : RoutesValue) (n : ℕ) (p : List ℕ) → AreSelected r.entries → first_alias r n ≡ Some p → IsAlias p × (length p ≤ alias_limit)
is-alias r n p selected h =
    let e = entry_of r n p h in
    subst (λ a. IsAlias a × (length a ≤ alias_limit)) (get_or_from_slice_get e.0.aliases 0 p p e.2)
    ((of_entry r.entries n e.0 selected e.1).each 0 p (slice_get_within e.0.aliases 0 p e.2))

-- and it selects the route
pub selects : (r : RoutesValue) (n : ℕ) (p : List ℕ) → AreSelected r.entries → first_alias r n ≡ Some p → route_of_prefix p r.entries ≡ Some n
selects r n p selected h = let e = entry_of r n p h in selects_at r.entries n 0 e.0 p selected.apart e.1 e.2
