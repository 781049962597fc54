-- What is built of a handle from what is built of those below it.
use Rattle.std.proofs.Common.{◌≡◌, ℕ, ◌+◌, ◌<◌, List, [], ◌∷◌, ◌++◌, length, map, take, get_or, Vec, Box, Global, Option, Some, None, refl, ap, sym, subst, ◌∙◌, arith}
use Rattle.std.specs.List.{All}
use Rattle.std.specs.Prelude.{slice_index}
use Rattle.std.specs.declared.sync.Arc.{Arc}
use Rattle.std.proofs.lemmas.List.{map-append, take_more, get_or-map, length-map}
use Rattle.std.proofs.lemmas.List.Elements.{All-nil, All-cons, All-head}
use Rattle.mcv_base.specs.declared.request.ServerId.{ServerId}
use Rattle.mcv_names.specs.declared.handle.Many.{Many as Kind}
use Rattle.mcv_config.specs.ConfigValue.{Named, named_of, policy_of, prefix_of, shadow_of, nameds_of, IsSoundRoute, AreSoundRoutes}
use Rattle.mcv_config.specs.ConfigValue as config
use Rattle.mcv_config.specs.declared.config.NamedRoute as asked
use Rattle.mcv_config.specs.declared.config.NamedRoute.{NamedRoute}
use Rattle.mcv_config.specs.declared.config.NamedPolicy.{NamedPolicy, out-NamedPolicy}
use Rattle.mcv_config.specs.declared.config.NamedPrefix.{NamedPrefix, out-NamedPrefix}
use Rattle.mcv_config.specs.declared.config.NamedShadow.{NamedShadow, out-NamedShadow}
use Rattle.mcv_pools.specs.declared.symbol.HashFunc.{HashFunc}
use Rattle.mcv_pools.specs.Symbol.{SymbolValue, same_symbol}
use Rattle.mcv_pools.specs.Table.{with_entry}
use Rattle.mcv_pools.specs.declared.symbol.HashFunc.TheVariants.{Ch3}
use Rattle.mcv_route.specs.NamedRoutes.{pool_at, server_at, symbol_of, pool_named}
use Rattle.mcv_route.specs.View.{view, operation_view, prefix_view, shadow_view, pool_view}
use Rattle.mcv_route.specs.Walk.{IsBuilt, last_named, list_view}
use Rattle.mcv_route.specs.Tree.{Tree, pool, warm_up, migrate}
use Rattle.mcv_route.specs.declared.tree.Leaf.{Leaf}
use Rattle.mcv_route.specs.declared.tree.Route.{Route, Pool, Null, Error, Many, WarmUp, Migrate, PrefixSelector, OperationSelector}
use Rattle.mcv_route.specs.declared.tree.OperationPolicy.{OperationPolicy}
use Rattle.mcv_route.specs.declared.tree.PrefixPolicy.{PrefixPolicy}
use Rattle.mcv_route.specs.declared.tree.Shadow.{Shadow}
use Rattle.mcv_route.proofs.NamedHandles.{children_of, names_of, policies_of, policy_of-out, prefix_of-out, shadow_of-out, prefix_routes_of, named_of-Pool, named_of-Server, named_of-Null, named_of-Error, named_of-Many, named_of-WarmUp, named_of-Migrate, named_of-PrefixSelector, named_of-OperationSelector}
use Rattle.mcv_route.proofs.NamedHandles.{ranges_of as asked_ranges, targets_of as asked_targets, prefixes_of as asked_prefixes}
use Rattle.mcv_route.proofs.Views.{operations_of, prefixes_of, ranges_of, targets_of, last_view, view-Pool, view-Null, view-Error, view-Many, view-WarmUp, view-Migrate, view-PrefixSelector, view-OperationSelector}
use Rattle.mcv_route.proofs.Numbers.{built-append, built-none, built-pool, built-server, built-many, built-warm_up, built-migrate, built-prefix_selector, built-operation_selector}

-- ---- lists

-- one more element of a list, mapped
pub map-more : {A B : Type 0} (f : A → B) (xs : List A) (i : ℕ) (x : A) → i < length xs → x ≡ get_or xs i x → map f (take (i + 1) xs) ≡ map f (take i xs) ++ f x ∷ []
map-more f xs i x h is = ap (map f) (take_more xs i x h ∙ ap (λ y. take i xs ++ y ∷ []) (sym is)) ∙ map-append f (take i xs) (x ∷ [])

-- a fact of each element, after a map, holds of the element at a place
pub All-at : {A B : Type 0} (P : B → Type 0) (f : A → B) (xs : List A) (i : ℕ) (x : A) → All P (map f xs) → i < length xs → x ≡ get_or xs i x → P (f x)
All-at P f xs i x all h is =
    let inside : i < length (map f xs) = omega (arith, length-map xs f) in
    let place : get_or (map f xs) i (f x) ≡ f x = get_or-map f xs i x (f x) h ∙ ap f (sym is) in
    subst P place (all i (f x) inside)

pub All-unmap : {A B : Type 0} (P : B → Type 0) (f : A → B) (xs : List A) → All P (map f xs) → All (λ x. P (f x)) xs
All-unmap P f xs all = λ k d h.
    let inside : k < length (map f xs) = omega (arith, length-map xs f) in
    subst P (get_or-map f xs k d (f d) h) (all k (f d) inside)

-- ---- what is sound

pub all-sound : (pools : List (List ℕ)) (ns : List Named) → AreSoundRoutes pools (nameds_of ns) → All (IsSoundRoute pools) ns
all-sound pools [] h = All-nil (IsSoundRoute pools)
all-sound pools (n ∷ ns) h = All-cons (IsSoundRoute pools) n ns h.0 (all-sound pools ns h.1)

AreSoundRoutes-append : (pools : List (List ℕ)) (ns ms : List Named) → AreSoundRoutes pools (nameds_of (ns ++ ms)) → AreSoundRoutes pools (nameds_of ns) × AreSoundRoutes pools (nameds_of ms)
AreSoundRoutes-append pools [] ms h = (tt, h)
AreSoundRoutes-append pools (n ∷ ns) ms h = let more = AreSoundRoutes-append pools ns ms h.1 in ((h.0, more.0), more.1)

both-sound : (pools : List (List ℕ)) (ns ms : List Named) → AreSoundRoutes pools (nameds_of (ns ++ ms)) → All (IsSoundRoute pools) ns × All (IsSoundRoute pools) ms
both-sound pools ns ms h = let parts = AreSoundRoutes-append pools ns ms h in (all-sound pools ns parts.0, all-sound pools ms parts.1)

pub sound-pool : (pools : List (List ℕ)) (route : NamedRoute) (k : ℕ) (func : HashFunc) (salt : Vec ℕ Global) (v : Vec NamedShadow Global) → route ≡ asked.Pool k func salt v → IsSoundRoute pools (named_of route) → k < length pools
sound-pool pools route k func salt v is h = let both = subst (IsSoundRoute pools) (ap named_of is ∙ named_of-Pool k func salt v) h in both.0

pub sound-shadows : (pools : List (List ℕ)) (route : NamedRoute) (k : ℕ) (func : HashFunc) (salt : Vec ℕ Global) (v : Vec NamedShadow Global) → route ≡ asked.Pool k func salt v → IsSoundRoute pools (named_of route)
    → All (λ s. IsSoundRoute pools s.1) (map shadow_of v.items)
sound-shadows pools route k func salt v is h =
    let both = subst (IsSoundRoute pools) (ap named_of is ∙ named_of-Pool k func salt v) h in
    All-unmap (IsSoundRoute pools) (λ s. s.1) (map shadow_of v.items) (all-sound pools (asked_targets v.items) both.1)

pub sound-server : (pools : List (List ℕ)) (route : NamedRoute) (k n : ℕ) → route ≡ asked.Server k n → IsSoundRoute pools (named_of route) → (k < length pools) × (n < length (pool_at pools k))
sound-server pools route k n is h = subst (IsSoundRoute pools) (ap named_of is ∙ named_of-Server k n) h

pub sound-Many : (pools : List (List ℕ)) (route : NamedRoute) (kind : Kind) (v : Vec NamedRoute Global) → route ≡ asked.Many kind v → IsSoundRoute pools (named_of route) → All (IsSoundRoute pools) (map named_of v.items)
sound-Many pools route kind v is h = let both = subst (IsSoundRoute pools) (ap named_of is ∙ named_of-Many kind v) h in all-sound pools (map named_of v.items) both.1

pub sound-WarmUp : (pools : List (List ℕ)) (route : NamedRoute) (cold warm : Box NamedRoute Global) (exptime : ℕ) → route ≡ asked.WarmUp cold warm exptime → IsSoundRoute pools (named_of route)
    → IsSoundRoute pools (named_of cold.value) × IsSoundRoute pools (named_of warm.value)
sound-WarmUp pools route cold warm exptime is h = subst (IsSoundRoute pools) (ap named_of is ∙ named_of-WarmUp cold warm exptime) h

pub sound-Migrate : (pools : List (List ℕ)) (route : NamedRoute) (from to : Box NamedRoute Global) (start interval : ℕ) → route ≡ asked.Migrate from to start interval → IsSoundRoute pools (named_of route)
    → IsSoundRoute pools (named_of from.value) × IsSoundRoute pools (named_of to.value)
sound-Migrate pools route from to start interval is h = subst (IsSoundRoute pools) (ap named_of is ∙ named_of-Migrate from to start interval) h

-- the policies, and what comes after them
sound-PrefixSelector : (pools : List (List ℕ)) (route : NamedRoute) (v : Vec NamedPrefix Global) (d : Option (Box NamedRoute Global)) → route ≡ asked.PrefixSelector v d → IsSoundRoute pools (named_of route)
    → All (IsSoundRoute pools) (prefix_routes_of v.items) × All (IsSoundRoute pools) (last_named d)
sound-PrefixSelector pools route v d is h = both-sound pools (prefix_routes_of v.items) (last_named d) (subst (IsSoundRoute pools) (ap named_of is ∙ named_of-PrefixSelector v d) h)

pub sound-prefixes : (pools : List (List ℕ)) (route : NamedRoute) (v : Vec NamedPrefix Global) (d : Option (Box NamedRoute Global)) → route ≡ asked.PrefixSelector v d → IsSoundRoute pools (named_of route)
    → All (λ p. IsSoundRoute pools p.1) (map prefix_of v.items)
sound-prefixes pools route v d is h = All-unmap (IsSoundRoute pools) (λ p. p.1) (map prefix_of v.items) (sound-PrefixSelector pools route v d is h).0

pub sound-wildcard : (pools : List (List ℕ)) (route : NamedRoute) (v : Vec NamedPrefix Global) (d : Option (Box NamedRoute Global)) → route ≡ asked.PrefixSelector v d → IsSoundRoute pools (named_of route)
    → All (IsSoundRoute pools) (last_named d)
sound-wildcard pools route v d is h = (sound-PrefixSelector pools route v d is h).1

sound-OperationSelector : (pools : List (List ℕ)) (route : NamedRoute) (v : Vec NamedPolicy Global) (d : Option (Box NamedRoute Global)) → route ≡ asked.OperationSelector v d → IsSoundRoute pools (named_of route)
    → All (IsSoundRoute pools) (policies_of v.items) × All (IsSoundRoute pools) (last_named d)
sound-OperationSelector pools route v d is h = both-sound pools (policies_of v.items) (last_named d) (subst (IsSoundRoute pools) (ap named_of is ∙ named_of-OperationSelector v d) h)

pub sound-policies : (pools : List (List ℕ)) (route : NamedRoute) (v : Vec NamedPolicy Global) (d : Option (Box NamedRoute Global)) → route ≡ asked.OperationSelector v d → IsSoundRoute pools (named_of route)
    → All (λ p. IsSoundRoute pools p.1) (map policy_of v.items)
sound-policies pools route v d is h = All-unmap (IsSoundRoute pools) (λ p. p.1) (map policy_of v.items) (sound-OperationSelector pools route v d is h).0

pub sound-default : (pools : List (List ℕ)) (route : NamedRoute) (v : Vec NamedPolicy Global) (d : Option (Box NamedRoute Global)) → route ≡ asked.OperationSelector v d → IsSoundRoute pools (named_of route)
    → All (IsSoundRoute pools) (last_named d)
sound-default pools route v d is h = (sound-OperationSelector pools route v d is h).1

pub sound-last : (pools : List (List ℕ)) (d : Option (Box NamedRoute Global)) (b : Box NamedRoute Global) → d ≡ Some b → All (IsSoundRoute pools) (last_named d) → IsSoundRoute pools (named_of b.value)
sound-last pools d b some h =
    let P : Option (Box NamedRoute Global) → Type 0 = λ o. All (IsSoundRoute pools) (last_named o) in
    All-head (IsSoundRoute pools) (named_of b.value) [] (subst P some h)

pub sound-shadow : (pools : List (List ℕ)) (shadows : List NamedShadow) (i : ℕ) (s : NamedShadow) → All (λ q. IsSoundRoute pools q.1) (map shadow_of shadows) → i < length shadows → s ≡ get_or shadows i s
    → IsSoundRoute pools (named_of (out-NamedShadow s).target)
sound-shadow pools shadows i s all h is = subst (IsSoundRoute pools) (ap (λ q. q.1) (shadow_of-out s)) (All-at (λ q. IsSoundRoute pools q.1) shadow_of shadows i s all h is)

pub sound-prefix : (pools : List (List ℕ)) (policies : List NamedPrefix) (i : ℕ) (p : NamedPrefix) → All (λ q. IsSoundRoute pools q.1) (map prefix_of policies) → i < length policies → p ≡ get_or policies i p
    → IsSoundRoute pools (named_of (out-NamedPrefix p).route)
sound-prefix pools policies i p all h is = subst (IsSoundRoute pools) (ap (λ q. q.1) (prefix_of-out p)) (All-at (λ q. IsSoundRoute pools q.1) prefix_of policies i p all h is)

pub sound-policy : (pools : List (List ℕ)) (policies : List NamedPolicy) (i : ℕ) (p : NamedPolicy) → All (λ q. IsSoundRoute pools q.1) (map policy_of policies) → i < length policies → p ≡ get_or policies i p
    → IsSoundRoute pools (named_of (out-NamedPolicy p).route)
sound-policy pools policies i p all h is = subst (IsSoundRoute pools) (ap (λ q. q.1) (policy_of-out p)) (All-at (λ q. IsSoundRoute pools q.1) policy_of policies i p all h is)

-- ---- PoolRoute

-- the pool at a place is what the shared list there shows
pool_at-list : (lists : List (Arc (Vec ServerId Global) Global)) (i : ℕ) (item : Arc (Vec ServerId Global) Global) → i < length lists → item ≡ get_or lists i item → pool_at (map list_view lists) i ≡ list_view item
pool_at-list lists i item h is = get_or-map list_view lists i item [] h ∙ ap list_view (sym is)

pub list-at : (lists : List (Arc (Vec ServerId Global) Global)) (i : ℕ) (item servers : Arc (Vec ServerId Global) Global) → i < length lists → item ≡ get_or lists i item → servers.value ≡ item.value
    → list_view servers ≡ pool_at (map list_view lists) i
list-at lists i item servers h is same = ap (λ v. map (λ s. s.0) v.items) same ∙ sym (pool_at-list lists i item h is)

pub length-server : (lists : List (Arc (Vec ServerId Global) Global)) (i k : ℕ) (item : Arc (Vec ServerId Global) Global) → i < length lists → item ≡ get_or lists i item
    → k < length (pool_at (map list_view lists) i) → k < length item.value.items
length-server lists i k item h is k-in =
    omega (arith, ap length (pool_at-list lists i item h is), length-map item.value.items (λ s. s.0), k-in)

pub length-pool : (lists : List (Arc (Vec ServerId Global) Global)) (i : ℕ) (item servers : Arc (Vec ServerId Global) Global) → All (λ s. 0 < length s) (map list_view lists)
    → i < length lists → item ≡ get_or lists i item → servers.value ≡ item.value → 0 < length (list_view servers)
length-pool lists i item servers all h is same =
    let filled : 0 < length (list_view item) = All-at (λ s. 0 < length s) list_view lists i item all h is in
    omega (arith, filled, ap (λ v. length (map (λ s. s.0) v.items)) same)

-- a list of one server of a pool
pub server-at : (lists : List (Arc (Vec ServerId Global) Global)) (i k : ℕ) (item servers : Arc (Vec ServerId Global) Global) (server : ServerId)
    → i < length lists → item ≡ get_or lists i item → k < length item.value.items → server ≡ get_or item.value.items k server → servers.value.items ≡ server ∷ []
    → list_view servers ≡ server_at (map list_view lists) i k
server-at lists i k item servers server h item-is k-in server-is one =
    let number : ServerId → ℕ = λ s. s.0 in
    let place : slice_index (pool_at (map list_view lists) i) k ≡ server.0 =
    ap (λ xs. slice_index xs k) (pool_at-list lists i item h item-is) ∙ get_or-map number item.value.items k server 0 k-in ∙ ap number (sym server-is) in
    ap (map number) one ∙ ap (λ n. n ∷ []) (sym place)

-- ---- handles

-- what is built under other names
built-as : (pools : List (List ℕ)) (t u : List SymbolValue) (n m : Named) (x y : Tree) → n ≡ m → x ≡ y → IsBuilt pools t (m ∷ []) u (y ∷ []) → IsBuilt pools t (n ∷ []) u (x ∷ [])
built-as pools t u n m x y e f b =
    let P : Named → Tree → Type 0 = λ k z. IsBuilt pools t (k ∷ []) u (z ∷ []) in
    subst (λ k. P k x) (sym e) (subst (P m) (sym f) b)

-- with the targets of the shadows built after the leaf
pub built-Pool : (pools : List (List ℕ)) (route : NamedRoute) (k : ℕ) (func : HashFunc) (salt : Vec ℕ Global) (v : Vec NamedShadow Global) (salted : List ℕ) (shadows : List NamedShadow) (t u x : List SymbolValue) (leaf : Leaf) (w : Vec Shadow Global)
    → route ≡ asked.Pool k func salt v → salted ≡ salt.items → shadows ≡ v.items
    → u ≡ with_entry same_symbol t (symbol_of func salted (pool_at pools k)) → pool_view leaf ≡ pool_named u func salted (pool_at pools k)
    → ranges_of w.items ≡ asked_ranges shadows → IsBuilt pools u (asked_targets shadows) x (map (λ s. s.1) (map shadow_view w.items))
    → IsBuilt pools t (named_of route ∷ []) x (view (Pool leaf w) ∷ [])
built-Pool pools route k func salt v salted shadows t u x leaf w is salt-is same table leaf-is ranges b =
    let own : named_of route ≡ config.pool k func salted (asked_ranges shadows) (nameds_of (asked_targets shadows)) =
    ap named_of is ∙ named_of-Pool k func salt v ∙ (λ i. config.pool k func (sym salt-is i) (asked_ranges (sym same i)) (nameds_of (asked_targets (sym same i)))) in
    let named : named_of route ≡ config.pool k func salted (ranges_of w.items) (nameds_of (asked_targets shadows)) =
    own ∙ ap (λ r. config.pool k func salted r (nameds_of (asked_targets shadows))) (sym ranges) in
    built-as pools t x _ _ _ _ named (view-Pool leaf w)
    (built-pool pools t u x k func salted (ranges_of w.items) (pool_view leaf) (asked_targets shadows) (map (λ s. s.1) (map shadow_view w.items)) table leaf-is b)

pub built-Server : (pools : List (List ℕ)) (route : NamedRoute) (k n : ℕ) (t u : List SymbolValue) (leaf : Leaf) (w : Vec Shadow Global)
    → route ≡ asked.Server k n → w.items ≡ []
    → u ≡ with_entry same_symbol t (symbol_of Ch3 [] (server_at pools k n)) → pool_view leaf ≡ pool_named u Ch3 [] (server_at pools k n)
    → IsBuilt pools t (named_of route ∷ []) u (view (Pool leaf w) ∷ [])
built-Server pools route k n t u leaf w is bare table leaf-is =
    let P : List Shadow → Type 0 = λ ss. view (Pool leaf w) ≡ pool (pool_view leaf) (ranges_of ss) (targets_of ss) in
    built-as pools t u _ _ _ _ (ap named_of is ∙ named_of-Server k n) (subst P bare (view-Pool leaf w)) (built-server pools t u k n (pool_view leaf) table leaf-is)

pub built-Null : (pools : List (List ℕ)) (route : NamedRoute) (t : List SymbolValue) → route ≡ asked.Null → IsBuilt pools t (named_of route ∷ []) t (view Null ∷ [])
built-Null pools route t is = built-as pools t t _ _ _ _ (ap named_of is ∙ named_of-Null) view-Null (record { table = refl; trees_are = refl })

pub built-Error : (pools : List (List ℕ)) (route : NamedRoute) (t : List SymbolValue) → route ≡ asked.Error → IsBuilt pools t (named_of route ∷ []) t (view Error ∷ [])
built-Error pools route t is = built-as pools t t _ _ _ _ (ap named_of is ∙ named_of-Error) view-Error (record { table = refl; trees_are = refl })

pub child-more : (pools : List (List ℕ)) (t u v : List SymbolValue) (children : List NamedRoute) (i : ℕ) (child : NamedRoute) (routes : List Route) (r : Route)
    → i < length children → child ≡ get_or children i child
    → IsBuilt pools t (map named_of (take i children)) u (map view routes) → IsBuilt pools u (named_of child ∷ []) v (view r ∷ [])
    → IsBuilt pools t (map named_of (take (i + 1) children)) v (map view (routes ++ r ∷ []))
child-more pools t u v children i child routes r h is before one =
    rw (map-more named_of children i child h is, map-append view routes (r ∷ []))
    (built-append pools t u v (map named_of (take i children)) (named_of child ∷ []) (map view routes) (view r ∷ []) before one)

pub built-Many : (pools : List (List ℕ)) (route : NamedRoute) (kind : Kind) (v : Vec NamedRoute Global) (children : List NamedRoute) (t u : List SymbolValue) (w : Vec Route Global)
    → route ≡ asked.Many kind v → children ≡ v.items → IsBuilt pools t (map named_of children) u (map view w.items)
    → IsBuilt pools t (named_of route ∷ []) u (view (Many kind w) ∷ [])
built-Many pools route kind v children t u w is same b =
    built-as pools t u _ _ _ _ (ap named_of is ∙ named_of-Many kind v ∙ ap (λ xs. config.many kind (children_of xs)) (sym same)) (view-Many kind w) (built-many kind pools t u (map named_of children) (map view w.items) b)

pub built-WarmUp : (pools : List (List ℕ)) (route : NamedRoute) (cold warm : Box NamedRoute Global) (exptime : ℕ) (t u v : List SymbolValue) (a b : Box Route Global)
    → route ≡ asked.WarmUp cold warm exptime
    → IsBuilt pools t (named_of cold.value ∷ []) u (view a.value ∷ []) → IsBuilt pools u (named_of warm.value ∷ []) v (view b.value ∷ [])
    → IsBuilt pools t (named_of route ∷ []) v (view (WarmUp a b exptime) ∷ [])
built-WarmUp pools route cold warm exptime t u v a b is x y =
    built-as pools t v _ _ _ _ (ap named_of is ∙ named_of-WarmUp cold warm exptime) (view-WarmUp a b exptime)
    (built-warm_up exptime pools t u v (named_of cold.value) (named_of warm.value) (view a.value) (view b.value) x y)

pub built-Migrate : (pools : List (List ℕ)) (route : NamedRoute) (from to : Box NamedRoute Global) (start interval : ℕ) (t u v : List SymbolValue) (a b : Box Route Global)
    → route ≡ asked.Migrate from to start interval
    → IsBuilt pools t (named_of from.value ∷ []) u (view a.value ∷ []) → IsBuilt pools u (named_of to.value ∷ []) v (view b.value ∷ [])
    → IsBuilt pools t (named_of route ∷ []) v (view (Migrate a b start interval) ∷ [])
built-Migrate pools route from to start interval t u v a b is x y =
    built-as pools t v _ _ _ _ (ap named_of is ∙ named_of-Migrate from to start interval) (view-Migrate a b start interval)
    (built-migrate start interval pools t u v (named_of from.value) (named_of to.value) (view a.value) (view b.value) x y)

-- ---- shadows and policies

-- one more item, of which a walk makes what is beside a route, and the route
pub item-more : {N M A : Type 0} (pools : List (List ℕ)) (t u v : List SymbolValue) (given : N → A × Named) (made : M → A × Tree) (items : List N) (i : ℕ) (item : N) (built : List M) (q : M) (beside : A) (n : Named) (x : Tree)
    → i < length items → item ≡ get_or items i item → given item ≡ (beside, n) → made q ≡ (beside, x)
    → (map (λ o. o.0) (map made built) ≡ map (λ o. o.0) (map given (take i items))) × IsBuilt pools t (map (λ o. o.1) (map given (take i items))) u (map (λ o. o.1) (map made built))
    → IsBuilt pools u (n ∷ []) v (x ∷ [])
    → (map (λ o. o.0) (map made (built ++ q ∷ [])) ≡ map (λ o. o.0) (map given (take (i + 1) items))) × IsBuilt pools t (map (λ o. o.1) (map given (take (i + 1) items))) v (map (λ o. o.1) (map made (built ++ q ∷ [])))
item-more pools t u v given made items i item built q beside n x h is asked-is made-is before one =
    let seen : map made (built ++ q ∷ []) ≡ map made built ++ (beside, x) ∷ [] = map-append made built (q ∷ []) ∙ ap (λ y. map made built ++ y ∷ []) made-is in
    let named : map given (take (i + 1) items) ≡ map given (take i items) ++ (beside, n) ∷ [] = map-more given items i item h is ∙ ap (λ y. map given (take i items) ++ y ∷ []) asked-is in (
      ap (map (λ o. o.0)) seen ∙ map-append (λ o. o.0) (map made built) ((beside, x) ∷ []) ∙ ap (λ y. y ++ beside ∷ []) before.0
          ∙ sym (ap (map (λ o. o.0)) named ∙ map-append (λ o. o.0) (map given (take i items)) ((beside, n) ∷ [])),
      rw (ap (map (λ o. o.1)) seen ∙ map-append (λ o. o.1) (map made built) ((beside, x) ∷ []), ap (map (λ o. o.1)) named ∙ map-append (λ o. o.1) (map given (take i items)) ((beside, n) ∷ []))
          (built-append pools t u v (map (λ o. o.1) (map given (take i items))) (n ∷ []) (map (λ o. o.1) (map made built)) (x ∷ []) before.1 one),
    )

-- with the routes of the policies built, and then what comes after them
pub built-PrefixSelector : (pools : List (List ℕ)) (route : NamedRoute) (v : Vec NamedPrefix Global) (d : Option (Box NamedRoute Global)) (policies : List NamedPrefix) (t u x : List SymbolValue)
    (w : Vec PrefixPolicy Global) (e : Option (Box Route Global))
    → route ≡ asked.PrefixSelector v d → policies ≡ v.items
    → prefixes_of w.items ≡ asked_prefixes policies → IsBuilt pools t (prefix_routes_of policies) u (map (λ o. o.1) (map prefix_view w.items))
    → IsBuilt pools u (last_named d) x (last_view e)
    → IsBuilt pools t (named_of route ∷ []) x (view (PrefixSelector w e) ∷ [])
built-PrefixSelector pools route v d policies t u x w e is same prefixes before last =
    let own : named_of route ≡ config.prefix_selector (asked_prefixes policies) (nameds_of (prefix_routes_of policies ++ last_named d)) =
    ap named_of is ∙ named_of-PrefixSelector v d ∙ ap (λ ps. config.prefix_selector (asked_prefixes ps) (nameds_of (prefix_routes_of ps ++ last_named d))) (sym same) in
    let named : named_of route ≡ config.prefix_selector (prefixes_of w.items) (nameds_of (prefix_routes_of policies ++ last_named d)) =
    own ∙ ap (λ o. config.prefix_selector o (nameds_of (prefix_routes_of policies ++ last_named d))) (sym prefixes) in
    built-as pools t x _ _ _ _ named (view-PrefixSelector w e)
    (built-prefix_selector (prefixes_of w.items) pools t x (prefix_routes_of policies ++ last_named d) (map (λ o. o.1) (map prefix_view w.items) ++ last_view e)
    (built-append pools t u x (prefix_routes_of policies) (last_named d) (map (λ o. o.1) (map prefix_view w.items)) (last_view e) before last))

pub built-OperationSelector : (pools : List (List ℕ)) (route : NamedRoute) (v : Vec NamedPolicy Global) (d : Option (Box NamedRoute Global)) (policies : List NamedPolicy) (t u x : List SymbolValue)
    (w : Vec OperationPolicy Global) (e : Option (Box Route Global))
    → route ≡ asked.OperationSelector v d → policies ≡ v.items
    → operations_of w.items ≡ names_of policies → IsBuilt pools t (policies_of policies) u (map (λ o. o.1) (map operation_view w.items))
    → IsBuilt pools u (last_named d) x (last_view e)
    → IsBuilt pools t (named_of route ∷ []) x (view (OperationSelector w e) ∷ [])
built-OperationSelector pools route v d policies t u x w e is same ops before last =
    let own : named_of route ≡ config.operation_selector (names_of policies) (nameds_of (policies_of policies ++ last_named d)) =
    ap named_of is ∙ named_of-OperationSelector v d ∙ ap (λ ps. config.operation_selector (names_of ps) (nameds_of (policies_of ps ++ last_named d))) (sym same) in
    let named : named_of route ≡ config.operation_selector (operations_of w.items) (nameds_of (policies_of policies ++ last_named d)) =
    own ∙ ap (λ o. config.operation_selector o (nameds_of (policies_of policies ++ last_named d))) (sym ops) in
    built-as pools t x _ _ _ _ named (view-OperationSelector w e)
    (built-operation_selector (operations_of w.items) pools t x (policies_of policies ++ last_named d) (map (λ o. o.1) (map operation_view w.items) ++ last_view e)
    (built-append pools t u x (policies_of policies) (last_named d) (map (λ o. o.1) (map operation_view w.items)) (last_view e) before last))

pub built-no_last : (pools : List (List ℕ)) (u x : List SymbolValue) (d : Option (Box NamedRoute Global)) (e : Option (Box Route Global)) → d ≡ None → e ≡ None → x ≡ u → IsBuilt pools u (last_named d) x (last_view e)
built-no_last pools u x d e d-is e-is same = rw (d-is, e-is, same) (built-none pools u)
