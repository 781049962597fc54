-- Where the handles of a route stand in the JSON value of a configuration: which value, or which part of a text, is
-- child number k of a handle (mcrouter wiki, Config Files and List of Route Handles; child numbers are own).
use Rattle.std.specs.Prelude.{ℕ, zero, suc, ◌==◌, List, [], ◌∷◌, Option, Some, None, drop, take, bytes_eq, codes, if◌then◌else◌, option_and_then, option_map}
use Rattle.std.specs.Result.{result_ok}
use Rattle.serde_json.specs.Data.{Data, null, boolean, number, string, array, object, Members, no_members, member}
use Rattle.serde_json.specs.Find.{as_object, as_str, at, get, get_item}
use Rattle.mcv_config.specs.Routes.{cut, pool_prefix}
use Rattle.mcv_names.specs.Handles.{default_key, handle_named, policies_key}
use Rattle.mcv_names.specs.declared.handle.Handle.{Handle}
use Rattle.mcv_names.specs.declared.handle.Handle.TheVariants as handles
use Rattle.mcv_names.specs.declared.handle.Selector.{Selector}
use Rattle.mcv_places.specs.Pointer.{item_pointer, key_pointer}

-- what names a handle
pub data Name : Type 0 where
  -- a value
  value : Data → Name
  -- a part of a text
  text : List ℕ → Name
  -- one server of the pool of this name, by its index
  server : List ℕ → ℕ → Name

-- what names a handle, and the pointer of the value that it is or lies in
pub record Site : Type 0 where
  pub pointer : List ℕ
  pub name : Name

-- ---- values below a value, each with its pointer

abbrev pub Found : Type 0
Found = List ℕ × Data

abbrev pub under : (key : List ℕ) → Found → Option Found
under key f = option_map (λ d. (key_pointer f.0 key, d)) (get key f.1)

abbrev pub item_under : ℕ → Found → Option Found
item_under i f = option_map (λ d. (item_pointer f.0 i, d)) (at i f.1)

abbrev pub site_of : Found → Site
site_of f = record { pointer = f.0; name = value f.1 }

-- the value under a key, as what names a handle
abbrev pub site_under : (key : List ℕ) → Found → Option Site
site_under key f = option_map site_of (under key f)

-- ---- the children of a handle

-- child k of a handle whose children are this text: a server of a pool, or the one route that the text names
unfoldable pub named_child : (text : List ℕ) → ℕ → Name
named_child t k = if bytes_eq (take 5 t) pool_prefix then server (drop 5 t) k else text t

-- child k of the handle that a text names: its children are what follows its first bar
abbrev pub text_child : List ℕ → ℕ → Option Name
text_child t k = option_map (λ x. named_child x.1 k) (cut t)

-- child k where the value under `children` is a list, a text, or one route
abbrev pub listed_in : ℕ → (pointer : List ℕ) → Data → Option Site
listed_in k pointer null = Some (site_of (pointer, null))
listed_in k pointer (boolean b) = Some (site_of (pointer, boolean b))
listed_in k pointer (number n) = Some (site_of (pointer, number n))
listed_in k pointer (string t) = Some (record { pointer = pointer; name = named_child t k })
listed_in k pointer (array ds) = option_map (λ d. site_of (item_pointer pointer k, d)) (get_item k ds)
listed_in k pointer (object ms) = Some (site_of (pointer, object ms))

abbrev pub listed : ℕ → Found → Option Site
listed k f = listed_in k f.0 f.1

-- the target of shadow k
abbrev pub shadow_target : ℕ → Found → Option Site
shadow_target k f = option_and_then (site_under (codes "target")) (option_and_then (item_under k) (under (codes "shadows") f))

-- member number k of an object, in the byte order of the keys
abbrev pub member_at : ℕ → Members → Option (List ℕ × Data)
member_at k no_members = None
member_at zero (member key d ms) = Some (key, d)
member_at (suc k) (member key d ms) = member_at k ms

-- policy number k of a selector, its name and its route
abbrev pub policy_at : Selector → ℕ → Data → Option (List ℕ × Data)
policy_at selector k d = option_and_then (member_at k) (option_and_then as_object (get (policies_key selector) d))

-- the policy that was found, and else the route for all else
abbrev pub policy_or_default : Selector → Found → Option (List ℕ × Data) → Option Site
policy_or_default selector f None = site_under (default_key selector) f
policy_or_default selector f (Some policy) = Some (site_of (key_pointer (key_pointer f.0 (policies_key selector)) policy.0, policy.1))

-- child k of a handle that is an object
abbrev pub child_under : Handle → ℕ → Found → Option Site
child_under handles.Pool k f = shadow_target k f
child_under handles.Null k f = None
child_under handles.Error k f = None
child_under (handles.Many many) k f = option_and_then (listed k) (under (codes "children") f)
-- cold is 0, warm 1, and cold again 2 for the add
child_under handles.WarmUp k f = site_under (if k == 1 then codes "warm" else codes "cold") f
child_under handles.Migrate k f = site_under (if k == 0 then codes "from" else codes "to") f
child_under (handles.Selector selector) k f = policy_or_default selector f (policy_at selector k f.1)

-- the handle that an object names by its `type`
abbrev pub handle_of : Data → Option Handle
handle_of d = option_and_then (λ t. result_ok (handle_named t)) (option_and_then as_str (get (codes "type") d))

-- child k of a handle that is a value: a text, or an object
abbrev pub value_child : ℕ → Found → Option (List ℕ) → Option Site
value_child k f (Some t) = option_map (λ n. record { pointer = f.0; name = n }) (text_child t k)
value_child k f None = option_and_then (λ h. child_under h k f) (handle_of f.1)

-- child k of what is named at a site; the parts of a text have no pointers of their own
abbrev pub child_of : ℕ → (pointer : List ℕ) → Name → Option Site
child_of k pointer (value d) = value_child k (pointer, d) (as_str d)
child_of k pointer (text t) = option_map (λ n. record { pointer = pointer; name = n }) (text_child t k)
child_of k pointer (server pool i) = None

-- ---- routes

-- the route of a number: the one under `route`, or else one of `routes`
abbrev pub entry_site : ℕ → Data → Option Found → Option Site
entry_site n d (Some f) = Some (site_of f)
entry_site n d None = option_and_then (site_under (codes "route")) (option_and_then (item_under n) (under (codes "routes") ([], d)))

abbrev pub route_site : ℕ → Data → Option Site
route_site n d = entry_site n d (under (codes "route") ([], d))

-- what is at a position below a site
abbrev pub site_below : Option Site → List ℕ → Option Site
site_below s [] = s
site_below s (k ∷ position) = site_below (option_and_then (λ (s : Site). child_of k s.pointer s.name) s) position

-- what is at a position of a route
abbrev pub site_at : Data → (route : ℕ) → (position : List ℕ) → Option Site
site_at d route position = site_below (route_site route d) position
