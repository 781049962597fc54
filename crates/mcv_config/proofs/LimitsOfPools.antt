-- The pools that are read, and the table of their servers, keep to their limits.
use Rattle.std.proofs.Common.{◌≡◌, ℕ, suc, ◌+◌, ◌≤◌, ◌==◌, ◌&&◌, not, nat_lt, Bool, true, false, cond, List, [], ◌∷◌, ◌++◌, length, Option, Some, None, bytes_eq, codes, refl, ap, arith, length-append}
use Rattle.std.proofs.lemmas.Bool.{eqb-false, ltb-false}
use Rattle.serde_json.specs.Data.{Data, Items, Members, no_members, member}
use Rattle.serde_json.specs.Find.{get, as_str, as_array, as_object}
use Rattle.mcv_pools.specs.Table.{is_in, server_limit}
use Rattle.mcv_names.specs.declared.handle.Object.TheVariants as objects
use Rattle.mcv_names.specs.Handles.{key_fault, keys_read}
use Rattle.mcv_names.specs.Lists.{each, each_member, items_list, required, text_read}
use Rattle.mcv_names.specs.Path.{key_step, item_step}
use Rattle.mcv_names.proofs.ReadFacts.{Holds, holds_bind, holds_then, holds_also, holds_if}
use Rattle.mcv_config.specs.Pools.{Pools, Table, entered, is_full, listed_servers, name_read, pool_limit, pool_of_members, pool_read, pools_of_members, pools_read, server_read, server_text, servers_of_list, servers_read}
use Rattle.mcv_config.proofs.HandleRoom.{holds_more, AreSmall, IsFew, IsSmallPool}

-- ---- servers

abbrev IsFewRead : ℕ × Table → Type 0
IsFewRead x = IsFew x.1

not_full : (a : Bool) → (a && true) ≡ false → a ≡ false
not_full true e = e
not_full false e = refl

entered_few : (table : Table) (text : List ℕ) → IsFew table → is_full table text ≡ false → IsFewRead (entered table text)
entered_few table text few e = by (is_in bytes_eq table text) e
  where
    by : (b : Bool) → (length table == server_limit && not b) ≡ false → length (cond b table (table ++ text ∷ [])) ≤ server_limit
    by true e = few
    by false e =
        let room : length table ≡ server_limit → ⊥ = eqb-false (length table) server_limit (not_full (length table == server_limit) e) in
        omega (arith, few, room, length-append table (text ∷ []))

server_few : (list : List ℕ) (table : Table) (path : List ℕ) (d : Data) → IsFew table → Holds IsFewRead (server_read list table path d)
unfolding server_read
server_few list table path d few =
    holds_then IsFewRead (text_read (as_str d) path) _
    (λ text. holds_then IsFewRead (server_text path text) _
    (λ server. holds_if IsFewRead (is_full table server) _ _ (λ _. tt) (λ e. entered_few table server few e)))

-- so many servers were read
abbrev AreRead : List Data → List ℕ × Table → Type 0
AreRead ds x = (length x.0 ≡ length ds) × IsFew x.1

each_few : (list : List ℕ) (table : Table) (path : List ℕ) (i : ℕ) (ds : List Data) → IsFew table → Holds (AreRead ds) (each (server_read list) table path i ds)
unfolding each
each_few list table path i [] few = (refl, few)
each_few list table path i (d ∷ ds) few =
    holds_bind IsFewRead (AreRead (d ∷ ds)) (server_read list table (item_step path i) d) _ (server_few list table (item_step path i) d few)
    (λ x h. holds_bind (AreRead ds) (AreRead (d ∷ ds)) (each (server_read list) x.1 path (i + 1) ds) _ (each_few list x.1 path (i + 1) ds h)
    (λ xs k. (ap suc k.0, k.1)))

-- ---- pools

abbrev pub IsSmallRead : List ℕ × Table → Type 0
IsSmallRead x = IsSmallPool x.0 × IsFew x.1

listed_small : (table : Table) (path : List ℕ) (ds : List Data) → IsFew table → Holds IsSmallRead (listed_servers table path ds)
unfolding listed_servers
listed_small table path [] few = tt
listed_small table path (d ∷ ds) few =
    holds_if IsSmallRead (nat_lt pool_limit (length (d ∷ ds))) _ _ (λ _. tt)
    (λ e. holds_more (AreRead (d ∷ ds)) IsSmallRead (each (server_read path) table path 0 (d ∷ ds))
    (λ x h. let short : length (d ∷ ds) ≤ pool_limit = ltb-false pool_limit (length (d ∷ ds)) e in (omega (arith, h.0, short), h.1))
    (each_few path table path 0 (d ∷ ds) few))

of_list_small : (table : Table) (path : List ℕ) (o : Option Items) → IsFew table → Holds IsSmallRead (servers_of_list table path o)
of_list_small table path None few = tt
of_list_small table path (Some ds) few = listed_small table path (items_list ds) few

servers_small : (table : Table) (path : List ℕ) (d : Data) → IsFew table → Holds IsSmallRead (servers_read table path d)
unfolding servers_read
servers_small table path d few =
    holds_then IsSmallRead (required (get (codes "servers") d) path) _ (λ s. of_list_small table (key_step path (codes "servers")) (as_array s) few)

of_members_small : (table : Table) (path : List ℕ) (d : Data) (o : Option Members) → IsFew table → Holds IsSmallRead (pool_of_members table path d o)
of_members_small table path d None few = tt
of_members_small table path d (Some ms) few =
    holds_also IsSmallRead (keys_read (key_fault objects.Pool) path ms) _
    (holds_also IsSmallRead (name_read (key_step path (codes "name")) (get (codes "name") d)) (servers_read table path d) (servers_small table path d few))

pub pool_small : (table : Table) (path name : List ℕ) (d : Data) → IsFew table → Holds IsSmallRead (pool_read table path name d)
unfolding pool_read
pool_small table path name d few = of_members_small table path d (as_object d) few

-- ---- all pools

abbrev AreSmallRead : List (List ℕ) × Table → Type 0
AreSmallRead xs = AreSmall xs.0 × IsFew xs.1

members_small : (table : Table) (path : List ℕ) (ms : Members) → IsFew table → Holds AreSmallRead (each_member pool_read table path ms)
unfolding each_member
members_small table path no_members few = (tt, few)
members_small table path (member name d ms) few =
    holds_bind IsSmallRead AreSmallRead (pool_read table (key_step path name) name d) _ (pool_small table (key_step path name) name d few)
    (λ x h. holds_bind AreSmallRead AreSmallRead (each_member pool_read x.1 path ms) _ (members_small x.1 path ms h.1)
    (λ xs k. ((h.0, k.0), k.1)))

abbrev pub HasSmall : Pools × Table → Type 0
HasSmall x = AreSmall x.0.servers × IsFew x.1

of_object_small : (path : List ℕ) (o : Option Members) → Holds HasSmall (pools_of_members path o)
of_object_small path None = tt
of_object_small path (Some ms) = holds_bind AreSmallRead HasSmall (each_member pool_read [] path ms) _ (members_small [] path ms (omega arith)) (λ xs h. h)

pub pools_small : (path : List ℕ) (o : Option Data) → Holds HasSmall (pools_read path o)
pools_small path None = (tt, omega arith)
pools_small path (Some d) = of_object_small path (as_object d)
