-- The pools that are read are sound, and so is the table of their servers.
use Rattle.std.proofs.Common.{◌≡◌, ℕ, zero, suc, ◌+◌, ◌<◌, ◌≤◌, nat_lt, Bool, true, false, cond, List, [], ◌∷◌, ◌++◌, length, get_or, Option, Some, None, fold, bytes_eq, codes, refl, sym, ap, ◌∙◌, true≢false, arith, length-append, ◌||◌}
use Rattle.std.specs.List.{All, AllByRecursion, IsDistinct, list_any}
use Rattle.std.specs.Cmp.Lexicographic.{bytes_decides}
use Rattle.std.proofs.lemmas.List.Quantifiers.{position-Some}
use Rattle.serde_json.specs.Data.{Data, Items, Members, no_members, member}
use Rattle.serde_json.specs.Find.{get, as_str, as_array, as_object}
use Rattle.mcv_base.specs.Server.{is_server}
use Rattle.mcv_pools.specs.Table.{is_in, number_in, numbered, with_entry}
use Rattle.mcv_pools.proofs.Tables.{kept, new, grown, numbered_last}
use Rattle.mcv_names.specs.declared.handle.Object.TheVariants as objects
use Rattle.mcv_names.specs.Fault.{Read}
use Rattle.mcv_config.specs.Pools.{name_read}
use Rattle.mcv_names.specs.Handles.{key_fault, keys_read}
use Rattle.mcv_names.specs.Lists.{each, each_member, items_list, member_names, required, text_read}
use Rattle.mcv_names.specs.Path.{key_step, item_step}
use Rattle.mcv_config.specs.ConfigValue.{IsSoundPool}
use Rattle.mcv_config.specs.Pools.{Pools, Table, entered, is_full, listed_servers, pool_limit, pool_of_members, pool_read, pools_of_members, pools_read, server_read, server_text, servers_of_list, servers_read}
use Rattle.mcv_names.proofs.ReadFacts.{Holds, holds_bind, holds_then, holds_also, holds_if}

-- ---- a text more in a table

apart_more : (y : List ℕ) (xs : Table) (x : List ℕ) → AllByRecursion (λ z. bytes_eq y z ≡ false) xs → bytes_eq y x ≡ false → AllByRecursion (λ z. bytes_eq y z ≡ false) (xs ++ x ∷ [])
apart_more y [] x h e = (e, tt)
apart_more y (z ∷ xs) x h e = (h.0, apart_more y xs x h.1 e)

-- texts are distinguished either way round
other_way : (x y : List ℕ) → bytes_eq x y ≡ false → bytes_eq y x ≡ false
other_way x y e = by (bytes_eq y x) refl
  where
    by : (b : Bool) → bytes_eq y x ≡ b → b ≡ false
    by true t = absurd (true≢false (sym ((bytes_decides x y).1 (sym ((bytes_decides y x).0 t))) ∙ e))
    by false t = refl

or_first : (a b : Bool) → (a || b) ≡ false → a ≡ false
or_first true b h = h
or_first false b h = refl

or_second : (a b : Bool) → (a || b) ≡ false → b ≡ false
or_second true b h = absurd (true≢false h)
or_second false b h = h

pub distinct_more : (xs : Table) (x : List ℕ) → IsDistinct bytes_eq xs → list_any (bytes_eq x) xs ≡ false → IsDistinct bytes_eq (xs ++ x ∷ [])
unfolding IsDistinct
distinct_more [] x h e = (tt, tt)
distinct_more (y ∷ xs) x h e = (
  apart_more y xs x h.0 (other_way x y (or_first (bytes_eq x y) (list_any (bytes_eq x) xs) e)),
  distinct_more xs x h.1 (or_second (bytes_eq x y) (list_any (bytes_eq x) xs) e),
)

-- ---- tables of servers

abbrev pub IsText : List ℕ → Type 0
IsText text = is_server text ≡ true

-- no text twice, and each a server's
pub record IsTable (table : Table) : Type 0 where
  pub apart : IsDistinct bytes_eq table
  pub texts : AllByRecursion IsText table

texts_more : (table : Table) (text : List ℕ) → AllByRecursion IsText table → IsText text → AllByRecursion IsText (table ++ text ∷ [])
texts_more [] text h valid = (valid, tt)
texts_more (t ∷ table) text h valid = (h.0, texts_more table text h.1 valid)

-- ---- tables that grow

-- P of what was read in the table that it leaves, which is no shorter
pub record Grown {A : Type 0} (P : Table → A → Type 0) (table : Table) (x : A × Table) : Type 0 where
  pub holds : P x.1 x.0
  pub grows : length table ≤ length x.1
  pub is_table : IsTable x.1

abbrev pub IsKnown : Table → ℕ → Type 0
IsKnown table s = s < length table

entered_grown : (table : Table) (text : List ℕ) → IsTable table → IsText text → Grown IsKnown table (entered table text)
entered_grown table text is valid = by (number_in bytes_eq table text) refl
  where
    by : (o : Option ℕ) → number_in bytes_eq table text ≡ o → Grown IsKnown table (entered table text)
    by None e =
        let longer : with_entry bytes_eq table text ≡ table ++ text ∷ [] = grown bytes_eq bytes_decides table text e in
        let last : number_in bytes_eq (table ++ text ∷ []) text ≡ Some (length table) = numbered_last bytes_eq bytes_decides table text e in
        let more : length (table ++ text ∷ []) ≡ length table + 1 = length-append table (text ∷ []) in
        let apart : IsDistinct bytes_eq (table ++ text ∷ []) = distinct_more table text is.apart (new bytes_eq bytes_decides table text e) in
        rw (longer, last) (record { holds = omega arith; grows = omega arith; is_table = record { apart = apart; texts = texts_more table text is.texts valid } })
    by (Some i) e =
        let same : table ≡ with_entry bytes_eq table text = kept bytes_eq bytes_decides table text i e in
        let within : i < length table = (position-Some (bytes_eq text) table i [] e).0 in
        rw (← same, e) (record { holds = within; grows = omega arith; is_table = is })

text_valid : (path text : List ℕ) → Holds IsText (server_text path text)
text_valid path text = holds_if IsText (is_server text) _ _ (λ valid. valid) (λ _. tt)

server_grown : (list : List ℕ) (table : Table) (path : List ℕ) (d : Data) → IsTable table → Holds (Grown IsKnown table) (server_read list table path d)
unfolding server_read
server_grown list table path d is =
    holds_then (Grown IsKnown table) (text_read (as_str d) path) _
    (λ text. holds_bind IsText (Grown IsKnown table) (server_text path text) _ (text_valid path text)
    (λ server valid. holds_if (Grown IsKnown table) (is_full table server) _ _ (λ _. tt) (λ _. entered_grown table server is valid)))

module _ {A : Type 0} (P : Table → A → Type 0) (keeps : (t u : Table) (x : A) → length t ≤ length u → P t x → P u x) where
  abbrev Each : Table → List A → Type 0
  Each table xs = AllByRecursion (P table) xs

  end_grown : (table : Table) → IsTable table → Grown Each table ([], table)
  end_grown table is = record { holds = tt; grows = omega arith; is_table = is }

  more_grown : (table : Table) (x : A × Table) (xs : List A × Table) → Grown P table x → Grown Each x.1 xs → Grown Each table (x.0 ∷ xs.0, xs.1)
  more_grown table x xs h k = record { holds = (keeps x.1 xs.1 x.0 k.grows h.holds, k.holds); grows = omega (arith, h.grows, k.grows); is_table = k.is_table }

  pub each_grown : (reader : Table → List ℕ → Data → Read (A × Table)) → ((t : Table) (p : List ℕ) (d : Data) → IsTable t → Holds (Grown P t) (reader t p d))
      → (table : Table) (path : List ℕ) (i : ℕ) (ds : List Data) → IsTable table → Holds (Grown Each table) (each reader table path i ds)
  unfolding each
  each_grown reader one table path i [] is = end_grown table is
  each_grown reader one table path i (d ∷ ds) is =
      holds_bind (Grown P table) (Grown Each table) (reader table (item_step path i) d) _ (one table (item_step path i) d is)
      (λ x h. holds_bind (Grown Each x.1) (Grown Each table) (each reader x.1 path (i + 1) ds) _ (each_grown reader one x.1 path (i + 1) ds h.is_table) (λ xs k. more_grown table x xs h k))

  pub each_member_grown : (reader : Table → List ℕ → List ℕ → Data → Read (A × Table)) → ((t : Table) (p name : List ℕ) (d : Data) → IsTable t → Holds (Grown P t) (reader t p name d))
      → (table : Table) (path : List ℕ) (ms : Members) → IsTable table
      → Holds (λ (xs : List A × Table). Grown Each table xs × (length xs.0 ≡ length (member_names ms))) (each_member reader table path ms)
  unfolding each_member
  each_member_grown reader one table path no_members is = (end_grown table is, refl)
  each_member_grown reader one table path (member name d ms) is =
      holds_bind (Grown P table) (λ (xs : List A × Table). Grown Each table xs × (length xs.0 ≡ length (member_names (member name d ms)))) (reader table (key_step path name) name d) _ (one table (key_step path name) name d is)
      (λ x h. holds_bind (λ (xs : List A × Table). Grown Each x.1 xs × (length xs.0 ≡ length (member_names ms))) (λ (xs : List A × Table). Grown Each table xs × (length xs.0 ≡ length (member_names (member name d ms)))) (each_member reader x.1 path ms) _ (each_member_grown reader one x.1 path ms h.is_table)
      (λ xs k. (more_grown table x xs h k.0, ap suc k.1)))

-- ---- pools

known_keeps : (t u : Table) (s : ℕ) → length t ≤ length u → IsKnown t s → IsKnown u s
known_keeps t u s l h = omega arith

abbrev pub IsPool : Table → List ℕ → Type 0
IsPool table pool = (0 < length pool) × AllByRecursion (IsKnown table) pool

all_keeps : (t u : Table) (pool : List ℕ) → length t ≤ length u → AllByRecursion (IsKnown t) pool → AllByRecursion (IsKnown u) pool
all_keeps t u [] l h = tt
all_keeps t u (s ∷ pool) l h = (known_keeps t u s l h.0, all_keeps t u pool l h.1)

pub pool_keeps : (t u : Table) (pool : List ℕ) → length t ≤ length u → IsPool t pool → IsPool u pool
pool_keeps t u pool l h = (h.0, all_keeps t u pool l h.1)

-- a list that is not empty gives servers
servers_some : (list : List ℕ) (table : Table) (path : List ℕ) (d : Data) (ds : List Data) → IsTable table → Holds (Grown IsPool table) (each (server_read list) table path 0 (d ∷ ds))
unfolding each
servers_some list table path d ds is =
    holds_bind (Grown IsKnown table) (Grown IsPool table) (server_read list table (item_step path 0) d) _ (server_grown list table (item_step path 0) d is)
    (λ x h. holds_bind (Grown (Each IsKnown known_keeps) x.1) (Grown IsPool table) (each (server_read list) x.1 path 1 ds) _ (each_grown IsKnown known_keeps (server_read list) (server_grown list) x.1 path 1 ds h.is_table)
    (λ xs k. record { holds = (omega arith, (known_keeps x.1 xs.1 x.0 k.grows h.holds, k.holds)); grows = omega (arith, h.grows, k.grows); is_table = k.is_table }))

listed_grown : (table : Table) (path : List ℕ) (ds : List Data) → IsTable table → Holds (Grown IsPool table) (listed_servers table path ds)
unfolding listed_servers
listed_grown table path [] is = tt
listed_grown table path (d ∷ ds) is = holds_if (Grown IsPool table) (nat_lt pool_limit (length (d ∷ ds))) _ _ (λ _. tt) (λ _. servers_some path table path d ds is)

of_list_grown : (table : Table) (path : List ℕ) (o : Option Items) → IsTable table → Holds (Grown IsPool table) (servers_of_list table path o)
of_list_grown table path None is = tt
of_list_grown table path (Some ds) is = listed_grown table path (items_list ds) is

servers_grown : (table : Table) (path : List ℕ) (d : Data) → IsTable table → Holds (Grown IsPool table) (servers_read table path d)
unfolding servers_read
servers_grown table path d is =
    holds_then (Grown IsPool table) (required (get (codes "servers") d) path) _ (λ s. of_list_grown table (key_step path (codes "servers")) (as_array s) is)

of_members_grown : (table : Table) (path : List ℕ) (d : Data) (o : Option Members) → IsTable table → Holds (Grown IsPool table) (pool_of_members table path d o)
of_members_grown table path d None is = tt
of_members_grown table path d (Some ms) is =
    holds_also (Grown IsPool table) (keys_read (key_fault objects.Pool) path ms) _
    (holds_also (Grown IsPool table) (name_read (key_step path (codes "name")) (get (codes "name") d)) (servers_read table path d) (servers_grown table path d is))

pub pool_grown : (table : Table) (path name : List ℕ) (d : Data) → IsTable table → Holds (Grown IsPool table) (pool_read table path name d)
unfolding pool_read
pool_grown table path name d is = of_members_grown table path d (as_object d) is

-- ---- all pools

with_entry-length : (table : Table) (x : List ℕ) → length (with_entry bytes_eq table x) ≤ length table + 1
with_entry-length table x = by (is_in bytes_eq table x)
  where
    by : (b : Bool) → length (cond b table (table ++ x ∷ [])) ≤ length table + 1
    by true = omega arith
    by false = omega (arith, length-append table (x ∷ []))

fold-length : (names table : Table) → length (fold (with_entry bytes_eq) table names) ≤ length table + length names
fold-length [] table = omega arith
fold-length (n ∷ names) table =
    let one : length (with_entry bytes_eq table n) ≤ length table + 1 = with_entry-length table n in
    let rest : length (fold (with_entry bytes_eq) (with_entry bytes_eq table n) names) ≤ length (with_entry bytes_eq table n) + length names = fold-length names (with_entry bytes_eq table n) in
    omega arith

-- what the pools of a configuration and the table of its servers are
pub record ArePools (x : Pools × Table) : Type 0 where
  pub named : length x.0.names ≤ length x.0.servers
  pub pools : AllByRecursion (IsPool x.1) x.0.servers
  pub is_table : IsTable x.1

pub nothing_twice : IsDistinct bytes_eq []
unfolding IsDistinct
nothing_twice = tt

no_servers : IsTable []
no_servers = record { apart = nothing_twice; texts = tt }

of_object_sound : (path : List ℕ) (o : Option Members) → Holds ArePools (pools_of_members path o)
of_object_sound path None = tt
of_object_sound path (Some ms) =
    holds_bind (λ (xs : List (List ℕ) × Table). Grown (Each IsPool pool_keeps) [] xs × (length xs.0 ≡ length (member_names ms))) ArePools (each_member pool_read [] path ms) _
    (each_member_grown IsPool pool_keeps pool_read pool_grown [] path ms no_servers)
    (λ xs h. let count : length (numbered bytes_eq (member_names ms)) ≤ 0 + length (member_names ms) = fold-length (member_names ms) [] in
    record { named = omega (arith, h.1); pools = h.0.holds; is_table = h.0.is_table })

pub pools_sound : (path : List ℕ) (o : Option Data) → Holds ArePools (pools_read path o)
pools_sound path None = record { named = omega arith; pools = tt; is_table = no_servers }
pools_sound path (Some d) = of_object_sound path (as_object d)

-- ---- in the words of the configuration

pub all_of : {X : Type 0} (P : X → Type 0) (xs : List X) → AllByRecursion P xs → All P xs
all_of P [] h k d l = absurd (omega arith)
all_of P (x ∷ xs) h zero d l = h.0
all_of P (x ∷ xs) h (suc k) d l = all_of P xs h.1 k d (omega arith)

pub pools_are_sound : (table : Table) (pools : List (List ℕ)) → AllByRecursion (IsPool table) pools → All (IsSoundPool (length table)) pools
pools_are_sound table pools h = λ k d l. let one : IsPool table (get_or pools k d) = all_of (IsPool table) pools h k d l in record { some = one.0; known = all_of (IsKnown table) (get_or pools k d) one.1 }

pub some_servers : (table : Table) (pools : List (List ℕ)) → AllByRecursion (IsPool table) pools → (i : ℕ) → i < length pools → 0 < length (get_or pools i [])
some_servers table pools h i l = (all_of (IsPool table) pools h i [] l).0
