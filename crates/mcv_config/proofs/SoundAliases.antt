-- The aliases that are read are routing prefixes, and none comes twice.
use Rattle.std.proofs.Common.{◌≡◌, ℕ, ◌+◌, ◌<◌, ◌≤◌, nat_lt, ◌==◌, suc, Bool, true, false, cond, List, [], ◌∷◌, ◌++◌, length, Option, Some, None, bytes_eq, codes, refl, sym, ap, subst, ◌∙◌, arith, append_assoc}
use Rattle.std.proofs.lemmas.Bool.Decides.{nat_tests}
use Rattle.std.proofs.lemmas.List.{append-nil}
use Rattle.std.specs.List.{AllByRecursion, IsDistinct, list_any}
use Rattle.std.specs.Cmp.Lexicographic.{bytes_decides}
use Rattle.serde_json.specs.Data.{Data, Items}
use Rattle.serde_json.specs.Find.{get, as_str, as_array}
use Rattle.mcv_base.specs.Key.{default_prefix}
use Rattle.mcv_pools.specs.Table.{number_in, with_entry}
use Rattle.mcv_pools.proofs.Tables.{grown, new}
use Rattle.mcv_names.specs.declared.fault.FaultKind.{FaultKind}
use Rattle.mcv_names.specs.declared.fault.FaultKind.TheVariants.{WrongKind, Limit, LeftOut}
use Rattle.mcv_names.specs.Fault.{Read, good, bad, ◌>>=◌}
use Rattle.mcv_names.specs.Lists.{each, items_list, required, some_items, text_read}
use Rattle.mcv_names.specs.Path.{key_step, item_step}
use Rattle.mcv_names.proofs.ReadFacts.{Holds, holds_bind, holds_then}
use Rattle.mcv_config.specs.Aliases.{IsAlias, alias_fault, alias_limit, alias_read, aliases_field, aliases_of_list, is_alias, star, twice, unless_fault}
use Rattle.mcv_config.proofs.RoutingPrefixes.{alias_is}
use Rattle.mcv_config.proofs.SoundPools.{distinct_more}

abbrev pub IsShortAlias : List ℕ → Type 0
IsShortAlias text = IsAlias text × (length text ≤ alias_limit)

-- ---- a text without fault

by_tests : (a b c : Bool) (o : Option ℕ) → cond a (Some Limit) (cond b (cond c (Some LeftOut) (twice o)) (Some WrongKind)) ≡ None → (a ≡ false) × (b ≡ true) × (o ≡ None)
by_tests true b c o h = absurd (cc)
by_tests false true true o h = absurd (cc)
by_tests false true false None h = (refl, refl, refl)
by_tests false true false (Some i) h = absurd (cc)
by_tests false false c o h = absurd (cc)

pub record IsFaultless (seen : List (List ℕ)) (text : List ℕ) : Type 0 where
  pub alias : is_alias text ≡ true
  pub short : length text ≤ 40
  pub new : number_in bytes_eq seen text ≡ None

pub faultless : (seen : List (List ℕ)) (text : List ℕ) → alias_fault seen text ≡ None → IsFaultless seen text
unfolding alias_fault
faultless seen text h =
    let t = by_tests (nat_lt alias_limit (length text)) (is_alias text) (list_any (λ b. b == star) text) (number_in bytes_eq seen text) h in
    let e : nat_lt 40 (length text) ≡ false = t.0 in
    let short : length text ≤ 40 = grind (arith, nat_tests) in
    record { alias = t.1; short = short; new = t.2 }

-- ---- aliases in turn

-- the alias goes behind those seen, and is none of them
pub record IsNext (seen : List (List ℕ)) (x : List ℕ × List (List ℕ)) : Type 0 where
  pub behind : x.1 ≡ seen ++ x.0 ∷ []
  pub once : IsDistinct bytes_eq x.1
  pub alias : IsShortAlias x.0

-- so many aliases go behind those seen, and none comes twice
pub record AreNext (seen : List (List ℕ)) (ds : List Data) (x : List (List ℕ) × List (List ℕ)) : Type 0 where
  pub behind : x.1 ≡ seen ++ x.0
  pub once : IsDistinct bytes_eq x.1
  pub aliases : AllByRecursion IsShortAlias x.0
  pub count : length x.0 ≡ length ds

checked : (seen : List (List ℕ)) (path text : List ℕ) (o : Option FaultKind) → alias_fault seen text ≡ o → IsDistinct bytes_eq seen
    → Holds (IsNext seen) (unless_fault o path text >>= λ (alias : List ℕ). good (alias, with_entry bytes_eq seen alias))
checked seen path text (Some kind) e once = tt
checked seen path text None e once =
    let f = faultless seen text e in
    let longer : with_entry bytes_eq seen text ≡ seen ++ text ∷ [] = grown bytes_eq bytes_decides seen text f.new in
    let apart : IsDistinct bytes_eq (seen ++ text ∷ []) = distinct_more seen text once (new bytes_eq bytes_decides seen text f.new) in
    record { behind = longer; once = subst (IsDistinct bytes_eq) (sym longer) apart; alias = (alias_is text f.alias, f.short) }

alias_next : (seen : List (List ℕ)) (path : List ℕ) (d : Data) → IsDistinct bytes_eq seen → Holds (IsNext seen) (alias_read seen path d)
unfolding alias_read
alias_next seen path d once = holds_then (IsNext seen) (text_read (as_str d) path) _ (λ text. checked seen path text (alias_fault seen text) refl once)

each_next : (seen : List (List ℕ)) (path : List ℕ) (i : ℕ) (ds : List Data) → IsDistinct bytes_eq seen → Holds (AreNext seen ds) (each alias_read seen path i ds)
unfolding each
each_next seen path i [] once = record { behind = sym (append-nil seen); once = once; aliases = tt; count = refl }
each_next seen path i (d ∷ ds) once =
    holds_bind (IsNext seen) (AreNext seen (d ∷ ds)) (alias_read seen (item_step path i) d) _ (alias_next seen (item_step path i) d once)
    (λ x h. holds_bind (AreNext x.1 ds) (AreNext seen (d ∷ ds)) (each alias_read x.1 path (i + 1) ds) _ (each_next x.1 path (i + 1) ds h.once)
    (λ xs k. record {
      behind = k.behind ∙ ap (λ s. s ++ xs.0) h.behind ∙ append_assoc seen (x.0 ∷ []) xs.0;
      once = k.once;
      aliases = (h.alias, k.aliases);
      count = ap suc k.count;
    }))

-- ---- the aliases of a route

pub record AreSome (seen : List (List ℕ)) (x : List (List ℕ) × List (List ℕ)) : Type 0 where
  pub behind : x.1 ≡ seen ++ x.0
  pub once : IsDistinct bytes_eq x.1
  pub aliases : AllByRecursion IsShortAlias x.0
  pub some : 0 < length x.0

listed_some : (seen : List (List ℕ)) (path : List ℕ) (ds : List Data) → IsDistinct bytes_eq seen → Holds (AreSome seen) (some_items path ds >>= each alias_read seen path 0)
unfolding some_items
listed_some seen path [] once = tt
listed_some seen path (d ∷ ds) once =
    then_some (each alias_read seen path 0 (d ∷ ds)) (each_next seen path 0 (d ∷ ds) once)
  where
    then_some : (r : Read (List (List ℕ) × List (List ℕ))) → Holds (AreNext seen (d ∷ ds)) r → Holds (AreSome seen) r
    then_some (good x) h = record { behind = h.behind; once = h.once; aliases = h.aliases; some = omega (arith, h.count) }
    then_some (bad faults) h = tt

of_list_some : (seen : List (List ℕ)) (path : List ℕ) (o : Option Items) → IsDistinct bytes_eq seen → Holds (AreSome seen) (aliases_of_list seen path o)
of_list_some seen path None once = tt
of_list_some seen path (Some ds) once = listed_some seen path (items_list ds) once

pub aliases_some : (seen : List (List ℕ)) (path : List ℕ) (d : Data) → IsDistinct bytes_eq seen → Holds (AreSome seen) (aliases_field seen path d)
unfolding aliases_field
aliases_some seen path d once =
    holds_then (AreSome seen) (required (get (codes "aliases") d) path) _ (λ a. of_list_some seen (key_step path (codes "aliases")) (as_array a) once)

-- ---- the one that key words without a prefix have

default_passes : is_alias default_prefix ≡ true
unfolding is_alias
default_passes = refl

pub default_is : IsShortAlias default_prefix
default_is = (alias_is default_prefix default_passes, omega arith)

-- ---- for the reader

pub short_alias : (seen : List (List ℕ)) (text : List ℕ) → alias_fault seen text ≡ None → length text ≤ 250
short_alias seen text h = let f = faultless seen text h in omega (arith, f.short)

pub ruleset aliases = (short_alias)
