-- The fields of handles keep to their limits: seconds, salts and prefixes.
use Rattle.std.proofs.Common.{◌≡◌, ℕ, ◌≤◌, nat_lt, Bool, true, false, List, length, Option, Some, None, codes, refl, arith}
use Rattle.std.specs.List.{AllByRecursion}
use Rattle.std.specs.Prelude.{if◌then◌else◌}
use Rattle.std.proofs.lemmas.Bool.{ltb-false}
use Rattle.serde_json.specs.Data.{Data, Members, no_members, member}
use Rattle.serde_json.specs.Find.{get, as_str, as_object}
use Rattle.mcv_names.specs.declared.fault.FaultKind.{FaultKind}
use Rattle.mcv_names.specs.declared.fault.FaultKind.TheVariants.{Limit}
use Rattle.mcv_names.specs.declared.handle.Object.TheVariants as objects
use Rattle.mcv_names.specs.declared.handle.Selector.{Selector}
use Rattle.mcv_names.specs.declared.handle.Selector.TheVariants as selectors
use Rattle.mcv_names.specs.Handles.{key_fault, key_read, keys_read, name_fault, prefix_limit}
use Rattle.mcv_names.specs.Lists.{member_names, required, text_read}
use Rattle.mcv_names.specs.Path.{key_step}
use Rattle.mcv_names.proofs.ReadFacts.{Holds, holds_bind, holds_then, holds_also, holds_if}
use Rattle.mcv_config.specs.Hash.{HashValue, func_field, func_read, hash_fields, hash_read, hash_value, salt_field, salt_limit, salt_within}
use Rattle.mcv_config.specs.Numbers.{number_in_value, seconds_found, seconds_limit, seconds_or, seconds_read}
use Rattle.mcv_config.specs.Routes.{exptime_read, start_read, interval_read}
use Rattle.mcv_config.proofs.HandleRoom.{holds_both, holds_more}

-- ---- numbers and texts

abbrev pub IsSeconds : ℕ → Type 0
IsSeconds n = n ≤ seconds_limit

seconds_found_within : (o : Option ℕ) (path : List ℕ) → Holds IsSeconds (seconds_found o path)
seconds_found_within None path = tt
seconds_found_within (Some n) path = holds_if IsSeconds (nat_lt seconds_limit n) _ _ (λ _. tt) (λ e. ltb-false seconds_limit n e)

seconds_within : (path : List ℕ) (d : Data) → Holds IsSeconds (seconds_read path d)
unfolding seconds_read
seconds_within path d = seconds_found_within (number_in_value d) path

seconds_or_within : (n : ℕ) (path : List ℕ) (o : Option Data) → IsSeconds n → Holds IsSeconds (seconds_or n path o)
seconds_or_within n path None h = h
seconds_or_within n path (Some d) h = seconds_within path d

pub exptime_within : (path : List ℕ) (d : Data) → Holds IsSeconds (exptime_read path d)
unfolding exptime_read
exptime_within path d = seconds_or_within 0 (key_step path (codes "exptime")) (get (codes "exptime") d) (omega arith)

pub start_within : (path : List ℕ) (d : Data) → Holds IsSeconds (start_read path d)
unfolding start_read
start_within path d = holds_then IsSeconds (required (get (codes "start_time") d) path) _ (λ s. seconds_within (key_step path (codes "start_time")) s)

pub interval_within : (path : List ℕ) (d : Data) → Holds IsSeconds (interval_read path d)
unfolding interval_read
interval_within path d = seconds_or_within 3600 (key_step path (codes "interval")) (get (codes "interval") d) (omega arith)

abbrev pub IsSalt : List ℕ → Type 0
IsSalt salt = length salt ≤ salt_limit

abbrev pub IsHash : HashValue → Type 0
IsHash hash = IsSalt hash.1

salt_of_text : (path salt : List ℕ) → Holds IsSalt (salt_within path salt)
salt_of_text path salt = holds_if IsSalt (nat_lt salt_limit (length salt)) _ _ (λ _. tt) (λ e. ltb-false salt_limit (length salt) e)

salt_of_field : (path : List ℕ) (o : Option Data) → Holds IsSalt (salt_field path o)
salt_of_field path None = omega arith
salt_of_field path (Some d) = holds_then IsSalt (text_read (as_str d) path) _ (λ salt. salt_of_text path salt)

hash_of_fields : (path : List ℕ) (d : Data) → Holds IsHash (hash_fields path d)
unfolding hash_fields
hash_of_fields path d =
    holds_then IsHash (func_field (key_step path (codes "hash_func")) (get (codes "hash_func") d)) _
    (λ func. holds_bind IsSalt IsHash (salt_field (key_step path (codes "salt")) (get (codes "salt") d)) _ (salt_of_field (key_step path (codes "salt")) (get (codes "salt") d)) (λ salt h. h))

hash_of_value : (path : List ℕ) (d : Data) (o : Option (List ℕ)) (ms : Option Members) → Holds IsHash (hash_value path d o ms)
hash_of_value path d (Some name) ms = holds_then IsHash (func_read path name) _ (λ func. omega arith)
hash_of_value path d None (Some ms) = holds_also IsHash (keys_read (key_fault objects.Hash) path ms) (hash_fields path d) (hash_of_fields path d)
hash_of_value path d None None = tt

pub hash_within : (path : List ℕ) (o : Option Data) → Holds IsHash (hash_read path o)
hash_within path None = omega arith
hash_within path (Some d) = hash_of_value path d (as_str d) (as_object d)

-- ---- names of policies

-- of the names of policies only prefixes have a limit
abbrev pub IsName : Selector → List ℕ → Type 0
IsName selectors.Prefix name = length name ≤ prefix_limit
IsName selectors.Operation name = Unit {0}

name_within : (k : Selector) (path name : List ℕ) → Holds (λ _. IsName k name) (key_read (name_fault k name) path)
unfolding name_fault
name_within selectors.Prefix path name = short (nat_lt prefix_limit (length name)) refl
  where
    short : (b : Bool) → nat_lt prefix_limit (length name) ≡ b → Holds (λ _. length name ≤ prefix_limit) (key_read (if b then Some Limit else None) path)
    short true e = tt
    short false e = ltb-false prefix_limit (length name) e
name_within selectors.Operation path name = any (name_fault selectors.Operation name)
  where
    any : (o : Option FaultKind) → Holds (λ _. Unit {0}) (key_read o path)
    any None = tt
    any (Some kind) = tt

pub names_within : (k : Selector) (path : List ℕ) (ms : Members) → Holds (λ _. AllByRecursion (IsName k) (member_names ms)) (keys_read (name_fault k) path ms)
unfolding keys_read
names_within k path no_members = tt
names_within k path (member name d ms) =
    holds_both (IsName k name) (λ _. AllByRecursion (IsName k) (member_names (member name d ms))) (key_read (name_fault k name) (key_step path name)) (keys_read (name_fault k) path ms) (name_within k (key_step path name) name)
    (λ h. holds_more (λ _. AllByRecursion (IsName k) (member_names ms)) (λ _. AllByRecursion (IsName k) (member_names (member name d ms))) (keys_read (name_fault k) path ms) (λ _ l. (h, l)) (names_within k path ms))
