-- The hash of a PoolRoute: a function by its name, and a salt (mcrouter wiki, PoolRoute; the bound is own).
use Rattle.std.specs.Prelude.{ℕ, nat_lt, List, [], length, Option, Some, None, if◌then◌else◌, codes, bytes_eq}
use Rattle.serde_json.specs.Data.{Data, Members}
use Rattle.serde_json.specs.Find.{get, as_str, as_object}
use Rattle.mcv_pools.specs.declared.symbol.HashFunc.{HashFunc}
use Rattle.mcv_pools.specs.declared.symbol.HashFunc.TheVariants.{Ch3, Crc32}
use Rattle.mcv_names.specs.declared.fault.FaultKind.TheVariants.{WrongKind, Limit, LeftOut}
use Rattle.mcv_names.specs.declared.handle.Object.TheVariants as objects
use Rattle.mcv_names.specs.Fault.{Read, good, refused, ◌>>=◌, also}
use Rattle.mcv_names.specs.Handles.{key_fault, keys_read}
use Rattle.mcv_names.specs.Lists.{text_read}
use Rattle.mcv_names.specs.Path.{key_step}

-- a function and a salt
abbrev pub HashValue : Type 0
HashValue = HashFunc × List ℕ

-- bytes of a salt (own)
abbrev pub salt_limit : ℕ
salt_limit = 200

unfoldable pub func_named : List ℕ → Option HashFunc
func_named name = if bytes_eq name (codes "Ch3") then Some Ch3 else (if bytes_eq name (codes "Crc32") then Some Crc32 else None)

abbrev pub func_found : Option HashFunc → List ℕ → Read HashFunc
func_found None path = refused LeftOut path
func_found (Some func) path = good func

-- a function by its name; mcrouter's other functions are left out
unfoldable pub func_read : List ℕ → List ℕ → Read HashFunc
func_read path name = func_found (func_named name) path

-- Ch3 where there is no such key
abbrev pub func_field : List ℕ → Option Data → Read HashFunc
func_field path None = good Ch3
func_field path (Some d) = text_read (as_str d) path >>= func_read path

abbrev pub salt_within : List ℕ → List ℕ → Read (List ℕ)
salt_within path salt = if nat_lt salt_limit (length salt) then refused Limit path else good salt

-- no salt where there is no such key
abbrev pub salt_field : List ℕ → Option Data → Read (List ℕ)
salt_field path None = good []
salt_field path (Some d) = text_read (as_str d) path >>= salt_within path

unfoldable pub hash_fields : List ℕ → Data → Read HashValue
hash_fields path d =
    func_field (key_step path (codes "hash_func")) (get (codes "hash_func") d) >>= λ (func : HashFunc).
    salt_field (key_step path (codes "salt")) (get (codes "salt") d) >>= λ (salt : List ℕ).
    good (func, salt)

-- a function's name, or an object
abbrev pub hash_value : List ℕ → Data → Option (List ℕ) → Option Members → Read HashValue
hash_value path d (Some name) o = func_read path name >>= λ (func : HashFunc). good (func, [])
hash_value path d None (Some ms) = also (keys_read (key_fault objects.Hash) path ms) (hash_fields path d)
hash_value path d None None = refused WrongKind path

-- Ch3 without a salt where there is no such key
abbrev pub hash_read : List ℕ → Option Data → Read HashValue
hash_read path None = good (Ch3, [])
hash_read path (Some d) = hash_value path d (as_str d) (as_object d)
