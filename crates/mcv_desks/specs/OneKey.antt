-- The keys of a request, each asked alone (own).
use Rattle.std.specs.Prelude.{◌≡◌, ℕ, List, Some, length, option_to_list, slice_get}
use Rattle.std.specs.Arc.{arc_value}
use Rattle.std.specs.declared.alloc.Global.{Global}
use Rattle.std.specs.declared.sync.Arc.{Arc}
use Rattle.mcv_base.specs.declared.request.Request.{Request}
use Rattle.mcv_session.specs.Desk.{keys_of}
use Rattle.mcv_text.specs.Request.{RequestValue, asking, version, quit, request_value}

-- the same request, with the key word of this number alone; with none where it has no such one
abbrev pub only_key : RequestValue → ℕ → RequestValue
only_key (asking ask) key = asking (record ask { keys = option_to_list (slice_get ask.keys key) })
only_key version key = version
only_key quit key = quit

-- one for each key, in the order of the keys
pub record AreOfKeys (request : RequestValue) (requests : List (Arc Request Global)) : Type 0 where
  pub one_each : length requests ≡ length (keys_of request)
  pub each : (key : ℕ) (r : Arc Request Global) → slice_get requests key ≡ Some r → request_value (arc_value r) ≡ only_key request key
