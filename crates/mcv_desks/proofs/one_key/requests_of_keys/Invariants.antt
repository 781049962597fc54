use Rattle.std.proofs.Common.{◌≡◌, ℕ, Some}
use Rattle.std.specs.Prelude.{slice_get, vec_len}
use Rattle.std.specs.Arc.{arc_value}
use Rattle.std.specs.declared.alloc.Global.{Global}
use Rattle.std.specs.declared.sync.Arc.{Arc}
use Rattle.mcv_base.specs.declared.request.Request.{Request}
use Rattle.mcv_text.specs.Request.{request_value}
use Rattle.mcv_desks.specs.OneKey.{only_key}
use Rattle.mcv_desks.proofs.one_key.requests_of_keys.Given as goal

-- one for each key so far
abbrev pub invariant-loop-key : goal.invariant-loop-key
invariant-loop-key l = record {
  so_many : vec_len l.requests ≡ l.key;
  each : (key : ℕ) (r : Arc Request Global) → slice_get l.requests.items key ≡ Some r → request_value (arc_value r) ≡ only_key (request_value l.request) key;
}
