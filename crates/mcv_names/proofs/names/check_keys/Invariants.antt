use Rattle.std.proofs.Common.{◌≡◌}
use Rattle.serde_json.specs.View.{members_view}
use Rattle.mcv_names.specs.Handles.{key_fault, keys_read}
use Rattle.mcv_names.specs.Path.{path_of}
use Rattle.mcv_names.proofs.names.check_keys.Given as goal

abbrev pub invariant-loop-key : goal.invariant-loop-key
invariant-loop-key l = keys_read (key_fault l.object) (path_of l.trail) (members_view l.members.entries) ≡ keys_read (key_fault l.object) (path_of l.trail) (members_view l.key-iterator)
