use Rattle.std.proofs.Common.{◌≡◌}
use Rattle.serde_json.specs.View.{members_view}
use Rattle.mcv_names.specs.Handles.{keys_read, name_fault}
use Rattle.mcv_names.specs.Path.{path_of}
use Rattle.mcv_names.proofs.names.check_names.Given as goal

abbrev pub invariant-loop-name : goal.invariant-loop-name
invariant-loop-name l = keys_read (name_fault l.selector) (path_of l.trail) (members_view l.members.entries) ≡ keys_read (name_fault l.selector) (path_of l.trail) (members_view l.name-iterator)
