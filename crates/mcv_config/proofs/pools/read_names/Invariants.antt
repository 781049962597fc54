use Rattle.std.proofs.Common.{◌≡◌, fold, bytes_eq}
use Rattle.serde_json.specs.View.{members_view}
use Rattle.mcv_pools.specs.Table.{numbered, with_entry}
use Rattle.mcv_names.specs.Lists.{member_names}
use Rattle.mcv_config.proofs.pools.read_names.Given as goal

abbrev pub invariant-loop-name : goal.invariant-loop-name
invariant-loop-name l =
    numbered bytes_eq (member_names (members_view l.members.entries))
    ≡ fold (with_entry bytes_eq) l.names (member_names (members_view l.name-iterator))
