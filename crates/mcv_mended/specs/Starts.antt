-- Where the requests for a rest begin. Only private contracts cite this.
use Rattle.std.specs.Prelude.{ℕ, List, Option}
use Rattle.mcv_base.specs.declared.operation.Op.{Op}
use Rattle.mcv_route.specs.Situation.{asked}
use Rattle.mcv_route.specs.Tree.{Tree}
use Rattle.mcv_route.specs.View.{view}
use Rattle.mcv_rules.specs.PlanInMemory.{Serves}
use Rattle.mcv_rules.specs.declared.plan.Plan.{Plan}
use Rattle.mcv_mended.specs.declared.mended.Begun.{Begun}
use Rattle.mcv_mended.specs.declared.start.Start.{Start}

-- what serves the handle at its place, where it is asked for the rest, serves the tree
abbrev pub StartsAt : Tree → (rest : List ℕ) → Start → Type 0
StartsAt t rest s = (p : Plan) (op : Op) (since : Option ℕ) → Serves p (view s.route.now) (record (asked op rest since) { position = s.position }) → Serves p t (asked op rest since)

-- so do both starts
abbrev pub AreStarts : Begun → (rest : List ℕ) → Type 0
AreStarts b rest = StartsAt (view b.sides.now.before.now) rest b.before.now × StartsAt (view b.sides.now.after.now) rest b.after.now
