use Rattle.serde_json.specs.View.{view}
use Rattle.mcv_patch.proofs.Behind.{LeadsTo}
use Rattle.mcv_patch.specs.Child.{AreShallow}
use Rattle.mcv_patch.specs.Operations.{path_of}
use Rattle.mcv_patch.proofs.change.difference.Given as goal

abbrev pub invariant-loop : goal.invariant-loop
invariant-loop l = LeadsTo (path_of l.path.items) (view l.old) (view l.new) (view l.here.old.now) (view l.here.new.now) × AreShallow l.here
