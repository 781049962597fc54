-- Where two values differ. Only private contracts cite this.
use Rattle.std.specs.Prelude.{◌≡◌, ◌≤◌, ⊤, Some}
use Rattle.serde_json.specs.Data.{Data, Items, Members, array, depth, object, put}
use Rattle.serde_json.specs.Find.{get_item, get_member}
use Rattle.serde_json.specs.Read.{max_depth}
use Rattle.serde_json.specs.View.{view}
use Rattle.mcv_patch.specs.Patch.{Step, index, key, with_item}
use Rattle.mcv_patch.specs.Operations.{step_of}
use Rattle.mcv_patch.specs.declared.child.Child.{Child}
use Rattle.mcv_patch.specs.declared.child.Child.TheVariants.{Added, Behind, Many}
use Rattle.mcv_patch.specs.declared.child.Pair.{Pair}

-- both nest no deeper than is read
abbrev pub AreShallow : Pair → Type 0
AreShallow p = (depth (view p.old.now) ≤ max_depth) × (depth (view p.new.now) ≤ max_depth)

-- the new value is the old one with another value behind the step, or with one more member
abbrev pub DiffersBehind : Step → (old new before after : Data) → Type 0
DiffersBehind (key k) old new before after = (ms : Members) × (old ≡ object ms) × (get_member k ms ≡ Some before) × (new ≡ object (put k after ms))
DiffersBehind (index i) old new before after = (ds : Items) × (old ≡ array ds) × (get_item i ds ≡ Some before) × (new ≡ array (with_item i after ds))

abbrev pub IsChild : Pair → Child → Type 0
IsChild p (Behind s q) = DiffersBehind (step_of s) (view p.old.now) (view p.new.now) (view q.old.now) (view q.new.now) × AreShallow q
IsChild p (Added k v) = (ms : Members) × (view p.old.now ≡ object ms) × (view p.new.now ≡ object (put k.now (view v.now) ms))
IsChild p Many = ⊤
