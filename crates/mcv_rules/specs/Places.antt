-- Where the legs and the shadows of a plan in memory are.
use Rattle.std.specs.Prelude.{ℕ, Bool, true, false, ◌&&◌, List, [], ◌∷◌, ◌++◌}
use Rattle.mcv_route.specs.Children.{joined}
use Rattle.mcv_rules.specs.declared.plan.Plan.{Plan}
use Rattle.mcv_rules.specs.declared.plan.Plan.TheOpen.{Plan-F}
use Rattle.mcv_rules.specs.declared.plan.Plan.TheFolds.{fold-Plan}

-- ---- positions

abbrev pub places_step : Plan-F (List (List ℕ)) → List (List ℕ)
places_step (Plan-F.Send l) = l.position ∷ []
places_step (Plan-F.Reply f) = []
places_step (Plan-F.All plans) = joined plans.items
places_step (Plan-F.Beside plans) = joined plans.items
places_step (Plan-F.InTurn w plans) = joined plans.items
places_step (Plan-F.OnHit first after) = first.value ++ after.value
places_step (Plan-F.Shadowed symbol first last target) = target.value

-- the positions of all legs of the plan, those of shadows too
abbrev pub places_of : Plan → List (List ℕ)
places_of = fold-Plan (List (List ℕ)) places_step

-- ---- shadows

-- whether a part is a shadow; misplaced where a shadow is anywhere but beside what it shadows
pub data Kind : Type 0 where
  plain : Kind
  shadow : Kind
  misplaced : Kind

abbrev pub is_plain : Kind → Bool
is_plain plain = true
is_plain shadow = false
is_plain misplaced = false

abbrev pub is_beside : Kind → Bool
is_beside plain = true
is_beside shadow = true
is_beside misplaced = false

abbrev pub are_plain : List Kind → Bool
are_plain [] = true
are_plain (k ∷ ks) = is_plain k && are_plain ks

abbrev pub are_beside : List Kind → Bool
are_beside [] = true
are_beside (k ∷ ks) = is_beside k && are_beside ks

-- the first is no shadow
abbrev pub are_led : List Kind → Bool
are_led [] = true
are_led (k ∷ ks) = is_plain k && are_beside ks

abbrev pub plain_if : Bool → Kind
plain_if true = plain
plain_if false = misplaced

abbrev pub shadow_if : Bool → Kind
shadow_if true = shadow
shadow_if false = misplaced

abbrev pub kind_step : Plan-F Kind → Kind
kind_step (Plan-F.Send l) = plain
kind_step (Plan-F.Reply f) = plain
kind_step (Plan-F.All plans) = plain_if (are_plain plans.items)
kind_step (Plan-F.Beside plans) = plain_if (are_led plans.items)
kind_step (Plan-F.InTurn w plans) = plain_if (are_plain plans.items)
kind_step (Plan-F.OnHit first after) = plain_if (is_plain first.value && is_plain after.value)
kind_step (Plan-F.Shadowed symbol first last target) = shadow_if (is_plain target.value)

abbrev pub kind_of : Plan → Kind
kind_of = fold-Plan Kind kind_step
