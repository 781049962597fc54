-- A handle, by the levels and the room that are left.
use Rattle.std.proofs.Common.{◌≡◌, ℕ, zero, suc, ◌-◌, ◌<◌, List, refl, arith}
use Rattle.serde_json.specs.Data.{Data}
use Rattle.serde_json.specs.Find.{as_str, as_object}
use Rattle.mcv_names.specs.declared.fault.FaultKind.TheVariants.{Limit}
use Rattle.mcv_names.specs.Fault.{Read, refused}
use Rattle.mcv_config.specs.ConfigValue.{Named}
use Rattle.mcv_config.specs.Routes.{route, handle_of, in_room}
use Rattle.mcv_config.specs.Walk.{SoFar, taken}

no_room : (room : ℕ) (path : List ℕ) (r : Read (Named × SoFar)) → room ≡ 0 → in_room room path r ≡ refused Limit path
no_room zero path r h = refl
no_room (suc room) path r h = absurd (omega arith)

some_room : (room : ℕ) (path : List ℕ) (r : Read (Named × SoFar)) → 0 < room → in_room room path r ≡ r
some_room zero path r h = absurd (omega arith)
some_room (suc room) path r h = refl

pub route-no_levels : (w : SoFar) (path : List ℕ) (d : Data) → route 0 w path d ≡ refused Limit path
unfolding route
route-no_levels w path d = refl

pub route-no_room : (depth : ℕ) (w : SoFar) (path : List ℕ) (d : Data) → w.room ≡ 0 → route depth w path d ≡ refused Limit path
unfolding route
route-no_room zero w path d h = refl
route-no_room (suc depth) w path d h = no_room w.room path (handle_of depth (route depth) (taken 1 w) path d (as_str d) (as_object d)) h

pub route-at : (depth : ℕ) (w : SoFar) (path : List ℕ) (d : Data) → 0 < depth → 0 < w.room
    → route depth w path d ≡ handle_of (depth - 1) (route (depth - 1)) (taken 1 w) path d (as_str d) (as_object d)
unfolding route
route-at zero w path d h k = absurd (omega arith)
route-at (suc depth) w path d h k =
    let a : suc depth - 1 ≡ depth = omega arith in
    rw a (some_room w.room path (handle_of depth (route depth) (taken 1 w) path d (as_str d) (as_object d)) k)

pub ruleset levels = (route-no_levels, route-no_room, route-at)
