-- What a leg of a running call asks.
use Rattle.std.proofs.Common.{◌≡◌, IfOk, ℕ, List, [], ◌∷◌, Option, Some, None, Result, Ok, Err, fold, map, option_map, refl, sym, ap, ◌∙◌}
use Rattle.std.specs.Prelude.{option_and_then, slice_get, unwrap_or}
use Rattle.std.specs.Arc.{arc_value}
use Rattle.std.specs.declared.alloc.AllocError.{AllocError}
use Rattle.mcv_base.specs.declared.operation.Op.{Op}
use Rattle.mcv_base.specs.declared.request.LegRequest.{LegRequest}
use Rattle.mcv_base.specs.declared.request.Request.{Request}
use Rattle.mcv_route.specs.declared.launch.Launch.{Launch}
use Rattle.mcv_route.specs.Routes.{RoutesValue}
use Rattle.mcv_route.specs.Situation.{Situation}
use Rattle.mcv_route.specs.Tree.{Tree, error}
use Rattle.mcv_queues.specs.declared.leg.Leg.{Leg}
use Rattle.mcv_queues.specs.Queues.{legs}
use Rattle.mcv_world.specs.World.{Recorded, situation_of, tree_of}
use Rattle.mcv_asks.specs.Asks.{Fields, client_fields, fields_at, fields_in, fields_of}
use Rattle.mcv_asks.specs.WarmUps.{warm_up_of}
use Rattle.mcv_core.specs.declared.call.Call.{Call}
use Rattle.mcv_core.specs.declared.call.Recorded.{Recorded as Kept}
use Rattle.mcv_core.specs.declared.dispatcher.Dispatcher.{Dispatcher}
use Rattle.mcv_core.specs.declared.errand.Errand.{Errand}
use Rattle.mcv_core.specs.Calls.{calls_at}
use Rattle.mcv_core.specs.Errands.{launch_of}
use Rattle.mcv_core.specs.Readers.{request_in}
use Rattle.mcv_core.specs.Requests.{asked_at, asked_by, asked_in_row, asked_of, fields_at_row, fields_by}
use Rattle.mcv_core.specs.Rows.{call_of, call_row, call_rows, entries_of, recorded_next, recorded_one, row_by, state_of}
use Rattle.mcv_core.specs.View.{core_view}

-- ErrorRoute sends no add
adds_not : (p : List ℕ) → warm_up_of error p ≡ None
adds_not [] = refl
adds_not (k ∷ p) = refl

pub without_route : (t : Tree) (s : Situation) (q : Option Request) (hs : List Recorded) (p : List ℕ) → t ≡ error → client_fields q ≡ fields_of t s q hs p
without_route t s q hs p e = rw e (ap (fields_at q s hs p) (sym (adds_not p)))

pub without_place : (t : Tree) (s : Situation) (q : Option Request) (hs : List Recorded) (p : List ℕ) → p ≡ [] → client_fields q ≡ fields_of t s q hs p
without_place t s q hs p e = rw e refl

pub route_there : (r : RoutesValue) (n : ℕ) (t : Tree) → Some t ≡ option_map (λ e. e.tree) (slice_get r.entries n) → t ≡ tree_of r n
route_there r n t e = ap (λ o. unwrap_or o error) e

pub no_route : (r : RoutesValue) (n : ℕ) → None ≡ option_map (λ e. e.tree) (slice_get r.entries n) → tree_of r n ≡ error
no_route r n e = ap (λ o. unwrap_or o error) (sym e)

-- its parts one by one
pub by_parts : (x : Result LegRequest AllocError) (op : Op) (rest : List ℕ) (f : Fields) → IfOk x (λ r. r.op ≡ op) → IfOk x (λ r. arc_value r.rest ≡ rest) → IfOk x (λ r. fields_in r ≡ f)
    → IfOk x (λ r. asked_by r ≡ record { op = op; rest = rest; fields = f })
by_parts (Ok r) op rest f a b c =
    ap (λ v. record { op = v; rest = arc_value r.rest; fields = fields_in r }) a ∙ ap (λ v. record { op = op; rest = v; fields = fields_in r }) b ∙ ap (λ v. record { op = op; rest = rest; fields = v }) c
by_parts (Err e) op rest f a b c = c

-- ---- memory and view

-- in front of others
abbrev recorded_before : List Launch → List Kept → List Recorded → List Recorded
recorded_before es [] rs = rs
recorded_before es (h ∷ hs) rs = recorded_one es h ∷ recorded_before es hs rs

turned_twice : (es : List Launch) (hs : List Kept) (all rs : List Recorded) → fold (λ (xs : List Recorded) (x : Recorded). x ∷ xs) rs (fold (recorded_next es) all hs) ≡ fold (λ (xs : List Recorded) (x : Recorded). x ∷ xs) (recorded_before es hs rs) all
turned_twice es [] all rs = refl
turned_twice es (h ∷ hs) all rs = turned_twice es hs (recorded_one es h ∷ all) rs

before_none : (es : List Launch) (hs : List Kept) → recorded_before es hs [] ≡ map (recorded_one es) hs
before_none es [] = refl
before_none es (h ∷ hs) = ap (λ rs. recorded_one es h ∷ rs) (before_none es hs)

-- the newest first, turned round
oldest_first : (es : List Launch) (hs : List Kept) → map (recorded_one es) hs ≡ fold (λ (xs : List Recorded) (x : Recorded). x ∷ xs) [] (fold (recorded_next es) [] hs)
oldest_first es hs = sym (turned_twice es hs [] [] ∙ before_none es hs)

module _ (d : Dispatcher) (l : Leg Errand) where
  by_call : (o : Option Call) → fields_by (arc_value d.accepted) l.content o ≡ fields_at_row (arc_value d.accepted) (row_by state_of l) (option_map call_row o)
  by_call None = refl
  by_call (Some c) =
      ap (λ hs. fields_of (tree_of (arc_value d.accepted) c.route) (situation_of (call_of c)) (request_in l.content) hs (launch_of l.content).position) (oldest_first (entries_of c) c.recorded.items)

  by_number : (k : Option ℕ) → fields_by (arc_value d.accepted) l.content (option_and_then (calls_at d.calls) k) ≡ fields_at_row (arc_value d.accepted) (row_by state_of l) (option_and_then (call_rows (calls_at d.calls)) k)
  by_number None = refl
  by_number (Some k) = by_call (calls_at d.calls k)

  -- what a leg asks, as memory has it, is what its row asks
  pub asked_as_seen : asked_of (arc_value d.accepted) (calls_at d.calls) l.content ≡ asked_in_row (core_view d) (row_by state_of l)
  asked_as_seen = ap (λ f. record { op = (launch_of l.content).op; rest = arc_value (arc_value l.content.laid).rest; fields = f }) (by_number l.content.call)

pub asked_there : (d : Dispatcher) (n : ℕ) (l : Leg Errand) → Some l ≡ legs d.queues n → Some (asked_of (arc_value d.accepted) (calls_at d.calls) l.content) ≡ asked_at d n
asked_there d n l at = ap Some (asked_as_seen d l) ∙ ap (λ o. option_map (asked_in_row (core_view d)) (option_map (row_by state_of) o)) at

pub none_asked : (d : Dispatcher) (n : ℕ) → None ≡ legs d.queues n → None ≡ asked_at d n
none_asked d n at = ap (λ o. option_map (asked_in_row (core_view d)) (option_map (row_by state_of) o)) at
