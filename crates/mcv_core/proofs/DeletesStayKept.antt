-- Deletes are kept after every list of events.
use Rattle.std.proofs.Common.{◌≡◌, ℕ, List, [], ◌∷◌, ◌++◌, Option, Some, None, refl, sym, ap, ◌∙◌, subst}
use Rattle.std.specs.Prelude.{slice_get}
use Rattle.mcv_pools.specs.Symbol.{SymbolValue}
use Rattle.mcv_route.specs.Eras.{breaks_of, since_at}
use Rattle.mcv_route.specs.Routes.{RoutesValue}
use Rattle.mcv_spool.specs.declared.record.SpoolRecord.{SpoolRecord}
use Rattle.mcv_symbolic.specs.CoveredRoutes.{AreCovered}
use Rattle.mcv_world.specs.KeptLegs.{Kept}
use Rattle.mcv_world.specs.Laws.{IsWorld}
use Rattle.mcv_world.specs.LiveWorld.{live_of}
use Rattle.mcv_world.specs.Moves.{Move, after}
use Rattle.mcv_world.specs.World.{World}
use Rattle.mcv_world.proofs.Choices.{moments_have_eras}
use Rattle.mcv_world.proofs.DeletesAreKept.{covered_worlds_are_kept}
use Rattle.mcv_events.specs.Rows.{Rows, world_of}
use Rattle.mcv_events.specs.Runs.{Runs, done, moved, no_move, opened}
use Rattle.mcv_events.proofs.CoresKeepDeletes.{cores_keep_deletes, opened_is_core}
use Rattle.mcv_core.proofs.AcknowledgedCalls.{answered_calls_are_kept}
use Rattle.mcv_core.specs.CoreView.{CoreView, Does, Moved}
use Rattle.mcv_core.specs.Opening.{known_records, opened_view}
use Rattle.mcv_core.specs.KeptDeletes.{DeletesStayKept, EventsKeepDeletes, KeepsDeletes, OpenedCoresKeepDeletes}
use Rattle.mcv_core.specs.Steps.{AreAnswered, DeletesAreKept, IsAnswered, Step, Steps, with_move, none, more}
use Rattle.mcv_core.proofs.EventsLead.{Leads, goes, stays, step_leads}
use Rattle.mcv_core.specs.declared.run.Answer.{Answer}
use Rattle.mcv_core.specs.declared.run.Event.{Event}
use Rattle.mcv_world.proofs.ForgetsSafely.{forgets_safely, moves_are_live}
use Rattle.mcv_world.proofs.MovesKeepWorlds.{moves_keep_worlds, opening_is_world}
use Rattle.mcv_world.proofs.Numbers.{no_some, same_some}
use Rattle.mcv_world.specs.Moves.{is_move}
use Rattle.mcv_world.specs.PossibleMoves.{IsPossible}
use Rattle.mcv_events.specs.Rows.{InSpool, LegRow}
use Rattle.mcv_events.specs.Runs.{OpenedRecord, spooled_row}
use Rattle.mcv_events.proofs.CoresKeepDeletes.{spooled_rows_open}
use Rattle.std.specs.Prelude.{option_map}

-- ---- one event at a time

keeps_at : (r : RoutesValue) (w : CoreView) (world : World) → w.routes ≡ r → AreCovered r → IsWorld r world → live_of r world ≡ world_of w.rows → Kept r world → KeepsDeletes w world
keeps_at r w world e covered i l k = record {
  covered = subst AreCovered (sym e) covered;
  is = subst (λ r. IsWorld r world) (sym e) i;
  live = subst (λ r. live_of r world ≡ world_of w.rows) (sym e) l;
  kept = subst (λ r. Kept r world) (sym e) k;
}

moved_keeps : (v w : CoreView) (m : Move) (world : World) → KeepsDeletes v world → Moved v w m → KeepsDeletes w (after v.routes world m)
moved_keeps v w m world k h =
    let r = v.routes in
    let possible : IsPossible r world m = record { allowed = h.allowed; move = moves_are_live r world m k.is ∙ ap (λ u. is_move r u m) k.live ∙ h.moves.is } in
    let is = moves_keep_worlds r world m k.is possible in
    keeps_at r w (after r world m) h.routes k.covered is (forgets_safely r world m k.is ∙ ap (λ u. live_of r (after r u m)) k.live ∙ sym h.moves.moves) (covered_worlds_are_kept r (after r world m) k.covered is)

pub events_keep_deletes : EventsKeepDeletes
events_keep_deletes v w None h = λ world k. keeps_at v.routes w world h.routes k.covered k.is (k.live ∙ sym h.world) k.kept
events_keep_deletes v w (Some m) h = λ world k. moved_keeps v w m world k h

-- an event that changes no row
same_rows_keep : (v w : CoreView) → w.rows ≡ v.rows → w.routes ≡ v.routes → DeletesStayKept v w None
same_rows_keep v w rows routes = λ world k. keeps_at v.routes w world routes k.covered k.is (k.live ∙ ap world_of (sym rows)) k.kept

pub leading_keeps : (v w : CoreView) (m : Option Move) → Leads v w m → DeletesStayKept v w m
leading_keeps v w m (stays rows routes) = same_rows_keep v w rows routes
leading_keeps v w m (goes n d) = events_keep_deletes v w n d

module _ (chosen : SymbolValue → List ℕ → ℕ) where
  -- the event is answered by this step
  pub answered_by : (v w : CoreView) (e : Event) (a : Answer) (m : Option Move) → Step chosen v e a m w → IsAnswered chosen v e a w
  answered_by v w e a m step = record { move = m; step = step; keeps = leading_keeps v w m (step_leads chosen v w e a m step) }

spooled_is : (o : Option OpenedRecord) (s : LegRow) → option_map spooled_row o ≡ Some s → s.state ≡ InSpool
spooled_is None s e = no_some e
spooled_is (Some x) s e = ap (λ (z : LegRow). z.state) (sym (same_some e))

pub opened_cores_keep_deletes : OpenedCoresKeepDeletes
opened_cores_keep_deletes limit r records covered =
    let known = known_records r.servers records in
    let since = since_at (breaks_of r) 0 in
    let w = opened since known in
    let era = moments_have_eras r 0 in
    let opening = spooled_rows_open r w (opened_is_core r since known) (λ k. refl) (λ n s e. spooled_is (slice_get known n) s e) era in
    let is = opening_is_world r (world_of w) opening.0 in
    record { covered = covered; is = is; live = opening.1; kept = covered_worlds_are_kept r (world_of w) covered is }

-- ---- lists of events

runs_append : (r : RoutesValue) (old mid new : Rows) (ms ns : List Move) → Runs r old ms mid → Runs r mid ns new → Runs r old (ms ++ ns) new
runs_append r old mid new [] ns (done v) further = further
runs_append r old mid new (m ∷ ms) ns (moved v u z n ks allowed step rest) further = moved v u new m (ms ++ ns) allowed step (runs_append r u mid new ms ns rest further)
runs_append r old mid new ms ns (no_move v u z ks same rest) further = no_move v u new (ms ++ ns) same (runs_append r u mid new ms ns rest further)

with_none : (ms : List Move) → ms ++ [] ≡ ms
with_none [] = refl
with_none (m ∷ ms) = ap (λ v. m ∷ v) (with_none ms)

add_move : (ms : List Move) (m : Option Move) → ms ++ with_move [] m ≡ with_move ms m
add_move ms None = with_none ms
add_move ms (Some m) = refl

record RunsTo (v w : CoreView) (m : Option Move) : Type 0 where
  pub routes : w.routes ≡ v.routes
  pub runs : Runs v.routes v.rows (with_move [] m) w.rows

does_run : (v w : CoreView) (m : Option Move) → Does v w m → RunsTo v w m
does_run v w None h = record { routes = h.routes; runs = no_move v.rows w.rows w.rows [] h.world (done w.rows) }
does_run v w (Some m) h = record { routes = h.routes; runs = moved v.rows w.rows w.rows m [] h.allowed h.moves (done w.rows) }

leading_runs : (v w : CoreView) (m : Option Move) → Leads v w m → RunsTo v w m
leading_runs v w m (stays rows routes) = record { routes = routes; runs = no_move v.rows w.rows w.rows [] (ap world_of rows) (done w.rows) }
leading_runs v w m (goes n d) = does_run v w n d

module _ (chosen : SymbolValue → List ℕ → ℕ) where
  record RunTo (start w : CoreView) (ms : List Move) : Type 0 where
    pub routes : w.routes ≡ start.routes
    pub runs : Runs start.routes start.rows ms w.rows

  steps_run : (start w : CoreView) (events : List Event) (answers : List Answer) (ms : List Move) → Steps chosen start events answers ms w → RunTo start w ms
  steps_run start w events answers ms none = record { routes = refl; runs = done start.rows }
  steps_run start w events answers ms (more es xs ns v e a m z before step) =
      let h = steps_run start v es xs ns before in
      let s = leading_runs v w m (step_leads chosen v w e a m step) in
      record {
        routes = s.routes ∙ h.routes;
        runs = subst (λ k. Runs start.routes start.rows k w.rows) (add_move ns m) (runs_append start.routes start.rows v.rows w.rows ns (with_move [] m) h.runs (subst (λ r. Runs r v.rows (with_move [] m) w.rows) h.routes s.runs));
      }

  pub deletes_are_kept : (r : RoutesValue) (records : List (ℕ × SpoolRecord)) (events : List Event) (answers : List Answer) (w : CoreView) → AreCovered r → AreAnswered chosen (opened_view r records) events answers w
      → DeletesAreKept chosen (opened_view r records) events answers w
  deletes_are_kept r records events answers w covered h =
      let q = cores_keep_deletes r (since_at (breaks_of r) 0) (known_records r.servers records) h.moves w.rows covered (moments_have_eras r 0) (steps_run (opened_view r records) w events answers h.moves h.steps).runs in
      let o = opened_cores_keep_deletes 1 r records covered in
      record { moves = h.moves; steps = h.steps; kept = q.0; acknowledged = answered_calls_are_kept r chosen (opened_view r records) w (world_of (opened_view r records).rows) events answers h.moves covered o.is o.live refl h.steps; live = q.1 }

  -- one event more
  pub answer_more : (start v w : CoreView) (events : List Event) (answers : List Answer) (e : Event) (a : Answer) → AreAnswered chosen start events answers v → IsAnswered chosen v e a w → AreAnswered chosen start (events ++ e ∷ []) (answers ++ a ∷ []) w
  answer_more start v w events answers e a before one = record { moves = with_move before.moves one.move; steps = more events answers before.moves v e a one.move w before.steps one.step }
