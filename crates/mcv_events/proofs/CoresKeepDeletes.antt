-- Deletes are kept after every list of events on a core's rows.
use Rattle.std.proofs.Common.{◌≡◌, inl, inr, ℕ, ◌<◌, [], ◌∷◌, Option, Some, None, option_map, refl, sym, ap, ◌∙◌, true≢false}
use Rattle.std.specs.Prelude.{slice_get}
use Rattle.std.proofs.lemmas.Bool.{cases_lt}
use Rattle.std.proofs.lemmas.Option.{slice_get_past}
use Rattle.mcv_route.specs.Routes.{RoutesValue}
use Rattle.mcv_world.specs.World.{Leg, is_counted_delete}
use Rattle.mcv_world.specs.Moves.{is_move, after, run}
use Rattle.mcv_world.specs.LiveWorld.{live_of}
use Rattle.mcv_world.specs.PossibleMoves.{IsPossible}
use Rattle.mcv_events.specs.Rows.{LegRow, Rows, leg_state, leg_of, world_of, is_unanswered, IsCore}
use Rattle.mcv_events.specs.Runs.{OpenedRecord, spooled_row, opened, done, moved, no_move, RunsAreMoves, OpenedIsCore, SpooledRowsOpen, CoresKeepDeletes}
use Rattle.mcv_world.proofs.Numbers.{same_some, no_some}
use Rattle.mcv_world.proofs.MovesKeepWorlds.{opening_is_world, moves_keep_worlds, run_world}
use Rattle.mcv_world.proofs.ForgetsSafely.{forgets_safely, moves_are_live}
use Rattle.mcv_world.proofs.DeletesAreKept.{covered_worlds_are_kept}
use Rattle.mcv_events.proofs.EventsAreMoves.{world_of_is_live}

pub runs_are_moves : RunsAreMoves
runs_are_moves r old new [] (done v) w i e = (tt, e)
runs_are_moves r old new (m ∷ ms) (moved v mid z n ns allowed step more) w i e =
    let possible : IsPossible r w m = record { allowed = allowed; move = moves_are_live r w m i ∙ ap (λ u. is_move r u m) e ∙ step.is } in
    let left : live_of r (after r w m) ≡ world_of mid = forgets_safely r w m i ∙ ap (λ u. live_of r (after r u m)) e ∙ sym step.moves in
    let rest = runs_are_moves r mid new ms more (after r w m) (moves_keep_worlds r w m i possible) left in
    ((possible, rest.0), rest.1)
runs_are_moves r old new ms (no_move v mid z ns same more) w i e = runs_are_moves r mid new ms more w i (e ∙ sym same)

spooled_is : (o : Option OpenedRecord) (s : LegRow) → option_map spooled_row o ≡ Some s → (x : OpenedRecord) × (o ≡ Some x) × (spooled_row x ≡ s)
spooled_is None s e = no_some e
spooled_is (Some x) s e = (x, refl, same_some e)

pub opened_is_core : OpenedIsCore
opened_is_core r since records =
    record {
      calls_below = λ k high. refl;
      legs_below = λ n high. ap (option_map spooled_row) (slice_get_past records n high);
      call = λ k c e. no_some e;
      own = λ n s k c e f g. no_some g;
      awaited = λ n s e o. let q = spooled_is (slice_get records n) s e in absurd (true≢false (sym o ∙ ap (λ (v : LegRow). is_unanswered v.state) (sym q.2)));
      counted = λ n s e o. let q = spooled_is (slice_get records n) s e in ap (λ (v : LegRow). is_counted_delete (leg_of v)) (sym q.2);
      owner = λ n s k e f. let q = spooled_is (slice_get records n) s e in no_some (ap (λ v. v.call) q.2 ∙ f);
    }

leg_of_is : (o : Option LegRow) (s : Leg) → option_map leg_of o ≡ Some s → (z : LegRow) × (o ≡ Some z) × (leg_of z ≡ s)
leg_of_is None s e = no_some e
leg_of_is (Some z) s e = (z, refl, same_some e)

leg_below : (r : RoutesValue) (w : Rows) → IsCore r w → (n : ℕ) (z : LegRow) → w.legs n ≡ Some z → n < w.next_leg
leg_below r w i n z e = elim (cases_lt n w.next_leg) [ inl low ↦ low | inr high ↦ no_some (sym (i.legs_below n high) ∙ e) ]

pub spooled_rows_open : SpooledRowsOpen
spooled_rows_open r w i none spooled era = (
  record {
    calls = λ k. ap (option_map (λ c. c.call)) (none k);
    spooled = λ n s e. let q = leg_of_is (w.legs n) s e in ap (λ v. v.state) (sym q.2) ∙ ap leg_state (spooled n q.0 q.1);
    number = λ n s e. let q = leg_of_is (w.legs n) s e in leg_below r w i n q.0 q.1;
    owner = λ n s k e f. let q = leg_of_is (w.legs n) s e in i.owner n q.0 k q.1 (ap (λ v. v.call) q.2 ∙ f);
    era = era;
  },
  sym (world_of_is_live r w i),
)

pub cores_keep_deletes : CoresKeepDeletes
cores_keep_deletes r since records ms new covered era runs =
    let w = opened since records in
    let opening = spooled_rows_open r w (opened_is_core r since records) (λ k. refl) (λ n s e. let q = spooled_is (slice_get records n) s e in ap (λ v. v.state) (sym q.2)) era in
    let world = opening_is_world r (world_of w) opening.0 in
    let q = runs_are_moves r w new ms runs (world_of w) world opening.1 in
    (covered_worlds_are_kept r (run r (world_of w) ms) covered (run_world r (world_of w) ms world q.0), q.1)
