-- Histories that are one entry longer, and what holds of each.
use Rattle.std.proofs.Common.{◌≡◌, ◌∙◌, ◌⊎◌, inl, inr, ℕ, ◌+◌, ◌<◌, ◌≤◌, ◌^◌, Bool, true, false, List, [], ◌∷◌, ◌++◌, Option, Some, None, Result, Ok, Err, count_by, cond, refl, ap, sym, subst, arith}
use Rattle.std.specs.Prelude.{option_and_then, option_map, slice_get}
use Rattle.std.specs.Arc.{arc_value}
use Rattle.std.specs.declared.alloc.Global.{Global}
use Rattle.std.specs.declared.sync.Arc.{Arc}
use Rattle.std.proofs.lemmas.List.Sums.{sum_by-append}
use Rattle.mcv_base.specs.Reply.{ReplyValue, part_value}
use Rattle.mcv_base.specs.declared.reply.Part.{Part}
use Rattle.mcv_base.specs.declared.request.CallId.{CallId}
use Rattle.mcv_base.specs.declared.request.LegId.{LegId}
use Rattle.mcv_base.specs.declared.request.Moment.{Moment}
use Rattle.mcv_base.specs.declared.request.Request.{Request}
use Rattle.mcv_base.specs.declared.request.ServerId.{ServerId}
use Rattle.mcv_pools.specs.Hash.{fnv_index}
use Rattle.mcv_pools.specs.Symbol.{SymbolValue}
use Rattle.mcv_route.specs.Routes.{RoutesValue}
use Rattle.mcv_symbolic.specs.CoveredRoutes.{AreCovered}
use Rattle.mcv_world.proofs.Choices.{moments_have_eras}
use Rattle.mcv_world.proofs.Numbers.{no_some, same_some}
use Rattle.mcv_route.specs.Eras.{breaks_of, since_at}
use Rattle.mcv_spool.specs.declared.record.SpoolRecord.{SpoolRecord}
use Rattle.mcv_world.specs.World.{Call, World, reply_of}
use Rattle.mcv_world.specs.Moves.{Move, Answered as answered_move, Began, Taken as taken_move, is_move, after, run}
use Rattle.mcv_world.specs.LiveWorld.{has_ended, running, live_of}
use Rattle.mcv_world.specs.PossibleMoves.{IsPossible, ArePossible}
use Rattle.mcv_world.specs.Laws.{HasReply, IsWorld}
use Rattle.mcv_world.proofs.MovesKeepWorlds.{opening_is_world, run_world}
use Rattle.mcv_world.proofs.ForgetsSafely.{forgets_safely, moves_are_live}
use Rattle.mcv_world.proofs.DeletesAreKept.{covered_worlds_are_kept}
use Rattle.mcv_events.specs.Rows.{InSpool, LegRow, world_of}
use Rattle.mcv_events.specs.Runs.{OpenedRecord, opened, spooled_row}
use Rattle.mcv_events.proofs.CoresKeepDeletes.{opened_is_core, spooled_rows_open}
use Rattle.mcv_core.specs.Opening.{known_records, opened_within}
use Rattle.mcv_core.specs.CoreView.{CoreView, Moved, Does, IsQuiet, change_move}
use Rattle.mcv_core.specs.Chapters.{era_move}
use Rattle.mcv_core.specs.Asking.{IsUnbegun}
use Rattle.mcv_core.specs.Events.{IsBegun, IsClocked, IsNext, IsReplay, IsTaken, Turns, step_move}
use Rattle.mcv_core.specs.Events as events
use Rattle.mcv_core.specs.View.{core_view}
use Rattle.mcv_core.proofs.EventsLead.{Leads, goes, nothing_leads, stays}
use Rattle.mcv_core.specs.declared.fault.CoreFault.{CoreFault}
use Rattle.mcv_core.specs.declared.fault.CoreFault.TheVariants.{NoSuchCall}
use Rattle.mcv_core.specs.declared.step.Step.{Step}
use Rattle.mcv_core.specs.declared.turn.Era.{Era}
use Rattle.mcv_core.specs.declared.step.Change.{Change}
use Rattle.mcv_core.specs.declared.step.Change.TheVariants.{Nothing, Answered, Spooled, Refused, Performed}
use Rattle.mcv_hub.specs.declared.entry.Entry.{Entry}
use Rattle.mcv_hub.specs.declared.entry.Entry.TheVariants as entries
use Rattle.mcv_hub.specs.Events.{BeginsChapter, IsHubEvent}
use Rattle.mcv_hub.specs.History.{Begins, IsMoveOf, IsHistory, IsHistoryFrom, Writes, answer_change, answer_era, begins_one, begun_by, none, more, is_began, is_taken, taken_by, takes_one, with_entry, written, entries_in, leg_entry, era_entry}
use Rattle.mcv_hub.specs.RemainingEntries.{break_count, may_write}
use Rattle.mcv_hub.specs.State.{HasRoom, HistoryKeepsDeletes, HubView, IsHub, IsOpenedAs, IsSameChapter}
use Rattle.mcv_hub.proofs.EventsMayWrite.{Goes, GoesOn}

run-push : (r : RoutesValue) (w : World) (ms : List Move) (m : Move) → run r w (ms ++ m ∷ []) ≡ after r (run r w ms) m
run-push r w [] m = refl
run-push r w (x ∷ ms) m = run-push r (after r w x) ms m

possible-push : (r : RoutesValue) (w : World) (ms : List Move) (m : Move) → ArePossible r w ms → IsPossible r (run r w ms) m → ArePossible r w (ms ++ m ∷ [])
possible-push r w [] m legal may = (may, tt)
possible-push r w (x ∷ ms) m legal may = (legal.0, possible-push r (after r w x) ms m legal.1 may)

-- the replay of a legal history is a world
pub history_is_world : (r : RoutesValue) (opening live : World) (es : List Entry) (h : IsHistoryFrom r opening live es) → IsWorld r (run r opening h.moves)
history_is_world r opening live es h = run_world r opening h.moves (opening_is_world r opening h.opens) h.legal

one_more : (v w : CoreView) (opening : World) (es : List Entry) (e : Entry) (m : Move) → IsHistoryFrom v.routes opening (world_of v.rows) es → Moved v w m → IsMoveOf v.routes e m → IsHistoryFrom v.routes opening (world_of w.rows) (es ++ e ∷ [])
one_more v w opening es e m h moved is =
    let r = v.routes in
    let u = run r opening h.moves in
    let world = history_is_world r opening (world_of v.rows) es h in
    let may : IsPossible r u m = record { allowed = moved.allowed; move = moves_are_live r u m world ∙ ap (λ z. is_move r z m) h.replays ∙ moved.moves.is } in
    record {
      moves = h.moves ++ m ∷ [];
      are = more es h.moves e m h.are is;
      opens = h.opens;
      legal = possible-push r opening h.moves m h.legal may;
      replays = ap (live_of r) (run-push r opening h.moves m) ∙ forgets_safely r u m world ∙ ap (λ z. live_of r (after r z m)) h.replays ∙ sym moved.moves.moves;
    }

-- ---- an event that may be a move

module _ (v w : CoreView) (opening : World) (es es2 : List Entry) (h : IsHistoryFrom v.routes opening (world_of v.rows) es) where
  history_stays : w.routes ≡ v.routes → world_of w.rows ≡ world_of v.rows → es2 ≡ es → IsHistoryFrom w.routes opening (world_of w.rows) es2
  history_stays routes world same =
      subst (λ r. IsHistoryFrom r opening (world_of w.rows) es2) (sym routes) (subst (λ z. IsHistoryFrom v.routes opening z es2) (sym world) (subst (λ z. IsHistoryFrom v.routes opening (world_of v.rows) z) (sym same) h))

  history_does : (m : Option Move) → Does v w m → Writes v.routes es m es2 → IsHistoryFrom w.routes opening (world_of w.rows) es2
  history_does None d same = history_stays d.routes d.world same
  history_does (Some m) d one =
      subst (λ r. IsHistoryFrom r opening (world_of w.rows) es2) (sym d.routes) (subst (λ z. IsHistoryFrom v.routes opening (world_of w.rows) z) (sym one.at_end) (one_more v w opening es one.entry m h d one.is))

  -- the history leads to the view after it, from the same world
  pub history_goes : (m : Option Move) → Leads v w m → Writes v.routes es m es2 → IsHistoryFrom w.routes opening (world_of w.rows) es2
  history_goes m (stays rows routes) writes = history_stays routes (ap world_of rows) writes
  history_goes m (goes n d) writes = history_does n d writes

leads_routes : (v w : CoreView) (m : Option Move) → Leads v w m → w.routes ≡ v.routes
leads_routes v w m (stays rows routes) = routes
leads_routes v w m (goes None d) = d.routes
leads_routes v w m (goes (Some n) d) = d.routes

-- ---- what the books count

count-push : (f : Entry → Bool) (es : List Entry) (e : Entry) → count_by f (es ++ e ∷ []) ≡ count_by f es + count_by f (e ∷ [])
count-push f es e = sum_by-append (λ x. cond (f x) 1 0) es (e ∷ [])

entry_begins : (r : RoutesValue) (e : Entry) (m : Move) → IsMoveOf r e m → count_by is_began (e ∷ []) ≡ begins_one m
entry_begins r (entries.Began request key) m h = sym (ap begins_one h.is)
entry_begins r (entries.Answered leg reply) m h = sym (ap begins_one h)
entry_begins r (entries.Spooled leg) m h = sym (ap begins_one h)
entry_begins r (entries.Refused leg) m h = sym (ap begins_one h)
entry_begins r (entries.Performed leg) m h = sym (ap begins_one h)
entry_begins r (entries.EraBegan era) m h = sym (ap begins_one h)
entry_begins r (entries.Taken call) m h = sym (ap begins_one h)

entry_takes : (r : RoutesValue) (e : Entry) (m : Move) → IsMoveOf r e m → count_by is_taken (e ∷ []) ≡ takes_one m
entry_takes r (entries.Began request key) m h = sym (ap takes_one h.is)
entry_takes r (entries.Answered leg reply) m h = sym (ap takes_one h)
entry_takes r (entries.Spooled leg) m h = sym (ap takes_one h)
entry_takes r (entries.Refused leg) m h = sym (ap takes_one h)
entry_takes r (entries.Performed leg) m h = sym (ap takes_one h)
entry_takes r (entries.EraBegan era) m h = sym (ap takes_one h)
entry_takes r (entries.Taken call) m h = sym (ap takes_one h)

begun_counted : (r : RoutesValue) (es es2 : List Entry) (m : Option Move) → Writes r es m es2 → count_by is_began es2 ≡ count_by is_began es + begun_by m
begun_counted r es es2 None same = let c = ap (count_by is_began) same in omega (arith, c)
begun_counted r es es2 (Some m) one = let c = ap (count_by is_began) one.at_end ∙ count-push is_began es one.entry in let b = entry_begins r one.entry m one.is in omega (arith, c, b)

taken_counted : (r : RoutesValue) (es es2 : List Entry) (m : Option Move) → Writes r es m es2 → count_by is_taken es2 ≡ count_by is_taken es + taken_by m
taken_counted r es es2 None same = let c = ap (count_by is_taken) same in omega (arith, c)
taken_counted r es es2 (Some m) one = let c = ap (count_by is_taken) one.at_end ∙ count-push is_taken es one.entry in let b = entry_takes r one.entry m one.is in omega (arith, c, b)

-- ---- what holds of the hub after an event

pub hub_goes : (v w : CoreView) (es es2 : List Entry) (c b t bb tb b2 t2 : ℕ) (m : Option Move) → IsHub v es c b t bb tb → Leads v w m → w.chapter ≡ v.chapter → Writes v.routes es m es2 → b2 ≡ b + begun_by m → t2 ≡ t + taken_by m
    → IsHub w es2 c b2 t2 bb tb
hub_goes v w es es2 c b t bb tb b2 t2 m h leads chapter writes more_begun more_taken =
    let b_is = h.begun_is in
    let t_is = h.taken_is in
    let b_counted = begun_counted v.routes es es2 m writes in
    let t_counted = taken_counted v.routes es es2 m writes in
    record {
      covered = subst AreCovered (sym (leads_routes v w m leads)) h.covered;
      legal = record { opening = h.legal.opening; from = history_goes v w h.legal.opening es es2 h.legal.from m leads writes };
      chapter_is = h.chapter_is ∙ sym chapter;
      begun_is = omega (arith, b_is, b_counted, more_begun);
      taken_is = omega (arith, t_is, t_counted, more_taken);
      begun_small = h.begun_small;
      taken_small = h.taken_small;
    }

-- that opened a chapter
pub hub_after_turn : (v w : CoreView) (c b t bb tb : ℕ) → AreCovered v.routes → w.routes ≡ v.routes → IsQuiet w → c ≡ w.chapter → bb ≡ b → tb ≡ t → bb < 2 ^ 63 → tb < 2 ^ 63 → IsHub w [] c b t bb tb
hub_after_turn v w c b t bb tb covered same q chapter e f small few =
    record {
      covered = subst AreCovered (sym same) covered;
      legal = record { opening = world_of w.rows; from = record { moves = []; are = none; opens = q.0; legal = tt; replays = q.1 } };
      chapter_is = chapter;
      begun_is = omega (arith, e);
      taken_is = omega (arith, f);
      begun_small = small;
      taken_small = few;
    }

-- ---- the room after an event

pub room_same : (v w : CoreView) (len capacity places : ℕ) → w ≡ v → HasRoom len capacity places (may_write v) → HasRoom len capacity places (may_write w)
room_same v w len capacity places same h = subst (λ z. HasRoom len capacity places (may_write z)) (sym same) h

-- as many entries were written as fewer may still be written
pub room_stays : (len len' capacity capacity' places may_write may_write' written : ℕ) → HasRoom len capacity places may_write → may_write' + written ≤ may_write → len' ≡ len + written → capacity' ≡ capacity → HasRoom len' capacity' places may_write'
room_stays len len' capacity capacity' places may_write may_write' written h spent longer same =
    record { within = omega (arith, h.within, spent, longer); kept = omega (arith, h.kept, same); small = h.small }

-- what is written has its place
pub write_fits : (len capacity places before after n : ℕ) → HasRoom len capacity places before → after + n ≤ before → len + n ≤ capacity
write_fits len capacity places before after n h spent = let within = h.within in let kept = h.kept in omega (arith, within, kept, spent)

-- ---- what a legal history says

-- a call that is left is the world's
running_is : (r : RoutesValue) (o : Option Call) (call : Call) → running r o ≡ Some call → o ≡ Some call
running_is r None call e = e
running_is r (Some c) call e = by_cases (has_ended r c) e
  where
    by_cases : (b : Bool) → cond b None (Some c) ≡ Some call → Some c ≡ Some call
    by_cases true f = absurd (cc)
    by_cases false f = f

reply_at : (r : RoutesValue) (o p : Option Call) (x : ReplyValue) → running r o ≡ p → option_and_then (reply_of r) p ≡ Some x → HasReply r o x
reply_at r o None x e f = absurd (cc)
reply_at r o (Some call) x e f = record { call = call; is = running_is r o call e; reply = f }

-- the reply in what is left of a world is the reply in the world
pub reply_of_world : (r : RoutesValue) (live w : World) (k : ℕ) (x : ReplyValue) → live_of r w ≡ live → option_and_then (reply_of r) (live.calls k) ≡ Some x → HasReply r (w.calls k) x
reply_of_world r live w k x left f = reply_at r (w.calls k) (live.calls k) x (ap (λ u. u.calls k) left) f

-- deletes are kept in the replay of a legal history
pub history_keeps_deletes : (v : CoreView) (es : List Entry) → AreCovered v.routes → IsHistory v.routes (world_of v.rows) es → HistoryKeepsDeletes v es
history_keeps_deletes v es covered h =
    let is = history_is_world v.routes h.opening (world_of v.rows) es h.from in
    record { legal = h; keeps = record { covered = covered; is = is; live = h.from.replays; kept = covered_worlds_are_kept v.routes (run v.routes h.opening h.from.moves) covered is } }

-- ---- what events leave of the state's invariant

abbrev pub Holds : (start v : CoreView) (es : List Entry) (c b t bb tb len capacity places breaks : ℕ) → Type 0
Holds start v es c b t bb tb len capacity places breaks = IsHub v es c b t bb tb × HasRoom len capacity places (may_write v) × (breaks ≡ break_count v.routes) × IsOpenedAs start v es c

-- it stays the hub that was opened so
opened_goes : (start v w : CoreView) (es es2 : List Entry) (c : ℕ) (m : Option Move) → Leads v w m → w.limit ≡ v.limit → Writes v.routes es m es2 → IsOpenedAs start v es c → IsOpenedAs start w es2 c
opened_goes start v w es es2 c m leads limit writes h = record { routes = leads_routes v w m leads ∙ h.routes; limit = limit ∙ h.limit; from = λ first. history_goes v w (world_of start.rows) es es2 (h.from first) m leads writes }

opened_same : (start v w : CoreView) (es es2 : List Entry) (c : ℕ) → w ≡ v → es2 ≡ es → IsOpenedAs start v es c → IsOpenedAs start w es2 c
opened_same start v w es es2 c same items h = subst (λ z. IsOpenedAs start z es2 c) (sym same) (subst (λ z. IsOpenedAs start v z c) (sym items) h)

-- no later chapter is the first one
opened_turns : (start v w : CoreView) (es es2 : List Entry) (c c' : ℕ) → w.routes ≡ v.routes → w.limit ≡ v.limit → 0 < c' → IsOpenedAs start v es c → IsOpenedAs start w es2 c'
opened_turns start v w es es2 c c' same limit later h = record { routes = same ∙ h.routes; limit = limit ∙ h.limit; from = λ first. absurd (omega (arith, later, first)) }

module _ {start : CoreView} (v w : CoreView) (es : List Entry) (c b t bb tb len capacity places breaks : ℕ) (h : Holds start v es c b t bb tb len capacity places breaks) where
  -- an event that doesn't begin a call
  pub goes_holds : (m : Option Move) → Goes v w m → (es2 : List Entry) (b2 t2 len2 capacity2 : ℕ) → Writes v.routes es m es2 → b2 ≡ b + begun_by m → t2 ≡ t + taken_by m → len2 ≡ len + written m → capacity2 ≡ capacity
      → Holds start w es2 c b2 t2 bb tb len2 capacity2 places breaks
  goes_holds m g es2 b2 t2 len2 capacity2 writes more_begun more_taken longer kept = (
    hub_goes v w es es2 c b t bb tb b2 t2 m h.0 g.leads g.chapter writes more_begun more_taken,
    room_stays len len2 capacity capacity2 places (may_write v) (may_write w) (written m) h.1 g.spent longer kept,
    h.2 ∙ ap break_count (sym (leads_routes v w m g.leads)),
    opened_goes start v w es es2 c m g.leads g.same_limit writes h.3,
  )

  -- a call that began
  pub begin_holds : (m : Option Move) → GoesOn v w m → (es2 : List Entry) (b2 t2 len2 capacity2 places2 : ℕ) → Writes v.routes es m es2 → b2 ≡ b + begun_by m → t2 ≡ t + taken_by m → len2 ≡ len + written m
      → places2 ≤ capacity2 → places2 ≤ 2 ^ 62 → places2 + v.entries ≡ places + w.entries → Holds start w es2 c b2 t2 bb tb len2 capacity2 places2 breaks
  begin_holds m g es2 b2 t2 len2 capacity2 places2 writes more_begun more_taken longer kept small grown = (
    hub_goes v w es es2 c b t bb tb b2 t2 m h.0 g.leads g.chapter writes more_begun more_taken,
    let within = h.1.within in
        let spent = g.spent in
        record { within = omega (arith, within, spent, longer, grown); kept = kept; small = small },
    h.2 ∙ ap break_count (sym (leads_routes v w m g.leads)),
    opened_goes start v w es es2 c m g.leads g.same_limit writes h.3,
  )

  -- a call that was refused, when the history had more room
  pub refused_holds : w ≡ v → (es2 : List Entry) (len2 capacity2 : ℕ) → es2 ≡ es → len2 ≡ len → capacity ≤ capacity2 → Holds start w es2 c b t bb tb len2 capacity2 places breaks
  refused_holds same es2 len2 capacity2 items longer grown = (
    subst (λ z. IsHub z es2 c b t bb tb) (sym same) (subst (λ z. IsHub v z c b t bb tb) (sym items) h.0),
    let room = room_same v w len capacity places same h.1 in
        let within = room.within in
        let kept = room.kept in
        record { within = omega (arith, within, longer); kept = omega (arith, kept, grown); small = room.small },
    h.2 ∙ ap (λ z. break_count z.routes) (sym same),
    opened_same start v w es es2 c same items h.3,
  )

  -- a chapter that began
  pub turn_holds : (es' : List Entry) (c' places' bb' tb' len' capacity' : ℕ) → w.routes ≡ v.routes → w.limit ≡ v.limit → IsQuiet w → 0 < c' → c' ≡ w.chapter → bb' ≡ b → tb' ≡ t → bb' < 2 ^ 63 → tb' < 2 ^ 63 → may_write w ≤ may_write v → places' ≤ places
      → (places' ≡ places) ⊎ (may_write w ≤ places') → es' ≡ [] → len' ≡ 0 → places' ≤ capacity' → Holds start w es' c' b t bb' tb' len' capacity' places' breaks
  turn_holds es' c' places' bb' tb' len' capacity' same limit q later chapter begun taken small few less lesser either empty zero kept = (
    subst (λ z. IsHub w z c' b t bb' tb') (sym empty) (hub_after_turn v w c' b t bb' tb' h.0.covered same q chapter begun taken small few),
    let within = h.1.within in
        let least = h.1.small in
        record {
          within = elim either [ inl e ↦ omega (arith, within, less, zero, e) | inr e ↦ omega (arith, zero, e) ];
          kept = kept;
          small = omega (arith, least, lesser);
        },
    h.2 ∙ ap break_count (sym same),
    opened_turns start v w es es' c c' same limit later h.3,
  )

spooled_is : (o : Option OpenedRecord) (s : LegRow) → option_map spooled_row o ≡ Some s → s.state ≡ InSpool
spooled_is None s e = no_some e
spooled_is (Some x) s e = ap (λ (z : LegRow). z.state) (sym (same_some e))

opened_history : (limit : ℕ) (r : RoutesValue) (records : List (ℕ × SpoolRecord)) → let w = world_of (opened_within limit r records).rows in IsHistoryFrom r w w []
opened_history limit r records =
    let known = known_records r.servers records in
    let since = since_at (breaks_of r) 0 in
    let w = opened since known in
    let o = spooled_rows_open r w (opened_is_core r since known) (λ k. refl) (λ n s e. spooled_is (slice_get known n) s e) (moments_have_eras r 0) in
    record { moves = []; are = none; opens = o.0; legal = tt; replays = o.1 }

-- a core that was opened
pub opened_holds : (start w : CoreView) (limit : ℕ) (r : RoutesValue) (records : List (ℕ × SpoolRecord)) (es : List Entry) (b t len capacity places breaks : ℕ) → start ≡ opened_within limit r records → w ≡ opened_within limit r records → AreCovered r → es ≡ [] → b ≡ 0 → t ≡ 0 → len ≡ 0
    → may_write w ≤ places → places ≤ capacity → places ≤ 2 ^ 62 → breaks ≡ break_count r → Holds start w es 0 b t 0 0 len capacity places breaks
opened_holds start w limit r records es b t len capacity places breaks its same covered empty begun taken zero fewer kept small count = (
  subst (λ z. IsHub z es 0 b t 0 0) (sym same) (subst (λ z. IsHub (opened_within limit r records) z 0 b t 0 0) (sym empty) hub),
  record { within = omega (arith, zero, fewer); kept = kept; small = small },
  count ∙ ap (λ z. break_count z.routes) (sym same),
  subst (λ z. IsOpenedAs z w es 0) (sym its) (subst (λ z. IsOpenedAs (opened_within limit r records) z es 0) (sym same) (subst (λ z. IsOpenedAs (opened_within limit r records) (opened_within limit r records) z 0) (sym empty) (record { routes = refl; limit = refl; from = λ first. opened_history limit r records }))),
)
  where
    hub : IsHub (opened_within limit r records) [] 0 b t 0 0
    hub = record { covered = covered; legal = record { opening = world_of (opened_within limit r records).rows; from = opened_history limit r records }; chapter_is = refl; begun_is = omega (arith, begun); taken_is = omega (arith, taken); begun_small = omega arith; taken_small = omega arith }

-- ---- what events say of the hub

-- the event is the core's, and this was written and counted
pub hub_event : (Event : Option Move → CoreView → Type 0) (old new : HubView) (m : Option Move) → Event m (core_view new.core) → Leads (core_view old.core) (core_view new.core) m → Writes (core_view old.core).routes old.history m new.history
    → new.begun ≡ old.begun + begun_by m → new.taken ≡ old.taken + taken_by m → IsSameChapter old new → IsHubEvent Event old new
hub_event Event old new m event leads writes more_begun more_taken chapter = record {
  move = m;
  event = event;
  writes = writes;
  begun = more_begun;
  taken = more_taken;
  chapter = chapter;
  opening = λ world h. history_goes (core_view old.core) (core_view new.core) world old.history new.history h m leads writes;
}

-- one that is no move
pub none_writes : (r : RoutesValue) (es es2 : List Entry) (m : Option Move) → m ≡ None → es2 ≡ es → Writes r es m es2
none_writes r es es2 m is same = subst (λ k. Writes r es k es2) (sym is) same

pub none_begins : (b : ℕ) (m : Option Move) → m ≡ None → b ≡ b + begun_by m
none_begins b m is = let e = ap begun_by is in omega (arith, e)

pub none_takes : (t : ℕ) (m : Option Move) → m ≡ None → t ≡ t + taken_by m
none_takes t m is = let e = ap taken_by is in omega (arith, e)

pub none_longer : (n : ℕ) (m : Option Move) → m ≡ None → n ≡ n + written m
none_longer n m is = let e = ap written is in omega (arith, e)

-- one on a leg
pub change_writes : (r : RoutesValue) (es : List Entry) (leg : LegId) (p : Part) (x : ReplyValue) (change : Change) → part_value p ≡ x → Writes r es (change_move leg.0 x change) (with_entry es (leg_entry leg p change))
change_writes r es leg p x Nothing is = refl
change_writes r es leg p x Answered is = record { entry = entries.Answered leg p; is = ap (λ y. answered_move leg.0 y) (sym is); at_end = refl }
change_writes r es leg p x Spooled is = record { entry = entries.Spooled leg; is = refl; at_end = refl }
change_writes r es leg p x Refused is = record { entry = entries.Refused leg; is = refl; at_end = refl }
change_writes r es leg p x Performed is = record { entry = entries.Performed leg; is = refl; at_end = refl }

step_is : (n : ℕ) (x : ReplyValue) (a : Result Step CoreFault) → step_move n x a ≡ change_move n x (answer_change a)
step_is n x (Ok step) = refl
step_is n x (Err fault) = refl

change_begins : (n : ℕ) (x : ReplyValue) (change : Change) → begun_by (change_move n x change) ≡ 0
change_begins n x Nothing = refl
change_begins n x Answered = refl
change_begins n x Spooled = refl
change_begins n x Refused = refl
change_begins n x Performed = refl

change_takes : (n : ℕ) (x : ReplyValue) (change : Change) → taken_by (change_move n x change) ≡ 0
change_takes n x Nothing = refl
change_takes n x Answered = refl
change_takes n x Spooled = refl
change_takes n x Refused = refl
change_takes n x Performed = refl

change_longer : (leg : LegId) (p : Part) (x : ReplyValue) (change : Change) → entries_in (leg_entry leg p change) ≡ written (change_move leg.0 x change)
change_longer leg p x Nothing = refl
change_longer leg p x Answered = refl
change_longer leg p x Spooled = refl
change_longer leg p x Refused = refl
change_longer leg p x Performed = refl

module _ (leg : LegId) (p : Part) (x : ReplyValue) (a : Result Step CoreFault) (m : Option Move) (is : m ≡ step_move leg.0 x a) where
  change_is : m ≡ change_move leg.0 x (answer_change a)
  change_is = is ∙ step_is leg.0 x a

  pub leg_writes : (r : RoutesValue) (es es2 : List Entry) (e : Option Entry) → part_value p ≡ x → e ≡ leg_entry leg p (answer_change a) → es2 ≡ with_entry es e → Writes r es m es2
  leg_writes r es es2 e reply entry items =
      subst (λ k. Writes r es k es2) (sym change_is) (subst (λ z. Writes r es (change_move leg.0 x (answer_change a)) z) (sym (items ∙ ap (with_entry es) entry)) (change_writes r es leg p x (answer_change a) reply))

  pub leg_begins : (b : ℕ) → b ≡ b + begun_by m
  leg_begins b = let e = ap begun_by change_is ∙ change_begins leg.0 x (answer_change a) in omega (arith, e)

  pub leg_takes : (t : ℕ) → t ≡ t + taken_by m
  leg_takes t = let e = ap taken_by change_is ∙ change_takes leg.0 x (answer_change a) in omega (arith, e)

  pub leg_longer : (n n2 : ℕ) (e : Option Entry) → e ≡ leg_entry leg p (answer_change a) → n2 ≡ n + entries_in e → n2 ≡ n + written m
  leg_longer n n2 e entry longer = let k = ap entries_in entry ∙ change_longer leg p x (answer_change a) ∙ sym (ap written change_is) in omega (arith, longer, k)

-- one of the clock
era_writes_one : (r : RoutesValue) (es : List Entry) (o : Option Era) → Writes r es (era_move o) (with_entry es (era_entry o))
era_writes_one r es None = refl
era_writes_one r es (Some era) = record { entry = entries.EraBegan era; is = refl; at_end = refl }

era_begins_none : (o : Option Era) → begun_by (era_move o) ≡ 0
era_begins_none None = refl
era_begins_none (Some era) = refl

era_takes_none : (o : Option Era) → taken_by (era_move o) ≡ 0
era_takes_none None = refl
era_takes_none (Some era) = refl

era_longer_one : (o : Option Era) → entries_in (era_entry o) ≡ written (era_move o)
era_longer_one None = refl
era_longer_one (Some era) = refl

pub clock_move : (v : CoreView) (moment : Moment) (a : Result (Option Era) CoreFault) (m : Option Move) (w : CoreView) → IsClocked v moment a m w → m ≡ era_move (answer_era a)
clock_move v moment (Ok era) m w h = h.move
clock_move v moment (Err fault) m w h = h.none

module _ (a : Result (Option Era) CoreFault) (m : Option Move) (is : m ≡ era_move (answer_era a)) where
  pub era_writes : (r : RoutesValue) (es es2 : List Entry) (e : Option Entry) → e ≡ era_entry (answer_era a) → es2 ≡ with_entry es e → Writes r es m es2
  era_writes r es es2 e entry items = subst (λ k. Writes r es k es2) (sym is) (subst (λ z. Writes r es (era_move (answer_era a)) z) (sym (items ∙ ap (with_entry es) entry)) (era_writes_one r es (answer_era a)))

  pub era_begins : (b : ℕ) → b ≡ b + begun_by m
  era_begins b = let e = ap begun_by is ∙ era_begins_none (answer_era a) in omega (arith, e)

  pub era_takes : (t : ℕ) → t ≡ t + taken_by m
  era_takes t = let e = ap taken_by is ∙ era_takes_none (answer_era a) in omega (arith, e)

  pub era_longer : (n n2 : ℕ) (e : Option Entry) → e ≡ era_entry (answer_era a) → n2 ≡ n + entries_in e → n2 ≡ n + written m
  era_longer n n2 e entry longer = let k = ap entries_in entry ∙ era_longer_one (answer_era a) ∙ sym (ap written is) in omega (arith, longer, k)

-- the events that are never a move
pub next_none : (v : CoreView) (server : ServerId) (r : Result LegId CoreFault) (m : Option Move) (w : CoreView) → IsNext v server r m w → m ≡ None
next_none v server (Ok leg) m w h = h.none
next_none v server (Err fault) m w h = h.none

pub replay_none : (v : CoreView) (server : ServerId) (r : Result LegId CoreFault) (m : Option Move) (w : CoreView) → IsReplay v server r m w → m ≡ None
replay_none v server (Ok leg) m w h = h.none
replay_none v server (Err fault) m w h = h.none

-- ---- calls

-- a move is written
pub one_writes : (r : RoutesValue) (es es2 : List Entry) (e : Entry) (m : Option Move) (n : Move) → m ≡ Some n → IsMoveOf r e n → es2 ≡ es ++ e ∷ [] → Writes r es m es2
one_writes r es es2 e m n is entry items = subst (λ k. Writes r es k es2) (sym is) (record { entry = e; is = entry; at_end = items })

-- a call that began, for a copy of the request
pub begun_writes : (v : CoreView) (request shared : Arc Request Global) (key : ℕ) (call : CallId) (m : Option Move) (w : CoreView) (es es2 : List Entry) → arc_value shared ≡ arc_value request → events.Begins v fnv_index (arc_value request) key call m w
    → es2 ≡ es ++ entries.Began shared key ∷ [] → Writes v.routes es m es2
begun_writes v request shared key call m w es es2 same h items =
    one_writes v.routes es es2 (entries.Began shared key) m (Began h.op h.route h.rest h.choice) h.move
    (subst (λ q. Begins v.routes q key (Began h.op h.route h.rest h.choice)) (sym same) (record { op = h.op; route = h.route; rest = h.rest; choice = h.choice; asked = h.asked; is = refl })) items

pub begun_begins : (v : CoreView) (chosen : SymbolValue → List ℕ → ℕ) (request : Request) (key : ℕ) (call : CallId) (m : Option Move) (w : CoreView) (b b2 : ℕ) → events.Begins v chosen request key call m w → b2 ≡ b + 1 → b2 ≡ b + begun_by m
begun_begins v chosen request key call m w b b2 h more_begun = let e = ap begun_by h.move in omega (arith, e, more_begun)

pub begun_takes : (v : CoreView) (chosen : SymbolValue → List ℕ → ℕ) (request : Request) (key : ℕ) (call : CallId) (m : Option Move) (w : CoreView) (t : ℕ) → events.Begins v chosen request key call m w → t ≡ t + taken_by m
begun_takes v chosen request key call m w t h = let e = ap taken_by h.move in omega (arith, e)

pub begun_longer : (v : CoreView) (chosen : SymbolValue → List ℕ → ℕ) (request : Request) (key : ℕ) (call : CallId) (m : Option Move) (w : CoreView) (n n2 : ℕ) → events.Begins v chosen request key call m w → n2 ≡ n + 1 → n2 ≡ n + written m
begun_longer v chosen request key call m w n n2 h longer = let e = ap written h.move in omega (arith, e, longer)

-- a reply that was taken, or not
pub taken_begins : (m : Option Move) (k b : ℕ) → m ≡ Some (taken_move k) → b ≡ b + begun_by m
taken_begins m k b is = let e = ap begun_by is in omega (arith, e)

pub taken_takes : (m : Option Move) (k t t2 : ℕ) → m ≡ Some (taken_move k) → t2 ≡ t + 1 → t2 ≡ t + taken_by m
taken_takes m k t t2 is more_taken = let e = ap taken_by is in omega (arith, e, more_taken)

pub taken_longer : (m : Option Move) (k n n2 : ℕ) → m ≡ Some (taken_move k) → n2 ≡ n + 1 → n2 ≡ n + written m
taken_longer m k n n2 is longer = let e = ap written is in omega (arith, e, longer)

pub untaken_none : (v : CoreView) (call : CallId) (m : Option Move) (w : CoreView) → IsTaken v call (Ok None) m w → m ≡ None
untaken_none v call m w h = h.none

-- ---- what is refused

-- nothing was begun
pub unbegun_event : (old new : HubView) (request : Request) (key : ℕ) (fault : CoreFault) → IsUnbegun (core_view old.core) fnv_index request key fault → core_view new.core ≡ core_view old.core → new.history ≡ old.history → new.begun ≡ old.begun → new.taken ≡ old.taken → IsSameChapter old new
    → IsHubEvent (IsBegun (core_view old.core) fnv_index request key (Err fault)) old new
unbegun_event old new request key fault cause same history b t chapter =
    hub_event (IsBegun (core_view old.core) fnv_index request key (Err fault)) old new None (record { cause = cause; none = refl; same = same }) (nothing_leads (core_view old.core) (core_view new.core) None refl same) history (omega (arith, b)) (omega (arith, t)) chapter

-- no such call runs
pub uncalled_event : (old new : HubView) (call : CallId) (fault : CoreFault) → fault ≡ NoSuchCall → (core_view old.core).rows.calls call.0 ≡ None → core_view new.core ≡ core_view old.core → new.history ≡ old.history → new.begun ≡ old.begun → new.taken ≡ old.taken → IsSameChapter old new
    → IsHubEvent (IsTaken (core_view old.core) call (Err fault)) old new
uncalled_event old new call fault is no_call same history b t chapter =
    hub_event (IsTaken (core_view old.core) call (Err fault)) old new None (record { cause = (is, no_call); none = refl; same = same }) (nothing_leads (core_view old.core) (core_view new.core) None refl same) history (omega (arith, b)) (omega (arith, t)) chapter

-- ---- chapters

pub chapter_begins : (old new : HubView) (m : Option Move) → Turns (core_view old.core) m (core_view new.core) → new.history ≡ [] → new.hub ≡ old.hub → new.chapter ≡ old.chapter + 1 → new.entries_before ≡ (core_view new.core).entries → new.begun ≡ old.begun → new.taken ≡ old.taken → new.begun_before ≡ old.begun → new.taken_before ≡ old.taken
    → old.begun < 2 ^ 63 → old.taken < 2 ^ 63 → BeginsChapter old new
chapter_begins old new m h history hub chapter before b t bb tb few_begun few_taken =
    let v : CoreView = core_view old.core in
    let w : CoreView = core_view new.core in
    record {
      turns = subst (λ k. Turns v k w) h.none h;
      history = history;
      opening =
          subst (λ es. IsHistoryFrom w.routes (world_of v.rows) (world_of w.rows) es) (sym history)
          (subst (λ o. IsHistoryFrom w.routes o (world_of w.rows) []) h.does.world (record { moves = []; are = none; opens = h.quiet.0; legal = tt; replays = h.quiet.1 }));
      hub = hub;
      chapter = chapter;
      entries_before = before;
      begun = b;
      taken = t;
      begun_before = bb;
      taken_before = tb;
      few_begun = few_begun;
      few_taken = few_taken;
    }
