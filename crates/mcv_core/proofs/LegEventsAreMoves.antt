-- Each event on a leg is the move that it names.
use Rattle.std.proofs.Common.{◌≡◌, ◌&&◌, cond, ℕ, Bool, true, false, List, Option, Some, None, Ok, refl, sym, ap, subst, true≢false}
use Rattle.std.specs.Prelude.{⊤}
use Rattle.mcv_base.specs.declared.reply.FixedReply.TheVariants.{Lost}
use Rattle.mcv_base.specs.Reply.{ReplyValue, fixed_value, not_found}
use Rattle.mcv_queues.specs.declared.marks.ServerFailures.{ServerFailures}
use Rattle.mcv_queues.specs.Marks.{answered_mark, lost_mark}
use Rattle.mcv_world.specs.World.{is_counted_delete}
use Rattle.mcv_world.specs.Moves.{counted_as, has_no_outcome, is_error_reply, is_one}
use Rattle.mcv_events.specs.Rows as rows
use Rattle.mcv_events.specs.Rows.{CallRow, IsCore, LegRow, awaits, is_unanswered, leg_of, leg_state, with_leg_row}
use Rattle.mcv_events.proofs.EventsAreMoves.{answered_moves, performed_moves, refused_moves, spooled_moves, states_are_no_moves, states_keep_cores}
use Rattle.mcv_core.specs.declared.step.Step.{Step}
use Rattle.mcv_core.specs.CoreView.{CoreView, Does, Effect, HasEffect, answer_at, answer_in, at_row, change_move, does, finished, held, is_record, landing_in, loss_at, loss_in, lost_too_at, refuses, refusing_at, refusing_in, replayed_in, sent_in, spooling_at, spooling_in, with_mark}

-- the effect is the move that it names, where the reply was this
abbrev IsMove : CoreView → ℕ → ReplyValue → Effect → Type 0
IsMove v n x (refuses fault) = ⊤
IsMove v n x (does step u) = Does v u (change_move n x step.change)

does_of : (v new : CoreView) (n : ℕ) (x : ReplyValue) (step : Step) (e : Effect) → IsMove v n x e → HasEffect e v new (Ok step) → Does v new (change_move n x step.change)
does_of v new n x step (refuses fault) good h = let e = h.0 in absurd cc
does_of v new n x step (does done u) good h =
    let e = h.0 in
    let same : done ≡ step = cc in
    subst (λ w. Does v w (change_move n x step.change)) (sym h.1) (subst (λ s. Does v u (change_move n x s.change)) same good)

by_test : (v : CoreView) (n : ℕ) (x : ReplyValue) (b : Bool) (e f : Effect) → (b ≡ true → IsMove v n x e) → (b ≡ false → IsMove v n x f) → IsMove v n x (cond b e f)
by_test v n x true e f one other = one refl
by_test v n x false e f one other = other refl

module _ (v : CoreView) (core : IsCore v.routes v.rows) (n : ℕ) (s : LegRow) (at : v.rows.legs n ≡ Some s) where
  -- whatever becomes of the marks
  module _ (marks : ℕ → ServerFailures) where
    abbrev u : CoreView
    u = record v { marks = marks }

    sent : (x : ReplyValue) → s.state ≡ rows.Sent → IsMove v n x (sent_in u n (counted_as s.launch.op x) s)
    sent x is =
        by_test v n x (is_counted_delete (leg_of s) && is_error_reply (counted_as s.launch.op x)) (held u n s) (finished u n (counted_as s.launch.op x) s)
        (λ e. record {
          world = states_are_no_moves v.rows n s rows.Held at (sym (ap leg_state is));
          core = states_keep_cores v.routes v.rows n s rows.Held core at (λ t. absurd (true≢false (sym t))) (λ t. both_first (is_counted_delete (leg_of s)) _ e);
          routes = refl;
        })
        (λ e. record { allowed = tt; moves = answered_moves v.routes v.rows n s x core at is e; routes = refl })
      where
        both_first : (b c : Bool) → (b && c) ≡ true → b ≡ true
        both_first true c e = refl
        both_first false c e = absurd (true≢false (sym e))

    replayed : (x : ReplyValue) (failed : Bool) → s.state ≡ rows.InReplay → IsMove v n x (replayed_in u n failed s)
    replayed x failed is =
        by_test v n x failed _ _
        (λ e. record {
          world = states_are_no_moves v.rows n s rows.InSpool at (sym (ap leg_state is));
          core = states_keep_cores v.routes v.rows n s rows.InSpool core at (λ t. absurd (true≢false (sym t))) (λ t. core.counted n s at (ap is_unanswered is));
          routes = refl;
        })
        (λ e. record { allowed = tt; moves = performed_moves v.routes v.rows n s core at (ap leg_state is); routes = refl })

  -- the marks, where the server's is changed
  abbrev marked : (ServerFailures → ServerFailures) → ℕ → ServerFailures
  marked g = (with_mark v s.launch.server.0 g).marks

  answer_moves : (x : ReplyValue) (t : rows.State) → s.state ≡ t → IsMove v n x (answer_in v n x s t)
  answer_moves x rows.Waiting is = tt
  answer_moves x rows.Sent is = sent (marked answered_mark) x is
  answer_moves x rows.Held is = tt
  answer_moves x rows.InSpool is = tt
  answer_moves x rows.InReplay is = replayed (marked answered_mark) x (is_error_reply (counted_as s.launch.op x)) is

  loss_moves : (t : rows.State) → s.state ≡ t → IsMove v n (fixed_value Lost) (loss_in v n s t)
  loss_moves rows.Waiting is = tt
  loss_moves rows.Sent is = sent (marked lost_mark) (fixed_value Lost) is
  loss_moves rows.Held is = tt
  loss_moves rows.InSpool is = tt
  loss_moves rows.InReplay is = replayed (marked lost_mark) (fixed_value Lost) true is

  lost_too_moves : (t : rows.State) → s.state ≡ t → IsMove v n (fixed_value Lost) (landing_in v n (fixed_value Lost) s t)
  lost_too_moves rows.Waiting is = tt
  lost_too_moves rows.Sent is = sent v.marks (fixed_value Lost) is
  lost_too_moves rows.Held is = tt
  lost_too_moves rows.InSpool is = tt
  lost_too_moves rows.InReplay is = replayed v.marks (fixed_value Lost) true is

  spooling_moves : (seq : ℕ) (its : Bool) (t : rows.State) → s.state ≡ t → IsMove v n not_found (spooling_in v n seq its s t)
  spooling_moves seq its rows.Waiting is = tt
  spooling_moves seq its rows.Sent is = tt
  spooling_moves seq its rows.Held is = by_test v n not_found its _ _ (λ e. record { allowed = tt; moves = spooled_moves v.routes v.rows n s core at is; routes = refl }) (λ e. tt)
  spooling_moves seq its rows.InSpool is = tt
  spooling_moves seq its rows.InReplay is = tt

  awaited_by : (o : Option ℕ) → s.call ≡ o → awaits v.rows.calls s o ≡ true → (k : ℕ) × (c : CallRow) × (s.call ≡ Some k) × (v.rows.calls k ≡ Some c) × (has_no_outcome (leg_of s) c.call ≡ true)
  awaited_by None is e = absurd (true≢false (sym e))
  awaited_by (Some k) is e = by_call (v.rows.calls k) refl e
    where
      by_call : (o : Option CallRow) → v.rows.calls k ≡ o → is_one o (λ c. has_no_outcome (leg_of s) c.call) ≡ true → (k2 : ℕ) × (c : CallRow) × (s.call ≡ Some k2) × (v.rows.calls k2 ≡ Some c) × (has_no_outcome (leg_of s) c.call ≡ true)
      by_call None there t = absurd (true≢false (sym t))
      by_call (Some c) there t = (k, c, is, there, t)

  refusing_moves : (t : rows.State) → s.state ≡ t → IsMove v n (fixed_value Lost) (refusing_in v n s t)
  refusing_moves rows.Waiting is = tt
  refusing_moves rows.Sent is = tt
  refusing_moves rows.Held is =
      by_test v n (fixed_value Lost) (awaits v.rows.calls s s.call) _ _
      (λ e. let a = awaited_by s.call refl e in record { allowed = tt; moves = refused_moves v.routes v.rows n s a.0 a.1 core at is a.2 a.3 a.4; routes = refl })
      (λ e. record { world = refl; core = core; routes = refl })
  refusing_moves rows.InSpool is = tt
  refusing_moves rows.InReplay is = tt

pub answer_does : (v new : CoreView) (n : ℕ) (x : ReplyValue) (step : Step) → IsCore v.routes v.rows → HasEffect (answer_at v n x) v new (Ok step) → Does v new (change_move n x step.change)
answer_does v new n x step core h = does_of v new n x step (answer_at v n x) (by_row (v.rows.legs n) refl) h
  where
    by_row : (o : Option LegRow) → v.rows.legs n ≡ o → IsMove v n x (at_row (λ s. answer_in v n x s s.state) o)
    by_row None e = tt
    by_row (Some s) e = answer_moves v core n s e x s.state refl

pub loss_does : (v new : CoreView) (n : ℕ) (step : Step) → IsCore v.routes v.rows → HasEffect (loss_at v n) v new (Ok step) → Does v new (change_move n (fixed_value Lost) step.change)
loss_does v new n step core h = does_of v new n (fixed_value Lost) step (loss_at v n) (by_row (v.rows.legs n) refl) h
  where
    by_row : (o : Option LegRow) → v.rows.legs n ≡ o → IsMove v n (fixed_value Lost) (at_row (λ s. loss_in v n s s.state) o)
    by_row None e = tt
    by_row (Some s) e = loss_moves v core n s e s.state refl

pub lost_too_does : (v new : CoreView) (n : ℕ) (step : Step) → IsCore v.routes v.rows → HasEffect (lost_too_at v n) v new (Ok step) → Does v new (change_move n (fixed_value Lost) step.change)
lost_too_does v new n step core h = does_of v new n (fixed_value Lost) step (lost_too_at v n) (by_row (v.rows.legs n) refl) h
  where
    by_row : (o : Option LegRow) → v.rows.legs n ≡ o → IsMove v n (fixed_value Lost) (at_row (λ s. landing_in v n (fixed_value Lost) s s.state) o)
    by_row None e = tt
    by_row (Some s) e = lost_too_moves v core n s e s.state refl

pub spooling_does : (v new : CoreView) (n seq : ℕ) (text rest : List ℕ) (step : Step) → IsCore v.routes v.rows → HasEffect (spooling_at v n seq text rest) v new (Ok step) → Does v new (change_move n not_found step.change)
spooling_does v new n seq text rest step core h = does_of v new n not_found step (spooling_at v n seq text rest) (by_row (v.rows.legs n) refl) h
  where
    by_row : (o : Option LegRow) → v.rows.legs n ≡ o → IsMove v n not_found (at_row (λ s. spooling_in v n seq (is_record v n text rest s) s s.state) o)
    by_row None e = tt
    by_row (Some s) e = spooling_moves v core n s e seq (is_record v n text rest s) s.state refl

pub refusing_does : (v new : CoreView) (n : ℕ) (step : Step) → IsCore v.routes v.rows → HasEffect (refusing_at v n) v new (Ok step) → Does v new (change_move n (fixed_value Lost) step.change)
refusing_does v new n step core h = does_of v new n (fixed_value Lost) step (refusing_at v n) (by_row (v.rows.legs n) refl) h
  where
    by_row : (o : Option LegRow) → v.rows.legs n ≡ o → IsMove v n (fixed_value Lost) (at_row (λ s. refusing_in v n s s.state) o)
    by_row None e = tt
    by_row (Some s) e = refusing_moves v core n s e s.state refl
