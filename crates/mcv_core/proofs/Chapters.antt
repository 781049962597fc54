-- An event on a leg stays in its chapter.
use Rattle.std.proofs.Common.{◌≡◌, ◌&&◌, cond, ℕ, Bool, true, false, List, Option, Some, None, Result, refl, ap, ◌∙◌}
use Rattle.std.specs.Prelude.{⊤}
use Rattle.mcv_base.specs.declared.reply.FixedReply.TheVariants.{Lost}
use Rattle.mcv_base.specs.Reply.{ReplyValue, fixed_value}
use Rattle.mcv_queues.specs.declared.marks.ServerFailures.{ServerFailures}
use Rattle.mcv_queues.specs.Marks.{answered_mark, lost_mark}
use Rattle.mcv_world.specs.World.{is_counted_delete}
use Rattle.mcv_world.specs.Moves.{counted_as, is_error_reply}
use Rattle.mcv_events.specs.Rows as rows
use Rattle.mcv_events.specs.Rows.{LegRow, awaits, leg_of}
use Rattle.mcv_core.specs.declared.fault.CoreFault.{CoreFault}
use Rattle.mcv_core.specs.declared.step.Step.{Step}
use Rattle.mcv_core.specs.CoreView.{CoreView, Effect, HasEffect, answer_at, answer_in, at_row, does, finished, held, is_record, landing_in, loss_at, loss_in, lost_too_at, refuses, refusing_at, refusing_in, replayed_in, sent_in, spooling_at, spooling_in, stores, with_mark}

-- the effect leads to a view of the same chapter
abbrev StaysIn : CoreView → Effect → Type 0
StaysIn v (refuses fault) = ⊤
StaysIn v (does step u) = u.chapter ≡ v.chapter

by_effect : (v w : CoreView) (e : Effect) (r : Result Step CoreFault) → StaysIn v e → HasEffect e v w r → w.chapter ≡ v.chapter
by_effect v w (refuses fault) r good h = ap (λ z. z.chapter) h.1
by_effect v w (does step u) r good h = ap (λ z. z.chapter) h.1 ∙ good

by_test : (v : CoreView) (b : Bool) (e f : Effect) → StaysIn v e → StaysIn v f → StaysIn v (cond b e f)
by_test v true e f one other = one
by_test v false e f one other = other

module _ (v : CoreView) (n : ℕ) (s : LegRow) where
  -- whatever becomes of the marks
  module _ (marks : ℕ → ServerFailures) where
    abbrev u : CoreView
    u = record v { marks = marks }

    sent : (y : ReplyValue) → StaysIn v (sent_in u n y s)
    sent y = by_test v (is_counted_delete (leg_of s) && is_error_reply y) (held u n s) (finished u n y s) refl refl

    replayed : (failed : Bool) → StaysIn v (replayed_in u n failed s)
    replayed failed = by_test v failed _ _ refl refl

  -- the marks, where the server's is changed
  abbrev marked : (ServerFailures → ServerFailures) → ℕ → ServerFailures
  marked g = (with_mark v s.launch.server.0 g).marks

  answer_stays : (x : ReplyValue) (t : rows.State) → StaysIn v (answer_in v n x s t)
  answer_stays x rows.Waiting = tt
  answer_stays x rows.Sent = sent (marked answered_mark) (counted_as s.launch.op x)
  answer_stays x rows.Held = tt
  answer_stays x rows.InSpool = tt
  answer_stays x rows.InReplay = replayed (marked answered_mark) (is_error_reply (counted_as s.launch.op x))

  loss_stays : (t : rows.State) → StaysIn v (loss_in v n s t)
  loss_stays rows.Waiting = tt
  loss_stays rows.Sent = sent (marked lost_mark) (fixed_value Lost)
  loss_stays rows.Held = tt
  loss_stays rows.InSpool = tt
  loss_stays rows.InReplay = replayed (marked lost_mark) true

  lost_too_stays : (t : rows.State) → StaysIn v (landing_in v n (fixed_value Lost) s t)
  lost_too_stays rows.Waiting = tt
  lost_too_stays rows.Sent = sent v.marks (fixed_value Lost)
  lost_too_stays rows.Held = tt
  lost_too_stays rows.InSpool = tt
  lost_too_stays rows.InReplay = replayed v.marks true

  spooling_stays : (seq : ℕ) (its : Bool) (t : rows.State) → StaysIn v (spooling_in v n seq its s t)
  spooling_stays seq its rows.Waiting = tt
  spooling_stays seq its rows.Sent = tt
  spooling_stays seq its rows.Held = by_test v its (stores v n seq s) _ refl tt
  spooling_stays seq its rows.InSpool = tt
  spooling_stays seq its rows.InReplay = tt

  refusing_stays : (t : rows.State) → StaysIn v (refusing_in v n s t)
  refusing_stays rows.Waiting = tt
  refusing_stays rows.Sent = tt
  refusing_stays rows.Held = by_test v (awaits v.rows.calls s s.call) _ _ refl refl
  refusing_stays rows.InSpool = tt
  refusing_stays rows.InReplay = tt

at_row_stays : (v : CoreView) (f : LegRow → Effect) → ((s : LegRow) → StaysIn v (f s)) → (o : Option LegRow) → StaysIn v (at_row f o)
at_row_stays v f h None = tt
at_row_stays v f h (Some s) = h s

module _ (v w : CoreView) (n : ℕ) (r : Result Step CoreFault) where
  pub answer_chapter : (x : ReplyValue) → HasEffect (answer_at v n x) v w r → w.chapter ≡ v.chapter
  answer_chapter x h = by_effect v w (answer_at v n x) r (at_row_stays v (λ s. answer_in v n x s s.state) (λ s. answer_stays v n s x s.state) (v.rows.legs n)) h

  pub loss_chapter : HasEffect (loss_at v n) v w r → w.chapter ≡ v.chapter
  loss_chapter h = by_effect v w (loss_at v n) r (at_row_stays v (λ s. loss_in v n s s.state) (λ s. loss_stays v n s s.state) (v.rows.legs n)) h

  pub lost_too_chapter : HasEffect (lost_too_at v n) v w r → w.chapter ≡ v.chapter
  lost_too_chapter h = by_effect v w (lost_too_at v n) r (at_row_stays v (λ s. landing_in v n (fixed_value Lost) s s.state) (λ s. lost_too_stays v n s s.state) (v.rows.legs n)) h

  pub spooling_chapter : (seq : ℕ) (text rest : List ℕ) → HasEffect (spooling_at v n seq text rest) v w r → w.chapter ≡ v.chapter
  spooling_chapter seq text rest h =
      by_effect v w (spooling_at v n seq text rest) r (at_row_stays v (λ s. spooling_in v n seq (is_record v n text rest s) s s.state) (λ s. spooling_stays v n s seq (is_record v n text rest s) s.state) (v.rows.legs n)) h

  pub refusing_chapter : HasEffect (refusing_at v n) v w r → w.chapter ≡ v.chapter
  refusing_chapter h = by_effect v w (refusing_at v n) r (at_row_stays v (λ s. refusing_in v n s s.state) (λ s. refusing_stays v n s s.state) (v.rows.legs n)) h
