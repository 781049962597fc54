-- Each step of a connection keeps it that what is written is the texts of the legs that were sent.
use Rattle.std.proofs.Common.{◌≡◌, ◌∙◌, ◌+◌, ◌≤◌, ℕ, true, List, [], ◌∷◌, ◌++◌, length, map, take, drop, refl, sym, ap, append-nil, append_assoc, arith, Option, Result, Ok, Err}
use Rattle.std.specs.List.{concat}
use Rattle.std.specs.Option.{option_to_list}
use Rattle.std.proofs.lemmas.List.{length_push, take-append-drop}
use Rattle.std.proofs.lemmas.List.Folds.{concat-append}
use Rattle.mcv_base.specs.declared.request.LegId.{LegId}
use Rattle.mcv_pipeline.specs.Life as pipeline
use Rattle.mcv_pipeline.specs.Pipeline.{Lands, Loses, leg_of, reply_of}
use Rattle.mcv_pipeline.specs.declared.landed.Landed.{Landed}
use Rattle.mcv_pipeline.proofs.Life.{lived_begins, lived_closed, lived_landed, lived_lost, lived_refused, lived_sent}
use Rattle.mcv_reply.specs.declared.fault.ReplyFault.{ReplyFault}
use Rattle.mcv_reply.specs.Replies.{Closed, Leg, is_open}
use Rattle.mcv_upstream.specs.Life.{Carried, History, unlived}
use Rattle.mcv_upstream.specs.Upstream.{SendsText, UpstreamValue, output_after, unused}
use Rattle.mcv_upstream.proofs.Connections.{closed_received, open_sent, stays_received, stays_refused}

abbrev numbers : History → pipeline.History
numbers h = record { sent = h.sent; landed = h.landed; lost = h.lost }

-- one text more
one_text : (texts : List (List ℕ)) (text : List ℕ) → concat (texts ++ text ∷ []) ≡ concat texts ++ text
one_text texts text = concat-append texts (text ∷ []) ∙ ap (λ t. concat texts ++ t) (append-nil text)

as_many : (texts : List (List ℕ)) (sent : List LegId) (text : List ℕ) (number : LegId) → length texts ≡ length sent → length (texts ++ text ∷ []) ≡ length (sent ++ number ∷ [])
as_many texts sent text number e = let one = length_push texts text in let other = length_push sent number in omega (arith, e, one, other)

pub carried_begins : Carried unlived unused
carried_begins = record { lived = lived_begins; one_each = refl; writes = λ now. refl }

pub carried_sent : (h : History) (old new : UpstreamValue) (number : LegId) (leg : Leg) (text : List ℕ) → Carried h old → SendsText old number leg text (Ok tt) new → Carried (record h { sent = h.sent ++ number ∷ []; texts = h.texts ++ text ∷ [] }) new
carried_sent h old new number leg text l s = record {
  lived = lived_sent (numbers h) old.legs new.legs number leg l.lived s.sends;
  one_each = as_many h.texts h.sent text number l.one_each;
  writes = λ now.
      ap (λ t. h.written ++ t) s.output ∙ sym (append_assoc h.written old.output text)
      ∙ ap (λ t. t ++ text) (l.writes (open_sent old.legs.connection new.legs.connection leg s.sends.sends)) ∙ sym (one_text h.texts text);
}

pub carried_refused : (h : History) (old new : UpstreamValue) (number : LegId) (leg : Leg) (text : List ℕ) (fault : ReplyFault) → Carried h old → SendsText old number leg text (Err fault) new → Carried h new
carried_refused h old new number leg text fault l s = record {
  lived = lived_refused (numbers h) old.legs new.legs number leg fault l.lived s.sends;
  one_each = l.one_each;
  writes = λ now.
      ap (λ t. h.written ++ t) s.output
      ∙ l.writes (ap is_open (sym (stays_refused old.legs.connection new.legs.connection leg fault s.sends.sends)) ∙ now);
}

pub carried_written : (h : History) (old : UpstreamValue) (count : ℕ) → count ≤ length old.output → Carried h old → Carried (record h { written = h.written ++ take count old.output }) (record old { output = drop count old.output })
carried_written h old count few l = record {
  lived = l.lived;
  one_each = l.one_each;
  writes = λ now. append_assoc h.written (take count old.output) (drop count old.output) ∙ ap (λ t. h.written ++ t) (take-append-drop count old.output) ∙ l.writes now;
}

pub carried_landed : (h : History) (old new : UpstreamValue) (piece : List ℕ) (landed : List Landed) (result : Result Unit ReplyFault) → Carried h old → Lands old.legs piece landed result new.legs → new.output ≡ output_after result old.output → Carried (record h { landed = h.landed ++ map leg_of landed }) new
carried_landed h old new piece landed (Ok done) l r e = record {
  lived = lived_landed (numbers h) old.legs new.legs piece landed (Ok done) l.lived r;
  one_each = l.one_each;
  writes = λ now. ap (λ t. h.written ++ t) e ∙ l.writes (sym (stays_received old.legs.connection new.legs.connection piece (map reply_of landed) r.receives) ∙ now);
}
carried_landed h old new piece landed (Err fault) l r e = record {
  lived = lived_landed (numbers h) old.legs new.legs piece landed (Err fault) l.lived r;
  one_each = l.one_each;
  writes = λ now. let shut = closed_received old.legs.connection new.legs.connection piece (map reply_of landed) fault r.receives in absurd (cc);
}

pub carried_lost : (h : History) (old new : UpstreamValue) (found : Option LegId) → Carried h old → Loses old.legs found new.legs → new.output ≡ old.output → Carried (record h { lost = h.lost ++ option_to_list found }) new
carried_lost h old new found l s e = record {
  lived = lived_lost (numbers h) old.legs new.legs found l.lived s;
  one_each = l.one_each;
  writes = λ now. ap (λ t. h.written ++ t) e ∙ l.writes (ap is_open (sym s.connection) ∙ now);
}

pub carried_closed : (h : History) (old : UpstreamValue) → Carried h old → Carried h (record { legs = record old.legs { connection = Closed }; output = [] })
carried_closed h old l = record { lived = lived_closed (numbers h) old.legs l.lived; one_each = l.one_each; writes = λ now. absurd (cc) }
