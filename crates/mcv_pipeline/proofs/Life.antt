-- Each step of a pipeline keeps it that each leg lands or is lost.
use Rattle.std.proofs.Common.{◌≡◌, ◌∙◌, ◌⊎◌, inl, inr, ℕ, true, List, [], ◌∷◌, ◌++◌, map, refl, sym, ap, append-nil, append_assoc, Option, Some, None, Result, Ok, Err}
use Rattle.std.specs.Option.{option_to_list}
use Rattle.mcv_base.specs.declared.request.LegId.{LegId}
use Rattle.mcv_pipeline.specs.declared.landed.Landed.{Landed}
use Rattle.mcv_pipeline.specs.Life.{History, Lived, unlived, unused}
use Rattle.mcv_pipeline.specs.Pipeline.{Lands, Loses, LosesFrom, PipelineValue, SendsLeg, leg_of, reply_of}
use Rattle.mcv_reply.specs.declared.fault.ReplyFault.{ReplyFault}
use Rattle.mcv_reply.specs.declared.fault.ReplyFault.TheVariants as faults
use Rattle.mcv_reply.specs.Replies.{Connection, Open, Closed, Leg, Receives, Sends, is_open}

-- a leg is sent over an open connection alone, and a fault leaves it as it was
open_sent : (old new : Connection) (leg : Leg) → Sends old leg (Ok tt) new → is_open old ≡ true
open_sent (Open legs held) new leg s = refl
open_sent Closed new leg s = let e = s.0 in absurd (cc)

stays_refused : (old new : Connection) (leg : Leg) (fault : ReplyFault) → Sends old leg (Err fault) new → new ≡ old
stays_refused (Open legs held) new leg faults.NotAReply s = absurd s
stays_refused (Open legs held) new leg faults.Closed s = absurd s
stays_refused (Open legs held) new leg faults.Memory s = s
stays_refused Closed new leg fault s = s.1

-- what is open stays so or is closed; over what is closed nothing lands
open_received : (old new : Connection) (piece : List ℕ) (landed : List Landed) (result : Result Unit ReplyFault) → Receives old piece (map reply_of landed) result new → is_open new ≡ true → is_open old ≡ true
open_received (Open legs held) new piece landed result r now = refl
open_received Closed new piece landed result r now = let shut = ap is_open r.2 in absurd (cc)

open_or_none : (old new : Connection) (piece : List ℕ) (landed : List Landed) (result : Result Unit ReplyFault) → Receives old piece (map reply_of landed) result new → (is_open old ≡ true) ⊎ (map leg_of landed ≡ [])
open_or_none (Open legs held) new piece landed result r = inl refl
open_or_none Closed new piece [] result r = inr refl
open_or_none Closed new piece (x ∷ landed) result r = let none = r.0 in absurd (cc)

all_landed : (sent landed lost legs more left : List LegId) → sent ≡ landed ++ (lost ++ legs) → legs ≡ more ++ left → (lost ≡ []) ⊎ (more ≡ []) → sent ≡ (landed ++ more) ++ (lost ++ left)
all_landed sent landed lost legs more left all is (inl none) =
    all ∙ ap (λ t. landed ++ (t ++ legs)) none ∙ ap (λ t. landed ++ t) is ∙ sym (append_assoc landed more left) ∙ ap (λ t. (landed ++ more) ++ (t ++ left)) (sym none)
all_landed sent landed lost legs more left all is (inr none) =
    all ∙ ap (λ t. landed ++ (lost ++ t)) (is ∙ ap (λ t. t ++ left) none) ∙ ap (λ t. t ++ (lost ++ left)) (sym (ap (λ t. landed ++ t) none ∙ append-nil landed))

none_lost_or_landed : (lost more : List LegId) (open_now : Connection) → (is_open open_now ≡ true → lost ≡ []) → (is_open open_now ≡ true) ⊎ (more ≡ []) → (lost ≡ []) ⊎ (more ≡ [])
none_lost_or_landed lost more c none (inl now) = inl (none now)
none_lost_or_landed lost more c none (inr e) = inr e

-- who is told as lost was the first that had not landed, and none is while the connection is open
losing : (c : Connection) (numbers left : List LegId) (found : Option LegId) → LosesFrom c numbers found left → numbers ≡ option_to_list found ++ left
losing (Open legs held) numbers left found l = sym l.1 ∙ ap (λ f. option_to_list f ++ left) (sym l.0)
losing Closed numbers left None l = l.0 ∙ sym l.1
losing Closed numbers left (Some number) l = l

none_found : (c : Connection) (numbers left : List LegId) (found : Option LegId) → LosesFrom c numbers found left → is_open c ≡ true → found ≡ None
none_found (Open legs held) numbers left found l now = l.0
none_found Closed numbers left found l now = absurd (cc)

pub lived_begins : Lived unlived unused
lived_begins = record { all = refl; none_lost = λ now. refl }

pub lived_sent : (h : History) (old new : PipelineValue) (number : LegId) (leg : Leg) → Lived h old → SendsLeg old number leg (Ok tt) new → Lived (record h { sent = h.sent ++ number ∷ [] }) new
lived_sent h old new number leg l s = record {
  all = ap (λ t. t ++ number ∷ []) l.all ∙ append_assoc h.landed (h.lost ++ old.legs) (number ∷ []) ∙ ap (λ t. h.landed ++ t) (append_assoc h.lost old.legs (number ∷ [])) ∙ ap (λ t. h.landed ++ (h.lost ++ t)) (sym s.legs);
  none_lost = λ now. l.none_lost (open_sent old.connection new.connection leg s.sends);
}

pub lived_refused : (h : History) (old new : PipelineValue) (number : LegId) (leg : Leg) (fault : ReplyFault) → Lived h old → SendsLeg old number leg (Err fault) new → Lived h new
lived_refused h old new number leg fault l s = record {
  all = l.all ∙ ap (λ t. h.landed ++ (h.lost ++ t)) (sym s.legs);
  none_lost = λ now. l.none_lost (ap is_open (sym (stays_refused old.connection new.connection leg fault s.sends)) ∙ now);
}

pub lived_landed : (h : History) (old new : PipelineValue) (piece : List ℕ) (landed : List Landed) (result : Result Unit ReplyFault) → Lived h old → Lands old piece landed result new → Lived (record h { landed = h.landed ++ map leg_of landed }) new
lived_landed h old new piece landed result l r = record {
  all = all_landed h.sent h.landed h.lost old.legs (map leg_of landed) new.legs l.all r.legs (none_lost_or_landed h.lost (map leg_of landed) old.connection l.none_lost (open_or_none old.connection new.connection piece landed result r.receives));
  none_lost = λ now. l.none_lost (open_received old.connection new.connection piece landed result r.receives now);
}

pub lived_lost : (h : History) (old new : PipelineValue) (found : Option LegId) → Lived h old → Loses old found new → Lived (record h { lost = h.lost ++ option_to_list found }) new
lived_lost h old new found l s = record {
  all = l.all ∙ ap (λ t. h.landed ++ (h.lost ++ t)) (losing old.connection old.legs new.legs found s.loses) ∙ ap (λ t. h.landed ++ t) (sym (append_assoc h.lost (option_to_list found) new.legs));
  none_lost = λ now.
      let was = ap is_open (sym s.connection) ∙ now in
      ap (λ f. h.lost ++ option_to_list f) (none_found old.connection old.legs new.legs found s.loses was) ∙ append-nil h.lost ∙ l.none_lost was;
}

pub lived_closed : (h : History) (old : PipelineValue) → Lived h old → Lived h (record old { connection = Closed })
lived_closed h old l = record { all = l.all; none_lost = λ now. absurd (cc) }
