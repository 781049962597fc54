-- What a reply of a plan says of the legs that were sent.
use Rattle.std.proofs.Common.{◌≡◌, inl, inr, Some, refl, sym, ap, ◌∙◌}
use Rattle.mcv_base.specs.Reply.{worse}
use Rattle.mcv_base.specs.declared.reply.Outcome.{Outcome}
use Rattle.mcv_base.specs.declared.reply.Outcome.TheVariants.{Good, Soft, Error}
use Rattle.mcv_route.specs.Outcomes.{Outcomes}
use Rattle.mcv_rules.specs.Plan.{Leg, Plan, Send, Reply, Both, Beside, OnError, OnMiss, OnHit, Shadowed, reply, IsMissed}
use Rattle.mcv_rules.specs.Laws.{Extends}
use Rattle.mcv_rules.specs.Soundness.{IsForDelete}
use Rattle.mcv_rules.proofs.Basics
use Rattle.mcv_rules.proofs.RepliesAndLegsStay as rules
use Rattle.mcv_symbolic.specs.Structure.{nothing, after_error, if_all, Counts, Acknowledged}

pub after_error_error : (y z : Outcome) → after_error y z ≡ Error → (y ≡ Error) × (z ≡ Error)
after_error_error Good z e = absurd cc
after_error_error Soft z e = absurd cc
after_error_error Error z e = (refl, e)

missed_stays : (t : Plan) (o o2 : Outcomes) → Extends o o2 → IsMissed (reply t o) → IsMissed (reply t o2)
missed_stays t o o2 h (inl w) = inl (rules.reply_stays t o o2 Soft h w)
missed_stays t o o2 h (inr w) = inr (rules.reply_stays t o o2 Error h w)

pub counts_stays : (t : Plan) (o o2 : Outcomes) (l : Leg) → Extends o o2 → Counts t o l → Counts t o2 l
counts_stays (Send k) o o2 l h e = e
counts_stays (Reply y) o o2 l h e = e
counts_stays (Both t u) o o2 l h (inl e) = inl (counts_stays t o o2 l h e)
counts_stays (Both t u) o o2 l h (inr e) = inr (counts_stays u o o2 l h e)
counts_stays (Beside t u) o o2 l h (inl e) = inl (counts_stays t o o2 l h e)
counts_stays (Beside t u) o o2 l h (inr e) = inr (counts_stays u o o2 l h e)
counts_stays (OnError t u) o o2 l h (inl e) = inl (counts_stays t o o2 l h e)
counts_stays (OnError t u) o o2 l h (inr e) = inr (rules.reply_stays t o o2 Error h e.0, counts_stays u o o2 l h e.1)
counts_stays (OnMiss t u) o o2 l h (inl e) = inl (counts_stays t o o2 l h e)
counts_stays (OnMiss t u) o o2 l h (inr e) = inr (missed_stays t o o2 h e.0, counts_stays u o o2 l h e.1)
counts_stays (OnHit t u) o o2 l h (inl e) = inl (counts_stays t o o2 l h e)
counts_stays (OnHit t u) o o2 l h (inr e) = inr (rules.reply_stays t o o2 Good h e.0, counts_stays u o o2 l h e.1)
counts_stays (Shadowed s a b t u) o o2 l h e = counts_stays t o o2 l h e

from_nothing : (o : Outcomes) → Extends nothing o
from_nothing o p x e = Basics.none_some e

-- where all answers that are good leave an error, every reply is an error
pub always_error : (t : Plan) (o : Outcomes) (x : Outcome) → IsForDelete t → if_all Good t ≡ Error → reply t o ≡ Some x → x ≡ Error
always_error (Send l) o x d w e = absurd (Basics.good≢error w)
always_error (Reply y) o x d w e = sym (Basics.some_same e) ∙ w
always_error (Both t u) o x d w e =
    let s = Basics.both_some (reply t o) (reply u o) x e in
    sym s.4 ∙ elim (Basics.worse_error (if_all Good t) (if_all Good u) w) [
      | inl v ↦ ap (λ y. worse y s.1) (always_error t o s.0 d.0 v s.2)
      | inr v ↦ ap (λ z. worse s.0 z) (always_error u o s.1 d.1 v s.3) ∙ Basics.error_worse s.0
    ]
always_error (Beside t u) o x d w e = always_error t o x d.0 w e
always_error (OnError t u) o x d w e =
    let v = after_error_error (if_all Good t) (if_all Good u) w in
    elim (Basics.on_error_some (reply t o) (reply u o) x e) [
      | inl s ↦ always_error t o x d.0 v.0 s.0
      | inr s ↦ always_error u o x d.1 v.1 s.1
    ]
always_error (OnMiss t u) o x d w e = absurd d
always_error (OnHit t u) o x d w e = absurd d
always_error (Shadowed s a b t u) o x d w e = always_error t o x d w e

-- what is acknowledged was sent, whatever the reply
pub acknowledged_is_sent : (t : Plan) (o : Outcomes) (x : Outcome) (l : Leg) → IsForDelete t → reply t o ≡ Some x → Acknowledged t l → Counts t o l
acknowledged_is_sent (Send k) o x l d e a = a
acknowledged_is_sent (Reply y) o x l d e a = a
acknowledged_is_sent (Both t u) o x l d e (inl a) = inl (acknowledged_is_sent t o _ l d.0 (Basics.both_some (reply t o) (reply u o) x e).2 a)
acknowledged_is_sent (Both t u) o x l d e (inr a) = inr (acknowledged_is_sent u o _ l d.1 (Basics.both_some (reply t o) (reply u o) x e).3 a)
acknowledged_is_sent (Beside t u) o x l d e (inl a) = inl (acknowledged_is_sent t o x l d.0 e a)
acknowledged_is_sent (Beside t u) o x l d e (inr a) = inr (counts_stays u nothing o l (from_nothing o) a)
acknowledged_is_sent (OnError t u) o x l d e (inl a) =
    elim (Basics.on_error_some (reply t o) (reply u o) x e) [
      | inl s ↦ inl (acknowledged_is_sent t o x l d.0 s.0 a)
      | inr s ↦ inl (acknowledged_is_sent t o Error l d.0 s.0 a)
    ]
acknowledged_is_sent (OnError t u) o x l d e (inr a) =
    elim (Basics.on_error_some (reply t o) (reply u o) x e) [
      | inl s ↦ absurd (s.1 (always_error t o x d.0 a.0 s.0))
      | inr s ↦ inr (s.0, acknowledged_is_sent u o x l d.1 s.1 a.1)
    ]
acknowledged_is_sent (OnMiss t u) o x l d e a = absurd a
acknowledged_is_sent (OnHit t u) o x l d e a = absurd a
acknowledged_is_sent (Shadowed s i j t u) o x l d e a = acknowledged_is_sent t o x l d e a
