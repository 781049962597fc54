-- Later outcomes change no reply of a plan, and take back no leg.
use Rattle.std.proofs.Common.{inl, inr, ⊎_elim, Some, sym, ap, ap₂, ◌∙◌}
use Rattle.mcv_base.specs.declared.reply.Outcome.TheVariants.{Good, Soft, Error}
use Rattle.mcv_rules.specs.Plan.{Plan, Send, Reply, Both, Beside, OnError, OnMiss, OnHit, Shadowed, both, reply, IsMissed}
use Rattle.mcv_route.specs.Outcomes.{Outcomes}
use Rattle.mcv_rules.proofs.Sending.{ReplyStays, SentStays}
use Rattle.mcv_rules.specs.Laws.{Extends}
use Rattle.mcv_rules.proofs.Basics

pub reply_stays : ReplyStays
reply_stays (Send l) o o2 x h e = h l.position x e
reply_stays (Reply y) o o2 x h e = e
reply_stays (Both t u) o o2 x h e =
    let s = Basics.both_some (reply t o) (reply u o) x e in
    ap₂ both (reply_stays t o o2 s.0 h s.2) (reply_stays u o o2 s.1 h s.3) ∙ ap Some s.4
reply_stays (Beside t u) o o2 x h e = reply_stays t o o2 x h e
reply_stays (OnError t u) o o2 x h e =
    elim (Basics.on_error_some (reply t o) (reply u o) x e) [
      | inl s ↦ Basics.on_error_first (reply t o2) (reply u o2) x (reply_stays t o o2 x h s.0) s.1
      | inr s ↦ Basics.on_error_second (reply t o2) (reply u o2) (reply_stays t o o2 Error h s.0) ∙ reply_stays u o o2 x h s.1
    ]
reply_stays (OnMiss t u) o o2 x h e =
    elim (Basics.on_miss_some (reply t o) (reply u o) x e) [
      | inl s ↦ Basics.on_miss_first (reply t o2) (reply u o2) (reply_stays t o o2 Good h s.0) ∙ ap Some (sym s.1)
      | inr s ↦ Basics.on_miss_second (reply t o2) (reply u o2) (⊎_elim (λ w. inl (reply_stays t o o2 Soft h w)) (λ w. inr (reply_stays t o o2 Error h w)) s.0) ∙ reply_stays u o o2 x h s.1
    ]
reply_stays (OnHit t u) o o2 x h e = reply_stays t o o2 x h e
reply_stays (Shadowed s a b t u) o o2 x h e = reply_stays t o o2 x h e

missed_stays : (t : Plan) (o o2 : Outcomes) → Extends o o2 → IsMissed (reply t o) → IsMissed (reply t o2)
missed_stays t o o2 h (inl w) = inl (reply_stays t o o2 Soft h w)
missed_stays t o o2 h (inr w) = inr (reply_stays t o o2 Error h w)

pub sent_stays : SentStays
sent_stays (Send k) c o o2 l h e = e
sent_stays (Reply y) c o o2 l h e = e
sent_stays (Both t u) c o o2 l h (inl e) = inl (sent_stays t c o o2 l h e)
sent_stays (Both t u) c o o2 l h (inr e) = inr (sent_stays u c o o2 l h e)
sent_stays (Beside t u) c o o2 l h (inl e) = inl (sent_stays t c o o2 l h e)
sent_stays (Beside t u) c o o2 l h (inr e) = inr (sent_stays u c o o2 l h e)
sent_stays (OnError t u) c o o2 l h (inl e) = inl (sent_stays t c o o2 l h e)
sent_stays (OnError t u) c o o2 l h (inr e) = inr (reply_stays t o o2 Error h e.0, sent_stays u c o o2 l h e.1)
sent_stays (OnMiss t u) c o o2 l h (inl e) = inl (sent_stays t c o o2 l h e)
sent_stays (OnMiss t u) c o o2 l h (inr e) = inr (missed_stays t o o2 h e.0, sent_stays u c o o2 l h e.1)
sent_stays (OnHit t u) c o o2 l h (inl e) = inl (sent_stays t c o o2 l h e)
sent_stays (OnHit t u) c o o2 l h (inr e) = inr (reply_stays t o o2 Good h e.0, sent_stays u c o o2 l h e.1)
sent_stays (Shadowed s a b t u) c o o2 l h (inl e) = inl (sent_stays t c o o2 l h e)
sent_stays (Shadowed s a b t u) c o o2 l h (inr e) = inr (e.0, e.1, sent_stays u c o o2 l h e.2)
