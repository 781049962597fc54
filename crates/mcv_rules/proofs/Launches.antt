-- The legs of a plan's list are those that it sends.
use Rattle.std.proofs.Common.{◌≡◌, ◌&&◌, cond, inl, inr, ⊎_elim, Bool, true, false, nat_le, List, [], Option, Some, None, refl, sym, subst}
use Rattle.std.proofs.lemmas.Bool.{and_parts, and_from, leb-true, le-leb}
use Rattle.mcv_base.specs.declared.reply.Outcome.{Outcome}
use Rattle.mcv_base.specs.declared.reply.Outcome.TheVariants.{Good, Soft, Error}
use Rattle.mcv_base.specs.Reply.{is_error, is_missed, is_good}
use Rattle.mcv_route.specs.Outcomes.{Outcomes, Choice}
use Rattle.mcv_rules.specs.Plan.{Leg, Plan, Send, Reply, Both, Beside, OnError, OnMiss, OnHit, Shadowed, reply, IsMissed, on_reply, launched}
use Rattle.mcv_rules.proofs.Sending.{Sends}
use Rattle.mcv_rules.proofs.ListMembers.{Among, among_left, among_right, among_either}

error_reply : (r : Option Outcome) (ls : List Leg) (l : Leg) → Among (on_reply is_error r ls) l → (r ≡ Some Error) × Among ls l
error_reply None ls l h = absurd h
error_reply (Some Good) ls l h = absurd h
error_reply (Some Soft) ls l h = absurd h
error_reply (Some Error) ls l h = (refl, h)

missed_reply : (r : Option Outcome) (ls : List Leg) (l : Leg) → Among (on_reply is_missed r ls) l → IsMissed r × Among ls l
missed_reply None ls l h = absurd h
missed_reply (Some Good) ls l h = absurd h
missed_reply (Some Soft) ls l h = (inl refl, h)
missed_reply (Some Error) ls l h = (inr refl, h)

good_reply : (r : Option Outcome) (ls : List Leg) (l : Leg) → Among (on_reply is_good r ls) l → (r ≡ Some Good) × Among ls l
good_reply None ls l h = absurd h
good_reply (Some Good) ls l h = (refl, h)
good_reply (Some Soft) ls l h = absurd h
good_reply (Some Error) ls l h = absurd h

reply_missed : (r : Option Outcome) (ls : List Leg) (l : Leg) → IsMissed r → Among ls l → Among (on_reply is_missed r ls) l
reply_missed r ls l (inl e) h = subst (λ q. Among (on_reply is_missed q ls) l) (sym e) h
reply_missed r ls l (inr e) h = subst (λ q. Among (on_reply is_missed q ls) l) (sym e) h

within : (b : Bool) (ls : List Leg) (l : Leg) → Among (cond b ls []) l → (b ≡ true) × Among ls l
within true ls l h = (refl, h)
within false ls l h = absurd h

pub launched_is : (t : Plan) (c : Choice) (o : Outcomes) (l : Leg) → Among (launched t c o) l → Sends t c o l
launched_is (Send k) c o l (inl e) = e
launched_is (Send k) c o l (inr e) = absurd e
launched_is (Reply x) c o l h = h
launched_is (Both t u) c o l h = ⊎_elim (λ i. inl (launched_is t c o l i)) (λ i. inr (launched_is u c o l i)) (among_either (launched t c o) (launched u c o) l h)
launched_is (Beside t u) c o l h = ⊎_elim (λ i. inl (launched_is t c o l i)) (λ i. inr (launched_is u c o l i)) (among_either (launched t c o) (launched u c o) l h)
launched_is (OnError t u) c o l h = ⊎_elim (λ i. inl (launched_is t c o l i)) (λ i. let s = error_reply (reply t o) (launched u c o) l i in inr (s.0, launched_is u c o l s.1)) (among_either (launched t c o) (on_reply is_error (reply t o) (launched u c o)) l h)
launched_is (OnMiss t u) c o l h = ⊎_elim (λ i. inl (launched_is t c o l i)) (λ i. let s = missed_reply (reply t o) (launched u c o) l i in inr (s.0, launched_is u c o l s.1)) (among_either (launched t c o) (on_reply is_missed (reply t o) (launched u c o)) l h)
launched_is (OnHit t u) c o l h = ⊎_elim (λ i. inl (launched_is t c o l i)) (λ i. let s = good_reply (reply t o) (launched u c o) l i in inr (s.0, launched_is u c o l s.1)) (among_either (launched t c o) (on_reply is_good (reply t o) (launched u c o)) l h)
launched_is (Shadowed s a b t u) c o l h =
    let inside = nat_le a (c s) && nat_le (c s) b in
    ⊎_elim
    (λ i. inl (launched_is t c o l i))
    (λ i. let w = within inside (launched u c o) l i in let p = and_parts (nat_le a (c s)) (nat_le (c s) b) w.0 in inr (leb-true a (c s) p.0, leb-true (c s) b p.1, launched_is u c o l w.1))
    (among_either (launched t c o) (cond inside (launched u c o) []) l h)

pub is_launched : (t : Plan) (c : Choice) (o : Outcomes) (l : Leg) → Sends t c o l → Among (launched t c o) l
is_launched (Send k) c o l e = inl e
is_launched (Reply x) c o l e = e
is_launched (Both t u) c o l (inl e) = among_left (launched t c o) (launched u c o) l (is_launched t c o l e)
is_launched (Both t u) c o l (inr e) = among_right (launched t c o) (launched u c o) l (is_launched u c o l e)
is_launched (Beside t u) c o l (inl e) = among_left (launched t c o) (launched u c o) l (is_launched t c o l e)
is_launched (Beside t u) c o l (inr e) = among_right (launched t c o) (launched u c o) l (is_launched u c o l e)
is_launched (OnError t u) c o l (inl e) = among_left (launched t c o) (on_reply is_error (reply t o) (launched u c o)) l (is_launched t c o l e)
is_launched (OnError t u) c o l (inr e) = among_right (launched t c o) (on_reply is_error (reply t o) (launched u c o)) l (subst (λ q. Among (on_reply is_error q (launched u c o)) l) (sym e.0) (is_launched u c o l e.1))
is_launched (OnMiss t u) c o l (inl e) = among_left (launched t c o) (on_reply is_missed (reply t o) (launched u c o)) l (is_launched t c o l e)
is_launched (OnMiss t u) c o l (inr e) = among_right (launched t c o) (on_reply is_missed (reply t o) (launched u c o)) l (reply_missed (reply t o) (launched u c o) l e.0 (is_launched u c o l e.1))
is_launched (OnHit t u) c o l (inl e) = among_left (launched t c o) (on_reply is_good (reply t o) (launched u c o)) l (is_launched t c o l e)
is_launched (OnHit t u) c o l (inr e) = among_right (launched t c o) (on_reply is_good (reply t o) (launched u c o)) l (subst (λ q. Among (on_reply is_good q (launched u c o)) l) (sym e.0) (is_launched u c o l e.1))
is_launched (Shadowed s a b t u) c o l (inl e) = among_left (launched t c o) (cond (nat_le a (c s) && nat_le (c s) b) (launched u c o) []) l (is_launched t c o l e)
is_launched (Shadowed s a b t u) c o l (inr e) =
    let yes_inside = and_from (nat_le a (c s)) (nat_le (c s) b) (le-leb a (c s) e.0) (le-leb (c s) b e.1) in
    among_right (launched t c o) (cond (nat_le a (c s) && nat_le (c s) b) (launched u c o) []) l
    (subst (λ i. Among (cond i (launched u c o) []) l) (sym yes_inside) (is_launched u c o l e.2))
