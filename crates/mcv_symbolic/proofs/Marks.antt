-- Counted legs, and the sizes of symbols.
use Rattle.std.proofs.Common.{◌≡◌, ◌⊎◌, inl, inr, ⊎_elim, ℕ, ◌<◌, true, false, List, [], ◌∷◌, length, Option, Some, None, refl, sym, ap, ◌∙◌, subst, true≢false}
use Rattle.mcv_base.specs.Operation.{is_counting}
use Rattle.mcv_base.specs.Reply.{is_error, is_missed, is_good}
use Rattle.mcv_base.specs.declared.reply.Outcome.{Outcome}
use Rattle.mcv_base.specs.declared.reply.Outcome.TheVariants.{Good, Soft, Error}
use Rattle.mcv_route.specs.Outcomes.{Outcomes, Choice}
use Rattle.mcv_rules.specs.Plan.{Leg, Plan, Send, Reply, Both, Beside, OnError, OnMiss, OnHit, Shadowed, reply, IsMissed}
use Rattle.mcv_rules.specs.Soundness.{IsMarked, IsSized}
use Rattle.mcv_rules.proofs.Sending.{Sends}
use Rattle.mcv_rules.proofs.ListMembers.{Among, among_left, among_right, among_either}
use Rattle.mcv_symbolic.specs.Structure.{nothing, if_all, Counts, Acknowledged, Hits}
use Rattle.mcv_symbolic.specs.SetLists.{when_error, when_replied, counted, acknowledged, of_both, hits}

pub counts_sent : (t : Plan) (c : Choice) (o : Outcomes) (l : Leg) → IsMarked true t → Counts t o l → Sends t c o l × ((is_counting l.mark) ≡ true)
counts_sent (Send k) c o l m e = (e, ap (λ n. (is_counting n.mark)) (sym e) ∙ m)
counts_sent (Reply x) c o l m e = absurd e
counts_sent (Both t u) c o l m (inl e) = let s = counts_sent t c o l m.0 e in (inl s.0, s.1)
counts_sent (Both t u) c o l m (inr e) = let s = counts_sent u c o l m.1 e in (inr s.0, s.1)
counts_sent (Beside t u) c o l m (inl e) = let s = counts_sent t c o l m.0 e in (inl s.0, s.1)
counts_sent (Beside t u) c o l m (inr e) = let s = counts_sent u c o l m.1 e in (inr s.0, s.1)
counts_sent (OnError t u) c o l m (inl e) = let s = counts_sent t c o l m.0 e in (inl s.0, s.1)
counts_sent (OnError t u) c o l m (inr e) = let s = counts_sent u c o l m.1 e.1 in (inr (e.0, s.0), s.1)
counts_sent (OnMiss t u) c o l m (inl e) = let s = counts_sent t c o l m.0 e in (inl s.0, s.1)
counts_sent (OnMiss t u) c o l m (inr e) = let s = counts_sent u c o l m.1 e.1 in (inr (e.0, s.0), s.1)
counts_sent (OnHit t u) c o l m (inl e) = let s = counts_sent t c o l m.0 e in (inl s.0, s.1)
counts_sent (OnHit t u) c o l m (inr e) = let s = counts_sent u c o l m.1 e.1 in (inr (e.0, s.0), s.1)
counts_sent (Shadowed i j k t u) c o l m e = let s = counts_sent t c o l m.0 e in (inl s.0, s.1)

shadow_sent : (t : Plan) (c : Choice) (o : Outcomes) (l : Leg) → IsMarked false t → Sends t c o l → (is_counting l.mark) ≡ false
shadow_sent (Send k) c o l m e = ap (λ n. (is_counting n.mark)) (sym e) ∙ m
shadow_sent (Reply x) c o l m e = absurd e
shadow_sent (Both t u) c o l m (inl e) = shadow_sent t c o l m.0 e
shadow_sent (Both t u) c o l m (inr e) = shadow_sent u c o l m.1 e
shadow_sent (Beside t u) c o l m (inl e) = shadow_sent t c o l m.0 e
shadow_sent (Beside t u) c o l m (inr e) = shadow_sent u c o l m.1 e
shadow_sent (OnError t u) c o l m (inl e) = shadow_sent t c o l m.0 e
shadow_sent (OnError t u) c o l m (inr e) = shadow_sent u c o l m.1 e.1
shadow_sent (OnMiss t u) c o l m (inl e) = shadow_sent t c o l m.0 e
shadow_sent (OnMiss t u) c o l m (inr e) = shadow_sent u c o l m.1 e.1
shadow_sent (OnHit t u) c o l m (inl e) = shadow_sent t c o l m.0 e
shadow_sent (OnHit t u) c o l m (inr e) = shadow_sent u c o l m.1 e.1
shadow_sent (Shadowed i j k t u) c o l m (inl e) = shadow_sent t c o l m.0 e
shadow_sent (Shadowed i j k t u) c o l m (inr e) = shadow_sent u c o l m.1 e.2

pub sent_counts : (t : Plan) (c : Choice) (o : Outcomes) (l : Leg) → IsMarked true t → Sends t c o l → (is_counting l.mark) ≡ true → Counts t o l
sent_counts (Send k) c o l m e w = e
sent_counts (Reply x) c o l m e w = e
sent_counts (Both t u) c o l m (inl e) w = inl (sent_counts t c o l m.0 e w)
sent_counts (Both t u) c o l m (inr e) w = inr (sent_counts u c o l m.1 e w)
sent_counts (Beside t u) c o l m (inl e) w = inl (sent_counts t c o l m.0 e w)
sent_counts (Beside t u) c o l m (inr e) w = inr (sent_counts u c o l m.1 e w)
sent_counts (OnError t u) c o l m (inl e) w = inl (sent_counts t c o l m.0 e w)
sent_counts (OnError t u) c o l m (inr e) w = inr (e.0, sent_counts u c o l m.1 e.1 w)
sent_counts (OnMiss t u) c o l m (inl e) w = inl (sent_counts t c o l m.0 e w)
sent_counts (OnMiss t u) c o l m (inr e) w = inr (e.0, sent_counts u c o l m.1 e.1 w)
sent_counts (OnHit t u) c o l m (inl e) w = inl (sent_counts t c o l m.0 e w)
sent_counts (OnHit t u) c o l m (inr e) w = inr (e.0, sent_counts u c o l m.1 e.1 w)
sent_counts (Shadowed i j k t u) c o l m (inl e) w = sent_counts t c o l m.0 e w
sent_counts (Shadowed i j k t u) c o l m (inr e) w = absurd (true≢false (sym w ∙ shadow_sent u c o l m.1 e.2))

-- ---- as lists

error_replied : (r : Option Outcome) (ls : List Leg) (l : Leg) → Among (when_replied is_error r ls) l → (r ≡ Some Error) × Among ls l
error_replied None ls l h = absurd h
error_replied (Some Good) ls l h = absurd h
error_replied (Some Soft) ls l h = absurd h
error_replied (Some Error) ls l h = (refl, h)

missed_replied : (r : Option Outcome) (ls : List Leg) (l : Leg) → Among (when_replied is_missed r ls) l → IsMissed r × Among ls l
missed_replied None ls l h = absurd h
missed_replied (Some Good) ls l h = absurd h
missed_replied (Some Soft) ls l h = (inl refl, h)
missed_replied (Some Error) ls l h = (inr refl, h)

good_replied : (r : Option Outcome) (ls : List Leg) (l : Leg) → Among (when_replied is_good r ls) l → (r ≡ Some Good) × Among ls l
good_replied None ls l h = absurd h
good_replied (Some Good) ls l h = (refl, h)
good_replied (Some Soft) ls l h = absurd h
good_replied (Some Error) ls l h = absurd h

replied_missed : (r : Option Outcome) (ls : List Leg) (l : Leg) → IsMissed r → Among ls l → Among (when_replied is_missed r ls) l
replied_missed r ls l (inl e) h = subst (λ q. Among (when_replied is_missed q ls) l) (sym e) h
replied_missed r ls l (inr e) h = subst (λ q. Among (when_replied is_missed q ls) l) (sym e) h

counted_is : (t : Plan) (o : Outcomes) (l : Leg) → Among (counted t o) l → Counts t o l
counted_is (Send k) o l (inl e) = e
counted_is (Send k) o l (inr e) = absurd e
counted_is (Reply x) o l h = h
counted_is (Both t u) o l h = ⊎_elim (λ i. inl (counted_is t o l i)) (λ i. inr (counted_is u o l i)) (among_either (counted t o) (counted u o) l h)
counted_is (Beside t u) o l h = ⊎_elim (λ i. inl (counted_is t o l i)) (λ i. inr (counted_is u o l i)) (among_either (counted t o) (counted u o) l h)
counted_is (OnError t u) o l h = ⊎_elim (λ i. inl (counted_is t o l i)) (λ i. let s = error_replied (reply t o) (counted u o) l i in inr (s.0, counted_is u o l s.1)) (among_either (counted t o) (when_replied is_error (reply t o) (counted u o)) l h)
counted_is (OnMiss t u) o l h = ⊎_elim (λ i. inl (counted_is t o l i)) (λ i. let s = missed_replied (reply t o) (counted u o) l i in inr (s.0, counted_is u o l s.1)) (among_either (counted t o) (when_replied is_missed (reply t o) (counted u o)) l h)
counted_is (OnHit t u) o l h = ⊎_elim (λ i. inl (counted_is t o l i)) (λ i. let s = good_replied (reply t o) (counted u o) l i in inr (s.0, counted_is u o l s.1)) (among_either (counted t o) (when_replied is_good (reply t o) (counted u o)) l h)
counted_is (Shadowed s a b t u) o l h = counted_is t o l h

is_counted : (t : Plan) (o : Outcomes) (l : Leg) → Counts t o l → Among (counted t o) l
is_counted (Send k) o l e = inl e
is_counted (Reply x) o l e = e
is_counted (Both t u) o l (inl e) = among_left (counted t o) (counted u o) l (is_counted t o l e)
is_counted (Both t u) o l (inr e) = among_right (counted t o) (counted u o) l (is_counted u o l e)
is_counted (Beside t u) o l (inl e) = among_left (counted t o) (counted u o) l (is_counted t o l e)
is_counted (Beside t u) o l (inr e) = among_right (counted t o) (counted u o) l (is_counted u o l e)
is_counted (OnError t u) o l (inl e) = among_left (counted t o) (when_replied is_error (reply t o) (counted u o)) l (is_counted t o l e)
is_counted (OnError t u) o l (inr e) = among_right (counted t o) (when_replied is_error (reply t o) (counted u o)) l (subst (λ q. Among (when_replied is_error q (counted u o)) l) (sym e.0) (is_counted u o l e.1))
is_counted (OnMiss t u) o l (inl e) = among_left (counted t o) (when_replied is_missed (reply t o) (counted u o)) l (is_counted t o l e)
is_counted (OnMiss t u) o l (inr e) = among_right (counted t o) (when_replied is_missed (reply t o) (counted u o)) l (replied_missed (reply t o) (counted u o) l e.0 (is_counted u o l e.1))
is_counted (OnHit t u) o l (inl e) = among_left (counted t o) (when_replied is_good (reply t o) (counted u o)) l (is_counted t o l e)
is_counted (OnHit t u) o l (inr e) = among_right (counted t o) (when_replied is_good (reply t o) (counted u o)) l (subst (λ q. Among (when_replied is_good q (counted u o)) l) (sym e.0) (is_counted u o l e.1))
is_counted (Shadowed s a b t u) o l e = is_counted t o l e

error_when : (x : Outcome) (ls : List Leg) (l : Leg) → Among (when_error x ls) l → (x ≡ Error) × Among ls l
error_when Good ls l h = absurd h
error_when Soft ls l h = absurd h
error_when Error ls l h = (refl, h)

pub acknowledged_is : (t : Plan) (l : Leg) → Among (acknowledged t) l → Acknowledged t l
acknowledged_is (Send k) l (inl e) = e
acknowledged_is (Send k) l (inr e) = absurd e
acknowledged_is (Reply x) l h = h
acknowledged_is (Both t u) l h = ⊎_elim (λ i. inl (acknowledged_is t l i)) (λ i. inr (acknowledged_is u l i)) (among_either (acknowledged t) (acknowledged u) l h)
acknowledged_is (Beside t u) l h = ⊎_elim (λ i. inl (acknowledged_is t l i)) (λ i. inr (counted_is u nothing l i)) (among_either (acknowledged t) (counted u nothing) l h)
acknowledged_is (OnError t u) l h = ⊎_elim (λ i. inl (acknowledged_is t l i)) (λ i. let s = error_when (if_all Good t) (acknowledged u) l i in inr (s.0, acknowledged_is u l s.1)) (among_either (acknowledged t) (when_error (if_all Good t) (acknowledged u)) l h)
acknowledged_is (OnMiss t u) l h = h
acknowledged_is (OnHit t u) l h = h
acknowledged_is (Shadowed s a b t u) l h = acknowledged_is t l h

pub is_acknowledged : (t : Plan) (l : Leg) → Acknowledged t l → Among (acknowledged t) l
is_acknowledged (Send k) l e = inl e
is_acknowledged (Reply x) l e = e
is_acknowledged (Both t u) l (inl e) = among_left (acknowledged t) (acknowledged u) l (is_acknowledged t l e)
is_acknowledged (Both t u) l (inr e) = among_right (acknowledged t) (acknowledged u) l (is_acknowledged u l e)
is_acknowledged (Beside t u) l (inl e) = among_left (acknowledged t) (counted u nothing) l (is_acknowledged t l e)
is_acknowledged (Beside t u) l (inr e) = among_right (acknowledged t) (counted u nothing) l (is_counted u nothing l e)
is_acknowledged (OnError t u) l (inl e) = among_left (acknowledged t) (when_error (if_all Good t) (acknowledged u)) l (is_acknowledged t l e)
is_acknowledged (OnError t u) l (inr e) = among_right (acknowledged t) (when_error (if_all Good t) (acknowledged u)) l (subst (λ q. Among (when_error q (acknowledged u)) l) (sym e.0) (is_acknowledged u l e.1))
is_acknowledged (OnMiss t u) l e = e
is_acknowledged (OnHit t u) l e = e
is_acknowledged (Shadowed s a b t u) l e = is_acknowledged t l e

-- ---- sizes

counts_sized : (sizes : List ℕ) (t : Plan) (o : Outcomes) (l : Leg) → IsSized sizes t → Counts t o l → l.symbol < length sizes
counts_sized sizes (Send k) o l z e = subst (λ n. n.symbol < length sizes) e z
counts_sized sizes (Reply x) o l z e = absurd e
counts_sized sizes (Both t u) o l z (inl e) = counts_sized sizes t o l z.0 e
counts_sized sizes (Both t u) o l z (inr e) = counts_sized sizes u o l z.1 e
counts_sized sizes (Beside t u) o l z (inl e) = counts_sized sizes t o l z.0 e
counts_sized sizes (Beside t u) o l z (inr e) = counts_sized sizes u o l z.1 e
counts_sized sizes (OnError t u) o l z (inl e) = counts_sized sizes t o l z.0 e
counts_sized sizes (OnError t u) o l z (inr e) = counts_sized sizes u o l z.1 e.1
counts_sized sizes (OnMiss t u) o l z (inl e) = counts_sized sizes t o l z.0 e
counts_sized sizes (OnMiss t u) o l z (inr e) = counts_sized sizes u o l z.1 e.1
counts_sized sizes (OnHit t u) o l z (inl e) = counts_sized sizes t o l z.0 e
counts_sized sizes (OnHit t u) o l z (inr e) = counts_sized sizes u o l z.1 e.1
counts_sized sizes (Shadowed s a b t u) o l z e = counts_sized sizes t o l z.0 e

pub acknowledged_sized : (sizes : List ℕ) (t : Plan) (l : Leg) → IsSized sizes t → Acknowledged t l → l.symbol < length sizes
acknowledged_sized sizes (Send k) l z e = subst (λ n. n.symbol < length sizes) e z
acknowledged_sized sizes (Reply x) l z e = absurd e
acknowledged_sized sizes (Both t u) l z (inl e) = acknowledged_sized sizes t l z.0 e
acknowledged_sized sizes (Both t u) l z (inr e) = acknowledged_sized sizes u l z.1 e
acknowledged_sized sizes (Beside t u) l z (inl e) = acknowledged_sized sizes t l z.0 e
acknowledged_sized sizes (Beside t u) l z (inr e) = counts_sized sizes u nothing l z.1 e
acknowledged_sized sizes (OnError t u) l z (inl e) = acknowledged_sized sizes t l z.0 e
acknowledged_sized sizes (OnError t u) l z (inr e) = acknowledged_sized sizes u l z.1 e.1
acknowledged_sized sizes (OnMiss t u) l z e = absurd e
acknowledged_sized sizes (OnHit t u) l z e = absurd e
acknowledged_sized sizes (Shadowed s a b t u) l z e = acknowledged_sized sizes t l z.0 e

pub hits_sized : (sizes : List ℕ) (t : Plan) (l : Leg) → IsSized sizes t → Hits t l → l.symbol < length sizes
hits_sized sizes (Send k) l z e = subst (λ n. n.symbol < length sizes) e z
hits_sized sizes (Reply x) l z e = absurd e
hits_sized sizes (Both t u) l z e = ⊎_elim (hits_sized sizes t l z.0) (hits_sized sizes u l z.1) e.2
hits_sized sizes (Beside t u) l z e = hits_sized sizes t l z.0 e
hits_sized sizes (OnError t u) l z (inl e) = hits_sized sizes t l z.0 e
hits_sized sizes (OnError t u) l z (inr e) = hits_sized sizes u l z.1 e.1
hits_sized sizes (OnMiss t u) l z (inl e) = hits_sized sizes t l z.0 e
hits_sized sizes (OnMiss t u) l z (inr e) = hits_sized sizes u l z.1 e
hits_sized sizes (OnHit t u) l z e = hits_sized sizes t l z.0 e
hits_sized sizes (Shadowed s a b t u) l z e = hits_sized sizes t l z.0 e

-- ---- the legs that can hit, as a list

both_among : (ks ls : List Leg) (l : Leg) → Among (of_both ks ls) l → ((m : Leg) × Among ks m) × ((m : Leg) × Among ls m) × (Among ks l ⊎ Among ls l)
both_among [] ls l h = absurd h
both_among (k ∷ ks) [] l h = absurd h
both_among (k ∷ ks) (n ∷ ls) l h = ((k, inl refl), (n, inl refl), among_either (k ∷ ks) (n ∷ ls) l h)

among_both : (ks ls : List Leg) (l : Leg) → ((m : Leg) × Among ks m) → ((m : Leg) × Among ls m) → Among ks l ⊎ Among ls l → Among (of_both ks ls) l
among_both [] ls l a b h = absurd a.1
among_both (k ∷ ks) [] l a b h = absurd b.1
among_both (k ∷ ks) (n ∷ ls) l a b (inl h) = among_left (k ∷ ks) (n ∷ ls) l h
among_both (k ∷ ks) (n ∷ ls) l a b (inr h) = among_right (k ∷ ks) (n ∷ ls) l h

pub hits_are : (t : Plan) (l : Leg) → Among (hits t) l → Hits t l
hits_are (Send k) l (inl e) = e
hits_are (Send k) l (inr e) = absurd e
hits_are (Reply x) l h = h
hits_are (Both t u) l h =
    let b = both_among (hits t) (hits u) l h in
    ((b.0.0, hits_are t b.0.0 b.0.1), (b.1.0, hits_are u b.1.0 b.1.1), ⊎_elim (λ i. inl (hits_are t l i)) (λ i. inr (hits_are u l i)) b.2)
hits_are (Beside t u) l h = hits_are t l h
hits_are (OnError t u) l h = ⊎_elim (λ i. inl (hits_are t l i)) (λ i. let s = error_when (if_all Error t) (hits u) l i in inr (s.0, hits_are u l s.1)) (among_either (hits t) (when_error (if_all Error t) (hits u)) l h)
hits_are (OnMiss t u) l h = ⊎_elim (λ i. inl (hits_are t l i)) (λ i. inr (hits_are u l i)) (among_either (hits t) (hits u) l h)
hits_are (OnHit t u) l h = hits_are t l h
hits_are (Shadowed s a b t u) l h = hits_are t l h

pub are_hits : (t : Plan) (l : Leg) → Hits t l → Among (hits t) l
are_hits (Send k) l e = inl e
are_hits (Reply x) l e = e
are_hits (Both t u) l e =
    among_both (hits t) (hits u) l (e.0.0, are_hits t e.0.0 e.0.1) (e.1.0, are_hits u e.1.0 e.1.1) (⊎_elim (λ i. inl (are_hits t l i)) (λ i. inr (are_hits u l i)) e.2)
are_hits (Beside t u) l e = are_hits t l e
are_hits (OnError t u) l (inl e) = among_left (hits t) (when_error (if_all Error t) (hits u)) l (are_hits t l e)
are_hits (OnError t u) l (inr e) = among_right (hits t) (when_error (if_all Error t) (hits u)) l (subst (λ q. Among (when_error q (hits u)) l) (sym e.0) (are_hits u l e.1))
are_hits (OnMiss t u) l (inl e) = among_left (hits t) (hits u) l (are_hits t l e)
are_hits (OnMiss t u) l (inr e) = among_right (hits t) (hits u) l (are_hits u l e)
are_hits (OnHit t u) l e = are_hits t l e
are_hits (Shadowed s a b t u) l e = are_hits t l e
