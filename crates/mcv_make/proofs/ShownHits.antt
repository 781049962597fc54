-- The outcomes that are shown lead to a hit.
use Rattle.std.proofs.Common.{◌≡◌, ◌≢◌, ◌⊎◌, inl, inr, ⊎_elim, ℕ, Bool, true, false, List, [], ◌∷◌, ◌++◌, Option, Some, None, refl, sym, ap, ◌∙◌, subst}
use Rattle.std.specs.Prelude.{if◌then◌else◌}
use Rattle.std.proofs.lemmas.Option.{none-some, same_Some}
use Rattle.mcv_base.specs.Reply.{is_error, is_missed}
use Rattle.mcv_base.specs.declared.reply.Outcome.{Outcome}
use Rattle.mcv_base.specs.declared.reply.Outcome.TheVariants.{Good, Soft, Error}
use Rattle.mcv_route.specs.Outcomes.{History, is_same}
use Rattle.mcv_rules.specs.Plan.{Leg, Plan, Send, Reply, Both, Beside, OnError, OnMiss, OnHit, Shadowed}
use Rattle.mcv_rules.specs.Soundness.{positions, IsApart, IsHonest}
use Rattle.mcv_rules.proofs.Orders.{cond_at_true, same_is, same_self}
use Rattle.mcv_symbolic.specs.ShownAnswers.{also, answers, first_hit, leaf_hit, one_after_other, or_else}
use Rattle.mcv_symbolic.specs.Structure.{if_all, Hits}
use Rattle.mcv_symbolic.proofs.SetsAreLeast.{Shows, in_beside, in_on_error, in_on_hit, in_on_miss, in_shadowed, not_good, shows_both, shows_on_error, shows_on_miss, shows_send, soft≢good}
use Rattle.mcv_make.proofs.OutcomeOrder.{IsOrdered, answers-ordered, one-outcome, ordered-both, ordered-first}

-- ---- taken apart

also_some : (es : History) (y : Option History) (all : History) → also es y ≡ Some all → (fs : History) × (y ≡ Some fs) × (es ++ fs ≡ all)
also_some es None all e = absurd (none-some all e)
also_some es (Some fs) all e = (fs, refl, same_Some (es ++ fs) all e)

also_none : (es : History) (y : Option History) → also es y ≡ None → y ≡ None
also_none es None e = refl
also_none es (Some fs) e = absurd (none-some (es ++ fs) (sym e))

both_some : (x y : Option History) (all : History) → one_after_other x y ≡ Some all → (es : History) × (fs : History) × (x ≡ Some es) × (y ≡ Some fs) × (es ++ fs ≡ all)
both_some None y all e = absurd (none-some all e)
both_some (Some es) y all e = let h = also_some es y all e in (es, h.0, refl, h.1, h.2)

both_none : (x y : Option History) → one_after_other x y ≡ None → (x ≡ None) ⊎ (y ≡ None)
both_none None y e = inl refl
both_none (Some es) y e = inr (also_none es y e)

or_some : (x y : Option History) (all : History) → or_else x y ≡ Some all → (x ≡ Some all) ⊎ (x ≡ None) × (y ≡ Some all)
or_some None y all e = inr (refl, e)
or_some (Some es) y all e = inl e

or_none : (x y : Option History) → or_else x y ≡ None → (x ≡ None) × (y ≡ None)
or_none None y e = (refl, e)
or_none (Some es) y e = absurd (none-some es (sym e))

abbrev after-error : Outcome → History → Option History → Option History
after-error x es y = if is_error x then also es y else None

errors_some : (x : Outcome) (es : History) (y : Option History) (all : History) → after-error x es y ≡ Some all → (x ≡ Error) × (fs : History) × (y ≡ Some fs) × (es ++ fs ≡ all)
errors_some Good es y all e = absurd (none-some all e)
errors_some Soft es y all e = absurd (none-some all e)
errors_some Error es y all e = let w = also_some es y all e in (refl, w.0, w.1, w.2)

errors_none : (x : Outcome) (es : History) (y : Option History) → after-error x es y ≡ None → x ≡ Error → y ≡ None
errors_none Good es y e w = absurd cc
errors_none Soft es y e w = absurd cc
errors_none Error es y e w = also_none es y e

abbrev after-miss : Outcome → History → Option History → Option History
after-miss x es y = if is_missed x then also es y else None

misses_some : (x : Outcome) (es : History) (y : Option History) (all : History) → after-miss x es y ≡ Some all → (fs : History) × (y ≡ Some fs) × (es ++ fs ≡ all)
misses_some Good es y all e = absurd (none-some all e)
misses_some Soft es y all e = also_some es y all e
misses_some Error es y all e = also_some es y all e

misses_none : (x : Outcome) (es : History) (y : Option History) → after-miss x es y ≡ None → x ≢ Good → y ≡ None
misses_none Good es y e w = absurd (w refl)
misses_none Soft es y e w = also_none es y e
misses_none Error es y e w = also_none es y e

-- ---- the first hit

-- a leg that can hit, and outcomes that lead to its hit
pub record HasHit (t : Plan) (es : History) : Type 0 where
  pub leg : Leg
  pub can : Hits t leg
  pub shows : Shows t leg es
  pub ordered : IsOrdered (positions t) es

one-hit : (k : Leg) (es : History) → (k.position, Good) ∷ [] ≡ es → HasHit (Send k) es
one-hit k es e = subst (HasHit (Send k)) e (record { leg = k; can = refl; shows = shows_send k; ordered = one-outcome k.position Good })

first_right : (t : Plan) (es : History) → IsApart t → IsHonest t → first_hit t ≡ Some es → HasHit t es
first_right (Send k) es a h e = one-hit k es (same_Some ((k.position, Good) ∷ []) es e)
first_right (Reply y) es a h e = absurd (none-some es e)
first_right (Both t u) es a h e =
    let w = both_some (first_hit t) (first_hit u) es e in
    let x = first_right t w.0 a.0 h.0 w.2 in
    let y = first_right u w.1 a.1 h.1 w.3 in
    subst (HasHit (Both t u)) w.4 (record {
      leg = x.leg;
      can = ((x.leg, x.can), (y.leg, y.can), inl x.can);
      shows = shows_both t u x.leg x.leg y.leg w.0 w.1 a.2 x.shows y.shows (λ o f g. inl f);
      ordered = ordered-both (positions t) (positions u) w.0 w.1 x.ordered y.ordered;
    })
first_right (Beside t u) es a h e =
    let x = first_right t es a.0 h.0 e in record { leg = x.leg; can = x.can; shows = in_beside t u x.leg es x.shows; ordered = ordered-first (positions t) (positions u) es x.ordered }
first_right (OnError t u) es a h e =
    elim (or_some (first_hit t) (after-error (if_all Error t) (answers Error t) (first_hit u)) es e) [
      | inl f ↦ let x = first_right t es a.0 h.0 f in record { leg = x.leg; can = inl x.can; shows = in_on_error t u x.leg es x.shows; ordered = ordered-first (positions t) (positions u) es x.ordered }
      | inr f ↦
          let w = errors_some (if_all Error t) (answers Error t) (first_hit u) es f.1 in
          let y = first_right u w.1 a.1 h.1 w.2 in
          subst (HasHit (OnError t u)) w.3 (record {
            leg = y.leg;
            can = inr (w.0, y.can);
            shows = shows_on_error t u y.leg w.1 a.2 a.0 w.0 y.shows;
            ordered = ordered-both (positions t) (positions u) (answers Error t) w.1 (answers-ordered Error t) y.ordered;
          })
    ]
first_right (OnMiss t u) es a h e =
    elim (or_some (first_hit t) (after-miss (if_all Soft t) (answers Soft t) (first_hit u)) es e) [
      | inl f ↦ let x = first_right t es a.0 h.0 f in record { leg = x.leg; can = inl x.can; shows = in_on_miss t u x.leg es x.shows; ordered = ordered-first (positions t) (positions u) es x.ordered }
      | inr f ↦
          let w = misses_some (if_all Soft t) (answers Soft t) (first_hit u) es f.1 in
          let y = first_right u w.0 a.1 h.1 w.1 in
          subst (HasHit (OnMiss t u)) w.2 (record {
            leg = y.leg;
            can = inr y.can;
            shows = shows_on_miss t u y.leg w.0 a.2 a.0 h.0 y.shows;
            ordered = ordered-both (positions t) (positions u) (answers Soft t) w.0 (answers-ordered Soft t) y.ordered;
          })
    ]
first_right (OnHit t u) es a h e =
    let x = first_right t es a.0 h.0 e in record { leg = x.leg; can = x.can; shows = in_on_hit t u x.leg es x.shows; ordered = ordered-first (positions t) (positions u) es x.ordered }
first_right (Shadowed n b d t u) es a h e =
    let x = first_right t es a.0 h.0 e in record { leg = x.leg; can = x.can; shows = in_shadowed t u x.leg es x.shows n b d; ordered = ordered-first (positions t) (positions u) es x.ordered }

first_left : (t : Plan) (m : Leg) → IsHonest t → first_hit t ≡ None → Hits t m → ⊥
first_left (Send k) m o e h = none-some ((k.position, Good) ∷ []) (sym e)
first_left (Reply y) m o e h = h
first_left (Both t u) m o e h = ⊎_elim (λ f. first_left t h.0.0 o.0 f h.0.1) (λ f. first_left u h.1.0 o.1 f h.1.1) (both_none (first_hit t) (first_hit u) e)
first_left (Beside t u) m o e h = first_left t m o.0 e h
first_left (OnError t u) m o e (inl h) = first_left t m o.0 (or_none (first_hit t) (after-error (if_all Error t) (answers Error t) (first_hit u)) e).0 h
first_left (OnError t u) m o e (inr h) = first_left u m o.1 (errors_none (if_all Error t) (answers Error t) (first_hit u) (or_none (first_hit t) (after-error (if_all Error t) (answers Error t) (first_hit u)) e).1 h.0) h.1
first_left (OnMiss t u) m o e (inl h) = first_left t m o.0 (or_none (first_hit t) (after-miss (if_all Soft t) (answers Soft t) (first_hit u)) e).0 h
first_left (OnMiss t u) m o e (inr h) = first_left u m o.1 (misses_none (if_all Soft t) (answers Soft t) (first_hit u) (or_none (first_hit t) (after-miss (if_all Soft t) (answers Soft t) (first_hit u)) e).1 (not_good Soft t soft≢good o.0)) h
first_left (OnHit t u) m o e h = first_left t m o.0 e h
first_left (Shadowed n b d t u) m o e h = first_left t m o.0 e h

-- ---- the hit of the leg at a position

-- outcomes that lead to a hit of the leg at the position
pub record HasHitAt (p : List ℕ) (t : Plan) (es : History) : Type 0 where
  pub leg : Leg
  pub at : leg.position ≡ p
  pub shows : Shows t leg es
  pub ordered : IsOrdered (positions t) es

when-some : (b : Bool) (x all : History) → (if b then Some x else None) ≡ Some all → (b ≡ true) × (x ≡ all)
when-some true x all e = (refl, same_Some x all e)
when-some false x all e = absurd (none-some all e)

pub leaf_hit_right : (p : List ℕ) (t : Plan) (es : History) → IsApart t → IsHonest t → leaf_hit p t ≡ Some es → HasHitAt p t es
leaf_hit_right p (Send k) es a h e =
    let w = when-some (is_same k.position p) ((k.position, Good) ∷ []) es e in
    subst (HasHitAt p (Send k)) w.1 (record { leg = k; at = same_is k.position p w.0; shows = shows_send k; ordered = one-outcome k.position Good })
leaf_hit_right p (Reply y) es a h e = absurd (none-some es e)
leaf_hit_right p (Both t u) es a h e =
    elim (or_some (one_after_other (leaf_hit p t) (first_hit u)) (one_after_other (first_hit t) (leaf_hit p u)) es e) [
      | inl f ↦
          let w = both_some (leaf_hit p t) (first_hit u) es f in
          let x = leaf_hit_right p t w.0 a.0 h.0 w.2 in
          let y = first_right u w.1 a.1 h.1 w.3 in
          subst (HasHitAt p (Both t u)) w.4 (record {
            leg = x.leg;
            at = x.at;
            shows = shows_both t u x.leg x.leg y.leg w.0 w.1 a.2 x.shows y.shows (λ o f g. inl f);
            ordered = ordered-both (positions t) (positions u) w.0 w.1 x.ordered y.ordered;
          })
      | inr f ↦
          let w = both_some (first_hit t) (leaf_hit p u) es f.1 in
          let x = first_right t w.0 a.0 h.0 w.2 in
          let y = leaf_hit_right p u w.1 a.1 h.1 w.3 in
          subst (HasHitAt p (Both t u)) w.4 (record {
            leg = y.leg;
            at = y.at;
            shows = shows_both t u y.leg x.leg y.leg w.0 w.1 a.2 x.shows y.shows (λ o f g. inr g);
            ordered = ordered-both (positions t) (positions u) w.0 w.1 x.ordered y.ordered;
          })
    ]
leaf_hit_right p (Beside t u) es a h e =
    let x = leaf_hit_right p t es a.0 h.0 e in record { leg = x.leg; at = x.at; shows = in_beside t u x.leg es x.shows; ordered = ordered-first (positions t) (positions u) es x.ordered }
leaf_hit_right p (OnError t u) es a h e =
    elim (or_some (leaf_hit p t) (after-error (if_all Error t) (answers Error t) (leaf_hit p u)) es e) [
      | inl f ↦ let x = leaf_hit_right p t es a.0 h.0 f in record { leg = x.leg; at = x.at; shows = in_on_error t u x.leg es x.shows; ordered = ordered-first (positions t) (positions u) es x.ordered }
      | inr f ↦
          let w = errors_some (if_all Error t) (answers Error t) (leaf_hit p u) es f.1 in
          let y = leaf_hit_right p u w.1 a.1 h.1 w.2 in
          subst (HasHitAt p (OnError t u)) w.3 (record {
            leg = y.leg;
            at = y.at;
            shows = shows_on_error t u y.leg w.1 a.2 a.0 w.0 y.shows;
            ordered = ordered-both (positions t) (positions u) (answers Error t) w.1 (answers-ordered Error t) y.ordered;
          })
    ]
leaf_hit_right p (OnMiss t u) es a h e =
    elim (or_some (leaf_hit p t) (after-miss (if_all Soft t) (answers Soft t) (leaf_hit p u)) es e) [
      | inl f ↦ let x = leaf_hit_right p t es a.0 h.0 f in record { leg = x.leg; at = x.at; shows = in_on_miss t u x.leg es x.shows; ordered = ordered-first (positions t) (positions u) es x.ordered }
      | inr f ↦
          let w = misses_some (if_all Soft t) (answers Soft t) (leaf_hit p u) es f.1 in
          let y = leaf_hit_right p u w.0 a.1 h.1 w.1 in
          subst (HasHitAt p (OnMiss t u)) w.2 (record {
            leg = y.leg;
            at = y.at;
            shows = shows_on_miss t u y.leg w.0 a.2 a.0 h.0 y.shows;
            ordered = ordered-both (positions t) (positions u) (answers Soft t) w.0 (answers-ordered Soft t) y.ordered;
          })
    ]
leaf_hit_right p (OnHit t u) es a h e =
    let x = leaf_hit_right p t es a.0 h.0 e in record { leg = x.leg; at = x.at; shows = in_on_hit t u x.leg es x.shows; ordered = ordered-first (positions t) (positions u) es x.ordered }
leaf_hit_right p (Shadowed n b d t u) es a h e =
    let x = leaf_hit_right p t es a.0 h.0 e in record { leg = x.leg; at = x.at; shows = in_shadowed t u x.leg es x.shows n b d; ordered = ordered-first (positions t) (positions u) es x.ordered }

-- no leg at the position can hit where nothing leads to its hit
leaf_hit_left : (p : List ℕ) (t : Plan) (l : Leg) → IsHonest t → l.position ≡ p → leaf_hit p t ≡ None → Hits t l → ⊥
leaf_hit_left p (Send k) l o at e h =
    none-some ((k.position, Good) ∷ []) (sym e ∙ cond_at_true (is_same k.position p) (Some ((k.position, Good) ∷ [])) None (ap (is_same k.position) (sym (ap (λ (m : Leg). m.position) h ∙ at)) ∙ same_self k.position))
leaf_hit_left p (Reply y) l o at e h = h
leaf_hit_left p (Both t u) l o at e h =
    let w = or_none (one_after_other (leaf_hit p t) (first_hit u)) (one_after_other (first_hit t) (leaf_hit p u)) e in
    elim h.2 [
      | inl i ↦ ⊎_elim (λ f. leaf_hit_left p t l o.0 at f i) (λ f. first_left u h.1.0 o.1 f h.1.1) (both_none (leaf_hit p t) (first_hit u) w.0)
      | inr i ↦ ⊎_elim (λ f. first_left t h.0.0 o.0 f h.0.1) (λ f. leaf_hit_left p u l o.1 at f i) (both_none (first_hit t) (leaf_hit p u) w.1)
    ]
leaf_hit_left p (Beside t u) l o at e h = leaf_hit_left p t l o.0 at e h
leaf_hit_left p (OnError t u) l o at e (inl h) = leaf_hit_left p t l o.0 at (or_none (leaf_hit p t) (after-error (if_all Error t) (answers Error t) (leaf_hit p u)) e).0 h
leaf_hit_left p (OnError t u) l o at e (inr h) = leaf_hit_left p u l o.1 at (errors_none (if_all Error t) (answers Error t) (leaf_hit p u) (or_none (leaf_hit p t) (after-error (if_all Error t) (answers Error t) (leaf_hit p u)) e).1 h.0) h.1
leaf_hit_left p (OnMiss t u) l o at e (inl h) = leaf_hit_left p t l o.0 at (or_none (leaf_hit p t) (after-miss (if_all Soft t) (answers Soft t) (leaf_hit p u)) e).0 h
leaf_hit_left p (OnMiss t u) l o at e (inr h) = leaf_hit_left p u l o.1 at (misses_none (if_all Soft t) (answers Soft t) (leaf_hit p u) (or_none (leaf_hit p t) (after-miss (if_all Soft t) (answers Soft t) (leaf_hit p u)) e).1 (not_good Soft t soft≢good o.0)) h
leaf_hit_left p (OnHit t u) l o at e h = leaf_hit_left p t l o.0 at e h
leaf_hit_left p (Shadowed n b d t u) l o at e h = leaf_hit_left p t l o.0 at e h

-- where a leg at the position can hit, outcomes that lead to its hit are shown
pub shown : (p : List ℕ) (t : Plan) (l : Leg) → IsHonest t → l.position ≡ p → Hits t l → (es : History) × (leaf_hit p t ≡ Some es)
shown p t l o at h = by-case (leaf_hit p t) refl
  where
    by-case : (x : Option History) → leaf_hit p t ≡ x → (es : History) × (leaf_hit p t ≡ Some es)
    by-case None e = absurd (leaf_hit_left p t l o at e h)
    by-case (Some es) e = (es, e)
