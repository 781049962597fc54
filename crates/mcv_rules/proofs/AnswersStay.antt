-- Later outcomes change no answer.
use Rattle.std.proofs.Common.{◌≡◌, ◌⊎◌, cond, inl, inr, ⊎_elim, ℕ, suc, Bool, true, false, List, [], ◌∷◌, Option, Some, None, refl, ap, ap₂, ◌∙◌}
use Rattle.mcv_base.specs.declared.reply.Outcome.{Outcome}
use Rattle.mcv_route.specs.Outcomes.{Outcomes}
use Rattle.mcv_rules.specs.Laws.{Extends}
use Rattle.mcv_base.specs.Reply.{is_error, is_good}
use Rattle.mcv_route.specs.Tree.{Trees, pool, null, error, many, warm_up, migrate, prefix_selector, operation_selector, none, child}
use Rattle.mcv_route.specs.Situation.{Situation, under}
use Rattle.mcv_base.specs.Operation.{is_reading}
use Rattle.mcv_route.specs.Children.{policy_of, prefix_policy, way_of}
use Rattle.mcv_route.specs.Replies.{Answer, refused, own_answers, the_worse, or_after_error, or_after_miss, replies, replies_each}
use Rattle.mcv_rules.specs.Laws.{ReplyStays}
use Rattle.mcv_rules.proofs.KindCases.{IsKept, many_related}
use Rattle.mcv_rules.proofs.RelatedLists

-- there was no answer, or the same
abbrev pub Stays : List Answer → List Answer → Type 0
Stays before after = (before ≡ []) ⊎ (after ≡ before)

own_stays : (p : List ℕ) (x y : Option Outcome) → ((z : Outcome) → x ≡ Some z → y ≡ Some z) → Stays (own_answers p x) (own_answers p y)
own_stays p None y h = inl refl
own_stays p (Some x) y h = inr (ap (own_answers p) (h x refl))

pub worse_none : (bs : List Answer) → the_worse bs [] ≡ []
worse_none [] = refl
worse_none (b ∷ bs) = refl

worse_stays : (a b x y : List Answer) → Stays a x → Stays b y → Stays (the_worse a b) (the_worse x y)
worse_stays a b x y (inl e) h = inl (ap (λ z. the_worse z b) e)
worse_stays a b x y (inr e) (inl f) = inl (ap (the_worse a) f ∙ worse_none a)
worse_stays a b x y (inr e) (inr f) = inr (ap₂ the_worse e f)

-- the second answers don't matter, or they are the answers
error_either : (a : List Answer) → ((b c : List Answer) → or_after_error a b ≡ or_after_error a c) ⊎ ((b : List Answer) → or_after_error a b ≡ b)
error_either [] = inl (λ b c. refl)
error_either (a ∷ more) = by_test (is_error a.outcome)
  where
    by_test : (test : Bool) → ((b c : List Answer) → cond test b (a ∷ more) ≡ cond test c (a ∷ more)) ⊎ ((b : List Answer) → cond test b (a ∷ more) ≡ b)
    by_test true = inr (λ b. refl)
    by_test false = inl (λ b c. refl)

miss_either : (a : List Answer) → ((b c : List Answer) → or_after_miss a b ≡ or_after_miss a c) ⊎ ((b : List Answer) → or_after_miss a b ≡ b)
miss_either [] = inl (λ b c. refl)
miss_either (a ∷ more) = by_test (is_good a.outcome)
  where
    by_test : (test : Bool) → ((b c : List Answer) → cond test (a ∷ more) b ≡ cond test (a ∷ more) c) ⊎ ((b : List Answer) → cond test (a ∷ more) b ≡ b)
    by_test true = inl (λ b c. refl)
    by_test false = inr (λ b. refl)

error_stays : (a b x y : List Answer) → Stays a x → Stays b y → Stays (or_after_error a b) (or_after_error x y)
error_stays a b x y (inl e) h = inl (ap (λ z. or_after_error z b) e)
error_stays a b x y (inr e) (inr f) = inr (ap₂ or_after_error e f)
error_stays a b x y (inr e) (inl f) = ⊎_elim (λ h. inr (ap (λ z. or_after_error z y) e ∙ h y b)) (λ h. inl (h b ∙ f)) (error_either a)

miss_stays : (a b x y : List Answer) → Stays a x → Stays b y → Stays (or_after_miss a b) (or_after_miss x y)
miss_stays a b x y (inl e) h = inl (ap (λ z. or_after_miss z b) e)
miss_stays a b x y (inr e) (inr f) = inr (ap₂ or_after_miss e f)
miss_stays a b x y (inr e) (inl f) = ⊎_elim (λ h. inr (ap (λ z. or_after_miss z y) e ∙ h y b)) (λ h. inl (h b ∙ f)) (miss_either a)

stays_kept : IsKept Stays
stays_kept = record {
  refusals = inr refl;
  defaults = inr refl;
  worse = λ a b x y e f. worse_stays a b x y e f;
  after_error = λ a b x y e f. error_stays a b x y e f;
  after_miss = λ a b x y e f. miss_stays a b x y e f;
}

mutual
  pub reply_stays : ReplyStays
  reply_stays (pool p ranges targets) s o o2 h = own_stays s.position (o s.position) (o2 s.position) (h s.position)
  reply_stays null s o o2 h = inr refl
  reply_stays error s o o2 h = inr refl
  reply_stays (many kind ts) s o o2 h = many_related Stays stays_kept kind ts s o o2 (each_stays 0 ts s o o2 h)
  reply_stays (warm_up cold warm exptime) s o o2 h =
      RelatedLists.if_related Stays (is_reading s.op)
      (or_after_miss (replies cold (under 0 s) o) (replies warm (under 1 s) o)) (replies cold (under 0 s) o)
      (or_after_miss (replies cold (under 0 s) o2) (replies warm (under 1 s) o2)) (replies cold (under 0 s) o2)
      (miss_stays (replies cold (under 0 s) o) (replies warm (under 1 s) o) (replies cold (under 0 s) o2) (replies warm (under 1 s) o2) (reply_stays cold (under 0 s) o o2 h) (reply_stays warm (under 1 s) o o2 h))
      (reply_stays cold (under 0 s) o o2 h)
  reply_stays (migrate from to start interval) s o o2 h =
      RelatedLists.way_related Stays (way_of s start interval)
      (replies from (under 0 s) o) (replies to (under 1 s) o) (the_worse (replies from (under 0 s) o) (replies to (under 1 s) o))
      (replies from (under 0 s) o2) (replies to (under 1 s) o2) (the_worse (replies from (under 0 s) o2) (replies to (under 1 s) o2))
      (reply_stays from (under 0 s) o o2 h) (reply_stays to (under 1 s) o o2 h)
      (worse_stays (replies from (under 0 s) o) (replies to (under 1 s) o) (replies from (under 0 s) o2) (replies to (under 1 s) o2) (reply_stays from (under 0 s) o o2 h) (reply_stays to (under 1 s) o o2 h))
  reply_stays (prefix_selector prefixes ts) s o o2 h = RelatedLists.child_related Stays (refused ∷ []) (refused ∷ []) (prefix_policy s.rest prefixes) (replies_each 0 ts s o) (replies_each 0 ts s o2) (inr refl) (each_stays 0 ts s o o2 h)
  reply_stays (operation_selector ops ts) s o o2 h = RelatedLists.child_related Stays (refused ∷ []) (refused ∷ []) (policy_of s.op ops) (replies_each 0 ts s o) (replies_each 0 ts s o2) (inr refl) (each_stays 0 ts s o o2 h)

  each_stays : (k : ℕ) (ts : Trees) (s : Situation) (o o2 : Outcomes) → Extends o o2 → RelatedLists.Related Stays (replies_each k ts s o) (replies_each k ts s o2)
  each_stays k none s o o2 h = tt
  each_stays k (child t ts) s o o2 h = (reply_stays t (under k s) o o2 h, each_stays (suc k) ts s o o2 h)
