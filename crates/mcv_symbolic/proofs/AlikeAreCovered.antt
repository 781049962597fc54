-- Rests of one class are covered together.
use Rattle.std.proofs.Common.{◌≡◌, ◌≢◌, inl, inr, ℕ, true, List, [], ◌∷◌, Option, subst}
use Rattle.mcv_base.specs.declared.reply.Outcome.TheVariants.{Good, Error}
use Rattle.mcv_base.specs.Operation.{is_counting}
use Rattle.mcv_base.specs.declared.operation.Op.{Op}
use Rattle.mcv_base.specs.declared.operation.Op.TheVariants.{Delete}
use Rattle.mcv_route.specs.Launched.{launched}
use Rattle.mcv_route.specs.Outcomes.{Outcomes, Choice, History, outcomes}
use Rattle.mcv_route.specs.Replies.{leg, replies}
use Rattle.mcv_route.specs.Situation.{Situation, asked}
use Rattle.mcv_route.specs.Tree.{Tree}
use Rattle.mcv_route.specs.Verdict.{Has, IsLegal, IsReachable, IsHit, CanHit, IsSent}
use Rattle.mcv_classes.specs.Laws.{AreAlike}
use Rattle.mcv_classes.proofs.AlikeRests.{alike_are_sent, alike_are_replied}
use Rattle.mcv_symbolic.specs.Laws.{AlikeAreCovered}

-- the route has the same legs and replies in both situations
record Same (t : Tree) (s v : Situation) : Type 0 where
  sent : (c : Choice) (o : Outcomes) → launched t s c o ≡ launched t v c o
  replied : (o : Outcomes) → replies t s o ≡ replies t v o

same-legal : (t : Tree) (s v : Situation) (c : Choice) (es : History) → Same t s v → IsLegal t s c es → IsLegal t v c es
same-legal t s v c [] a h = h
same-legal t s v c (e ∷ es) a h = (subst (λ ls. Has ls (λ l. l.position ≡ e.0)) (a.sent c (outcomes es)) h.0, h.1, same-legal t s v c es a h.2)

same-reachable : (t : Tree) (s v : Situation) (c : Choice) (o : Outcomes) → Same t s v → IsReachable t s c o → IsReachable t v c o
same-reachable t s v c o a h = (h.0, same-legal t s v c h.0 a h.1, h.2)

-- a list with the property that the members have, if its members have it
has-same : {A : Type 0} (xs : List A) (P Q : A → Type 0) → ((x : A) → P x → Q x) → Has xs P → Has xs Q
has-same [] P Q f h = h
has-same (x ∷ xs) P Q f (inl h) = inl (f x h)
has-same (x ∷ xs) P Q f (inr h) = inr (has-same xs P Q f h)

same-hits : (t : Tree) (s v : Situation) (c : Choice) (x : ℕ) → Same t s v → CanHit t s c x → CanHit t v c x
same-hits t s v c x a h =
    let there : Has (launched t v c h.0) (λ l. (l.server.0 ≡ x) × IsHit t s h.0 l.position) = subst (λ ls. Has ls (λ l. (l.server.0 ≡ x) × IsHit t s h.0 l.position)) (a.sent c h.0) h.2 in (
      h.0,
      same-reachable t s v c h.0 a h.1,
      has-same (launched t v c h.0) (λ l. (l.server.0 ≡ x) × IsHit t s h.0 l.position) (λ l. (l.server.0 ≡ x) × IsHit t v h.0 l.position)
          (λ l q. (q.0, subst (λ r. Has r (λ b. b ≡ record { outcome = Good; source = leg l.position })) (a.replied h.0) q.1)) there,
    )

same : (t : Tree) (rest other : List ℕ) (op : Op) (since : Option ℕ) → AreAlike t rest other → Same t (asked op rest since) (asked op other since)
same t rest other op since a = record { sent = λ c o. alike_are_sent t rest other a op since c o; replied = λ o. alike_are_replied t rest other a op since o }

turned : (t : Tree) (rest other : List ℕ) → AreAlike t rest other → AreAlike t other rest
turned t rest other a = (a.0, a.2, a.1)

pub alike_are_covered : AlikeAreCovered
alike_are_covered sizes t rest other since read a covered c o is r done x readable =
    let back = same t other rest Delete since (turned t rest other a) in
    let sent : IsSent t rest since c o x =
    covered c o is (same-reachable t (asked Delete other since) (asked Delete rest since) c o back r) (subst (λ answers. Has answers (λ b. b.outcome ≢ Error)) (back.replied o) done) x (
      readable.0,
      readable.1,
      same-hits t (asked readable.0 other read) (asked readable.0 rest read) c x (same t other rest readable.0 read (turned t rest other a)) readable.2,
    ) in
    subst (λ ls. Has ls (λ l. (l.server.0 ≡ x) × (is_counting l.mark ≡ true))) ((same t rest other Delete since a).sent c o) sent
