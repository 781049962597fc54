-- A position is of one leg of a plan.
use Rattle.std.proofs.Common.{◌≡◌, inl, inr, sym, subst, ◌∙◌}
use Rattle.mcv_route.specs.Outcomes.{Outcomes, Choice}
use Rattle.mcv_rules.specs.Plan.{Leg, Plan, Send, Reply, Both, Beside, OnError, OnMiss, OnHit, Shadowed}
use Rattle.mcv_rules.specs.Soundness.{positions, In, IsApart}
use Rattle.mcv_rules.proofs.Sending.{Sends}
use Rattle.mcv_rules.proofs.Orders

in_at : (t : Plan) (c : Choice) (o : Outcomes) (l m : Leg) → l.position ≡ m.position → Sends t c o l → In (positions t) m.position
in_at t c o l m e s = subst (λ p. In (positions t) p) e (Orders.sent_in t c o l s)

pub unique : (t : Plan) (c : Choice) (o o2 : Outcomes) (l m : Leg) → IsApart t → Sends t c o l → Sends t c o2 m → l.position ≡ m.position → l ≡ m
unique (Send k) c o o2 l m a s v e = sym s ∙ v
unique (Reply x) c o o2 l m a s v e = absurd s
unique (Both t u) c o o2 l m a (inl s) (inl v) e = unique t c o o2 l m a.0 s v e
unique (Both t u) c o o2 l m a (inl s) (inr v) e = absurd (a.2 m.position (in_at t c o l m e s) (Orders.sent_in u c o2 m v))
unique (Both t u) c o o2 l m a (inr s) (inl v) e = absurd (a.2 m.position (Orders.sent_in t c o2 m v) (in_at u c o l m e s))
unique (Both t u) c o o2 l m a (inr s) (inr v) e = unique u c o o2 l m a.1 s v e
unique (Beside t u) c o o2 l m a (inl s) (inl v) e = unique t c o o2 l m a.0 s v e
unique (Beside t u) c o o2 l m a (inl s) (inr v) e = absurd (a.2 m.position (in_at t c o l m e s) (Orders.sent_in u c o2 m v))
unique (Beside t u) c o o2 l m a (inr s) (inl v) e = absurd (a.2 m.position (Orders.sent_in t c o2 m v) (in_at u c o l m e s))
unique (Beside t u) c o o2 l m a (inr s) (inr v) e = unique u c o o2 l m a.1 s v e
unique (OnError t u) c o o2 l m a (inl s) (inl v) e = unique t c o o2 l m a.0 s v e
unique (OnError t u) c o o2 l m a (inl s) (inr v) e = absurd (a.2 m.position (in_at t c o l m e s) (Orders.sent_in u c o2 m v.1))
unique (OnError t u) c o o2 l m a (inr s) (inl v) e = absurd (a.2 m.position (Orders.sent_in t c o2 m v) (in_at u c o l m e s.1))
unique (OnError t u) c o o2 l m a (inr s) (inr v) e = unique u c o o2 l m a.1 s.1 v.1 e
unique (OnMiss t u) c o o2 l m a (inl s) (inl v) e = unique t c o o2 l m a.0 s v e
unique (OnMiss t u) c o o2 l m a (inl s) (inr v) e = absurd (a.2 m.position (in_at t c o l m e s) (Orders.sent_in u c o2 m v.1))
unique (OnMiss t u) c o o2 l m a (inr s) (inl v) e = absurd (a.2 m.position (Orders.sent_in t c o2 m v) (in_at u c o l m e s.1))
unique (OnMiss t u) c o o2 l m a (inr s) (inr v) e = unique u c o o2 l m a.1 s.1 v.1 e
unique (OnHit t u) c o o2 l m a (inl s) (inl v) e = unique t c o o2 l m a.0 s v e
unique (OnHit t u) c o o2 l m a (inl s) (inr v) e = absurd (a.2 m.position (in_at t c o l m e s) (Orders.sent_in u c o2 m v.1))
unique (OnHit t u) c o o2 l m a (inr s) (inl v) e = absurd (a.2 m.position (Orders.sent_in t c o2 m v) (in_at u c o l m e s.1))
unique (OnHit t u) c o o2 l m a (inr s) (inr v) e = unique u c o o2 l m a.1 s.1 v.1 e
unique (Shadowed i j n t u) c o o2 l m a (inl s) (inl v) e = unique t c o o2 l m a.0 s v e
unique (Shadowed i j n t u) c o o2 l m a (inl s) (inr v) e = absurd (a.2 m.position (in_at t c o l m e s) (Orders.sent_in u c o2 m v.2))
unique (Shadowed i j n t u) c o o2 l m a (inr s) (inl v) e = absurd (a.2 m.position (Orders.sent_in t c o2 m v) (in_at u c o l m e s.2))
unique (Shadowed i j n t u) c o o2 l m a (inr s) (inr v) e = unique u c o o2 l m a.1 s.2 v.2 e
