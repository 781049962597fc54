-- What is seen of a row, and what it says of the row's leg and links.
use Rattle.std.proofs.Common.{◌≡◌, ◌<◌, ◌∙◌, ℕ, true, is_some, Option, Some, None, refl, sym, ap, subst}
use Rattle.std.specs.Prelude.{option_map}
use Rattle.mcv_queues.specs.declared.leg.Leg.{Leg}
use Rattle.mcv_queues.specs.declared.leg.State.{State}
use Rattle.mcv_queues.specs.declared.rows.Row.{Row}
use Rattle.mcv_queues.specs.declared.rows.Seen.{Seen}
use Rattle.mcv_queues.specs.Rows.{leg_of, link_of, seen_of}
use Rattle.mcv_queues.specs.Groups.{group_at, group_of}
use Rattle.mcv_queues.specs.Legs.{in_state, server_of, with_state}
use Rattle.mcv_queues.proofs.Places.{put_here}

inner_seen : (a b : Seen) → Some a ≡ Some b → a ≡ b
inner_seen a b e = cc

none_seen : {s : Seen} → None ≡ Some s → ⊥
none_seen e = absurd (cc)

some_seen : {s : Seen} → Some s ≡ None → ⊥
some_seen e = absurd (cc)

pub seen_link : {T : Type 0} (o : Option (Row T)) (s : Seen) → option_map seen_of o ≡ Some s → option_map link_of o ≡ Some s.link
seen_link None s e = absurd (none_seen e)
seen_link (Some r) s e = ap (λ z. Some z.link) (inner_seen (seen_of r) s e)

pub seen_group : {T : Type 0} (o : Option (Row T)) (s : Seen) → option_map seen_of o ≡ Some s → group_of (option_map leg_of o) ≡ group_at s.server s.state
seen_group None s e = absurd (none_seen e)
seen_group (Some r) s e = ap (λ z. group_at z.server z.state) (inner_seen (seen_of r) s e)

pub seen_server : {T : Type 0} (o : Option (Row T)) (s : Seen) → option_map seen_of o ≡ Some s → s.server ≡ server_of (option_map leg_of o)
seen_server None s e = absurd (none_seen e)
seen_server (Some r) s e = ap (λ z. z.server) (sym (inner_seen (seen_of r) s e))

pub seen_none : {T : Type 0} (o : Option (Row T)) → option_map seen_of o ≡ None → option_map leg_of o ≡ None
seen_none None e = refl
seen_none (Some r) e = absurd (some_seen e)

pub seen_known : {T : Type 0} (o : Option (Row T)) (s : Seen) (k : ℕ) → ((l : Leg T) → option_map leg_of o ≡ Some l → l.server.0 < k) → option_map seen_of o ≡ Some s → s.server < k
seen_known None s k h e = absurd (none_seen e)
seen_known (Some r) s k h e = subst (λ z. z.server < k) (inner_seen (seen_of r) s e) (h (leg_of r) refl)

restated_group : {T : Type 0} (o : Option (Row T)) (s : Seen) (st : State) → option_map seen_of o ≡ Some s → group_of (option_map (in_state st) (option_map leg_of o)) ≡ group_at s.server st
restated_group None s st e = absurd (none_seen e)
restated_group (Some r) s st e = ap (λ z. group_at z.server st) (inner_seen (seen_of r) s e)

restated_there : {T : Type 0} (o : Option (Row T)) (s : Seen) (st : State) → option_map seen_of o ≡ Some s → is_some (option_map (in_state st) (option_map leg_of o)) ≡ true
restated_there None s st e = absurd (none_seen e)
restated_there (Some r) s st e = refl

pub group_in_state : {T : Type 0} (at : ℕ → Option (Row T)) (legs2 : ℕ → Option (Leg T)) (x : ℕ) (s : Seen) (st : State) → option_map seen_of (at x) ≡ Some s → legs2 ≡ with_state (λ n. option_map leg_of (at n)) x st → group_of (legs2 x) ≡ group_at s.server st
group_in_state at legs2 x s st e l = ap (λ u. group_of (u x)) l ∙ ap group_of (put_here (λ n. option_map leg_of (at n)) x _) ∙ restated_group (at x) s st e

pub there_in_state : {T : Type 0} (at : ℕ → Option (Row T)) (legs2 : ℕ → Option (Leg T)) (x : ℕ) (s : Seen) (st : State) → option_map seen_of (at x) ≡ Some s → legs2 ≡ with_state (λ n. option_map leg_of (at n)) x st → is_some (legs2 x) ≡ true
there_in_state at legs2 x s st e l = ap (λ u. is_some (u x)) l ∙ ap is_some (put_here (λ n. option_map leg_of (at n)) x _) ∙ restated_there (at x) s st e

-- where there is a leg, there are links
pub link_there : {T : Type 0} (o : Option (Row T)) → is_some (option_map leg_of o) ≡ true → is_some (option_map link_of o) ≡ true
link_there None e = absurd (cc)
link_there (Some r) e = refl
