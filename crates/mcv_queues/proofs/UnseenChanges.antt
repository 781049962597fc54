-- What neither a leg's server nor its state says, changes no group, no server and nothing in flight.
use Rattle.std.proofs.Common.{◌≡◌, ◌&&◌, ◌<◌, inl, inr, cond, ℕ, Bool, true, false, nat_eq, Option, Some, None, refl, sym, ap, subst, ◌∙◌}
use Rattle.std.proofs.Math.Path.{fun_ext}
use Rattle.std.proofs.Math.Logic.{∥∥₁_map}
use Rattle.std.specs.Prelude.{option_map}
use Rattle.std.proofs.lemmas.Bool.{cases_eq}
use Rattle.mcv_queues.specs.declared.leg.Leg.{Leg}
use Rattle.mcv_queues.specs.declared.leg.State.TheVariants.{InSpool}
use Rattle.mcv_queues.specs.declared.rows.Link.{Link}
use Rattle.mcv_queues.specs.declared.roots.Group.{Group}
use Rattle.mcv_queues.specs.Numbers.{put}
use Rattle.mcv_queues.specs.Legs.{in_state, is_flight, is_in_flight_to, recorded_as, stored_as, with_record, with_state, with_stored}
use Rattle.mcv_queues.specs.Groups.{group_at, group_of, is_group, is_in}
use Rattle.mcv_queues.specs.Soundness.{IsQueues}
use Rattle.mcv_queues.proofs.Places.{put_here, put_there}
use Rattle.mcv_queues.proofs.GroupsAreHeaps.{carried, inner_leg, none_leg}
use Rattle.mcv_queues.proofs.QueuesStaySound.{range_put}

abbrev pub altered : {T : Type 0} → (Leg T → Leg T) → (ℕ → Option (Leg T)) → ℕ → ℕ → Option (Leg T)
altered change legs x = put legs x (option_map change (legs x))

-- the change leaves a leg's server and state
pub record IsUnseen {T : Type 0} (change : Leg T → Leg T) : Type 0 where
  pub server : (l : Leg T) → (change l).server ≡ l.server
  pub state : (l : Leg T) → (change l).state ≡ l.state

unseen : {T X : Type 0} (v : Option (Leg T) → X) (legs legs2 : ℕ → Option (Leg T)) (x : ℕ) (change : Leg T → Leg T) → ((o : Option (Leg T)) → v (option_map change o) ≡ v o) → legs2 ≡ altered change legs x → (n : ℕ) → v (legs2 n) ≡ v (legs n)
unseen v legs legs2 x change e el n = ap (λ u. v (u n)) el ∙ elim (cases_eq x n) [
  | inl q ↦ subst (λ j. v (altered change legs x j) ≡ v (legs j)) q (ap v (put_here legs x (option_map change (legs x))) ∙ e (legs x))
  | inr ne ↦ ap v (put_there legs x n (option_map change (legs x)) ne)
]

module _ {T : Type 0} (change : Leg T → Leg T) (same : IsUnseen change) where
  group_kept : (o : Option (Leg T)) → group_of (option_map change o) ≡ group_of o
  group_kept None = refl
  group_kept (Some l) = ap (λ s. group_at s.0 (change l).state) (same.server l) ∙ ap (group_at l.server.0) (same.state l)

  flight_kept : (s : ℕ) (o : Option (Leg T)) → is_in_flight_to s (option_map change o) ≡ is_in_flight_to s o
  flight_kept s None = refl
  flight_kept s (Some l) = ap (λ v. nat_eq v.0 s && is_flight (change l).state) (same.server l) ∙ ap (λ t. nat_eq l.server.0 s && is_flight t) (same.state l)

  server_kept : (o : Option (Leg T)) (k : ℕ) → ((l : Leg T) → o ≡ Some l → l.server.0 < k) → (l : Leg T) → option_map change o ≡ Some l → l.server.0 < k
  server_kept None k h l e = absurd (none_leg e)
  server_kept (Some o) k h l e = subst (λ j. j < k) (ap (λ s. s.0) (sym (same.server o)) ∙ ap (λ y. y.server.0) (inner_leg (change o) l e)) (h o refl)

  pub sound : (legs legs2 : ℕ → Option (Leg T)) (f f2 : ℕ → Option Link) (roots : Group → Option ℕ) (fl : ℕ → ℕ) (k x : ℕ) → legs2 ≡ altered change legs x → f2 ≡ f → IsQueues legs f roots fl k → IsQueues legs2 f2 roots fl k
  sound legs legs2 f f2 roots fl k x el ef q = record {
    trees = λ g. carried (is_in legs g) (is_in legs2 g) f f2 (roots g) (roots g) (q.trees g) refl (λ n. ap (λ o. is_group o g) (unseen group_of legs legs2 x change group_kept el n)) (λ n h. ap (λ u. u n) ef);
    flying = λ s. ∥∥₁_map (q.flying s) (λ f. record { numbers = f.numbers; these = λ n. f.these n ∙ sym (unseen (is_in_flight_to s) legs legs2 x change (flight_kept s) el n); apart = f.apart; counted = f.counted });
    range = range_put legs legs2 k x (option_map change (legs x)) q.range el (server_kept (legs x) k (q.range x));
  }

-- a leg that comes into the spool, and gets the number of its record then, is stored as that record
two_maps : {T : Type 0} (number : ℕ) (o : Option (Leg T)) → option_map (recorded_as number) (option_map (in_state InSpool) o) ≡ option_map (stored_as number) o
two_maps number None = refl
two_maps number (Some l) = refl

by_number : {T : Type 0} (legs : ℕ → Option (Leg T)) (x number m : ℕ) (b : Bool) → cond b (option_map (recorded_as number) (option_map (in_state InSpool) (legs x))) (cond b (option_map (in_state InSpool) (legs x)) (legs m)) ≡ cond b (option_map (stored_as number) (legs x)) (legs m)
by_number legs x number m true = two_maps number (legs x)
by_number legs x number m false = refl

pub stored : {T : Type 0} (legs : ℕ → Option (Leg T)) (x number : ℕ) → with_record (with_state legs x InSpool) x number ≡ with_stored legs x number
stored legs x number = ap (λ o. put (with_state legs x InSpool) x (option_map (recorded_as number) o)) (put_here legs x (option_map (in_state InSpool) (legs x))) ∙ fun_ext (λ m. by_number legs x number m (nat_eq x m))
