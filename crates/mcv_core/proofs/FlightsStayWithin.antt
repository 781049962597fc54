-- How many legs are in flight stays within what may be.
use Rattle.std.proofs.Common.{◌≡◌, ◌+◌, ◌-◌, ◌<◌, ◌≤◌, cond, inl, inr, ℕ, Bool, true, false, nat_eq, Result, Ok, Err, sym, ap, ◌∙◌, subst, arith}
use Rattle.std.proofs.Math.Path.{fun_ext}
use Rattle.std.specs.Prelude.{OnOk, OnErr}
use Rattle.std.proofs.lemmas.Bool.{cases_eq, ne_eqb}
use Rattle.mcv_base.specs.declared.request.LegId.{LegId}
use Rattle.mcv_queues.specs.declared.fault.QueueFault.{QueueFault}
use Rattle.mcv_queues.specs.declared.queues.Queues.{Queues}
use Rattle.mcv_queues.specs.Queues.{in_flight}
use Rattle.mcv_core.specs.declared.errand.Errand.{Errand}
use Rattle.mcv_core.specs.Flights.{AreWithin, one_more}

-- as many as before
pub same_within : (flights flights2 : ℕ → ℕ) (limit : ℕ) → AreWithin flights limit → ((s : ℕ) → flights2 s ≡ flights s) → AreWithin flights2 limit
same_within flights flights2 limit within same s = subst (λ v. v ≤ limit) (sym (same s)) (within s)

-- none
pub none_within : (flights : ℕ → ℕ) (limit : ℕ) → ((s : ℕ) → flights s ≡ 0) → AreWithin flights limit
none_within flights limit none s = let e = none s in omega (arith, e)

-- one less, to those servers that the test names
pub landed_within : (flights flights2 : ℕ → ℕ) (limit : ℕ) (lands : ℕ → Bool) → AreWithin flights limit → ((s : ℕ) → flights2 s ≡ cond (lands s) (flights s - 1) (flights s)) → AreWithin flights2 limit
landed_within flights flights2 limit lands within is s = subst (λ v. v ≤ limit) (sym (is s)) (by_test (lands s))
  where
    by_test : (b : Bool) → cond b (flights s - 1) (flights s) ≤ limit
    by_test true = let low = within s in omega (arith, low)
    by_test false = within s

-- one more to a server that is free
sent_within : (flights flights2 : ℕ → ℕ) (limit server : ℕ) → AreWithin flights limit → flights server < limit → ((s : ℕ) → flights2 s ≡ cond (nat_eq server s) (flights server + 1) (flights s)) → AreWithin flights2 limit
sent_within flights flights2 limit server within free is s = subst (λ v. v ≤ limit) (sym (is s)) (by_test (nat_eq server s))
  where
    by_test : (b : Bool) → cond b (flights server + 1) (flights s) ≤ limit
    by_test true = omega (arith, free)
    by_test false = within s

-- the same of the queues that send a leg, or don't
pub sending_within : (q q2 : Queues Errand) (limit server : ℕ) (r : Result LegId QueueFault) → AreWithin (in_flight q) limit → OnOk r (in_flight q server < limit)
    → OnOk r ((s : ℕ) → in_flight q2 s ≡ cond (nat_eq server s) (in_flight q server + 1) (in_flight q s)) → OnErr r (q2 ≡ q) → AreWithin (in_flight q2) limit
sending_within q q2 limit server (Ok leg) within free flights same = sent_within (in_flight q) (in_flight q2) limit server within free flights
sending_within q q2 limit server (Err fault) within free flights same = subst (λ z. AreWithin (in_flight z) limit) (sym same) within

-- the server's number is its own
pub one_more_is : (flights flights2 : ℕ → ℕ) (server : ℕ) → ((s : ℕ) → flights2 s ≡ cond (nat_eq server s) (flights server + 1) (flights s)) → flights2 ≡ one_more flights server
one_more_is flights flights2 server is = fun_ext (λ s. is s ∙ elim (cases_eq server s) [
  | inl q ↦ ap (λ v. cond (nat_eq server s) (flights v + 1) (flights s)) q
  | inr ne ↦ ap (λ b. cond b (flights server + 1) (flights s)) (ne_eqb server s ne) ∙ sym (ap (λ b. cond b (flights s + 1) (flights s)) (ne_eqb server s ne))
])
