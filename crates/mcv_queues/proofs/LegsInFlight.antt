-- How many legs are in flight to each server after each change.
use Rattle.std.proofs.Common.{◌≡◌, ◌&&◌, ◌||◌, ◌+◌, ◌-◌, inl, inr, cond, not, ℕ, suc, ◌<◌, Bool, true, false, nat_eq, List, [], ◌∷◌, length, Option, Some, None, refl, sym, ap, subst, ◌∙◌}
use Rattle.std.specs.Prelude.{option_map}
use Rattle.std.proofs.Math.Bool.{Bool-set}
use Rattle.std.proofs.Math.Logic.{∥∥₁_map, ∥∥₁_elim}
use native.Mathlib.Omega.{arith}
use Rattle.std.proofs.lemmas.Bool.{cases_eq, eq-eqb, ne_eqb, eqb-true, and_from, and_parts, and_left, and_right}
use Rattle.mcv_queues.specs.declared.leg.Leg.{Leg}
use Rattle.mcv_queues.specs.declared.leg.State.{State}
use Rattle.mcv_queues.specs.declared.leg.State.TheVariants.{Sent}
use Rattle.mcv_queues.specs.Groups.{group_at, group_of}
use Rattle.mcv_queues.specs.Numbers.{put}
use Rattle.mcv_queues.specs.Flights.{AreFlying, are_apart, lists}
use Rattle.mcv_queues.specs.Legs.{IsSentTo, rests_at, is_flight, is_in_flight, is_in_flight_to, server_of, in_state}
use Rattle.mcv_queues.proofs.Places.{put_here, put_there}

pub rests_not_in_flight : {T : Type 0} (t : ℕ) (o : Option (Leg T)) → is_in_flight o ≡ false → is_in_flight_to t o ≡ false
rests_not_in_flight t None e = refl
rests_not_in_flight t (Some l) e = and_right (nat_eq l.server.0 t) (is_flight l.state) e

not_true : (b : Bool) → not b ≡ true → b ≡ false
not_true true e = absurd (cc)
not_true false e = refl

pub rests_in_no_flight : {T : Type 0} (s t : ℕ) (o : Option (Leg T)) → rests_at s o ≡ true → is_in_flight_to t o ≡ false
rests_in_no_flight s t None e = refl
rests_in_no_flight s t (Some l) e = and_right (nat_eq l.server.0 t) (is_flight l.state) (not_true (is_flight l.state) (and_parts (nat_eq l.server.0 s) (not (is_flight l.state)) e).1)

pub state_in_no_flight : {T : Type 0} (st : State) (t : ℕ) (o : Option (Leg T)) → is_flight st ≡ false → is_in_flight_to t (option_map (in_state st) o) ≡ false
state_in_no_flight st t None e = refl
state_in_no_flight st t (Some l) e = and_right (nat_eq l.server.0 t) (is_flight st) e

pub state_in_flight : {T : Type 0} (st : State) (s : ℕ) (o : Option (Leg T)) → rests_at s o ≡ true → is_flight st ≡ true → is_in_flight_to s (option_map (in_state st) o) ≡ true
state_in_flight st s None e f = absurd (cc)
state_in_flight st s (Some l) e f = and_from (nat_eq l.server.0 s) (is_flight st) (and_parts (nat_eq l.server.0 s) (not (is_flight l.state)) e).0 f

pub in_flight_to_one : {T : Type 0} (s t : ℕ) (o : Option (Leg T)) → is_in_flight_to s o ≡ true → (s ≡ t → ⊥) → is_in_flight_to t o ≡ false
in_flight_to_one s t None e ne = refl
in_flight_to_one s t (Some l) e ne = and_left (nat_eq l.server.0 t) (is_flight l.state) (ne_eqb l.server.0 t (λ q. ne (sym (eqb-true l.server.0 s (and_parts (nat_eq l.server.0 s) (is_flight l.state) e).0) ∙ q)))

abbrev pub AreInFlight : {T : Type 0} → (ℕ → ℕ) → (ℕ → Option (Leg T)) → Type 0
AreInFlight fl legs = (s : ℕ) → ∥ AreFlying legs s (fl s) ∥₁

-- ---- a list without one of its numbers

abbrev out_of : List ℕ → ℕ → List ℕ
out_of [] n = []
out_of (m ∷ ms) n = cond (nat_eq m n) ms (m ∷ out_of ms n)

out_there : (l : List ℕ) (n m : ℕ) → (n ≡ m → ⊥) → lists (out_of l n) m ≡ lists l m
out_there [] n m ne = refl
out_there (k ∷ ks) n m ne = elim (cases_eq k n) [
  | inl q ↦ ap (λ b. lists (cond b ks (k ∷ out_of ks n)) m) (eq-eqb k n q) ∙ sym (ap (λ b. b || lists ks m) (ne_eqb k m (λ z. ne (sym q ∙ z))))
  | inr nq ↦ ap (λ b. lists (cond b ks (k ∷ out_of ks n)) m) (ne_eqb k n nq) ∙ ap (λ b. nat_eq k m || b) (out_there ks n m ne)
]

out_here : (l : List ℕ) (n : ℕ) → are_apart l ≡ true → lists (out_of l n) n ≡ false
out_here [] n h = refl
out_here (k ∷ ks) n h = let p = and_parts (not (lists ks k)) (are_apart ks) h in elim (cases_eq k n) [
  | inl q ↦ ap (λ b. lists (cond b ks (k ∷ out_of ks n)) n) (eq-eqb k n q) ∙ subst (λ j. lists ks j ≡ false) q (not_true (lists ks k) p.0)
  | inr nq ↦ ap (λ b. lists (cond b ks (k ∷ out_of ks n)) n) (ne_eqb k n nq) ∙ ap (λ b. b || lists (out_of ks n) n) (ne_eqb k n nq) ∙ out_here ks n p.1
]

out_apart : (l : List ℕ) (n : ℕ) → are_apart l ≡ true → are_apart (out_of l n) ≡ true
out_apart [] n h = refl
out_apart (k ∷ ks) n h = let p = and_parts (not (lists ks k)) (are_apart ks) h in elim (cases_eq k n) [
  | inl q ↦ ap (λ b. are_apart (cond b ks (k ∷ out_of ks n))) (eq-eqb k n q) ∙ p.1
  | inr nq ↦ ap (λ b. are_apart (cond b ks (k ∷ out_of ks n))) (ne_eqb k n nq) ∙ and_from (not (lists (out_of ks n) k)) (are_apart (out_of ks n)) (ap not (out_there ks n k (λ z. nq (sym z))) ∙ p.0) (out_apart ks n p.1)
]

out_length : (l : List ℕ) (n : ℕ) → lists l n ≡ true → suc (length (out_of l n)) ≡ length l
out_length [] n h = absurd (cc)
out_length (k ∷ ks) n h = elim (cases_eq k n) [
  | inl q ↦ ap (λ b. suc (length (cond b ks (k ∷ out_of ks n)))) (eq-eqb k n q)
  | inr nq ↦ ap (λ b. suc (length (cond b ks (k ∷ out_of ks n)))) (ne_eqb k n nq) ∙ ap suc (out_length ks n (sym (ap (λ b. b || lists ks n) (ne_eqb k n nq)) ∙ h))
]

one_less : (a b : ℕ) → suc a ≡ b → a ≡ b - 1
one_less a b e = omega (arith, e)

in_flight_beside : {T : Type 0} (legs legs2 : ℕ → Option (Leg T)) (x t n : ℕ) (v : Option (Leg T)) → legs2 ≡ put legs x v → (x ≡ n → ⊥) → is_in_flight_to t (legs2 n) ≡ is_in_flight_to t (legs n)
in_flight_beside legs legs2 x t n v e ne = ap (λ u. is_in_flight_to t (u n)) e ∙ ap (is_in_flight_to t) (put_there legs x n v ne)

in_flight_here : {T : Type 0} (legs legs2 : ℕ → Option (Leg T)) (x t n : ℕ) (v : Option (Leg T)) → legs2 ≡ put legs x v → x ≡ n → is_in_flight_to t (legs2 n) ≡ is_in_flight_to t v
in_flight_here legs legs2 x t n v e q = ap (λ u. is_in_flight_to t (u n)) e ∙ ap (λ j. is_in_flight_to t (put legs x v j)) (sym q) ∙ ap (is_in_flight_to t) (put_here legs x v)

-- ---- one server's legs after a change of one leg

kept : {T : Type 0} (legs legs2 : ℕ → Option (Leg T)) (t k k2 x : ℕ) (v : Option (Leg T)) → AreFlying legs t k → legs2 ≡ put legs x v → k2 ≡ k → is_in_flight_to t (legs x) ≡ false → is_in_flight_to t v ≡ false → AreFlying legs2 t k2
kept legs legs2 t k k2 x v i e ek was now = record {
  numbers = i.numbers;
  these = λ n. i.these n ∙ elim (cases_eq x n) [
    | inl q ↦ ap (λ j. is_in_flight_to t (legs j)) (sym q) ∙ was ∙ sym (in_flight_here legs legs2 x t n v e q ∙ now)
    | inr ne ↦ sym (in_flight_beside legs legs2 x t n v e ne)
  ];
  apart = i.apart;
  counted = i.counted ∙ sym ek;
}

one_more : {T : Type 0} (legs legs2 : ℕ → Option (Leg T)) (t k k2 x : ℕ) (v : Option (Leg T)) → AreFlying legs t k → legs2 ≡ put legs x v → k2 ≡ k + 1 → is_in_flight_to t (legs x) ≡ false → is_in_flight_to t v ≡ true → AreFlying legs2 t k2
one_more legs legs2 t k k2 x v i e ek was now = record {
  numbers = x ∷ i.numbers;
  these = λ n. elim (cases_eq x n) [
    | inl q ↦ ap (λ b. b || lists i.numbers n) (eq-eqb x n q) ∙ sym (in_flight_here legs legs2 x t n v e q ∙ now)
    | inr ne ↦ ap (λ b. b || lists i.numbers n) (ne_eqb x n ne) ∙ i.these n ∙ sym (in_flight_beside legs legs2 x t n v e ne)
  ];
  apart = and_from (not (lists i.numbers x)) (are_apart i.numbers) (ap not (i.these x ∙ was)) i.apart;
  counted = let c = i.counted in omega (arith, c, ek);
}

one_fewer : {T : Type 0} (legs legs2 : ℕ → Option (Leg T)) (t k k2 x : ℕ) (v : Option (Leg T)) → AreFlying legs t k → legs2 ≡ put legs x v → k2 ≡ k - 1 → is_in_flight_to t (legs x) ≡ true → is_in_flight_to t v ≡ false → AreFlying legs2 t k2
one_fewer legs legs2 t k k2 x v i e ek was now = record {
  numbers = out_of i.numbers x;
  these = λ n. elim (cases_eq x n) [
    | inl q ↦ ap (λ j. lists (out_of i.numbers x) j) (sym q) ∙ out_here i.numbers x i.apart ∙ sym (in_flight_here legs legs2 x t n v e q ∙ now)
    | inr ne ↦ out_there i.numbers x n ne ∙ i.these n ∙ sym (in_flight_beside legs legs2 x t n v e ne)
  ];
  apart = out_apart i.numbers x i.apart;
  counted = one_less (length (out_of i.numbers x)) (length i.numbers) (out_length i.numbers x (i.these x ∙ was)) ∙ ap (λ j. j - 1) i.counted ∙ sym ek;
}

-- ---- all servers' legs after it

-- no leg took off or was brought back
pub stayed : {T : Type 0} (legs legs2 : ℕ → Option (Leg T)) (fl fl2 : ℕ → ℕ) (x : ℕ) (v : Option (Leg T)) → AreInFlight fl legs → legs2 ≡ put legs x v → ((t : ℕ) → fl2 t ≡ fl t) → ((t : ℕ) → is_in_flight_to t (legs x) ≡ false) → ((t : ℕ) → is_in_flight_to t v ≡ false) → AreInFlight fl2 legs2
stayed legs legs2 fl fl2 x v i e ef was now = λ t. ∥∥₁_map (i t) (λ f. kept legs legs2 t (fl t) (fl2 t) x v f e (ef t) (was t) (now t))

-- a leg took off
pub sent_out : {T : Type 0} (legs legs2 : ℕ → Option (Leg T)) (fl fl2 : ℕ → ℕ) (s x : ℕ) (v : Option (Leg T)) → AreInFlight fl legs → legs2 ≡ put legs x v → ((t : ℕ) → fl2 t ≡ cond (nat_eq s t) (fl s + 1) (fl t))
    → ((t : ℕ) → is_in_flight_to t (legs x) ≡ false) → is_in_flight_to s v ≡ true → AreInFlight fl2 legs2
sent_out legs legs2 fl fl2 s x v i e ef was now = λ t. elim (cases_eq s t) [
  | inl q ↦ ∥∥₁_map (i t) (λ f. one_more legs legs2 t (fl t) (fl2 t) x v f e (ef t ∙ ap (λ b. cond b (fl s + 1) (fl t)) (eq-eqb s t q) ∙ ap (λ j. fl j + 1) q) (was t) (subst (λ j. is_in_flight_to j v ≡ true) q now))
  | inr ne ↦ ∥∥₁_map (i t) (λ f. kept legs legs2 t (fl t) (fl2 t) x v f e (ef t ∙ ap (λ b. cond b (fl s + 1) (fl t)) (ne_eqb s t ne)) (was t) (in_flight_to_one s t v now ne))
]

-- a leg was brought back
pub brought_back : {T : Type 0} (legs legs2 : ℕ → Option (Leg T)) (fl fl2 : ℕ → ℕ) (s x : ℕ) (v : Option (Leg T)) → AreInFlight fl legs → legs2 ≡ put legs x v → ((t : ℕ) → fl2 t ≡ cond (nat_eq s t) (fl s - 1) (fl t))
    → is_in_flight_to s (legs x) ≡ true → ((t : ℕ) → is_in_flight_to t v ≡ false) → AreInFlight fl2 legs2
brought_back legs legs2 fl fl2 s x v i e ef was now = λ t. elim (cases_eq s t) [
  | inl q ↦ ∥∥₁_map (i t) (λ f. one_fewer legs legs2 t (fl t) (fl2 t) x v f e (ef t ∙ ap (λ b. cond b (fl s - 1) (fl t)) (eq-eqb s t q) ∙ ap (λ j. fl j - 1) q) (subst (λ j. is_in_flight_to j (legs x) ≡ true) q was) (now t))
  | inr ne ↦ ∥∥₁_map (i t) (λ f. kept legs legs2 t (fl t) (fl2 t) x v f e (ef t ∙ ap (λ b. cond b (fl s - 1) (fl t)) (ne_eqb s t ne)) (in_flight_to_one s t (legs x) was ne) (now t))
]

-- where one server's number changes, it is the number of the same server on both sides
pub one_server : (f : ℕ → ℕ) (s t : ℕ) → cond (nat_eq s t) (f s - 1) (f t) ≡ cond (nat_eq s t) (f t - 1) (f t)
one_server f s t = elim (cases_eq s t) [
  | inl q ↦ ap (λ j. cond (nat_eq s t) (f j - 1) (f t)) q
  | inr ne ↦ ap (λ b. cond b (f s - 1) (f t)) (ne_eqb s t ne) ∙ sym (ap (λ b. cond b (f t - 1) (f t)) (ne_eqb s t ne))
]

-- ---- what the number says of the legs

-- none is in flight where the number is 0
pub none_flies : {T : Type 0} (legs : ℕ → Option (Leg T)) (s k : ℕ) → ∥ AreFlying legs s k ∥₁ → k ≡ 0 → (n : ℕ) → is_in_flight_to s (legs n) ≡ false
none_flies legs s k i e n = ∥∥₁_elim i (Bool-set _ _) (λ f. sym (f.these n) ∙ empty f.numbers (f.counted ∙ e))
  where
    empty : (l : List ℕ) → length l ≡ 0 → lists l n ≡ false
    empty [] h = refl
    empty (m ∷ ms) h = absurd (cc)

no_less : 0 < 0 → ⊥
no_less h = omega (arith, h)

-- and one is where it isn't
pub one_flies : {T : Type 0} (legs : ℕ → Option (Leg T)) (s k : ℕ) → ∥ AreFlying legs s k ∥₁ → 0 < k → ∥ ((n : ℕ) × (is_in_flight_to s (legs n) ≡ true)) ∥₁
one_flies legs s k i h = ∥∥₁_map i (λ f. among f.numbers f.these (subst (λ j. 0 < j) (sym f.counted) h))
  where
    among : (l : List ℕ) → ((n : ℕ) → lists l n ≡ is_in_flight_to s (legs n)) → 0 < length l → ((n : ℕ) × (is_in_flight_to s (legs n) ≡ true))
    among [] these h = absurd (no_less h)
    among (m ∷ ms) these h = (m, sym (these m) ∙ ap (λ b. b || lists ms m) (eq-eqb m m refl))

-- a leg in flight is in flight to its own server
pub own_server : {T : Type 0} (o : Option (Leg T)) → is_in_flight o ≡ true → is_in_flight_to (server_of o) o ≡ true
own_server None e = absurd (cc)
own_server (Some l) e = and_from (nat_eq l.server.0 l.server.0) (is_flight l.state) (eq-eqb l.server.0 l.server.0 refl) e

pub own_servers : {T : Type 0} (o : Option (Leg T)) (s : ℕ) → is_in_flight o ≡ true → nat_eq (server_of o) s ≡ is_in_flight_to s o
own_servers None s e = absurd (cc)
own_servers (Some l) s e = sym (ap (λ b. nat_eq l.server.0 s && b) e ∙ and_true (nat_eq l.server.0 s))
  where
    and_true : (b : Bool) → (b && true) ≡ b
    and_true true = refl
    and_true false = refl

pub flight_known : {T : Type 0} (k : ℕ) (o : Option (Leg T)) → ((l : Leg T) → o ≡ Some l → l.server.0 < k) → is_in_flight o ≡ true → server_of o < k
flight_known k None h e = absurd (cc)
flight_known k (Some l) h e = h l refl

-- ---- a leg that was sent

same_place : (a b : ℕ × State) → Some a ≡ Some b → a ≡ b
same_place a b e = cc

no_place : {a : ℕ × State} → None ≡ Some a → ⊥
no_place e = absurd (cc)

pub sent_server : {T : Type 0} (s : ℕ) (o : Option (Leg T)) → IsSentTo s o → server_of o ≡ s
sent_server s None e = absurd (no_place e)
sent_server s (Some l) e = ap (λ p. p.0) (same_place (l.server.0, l.state) (s, Sent) e)

pub sent_flies : {T : Type 0} (s : ℕ) (o : Option (Leg T)) → IsSentTo s o → is_in_flight o ≡ true
sent_flies s None e = absurd (no_place e)
sent_flies s (Some l) e = ap (λ p. is_flight p.1) (same_place (l.server.0, l.state) (s, Sent) e)

pub sent_group : {T : Type 0} (s : ℕ) (o : Option (Leg T)) → IsSentTo s o → group_of o ≡ None
sent_group s None e = absurd (no_place e)
sent_group s (Some l) e = ap (λ p. group_at p.0 p.1) (same_place (l.server.0, l.state) (s, Sent) e)
