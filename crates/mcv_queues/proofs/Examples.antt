-- The definitions at small values.
use Rattle.std.proofs.Common.{◌≡◌, ◌||◌, ◌-◌, ◌^◌, inl, inr, ℕ, Bool, true, false, nat_eq, nat_le, [], ◌∷◌, Option, Some, None, refl, sym, ap, subst, ◌∙◌}
use Rattle.std.proofs.lemmas.Bool.{cases_eq, ne_eqb}
use Rattle.mcv_queues.specs.declared.leg.Leg.{Leg}
use Rattle.mcv_queues.specs.declared.leg.State.{State}
use Rattle.mcv_queues.specs.declared.leg.State.TheVariants.{Waiting, Sent, Held, Refused, InSpool}
use Rattle.mcv_queues.specs.declared.roots.Group.TheVariants.{WaitingFor, HeldLegs}
use Rattle.mcv_queues.specs.Numbers.{put, IsLeast}
use Rattle.mcv_queues.specs.Legs.{is_in_flight, is_in_flight_to, with_state}
use Rattle.mcv_queues.specs.Flights.{AreFlying, lists}
use Rattle.mcv_queues.specs.Groups.{group_of, is_group, is_in, IsFirstHeld}
use Rattle.mcv_queues.specs.Marks.{no_mark, put_mark, answered_mark, lost_mark, checked_mark}
use Rattle.mcv_queues.proofs.Places.{put_there, some_eq, none_some, apart_bool}

abbrev leg : ℕ → State → Leg ℕ
leg server state = record { server = record { 0 = server }; state = state; «record» = None; content = 0 }

abbrev one : ℕ → Option (Leg ℕ)
one = put (λ n. None) 9 (Some (leg 2 Waiting))

abbrev two : ℕ → Option (Leg ℕ)
two = put one 5 (Some (leg 1 Sent))

abbrev three : ℕ → Option (Leg ℕ)
three = put two 7 (Some (leg 1 Held))

-- leg 9 of server 2 waits; of server 1 the leg 5 is in flight, 7 is held, and 4 is refused
abbrev four : ℕ → Option (Leg ℕ)
four = put three 4 (Some (leg 1 Refused))

waits_for_its_server : is_in four (WaitingFor 2) 9 ≡ true
waits_for_its_server = refl

waits_for_no_other : is_in four (WaitingFor 1) 9 ≡ false
waits_for_no_other = refl

sent_is_in_no_group : group_of (four 5) ≡ None
sent_is_in_no_group = refl

sent_is_in_flight : is_in_flight_to 1 (four 5) ≡ true
sent_is_in_flight = refl

waiting_is_not_in_flight : is_in_flight (four 9) ≡ false
waiting_is_not_in_flight = refl

spooled : with_state four 7 InSpool 7 ≡ Some (leg 1 InSpool)
spooled = refl

others_stay : with_state four 7 InSpool 9 ≡ Some (leg 2 Waiting)
others_stay = refl

no_leg_comes : with_state four 8 Sent 8 ≡ None
no_leg_comes = refl

-- two legs of server 1 are in flight, 5 and 6
abbrev five : ℕ → Option (Leg ℕ)
five = put two 6 (Some (leg 1 Sent))

no_other_flies : (n : ℕ) → (5 ≡ n → ⊥) → (6 ≡ n → ⊥) → is_in_flight_to 1 (five n) ≡ false
no_other_flies n a b = ap (is_in_flight_to 1) (put_there two 6 n (Some (leg 1 Sent)) b ∙ put_there one 5 n (Some (leg 1 Sent)) a) ∙ elim (cases_eq 9 n) [
  | inl q ↦ subst (λ j. is_in_flight_to 1 (one j) ≡ false) q refl
  | inr ne ↦ ap (is_in_flight_to 1) (put_there (λ m. None) 9 n (Some (leg 2 Waiting)) ne)
]

two_fly : AreFlying five 1 2
two_fly = record {
  numbers = 6 ∷ 5 ∷ [];
  these = λ n. elim (cases_eq 6 n) [
    | inl q ↦ subst (λ j. lists (6 ∷ 5 ∷ []) j ≡ is_in_flight_to 1 (five j)) q refl
    | inr b ↦ elim (cases_eq 5 n) [
      | inl q ↦ subst (λ j. lists (6 ∷ 5 ∷ []) j ≡ is_in_flight_to 1 (five j)) q refl
      | inr a ↦ ap (λ v. v || (nat_eq 5 n || false)) (ne_eqb 6 n b) ∙ ap (λ v. v || false) (ne_eqb 5 n a) ∙ sym (no_other_flies n a b)
    ]
  ];
  apart = refl;
  counted = refl;
}

none_flies_to_another : AreFlying five 7 0
none_flies_to_another = record {
  numbers = [];
  these = λ n. elim (cases_eq 6 n) [
    | inl q ↦ subst (λ j. false ≡ is_in_flight_to 7 (five j)) q refl
    | inr b ↦ elim (cases_eq 5 n) [
      | inl q ↦ subst (λ j. false ≡ is_in_flight_to 7 (five j)) q refl
      | inr a ↦ elim (cases_eq 9 n) [
        | inl q ↦ subst (λ j. false ≡ is_in_flight_to 7 (five j)) q refl
        | inr c ↦ sym (ap (is_in_flight_to 7) (put_there two 6 n (Some (leg 1 Sent)) b ∙ put_there one 5 n (Some (leg 1 Sent)) a ∙ put_there (λ m. None) 9 n (Some (leg 2 Waiting)) c))
      ]
    ]
  ];
  apart = refl;
  counted = refl;
}

-- 4 is the least number of those from 4 on, and no number is the least of none
from_four : IsLeast (λ n. nat_le 4 n) (Some 4)
from_four = record { there = λ m e. subst (λ j. nat_le 4 j ≡ true) (some_eq e) refl; least = λ n h. h }

of_none : IsLeast (λ n. false) None
of_none = record { there = λ m e. absurd (none_some e); least = λ n h. h }

abbrev is_held : Option (Leg ℕ) → Bool
is_held o = is_group (group_of o) HeldLegs

no_other_is_held : (n : ℕ) → (7 ≡ n → ⊥) → is_held (four n) ≡ true → ⊥
no_other_is_held n ne h = elim (cases_eq 4 n) [
  | inl q ↦ apart_bool (is_held (four 4)) (subst (λ j. is_held (four j) ≡ true) (sym q) h) refl
  | inr a ↦ elim (cases_eq 5 n) [
    | inl q ↦ apart_bool (is_held (four 5)) (subst (λ j. is_held (four j) ≡ true) (sym q) h) refl
    | inr b ↦ elim (cases_eq 9 n) [
      | inl q ↦ apart_bool (is_held (four 9)) (subst (λ j. is_held (four j) ≡ true) (sym q) h) refl
      | inr c ↦ apart_bool (is_held (four n)) h (ap is_held (put_there three 4 n (Some (leg 1 Refused)) a ∙ put_there two 7 n (Some (leg 1 Held)) ne ∙ put_there one 5 n (Some (leg 1 Sent)) b ∙ put_there (λ n. None) 9 n (Some (leg 2 Waiting)) c))
    ]
  ]
]

-- the held leg 7 comes before the refused leg 4
held_first : IsFirstHeld four 7
held_first = inl (record {
  there = λ m e. subst (λ j. is_in four HeldLegs j ≡ true) (some_eq e) refl;
  least = λ n h. elim (cases_eq 7 n) [ inl q ↦ subst (λ j. nat_le 7 j ≡ true) q refl | inr ne ↦ absurd (no_other_is_held n ne h) ];
})

-- three failures in a row mark a server, and two don't; an answer ends them, and leaves the mark
three_failures : checked_mark (lost_mark (lost_mark (lost_mark no_mark))) ≡ record { failures = 3; marked = true }
three_failures = refl

two_failures : checked_mark (lost_mark (lost_mark no_mark)) ≡ record { failures = 2; marked = false }
two_failures = refl

an_answer_between : checked_mark (lost_mark (lost_mark (answered_mark (lost_mark no_mark)))) ≡ record { failures = 2; marked = false }
an_answer_between = refl

marked_stays : answered_mark (record { failures = 3; marked = true }) ≡ record { failures = 0; marked = true }
marked_stays = refl

greatest_stays : (lost_mark (record { failures = 2 ^ 32 - 1; marked = false })).failures ≡ 2 ^ 32 - 1
greatest_stays = refl

-- a server that isn't in a table of two stays without a mark
known_server : put_mark 2 (λ s. no_mark) 1 lost_mark 1 ≡ record { failures = 1; marked = false }
known_server = refl

unknown_server : put_mark 2 (λ s. no_mark) 2 lost_mark 2 ≡ no_mark
unknown_server = refl
