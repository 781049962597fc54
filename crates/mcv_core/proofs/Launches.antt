-- One entry more is launched.
use Rattle.std.proofs.Common.{◌≡◌, inl, inr, ℕ, zero, suc, ◌+◌, ◌<◌, ◌≤◌, ◌^◌, true, nat_lt, List, [], ◌∷◌, length, drop, set, Option, Some, None, option_map, refl, sym, ap, ◌∙◌, subst, arith, true≢false}
use Rattle.std.specs.Prelude.{option_and_then, slice_get}
use Rattle.std.proofs.Math.Path.{fun_ext}
use Rattle.std.proofs.lemmas.Bool.{cases_eq, ltb-true}
use Rattle.std.proofs.lemmas.List.{length-set}
use Rattle.mcv_base.specs.declared.request.ServerId.{ServerId}
use Rattle.mcv_queues.specs.declared.leg.Leg.{Leg}
use Rattle.mcv_queues.specs.declared.leg.State.TheVariants.{Waiting}
use Rattle.mcv_world.specs.World.{put}
use Rattle.mcv_world.proofs.Numbers.{same_some, no_some, put_same, put_other}
use Rattle.mcv_core.specs.declared.errand.Errand.{Errand}
use Rattle.mcv_core.specs.declared.launch.Entry.{Entry}
use Rattle.mcv_core.specs.Errands.{launch_of}
use Rattle.mcv_core.specs.Recordings.{AreAddressed}
use Rattle.mcv_core.specs.Launching.{errand_at, numbers_of, places_of, waiting_leg, with_legs, with_numbers, is_ready, CanLaunch, IsLaunched, HasCome}

-- ---- lists

pub drop_past : {A : Type 0} (xs : List A) (i : ℕ) → length xs ≤ i → drop i xs ≡ []
drop_past [] zero low = refl
drop_past [] (suc i) low = refl
drop_past (x ∷ xs) zero low = absurd (omega (arith, low))
drop_past (x ∷ xs) (suc i) low = drop_past xs i (omega (arith, low))

pub split_at : {A : Type 0} (xs : List A) (i : ℕ) (x : A) → slice_get xs i ≡ Some x → drop i xs ≡ x ∷ drop (suc i) xs
split_at [] i x e = no_some e
split_at (y ∷ xs) zero x e = ap (λ v. v ∷ xs) (same_some e)
split_at (y ∷ xs) (suc i) x e = split_at xs i x e

pub get_below : {A : Type 0} (xs : List A) (i : ℕ) (x : A) → slice_get xs i ≡ Some x → i < length xs
get_below [] i x e = no_some e
get_below (y ∷ xs) zero x e = omega arith
get_below (y ∷ xs) (suc i) x e = let low = get_below xs i x e in omega (arith, low)

pub set_same : {A : Type 0} (xs : List A) (i : ℕ) (x : A) → i < length xs → slice_get (set xs i x) i ≡ Some x
set_same [] i x low = absurd (omega (arith, low))
set_same (y ∷ xs) zero x low = refl
set_same (y ∷ xs) (suc i) x low = set_same xs i x (omega (arith, low))

pub set_other : {A : Type 0} (xs : List A) (i j : ℕ) (x : A) → (i ≡ j → ⊥) → slice_get (set xs i x) j ≡ slice_get xs j
set_other [] i j x ne = refl
set_other (y ∷ xs) zero zero x ne = absurd (ne refl)
set_other (y ∷ xs) zero (suc j) x ne = refl
set_other (y ∷ xs) (suc i) zero x ne = refl
set_other (y ∷ xs) (suc i) (suc j) x ne = set_other xs i j x (λ q. ne (ap suc q))

-- a field of the entries, where one entry changes
pub field_set : {A : Type 0} (f : Entry → Option A) (xs : List Entry) (e : ℕ) (x : Entry) → e < length xs → (j : ℕ) → option_and_then f (slice_get (set xs e x) j) ≡ put (λ i. option_and_then f (slice_get xs i)) e (f x) j
field_set f xs e x low j =
    elim (cases_eq e j) [
      | inl q ↦
          subst (λ m. option_and_then f (slice_get (set xs e x) m) ≡ put (λ i. option_and_then f (slice_get xs i)) e (f x) m) q
          (ap (option_and_then f) (set_same xs e x low) ∙ sym (put_same (λ i. option_and_then f (slice_get xs i)) e (f x)))
      | inr ne ↦ ap (option_and_then f) (set_other xs e j x ne) ∙ sym (put_other (λ i. option_and_then f (slice_get xs i)) e j (f x) ne)
    ]

-- ---- one entry more

lt_is : (a b : ℕ) → nat_lt a b ≡ true → a < b
lt_is a b e = ltb-true a b e

there_of : (servers : ℕ) (entries : List Entry) (e : ℕ) → is_ready servers (errand_at entries e) ≡ true → (x : Entry) × (slice_get entries e ≡ Some x) × (is_ready servers x.errand ≡ true)
there_of servers entries e h = by_entry (slice_get entries e) refl h
  where
    by_entry : (o : Option Entry) → slice_get entries e ≡ o → is_ready servers (option_and_then (λ x. x.errand) o) ≡ true → (x : Entry) × (slice_get entries e ≡ Some x) × (is_ready servers x.errand ≡ true)
    by_entry None is t = absurd (true≢false (sym t))
    by_entry (Some x) is t = (x, is, t)

module _ (next number i : ℕ) (fresh : List ℕ) (was entries : List Entry) (old legs : ℕ → Option (Leg Errand)) (had room servers : ℕ)
    (can : CanLaunch fresh was old had servers next) (h : HasCome next number i fresh was entries old legs had room) (e : ℕ) (here : slice_get fresh i ≡ Some e) where
  ready : (x : Entry) × (slice_get was e ≡ Some x) × (is_ready servers x.errand ≡ true)
  ready = there_of servers was e (can.ready i e here)

  same : slice_get entries e ≡ slice_get was e
  same = h.still i e (omega arith) here

  -- the entry is there
  pub there : e < length entries
  there = let low = get_below was e ready.0 ready.1 in let len = h.len in omega (arith, low, len)

  pub has_number : number + 1 < 2 ^ 64
  has_number = let low = get_below fresh i e here in let n = h.number_is in let bound = can.numbers in omega (arith, low, n, bound)

  pub has_room : 0 < room
  has_room = let low = get_below fresh i e here in let a = h.room_is in let b = can.fits in omega (arith, low, a, b)

  module _ (before : Entry) (at : slice_get entries e ≡ Some before) where
    its : ready.0 ≡ before
    its = same_some (sym ready.1 ∙ sym same ∙ at)

    -- what it has ready
    pub has_errand : before.errand ≡ None → ⊥
    has_errand none = true≢false (sym ready.2 ∙ ap (is_ready servers) (ap (λ v. v.errand) its ∙ none))

    pub is_known : (errand : Errand) → before.errand ≡ Some errand → (launch_of errand).server.0 < servers
    is_known errand is = lt_is _ _ (ap (is_ready servers) (sym is ∙ ap (λ v. v.errand) (sym its)) ∙ ready.2)

    pub one_more : (x : Entry) (errand : Errand) (server : ServerId) (entries2 : List Entry) (legs2 : ℕ → Option (Leg Errand)) (room2 : ℕ)
        → before.errand ≡ Some errand → x.leg ≡ Some number → x.place ≡ before.place → entries2 ≡ set entries e x → server ≡ (launch_of errand).server
        → legs2 ≡ put legs number (Some (record { server = server; state = Waiting; «record» = None; content = errand })) → room ≤ room2 + 1
        → HasCome next (suc number) (suc i) fresh was entries2 old legs2 had room2
    one_more x errand server entries2 legs2 room2 errand_is leg_is place_is set_is server_is legs_is room_is =
        let split = split_at fresh i e here in
        let had_it : errand_at was e ≡ Some errand = ap (option_and_then (λ x. x.errand)) (sym same ∙ at) ∙ errand_is in
        let row : put legs number (option_map waiting_leg (errand_at was e)) ≡ legs2 =
        ap (λ o. put legs number (option_map waiting_leg o)) had_it
        ∙ ap (λ s. put legs number (Some (record { server = s; state = Waiting; «record» = None; content = errand }))) (sym server_is) ∙ sym legs_is in
        let numbers_are : numbers_of entries2 ≡ put (numbers_of entries) e (Some number) =
        fun_ext (λ j. ap (λ xs. numbers_of xs j) set_is ∙ field_set (λ x. x.leg) entries e x there j ∙ ap (λ v. put (numbers_of entries) e v j) leg_is) in
        let places_are : (j : ℕ) → places_of entries2 j ≡ places_of entries j =
        λ j. ap (λ xs. places_of xs j) set_is ∙ field_set (λ x. x.place) entries e x there j ∙ kept_place j in
        record {
          legs_are = ap (λ f. with_legs (suc number) (drop (suc i) fresh) was f) (sym row) ∙ ap (λ xs. with_legs number xs was legs) (sym split) ∙ h.legs_are;
          numbers = ap (λ f. with_numbers (suc number) (drop (suc i) fresh) f) numbers_are ∙ ap (λ xs. with_numbers number xs (numbers_of entries)) (sym split) ∙ h.numbers;
          places = λ j. places_are j ∙ h.places j;
          len = ap length set_is ∙ length-set entries e x ∙ h.len;
          others = λ j y f none. elim (cases_eq e j) [
            | inl q ↦
                let y_is : x ≡ y = same_some (sym (set_same entries e x there) ∙ subst (λ m. slice_get (set entries e x) m ≡ Some y) (sym q) (ap (λ xs. slice_get xs j) (sym set_is) ∙ f)) in
                no_some (sym none ∙ ap (λ v. v.leg) (sym y_is) ∙ leg_is)
            | inr ne ↦ h.others j y (sym (set_other entries e j x ne) ∙ ap (λ xs. slice_get xs j) (sym set_is) ∙ f) none
          ];
          still = λ j e2 high f.
              let ne : e ≡ e2 → ⊥ = λ q. let ij = can.apart i j e2 (here ∙ ap (λ v. Some v) q) f in omega (arith, high, ij) in
              ap (λ xs. slice_get xs e2) set_is ∙ set_other entries e e2 x ne ∙ h.still j e2 (omega (arith, high)) f;
          number_is = let n = h.number_is in omega (arith, n);
          room_is = let a = h.room_is in omega (arith, a, room_is);
          free = λ n high. ap (λ f. f n) legs_is ∙ put_other legs number n _ (λ q. omega (arith, high, q)) ∙ h.free n (omega (arith, high));
        }
      where
        kept_place : (j : ℕ) → put (places_of entries) e x.place j ≡ places_of entries j
        kept_place j =
            elim (cases_eq e j) [
              | inl q ↦
                  subst (λ m. put (places_of entries) e x.place m ≡ places_of entries m) q
                  (put_same (places_of entries) e x.place ∙ place_is ∙ sym (ap (option_and_then (λ x. x.place)) at))
              | inr ne ↦ put_other (places_of entries) e j x.place ne
            ]

-- ---- at the end

pub all_launched : (next number i : ℕ) (fresh : List ℕ) (was entries : List Entry) (old legs : ℕ → Option (Leg Errand)) (had room : ℕ)
    → HasCome next number i fresh was entries old legs had room → length fresh ≤ i → IsLaunched next fresh was entries old legs
all_launched next number i fresh was entries old legs had room h end =
    let none = drop_past fresh i end in
    record {
      legs_are = ap (λ xs. with_legs number xs was legs) (sym none) ∙ h.legs_are;
      numbers = ap (λ xs. with_numbers number xs (numbers_of entries)) (sym none) ∙ h.numbers;
      places = h.places;
      len = h.len;
      others = h.others;
    }

-- ---- servers

some_waiting : (o : Option Errand) (l : Leg Errand) → option_map waiting_leg o ≡ Some l → l.server ≡ (launch_of l.content).server
some_waiting None l e = no_some e
some_waiting (Some x) l e = subst (λ (v : Leg Errand). v.server ≡ (launch_of v.content).server) (same_some e) refl

-- legs that are launched wait at the servers of their launches
pub launched_addressed : (n : ℕ) (fresh : List ℕ) (entries : List Entry) (legs : ℕ → Option (Leg Errand)) → AreAddressed legs → AreAddressed (with_legs n fresh entries legs)
launched_addressed n [] entries legs h = h
launched_addressed n (e ∷ fresh) entries legs h =
    launched_addressed (suc n) fresh entries (put legs n (option_map waiting_leg (errand_at entries e)))
    (λ m l at. elim (cases_eq n m) [
      | inl q ↦ some_waiting (errand_at entries e) l (sym (put_same legs n (option_map waiting_leg (errand_at entries e))) ∙ subst (λ v. put legs n (option_map waiting_leg (errand_at entries e)) v ≡ Some l) (sym q) at)
      | inr ne ↦ h m l (sym (put_other legs n m (option_map waiting_leg (errand_at entries e)) ne) ∙ at)
    ])
