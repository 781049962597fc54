-- Entries that get the numbers of their legs, and the rows of these legs.
use Rattle.std.proofs.Common.{◌≡◌, ◌⊎◌, cond, inl, inr, ℕ, zero, suc, ◌+◌, ◌<◌, ◌≤◌, Bool, true, false, nat_eq, List, [], ◌∷◌, length, Option, Some, option_map, refl, sym, ap, ◌∙◌, subst, arith, true≢false}
use Rattle.std.specs.Prelude.{filter, is_some, slice_get}
use Rattle.std.proofs.lemmas.Bool.{cases_Bool}
use Rattle.mcv_route.specs.declared.launch.Launch.{Launch}
use Rattle.mcv_world.specs.World.{Leg, put}
use Rattle.mcv_world.specs.Moves.{queue, queued}
use Rattle.mcv_events.specs.Rows.{LegRow, Payload, leg_of, waiting, numbered, queued_rows}
use Rattle.mcv_world.proofs.Numbers.{same_some, no_some, put_same, put_other, put_cases}

-- what holds of both branches at a number
pub cond_at : {A B : Type 0} (P : B → Type 0) (b : Bool) (f g : A → B) (j : A) → (b ≡ true → P (f j)) → (b ≡ false → P (g j)) → P (cond b f g j)
cond_at P true f g j x y = x refl
cond_at P false f g j x y = y refl

module _ (due : Launch → Bool) where
  pub numbered_before : (n e : ℕ) (es : List Launch) (f : ℕ → Option ℕ) (j : ℕ) → j < e → numbered due n e es f j ≡ f j
  numbered_before n e [] f j low = refl
  numbered_before n e (l ∷ es) f j low =
      cond_at (λ v. v ≡ f j) (due l) (numbered due (suc n) (suc e) es (put f e (Some n))) (numbered due n (suc e) es f) j
      (λ t. numbered_before (suc n) (suc e) es (put f e (Some n)) j (omega (arith, low)) ∙ put_other f e j (Some n) (λ q. omega (arith, low, q)))
      (λ t. numbered_before n (suc e) es f j (omega (arith, low)))

  pub numbered_rest : (n e : ℕ) (es : List Launch) (f : ℕ → Option ℕ) (i j : ℕ) (l : Launch) → slice_get es i ≡ Some l → j ≡ e + i → due l ≡ false → numbered due n e es f j ≡ f j
  numbered_rest n e [] f i j l at is d = no_some at
  numbered_rest n e (m ∷ es) f zero j l at is d =
      cond_at (λ v. v ≡ f j) (due m) (numbered due (suc n) (suc e) es (put f e (Some n))) (numbered due n (suc e) es f) j
      (λ t. absurd (true≢false (sym t ∙ ap due (same_some at) ∙ d)))
      (λ t. numbered_before n (suc e) es f j (omega (arith, is)))
  numbered_rest n e (m ∷ es) f (suc i) j l at is d =
      cond_at (λ v. v ≡ f j) (due m) (numbered due (suc n) (suc e) es (put f e (Some n))) (numbered due n (suc e) es f) j
      (λ t. numbered_rest (suc n) (suc e) es (put f e (Some n)) i j l at (omega (arith, is)) d ∙ put_other f e j (Some n) (λ q. omega (arith, is, q)))
      (λ t. numbered_rest n (suc e) es f i j l at (omega (arith, is)) d)

  pub numbered_due : (n e : ℕ) (es : List Launch) (f : ℕ → Option ℕ) (i j : ℕ) (l : Launch) → slice_get es i ≡ Some l → j ≡ e + i → due l ≡ true → is_some (numbered due n e es f j) ≡ true
  numbered_due n e [] f i j l at is d = no_some at
  numbered_due n e (m ∷ es) f zero j l at is d =
      cond_at (λ v. is_some v ≡ true) (due m) (numbered due (suc n) (suc e) es (put f e (Some n))) (numbered due n (suc e) es f) j
      (λ t.
      let here : e ≡ j = omega (arith, is) in
      ap is_some (numbered_before (suc n) (suc e) es (put f e (Some n)) j (omega (arith, is)) ∙ subst (λ v. put f e (Some n) v ≡ Some n) here (put_same f e (Some n))))
      (λ t. absurd (true≢false (sym (sym t ∙ ap due (same_some at) ∙ d))))
  numbered_due n e (m ∷ es) f (suc i) j l at is d =
      cond_at (λ v. is_some v ≡ true) (due m) (numbered due (suc n) (suc e) es (put f e (Some n))) (numbered due n (suc e) es f) j
      (λ t. numbered_due (suc n) (suc e) es (put f e (Some n)) i j l at (omega (arith, is)) d)
      (λ t. numbered_due n (suc e) es f i j l at (omega (arith, is)) d)

  module _ (k : ℕ) (load : Payload) where
    -- a leg that is new
    pub record IsNewRow (n e : ℕ) (es : List Launch) (m : ℕ) (s : LegRow) : Type 0 where
      pub index : ℕ
      pub entry : ℕ
      pub launch : Launch
      pub at : slice_get es index ≡ Some launch
      pub entry_is : entry ≡ e + index
      pub is_due : due launch ≡ true
      pub is : waiting k entry load launch ≡ s
      pub number : (f : ℕ → Option ℕ) → numbered due n e es f entry ≡ Some m
      pub below : m < n + length (filter due es)

    first_number : (n e : ℕ) (l : Launch) (es : List Launch) (f : ℕ → Option ℕ) → due l ≡ true → numbered due n e (l ∷ es) f e ≡ Some n
    first_number n e l es f t =
        ap (λ b. cond b (numbered due (suc n) (suc e) es (put f e (Some n))) (numbered due n (suc e) es f) e) t
        ∙ numbered_before (suc n) (suc e) es (put f e (Some n)) e (omega arith) ∙ put_same f e (Some n)

    pub rows_back : (n e : ℕ) (es : List Launch) (rows : ℕ → Option LegRow) (m : ℕ) (s : LegRow) → queued_rows due k load n e es rows m ≡ Some s → (rows m ≡ Some s) ⊎ IsNewRow n e es m s
    rows_back n e [] rows m s h = inl h
    rows_back n e (l ∷ es) rows m s h =
        elim (cases_Bool (due l)) [
          | inl t ↦
              let h1 : queued_rows due k load (suc n) (suc e) es (put rows n (Some (waiting k e load l))) m ≡ Some s =
              sym (ap (λ b. cond b (queued_rows due k load (suc n) (suc e) es (put rows n (Some (waiting k e load l)))) (queued_rows due k load n (suc e) es rows) m) t) ∙ h in
              elim (rows_back (suc n) (suc e) es (put rows n (Some (waiting k e load l))) m s h1) [
                | inl old ↦
                    elim (put_cases rows n m (Some (waiting k e load l)) s old) [
                      | inl q ↦ inr (record {
                        index = 0;
                        entry = e;
                        launch = l;
                        at = refl;
                        entry_is = omega arith;
                        is_due = t;
                        is = same_some q.1;
                        number = λ f. first_number n e l es f t ∙ ap (λ v. Some v) q.0;
                        below = subst (λ b. m < n + length (cond b (l ∷ filter due es) (filter due es))) (sym t) (omega (arith, q.0));
                      })
                      | inr q ↦ inl q.1
                    ]
                | inr w ↦ inr (record {
                  index = suc w.index;
                  entry = w.entry;
                  launch = w.launch;
                  at = w.at;
                  entry_is = omega (arith, w.entry_is);
                  is_due = w.is_due;
                  is = w.is;
                  number = λ f. ap (λ b. cond b (numbered due (suc n) (suc e) es (put f e (Some n))) (numbered due n (suc e) es f) w.entry) t ∙ w.number (put f e (Some n));
                  below = subst (λ b. m < n + length (cond b (l ∷ filter due es) (filter due es))) (sym t) (omega (arith, w.below));
                })
              ]
          | inr t ↦
              let h1 : queued_rows due k load n (suc e) es rows m ≡ Some s =
              sym (ap (λ b. cond b (queued_rows due k load (suc n) (suc e) es (put rows n (Some (waiting k e load l)))) (queued_rows due k load n (suc e) es rows) m) t) ∙ h in
              elim (rows_back n (suc e) es rows m s h1) [
                | inl old ↦ inl old
                | inr w ↦ inr (record {
                  index = suc w.index;
                  entry = w.entry;
                  launch = w.launch;
                  at = w.at;
                  entry_is = omega (arith, w.entry_is);
                  is_due = w.is_due;
                  is = w.is;
                  number = λ f. ap (λ b. cond b (numbered due (suc n) (suc e) es (put f e (Some n))) (numbered due n (suc e) es f) w.entry) t ∙ w.number f;
                  below = subst (λ b. m < n + length (cond b (l ∷ filter due es) (filter due es))) (sym t) w.below;
                })
              ]
        ]

    pub rows_below : (n e : ℕ) (es : List Launch) (rows : ℕ → Option LegRow) (m : ℕ) → m < n → queued_rows due k load n e es rows m ≡ rows m
    rows_below n e [] rows m low = refl
    rows_below n e (l ∷ es) rows m low =
        cond_at (λ v. v ≡ rows m) (due l) (queued_rows due k load (suc n) (suc e) es (put rows n (Some (waiting k e load l)))) (queued_rows due k load n (suc e) es rows) m
        (λ t. rows_below (suc n) (suc e) es (put rows n (Some (waiting k e load l))) m (omega (arith, low)) ∙ put_other rows n m (Some (waiting k e load l)) (λ q. omega (arith, low, q)))
        (λ t. rows_below n (suc e) es rows m low)

    pub rows_above : (n e : ℕ) (es : List Launch) (rows : ℕ → Option LegRow) (m : ℕ) → n + length (filter due es) ≤ m → queued_rows due k load n e es rows m ≡ rows m
    rows_above n e [] rows m high = refl
    rows_above n e (l ∷ es) rows m high =
        cond_at (λ v. v ≡ rows m) (due l) (queued_rows due k load (suc n) (suc e) es (put rows n (Some (waiting k e load l)))) (queued_rows due k load n (suc e) es rows) m
        (λ t.
        let above : n + suc (length (filter due es)) ≤ m = subst (λ b. n + length (cond b (l ∷ filter due es) (filter due es)) ≤ m) t high in
        rows_above (suc n) (suc e) es (put rows n (Some (waiting k e load l))) m (omega (arith, above)) ∙ put_other rows n m (Some (waiting k e load l)) (λ q. omega (arith, above, q)))
        (λ t. rows_above n (suc e) es rows m (subst (λ b. n + length (cond b (l ∷ filter due es) (filter due es)) ≤ m) t high))

    -- the legs of a world are queued in the same way
    pub rows_queue : (n e : ℕ) (es : List Launch) (rows : ℕ → Option LegRow) (legs : ℕ → Option Leg) → ((m : ℕ) → option_map leg_of (rows m) ≡ legs m)
        → (m : ℕ) → option_map leg_of (queued_rows due k load n e es rows m) ≡ queue legs n k load.rest (filter due es) m
    rows_queue n e [] rows legs same m = same m
    rows_queue n e (l ∷ es) rows legs same m =
        by_cases (due l) (rows_queue (suc n) (suc e) es (put rows n (Some (waiting k e load l))) (put legs n (Some (queued k load.rest l))) put_alike m) (rows_queue n (suc e) es rows legs same m)
      where
        at_once : (b : Bool) (j : ℕ) → option_map leg_of (cond b (Some (waiting k e load l)) (rows j)) ≡ cond b (Some (queued k load.rest l)) (legs j)
        at_once true j = refl
        at_once false j = same j

        put_alike : (j : ℕ) → option_map leg_of (put rows n (Some (waiting k e load l)) j) ≡ put legs n (Some (queued k load.rest l)) j
        put_alike j = at_once (nat_eq n j) j

        by_cases : (b : Bool) → option_map leg_of (queued_rows due k load (suc n) (suc e) es (put rows n (Some (waiting k e load l))) m) ≡ queue (put legs n (Some (queued k load.rest l))) (suc n) k load.rest (filter due es) m
            → option_map leg_of (queued_rows due k load n (suc e) es rows m) ≡ queue legs n k load.rest (filter due es) m
            → option_map leg_of (cond b (queued_rows due k load (suc n) (suc e) es (put rows n (Some (waiting k e load l)))) (queued_rows due k load n (suc e) es rows) m) ≡ queue legs n k load.rest (cond b (l ∷ filter due es) (filter due es)) m
        by_cases true x y = x
        by_cases false x y = y
