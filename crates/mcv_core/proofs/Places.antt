-- The entries that are due, by their numbers.
use Rattle.std.proofs.Common.{◌≡◌, cond, inl, inr, ℕ, zero, suc, ◌+◌, ◌≤◌, Bool, true, false, nat_eq, List, [], ◌∷◌, length, Option, Some, None, option_map, refl, sym, ap, ◌∙◌, subst, arith}
use Rattle.std.specs.Arc.{arc_value}
use Rattle.std.specs.Prelude.{filter, slice_get}
use Rattle.std.proofs.Math.Path.{fun_ext}
use Rattle.std.proofs.lemmas.Bool.{cases_Bool}
use Rattle.mcv_queues.specs.declared.leg.Leg.{Leg}
use Rattle.mcv_queues.specs.declared.leg.State.{State}
use Rattle.mcv_queues.specs.declared.leg.State.TheVariants.{Waiting}
use Rattle.mcv_route.specs.declared.launch.Launch.{Launch}
use Rattle.mcv_core.specs.CallProgress.{launch_at, places_from}
use Rattle.mcv_world.specs.World.{put}
use Rattle.mcv_world.proofs.Numbers.{same_some, no_some}
use Rattle.mcv_events.specs.Rows as rows
use Rattle.mcv_events.specs.Rows.{numbered, queued_rows, waiting}
use Rattle.mcv_core.specs.declared.call.Call.{Call}
use Rattle.mcv_core.specs.declared.errand.Errand.{Errand}
use Rattle.mcv_core.specs.declared.launch.Entry.{Entry}
use Rattle.mcv_core.specs.Errands.{ErrandView, errand_view, launch_in, laid_request}
use Rattle.mcv_core.specs.Launching.{errand_at, waiting_leg, with_legs, with_numbers}
use Rattle.mcv_core.specs.Rows.{call_of, entries_of, errand_for, row_by, rows_by, load_of}

-- ---- members

-- an entry that is due, by its number
pub record IsDue (due : Launch → Bool) (from : ℕ) (es : List Launch) (e : ℕ) : Type 0 where
  pub index : ℕ
  pub launch : Launch
  pub is : e ≡ from + index
  pub at : slice_get es index ≡ Some launch
  pub is_due : due launch ≡ true

later : (due : Launch → Bool) (from : ℕ) (l : Launch) (es : List Launch) (e : ℕ) → IsDue due (suc from) es e → IsDue due from (l ∷ es) e
later due from l es e d = record { index = suc d.index; launch = d.launch; is = let i = d.is in omega (arith, i); at = d.at; is_due = d.is_due }

first_due : (due : Launch → Bool) (from : ℕ) (l : Launch) (es : List Launch) (e : ℕ) → ((j : ℕ) → slice_get (places_from (suc from) due es) j ≡ Some e → IsDue due (suc from) es e)
    → (j : ℕ) → slice_get (from ∷ places_from (suc from) due es) j ≡ Some e → due l ≡ true → IsDue due from (l ∷ es) e
first_due due from l es e more zero g t = record { index = 0; launch = l; is = let q : from ≡ e = same_some g in omega (arith, q); at = refl; is_due = t }
first_due due from l es e more (suc j) g t = later due from l es e (more j g)

pub due_at : (due : Launch → Bool) (from : ℕ) (es : List Launch) (i e : ℕ) → slice_get (places_from from due es) i ≡ Some e → IsDue due from es e
due_at due from [] i e h = no_some h
due_at due from (l ∷ es) i e h =
    elim (cases_Bool (due l)) [
      | inl t ↦
          first_due due from l es e (λ j g. due_at due (suc from) es j e g) i
          (sym (ap (λ b. slice_get (cond b (from ∷ places_from (suc from) due es) (places_from (suc from) due es)) i) t) ∙ h) t
      | inr t ↦ later due from l es e (due_at due (suc from) es i e (sym (ap (λ b. slice_get (cond b (from ∷ places_from (suc from) due es) (places_from (suc from) due es)) i) t) ∙ h))
    ]

above : (due : Launch → Bool) (from : ℕ) (es : List Launch) (i e : ℕ) → slice_get (places_from from due es) i ≡ Some e → from ≤ e
above due from es i e h = let d = due_at due from es i e h in let q = d.is in omega (arith, q)

both_apart : (due : Launch → Bool) (from : ℕ) (es : List Launch) (e : ℕ) → ((i j : ℕ) → slice_get (places_from (suc from) due es) i ≡ Some e → slice_get (places_from (suc from) due es) j ≡ Some e → i ≡ j)
    → (i j : ℕ) → slice_get (from ∷ places_from (suc from) due es) i ≡ Some e → slice_get (from ∷ places_from (suc from) due es) j ≡ Some e → i ≡ j
both_apart due from es e more zero zero h g = refl
both_apart due from es e more zero (suc j) h g = let q : from ≡ e = same_some h in let a = above due (suc from) es j e g in absurd (omega (arith, q, a))
both_apart due from es e more (suc i) zero h g = let q : from ≡ e = same_some g in let a = above due (suc from) es i e h in absurd (omega (arith, q, a))
both_apart due from es e more (suc i) (suc j) h g = ap suc (more i j h g)

pub places_apart : (due : Launch → Bool) (from : ℕ) (es : List Launch) (i j e : ℕ) → slice_get (places_from from due es) i ≡ Some e → slice_get (places_from from due es) j ≡ Some e → i ≡ j
places_apart due from [] i j e h g = no_some h
places_apart due from (l ∷ es) i j e h g =
    elim (cases_Bool (due l)) [
      | inl t ↦
          both_apart due from es e (λ a b ga gb. places_apart due (suc from) es a b e ga gb) i j
          (sym (ap (λ b. slice_get (cond b (from ∷ places_from (suc from) due es) (places_from (suc from) due es)) i) t) ∙ h)
          (sym (ap (λ b. slice_get (cond b (from ∷ places_from (suc from) due es) (places_from (suc from) due es)) j) t) ∙ g)
      | inr t ↦
          places_apart due (suc from) es i j e (sym (ap (λ b. slice_get (cond b (from ∷ places_from (suc from) due es) (places_from (suc from) due es)) i) t) ∙ h)
          (sym (ap (λ b. slice_get (cond b (from ∷ places_from (suc from) due es) (places_from (suc from) due es)) j) t) ∙ g)
    ]

length_cond : {A : Type 0} (b : Bool) (x y : List A) (m n : ℕ) → length x ≡ m → length y ≡ n → length (cond b x y) ≡ cond b m n
length_cond true x y m n e f = e
length_cond false x y m n e f = f

pub places_count : (due : Launch → Bool) (from : ℕ) (es : List Launch) → length (places_from from due es) ≡ length (filter due es)
places_count due from [] = refl
places_count due from (l ∷ es) =
    let q = places_count due (suc from) es in
    length_cond (due l) (from ∷ places_from (suc from) due es) (places_from (suc from) due es) (suc (length (filter due es))) (length (filter due es)) (ap suc q) q
    ∙ sym (length_cond (due l) (l ∷ filter due es) (filter due es) (suc (length (filter due es))) (length (filter due es)) refl refl)

-- ---- what is launched

pub due_numbers : (due : Launch → Bool) (n from : ℕ) (es : List Launch) (f : ℕ → Option ℕ) → with_numbers n (places_from from due es) f ≡ numbered due n from es f
due_numbers due n from [] f = refl
due_numbers due n from (l ∷ es) f = by_cases (due l) (due_numbers due (suc n) (suc from) es (put f from (Some n))) (due_numbers due n (suc from) es f)
  where
    by_cases : (b : Bool) → with_numbers (suc n) (places_from (suc from) due es) (put f from (Some n)) ≡ numbered due (suc n) (suc from) es (put f from (Some n))
        → with_numbers n (places_from (suc from) due es) f ≡ numbered due n (suc from) es f
        → with_numbers n (cond b (from ∷ places_from (suc from) due es) (places_from (suc from) due es)) f ≡ cond b (numbered due (suc n) (suc from) es (put f from (Some n))) (numbered due n (suc from) es f)
    by_cases true first other = first
    by_cases false first other = other

pub put_rows : (f : State → rows.State) (legs : ℕ → Option (Leg Errand)) (n : ℕ) (o : Option (Leg Errand)) → rows_by f (put legs n o) ≡ put (rows_by f legs) n (option_map (row_by f) o)
put_rows f legs n o = fun_ext (λ m. by_cases (nat_eq n m) m)
  where
    by_cases : (b : Bool) (m : ℕ) → option_map (row_by f) (cond b o (legs m)) ≡ cond b (option_map (row_by f) o) (option_map (row_by f) (legs m))
    by_cases true m = refl
    by_cases false m = refl

-- the row of a leg that is launched
abbrev row_in : (State → rows.State) → ErrandView → rows.LegRow
row_in f v = record { call = v.call; entry = v.entry; launch = launch_in v; rest = arc_value v.laid.rest; request = laid_request v.laid; state = f Waiting }

seen_row : (f : State → rows.State) (o : Option Errand) → option_map (row_by f) (option_map waiting_leg o) ≡ option_map (row_in f) (option_map errand_view o)
seen_row f None = refl
seen_row f (Some e) = refl

-- each entry that is due has ready what its leg takes with it
abbrev pub AreReady : ℕ → Call → (Launch → Bool) → ℕ → List Launch → List Entry → Type 0
AreReady k c due from es entries =
    (j : ℕ) (l : Launch) → slice_get es j ≡ Some l → due l ≡ true → (option_map errand_view (errand_at entries (from + j)) ≡ Some (errand_for k c (from + j))) × (launch_at (entries_of c) (from + j) ≡ l)

module _ (k : ℕ) (c : Call) (due : Launch → Bool) (f : State → rows.State) (waits : f Waiting ≡ rows.Waiting) where
  pub due_rows : (n from : ℕ) (es : List Launch) (entries : List Entry) (legs : ℕ → Option (Leg Errand)) → AreReady k c due from es entries
      → rows_by f (with_legs n (places_from from due es) entries legs) ≡ queued_rows due k (load_of c) n from es (rows_by f legs)
  due_rows n from [] entries legs ready = refl
  due_rows n from (l ∷ es) entries legs ready =
      let rest_ready : AreReady k c due (suc from) es entries = λ j m at t.
      let q : from + suc j ≡ suc from + j = omega arith in
      subst (λ v. (option_map errand_view (errand_at entries v) ≡ Some (errand_for k c v)) × (launch_at (entries_of c) v ≡ m)) q (ready (suc j) m at t) in
      let branches = λ (b : Bool). cond b (queued_rows due k (load_of c) (suc n) (suc from) es (put (rows_by f legs) n (Some (waiting k from (load_of c) l)))) (queued_rows due k (load_of c) n (suc from) es (rows_by f legs)) in
      let launching = λ (b : Bool). rows_by f (with_legs n (cond b (from ∷ places_from (suc from) due es) (places_from (suc from) due es)) entries legs) in
      elim (cases_Bool (due l)) [
        | inl t ↦
            let here = ready 0 l refl t in
            let zero : from + 0 ≡ from = omega arith in
            let errand : option_map errand_view (errand_at entries from) ≡ Some (errand_for k c from) = subst (λ v. option_map errand_view (errand_at entries v) ≡ Some (errand_for k c v)) zero here.0 in
            let launch : launch_at (entries_of c) from ≡ l = subst (λ v. launch_at (entries_of c) v ≡ l) zero here.1 in
            let row : rows_by f (put legs n (option_map waiting_leg (errand_at entries from))) ≡ put (rows_by f legs) n (Some (waiting k from (load_of c) l)) =
            put_rows f legs n (option_map waiting_leg (errand_at entries from))
            ∙ ap (put (rows_by f legs) n) (seen_row f (errand_at entries from) ∙ ap (option_map (row_in f)) errand)
            ∙ ap (λ v. put (rows_by f legs) n (Some (record { call = Some k; entry = from; launch = launch_at (entries_of c) from; rest = (call_of c).rest; request = laid_request (arc_value c.laid); state = v }))) waits
            ∙ ap (λ v. put (rows_by f legs) n (Some (waiting k from (load_of c) v))) launch in
            ap launching t
            ∙ due_rows (suc n) (suc from) es entries (put legs n (option_map waiting_leg (errand_at entries from))) rest_ready
            ∙ ap (λ g. queued_rows due k (load_of c) (suc n) (suc from) es g) row
            ∙ sym (ap branches t)
        | inr t ↦ ap launching t ∙ due_rows n (suc from) es entries legs rest_ready ∙ sym (ap branches t)
      ]
