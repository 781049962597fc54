-- The numbers of the legs' records in the spool: where a leg changes, and where legs are launched.
use Rattle.std.proofs.Common.{◌≡◌, cond, inl, inr, ℕ, suc, ◌≤◌, Bool, true, false, nat_eq, List, [], ◌∷◌, Option, Some, None, option_map, refl, sym, ap, ◌∙◌, subst, arith}
use Rattle.std.proofs.Math.Path.{fun_ext}
use Rattle.std.proofs.lemmas.Bool.{cases_eq}
use Rattle.mcv_queues.specs.declared.leg.Leg.{Leg}
use Rattle.mcv_queues.specs.declared.leg.State.{State}
use Rattle.mcv_queues.specs.declared.leg.State.TheVariants as states
use Rattle.mcv_queues.specs.Legs.{in_state as put_state, stored_as, with_state, with_stored}
use Rattle.mcv_world.specs.World.{put}
use Rattle.mcv_world.proofs.Numbers.{put_same, put_other}
use Rattle.mcv_core.specs.declared.errand.Errand.{Errand}
use Rattle.mcv_core.specs.declared.launch.Entry.{Entry}
use Rattle.mcv_core.specs.declared.settle.Settling.{Settling}
use Rattle.mcv_core.specs.declared.settle.Settling.TheVariants as kinds
use Rattle.mcv_core.specs.Facts.{record_in, records_in}
use Rattle.mcv_core.specs.Launching.{errand_at, waiting_leg, with_legs}
use Rattle.mcv_core.specs.Settling.{records_to, settled_to}

-- a leg is put at a number
pub records_put : (legs : ℕ → Option (Leg Errand)) (n : ℕ) (o : Option (Leg Errand)) → records_in (put legs n o) ≡ put (records_in legs) n (record_in o)
records_put legs n o = fun_ext (λ m. by_number (nat_eq n m) m)
  where
    by_number : (b : Bool) (m : ℕ) → record_in (cond b o (legs m)) ≡ cond b (record_in o) (record_in (legs m))
    by_number true m = refl
    by_number false m = refl

-- what is at the number already is put there
put_again : {A : Type 0} (f : ℕ → Option A) (n : ℕ) (o : Option A) → o ≡ f n → put f n o ≡ f
put_again f n o is = fun_ext (λ m. elim (cases_eq n m) [
  | inl q ↦ subst (λ v. put f n o v ≡ f v) q (put_same f n o ∙ is)
  | inr ne ↦ put_other f n m o ne
])

in_any_state : (t : State) (o : Option (Leg Errand)) → record_in (option_map (put_state t) o) ≡ record_in o
in_any_state t None = refl
in_any_state t (Some l) = refl

-- a leg that only changes its state keeps its record
pub records_kept : (legs : ℕ → Option (Leg Errand)) (n : ℕ) (t : State) → records_in (with_state legs n t) ≡ records_in legs
records_kept legs n t = records_put legs n (option_map (put_state t) (legs n)) ∙ put_again (records_in legs) n (record_in (option_map (put_state t) (legs n))) (in_any_state t (legs n))

pub records_stored : (legs : ℕ → Option (Leg Errand)) (n seq : ℕ) (l : Leg Errand) → legs n ≡ Some l → records_in (with_stored legs n seq) ≡ put (records_in legs) n (Some seq)
records_stored legs n seq l at = records_put legs n (option_map (stored_as seq) (legs n)) ∙ ap (λ o. put (records_in legs) n (record_in (option_map (stored_as seq) o))) at

pub records_settled : (to : Settling) (legs : ℕ → Option (Leg Errand)) (n : ℕ) (l : Leg Errand) → legs n ≡ Some l → records_in (put legs n (settled_to to (legs n))) ≡ records_to to n (records_in legs)
records_settled kinds.Gone legs n l at = records_put legs n None
records_settled (kinds.InSpool seq) legs n l at = records_stored legs n seq l at
records_settled kinds.Refused legs n l at = records_kept legs n states.Refused

no_record : (o : Option Errand) → record_in (option_map waiting_leg o) ≡ None
no_record None = refl
no_record (Some e) = refl

-- legs that are launched under free numbers have no record
pub records_launched : (next : ℕ) (fresh : List ℕ) (entries : List Entry) (legs : ℕ → Option (Leg Errand)) → ((n : ℕ) → next ≤ n → legs n ≡ None) → records_in (with_legs next fresh entries legs) ≡ records_in legs
records_launched next [] entries legs free = refl
records_launched next (e ∷ fresh) entries legs free =
    let one : Option (Leg Errand) = option_map waiting_leg (errand_at entries e) in
    records_launched (suc next) fresh entries (put legs next one) (λ n high. put_other legs next n one (λ q. omega (arith, high, q)) ∙ free n (omega (arith, high)))
    ∙ records_put legs next one ∙ put_again (records_in legs) next (record_in one) (no_record (errand_at entries e) ∙ sym (ap record_in (free next (omega arith))))
