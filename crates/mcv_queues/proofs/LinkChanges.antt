-- What a change of one number's links keeps.
use Rattle.std.proofs.Common.{◌≡◌, inl, inr, ℕ, true, is_some, Option, Some, None, refl, ap, subst, ◌∙◌}
use Rattle.std.specs.Prelude.{option_map}
use Rattle.std.proofs.lemmas.Bool.{cases_eq}
use Rattle.mcv_queues.specs.declared.rows.Link.{Link}
use Rattle.mcv_queues.specs.Forest.{left_of, right_of, up_of, changed, raised}
use Rattle.mcv_queues.proofs.Places.{put_here, put_there}

pub keeps : {X : Type 0} (v : Option Link → X) (f : ℕ → Option Link) (n : ℕ) (g : Link → Link) → ((o : Option Link) → v (option_map g o) ≡ v o) → (m : ℕ) → v (changed f n g m) ≡ v (f m)
keeps v f n g e m = elim (cases_eq n m) [
  | inl q ↦ subst (λ j. v (changed f n g j) ≡ v (f j)) q (ap v (put_here f n (option_map g (f n))) ∙ e (f n))
  | inr ne ↦ ap v (put_there f n m (option_map g (f n)) ne)
]

abbrev pub lift : Option ℕ → Link → Link
lift up l = record { left = l.left; right = l.right; up = up }

abbrev pub turn : Option ℕ → Link → Link
turn left l = record { left = left; right = l.left; up = l.up }

pub lift_left : (up : Option ℕ) (o : Option Link) → left_of (option_map (lift up) o) ≡ left_of o
lift_left up None = refl
lift_left up (Some l) = refl

pub lift_right : (up : Option ℕ) (o : Option Link) → right_of (option_map (lift up) o) ≡ right_of o
lift_right up None = refl
lift_right up (Some l) = refl

pub lift_some : (up : Option ℕ) (o : Option Link) → is_some (option_map (lift up) o) ≡ is_some o
lift_some up None = refl
lift_some up (Some l) = refl

pub lift_up : (up : Option ℕ) (o : Option Link) → is_some o ≡ true → up_of (option_map (lift up) o) ≡ up
lift_up up None e = absurd (cc)
lift_up up (Some l) e = refl

pub lift_none : (o : Option Link) → up_of (option_map (lift None) o) ≡ None
lift_none None = refl
lift_none (Some l) = refl

pub turn_up : (left : Option ℕ) (o : Option Link) → up_of (option_map (turn left) o) ≡ up_of o
turn_up left None = refl
turn_up left (Some l) = refl

pub turn_some : (left : Option ℕ) (o : Option Link) → is_some (option_map (turn left) o) ≡ is_some o
turn_some left None = refl
turn_some left (Some l) = refl

pub turn_left : (left : Option ℕ) (o : Option Link) → is_some o ≡ true → left_of (option_map (turn left) o) ≡ left
turn_left left None e = absurd (cc)
turn_left left (Some l) e = refl

pub turn_right : (left : Option ℕ) (o : Option Link) → right_of (option_map (turn left) o) ≡ left_of o
turn_right left None = refl
turn_right left (Some l) = refl

pub raised_left : (f : ℕ → Option Link) (n : ℕ) (up : Option ℕ) (m : ℕ) → left_of (raised f n up m) ≡ left_of (f m)
raised_left f n up m = keeps left_of f n (lift up) (lift_left up) m

pub raised_right : (f : ℕ → Option Link) (n : ℕ) (up : Option ℕ) (m : ℕ) → right_of (raised f n up m) ≡ right_of (f m)
raised_right f n up m = keeps right_of f n (lift up) (lift_right up) m

pub raised_some_there : (f : ℕ → Option Link) (n : ℕ) (up : Option ℕ) (m : ℕ) → is_some (raised f n up m) ≡ is_some (f m)
raised_some_there f n up m = keeps is_some f n (lift up) (lift_some up) m

pub raised_here : (f : ℕ → Option Link) (n : ℕ) (up : Option ℕ) → is_some (f n) ≡ true → up_of (raised f n up n) ≡ up
raised_here f n up e = ap up_of (put_here f n (option_map (lift up) (f n))) ∙ lift_up up (f n) e

pub raised_none : (f : ℕ → Option Link) (n : ℕ) → up_of (raised f n None n) ≡ None
raised_none f n = ap up_of (put_here f n (option_map (lift None) (f n))) ∙ lift_none (f n)

pub raised_there : (f : ℕ → Option Link) (n : ℕ) (up : Option ℕ) (m : ℕ) → (n ≡ m → ⊥) → up_of (raised f n up m) ≡ up_of (f m)
raised_there f n up m ne = ap up_of (put_there f n m (option_map (lift up) (f n)) ne)
