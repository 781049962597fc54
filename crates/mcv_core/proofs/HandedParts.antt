-- A part is handed out.
use Rattle.std.proofs.Common.{◌≡◌, ℕ, zero, suc, ◌<◌, List, [], ◌∷◌, length, map, set, Option, Some, None, option_map, refl, sym, ap, ◌∙◌, arith, true, false, true≢false}
use Rattle.std.specs.Prelude.{IfNone, IfSome, is_some, slice_get}
use Rattle.mcv_base.specs.declared.reply.Part.{Part}
use Rattle.mcv_base.specs.Reply.{ReplyValue, part_value}
use Rattle.mcv_world.proofs.Numbers.{same_some}
use Rattle.mcv_core.specs.declared.call.Recorded.{Recorded}
use Rattle.mcv_core.specs.Rows.{taken_at}
use Rattle.mcv_core.specs.Taking.{kept_of}

pub kept_set : (xs : List Recorded) (j : ℕ) (x y : Recorded) → slice_get xs j ≡ Some x → kept_of y ≡ kept_of x → map kept_of (set xs j y) ≡ map kept_of xs
kept_set [] j x y at e = refl
kept_set (z ∷ xs) zero x y at e = ap (λ v. v ∷ map kept_of xs) (e ∙ ap kept_of (sym (same_some at)))
kept_set (z ∷ xs) (suc j) x y at e = ap (λ v. kept_of z ∷ v) (kept_set xs j x y at e)

pub set_again : (xs : List Recorded) (j : ℕ) (x : Recorded) → slice_get xs j ≡ Some x → set xs j x ≡ xs
set_again [] j x at = refl
set_again (z ∷ xs) zero x at = ap (λ v. v ∷ xs) (sym (same_some at))
set_again (z ∷ xs) (suc j) x at = ap (λ v. z ∷ v) (set_again xs j x at)

pub none_past : (xs : List Recorded) (j : ℕ) → (j < length xs → ⊥) → taken_at xs j ≡ None
none_past [] j high = refl
none_past (z ∷ xs) zero high = absurd (high (omega arith))
none_past (z ∷ xs) (suc j) high = none_past xs j (λ low. high (omega (arith, low)))

pub some_mapped : (o : Option Part) → is_some (option_map part_value o) ≡ is_some o
some_mapped None = refl
some_mapped (Some p) = refl

pub there_low : (xs : List Recorded) (j : ℕ) → is_some (taken_at xs j) ≡ true → j < length xs
there_low [] j h = absurd (true≢false (sym h))
there_low (z ∷ xs) zero h = omega arith
there_low (z ∷ xs) (suc j) h = let low = there_low xs j h in omega (arith, low)

pub not_there : (o : Option ReplyValue) → is_some o ≡ false → o ≡ None
not_there None e = refl
not_there (Some x) e = absurd (true≢false e)

pub if_some_by : {P : Part → Type 0} (o : Option Part) → ((p : Part) → o ≡ Some p → P p) → IfSome o P
if_some_by None f = tt
if_some_by (Some p) f = f p refl

pub if_none_by : {Q : Type 0} (o : Option Part) → (o ≡ None → Q) → IfNone o Q
if_none_by None f = f refl
if_none_by (Some p) f = tt
