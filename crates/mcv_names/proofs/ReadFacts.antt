-- What holds of all that reading can give.
use Rattle.std.proofs.Common.{◌≡◌, Bool, true, false, cond, refl}
use Rattle.mcv_names.specs.Fault.{Read, good, bad, ◌>>=◌, also}

abbrev pub Holds : {A : Type 0} → (A → Type 0) → Read A → Type 0
Holds P (good x) = P x
Holds P (bad faults) = Unit {0}

pub holds_bind : {A B : Type 0} (P : A → Type 0) (Q : B → Type 0) (r : Read A) (next : A → Read B) → Holds P r → ((x : A) → P x → Holds Q (next x)) → Holds Q (r >>= next)
holds_bind P Q (good x) next h k = k x h
holds_bind P Q (bad faults) next h k = tt

pub holds_then : {A B : Type 0} (Q : B → Type 0) (r : Read A) (next : A → Read B) → ((x : A) → Holds Q (next x)) → Holds Q (r >>= next)
holds_then Q (good x) next k = k x
holds_then Q (bad faults) next k = tt

pub holds_also : {A B : Type 0} (Q : B → Type 0) (r : Read A) (s : Read B) → Holds Q s → Holds Q (also r s)
holds_also Q (good x) s h = h
holds_also Q (bad faults) (good y) h = tt
holds_also Q (bad faults) (bad more) h = tt

pub holds_if : {A : Type 0} (Q : A → Type 0) (b : Bool) (r s : Read A) → (b ≡ true → Holds Q r) → (b ≡ false → Holds Q s) → Holds Q (cond b r s)
holds_if Q true r s h k = h refl
holds_if Q false r s h k = k refl
