-- How a fault passes on.
use Rattle.std.proofs.Common.{◌≡◌, ℕ, ◌<◌, length, List, [], ◌∷◌, ◌++◌, refl, inl, inr, arith}
use Rattle.mcv_names.specs.declared.fault.FaultKind.{FaultKind}
use Rattle.mcv_names.specs.declared.fault.ReadFault.{ReadFault}
use Rattle.mcv_names.specs.declared.fault.ReadFault.TheVariants.{Config, Memory}
use Rattle.mcv_names.specs.Fault.{Fault, Read, good, bad, refused, ◌>>=◌, also, IsOneOf, Fails, IsFault, path_text}

pub fails_refused : (A : Type 0) (kind : FaultKind) (path : List ℕ) (e : ReadFault) → IsFault kind path e → Fails {A = A} e (refused kind path)
fails_refused A kind path Memory h = tt
fails_refused A kind path (Config f) h = inl (cc (h.0, h.1))

pub fails_bind : {A B : Type 0} (e : ReadFault) (r : Read A) (next : A → Read B) → Fails e r → Fails e (r >>= next)
fails_bind Memory r next h = tt
fails_bind (Config f) (good x) next h = absurd h
fails_bind (Config f) (bad faults) next h = h

is_one_of_left : (fs gs : List Fault) (f : Fault) → IsOneOf fs f → IsOneOf (fs ++ gs) f
is_one_of_left [] gs f h = absurd h
is_one_of_left (g ∷ fs) gs f (inl e) = inl e
is_one_of_left (g ∷ fs) gs f (inr h) = inr (is_one_of_left fs gs f h)

is_one_of_right : (fs gs : List Fault) (f : Fault) → IsOneOf gs f → IsOneOf (fs ++ gs) f
is_one_of_right [] gs f h = h
is_one_of_right (g ∷ fs) gs f h = inr (is_one_of_right fs gs f h)

pub fails_also_first : {A B : Type 0} (e : ReadFault) (r : Read A) (s : Read B) → Fails e r → Fails e (also r s)
fails_also_first Memory r s h = tt
fails_also_first (Config f) (good x) s h = absurd h
fails_also_first (Config f) (bad fs) (good y) h = h
fails_also_first (Config f) (bad fs) (bad gs) h = is_one_of_left fs gs _ h

pub fails_also_second : {A B : Type 0} (e : ReadFault) (r : Read A) (s : Read B) → Fails e s → Fails e (also r s)
fails_also_second Memory r s h = tt
fails_also_second (Config f) (good x) s h = h
fails_also_second (Config f) (bad fs) (good y) h = absurd h
fails_also_second (Config f) (bad fs) (bad gs) h = is_one_of_right fs gs _ h

pub ruleset faults = (fails_refused, fails_bind, fails_also_first, fails_also_second)

pub path_text-none : (path : List ℕ) → length path ≡ 0 → path_text path ≡ 46 ∷ []
path_text-none [] h = refl
path_text-none (b ∷ bs) h = absurd (omega arith)

pub path_text-some : (path : List ℕ) → 0 < length path → path_text path ≡ path
path_text-some [] h = absurd (omega arith)
path_text-some (b ∷ bs) h = refl

pub ruleset dots = (path_text-none, path_text-some)
