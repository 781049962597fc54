-- Small facts on outcomes.
use Rattle.std.proofs.Common.{◌≡◌, ◌≢◌, ◌⊎◌, inl, inr, Option, Some, None, refl, sym, ap}
use Rattle.mcv_base.specs.Reply.{worse}
use Rattle.mcv_base.specs.declared.reply.Outcome.{Outcome}
use Rattle.mcv_base.specs.declared.reply.Outcome.TheVariants.{Good, Soft, Error}
use Rattle.mcv_rules.specs.Plan.{both, on_error, on_miss, IsMissed}

pub good≢error : Good ≡ Error → ⊥
good≢error e = cc

pub some_same : {x y : Outcome} → Some x ≡ Some y → x ≡ y
some_same e = cc

pub none_some : {A : Type 0} {x : Outcome} → None ≡ Some x → A
none_some e = absurd cc

-- ---- both replies

pub both_some : (a b : Option Outcome) (x : Outcome) → both a b ≡ Some x → (y : Outcome) × (z : Outcome) × (a ≡ Some y) × (b ≡ Some z) × (worse y z ≡ x)
both_some None b x e = none_some e
both_some (Some y) None x e = none_some e
both_some (Some y) (Some z) x e = (y, z, refl, refl, some_same e)

pub worse_error : (y z : Outcome) → worse y z ≡ Error → (y ≡ Error) ⊎ (z ≡ Error)
worse_error Good z e = inr e
worse_error Soft Good e = inl e
worse_error Soft Soft e = inl e
worse_error Soft Error e = inr refl
worse_error Error z e = inl refl

pub error_worse : (y : Outcome) → worse y Error ≡ Error
error_worse Good = refl
error_worse Soft = refl
error_worse Error = refl

pub worse_good : (y z : Outcome) → worse y z ≡ Good → (y ≡ Good) × (z ≡ Good)
worse_good Good z e = (refl, e)
worse_good Soft Good e = absurd cc
worse_good Soft Soft e = absurd cc
worse_good Soft Error e = absurd cc
worse_good Error z e = absurd cc

-- ---- the second after an error

-- the first reply, or the second after an error
pub on_error_some : (a b : Option Outcome) (x : Outcome) → on_error a b ≡ Some x → ((a ≡ Some x) × (x ≢ Error)) ⊎ ((a ≡ Some Error) × (b ≡ Some x))
on_error_some None b x e = none_some e
on_error_some (Some Good) b x e = inl (e, λ w. absurd cc)
on_error_some (Some Soft) b x e = inl (e, λ w. absurd cc)
on_error_some (Some Error) b x e = inr (refl, e)

-- ---- the second after a miss

pub on_miss_some : (a b : Option Outcome) (x : Outcome) → on_miss a b ≡ Some x → ((a ≡ Some Good) × (x ≡ Good)) ⊎ (IsMissed a × (b ≡ Some x))
on_miss_some None b x e = none_some e
on_miss_some (Some Good) b x e = inl (refl, sym (some_same e))
on_miss_some (Some Soft) b x e = inr (inl refl, e)
on_miss_some (Some Error) b x e = inr (inr refl, e)

-- ---- and back

pub on_error_first : (a b : Option Outcome) (x : Outcome) → a ≡ Some x → x ≢ Error → on_error a b ≡ Some x
on_error_first None b x e w = none_some e
on_error_first (Some Good) b x e w = e
on_error_first (Some Soft) b x e w = e
on_error_first (Some Error) b x e w = absurd (w (sym (some_same e)))

pub on_error_second : (a b : Option Outcome) → a ≡ Some Error → on_error a b ≡ b
on_error_second a b e = ap (λ r. on_error r b) e

pub on_miss_second : (a b : Option Outcome) → IsMissed a → on_miss a b ≡ b
on_miss_second a b (inl e) = ap (λ r. on_miss r b) e
on_miss_second a b (inr e) = ap (λ r. on_miss r b) e

pub on_miss_first : (a b : Option Outcome) → a ≡ Some Good → on_miss a b ≡ Some Good
on_miss_first a b e = ap (λ r. on_miss r b) e
