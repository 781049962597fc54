-- Legs of a lost connection, one after the other.
use Rattle.std.proofs.Common.{◌≡◌, ◌∙◌, ◌++◌, ◌∷◌, ◌&&◌, [], List, Bool, true, false, cond, drop, ap, append_assoc, arith, length, refl, sym}
use Rattle.std.proofs.lemmas.List.{append-nil}
use Rattle.mcv_lines.specs.declared.sent.Sent.{Sent}

pub one_goes : {X : Type 0} (b : Bool) (x : X) (more before : List X) → (before ++ cond b (x ∷ []) []) ++ more ≡ before ++ cond b (x ∷ more) more
one_goes true x more before = append_assoc before (x ∷ []) more
one_goes false x more before = ap (λ xs. xs ++ more) (append-nil before)

pub one_is_lost : {X : Type 0} (b oldest : Bool) (x : X) (more : Bool → List X) (before : List X) → (before ++ cond b [] (x ∷ [])) ++ more (oldest && b) ≡ before ++ cond b (more oldest) (x ∷ more false)
one_is_lost true true x more before = ap (λ xs. xs ++ more true) (append-nil before)
one_is_lost true false x more before = ap (λ xs. xs ++ more false) (append-nil before)
one_is_lost false true x more before = append_assoc before (x ∷ []) (more false)
one_is_lost false false x more before = append_assoc before (x ∷ []) (more false)

-- ---- one leg

pub goes : {X : Type 0} (b : Bool) (x : X) → b ≡ true → cond b (x ∷ []) [] ≡ x ∷ []
goes b x e = ap (λ b. cond b (x ∷ []) []) e

pub stays : {X : Type 0} (b : Bool) (x : X) → b ≡ false → cond b (x ∷ []) [] ≡ []
stays b x e = ap (λ b. cond b (x ∷ []) []) e

pub not_lost : {X : Type 0} (b : Bool) (x : X) → b ≡ true → cond b [] (x ∷ []) ≡ []
not_lost b x e = ap (λ b. cond b [] (x ∷ [])) e

pub is_lost : {X : Type 0} (b : Bool) (x : X) → b ≡ false → cond b [] (x ∷ []) ≡ x ∷ []
is_lost b x e = ap (λ b. cond b [] (x ∷ [])) e

pub still_oldest : (oldest b : Bool) → b ≡ true → oldest ≡ (oldest && b)
still_oldest true b e = sym e
still_oldest false b e = refl

pub oldest_no_more : (oldest b : Bool) → b ≡ false → false ≡ (oldest && b)
oldest_no_more true b e = sym e
oldest_no_more false b e = refl

pub adds_none : {X : Type 0} (before more : List X) → more ≡ [] → before ≡ before ++ more
adds_none before more e = sym (append-nil before) ∙ ap (λ xs. before ++ xs) (sym e)

-- the list is as it is without its first
pub no_legs : (sent : List Sent) → sent ≡ drop 1 sent → sent ≡ []
no_legs [] e = refl
no_legs (s ∷ sent) e = let longer = ap length e in absurd (omega (arith, longer))
