-- Rests that begin with the same words choose the same policy.
use Rattle.std.proofs.Common.{◌≡◌, ℕ, suc, cond, nat_le, Bool, true, false, List, [], ◌∷◌, length, Option, Some, None, option_map, unwrap_or, refl, sym, ap, ◌∙◌, arith}
use Rattle.std.specs.List.{Contains}
use Rattle.mcv_base.specs.Key.{begins_with}
use Rattle.mcv_route.specs.Children.{longest_from, prefix_policy}
use Rattle.mcv_classes.specs.Class.{IsClassWord}
use Rattle.mcv_classes.proofs.Order.{shorter-begins, begins-through}

-- both begin with the same ones of the words
abbrev pub BeginAlike : List (List ℕ) → List ℕ → List ℕ → Type 0
BeginAlike words rest other = (v : List ℕ) → Contains words v → begins_with rest v ≡ begins_with other v

same_tests : (b c : Bool) → (b ≡ true → c ≡ true) → (c ≡ true → b ≡ true) → b ≡ c
same_tests true c f g = sym (f refl)
same_tests false true f g = g refl
same_tests false false f g = refl

-- rests of one class begin with the same words
pub class-begins : (words : List (List ℕ)) (rest other word : List ℕ) → IsClassWord words rest word → IsClassWord words other word → BeginAlike words rest other
class-begins words rest other word a b v h =
    same_tests (begins_with rest v) (begins_with other v)
    (λ e. begins-through other word v (shorter-begins rest v word e a.begins (a.longest v h e)) b.begins)
    (λ e. begins-through rest word v (shorter-begins other v word e b.begins (b.longest v h e)) a.begins)

pub alike-head : (words : List (List ℕ)) (p rest other : List ℕ) → BeginAlike (p ∷ words) rest other → begins_with rest p ≡ begins_with other p
alike-head words p rest other h = h p (0, omega arith, refl)

pub alike-tail : (words : List (List ℕ)) (p rest other : List ℕ) → BeginAlike (p ∷ words) rest other → BeginAlike words rest other
alike-tail words p rest other h v at = h v (suc at.0, omega (arith, at.1), at.2)

-- the longest so far, and one in front that the rest begins with
longer_after : ℕ × ℕ → Option (ℕ × ℕ) → Option (ℕ × ℕ)
longer_after a None = Some a
longer_after a (Some b) = cond (nat_le a.1 b.1) (Some b) (Some a)

longest-step : (k : ℕ) (rest p : List ℕ) (prefixes : List (List ℕ)) (b : Bool) (r : Option (ℕ × ℕ)) → begins_with rest p ≡ b → longest_from (suc k) rest prefixes ≡ r
    → longest_from k rest (p ∷ prefixes) ≡ cond b (longer_after (k, length p) r) r
unfolding longer_after
longest-step k rest p prefixes false r e f = rw (e, f) refl
longest-step k rest p prefixes true None e f = rw (e, f) refl
longest-step k rest p prefixes true (Some a) e f = rw (e, f) refl

longest-alike : (k : ℕ) (rest other : List ℕ) (prefixes : List (List ℕ)) → BeginAlike prefixes rest other → longest_from k rest prefixes ≡ longest_from k other prefixes
longest-alike k rest other [] h = refl
longest-alike k rest other (p ∷ prefixes) h =
    longest-step k rest p prefixes (begins_with other p) (longest_from (suc k) other prefixes) (alike-head prefixes p rest other h) (longest-alike (suc k) rest other prefixes (alike-tail prefixes p rest other h))
    ∙ sym (longest-step k other p prefixes (begins_with other p) (longest_from (suc k) other prefixes) refl refl)

pub policy-alike : (rest other : List ℕ) (prefixes : List (List ℕ)) → BeginAlike prefixes rest other → prefix_policy rest prefixes ≡ prefix_policy other prefixes
policy-alike rest other prefixes h = ap (λ r. unwrap_or (option_map (λ b. b.0) r) (length prefixes)) (longest-alike 0 rest other prefixes h)
