use Rattle.std.proofs.Common.{◌≡◌, ◌&&◌, ℕ, Bool, true, false, nat_eq, eq-eqb, List, [], ◌∷◌, refl, sym, ap₂, ◌∙◌}
use Rattle.std.specs.List.{starts_with}
use Rattle.std.proofs.lemmas.Bool.{eqb-true}
use Rattle.mcv_base.specs.Key.{begins_with}
use Rattle.mcv_base.proofs.key.begins_with.Goals as goal

same_both_ways : (i j : ℕ) → nat_eq i j ≡ nat_eq j i
same_both_ways i j = by_tests (nat_eq i j) (nat_eq j i) refl refl
  where
    by_tests : (b c : Bool) → nat_eq i j ≡ b → nat_eq j i ≡ c → b ≡ c
    by_tests true true e f = refl
    by_tests true false e f = sym (eq-eqb j i (sym (eqb-true i j e))) ∙ f
    by_tests false true e f = sym e ∙ eq-eqb i j (sym (eqb-true j i f))
    by_tests false false e f = refl

starts_begins : (bytes word : List ℕ) → starts_with nat_eq bytes word ≡ begins_with bytes word
starts_begins [] [] = refl
starts_begins (b ∷ bytes) [] = refl
starts_begins [] (w ∷ word) = refl
starts_begins (b ∷ bytes) (w ∷ word) = ap₂ (λ c d. c && d) (same_both_ways w b) (starts_begins bytes word)

pub returns : goal.returns
returns c = c.starts_with.ensures.value ∙ starts_begins c.args.bytes.now c.args.start.now
