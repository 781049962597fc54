-- What holds of the fronts of two lists, one member longer.
use Rattle.std.proofs.Common.{◌≡◌, ◌<◌, ◌≤◌, ◌+◌, ℕ, List, [], ◌∷◌, ◌++◌, get_or, length, map, take, sym, ap, ap₂, ◌∙◌, subst}
use Rattle.std.proofs.lemmas.List.{map-append, map_more, take_all, take_more}
use Rattle.mcv_base.specs.declared.request.ServerId.{ServerId}
use Rattle.mcv_judge.specs.PairsInMemory.{numbers}
use Rattle.mcv_judge.specs.Reason.{LegValue}
use Rattle.mcv_route.specs.Routes.{RoutesValue}
use Rattle.mcv_rules.specs.NormalForm.{Part, part_of}
use Rattle.mcv_rules.specs.declared.plan.Plan.{Plan}
use Rattle.mcv_alike.specs.Numbers.{leg_value}
use Rattle.mcv_alike.specs.Plans.{AreAddedParts, AreOnePart, AreOneParts, IsAddedPart}
use Rattle.mcv_alike.specs.declared.needed.NeededLeg.{NeededLeg}
use Rattle.mcv_alike.proofs.PartsAlike.{added-grow, parts-grow}

-- the front with one member more, seen by a function
pub front : {A B : Type 0} (f : A → B) (xs : List A) (i : ℕ) (x : A) → i < length xs → x ≡ get_or xs i x → map f (take (i + 1) xs) ≡ map f (take i xs) ++ f x ∷ []
front f xs i x lt is = ap (map f) (take_more xs i x lt ∙ ap (λ y. take i xs ++ y ∷ []) (sym is)) ∙ map-append f (take i xs) (x ∷ [])

module _ (f g : ℕ → List ℕ) (xs ys : List ServerId) (i : ℕ) where
  pub servers_more : (d e : ServerId) → i < length xs → i < length ys → map f (numbers (take i xs)) ≡ map g (numbers (take i ys)) → f (get_or xs i d).0 ≡ g (get_or ys i e).0
      → map f (numbers (take (i + 1) xs)) ≡ map g (numbers (take (i + 1) ys))
  servers_more d e lt less same one =
      ap (map f) (map_more (λ (s : ServerId). s.0) xs i d lt) ∙ map-append f (numbers (take i xs)) ((get_or xs i d).0 ∷ [])
      ∙ ap₂ (λ us v. us ++ v ∷ []) same one
      ∙ sym (map-append g (numbers (take i ys)) ((get_or ys i e).0 ∷ [])) ∙ ap (map g) (sym (map_more (λ (s : ServerId). s.0) ys i e less))

  pub servers_all : length xs ≤ i → length ys ≤ i → map f (numbers (take i xs)) ≡ map g (numbers (take i ys)) → map f (numbers xs) ≡ map g (numbers ys)
  servers_all past also same =
      ap (λ (us : List ServerId). map f (numbers us)) (sym (take_all i xs past)) ∙ same ∙ ap (λ (us : List ServerId). map g (numbers us)) (take_all i ys also)

module _ (r n : RoutesValue) where
  pub parts_grow : (xs ys : List Plan) (i : ℕ) (x y : Plan) → i < length xs → i < length ys → x ≡ get_or xs i x → y ≡ get_or ys i y
      → AreOneParts r n (map part_of (take i xs)) (map part_of (take i ys)) → AreOnePart r n (part_of x) (part_of y) → AreOneParts r n (map part_of (take (i + 1) xs)) (map part_of (take (i + 1) ys))
  parts_grow xs ys i x y lt less is at are one =
      let more = parts-grow r n (map part_of (take i xs)) (map part_of (take i ys)) (part_of x) (part_of y) are one in
      subst (λ ps. AreOneParts r n ps (map part_of (take (i + 1) ys))) (sym (front part_of xs i x lt is))
      (subst (AreOneParts r n (map part_of (take i xs) ++ part_of x ∷ [])) (sym (front part_of ys i y less at)) more)

  pub legs_grow : (ks : List NeededLeg) (ys : List Plan) (i : ℕ) (k : NeededLeg) (y : Plan) → i < length ks → i < length ys → k ≡ get_or ks i k → y ≡ get_or ys i y
      → AreAddedParts r n (map leg_value (take i ks)) (map part_of (take i ys)) → IsAddedPart r n (leg_value k) (part_of y) → AreAddedParts r n (map leg_value (take (i + 1) ks)) (map part_of (take (i + 1) ys))
  legs_grow ks ys i k y lt less is at are one =
      let more = added-grow r n (map leg_value (take i ks)) (map part_of (take i ys)) (leg_value k) (part_of y) are one in
      subst (λ ps. AreAddedParts r n ps (map part_of (take (i + 1) ys))) (sym (front leg_value ks i k lt is))
      (subst (AreAddedParts r n (map leg_value (take i ks) ++ leg_value k ∷ [])) (sym (front part_of ys i y less at)) more)
