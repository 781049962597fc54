-- What a search finds, and what is in a list that is made of others.
use Rattle.std.proofs.Common.{◌≡◌, Bool, true, List, [], ◌∷◌, map, Some, inl, inr, refl, sym, ap, ◌∙◌, subst, true≢false}
use Rattle.std.specs.Prelude.{find, flat_map}
use Rattle.std.specs.List.{Contains, list_any}
use Rattle.std.proofs.lemmas.Bool.{cases_Bool, false≢true}
use Rattle.std.proofs.lemmas.List.Elements.{Contains-append_cases, Contains-append_left, Contains-append_right}
use Rattle.mcv_route.proofs.RisingLists.{at_first, behind_first, first_or_behind, none_there}

-- ---- searches

module _ {X : Type 0} (p : X → Bool) where
  -- what was found is there, and passes
  pub found : (xs : List X) (d : X) → find p xs ≡ Some d → Contains xs d × (p d ≡ true)
  found [] d h = absurd cc
  found (x ∷ xs) d h =
      elim (cases_Bool (p x)) [
        | inl is ↦
            let some : Some x ≡ Some d = rw is at h in
            let one : x ≡ d = cc in
            (at_first x xs d one, subst (λ y. p y ≡ true) one is)
        | inr isnt ↦
            let rest = found xs d (rw isnt at h) in
            (behind_first x xs d rest.0, rest.1)
      ]

  -- where one passes, one is found
  finds : (xs : List X) (d : X) → Contains xs d → p d ≡ true → (e : X) × (find p xs ≡ Some e)
  finds [] d at pass = absurd (none_there d at)
  finds (x ∷ xs) d at pass =
      elim (cases_Bool (p x)) [
        | inl is ↦ (x, rw is refl)
        | inr isnt ↦
            elim (first_or_behind x xs d at) [
              | inl e ↦ absurd (true≢false (sym pass ∙ ap p (sym e) ∙ isnt))
              | inr h ↦ let rest = finds xs d h pass in (rest.0, rw isnt rest.1)
            ]
      ]

  -- where one alone passes, this is it
  pub finds_one : (xs : List X) (d : X) → Contains xs d → p d ≡ true → ((e : X) → Contains xs e → p e ≡ true → e ≡ d) → find p xs ≡ Some d
  finds_one xs d at pass one =
      let e = finds xs d at pass in
      let is = found xs e.0 e.1 in
      e.1 ∙ ap Some (one e.0 is.0 is.1)

  pub some_passes : (xs : List X) → list_any p xs ≡ true → (x : X) × Contains xs x × (p x ≡ true)
  some_passes [] h = absurd (false≢true h)
  some_passes (x ∷ xs) h =
      elim (cases_Bool (p x)) [
        | inl is ↦ (x, at_first x xs x refl, is)
        | inr isnt ↦ let rest = some_passes xs (rw isnt at h) in (rest.0, behind_first x xs rest.0 rest.1, rest.2)
      ]

-- ---- lists made of others

module _ {X Y : Type 0} (f : X → Y) where
  pub into_map : (xs : List X) (x : X) → Contains xs x → Contains (map f xs) (f x)
  into_map [] x at = absurd (none_there x at)
  into_map (z ∷ xs) x at =
      elim (first_or_behind z xs x at) [
        | inl e ↦ at_first (f z) (map f xs) (f x) (ap f e)
        | inr h ↦ behind_first (f z) (map f xs) (f x) (into_map xs x h)
      ]

  pub from_map : (xs : List X) (y : Y) → Contains (map f xs) y → (x : X) × Contains xs x × (f x ≡ y)
  from_map [] y at = absurd (none_there y at)
  from_map (z ∷ xs) y at =
      elim (first_or_behind (f z) (map f xs) y at) [
        | inl e ↦ (z, at_first z xs z refl, e)
        | inr h ↦ let rest = from_map xs y h in (rest.0, behind_first z xs rest.0 rest.1, rest.2)
      ]

module _ {X Y : Type 0} (f : X → List Y) where
  pub into_flat_map : (xs : List X) (x : X) (y : Y) → Contains xs x → Contains (f x) y → Contains (flat_map f xs) y
  into_flat_map [] x y at own = absurd (none_there x at)
  into_flat_map (z ∷ xs) x y at own =
      elim (first_or_behind z xs x at) [
        | inl e ↦ Contains-append_left (f z) (flat_map f xs) y (subst (λ w. Contains (f w) y) (sym e) own)
        | inr h ↦ Contains-append_right (f z) (flat_map f xs) y (into_flat_map xs x y h own)
      ]

  pub from_flat_map : (xs : List X) (y : Y) → Contains (flat_map f xs) y → (x : X) × Contains xs x × Contains (f x) y
  from_flat_map [] y at = absurd (none_there y at)
  from_flat_map (z ∷ xs) y at =
      elim (Contains-append_cases (f z) (flat_map f xs) y at) [
        | inl h ↦ (z, at_first z xs z refl, h)
        | inr h ↦ let rest = from_flat_map xs y h in (rest.0, behind_first z xs rest.0 rest.1, rest.2)
      ]
