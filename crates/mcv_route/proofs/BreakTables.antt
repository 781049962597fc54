-- A list of breaks has one table, and a number of an era one break.
use Rattle.std.proofs.Common.{◌≡◌, ◌⊎◌, ℕ, zero, suc, ◌+◌, ◌<◌, inl, inr, List, [], ◌∷◌, get_or, Option, Some, None, refl, sym, ap, ◌∙◌, subst, arith}
use Rattle.std.specs.Prelude.{slice_get}
use Rattle.std.specs.List.{All, AllPairs, Contains}
use Rattle.std.proofs.lemmas.Bool.{cases_eq, cases_lt}
use Rattle.std.proofs.lemmas.List.Elements.{All-cons, All-contains, All-nil, Contains-get_or}
use Rattle.std.proofs.lemmas.List.Kept.{AllPairs-cons, AllPairs-from_increasing}
use Rattle.std.proofs.lemmas.Option.{get_or_from_slice_get, slice_get-get_or, slice_get_within}
use Rattle.mcv_route.specs.Eras.{IsBreakTable, IsEra, IsEraOf, breaks_of}
use Rattle.mcv_route.specs.Routes.{RoutesValue}
use Rattle.mcv_route.proofs.RisingLists.{above_first, at_first, behind_first, first_or_behind, none_there, rises_behind, rising_same}

abbrev pub Up : ℕ → ℕ → Type 0
Up x y = x < y

-- the list with the number put in its place, where it isn't there yet
record IsWith (b : ℕ) (xs ys : List ℕ) : Type 0 where
  rises : AllPairs Up ys
  has : Contains ys b
  keeps : (y : ℕ) → Contains xs y → Contains ys y
  only : (y : ℕ) → Contains ys y → (b ≡ y) ⊎ Contains xs y

none_rise : AllPairs Up []
none_rise i j d low high = absurd (omega (arith, high))

pub before_all : (b x : ℕ) (xs : List ℕ) → b < x → AllPairs Up (x ∷ xs) → All (Up b) (x ∷ xs)
before_all b x xs less up =
    All-cons (Up b) x xs less (λ k d h. let far : x < get_or xs k d = above_first Up x xs (get_or xs k d) up (Contains-get_or xs k d h) in omega (arith, less, far))

placed : (b : ℕ) (xs : List ℕ) → AllPairs Up xs → (ys : List ℕ) × IsWith b xs ys
placed b [] up = (
  b ∷ [],
  record {
    rises = AllPairs-cons Up b [] (All-nil (Up b)) none_rise;
    has = at_first b [] b refl;
    keeps = λ y at. absurd (none_there y at);
    only = λ y at. first_or_behind b [] y at;
  },
)
placed b (x ∷ xs) up =
    elim (cases_lt b x) [
      | inl less ↦ (
        b ∷ x ∷ xs,
        record {
          rises = AllPairs-cons Up b (x ∷ xs) (before_all b x xs less up) up;
          has = at_first b (x ∷ xs) b refl;
          keeps = λ y at. behind_first b (x ∷ xs) y at;
          only = λ y at. first_or_behind b (x ∷ xs) y at;
        },
      )
      | inr more ↦
          elim (cases_eq b x) [
            | inl same ↦ (
              x ∷ xs,
              record {
                rises = up;
                has = at_first x xs b (sym same);
                keeps = λ y at. at;
                only = λ y at. inr at;
              },
            )
            | inr other ↦ behind (placed b xs (rises_behind Up x xs up)) (omega (arith, more, other))
          ]
    ]
  where
    behind : ((ys : List ℕ) × IsWith b xs ys) → x < b → (ys : List ℕ) × IsWith b (x ∷ xs) ys
    behind rest less =
        let over : (y : ℕ) → (b ≡ y) ⊎ Contains xs y → x < y =
        λ y h. elim h [
          | inl e ↦ omega (arith, less, e)
          | inr at ↦ above_first Up x xs y up at
        ] in (
          x ∷ rest.0,
          record {
            rises = AllPairs-cons Up x rest.0 (λ k d h. over (get_or rest.0 k d) (rest.1.only (get_or rest.0 k d) (Contains-get_or rest.0 k d h))) rest.1.rises;
            has = behind_first x rest.0 b rest.1.has;
            keeps = λ y at. elim (first_or_behind x xs y at) [
              | inl e ↦ at_first x rest.0 y e
              | inr h ↦ behind_first x rest.0 y (rest.1.keeps y h)
            ];
            only = λ y at. elim (first_or_behind x rest.0 y at) [
              | inl e ↦ inr (at_first x xs y e)
              | inr h ↦ elim (rest.1.only y h) [ inl e ↦ inl e | inr g ↦ inr (behind_first x xs y g) ]
            ];
          },
        )

pub table_exists : (bs : List ℕ) → (table : List ℕ) × IsBreakTable bs table
table_exists [] = ([], record { rising = λ k h. absurd (omega (arith, h)); all = All-nil (Contains {X = ℕ} []); only = All-nil (Contains {X = ℕ} []) })
table_exists (b ∷ bs) =
    let old = table_exists bs in
    let new = placed b old.0 (AllPairs-from_increasing old.0 old.1.rising) in (
      new.0,
      record {
        rising = λ k h. new.1.rises k (k + 1) 0 (omega arith) h;
        all = All-cons (Contains new.0) b bs new.1.has (λ k d h. new.1.keeps (get_or bs k d) (old.1.all k d h));
        only = λ k d h.
            let y = get_or new.0 k d in
            elim (new.1.only y (Contains-get_or new.0 k d h)) [
              | inl e ↦ at_first b bs y e
              | inr at ↦ behind_first b bs y (All-contains (Contains bs) old.0 y old.1.only at)
            ];
      },
    )

pub one_table : (bs table other : List ℕ) → IsBreakTable bs table → IsBreakTable bs other → table ≡ other
one_table bs table other t o =
    rising_same Up (λ x y h g. omega (arith, h, g)) table other (AllPairs-from_increasing table t.rising) (AllPairs-from_increasing other o.rising)
    (λ z at. All-contains (Contains other) bs z o.all (All-contains (Contains bs) table z t.only at))
    (λ z at. All-contains (Contains table) bs z t.all (All-contains (Contains bs) other z o.only at))

-- ---- eras by their numbers

-- each era has a number
pub era_numbered : (r : RoutesValue) (since : Option ℕ) → IsEra r since → (era : ℕ) × IsEraOf r era since
era_numbered r None h = (0, refl)
era_numbered r (Some b) h =
    let t = table_exists (breaks_of r) in
    let at = All-contains (Contains t.0) (breaks_of r) b t.1.all h in
    (suc at.0, (t.0, t.1, slice_get-get_or t.0 at.0 b at.1 ∙ ap Some at.2, λ e. cc))

-- a number is of one era
pub one_era : (r : RoutesValue) (era : ℕ) (s t : Option ℕ) → IsEraOf r era s → IsEraOf r era t → s ≡ t
one_era r zero s t h g = h ∙ sym g
one_era r (suc k) s t h g = sym h.2 ∙ ap (λ x. slice_get x k) (one_table (breaks_of r) h.0 g.0 h.1 g.1) ∙ g.2

-- and it is an era of the routes
pub era_there : (r : RoutesValue) (era : ℕ) (since : Option ℕ) → IsEraOf r era since → IsEra r since
era_there r zero since h = subst (IsEra r) (sym h) tt
era_there r (suc k) None h = tt
era_there r (suc k) (Some b) h =
    All-contains (Contains (breaks_of r)) h.0 b h.1.only (k, slice_get_within h.0 k b h.2, get_or_from_slice_get h.0 k b b h.2)
