-- What a search finds once a leg comes last.
use Rattle.std.proofs.Common.{◌≡◌, ◌+◌, ◌<◌, ℕ, Bool, true, false, cond, List, [], ◌∷◌, ◌++◌, length, get_or, take, Option, Some, None, inl, inr, refl, sym, ap, ◌∙◌, true≢false}
use Rattle.std.specs.Prelude.{find, is_some}
use Rattle.std.specs.Option.{option_map, option_or}
use Rattle.std.proofs.lemmas.Bool.{cases_Bool}
use Rattle.std.proofs.lemmas.List.{map_more}
use Rattle.std.proofs.lemmas.List.Folds.{find-append}
use Rattle.mcv_judge.specs.declared.block.Leg.{Leg}
use Rattle.mcv_judge.specs.PairsInMemory.{leg_of, legs_of}
use Rattle.mcv_judge.specs.Reason.{LegValue, is_twin}
use Rattle.mcv_picks.specs.Tables.{TwinKey, FindTheSame, IsSameOnTwins, is_of}
use Rattle.mcv_picks.proofs.TwinsAreEqual.{is_of-twins, of_both}

pub one_more : (legs : List Leg) (i : ℕ) (leg : Leg) → i < length legs → leg ≡ get_or legs i leg → legs_of (take (i + 1) legs) ≡ legs_of (take i legs) ++ leg_of leg ∷ []
one_more legs i leg l is = map_more leg_of legs i leg l ∙ ap (λ d. legs_of (take i legs) ++ leg_of d ∷ []) (sym is)

pub or_nothing : {X : Type 0} (o : Option X) → option_or o None ≡ o
or_nothing None = refl
or_nothing (Some x) = refl

pub or_there : {X : Type 0} (o p : Option X) → is_some o ≡ true → option_or o p ≡ o
or_there None p h = absurd cc
or_there (Some x) p h = refl

pub none_there : {X : Type 0} (o : Option X) → is_some o ≡ false → o ≡ None
none_there None h = refl
none_there (Some x) h = absurd cc

also_found : {X : Type 0} (p q : X → Bool) → ((x : X) → p x ≡ true → q x ≡ true) → (xs : List X) → is_some (find p xs) ≡ true → is_some (find q xs) ≡ true
also_found p q also [] h = absurd cc
also_found p q also (x ∷ xs) h = elim (cases_Bool (q x)) [
  | inl is ↦ rw is refl
  | inr isnt ↦ elim (cases_Bool (p x)) [
    | inl was ↦ absurd (true≢false (sym (also x was) ∙ isnt))
    | inr wasnt ↦ rw isnt (also_found p q also xs (rw wasnt at h))
  ]
]

-- what comes last is found where nothing is found before it
pub last : {X : Type 0} (p : X → Bool) (xs : List X) (x : X) → find p (xs ++ x ∷ []) ≡ option_or (find p xs) (cond (p x) (Some x) None)
last p xs x = find-append p xs (x ∷ [])

-- a leg that has a twin before it is found by no test that doesn't distinguish twins
pub twin_again : (test : LegValue → Bool) → IsSameOnTwins test → (xs : List LegValue) (d : LegValue) → is_some (find (is_twin d) xs) ≡ true → find test (xs ++ d ∷ []) ≡ find test xs
twin_again test alike xs d found = last test xs d ∙ elim (cases_Bool (test d)) [
  | inl is ↦ or_there (find test xs) (cond (test d) (Some d) None) (also_found (is_twin d) test (λ e twin. sym (alike d e twin) ∙ is) xs found)
  | inr isnt ↦ rw isnt (or_nothing (find test xs))
]

pub same_still : (firsts xs : List LegValue) (d : LegValue) → is_some (find (is_twin d) xs) ≡ true → FindTheSame firsts xs → FindTheSame firsts (xs ++ d ∷ [])
same_still firsts xs d found find_same test alike = find_same test alike ∙ sym (twin_again test alike xs d found)

pub same_more : (firsts xs : List LegValue) (d : LegValue) → FindTheSame firsts xs → FindTheSame (firsts ++ d ∷ []) (xs ++ d ∷ [])
same_more firsts xs d find_same test alike = last test firsts d ∙ ap (λ o. option_or o (cond (test d) (Some d) None)) (find_same test alike) ∙ sym (last test xs d)

-- a class that had no leg has this one
pub twin_begins : (k : TwinKey) (xs : List LegValue) (d : LegValue) → is_some (find (is_twin d) xs) ≡ false → find (is_of k) (xs ++ d ∷ []) ≡ cond (is_of k d) (Some d) (find (is_of k) xs)
twin_begins k xs d none = last (is_of k) xs d ∙ elim (cases_Bool (is_of k d)) [
  | inl is ↦
      let absent : is_some (find (is_of k) xs) ≡ false = elim (cases_Bool (is_some (find (is_of k) xs))) [
        | inl some ↦ absurd (true≢false (sym (also_found (is_of k) (is_twin d) (λ e g. of_both k d e is g) xs some) ∙ none))
        | inr isnt ↦ isnt
      ] in
      rw (is, none_there (find (is_of k) xs) absent) refl
  | inr isnt ↦ rw isnt (or_nothing (find (is_of k) xs))
]

-- ---- the table of classes and its first legs, one leg further

pub mapped_some : {X Y : Type 0} (f : X → Y) (o : Option X) → is_some (option_map f o) ≡ is_some o
mapped_some f None = refl
mapped_some f (Some x) = refl

pub mapped_cond : {X Y : Type 0} (f : X → Y) (b : Bool) (x : X) (o : Option X) → option_map f (cond b (Some x) o) ≡ cond b (Some (f x)) (option_map f o)
mapped_cond f true x o = refl
mapped_cond f false x o = refl

module _ (legs : List Leg) (i : ℕ) (leg : Leg) (l : i < length legs) (is : leg ≡ get_or legs i leg) where
  further : (test : LegValue → Bool) → find test (legs_of (take i legs) ++ leg_of leg ∷ []) ≡ find test (legs_of (take (i + 1) legs))
  further test = ap (find test) (sym (one_more legs i leg l is))

  pub table_still : (k : TwinKey) → is_some (find (is_twin (leg_of leg)) (legs_of (take i legs))) ≡ true → find (is_of k) (legs_of (take i legs)) ≡ find (is_of k) (legs_of (take (i + 1) legs))
  table_still k found = sym (twin_again (is_of k) (is_of-twins k) (legs_of (take i legs)) (leg_of leg) found) ∙ further (is_of k)

  pub firsts_still : (firsts : List LegValue) → is_some (find (is_twin (leg_of leg)) (legs_of (take i legs))) ≡ true → FindTheSame firsts (legs_of (take i legs)) → FindTheSame firsts (legs_of (take (i + 1) legs))
  firsts_still firsts found find_same test alike = same_still firsts (legs_of (take i legs)) (leg_of leg) found find_same test alike ∙ further test

  pub table_more : (k : TwinKey) (b : Bool) (old : Option LegValue) → b ≡ is_of k (leg_of leg) → is_some (find (is_twin (leg_of leg)) (legs_of (take i legs))) ≡ false → old ≡ find (is_of k) (legs_of (take i legs)) → cond b (Some (leg_of leg)) old ≡ find (is_of k) (legs_of (take (i + 1) legs))
  table_more k b old same none before =
      ap (λ c. cond c (Some (leg_of leg)) old) same
      ∙ ap (cond (is_of k (leg_of leg)) (Some (leg_of leg))) before
      ∙ sym (twin_begins k (legs_of (take i legs)) (leg_of leg) none)
      ∙ further (is_of k)

  pub firsts_more : (firsts : List LegValue) → FindTheSame firsts (legs_of (take i legs)) → FindTheSame (firsts ++ leg_of leg ∷ []) (legs_of (take (i + 1) legs))
  firsts_more firsts find_same test alike = same_more firsts (legs_of (take i legs)) (leg_of leg) find_same test alike ∙ further test
