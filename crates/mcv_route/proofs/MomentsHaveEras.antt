-- What opened the era of a moment's number is the last break before the moment.
use Rattle.std.proofs.Common.{◌≡◌, ℕ, zero, suc, ◌-◌, ◌<◌, ◌≤◌, inl, inr, List, [], ◌∷◌, length, get_or, take, drop, Some, refl, sym, ap, subst, ◌∙◌, arith}
use Rattle.std.specs.List.{All, AllPairs}
use Rattle.std.proofs.lemmas.Bool.{cases_lt}
use Rattle.std.proofs.lemmas.List.Elements.{All-cons, All-nil}
use Rattle.std.proofs.lemmas.List.Kept.{AllPairs-from_increasing}
use Rattle.std.proofs.lemmas.Option.{slice_get-get_or}
use Rattle.mcv_route.specs.Eras.{IsBreakTable, IsEraOf, MomentsHaveEras, breaks_of, era_at, since_at}
use Rattle.mcv_route.specs.Routes.{RoutesValue}
use Rattle.mcv_route.proofs.BreakTables.{Up, before_all, era_there, table_exists}
use Rattle.mcv_route.proofs.Breaks.{era-is, since-none, since-some}
use Rattle.mcv_route.proofs.RisingLists.{rises_behind}

-- the first n numbers of a table are at the moment or before it, and the others after it
record AreFirst (m : ℕ) (ns : List ℕ) (n : ℕ) : Type 0 where
  bound : n ≤ length ns
  first : All (λ b. b ≤ m) (take n ns)
  rest : All (λ b. m < b) (drop n ns)

cut_at : (m : ℕ) (ns : List ℕ) → AllPairs Up ns → (n : ℕ) × AreFirst m ns n
cut_at m [] up = (0, record { bound = omega arith; first = All-nil (λ b. b ≤ m); rest = All-nil (λ b. m < b) })
cut_at m (x ∷ xs) up =
    elim (cases_lt m x) [
      | inl less ↦ (0, record { bound = omega arith; first = All-nil (λ b. b ≤ m); rest = before_all m x xs less up })
      | inr low ↦
          let r = cut_at m xs (rises_behind Up x xs up) in
          (suc r.0, record { bound = omega (arith, r.1.bound); first = All-cons (λ b. b ≤ m) x (take r.0 xs) low r.1.first; rest = r.1.rest })
    ]

opened_at : (r : RoutesValue) (ns : List ℕ) (m n : ℕ) → IsBreakTable (breaks_of r) ns → AreFirst m ns n → IsEraOf r n (since_at (breaks_of r) m)
opened_at r ns m zero is h = sym (since-none (breaks_of r) ns m 0 is h.bound h.first h.rest refl)
opened_at r ns m (suc k) is h =
    let before : suc k - 1 ≡ k = omega arith in
    let last : Some (get_or ns k 0) ≡ since_at (breaks_of r) m = since-some (breaks_of r) ns m (suc k) is h.bound h.first h.rest (get_or ns k 0) (omega arith) (ap (λ i. get_or ns i 0) (sym before)) in
    (ns, is, slice_get-get_or ns k 0 (omega (arith, h.bound)) ∙ last, λ none. let e = last ∙ none in cc)

pub moments_have_eras : MomentsHaveEras
moments_have_eras r m =
    let bs = breaks_of r in
    let t = table_exists bs in
    let p = cut_at m t.0 (AllPairs-from_increasing t.0 t.1.rising) in
    let opened : IsEraOf r (era_at bs m) (since_at bs m) = subst (λ n. IsEraOf r n (since_at bs m)) (era-is bs t.0 m p.0 t.1 p.1.bound p.1.first p.1.rest) (opened_at r t.0 m p.0 t.1 p.1) in
    (opened, era_there r (era_at bs m) (since_at bs m) opened)
