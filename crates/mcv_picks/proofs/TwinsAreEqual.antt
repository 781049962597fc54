-- Twins have equal symbols and equal servers; keys that tie are of one class, or one slot.
use Rattle.std.proofs.Common.{◌≡◌, ◌&&◌, ℕ, Bool, true, false, nat_eq, List, [], ◌∷◌, refl, ap, ◌∙◌, arith}
use Rattle.std.specs.Cmp.Lexicographic.{slice_cmp}
use Rattle.std.specs.Ordering.{is_eq, nat_cmp, ordering_then}
use Rattle.std.specs.declared.cmp.Ordering.{Ordering}
use Rattle.std.specs.declared.cmp.Ordering.TheVariants.{Less, Equal, Greater}
use Rattle.std.proofs.lemmas.Bool.{and_parts, eqb-true, eq-eqb}
use Rattle.std.proofs.lemmas.Bool.Decides.{nat_tests}
use Rattle.std.proofs.lemmas.Cmp.{nat_list_cmp_total, tied_itself}
use Rattle.mcv_base.specs.declared.request.ServerId.{ServerId}
use Rattle.mcv_judge.specs.PairsInMemory.{numbers}
use Rattle.mcv_judge.proofs.FirstFault.{equal_is, nat_equal, then_equal}
use Rattle.mcv_judge.proofs.Servers.{by_numbers}
use Rattle.mcv_judge.specs.Reason.{LegValue, is_same_list, is_twin}
use Rattle.mcv_picks.specs.Tables.{TwinKey, Slot, IsSameOnTwins, twin_cmp, is_at, is_of, slot_cmp}

then_eq : (a b : Ordering) → is_eq (ordering_then a b) ≡ (is_eq a && is_eq b)
then_eq Less b = refl
then_eq Equal b = refl
then_eq Greater b = refl

pub nat_level : (x y : ℕ) → is_eq (nat_cmp x y) ≡ nat_eq x y
nat_level x y = grind (arith, nat_tests)

and_three : (a b c : Bool) → ((a && b) && c) ≡ (a && (b && c))
and_three true b c = refl
and_three false b c = refl

pub twin_level : (j k : TwinKey) → is_eq (twin_cmp j k) ≡ (nat_eq j.0 k.0 && is_same_list (numbers j.1.now) (numbers k.1.now))
twin_level j k =
    then_eq (nat_cmp j.0 k.0) (slice_cmp (λ (x y : ServerId). nat_cmp x.0 y.0) j.1.now k.1.now)
    ∙ rw (nat_level j.0 k.0, by_numbers j.1.now k.1.now) refl

pub slot_level : (j k : Slot) → is_eq (slot_cmp j k) ≡ (nat_eq j.0 k.0 && (nat_eq j.1 k.1 && nat_eq j.2 k.2))
slot_level j k =
    then_eq (ordering_then (nat_cmp j.0 k.0) (nat_cmp j.1 k.1)) (nat_cmp j.2 k.2)
    ∙ ap (λ b. b && is_eq (nat_cmp j.2 k.2)) (then_eq (nat_cmp j.0 k.0) (nat_cmp j.1 k.1))
    ∙ rw (nat_level j.0 k.0, nat_level j.1 k.1, nat_level j.2 k.2) (and_three (nat_eq j.0 k.0) (nat_eq j.1 k.1) (nat_eq j.2 k.2))

one_list : (xs ys : List ℕ) → slice_cmp nat_cmp xs ys ≡ Equal → xs ≡ ys
one_list [] [] h = refl
one_list [] (y ∷ ys) h = absurd cc
one_list (x ∷ xs) [] h = absurd cc
one_list (x ∷ xs) (y ∷ ys) h =
    let both = then_equal (nat_cmp x y) (slice_cmp nat_cmp xs ys) h in
    let first : x ≡ y = nat_equal x y both.0 in
    λ i. first i ∷ one_list xs ys both.1 i

pub same_list : (xs ys : List ℕ) → is_same_list xs ys ≡ true → xs ≡ ys
same_list xs ys h = one_list xs ys (equal_is (slice_cmp nat_cmp xs ys) h)

pub same_itself : (xs : List ℕ) → is_same_list xs xs ≡ true
same_itself xs = ap is_eq (tied_itself nat_list_cmp_total xs)

pub twin_parts : (d e : LegValue) → is_twin d e ≡ true → (e.symbol ≡ d.symbol) × (e.servers ≡ d.servers)
twin_parts d e h =
    let both = and_parts (nat_eq e.symbol d.symbol) (is_same_list e.servers d.servers) h in
    (eqb-true e.symbol d.symbol both.0, same_list e.servers d.servers both.1)

pub of_parts : (k : TwinKey) (d : LegValue) → is_of k d ≡ true → (d.symbol ≡ k.0) × (d.servers ≡ numbers k.1.now)
of_parts k d h =
    let both = and_parts (nat_eq d.symbol k.0) (is_same_list d.servers (numbers k.1.now)) h in
    (eqb-true d.symbol k.0 both.0, same_list d.servers (numbers k.1.now) both.1)

pub is_of-twins : (k : TwinKey) → IsSameOnTwins (is_of k)
is_of-twins k d e h = let p = twin_parts d e h in rw (p.0, p.1) refl

pub is_at-twins : (q : Slot) → IsSameOnTwins (is_at q)
is_at-twins q d e h = let p = twin_parts d e h in rw (p.0, p.1) refl

-- two of one class are twins
pub of_both : (k : TwinKey) (d e : LegValue) → is_of k d ≡ true → is_of k e ≡ true → is_twin d e ≡ true
of_both k d e h g =
    let p = of_parts k d h in let q = of_parts k e g in
    rw (p.0, q.0, p.1, q.1, eq-eqb k.0 k.0 refl, same_itself (numbers k.1.now)) refl
