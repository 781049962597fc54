-- From spot to spot: the blocks at all spots, in the order of the spots, are the blocks of the routes.
use Rattle.std.proofs.Common.{◌≡◌, ◌↔◌, inl, inr, ℕ, zero, suc, ◌+◌, ◌-◌, ◌<◌, ◌≤◌, List, [], ◌∷◌, ◌++◌, length, get_or, Option, Some, refl, sym, ap, ◌∙◌, subst, arith, append_assoc}
use Rattle.std.specs.Prelude.{slice_get}
use Rattle.std.specs.List.{All, AllByRecursion, AllPairs, AllZip, Contains}
use Rattle.std.specs.Ordering.{nat_cmp, ordering_then}
use Rattle.std.specs.declared.cmp.Ordering.TheVariants.{Less}
use Rattle.std.proofs.lemmas.Cmp.{nat_cmp_total, nat_list_cmp_total, tied_itself}
use Rattle.std.proofs.lemmas.List.Elements.{All-from_recursion, All-head, All-tail, All-cons, All-nil, recursion_from_All, Contains-append_left, Contains-append_right}
use Rattle.std.proofs.lemmas.List.Kept.{AllPairs-cons}
use Rattle.std.proofs.lemmas.Option.{get_or_from_slice_get, none-some, same_Some, slice_get_within}
use Rattle.mcv_cert.specs.Pair.{SpotValue, spot_cmp}
use Rattle.mcv_classes.specs.Class.{IsListed}
use Rattle.mcv_classes.specs.Words.{class_words}
use Rattle.mcv_judge.specs.Faults.{AreInOrder, IsInOrder}
use Rattle.mcv_judge.specs.Reason.{BlockValue, LegValue}
use Rattle.mcv_route.specs.Routes.{IsSoundRoutes, IsSoundTree, RouteEntry, RoutesValue}
use Rattle.mcv_route.specs.Tree.{Tree}
use Rattle.mcv_route.specs.Eras.{AreNearEras, IsNearEra}
use Rattle.mcv_route.specs.declared.eras.NearEras.{NearEras}
use Rattle.mcv_blocks.specs.Blocks.{AreBlocksOf, HasBlockFor, IsBlockOf, IsSpotOf, pool_for}
use Rattle.mcv_blocks.specs.Places.{AreRouteClasses, IsRouteClass, class_cmp}
use Rattle.mcv_blocks.specs.Spots.{AreClassesInEras, AreNears, ClassInEras, IsBlockFor, classes_in_eras, eras_near, gets_from, in_eras, spot_of}
use Rattle.mcv_blocks.specs.declared.classes.RouteClass.{RouteClass}
use Rattle.mcv_blocks.proofs.RouteClasses.{less}
use Rattle.mcv_blocks.proofs.PoolSizes.{pool_sound}
use Rattle.mcv_route.proofs.RisingLists.{at_first, behind_first, first_or_behind, none_there, rises_behind}

-- ---- spots rise

all-both : {X : Type 0} (P : X → Type 0) (xs ys : List X) → AllByRecursion P xs → AllByRecursion P ys → AllByRecursion P (xs ++ ys)
all-both P [] ys h g = g
all-both P (x ∷ xs) ys h g = (h.0, all-both P xs ys h.1 g)

abbrev IsBefore : ClassInEras → ClassInEras → Type 0
IsBefore s t = spot_cmp (spot_of s) (spot_of t) ≡ Less

in-one-era : (c : RouteClass) (e f g : ℕ) → f < g → IsBefore (in_eras c e f) (in_eras c e g)
in-one-era c e f g h = rw (tied_itself nat_cmp_total c.route, tied_itself nat_list_cmp_total c.class.word, tied_itself nat_cmp_total e) (less f g h)

in-two-eras : (c : RouteClass) (e f k g : ℕ) → e < k → IsBefore (in_eras c e f) (in_eras c k g)
in-two-eras c e f k g h =
    let lower : nat_cmp e k ≡ Less = less e k h in
    rw (tied_itself nat_cmp_total c.route, tied_itself nat_list_cmp_total c.class.word, lower) refl

in-two-classes : (c d : RouteClass) (e f k g : ℕ) → class_cmp c d ≡ Less → IsBefore (in_eras c e f) (in_eras d k g)
in-two-classes c d e f k g h = ap (λ o. ordering_then (ordering_then o (nat_cmp e k)) (nat_cmp f g)) h

later-gets : (c : RouteClass) (e f g n : ℕ) → f < g → AllByRecursion (IsBefore (in_eras c e f)) (gets_from c e g n)
later-gets c e f g zero h = tt
later-gets c e f g (suc n) h = (in-one-era c e f g h, later-gets c e f (suc g) n (omega (arith, h)))

gets-of-later : (c : RouteClass) (e f k g n : ℕ) → e < k → AllByRecursion (IsBefore (in_eras c e f)) (gets_from c k g n)
gets-of-later c e f k g zero h = tt
gets-of-later c e f k g (suc n) h = (in-two-eras c e f k g h, gets-of-later c e f k (suc g) n h)

later-eras : (c : RouteClass) (e f k : ℕ) (xs : List NearEras) → e < k → AllByRecursion (IsBefore (in_eras c e f)) (eras_near c k xs)
later-eras c e f k [] h = tt
later-eras c e f k (x ∷ xs) h =
    all-both (IsBefore (in_eras c e f)) (gets_from c k x.first (x.end - x.first)) (eras_near c (suc k) xs) (gets-of-later c e f k x.first (x.end - x.first) h) (later-eras c e f (suc k) xs (omega (arith, h)))

other-gets : (c d : RouteClass) (e f k g n : ℕ) → class_cmp c d ≡ Less → AllByRecursion (IsBefore (in_eras c e f)) (gets_from d k g n)
other-gets c d e f k g zero h = tt
other-gets c d e f k g (suc n) h = (in-two-classes c d e f k g h, other-gets c d e f k (suc g) n h)

other-eras : (c d : RouteClass) (e f k : ℕ) (xs : List NearEras) → class_cmp c d ≡ Less → AllByRecursion (IsBefore (in_eras c e f)) (eras_near d k xs)
other-eras c d e f k [] h = tt
other-eras c d e f k (x ∷ xs) h =
    all-both (IsBefore (in_eras c e f)) (gets_from d k x.first (x.end - x.first)) (eras_near d (suc k) xs) (other-gets c d e f k x.first (x.end - x.first) h) (other-eras c d e f (suc k) xs h)

later-classes : (c : RouteClass) (e f : ℕ) (cs : List RouteClass) (xs : List NearEras) → AllByRecursion (λ d. class_cmp c d ≡ Less) cs → AllByRecursion (IsBefore (in_eras c e f)) (classes_in_eras cs xs)
later-classes c e f [] xs h = tt
later-classes c e f (d ∷ cs) xs h = all-both (IsBefore (in_eras c e f)) (eras_near d 0 xs) (classes_in_eras cs xs) (other-eras c d e f 0 xs h.0) (later-classes c e f cs xs h.1)

gets-are : (r : RoutesValue) (c : RouteClass) (e g n : ℕ) (more : List ClassInEras) → IsRouteClass r c → ((k : ℕ) → g ≤ k → k < g + n → IsNearEra r r.window e k) → AreClassesInEras r more → ((k : ℕ) → AllByRecursion (IsBefore (in_eras c e k)) more)
    → AreClassesInEras r (gets_from c e g n ++ more)
gets-are r c e g zero more is near rest below = rest
gets-are r c e g (suc n) more is near rest below = (
  (is, near g (omega arith) (omega arith)),
  all-both (IsBefore (in_eras c e g)) (gets_from c e (suc g) n) more (later-gets c e g (suc g) n (omega arith)) (below g),
  gets-are r c e (suc g) n more is (λ k low high. near k (omega (arith, low)) (omega (arith, high))) rest below,
)

eras-are : (r : RoutesValue) (c : RouteClass) (e : ℕ) (xs : List NearEras) (more : List ClassInEras) → IsRouteClass r c → ((k m : ℕ) (x : NearEras) → m ≡ e + k → slice_get xs k ≡ Some x → AreNearEras r r.window m x.first x.end) → AreClassesInEras r more
    → ((k f : ℕ) → AllByRecursion (IsBefore (in_eras c k f)) more) → AreClassesInEras r (eras_near c e xs ++ more)
eras-are r c e [] more is near rest below = rest
eras-are r c e (x ∷ xs) more is near rest below =
    let own = near 0 e x (omega arith) refl in
    let first : x.first ≤ e = own.first_is in
    let end : e < x.end = own.end_is in
    let gets = gets_from c e x.first (x.end - x.first) in
    let eras = eras_near c (suc e) xs in
    let others = eras-are r c (suc e) xs more is (λ k m y q g. near (suc k) m y (omega (arith, q)) g) rest below in
    let behind : (f : ℕ) → AllByRecursion (IsBefore (in_eras c e f)) (eras ++ more) = λ f. all-both (IsBefore (in_eras c e f)) eras more (later-eras c e f (suc e) xs (omega arith)) (below e f) in
    subst (AreClassesInEras r) (sym (append_assoc gets eras more)) (gets-are r c e x.first (x.end - x.first) (eras ++ more) is (λ k low high. own.near k low (omega (arith, high, first, end))) others behind)

all-spots : (r : RoutesValue) (cs : List RouteClass) (xs : List NearEras) → AllPairs (λ c d. class_cmp c d ≡ Less) cs → All (IsRouteClass r) cs → AreNears r xs → AreClassesInEras r (classes_in_eras cs xs)
all-spots r [] xs up each near = tt
all-spots r (c ∷ cs) xs up each near =
    let behind : AllByRecursion (λ d. class_cmp c d ≡ Less) cs = recursion_from_All (λ d. class_cmp c d ≡ Less) cs (λ k d low. up 0 (suc k) d (omega arith) (omega (arith, low))) in
    eras-are r c 0 xs (classes_in_eras cs xs) (All-head (IsRouteClass r) c cs each)
    (λ k m x q g. let same : k ≡ m = omega (arith, q) in subst (λ n. AreNearEras r r.window n x.first x.end) same (near.each k x g))
    (all-spots r cs xs (rises_behind (λ c d. class_cmp c d ≡ Less) c cs up) (All-tail (IsRouteClass r) c cs each) near)
    (λ k f. later-classes c k f cs xs behind)

pub spots_are : (r : RoutesValue) (cs : List RouteClass) (xs : List NearEras) → AreRouteClasses r cs → AreNears r xs → AreClassesInEras r (classes_in_eras cs xs)
spots_are r cs xs h near = all-spots r cs xs h.rising h.only near

pub spots_behind : (r : RoutesValue) (ss more : List ClassInEras) → AreClassesInEras r (ss ++ more) → AreClassesInEras r more
spots_behind r [] more h = h
spots_behind r (s ∷ ss) more h = spots_behind r ss more h.2

-- ---- each class in each era has its spot

in-gets : (c : RouteClass) (e g n f j : ℕ) → j < n → f ≡ g + j → Contains (gets_from c e g n) (in_eras c e f)
in-gets c e g zero f j low is = absurd (omega (arith, low))
in-gets c e g (suc n) f zero low is = let same : g ≡ f = omega (arith, is) in at_first (in_eras c e g) (gets_from c e (suc g) n) (in_eras c e f) (ap (in_eras c e) same)
in-gets c e g (suc n) f (suc j) low is = behind_first (in_eras c e g) (gets_from c e (suc g) n) (in_eras c e f) (in-gets c e (suc g) n f j (omega (arith, low)) (omega (arith, is)))

in-eras : (c : RouteClass) (e : ℕ) (xs : List NearEras) (era f k : ℕ) (x : NearEras) → slice_get xs k ≡ Some x → era ≡ e + k → x.first ≤ f → f < x.end → Contains (eras_near c e xs) (in_eras c era f)
in-eras c e [] era f k x got is low high = absurd (none-some x got)
in-eras c e (y ∷ xs) era f zero x got is low high =
    let same : y ≡ x = same_Some y x got in
    let first : y.first ≤ f = subst (λ (z : NearEras). z.first ≤ f) (sym same) low in
    let end : f < y.end = subst (λ (z : NearEras). f < z.end) (sym same) high in
    let own : e ≡ era = omega (arith, is) in
    let at = in-gets c e y.first (y.end - y.first) f (f - y.first) (omega (arith, first, end)) (omega (arith, first)) in
    Contains-append_left (gets_from c e y.first (y.end - y.first)) (eras_near c (suc e) xs) (in_eras c era f) (subst (λ k. Contains (gets_from c e y.first (y.end - y.first)) (in_eras c k f)) own at)
in-eras c e (y ∷ xs) era f (suc k) x got is low high =
    Contains-append_right (gets_from c e y.first (y.end - y.first)) (eras_near c (suc e) xs) (in_eras c era f) (in-eras c (suc e) xs era f k x got (omega (arith, is)) low high)

pub in-spots : (cs : List RouteClass) (xs : List NearEras) (era f : ℕ) (x : NearEras) (c : RouteClass) → slice_get xs era ≡ Some x → x.first ≤ f → f < x.end → Contains cs c → Contains (classes_in_eras cs xs) (in_eras c era f)
in-spots [] xs era f x c got low high at = absurd (none_there c at)
in-spots (d ∷ cs) xs era f x c got low high at =
    elim (first_or_behind d cs c at) [
      | inl e ↦
          Contains-append_left (eras_near d 0 xs) (classes_in_eras cs xs) (in_eras c era f)
          (subst (λ z. Contains (eras_near z 0 xs) (in_eras c era f)) (sym e) (in-eras c 0 xs era f era x got (omega arith) low high))
      | inr h ↦ Contains-append_right (eras_near d 0 xs) (classes_in_eras cs xs) (in_eras c era f) (in-spots cs xs era f x c got low high h)
    ]

-- ---- blocks at spots

pub same-cmp : (r : RoutesValue) (s t : ClassInEras) (b c : BlockValue) → IsBlockFor r s b → IsBlockFor r t c → spot_cmp b.spot c.spot ≡ spot_cmp (spot_of s) (spot_of t)
same-cmp r s t b c h g = λ i. spot_cmp (h.spot i) (g.spot i)

abbrev Behind : BlockValue → BlockValue → Type 0
Behind b c = spot_cmp b.spot c.spot ≡ Less

behind-all : (r : RoutesValue) (s : ClassInEras) (b : BlockValue) (ss : List ClassInEras) (bs : List BlockValue) → IsBlockFor r s b → AllByRecursion (IsBefore s) ss → AllZip (IsBlockFor r) ss bs → AllByRecursion (Behind b) bs
behind-all r s b [] [] is h z = tt
behind-all r s b [] (c ∷ bs) is h z = absurd z
behind-all r s b (t ∷ ss) [] is h z = absurd z
behind-all r s b (t ∷ ss) (c ∷ bs) is h z = (same-cmp r s t b c is z.0 ∙ h.0, behind-all r s b ss bs is h.1 z.1)

blocks-rise : (r : RoutesValue) (ss : List ClassInEras) (bs : List BlockValue) → AreClassesInEras r ss → AllZip (IsBlockFor r) ss bs → AllPairs Behind bs
blocks-rise r [] [] h z = λ i j d low high. absurd (omega (arith, high))
blocks-rise r [] (c ∷ bs) h z = absurd z
blocks-rise r (s ∷ ss) [] h z = absurd z
blocks-rise r (s ∷ ss) (b ∷ bs) h z = AllPairs-cons Behind b bs (All-from_recursion (Behind b) bs (behind-all r s b ss bs z.0 h.1 z.1)) (blocks-rise r ss bs h.2 z.1)

each-block : (r : RoutesValue) (P : BlockValue → Type 0) → ((s : ClassInEras) (b : BlockValue) → IsBlockFor r s b → P b) → (ss : List ClassInEras) (bs : List BlockValue) → AllZip (IsBlockFor r) ss bs → All P bs
each-block r P f [] [] z = All-nil P
each-block r P f [] (c ∷ bs) z = absurd z
each-block r P f (s ∷ ss) [] z = absurd z
each-block r P f (s ∷ ss) (b ∷ bs) z = All-cons P b bs (f s b z.0) (each-block r P f ss bs z.1)

-- ---- they are in order

entry-at : (r : RoutesValue) (P : RouteEntry → Type 0) → All P r.entries → (e : RouteEntry) (n : ℕ) → slice_get r.entries n ≡ Some e → P e
entry-at r P h e n is = subst P (get_or_from_slice_get r.entries n e e is) (h n e (slice_get_within r.entries n e is))

has-servers : (r : RoutesValue) → IsSoundRoutes r → (b : BlockValue) → IsBlockOf r b → All (λ (l : LegValue). 0 < length l.servers) b.readable
has-servers r sound b own k d low =
    let sound-entry = entry-at r (λ e. IsSoundTree (length r.servers) r.symbols e.tree) sound own.spot.entry b.spot.route own.spot.numbered in
    let tree : IsSoundTree (length r.servers) r.symbols own.tree = subst (λ t. IsSoundTree (length r.servers) r.symbols t) own.spot.has_tree sound-entry in
    let l = get_or b.readable k d in
    (pool_sound (length r.servers) r.symbols own.tree l.position (pool_for l) tree (own.has.readable.pools k d low)).some

pub block_in_order : (r : RoutesValue) → IsSoundRoutes r → (b : BlockValue) → IsBlockOf r b → IsInOrder b
block_in_order r sound b own = record { readable = own.has.readable.rising; indexed = has-servers r sound b own; acknowledged = own.has.acknowledged.rising }

pub in_order : (r : RoutesValue) (ss : List ClassInEras) (bs : List BlockValue) → IsSoundRoutes r → AreClassesInEras r ss → AllZip (IsBlockFor r) ss bs → AreInOrder bs
in_order r ss bs sound h z = record { rising = blocks-rise r ss bs h z; each = each-block r IsInOrder (λ s b is. block_in_order r sound b is.is) ss bs z }

-- ---- they are all blocks

found-block : (r : RoutesValue) (ss : List ClassInEras) (bs : List BlockValue) (s : ClassInEras) → AllZip (IsBlockFor r) ss bs → Contains ss s → HasBlockFor bs (spot_of s)
found-block r [] [] s z at = absurd (none_there s at)
found-block r [] (c ∷ bs) s z at = absurd z
found-block r (t ∷ ss) [] s z at = absurd z
found-block r (t ∷ ss) (b ∷ bs) s z at =
    elim (first_or_behind t ss s at) [
      | inl e ↦ (b, at_first b bs b refl, z.0.spot ∙ ap spot_of e)
      | inr h ↦ let rest = found-block r ss bs s z.1 h in (rest.0, behind_first b bs rest.0 rest.1, rest.2)
    ]

-- the class of a spot
pub class-there : (r : RoutesValue) (s : SpotValue) (t : Tree) (member : List ℕ) (since read : Option ℕ) → IsSpotOf r s t member since read
    → IsRouteClass r (record { route = s.route; class = record { word = s.class; member = Some member } })
class-there r s t member since read h = record {
  entry = h.entry;
  numbered = h.numbered;
  listed = subst (λ (u : Tree). IsListed (class_words u) (record { word = s.class; member = Some member })) (sym h.has_tree) (record { word = h.listed; member = h.has_member; some = refl });
}

pub blocks_of_spots : (r : RoutesValue) (cs : List RouteClass) (xs : List NearEras) (bs : List BlockValue) → AreRouteClasses r cs → AreNears r xs → AllZip (IsBlockFor r) (classes_in_eras cs xs) bs → AreBlocksOf r bs
blocks_of_spots r cs xs bs h near z = record {
  rising = blocks-rise r (classes_in_eras cs xs) bs (spots_are r cs xs h near) z;
  only = each-block r (IsBlockOf r) (λ s b is. is.is) (classes_in_eras cs xs) bs z;
  all = λ s t member since read is.
      let c : RouteClass = record { route = s.route; class = record { word = s.class; member = Some member } } in
      let at = h.all c (class-there r s t member since read is) in
      let x = near.all s.era (since, is.opened) in
      let within = (near.each s.era x.0 x.1).all s.get_era (since, read, is.opened, is.read_opened, is.near) in
      found-block r (classes_in_eras cs xs) bs (in_eras c s.era s.get_era) z (in-spots cs xs s.era s.get_era x.0 c x.1 within.0 within.1 at);
}
