-- What stays where the record of a slot is marked as done.
use Rattle.std.proofs.Common.{◌≡◌, ◌≢◌, inl, inr, ℕ, zero, suc, ◌+◌, ◌-◌, ◌*◌, ◌<◌, true, not, ◌==◌, List, [], ◌∷◌, ◌++◌, length, map, get_or, take, drop, set, refl, sym, ◌∙◌, ap, subst, arith, append_assoc, take-append-drop, get_or-set_same, get_or-set_other, length-set}
use Rattle.std.proofs.lemmas.Bool.{cases_eq}
use Rattle.std.proofs.lemmas.List.{drop_more, map-set, set-get_or, set-append_right, set-append_left, set_split}
use Rattle.mcv_spool.specs.Disk.{Torn, written}
use Rattle.mcv_spool.specs.File.{IsClosed, is_done, marked, read_record, slots}
use Rattle.mcv_spool.specs.Version.{IsVersion}
use Rattle.mcv_spool.proofs.Slots.{AllOpen, IsOpenSlot, closed_row, front, parts, row}
use Rattle.mcv_spool.proofs.Versions.{counted}

-- the slot with another byte for what is done
abbrev pub remarked : ℕ → ℕ → List (List ℕ) → List (List ℕ)
remarked x k all = set all k (set (get_or all k []) 1 x)

set_row : (ss : List (List ℕ)) (k x : ℕ) (tail : List ℕ) → AllOpen ss → k < length ss → set (row ss ++ tail) (640 * k + 1) x ≡ row (remarked x k ss) ++ tail
set_row [] k x tail all h = absurd (omega arith)
set_row (s ∷ ss) zero x tail all h =
    ap (λ (l : List ℕ). set l 1 x) (append_assoc s (row ss) tail) ∙ set-append_left s (row ss ++ tail) 1 x (omega (arith, all.0.size)) ∙ sym (append_assoc (set s 1 x) (row ss) tail)
set_row (s ∷ ss) (suc k) x tail all h =
    let there : 640 * suc k + 1 - 640 ≡ 640 * k + 1 = omega arith in
    ap (λ (l : List ℕ). set l (640 * suc k + 1) x) (append_assoc s (row ss) tail)
    ∙ set-append_right s (row ss ++ tail) 640 (640 * suc k + 1) x all.0.size (omega arith)
    ∙ ap (λ n. s ++ set (row ss ++ tail) n x) there
    ∙ ap (λ (l : List ℕ). s ++ l) (set_row ss k x tail all.1 (omega arith))
    ∙ sym (append_assoc s (row (remarked x k ss)) tail)

AllOpen_set : (ss : List (List ℕ)) (k : ℕ) (s : List ℕ) → AllOpen ss → IsOpenSlot s → AllOpen (set ss k s)
AllOpen_set [] k s all one = tt
AllOpen_set (t ∷ ss) zero s all one = (one, all.1)
AllOpen_set (t ∷ ss) (suc k) s all one = (all.0, AllOpen_set ss k s all.1 one)

pub open_at : (ss : List (List ℕ)) (k : ℕ) → AllOpen ss → k < length ss → IsOpenSlot (get_or ss k [])
open_at [] k all h = absurd (omega arith)
open_at (s ∷ ss) zero all h = all.0
open_at (s ∷ ss) (suc k) all h = open_at ss k all.1 (omega arith)

open_set : (s : List ℕ) (x : ℕ) → IsOpenSlot s → IsOpenSlot (set s 1 x)
open_set s x one = record { size = length-set s 1 x ∙ one.size; gate = λ z. one.gate (sym (get_or-set_other s 1 0 x 0 (omega arith)) ∙ z) }

pub read_set : (s : List ℕ) (x : ℕ) → read_record (set s 1 x) ≡ read_record s
unfolding read_record
read_set [] x = refl
read_set (a ∷ []) x = refl
read_set (a ∷ b ∷ s) x = refl

pub records_marked : (all : List (List ℕ)) (k x : ℕ) → map read_record (remarked x k all) ≡ map read_record all
records_marked all k x =
    map-set read_record all k (set (get_or all k []) 1 x)
    ∙ ap (λ o. set (map read_record all) k o) (read_set (get_or all k []) x)
    ∙ sym (map-set read_record all k (get_or all k []))
    ∙ ap (λ (ss : List (List ℕ)). map read_record ss) (set-get_or all k [])

closed_form : (c : List ℕ) → IsClosed c → c ≡ row (slots c) ++ 0 ∷ drop (640 * length (slots c) + 1) c
closed_form c closed =
    let n = 640 * length (slots c) in
    sym (take-append-drop n c) ∙ ap (λ (l : List ℕ). l ++ drop n c) (front c)
    ∙ ap (λ (l : List ℕ). row (slots c) ++ l) (drop_more c n 0 closed.there ∙ ap (λ g. g ∷ drop (n + 1) c) closed.closed)

-- one byte of a closed file is set
pub set_closed : (c : List ℕ) (k x : ℕ) → IsClosed c → k < length (slots c) → (slots (set c (640 * k + 1) x) ≡ remarked x k (slots c)) × IsClosed (set c (640 * k + 1) x)
set_closed c k x closed h =
    let all = (parts c).all in
    let more = drop (640 * length (slots c) + 1) c in
    let is : set c (640 * k + 1) x ≡ row (remarked x k (slots c)) ++ 0 ∷ more = ap (λ (l : List ℕ). set l (640 * k + 1) x) (closed_form c closed) ∙ set_row (slots c) k x (0 ∷ more) all h in
    let there = closed_row (remarked x k (slots c)) more (AllOpen_set (slots c) k (set (get_or (slots c) k []) 1 x) all (open_set (get_or (slots c) k []) x (open_at (slots c) k all h))) in
    subst (λ (l : List ℕ). (slots l ≡ remarked x k (slots c)) × IsClosed l) (sym is) there

after_one : (c : List ℕ) (at x : ℕ) → at < length c → set c at x ≡ take at c ++ x ∷ drop (at + 1) c
after_one c at x h = let next : suc at ≡ at + 1 = omega arith in set_split c at x h ∙ ap (λ n. take at c ++ x ∷ drop n c) next

-- a crash leaves any byte there
torn_set : (c d : List ℕ) (at : ℕ) → at < length c → Torn at 1 c d → d ≡ set c at (get_or d at 0)
torn_set c d at h torn =
    sym (take-append-drop at d) ∙ ap (λ (l : List ℕ). l ++ drop at d) torn.before
    ∙ ap (λ (l : List ℕ). take at c ++ l) (drop_more d at 0 (omega (arith, torn.no_shorter)) ∙ ap (λ (l : List ℕ). get_or d at 0 ∷ l) torn.after)
    ∙ sym (after_one c at (get_or d at 0) h)

pub one_written : (c : List ℕ) (at x : ℕ) → at < length c → written c at (x ∷ []) ≡ set c at x
one_written c at x h = append_assoc (take at c) (x ∷ []) (drop (at + 1) c) ∙ sym (after_one c at x h)

-- the byte of a slot lies in front of the end gate
pub inside : (c : List ℕ) (k : ℕ) → IsClosed c → k < length (slots c) → 640 * k + 1 < length c
inside c k closed h = omega (arith, closed.there)

marked_done : (all : List (List ℕ)) (k : ℕ) → AllOpen all → k < length all → is_done (get_or (marked k all) k []) ≡ true
marked_done all k open_all h =
    let s = get_or all k [] in
    ap is_done (get_or-set_same all k (set s 1 1) [] h) ∙ ap (λ b. not (b == 0)) (get_or-set_same s 1 1 0 (omega (arith, (open_at all k open_all h).size)))

pub marked_version : (all : List (List ℕ)) (k : ℕ) (c d : List ℕ) → AllOpen all → k < length all → IsVersion all c → Torn (640 * k + 1) 1 c d → IsVersion (marked k all) d
marked_version all k c d open_all h v torn =
    let x = get_or d (640 * k + 1) 0 in
    let there : k < length (slots c) = omega (arith, counted all c v) in
    let set_is = set_closed c k x v.closed there in
    let d_is : d ≡ set c (640 * k + 1) x = torn_set c d (640 * k + 1) (inside c k v.closed there) torn in
    let slots_are : slots d ≡ remarked x k (slots c) = ap slots d_is ∙ set_is.0 in
    let other : (j : ℕ) → j ≢ k → is_done (get_or (slots d) j []) ≡ true → is_done (get_or (marked k all) j []) ≡ true =
    λ j differs is.
    let old : is_done (get_or (slots c) j []) ≡ true =
    sym (ap is_done (get_or-set_other (slots c) k j (set (get_or (slots c) k []) 1 x) [] differs)) ∙ ap (λ (ss : List (List ℕ)). is_done (get_or ss j [])) (sym slots_are) ∙ is in
    ap is_done (get_or-set_other all k j (set (get_or all k []) 1 1) [] differs) ∙ v.done j old in
    record {
      records = ap (λ (ss : List (List ℕ)). map read_record ss) slots_are ∙ records_marked (slots c) k x ∙ v.records ∙ sym (records_marked all k 1);
      done = λ j is. elim (cases_eq j k) [
        | inl same ↦ ap (λ i. is_done (get_or (marked k all) i [])) same ∙ marked_done all k open_all h
        | inr differs ↦ other j differs is
      ];
      closed = subst IsClosed (sym d_is) set_is.1;
    }
