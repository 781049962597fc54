-- A file is a row of open slots, and an end that has none.
use Rattle.std.proofs.Common.{◌≡◌, ◌≢◌, ◌⊎◌, inl, inr, ℕ, zero, suc, ◌+◌, ◌*◌, ◌<◌, ◌≤◌, Bool, true, false, cond, not, ◌&&◌, nat_lt, ◌==◌, List, [], ◌∷◌, ◌++◌, length, get_or, take, drop, refl, sym, ◌∙◌, ap, subst, arith, append_assoc, append-nil, length-append, length-drop, length-take, length-take-le, take-append-drop, take-take, take_at, drop_at, get_or-take, get_or-drop, get_or-append-add}
use Rattle.std.proofs.lemmas.Bool.{cases_lt}
use Rattle.std.proofs.lemmas.Bool.Decides.{nat_tests}
use Rattle.mcv_spool.specs.File.{IsClosed, is_open, slots, slots_within}

pub truth : (b : Bool) → (b ≡ true) ⊎ (b ≡ false)
truth true = inl refl
truth false = inr refl

-- ---- the test of a gate, over its length and its byte

pub open_longer : (n g : ℕ) → (nat_lt 640 n && not (g == 0)) ≡ true → 640 < n
open_longer n g h = grind (arith, nat_tests)

pub open_gate : (n g : ℕ) → (nat_lt 640 n && not (g == 0)) ≡ true → g ≢ 0
open_gate n g h z = grind (arith, nat_tests)

pub makes_open : (n g : ℕ) → 640 < n → g ≢ 0 → (nat_lt 640 n && not (g == 0)) ≡ true
makes_open n g long gate = grind (arith, nat_tests)

pub shut_short : (n g : ℕ) → n ≤ 640 → (nat_lt 640 n && not (g == 0)) ≡ false
shut_short n g short = grind (arith, nat_tests)

pub shut_gate : (n g : ℕ) → g ≡ 0 → (nat_lt 640 n && not (g == 0)) ≡ false
shut_gate n g z = grind (arith, nat_tests)

-- ---- the slots, one at a time

fuel : (n m : ℕ) (file : List ℕ) → length file ≤ n → length file ≤ m → slots_within n file ≡ slots_within m file
unfolding slots_within
fuel zero zero file hn hm = refl
fuel zero (suc m) file hn hm = sym (ap (λ b. cond b (take 640 file ∷ slots_within m (drop 640 file)) []) (shut_short (length file) (get_or file 0 0) (omega arith)))
fuel (suc n) zero file hn hm = ap (λ b. cond b (take 640 file ∷ slots_within n (drop 640 file)) []) (shut_short (length file) (get_or file 0 0) (omega arith))
fuel (suc n) (suc m) file hn hm =
    ap (λ (l : List (List ℕ)). cond (is_open file) (take 640 file ∷ l) []) (fuel n m (drop 640 file) (omega (arith, length-drop 640 file)) (omega (arith, length-drop 640 file)))

pub slots-open : (file : List ℕ) → is_open file ≡ true → slots file ≡ take 640 file ∷ slots (drop 640 file)
unfolding slots slots_within
slots-open file h =
    fuel (length file) (suc (length file)) file (omega arith) (omega arith)
    ∙ ap (λ b. cond b (take 640 file ∷ slots_within (length file) (drop 640 file)) []) h
    ∙ ap (λ (l : List (List ℕ)). take 640 file ∷ l) (fuel (length file) (length (drop 640 file)) (drop 640 file) (omega (arith, length-drop 640 file)) (omega arith))

pub slots-shut : (file : List ℕ) → is_open file ≡ false → slots file ≡ []
unfolding slots slots_within
slots-shut file h =
    fuel (length file) (suc (length file)) file (omega arith) (omega arith) ∙ ap (λ b. cond b (take 640 file ∷ slots_within (length file) (drop 640 file)) []) h

-- ---- rows

abbrev pub row : List (List ℕ) → List ℕ
row [] = []
row (s ∷ ss) = s ++ row ss

pub record IsOpenSlot (s : List ℕ) : Type 0 where
  pub size : length s ≡ 640
  pub gate : get_or s 0 0 ≢ 0

abbrev pub AllOpen : List (List ℕ) → Type 0
AllOpen [] = Unit {0}
AllOpen (s ∷ ss) = IsOpenSlot s × AllOpen ss

pub length-row : (ss : List (List ℕ)) → AllOpen ss → length (row ss) ≡ 640 * length ss
length-row [] all = refl
length-row (s ∷ ss) all = omega (arith, length-append s (row ss), length-row ss all.1, all.0.size)

pub row-push : (ss : List (List ℕ)) (s : List ℕ) → row (ss ++ s ∷ []) ≡ row ss ++ s
row-push [] s = append-nil s
row-push (x ∷ ss) s = ap (λ (l : List ℕ). x ++ l) (row-push ss s) ∙ sym (append_assoc x (row ss) s)

pub AllOpen-push : (ss : List (List ℕ)) (s : List ℕ) → AllOpen ss → IsOpenSlot s → AllOpen (ss ++ s ∷ [])
AllOpen-push [] s all one = (one, tt)
AllOpen-push (x ∷ ss) s all one = (all.0, AllOpen-push ss s all.1 one)

first_of : (s rest : List ℕ) → 0 < length s → get_or (s ++ rest) 0 0 ≡ get_or s 0 0
first_of [] rest h = absurd (omega arith)
first_of (x ∷ s) rest h = refl

begins_open : (s rest : List ℕ) → IsOpenSlot s → 0 < length rest → is_open (s ++ rest) ≡ true
begins_open s rest one some =
    makes_open (length (s ++ rest)) (get_or (s ++ rest) 0 0) (omega (arith, length-append s rest, one.size)) (λ z. one.gate (sym (first_of s rest (omega (arith, one.size))) ∙ z))

-- a row of open slots and an end that isn't one
pub slots-row : (ss : List (List ℕ)) (tail : List ℕ) → AllOpen ss → is_open tail ≡ false → 0 < length tail → slots (row ss ++ tail) ≡ ss
slots-row [] tail all shut some = slots-shut tail shut
slots-row (s ∷ ss) tail all shut some =
    let rest = row ss ++ tail in
    let more : 0 < length rest = omega (arith, length-append (row ss) tail) in
    ap slots (append_assoc s (row ss) tail)
    ∙ slots-open (s ++ rest) (begins_open s rest all.0 more)
    ∙ ap (λ (l : List ℕ). l ∷ slots (drop 640 (s ++ rest))) (take_at s rest 640 all.0.size)
    ∙ ap (λ (l : List ℕ). s ∷ slots l) (drop_at s rest 640 all.0.size)
    ∙ ap (λ (l : List (List ℕ)). s ∷ l) (slots-row ss tail all.1 shut some)

-- how a file is a row
pub record Parts (file : List ℕ) : Type 0 where
  pub tail : List ℕ
  pub is : file ≡ row (slots file) ++ tail
  pub all : AllOpen (slots file)
  pub shut : is_open tail ≡ false
  pub some : 0 < length (slots file) → 0 < length tail

no_parts : (file : List ℕ) → is_open file ≡ false → Parts file
no_parts file h =
    let none = slots-shut file h in
    record {
      tail = file;
      is = ap (λ ss. row ss ++ file) (sym none);
      all = subst AllOpen (sym none) tt;
      shut = h;
      some = λ l. absurd (omega (arith, ap length none));
    }

more_parts : (file : List ℕ) → is_open file ≡ true → Parts (drop 640 file) → Parts file
more_parts file h rest =
    let step = slots-open file h in
    let long : 640 < length file = open_longer (length file) (get_or file 0 0) h in
    let size : length (take 640 file) ≡ 640 = length-take-le 640 file (omega arith) in
    let gate : get_or (take 640 file) 0 0 ≢ 0 = λ z. open_gate (length file) (get_or file 0 0) h (sym (get_or-take 640 file 0 0 (omega arith)) ∙ z) in
    let left : length (row (slots (drop 640 file)) ++ rest.tail) ≡ length (drop 640 file) = ap length (sym rest.is) in
    record {
      tail = rest.tail;
      is = sym (take-append-drop 640 file) ∙ ap (λ (l : List ℕ). take 640 file ++ l) rest.is
          ∙ sym (append_assoc (take 640 file) (row (slots (drop 640 file))) rest.tail) ∙ ap (λ ss. row ss ++ rest.tail) (sym step);
      all = subst AllOpen (sym step) (record { size = size; gate = gate }, rest.all);
      shut = rest.shut;
      some = λ _. elim (cases_lt 0 (length (slots (drop 640 file)))) [
        | inl some ↦ rest.some some
        | inr none ↦ omega (arith, none, left, length-append (row (slots (drop 640 file))) rest.tail, length-row (slots (drop 640 file)) rest.all, length-drop 640 file)
      ];
    }

parts_within : (n : ℕ) (file : List ℕ) → length file ≤ n → Parts file
parts_within zero file h = no_parts file (shut_short (length file) (get_or file 0 0) (omega arith))
parts_within (suc n) file h = elim (truth (is_open file)) [
  | inl o ↦ more_parts file o (parts_within n (drop 640 file) (omega (arith, length-drop 640 file, open_longer (length file) (get_or file 0 0) o)))
  | inr s ↦ no_parts file s
]

pub parts : (file : List ℕ) → Parts file
parts file = parts_within (length file) file (omega arith)

pub within : (file : List ℕ) → 640 * length (slots file) ≤ length file
within file =
    let p = parts file in
    omega (arith, ap length p.is, length-append (row (slots file)) p.tail, length-row (slots file) p.all)

pub front : (file : List ℕ) → take (640 * length (slots file)) file ≡ row (slots file)
front file =
    let p = parts file in
    let n = 640 * length (slots file) in
    ap (λ (l : List ℕ). take n l) p.is ∙ take_at (row (slots file)) p.tail n (length-row (slots file) p.all)

pub back_shut : (file : List ℕ) → is_open (drop (640 * length (slots file)) file) ≡ false
back_shut file =
    let p = parts file in
    let n = 640 * length (slots file) in
    ap is_open (ap (λ (l : List ℕ). drop n l) p.is ∙ drop_at (row (slots file)) p.tail n (length-row (slots file) p.all)) ∙ p.shut

-- ---- files with the same front

-- another file with the same bytes before the end gate, which is an end there too
pub same_slots : (file c : List ℕ) → take (640 * length (slots file)) c ≡ take (640 * length (slots file)) file → is_open (drop (640 * length (slots file)) c) ≡ false → 640 * length (slots file) < length c
    → slots c ≡ slots file
same_slots file c same shut longer =
    let n = 640 * length (slots file) in
    let whole : c ≡ row (slots file) ++ drop n c = sym (take-append-drop n c) ∙ ap (λ (l : List ℕ). l ++ drop n c) (same ∙ front file) in
    ap slots whole ∙ slots-row (slots file) (drop n c) (parts file).all shut (omega (arith, length-drop n c))

pub at_drop : (c : List ℕ) (n : ℕ) → get_or (drop n c) 0 0 ≡ get_or c n 0
at_drop c n = get_or-drop n c 0 0 ∙ ap (λ k. get_or c k 0) (omega arith)

-- a file whose gate behind these slots is 0 is closed there
pub closed_at : (file c : List ℕ) → slots c ≡ slots file → 640 * length (slots file) < length c → get_or c (640 * length (slots file)) 0 ≡ 0 → IsClosed c
closed_at file c same longer gate = record {
  there = omega (arith, ap length same);
  closed = ap (λ (ss : List (List ℕ)). get_or c (640 * length ss) 0) same ∙ gate;
}

pub same_closed : (file c : List ℕ) → IsClosed file → take (640 * length (slots file) + 1) c ≡ take (640 * length (slots file) + 1) file → (slots c ≡ slots file) × IsClosed c
same_closed file c h same =
    let n = 640 * length (slots file) in
    let longer : n < length c = omega (arith, h.there, length-take (n + 1) c, length-take (n + 1) file, ap length same) in
    let gate : get_or c n 0 ≡ 0 = sym (get_or-take (n + 1) c n 0 (omega arith)) ∙ ap (λ (l : List ℕ). get_or l n 0) same ∙ get_or-take (n + 1) file n 0 (omega arith) ∙ h.closed in
    let begins : take n c ≡ take n file = sym (take-take n (n + 1) c (omega arith)) ∙ ap (λ (l : List ℕ). take n l) same ∙ take-take n (n + 1) file (omega arith) in
    let slots_are = same_slots file c begins (shut_gate (length (drop n c)) (get_or (drop n c) 0 0) (at_drop c n ∙ gate)) longer in
    (slots_are, closed_at file c slots_are longer gate)

-- a row with a closed gate behind it
pub closed_row : (ss : List (List ℕ)) (more : List ℕ) → AllOpen ss → (slots (row ss ++ 0 ∷ more) ≡ ss) × IsClosed (row ss ++ 0 ∷ more)
closed_row ss more all =
    let size = length-row ss all in
    let are = slots-row ss (0 ∷ more) all (shut_gate (length (0 ∷ more)) 0 refl) (omega arith) in
    let gate : get_or (row ss ++ 0 ∷ more) (640 * length ss) 0 ≡ 0 = ap (λ k. get_or (row ss ++ 0 ∷ more) k 0) (omega (arith, size)) ∙ get_or-append-add (row ss) (0 ∷ more) 0 0 in (
      are,
      record {
        there = omega (arith, ap length are, size, length-append (row ss) (0 ∷ more));
        closed = ap (λ (l : List (List ℕ)). get_or (row ss ++ 0 ∷ more) (640 * length l) 0) are ∙ gate;
      },
    )

-- one slot more, with a closed gate behind it
pub one_more : (ss : List (List ℕ)) (s more : List ℕ) → AllOpen ss → IsOpenSlot s → (slots ((row ss ++ s) ++ 0 ∷ more) ≡ ss ++ s ∷ []) × IsClosed ((row ss ++ s) ++ 0 ∷ more)
one_more ss s more all one =
    subst (λ (l : List ℕ). (slots (l ++ 0 ∷ more) ≡ ss ++ s ∷ []) × IsClosed (l ++ 0 ∷ more)) (row-push ss s) (closed_row (ss ++ s ∷ []) more (AllOpen-push ss s all one))
