-- The lines of the first slots of a file, one slot at a time.
use Rattle.std.proofs.Common.{◌≡◌, ◌∙◌, inl, inr, ℕ, ◌+◌, ◌*◌, ◌≤◌, Bool, true, false, cond, ◌==◌, ◌||◌, List, [], ◌∷◌, ◌++◌, length, take, drop, Option, Some, None, is_none, Result, Err, refl, sym, ap, subst, arith, append_assoc, append-nil, length-append, length-take-le, length-drop, take-append-drop, take_at}
use Rattle.std.specs.Io.KnownBytes.{Appends}
use Rattle.std.proofs.lemmas.Bool.Decides.{nat_tests}
use Rattle.std.proofs.lemmas.List.Sums.{sum_by-append}
use Rattle.mcv_spool.specs.Disk.{IsQuiet}
use Rattle.mcv_spool.specs.File.{damage, is_open, read_record, slots}
use Rattle.mcv_spool.proofs.Pieces.{damage-append, damage-first, slots-behind}
use Rattle.mcv_spool.proofs.Slots.{slots-open, slots-shut, truth}
use Rattle.mcv_records.specs.Text.{is_pending, pending_count, slot_line, slot_lines}
use Rattle.mcv_records.specs.declared.fault.RecordsFault.{RecordsFault}
use Rattle.mcv_records.specs.declared.list.Shown.{Shown}

pub same_fault : {T : Type 0} (r : Result T RecordsFault) (x y : RecordsFault) → r ≡ Err x → r ≡ Err y → x ≡ y
same_fault r x y a b = cc

pub quiet_here : {D : Type 0} (seen : D → List ℕ) (may_leave : D → List ℕ → Type 0) (moment : D → ℕ) (left_since : D → ℕ → List ℕ → Type 0) (disk : D) → IsQuiet seen may_leave moment left_since disk disk
quiet_here seen may_leave moment left_since disk = record { same = refl; crash = λ c left. left; later = omega arith; since = λ t c le left. left; forgets_nothing = λ t c le left. left }

some_none : (k : ℕ) → Some k ≡ None → ⊥
some_none k e = cc

-- a slot that isn't damaged is below the limit
pub below_limit : (k : ℕ) (slot : List ℕ) → k ≤ 1000000 → damage k (slot ∷ []) ≡ None → k + 1 ≤ 1000000
below_limit k slot le good = elim (truth (k == 1000000)) [
  | inl at ↦ absurd (some_none k (sym (ap (λ b. cond (b || is_none (read_record slot)) (Some k) None) at) ∙ good))
  | inr other ↦ grind (arith, nat_tests)
]

pub at_most_one : (b : Bool) → cond b 1 0 ≤ 1
at_most_one true = omega arith
at_most_one false = omega arith

pub slot_lines-append : (shown : Shown) (k : ℕ) (xs ys : List (List ℕ)) → slot_lines shown k (xs ++ ys) ≡ slot_lines shown k xs ++ slot_lines shown (k + length xs) ys
slot_lines-append shown k [] ys = ap (λ n. slot_lines shown n ys) (omega arith)
slot_lines-append shown k (x ∷ xs) ys =
    ap (λ (l : List ℕ). slot_line shown k x ++ l) (slot_lines-append shown (k + 1) xs ys)
    ∙ sym (append_assoc (slot_line shown k x) (slot_lines shown (k + 1) xs) (slot_lines shown (k + 1 + length xs) ys))
    ∙ ap (λ n. (slot_line shown k x ++ slot_lines shown (k + 1) xs) ++ slot_lines shown n ys) (omega arith)

pending-append : (xs ys : List (List ℕ)) → pending_count (xs ++ ys) ≡ pending_count xs + pending_count ys
pending-append xs ys = sum_by-append (λ s. cond (is_pending s) 1 0) xs ys

pub appends_more : (old mid new : Option (List ℕ)) (xs ys : List ℕ) → Appends old mid xs → Appends mid new ys → Appends old new (xs ++ ys)
appends_more None mid new xs ys first then = tt
appends_more (Some a) None new xs ys first then = absurd first
appends_more (Some a) (Some b) None xs ys first then = absurd then
appends_more (Some a) (Some b) (Some c) xs ys first then = then ∙ ap (λ (l : List ℕ). l ++ ys) first ∙ append_assoc a xs ys

pub appends_none : (old : Option (List ℕ)) → Appends old old []
appends_none None = tt
appends_none (Some a) = sym (append-nil a)

-- the lines of the first k slots have been written, none of these is damaged, and so many are pending
pub record Listed (shown : Shown) (file : List ℕ) (k pending : ℕ) (old new : Option (List ℕ)) : Type 0 where
  pub within : k ≤ length (slots file)
  pub lines : Appends old new (slot_lines shown 0 (take k (slots file)))
  pub sound : damage 0 (take k (slots file)) ≡ None
  pub count : pending ≡ pending_count (take k (slots file))

pub none_listed : (shown : Shown) (file : List ℕ) (old : Option (List ℕ)) → Listed shown file 0 0 old old
none_listed shown file old = record { within = omega arith; lines = appends_none old; sound = refl; count = refl }

module _ (shown : Shown) (file : List ℕ) (k pending : ℕ) (old new : Option (List ℕ)) (so_far : Listed shown file k pending old new) where
  abbrev all : List (List ℕ)
  all = slots file

  abbrev rest : List ℕ
  rest = drop (640 * k) file

  behind : slots rest ≡ drop k all
  behind = slots-behind k file so_far.within

  module _ (shut : is_open rest ≡ false) where
    none_left : drop k all ≡ []
    none_left = sym behind ∙ slots-shut rest shut

    pub all_listed : take k all ≡ all
    all_listed = sym (append-nil (take k all)) ∙ ap (λ (l : List (List ℕ)). take k all ++ l) (sym none_left) ∙ take-append-drop k all

    pub count_is : k ≡ length all
    count_is = omega (arith, so_far.within, length-drop k all, ap length none_left)

    pub ended_lines : Appends old new (slot_lines shown 0 all)
    ended_lines = subst (λ ss. Appends old new (slot_lines shown 0 ss)) all_listed so_far.lines

    pub ended_sound : damage 0 all ≡ None
    ended_sound = ap (damage 0) (sym all_listed) ∙ so_far.sound

    pub ended_count : pending ≡ pending_count all
    ended_count = so_far.count ∙ ap pending_count all_listed

  module _ (open_is : is_open rest ≡ true) (slot : List ℕ) (slot_is : slot ≡ take 640 rest) where
    abbrev more : List (List ℕ)
    more = slots (drop 640 rest)

    next : drop k all ≡ slot ∷ more
    next = sym behind ∙ slots-open rest open_is ∙ ap (λ s. s ∷ more) (sym slot_is)

    there : k + 1 ≤ length all
    there = omega (arith, so_far.within, length-drop k all, ap length next)

    front_len : length (take k all) ≡ k
    front_len = length-take-le k all so_far.within

    whole : all ≡ (take k all ++ slot ∷ []) ++ more
    whole = sym (take-append-drop k all) ∙ ap (λ (l : List (List ℕ)). take k all ++ l) next ∙ sym (append_assoc (take k all) (slot ∷ []) more)

    one_more : take (k + 1) all ≡ take k all ++ slot ∷ []
    one_more = ap (take (k + 1)) whole ∙ take_at (take k all ++ slot ∷ []) more (k + 1) (omega (arith, length-append (take k all) (slot ∷ []), front_len))

    one_line : slot_lines shown 0 (take (k + 1) all) ≡ slot_lines shown 0 (take k all) ++ slot_line shown k slot
    one_line =
        ap (slot_lines shown 0) one_more ∙ slot_lines-append shown 0 (take k all) (slot ∷ [])
        ∙ ap (λ n. slot_lines shown 0 (take k all) ++ slot_lines shown n (slot ∷ [])) (omega (arith, front_len))
        ∙ ap (λ (l : List ℕ). slot_lines shown 0 (take k all) ++ l) (append-nil (slot_line shown k slot))

    pub slot_damaged : (j : ℕ) → damage k (slot ∷ []) ≡ Some j → damage 0 all ≡ Some j
    slot_damaged j bad =
        ap (damage 0) (sym (take-append-drop k all)) ∙ damage-append 0 (take k all) (drop k all) so_far.sound
        ∙ ap (λ n. damage n (drop k all)) (omega (arith, front_len)) ∙ ap (damage k) next ∙ damage-first k (slot ∷ []) more j bad

    pub goes_on : (pending' : ℕ) (after : Option (List ℕ)) → damage k (slot ∷ []) ≡ None → Appends new after (slot_line shown k slot)
        → pending' ≡ pending + cond (is_pending slot) 1 0 → Listed shown file (k + 1) pending' old after
    goes_on pending' after good line count = record {
      within = there;
      lines = subst (Appends old after) (sym one_line) (appends_more old new after _ _ so_far.lines line);
      sound = ap (damage 0) one_more ∙ damage-append 0 (take k all) (slot ∷ []) so_far.sound ∙ ap (λ n. damage n (slot ∷ [])) (omega (arith, front_len)) ∙ good;
      count = count ∙ ap (λ n. n + cond (is_pending slot) 1 0) so_far.count ∙ sym (ap pending_count one_more ∙ pending-append (take k all) (slot ∷ []) ∙ last_one);
    }
      where
        last_one : pending_count (take k all) + pending_count (slot ∷ []) ≡ pending_count (take k all) + cond (is_pending slot) 1 0
        last_one = omega arith
