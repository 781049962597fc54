-- The slots of a file, read piece by piece.
use Rattle.std.proofs.Common.{◌≡◌, ◌≢◌, inl, inr, ℕ, zero, suc, ◌+◌, ◌*◌, ◌<◌, ◌≤◌, min, true, false, true≢false, List, [], ◌∷◌, ◌++◌, length, map, get_or, take, drop, Option, Some, None, is_none, cond, ◌==◌, ◌||◌, refl, sym, ◌∙◌, ap, arith, append_assoc, append-nil, length-append, length-drop, length-take, take-append-drop, take_all, get_or-take, take-take, drop-drop}
use Rattle.std.proofs.lemmas.List.{drop-take, length-map, map-append, take_min}
use Rattle.mcv_spool.specs.FoundFile.{IsFound}
use Rattle.mcv_spool.specs.File.{damage, is_open, read_record, slots, waiting}
use Rattle.mcv_spool.proofs.Slots.{open_gate, open_longer, makes_open, shut_short, slots-open, slots-shut, truth}
use Rattle.mcv_spool.specs.declared.record.SpoolRecord.{SpoolRecord}

-- a piece that ends with a gate is open where the file is
piece_open : (m : ℕ) (file : List ℕ) → is_open file ≡ true → is_open (take (640 * suc m + 1) file) ≡ true
piece_open m file h =
    let n = 640 * suc m + 1 in
    makes_open (length (take n file)) (get_or (take n file) 0 0)
    (omega (arith, length-take n file, open_longer (length file) (get_or file 0 0) h))
    (λ z. open_gate (length file) (get_or file 0 0) h (sym (get_or-take n file 0 0 (omega arith)) ∙ z))

piece_shut : (n : ℕ) (file : List ℕ) → is_open file ≡ false → is_open (take (n + 1) file) ≡ false
piece_shut n file h = elim (truth (is_open (take (n + 1) file))) [
  | inl o ↦
      let long : 640 < length file = omega (arith, length-take (n + 1) file, open_longer (length (take (n + 1) file)) (get_or (take (n + 1) file) 0 0) o) in
      let gate = λ (z : get_or file 0 0 ≡ 0). open_gate (length (take (n + 1) file)) (get_or (take (n + 1) file) 0 0) o (get_or-take (n + 1) file 0 0 (omega arith) ∙ z) in
      absurd (true≢false (sym (makes_open (length file) (get_or file 0 0) long gate) ∙ h))
  | inr s ↦ s
]

-- a piece of m slots and the gate behind them has the first m slots
pub slots-piece : (m : ℕ) (file : List ℕ) → slots (take (640 * m + 1) file) ≡ take m (slots file)
slots-piece zero file = slots-shut (take 1 file) (shut_short (length (take 1 file)) (get_or (take 1 file) 0 0) (omega (arith, length-take 1 file)))
slots-piece (suc m) file = elim (truth (is_open file)) [
  | inl o ↦
      let n = 640 * suc m + 1 in
      let piece : take n file ≡ take (640 + (640 * m + 1)) file = ap (λ k. take k file) (omega arith) in
      slots-open (take n file) (piece_open m file o)
      ∙ ap (λ (l : List ℕ). l ∷ slots (drop 640 (take n file))) (take-take 640 n file (omega arith))
      ∙ ap (λ (l : List ℕ). take 640 file ∷ slots l) (ap (λ (l : List ℕ). drop 640 l) piece ∙ drop-take 640 (640 * m + 1) file)
      ∙ ap (λ (l : List (List ℕ)). take 640 file ∷ l) (slots-piece m (drop 640 file))
      ∙ ap (λ (l : List (List ℕ)). take (suc m) l) (sym (slots-open file o))
  | inr s ↦ slots-shut (take (640 * suc m + 1) file) (piece_shut (640 * suc m) file s) ∙ ap (λ (l : List (List ℕ)). take (suc m) l) (sym (slots-shut file s))
]

-- behind the first m slots come the others
pub slots-behind : (m : ℕ) (file : List ℕ) → m ≤ length (slots file) → slots (drop (640 * m) file) ≡ drop m (slots file)
slots-behind zero file h = refl
slots-behind (suc m) file h = elim (truth (is_open file)) [
  | inl o ↦
      let step = slots-open file o in
      let at : drop (640 * suc m) file ≡ drop (640 * m) (drop 640 file) = ap (λ k. drop k file) (omega arith) ∙ sym (drop-drop (640 * m) 640 file) in
      ap slots at ∙ slots-behind m (drop 640 file) (omega (arith, ap length step)) ∙ ap (λ (l : List (List ℕ)). drop (suc m) l) (sym step)
  | inr s ↦ absurd (omega (arith, h, ap length (slots-shut file s)))
]

-- ---- what is found, in front and behind

pub damage-append : (k : ℕ) (xs ys : List (List ℕ)) → damage k xs ≡ None → damage k (xs ++ ys) ≡ damage (k + length xs) ys
damage-append k [] ys h = ap (λ n. damage n ys) (omega arith)
damage-append k (x ∷ xs) ys h = elim (truth (k == 1000000 || is_none (read_record x))) [
  | inl bad ↦ absurd (some_none k (sym (ap (λ b. cond b (Some k) (damage (k + 1) xs)) bad) ∙ h))
  | inr good ↦
      ap (λ b. cond b (Some k) (damage (k + 1) (xs ++ ys))) good
      ∙ damage-append (k + 1) xs ys (sym (ap (λ b. cond b (Some k) (damage (k + 1) xs)) good) ∙ h)
      ∙ ap (λ n. damage n ys) (omega arith)
]
  where
    some_none : (k : ℕ) → Some k ≡ None → ⊥
    some_none k e = cc

pub damage-first : (k : ℕ) (xs ys : List (List ℕ)) (j : ℕ) → damage k xs ≡ Some j → damage k (xs ++ ys) ≡ Some j
damage-first k [] ys j h = absurd (none_some j h)
  where
    none_some : (j : ℕ) → None ≡ Some j → ⊥
    none_some j e = cc
damage-first k (x ∷ xs) ys j h = elim (truth (k == 1000000 || is_none (read_record x))) [
  | inl bad ↦ ap (λ b. cond b (Some k) (damage (k + 1) (xs ++ ys))) bad ∙ sym (ap (λ b. cond b (Some k) (damage (k + 1) xs)) bad) ∙ h
  | inr good ↦
      ap (λ b. cond b (Some k) (damage (k + 1) (xs ++ ys))) good ∙ damage-first (k + 1) xs ys j (sym (ap (λ b. cond b (Some k) (damage (k + 1) xs)) good) ∙ h)
]

-- what is read of a piece, as long as what is left or a piece's size
pub piece_read : (file bytes : List ℕ) (left size : ℕ) → length file ≡ left → size ≡ min left 1024001 → bytes ≡ take size file → bytes ≡ take 1024001 file
piece_read file bytes left size left_is size_is is =
    let small : size ≡ min 1024001 (length file) = omega (arith, left_is, size_is) in
    is ∙ ap (λ n. take n file) small ∙ take_min 1024001 file

-- ---- a walk over the slots of some bytes

pub record Walked (before : List (Option SpoolRecord)) (bytes : List ℕ) (pending : List (Option SpoolRecord)) (rest : List ℕ) : Type 0 where
  pub left : 640 * length pending + length rest ≡ 640 * length before + length bytes
  pub undone : pending ++ map waiting (slots rest) ≡ before ++ map waiting (slots bytes)
  pub sound : damage (length pending) (slots rest) ≡ damage (length before) (slots bytes)

slots_step : (rest : List ℕ) → 640 < length rest → get_or rest 0 0 ≢ 0 → slots rest ≡ take 640 rest ∷ slots (drop 640 rest)
slots_step rest long gate = slots-open rest (makes_open (length rest) (get_or rest 0 0) long gate)

module _ (before : List (Option SpoolRecord)) (bytes : List ℕ) (pending : List (Option SpoolRecord)) (rest : List ℕ) (so_far : Walked before bytes pending rest) where
  -- one slot more
  pub walk_on : 640 < length rest → get_or rest 0 0 ≢ 0 → (slot more : List ℕ) → slot ≡ take 640 rest → more ≡ drop 640 rest → (pending' : List (Option SpoolRecord)) → damage (length pending) (slot ∷ []) ≡ None
      → pending' ≡ pending ++ waiting slot ∷ [] → Walked before bytes pending' more
  walk_on long gate slot more slot_is more_is pending' sound pending_is =
      let step : slots rest ≡ slot ∷ slots more = slots_step rest long gate ∙ (λ i. sym slot_is i ∷ slots (sym more_is i)) in
      let count_is : length pending' ≡ length pending + 1 = ap length pending_is ∙ length-append pending (waiting slot ∷ []) in
      record {
        left = omega (arith, so_far.left, count_is, long, ap length more_is, length-drop 640 rest);
        undone = ap (λ (l : List (Option SpoolRecord)). l ++ map waiting (slots more)) pending_is ∙ append_assoc pending (waiting slot ∷ []) (map waiting (slots more))
            ∙ ap (λ (ss : List (List ℕ)). pending ++ map waiting ss) (sym step) ∙ so_far.undone;
        sound = ap (λ n. damage n (slots more)) count_is ∙ sym (damage-append (length pending) (slot ∷ []) (slots more) sound) ∙ ap (damage (length pending)) (sym step) ∙ so_far.sound;
      }

  -- a slot that is damaged
  pub walk_damaged : 640 < length rest → get_or rest 0 0 ≢ 0 → (slot : List ℕ) → slot ≡ take 640 rest → (k : ℕ) → damage (length pending) (slot ∷ []) ≡ Some k → damage (length before) (slots bytes) ≡ Some k
  walk_damaged long gate slot slot_is k h =
      let step : slots rest ≡ slot ∷ slots (drop 640 rest) = slots_step rest long gate ∙ ap (λ (l : List ℕ). l ∷ slots (drop 640 rest)) (sym slot_is) in
      sym so_far.sound ∙ ap (damage (length pending)) step ∙ damage-first (length pending) (slot ∷ []) (slots (drop 640 rest)) k h

  module _ (shut : is_open rest ≡ false) where
    pub walk_sound : damage (length before) (slots bytes) ≡ None
    walk_sound = sym so_far.sound ∙ ap (damage (length pending)) (slots-shut rest shut)

    pub walk_undone : pending ≡ before ++ map waiting (slots bytes)
    walk_undone = sym (append-nil pending) ∙ ap (λ (ss : List (List ℕ)). pending ++ map waiting ss) (sym (slots-shut rest shut)) ∙ so_far.undone

-- ---- what has been found of a file, and what is left

pub record SoFar (file : List ℕ) (pending : List (Option SpoolRecord)) : Type 0 where
  pub undone : pending ++ map waiting (slots (drop (640 * length pending) file)) ≡ map waiting (slots file)
  pub sound : damage (length pending) (slots (drop (640 * length pending) file)) ≡ damage 0 (slots file)

module _ (file : List ℕ) (pending : List (Option SpoolRecord)) (so_far : SoFar file pending) (piece : List ℕ) (piece_is : piece ≡ take 1024001 (drop (640 * length pending) file)) where
  abbrev behind : List (List ℕ)
  behind = slots (drop (640 * length pending) file)

  slots_are : slots piece ≡ take 1600 behind
  slots_are = ap slots piece_is ∙ slots-piece 1600 (drop (640 * length pending) file)

  split : behind ≡ slots piece ++ drop 1600 behind
  split = sym (take-append-drop 1600 behind) ∙ ap (λ (l : List (List ℕ)). l ++ drop 1600 behind) (sym slots_are)

  -- a damaged slot of the piece is the file's
  pub damaged_piece : (k : ℕ) → damage (length pending) (slots piece) ≡ Some k → damage 0 (slots file) ≡ Some k
  damaged_piece k h = sym so_far.sound ∙ ap (damage (length pending)) split ∙ damage-first (length pending) (slots piece) (drop 1600 behind) k h

  module _ (new : List (Option SpoolRecord)) (sound : damage (length pending) (slots piece) ≡ None) (new_is : new ≡ pending ++ map waiting (slots piece)) where
    count_is : length new ≡ length pending + length (slots piece)
    count_is = omega (arith, ap length new_is, length-append pending (map waiting (slots piece)), length-map (slots piece) waiting)

    -- a piece with less than its slots is the last
    pub ended : length new < length pending + 1600 → IsFound file new
    ended less =
        let few : length behind ≤ 1600 = omega (arith, less, count_is, ap length slots_are, length-take 1600 behind) in
        let all : slots piece ≡ behind = slots_are ∙ take_all 1600 behind few in
        record {
          sound = sym so_far.sound ∙ ap (damage (length pending)) (sym all) ∙ sound;
          undone = new_is ∙ ap (λ (ss : List (List ℕ)). pending ++ map waiting ss) all ∙ so_far.undone;
        }

    -- a piece with all its slots
    pub goes_on : length new ≡ length pending + 1600 → SoFar file new
    goes_on more =
        let full : length (slots piece) ≡ 1600 = omega (arith, count_is, more) in
        let there : 1600 ≤ length behind = omega (arith, full, ap length slots_are, length-take 1600 behind) in
        let at : drop (640 * length new) file ≡ drop (640 * 1600) (drop (640 * length pending) file) = ap (λ n. drop n file) (omega (arith, more)) ∙ sym (drop-drop (640 * 1600) (640 * length pending) file) in
        let left : slots (drop (640 * length new) file) ≡ drop 1600 behind = ap slots at ∙ slots-behind 1600 (drop (640 * length pending) file) there in
        record {
          undone = (λ i. new_is i ++ map waiting (left i))
              ∙ append_assoc pending (map waiting (slots piece)) (map waiting (drop 1600 behind))
              ∙ ap (λ (l : List (Option SpoolRecord)). pending ++ l) (sym (map-append waiting (slots piece) (drop 1600 behind)))
              ∙ ap (λ (ss : List (List ℕ)). pending ++ map waiting ss) (sym split)
              ∙ so_far.undone;
          sound = ap (damage (length new)) left ∙ ap (λ n. damage n (drop 1600 behind)) count_is
              ∙ sym (damage-append (length pending) (slots piece) (drop 1600 behind) sound) ∙ ap (damage (length pending)) (sym split) ∙ so_far.sound;
        }
