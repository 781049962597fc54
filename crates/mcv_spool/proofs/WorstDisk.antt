-- The worst disk keeps the model.
use Rattle.std.proofs.Common.{◌≡◌, ◌⊎◌, inl, inr, ℕ, ◌+◌, ◌-◌, ◌≤◌, List, [], ◌∷◌, ◌++◌, length, take, drop, refl, sym, ◌∙◌, ap, subst, arith, append_assoc, length-append, length-drop, length-take, take_at, drop_at}
use Rattle.mcv_spool.specs.Disk.{Changes, Cut, Torn, written}
use Rattle.mcv_spool.specs.WorstDisk.{Change, KeepsModel, left_of, left_since_of, read_of}
use Rattle.mcv_spool.proofs.Moments.{quiet_start}

written_torn : (file bytes : List ℕ) (at : ℕ) → at ≤ length file → Torn at (length bytes) file (written file at bytes)
written_torn file bytes at h =
    let front : length (take at file) ≡ at = omega (arith, length-take at file) in
    let whole : written file at bytes ≡ take at file ++ (bytes ++ drop (at + length bytes) file) = append_assoc (take at file) bytes (drop (at + length bytes) file) in
    let size : length (written file at bytes) ≡ at + length bytes + (length file - (at + length bytes)) = omega (arith, length-append (take at file ++ bytes) (drop (at + length bytes) file), length-append (take at file) bytes, front, length-drop (at + length bytes) file) in
    record {
      before = ap (take at) whole ∙ take_at (take at file) (bytes ++ drop (at + length bytes) file) at front;
      after = drop_at (take at file ++ bytes) (drop (at + length bytes) file) (at + length bytes) (omega (arith, length-append (take at file) bytes, front));
      no_shorter = omega (arith, size);
      no_longer = omega (arith, size);
    }

take_cut : (file : List ℕ) (n : ℕ) → n ≤ length file → Cut n file (take n file)
take_cut file n h =
    let size : length (take n file) ≡ n = omega (arith, length-take n file) in
    record {
      before = take_whole (take n file) n size;
      no_longer = omega (arith, size);
    }
  where
    take_whole : (l : List ℕ) (n : ℕ) → length l ≡ n → take n l ≡ l
    take_whole l n is = ap (take n) (sym (nil l)) ∙ take_at l [] n is
      where
        nil : (l : List ℕ) → l ++ [] ≡ l
        nil [] = refl
        nil (x ∷ l) = ap (λ (m : List ℕ). x ∷ m) (nil l)

early : (log : List Change) (t : ℕ) (c : List ℕ) → left_since_of log t c → t ≤ length log
early [] t c left = left.0
early (change ∷ log) t c (inl here) = here.0
early (change ∷ log) t c (inr before) = omega (arith, early log t c before)

read_left : (log : List Change) → left_of log (read_of log)
read_left [] = refl
read_left (Change.write at bytes ∷ log) = inl refl
read_left (Change.cut n ∷ log) = inl refl
read_left (Change.sync ∷ log) = refl

now_counts : (log : List Change) (t : ℕ) (c : List ℕ) → t ≤ length log → left_of log c → left_since_of log t c
now_counts [] t c le left = (le, left)
now_counts (change ∷ log) t c le left = inl (le, left)

now_only : (log : List Change) (c : List ℕ) → left_since_of log (length log) c → left_of log c
now_only [] c left = left.1
now_only (change ∷ log) c (inl here) = here.1
now_only (change ∷ log) c (inr before) = absurd (omega (arith, early log (length (change ∷ log)) c before))

one_more : (change : Change) (log : List Change) (t : ℕ) (c : List ℕ) → left_since_of (change ∷ log) t c → left_since_of log t c ⊎ left_of (change ∷ log) c
one_more change log t c (inl here) = inr here.1
one_more change log t c (inr before) = inl before

changes : (change : Change) (log : List Change) (step : List ℕ → List ℕ → Type 0) → ((c : List ℕ) → left_of (change ∷ log) c → (d : List ℕ) × left_of log d × step d c)
    → Changes left_of length left_since_of step log (change ∷ log)
changes change log step crash = record {
  crash = crash;
  later = omega arith;
  since = λ t c le left. one_more change log t c left;
  forgets_nothing = λ t c le left. inr left;
}

write_crash : (log : List Change) (at : ℕ) (bytes : List ℕ) → at ≤ length (read_of log) → (c : List ℕ) → left_of (Change.write at bytes ∷ log) c → (d : List ℕ) × left_of log d × Torn at (length bytes) d c
write_crash log at bytes h c (inl is) = (read_of log, read_left log, subst (Torn at (length bytes) (read_of log)) (sym is) (written_torn (read_of log) bytes at h))
write_crash log at bytes h c (inr torn) = torn

cut_crash : (log : List Change) (n : ℕ) → n ≤ length (read_of log) → (c : List ℕ) → left_of (Change.cut n ∷ log) c → (d : List ℕ) × left_of log d × Cut n d c
cut_crash log n h c (inl is) = (read_of log, read_left log, subst (Cut n (read_of log)) (sym is) (take_cut (read_of log) n h))
cut_crash log n h c (inr torn) = torn

sync_since : (log : List Change) (t : ℕ) (c : List ℕ) → t ≤ length log → left_since_of (Change.sync ∷ log) t c → left_since_of log t c
sync_since log t c le (inl here) = now_counts log t c le (subst (left_of log) (sym here.1) (read_left log))
sync_since log t c le (inr before) = before

pub kept : KeepsModel read_of left_of length left_since_of
kept = record {
  write_at = λ log at bytes h. (Change.write at bytes ∷ log, refl, changes (Change.write at bytes) log (Torn at (length bytes)) (write_crash log at bytes h));
  cut = λ log n h. (Change.cut n ∷ log, refl, changes (Change.cut n) log (Cut n) (cut_crash log n h));
  sync = λ log. (
    Change.sync ∷ log,
    (λ c left. left),
    record {
      same = refl;
      crash = λ c left. subst (left_of log) (sym left) (read_left log);
      later = omega arith;
      since = λ t c le left. sync_since log t c le left;
      forgets_nothing = λ t c le left. inr left;
    },
  );
  len_read_and_renew = λ log. quiet_start read_of left_of length left_since_of log;
  read_may_stay = read_left;
  counts_now = now_counts;
  only_now = now_only;
}
