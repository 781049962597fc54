-- The records of slots: one that is written reads back, and what is pending after a call.
use Rattle.std.proofs.Common.{◌≡◌, ◌≢◌, ◌⊎◌, inl, inr, ℕ, zero, suc, ◌+◌, ◌-◌, ◌<◌, ◌≤◌, Bool, true, false, true≢false, not, ◌==◌, ◌&&◌, ◌||◌, nat_le, nat_lt, cond, is_none, is_some, Option, Some, None, List, [], ◌∷◌, ◌++◌, length, map, get_or, take, drop, set, refl, sym, ◌∙◌, ap, arith, append_assoc, take_at, drop_at, zero-add, replicate, get_or-set_same}
use Rattle.std.proofs.lemmas.List.{map-append, map-set, set-get_or}
use Rattle.std.proofs.lemmas.Bool.Decides.{nat_tests}
use Rattle.mcv_base.specs.Key.{is_key_word}
use Rattle.mcv_base.specs.Server.{is_server}
use Rattle.mcv_spool.specs.File.{damage, is_done, marked, number_at, read_parts, read_record, slot_of, waiting}
use Rattle.mcv_spool.specs.declared.record.SpoolRecord.{SpoolRecord}
use Rattle.mcv_spool.proofs.Marks.{open_at, read_set}
use Rattle.mcv_spool.proofs.Pieces.{damage-append}
use Rattle.mcv_spool.proofs.Slots.{AllOpen}

small : (s r : ℕ) → s ≤ 261 → r ≤ 250 → (nat_le s 261 && nat_le r 250) ≡ true
small s r hs hr = grind (arith, nat_tests)

reads_as : (slot text : List ℕ) (s r : ℕ) → number_at slot 2 ≡ s → number_at slot 4 ≡ r → drop 6 slot ≡ text → s ≤ 261 → r ≤ 250
    → read_record slot ≡ read_parts (take s text) (take r (drop s text))
unfolding read_record
reads_as slot text s r s_is r_is text_is hs hr =
    ap (λ b. cond b (read_parts (take (number_at slot 2) (drop 6 slot)) (take (number_at slot 4) (drop (number_at slot 2) (drop 6 slot)))) None) (small (number_at slot 2) (number_at slot 4) (omega (arith, s_is, hs)) (omega (arith, r_is, hr)))
    ∙ (λ i. read_parts (take (s_is i) (text_is i)) (take (r_is i) (drop (s_is i) (text_is i))))

both_true : (server rest : List ℕ) → is_server server ≡ true → is_key_word rest ≡ true → read_parts server rest ≡ Some (record { server = server; rest = rest })
both_true server rest hs hr = ap (λ b. cond (b && is_key_word rest) (Some (record { server = server; rest = rest })) None) hs ∙ ap (λ b. cond b (Some (record { server = server; rest = rest })) None) hr

-- a record that is written reads back
pub reads_back : (r : SpoolRecord) → is_server r.server ≡ true → is_key_word r.rest ≡ true → length r.server ≤ 261 → length r.rest ≤ 250 → read_record (slot_of r) ≡ Some r
reads_back r server_reads rest_reads hs hr =
    let zeros : List ℕ = replicate (634 - length r.server - length r.rest) 0 in
    let text : List ℕ = (r.server ++ r.rest) ++ zeros in
    let front : take (length r.server) text ≡ r.server = ap (λ (l : List ℕ). take (length r.server) l) (append_assoc r.server r.rest zeros) ∙ take_at r.server (r.rest ++ zeros) (length r.server) refl in
    let back : drop (length r.server) text ≡ r.rest ++ zeros = ap (λ (l : List ℕ). drop (length r.server) l) (append_assoc r.server r.rest zeros) ∙ drop_at r.server (r.rest ++ zeros) (length r.server) refl in
    let rest_is : take (length r.rest) (drop (length r.server) text) ≡ r.rest = ap (λ (l : List ℕ). take (length r.rest) l) back ∙ take_at r.rest zeros (length r.rest) refl in
    reads_as (slot_of r) text (length r.server) (length r.rest) (omega arith) (omega arith) refl hs hr
    ∙ (λ i. read_parts (front i) (rest_is i)) ∙ both_true r.server r.rest server_reads rest_reads

module _ (all : List (List ℕ)) (r : SpoolRecord) (reads : read_record (slot_of r) ≡ Some r) where
  -- one record more is pending
  pub waiting_push : map waiting (all ++ slot_of r ∷ []) ≡ map waiting all ++ Some r ∷ []
  waiting_push = map-append waiting all (slot_of r ∷ []) ∙ ap (λ o. map waiting all ++ o ∷ []) reads

  pub damage_push : damage 0 all ≡ None → length all < 1000000 → damage 0 (all ++ slot_of r ∷ []) ≡ None
  damage_push sound room =
      damage-append 0 all (slot_of r ∷ []) sound
      ∙ ap (λ o. cond ((0 + length all) == 1000000 || is_none o) (Some (0 + length all)) None) reads
      ∙ ap (λ b. cond (b || false) (Some (0 + length all)) None) (other (0 + length all) (omega arith))
    where
      other : (n : ℕ) → n < 1000000 → (n == 1000000) ≡ false
      other n h = grind (arith, nat_tests)

-- ---- a record is marked as done

marked_damage : (j k : ℕ) (all : List (List ℕ)) → damage j (marked k all) ≡ damage j all
marked_damage j k [] = refl
marked_damage j zero (s ∷ all) = ap (λ o. cond (j == 1000000 || is_none o) (Some j) (damage (j + 1) all)) (read_set s 1)
marked_damage j (suc k) (s ∷ all) = ap (λ d. cond (j == 1000000 || is_none (read_record s)) (Some j) d) (marked_damage (j + 1) k all)

pub sound_marked : (k : ℕ) (all : List (List ℕ)) → damage 0 all ≡ None → damage 0 (marked k all) ≡ None
sound_marked k all sound = marked_damage 0 k all ∙ sound

-- nothing is pending in it any more
pub waiting_marked : (k : ℕ) (all : List (List ℕ)) → AllOpen all → k < length all → map waiting (marked k all) ≡ set (map waiting all) k None
waiting_marked k all open_all h =
    let s = get_or all k [] in
    let marks : is_done (set s 1 1) ≡ true = ap (λ b. not (b == 0)) (get_or-set_same s 1 1 0 (omega (arith, (open_at all k open_all h).size))) in
    map-set waiting all k (set s 1 1) ∙ ap (λ b. set (map waiting all) k (cond b None (read_record (set s 1 1)))) marks

-- where nothing is pending, taking it away changes nothing
pub nothing_there : (k : ℕ) (all : List (Option SpoolRecord)) → is_some (get_or all k None) ≡ false → all ≡ set all k None
nothing_there k all h = sym (set-get_or all k None) ∙ ap (λ o. set all k o) (is_none_of (get_or all k None) h)
  where
    is_none_of : (o : Option SpoolRecord) → is_some o ≡ false → o ≡ None
    is_none_of None h = refl
    is_none_of (Some r) h = absurd (true≢false h)

key_bound : (n : ℕ) (b : Bool) → (nat_lt 0 n && (nat_le n 250 && b)) ≡ true → n ≤ 250
key_bound n b h = grind (arith, nat_tests)

-- a rest has 250 bytes at most
pub key_short : (rest : List ℕ) → is_key_word rest ≡ true → length rest ≤ 250
key_short rest h = key_bound (length rest) _ h
