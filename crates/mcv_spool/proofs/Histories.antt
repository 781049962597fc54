-- What a crash may leave after any list of calls.
use Rattle.std.proofs.Common.{◌≡◌, ◌⊎◌, inl, inr, ⊎_elim, ℕ, zero, suc, ◌+◌, ◌<◌, ◌≤◌, ◌==◌, Bool, true, false, true≢false, List, [], ◌∷◌, ◌++◌, length, map, get_or, set, Option, Some, None, is_none, cond, drop, ◌||◌, refl, sym, ◌∙◌, ap, subst, arith, append_assoc, length-append, get_or-set_other}
use Rattle.std.proofs.lemmas.Bool.{cases_eq}
use Rattle.std.proofs.lemmas.Bool.Decides.{nat_tests}
use Rattle.std.proofs.lemmas.List.{append-nil, length-map, map-append}
use Rattle.std.specs.List.{Contains}
use Rattle.mcv_spool.specs.Disk.{LeavesOnly}
use Rattle.mcv_spool.specs.File.{damage, is_done, marked, read_record, slot_of, slots, slots_within, waiting}
use Rattle.mcv_spool.specs.Version.{HasSlotsOf, IsBeforeOrAfter, IsVersion}
use Rattle.mcv_spool.specs.History.{Reported, HasNumber, IsKept, SpoolState, record_in, records_of, nothing_reported, reported_found, reported_stored, reported_tried, reported_done, SpoolCall, History}
use Rattle.mcv_spool.specs.declared.record.SpoolRecord.{SpoolRecord}
use Rattle.mcv_spool.proofs.Marks.{records_marked}
use Rattle.mcv_spool.proofs.Versions.{counted}

-- a record that was just added isn't done
done_added : (all : List (List ℕ)) (r : SpoolRecord) (k : ℕ) → is_done (get_or (all ++ slot_of r ∷ []) k []) ≡ true → is_done (get_or all k []) ≡ true
done_added [] r zero h = absurd (true≢false (sym h))
done_added [] r (suc k) h = h
done_added (s ∷ all) r zero h = h
done_added (s ∷ all) r (suc k) h = done_added all r k h

-- marked as done is what was, and the one that is
done_marked : (all : List (List ℕ)) (k j : ℕ) → is_done (get_or (marked k all) j []) ≡ true → (j ≡ k) ⊎ (is_done (get_or all j []) ≡ true)
done_marked all k j h = elim (cases_eq j k) [
  | inl same ↦ inl same
  | inr other ↦ inr (subst (λ (s : List ℕ). is_done s ≡ true) (get_or-set_other all k j (set (get_or all k []) 1 1) [] other) h)
]

contains_first : (x y : ℕ) (xs : List ℕ) → y ≡ x → Contains (x ∷ xs) y
contains_first x y xs is = (0, omega arith, sym is)

contains_more : (x y : ℕ) (xs : List ℕ) → Contains xs y → Contains (x ∷ xs) y
contains_more x y xs there = (suc there.0, omega (arith, there.1), there.2)

-- an empty file
slots_none : slots [] ≡ []
unfolding slots slots_within
slots_none = refl

-- ---- what is kept

nothing_kept : IsKept nothing_reported []
nothing_kept = record {
  more = [];
  others = [];
  prefix = refl;
  records = ap (λ (ss : List (List ℕ)). map read_record ss) slots_none;
  few = omega (arith, ap length slots_none);
  done = λ k h. absurd (true≢false (sym (subst (λ (ss : List (List ℕ)). is_done (get_or ss k []) ≡ true) slots_none h)));
}

-- a file with the same slots
kept_same : (t : Reported) (c d : List ℕ) → slots d ≡ slots c → IsKept t c → IsKept t d
kept_same t c d same kept = record {
  more = kept.more;
  others = kept.others;
  prefix = kept.prefix;
  records = ap (λ (ss : List (List ℕ)). map read_record ss) same ∙ kept.records;
  few = omega (arith, kept.few, ap length same);
  done = λ k h. kept.done k (subst (λ (ss : List (List ℕ)). is_done (get_or ss k []) ≡ true) same h);
}

-- one more append that isn't known to be on the disk
kept_tried : (t : Reported) (r : SpoolRecord) (c : List ℕ) → IsKept t c → IsKept (reported_tried r t) c
kept_tried t r c kept = record {
  more = kept.more;
  others = kept.others ++ r ∷ [];
  prefix = ap (λ (l : List SpoolRecord). l ++ r ∷ []) kept.prefix ∙ append_assoc kept.more kept.others (r ∷ []);
  records = kept.records;
  few = kept.few;
  done = kept.done;
}

kept_done : (t : Reported) (k : ℕ) (c : List ℕ) → IsKept t c → IsKept (reported_done k t) c
kept_done t k c kept = record {
  more = kept.more;
  others = kept.others;
  prefix = kept.prefix;
  records = kept.records;
  few = kept.few;
  done = λ j h. contains_more k j t.done (kept.done j h);
}

-- the records of a file on which a spool is open
abbrev Whole : Reported → List (List ℕ) → Type 0
Whole t all = (map read_record all ≡ map Some (t.found ++ t.stored)) × (t.tried ≡ [])

-- a file with the records that are reported, each done only where it was reported
kept_whole : (t : Reported) (all : List (List ℕ)) (c : List ℕ) → length all ≤ 1000000 → map read_record all ≡ map Some (t.found ++ t.stored) → map read_record (slots c) ≡ map read_record all
    → ((k : ℕ) → is_done (get_or (slots c) k []) ≡ true → Contains t.done k) → IsKept t c
kept_whole t all c room whole same done =
    let size : length (slots c) ≡ length all = sym (length-map (slots c) read_record) ∙ ap length same ∙ length-map all read_record in
    record {
      more = [];
      others = t.tried;
      prefix = refl;
      records = same ∙ whole ∙ ap (λ (l : List SpoolRecord). map Some l) (sym (append-nil (t.found ++ t.stored)));
      few = omega (arith, room, size);
      done = done;
    }

added : (t : Reported) (r : SpoolRecord) (all : List (List ℕ)) → map read_record all ≡ map Some (t.found ++ t.stored) → read_record (slot_of r) ≡ Some r
    → map read_record (all ++ slot_of r ∷ []) ≡ map Some (t.found ++ t.stored ++ r ∷ [])
added t r all whole reads =
    map-append read_record all (slot_of r ∷ [])
    ∙ (λ i. whole i ++ reads i ∷ [])
    ∙ sym (map-append Some (t.found ++ t.stored) (r ∷ []))

-- before or after an append
kept_either : (t : Reported) (r : SpoolRecord) (old c : List ℕ) → Whole t (slots old) → IsKept t old → read_record (slot_of r) ≡ Some r → length (slots old) < 1000000 → IsBeforeOrAfter (slots old) r c
    → IsKept (reported_tried r t) c
kept_either t r old c whole kept reads room (inl v) = kept_tried t r c (kept_whole t (slots old) c kept.few whole.0 v.records (λ k h. kept.done k (v.done k h)))
kept_either t r old c whole kept reads room (inr v) = record {
  more = r ∷ [];
  others = [];
  prefix = ap (λ (l : List SpoolRecord). l ++ r ∷ []) whole.1;
  records = v.records ∙ added t r (slots old) whole.0 reads;
  few = omega (arith, room, counted (slots old ++ slot_of r ∷ []) c v, length-append (slots old) (slot_of r ∷ []));
  done = λ k h. kept.done k (done_added (slots old) r k (v.done k h));
}

-- in or after a done
kept_marked : (t : Reported) (k : ℕ) (old c : List ℕ) → Whole t (slots old) → IsKept t old → IsVersion (marked k (slots old)) c → IsKept (reported_done k t) c
kept_marked t k old c whole kept v =
    kept_whole (reported_done k t) (slots old) c kept.few whole.0 (v.records ∙ records_marked (slots old) k 1)
    (λ j h. ⊎_elim (λ same. contains_first k j t.done same) (λ before. contains_more k j t.done (kept.done j before)) (done_marked (slots old) k j (v.done j h)))

-- ---- records

one_read : (j : ℕ) (b : Bool) (o : Option SpoolRecord) (more : Option ℕ) → cond (b || is_none o) (Some j) more ≡ None → (o ≡ None → ⊥) × (more ≡ None)
one_read j true o more h = absurd (subst Full h tt)
  where
    Full : Option ℕ → Type 0
    Full (Some n) = Unit {0}
    Full None = ⊥
one_read j false None more h = absurd (subst Full h tt)
  where
    Full : Option ℕ → Type 0
    Full (Some n) = Unit {0}
    Full None = ⊥
one_read j false (Some r) more h = (λ e. subst Full e tt, h)
  where
    Full : Option SpoolRecord → Type 0
    Full (Some n) = Unit {0}
    Full None = ⊥

is_read : (o : Option SpoolRecord) (rest : List (Option SpoolRecord)) (all : List SpoolRecord) → (o ≡ None → ⊥) → rest ≡ map Some all → o ∷ rest ≡ map Some (record_in o ++ all)
is_read None rest all some same = absurd (some refl)
is_read (Some r) rest all some same = ap (λ (l : List (Option SpoolRecord)). Some r ∷ l) same

-- slots that aren't damaged read
pub all_read : (j : ℕ) (all : List (List ℕ)) → damage j all ≡ None → map read_record all ≡ map Some (records_of all)
all_read j [] h = refl
all_read j (s ∷ all) h =
    let one = one_read j (j == 1000000) (read_record s) (damage (j + 1) all) h in
    is_read (read_record s) (map read_record all) (records_of all) one.0 (all_read (j + 1) all one.1)

abbrev given : List (Option SpoolRecord) → List SpoolRecord
given [] = []
given (None ∷ all) = given all
given (Some r ∷ all) = r ∷ given all

given_back : (all : List SpoolRecord) → given (map Some all) ≡ all
given_back [] = refl
given_back (r ∷ all) = ap (λ (l : List SpoolRecord). r ∷ l) (given_back all)

pub same_records : (all more : List SpoolRecord) → map Some all ≡ map Some more → all ≡ more
same_records all more same = sym (given_back all) ∙ ap given same ∙ given_back more

abbrev first_of_slots : List (Option SpoolRecord) → Option SpoolRecord
first_of_slots [] = None
first_of_slots (o ∷ all) = o

not_limit : (n : ℕ) → n < 1000000 → (n == 1000000) ≡ false
not_limit n h = grind (arith, nat_tests)

-- slots that read, of which there are no more than a file may have, aren't damaged
pub not_damaged : (j : ℕ) (all : List (List ℕ)) (recs : List SpoolRecord) → map read_record all ≡ map Some recs → j + length all ≤ 1000000 → damage j all ≡ None
not_damaged j [] recs same few = refl
not_damaged j (s ∷ all) [] same few = absurd (omega (arith, ap length same))
not_damaged j (s ∷ all) (r ∷ recs) same few =
    let reads : read_record s ≡ Some r = (λ i. first_of_slots (same i)) in
    ap (λ o. cond (j == 1000000 || is_none o) (Some j) (damage (j + 1) all)) reads
    ∙ ap (λ b. cond (b || false) (Some j) (damage (j + 1) all)) (not_limit j (omega (arith, few)))
    ∙ not_damaged (j + 1) all recs (ap (drop 1) same) (omega (arith, few))

-- a record that isn't done is pending
is_waiting : (k : ℕ) (all : List (List ℕ)) (recs : List SpoolRecord) (r : SpoolRecord) → map read_record all ≡ map Some recs → k < length recs → get_or recs k r ≡ r → is_done (get_or all k []) ≡ false
    → get_or (map waiting all) k None ≡ Some r
is_waiting k [] [] r same h at undone = absurd (omega (arith, h))
is_waiting k [] (x ∷ recs) r same h at undone = absurd (omega (arith, ap length same))
is_waiting k (s ∷ all) [] r same h at undone = absurd (omega (arith, ap length same))
is_waiting zero (s ∷ all) (x ∷ recs) r same h at undone =
    let reads : read_record s ≡ Some r = (λ i. first_of_slots (same i)) ∙ (λ i. Some (at i)) in
    (λ i. cond (undone i) None (reads i))
is_waiting (suc k) (s ∷ all) (x ∷ recs) r same h at undone = is_waiting k all recs r (ap (drop 1) same) (omega (arith, h)) at undone

-- a record that was reported is pending, or `done` was called for it
pub pending_or_done : (t : Reported) (file : List ℕ) → Whole t (slots file) → IsKept t file → (r : SpoolRecord) (k : ℕ) → HasNumber t r k → Contains t.done k ⊎ (get_or (map waiting (slots file)) k None ≡ Some r)
pending_or_done t file whole kept r k number = by_done (is_done (get_or (slots file) k [])) refl
  where
    by_done : (b : Bool) → is_done (get_or (slots file) k []) ≡ b → Contains t.done k ⊎ (get_or (map waiting (slots file)) k None ≡ Some r)
    by_done true is = inl (kept.done k is)
    by_done false is = inr (is_waiting k (slots file) (t.found ++ t.stored) r whole.0 number.0 number.1 is)

-- what an `open` finds is what is kept
pub found_kept : (t : Reported) (file : List ℕ) (records : List SpoolRecord) → IsKept t file → map read_record (slots file) ≡ map Some records
    → (more : List SpoolRecord) × (others : List SpoolRecord) × (t.tried ≡ more ++ others) × (records ≡ t.found ++ t.stored ++ more)
found_kept t file records kept reads = (kept.more, kept.others, kept.prefix, same_records records (t.found ++ t.stored ++ kept.more) (sym reads ∙ kept.records))

-- ---- histories

module _ {D : Type 0} (seen : D → List ℕ) (may_leave : D → List ℕ → Type 0) (moment : D → ℕ) (left_since : D → ℕ → List ℕ → Type 0)
    (read_may_stay : (disk : D) → may_leave disk (seen disk))
    (counts_now : (disk : D) (t : ℕ) (c : List ℕ) → t ≤ moment disk → may_leave disk c → left_since disk t c)
    (only_now : (disk : D) (c : List ℕ) → left_since disk (moment disk) c → may_leave disk c) where
  -- what is known after any list of calls
  pub record Sound (t : Reported) (w : SpoolState D) : Type 0 where
    pub crash : (c : List ℕ) → may_leave w.disk c → IsKept t c
    pub whole : w.is_ready ≡ true → Whole t (slots (seen w.disk))

  -- what a crash since the beginning of a call may have left
  since_then : (old new : D) (P Q : List ℕ → Type 0) → LeavesOnly moment left_since old new P → ((c : List ℕ) → may_leave old c → Q c) → ((c : List ℕ) → P c → Q c)
      → (c : List ℕ) → left_since new (moment old) c → Q c
  since_then old new P Q run before here c left = ⊎_elim (λ past. before c (only_now old c past)) (λ p. here c p) (run.since (moment old) c (omega arith) left)

  now : (old new : D) (P Q : List ℕ → Type 0) → LeavesOnly moment left_since old new P → ((c : List ℕ) → may_leave old c → Q c) → ((c : List ℕ) → P c → Q c)
      → (c : List ℕ) → may_leave new c → Q c
  now old new P Q run before here c left = since_then old new P Q run before here c (counts_now new (moment old) c run.later left)

  -- at any moment of a call
  pub within : (t : Reported) (old new : SpoolState D) (answered stopped : Reported → Reported) → Sound t old → SpoolCall seen may_leave moment left_since old new answered stopped
      → (c : List ℕ) → left_since new.disk (moment old.disk) c → IsKept (stopped t) c
  within t old new answered stopped sound (SpoolCall.found records o n finds ready) = since_then o.disk n.disk (HasSlotsOf (may_leave o.disk)) (IsKept t) finds.any_moment sound.crash (λ c p. kept_same t p.0 c p.2 (sound.crash p.0 p.1))
  within t old new answered stopped sound (SpoolCall.not_found o n leaves ready) = since_then o.disk n.disk (HasSlotsOf (may_leave o.disk)) (IsKept t) leaves sound.crash (λ c p. kept_same t p.0 c p.2 (sound.crash p.0 p.1))
  within t old new answered stopped sound (SpoolCall.stored r o n before stores ready) = since_then o.disk n.disk (IsBeforeOrAfter (slots (seen o.disk)) r) (IsKept (reported_tried r t)) stores.writes.any_moment (λ c left. kept_tried t r c (sound.crash c left))
      (λ c p. kept_either t r (seen o.disk) c (sound.whole before) (sound.crash (seen o.disk) (read_may_stay o.disk)) stores.writes.reads stores.writes.room p)
  within t old new answered stopped sound (SpoolCall.not_stored r o n before writes ready) = since_then o.disk n.disk (IsBeforeOrAfter (slots (seen o.disk)) r) (IsKept (reported_tried r t)) writes.any_moment (λ c left. kept_tried t r c (sound.crash c left))
      (λ c p. kept_either t r (seen o.disk) c (sound.whole before) (sound.crash (seen o.disk) (read_may_stay o.disk)) writes.reads writes.room p)
  within t old new answered stopped sound (SpoolCall.marks k o n before marks) = since_then o.disk n.disk (IsVersion (marked k (slots (seen o.disk)))) (IsKept (reported_done k t)) marks.any_moment (λ c left. kept_done t k c (sound.crash c left))
      (λ c p. kept_marked t k (seen o.disk) c (sound.whole before) (sound.crash (seen o.disk) (read_may_stay o.disk)) p)
  within t old new answered stopped sound (SpoolCall.nothing w) = λ c left. sound.crash c (only_now w.disk c left)

  -- the file that a read gives is one that a crash may leave
  seen_kept : (t : Reported) (old new : SpoolState D) (answered stopped : Reported → Reported) → Sound t old → SpoolCall seen may_leave moment left_since old new answered stopped → moment old.disk ≤ moment new.disk
      → IsKept (stopped t) (seen new.disk)
  seen_kept t old new answered stopped sound call later = within t old new answered stopped sound call (seen new.disk) (counts_now new.disk (moment old.disk) (seen new.disk) later (read_may_stay new.disk))

  false_true : (b : Bool) (A : Type 0) → b ≡ false → b ≡ true → A
  false_true b A is_false is_true = absurd (true≢false (sym is_true ∙ is_false))

  -- once a call has answered
  pub after : (t : Reported) (old new : SpoolState D) (answered stopped : Reported → Reported) → Sound t old → SpoolCall seen may_leave moment left_since old new answered stopped → Sound (answered t) new
  after t old new answered stopped sound (SpoolCall.found records o n finds ready) =
      let whole : map read_record (slots (seen n.disk)) ≡ map Some (records ++ []) = ap (λ (ss : List (List ℕ)). map read_record ss) finds.same ∙ finds.reads ∙ ap (λ (l : List SpoolRecord). map Some l) (sym (append-nil records)) in
      let kept = seen_kept t o n (reported_found records) (λ t. t) sound (SpoolCall.found records o n finds ready) finds.any_moment.later in
      record {
        crash = λ c left. kept_whole (reported_found records t) (slots (seen n.disk)) c kept.few whole (ap (λ (f : List ℕ). map read_record (slots f)) (finds.durable c left))
            (λ k h. kept.done k (subst (λ (f : List ℕ). is_done (get_or (slots f) k []) ≡ true) (finds.durable c left) h));
        whole = λ yes. (whole, refl);
      }
  after t old new answered stopped sound (SpoolCall.not_found o n leaves ready) = record {
    crash = now o.disk n.disk (HasSlotsOf (may_leave o.disk)) (IsKept t) leaves sound.crash (λ c p. kept_same t p.0 c p.2 (sound.crash p.0 p.1));
    whole = λ yes. false_true n.is_ready (Whole t (slots (seen n.disk))) ready yes;
  }
  after t old new answered stopped sound (SpoolCall.stored r o n before stores ready) =
      let was = sound.whole before in
      let whole : map read_record (slots (seen n.disk)) ≡ map Some (t.found ++ (t.stored ++ r ∷ [])) =
      ap (λ (ss : List (List ℕ)). map read_record ss) stores.adds ∙ added t r (slots (seen o.disk)) was.0 stores.writes.reads ∙ ap (λ (l : List SpoolRecord). map Some l) (append_assoc t.found t.stored (r ∷ [])) in
      let kept = seen_kept t o n (reported_stored r) (reported_tried r) sound (SpoolCall.stored r o n before stores ready) stores.writes.any_moment.later in
      record {
        crash = λ c left. kept_whole (reported_stored r t) (slots (seen n.disk)) c kept.few whole (ap (λ (f : List ℕ). map read_record (slots f)) (stores.durable c left))
            (λ k h. kept.done k (subst (λ (f : List ℕ). is_done (get_or (slots f) k []) ≡ true) (stores.durable c left) h));
        whole = λ yes. (whole, was.1);
      }
  after t old new answered stopped sound (SpoolCall.not_stored r o n before writes ready) = record {
    crash = λ c left. within t o n (reported_tried r) (reported_tried r) sound (SpoolCall.not_stored r o n before writes ready) c (counts_now n.disk (moment o.disk) c writes.any_moment.later left);
    whole = λ yes. false_true n.is_ready (Whole (reported_tried r t) (slots (seen n.disk))) ready yes;
  }
  after t old new answered stopped sound (SpoolCall.marks k o n before marks) = record {
    crash = λ c left. within t o n (reported_done k) (reported_done k) sound (SpoolCall.marks k o n before marks) c (counts_now n.disk (moment o.disk) c marks.any_moment.later left);
    whole = λ yes. (marks.same yes ∙ (sound.whole before).0, (sound.whole before).1);
  }
  after t old new answered stopped sound (SpoolCall.nothing w) = sound

  pub sound : (t : Reported) (w : SpoolState D) → History seen may_leave moment left_since t w → Sound t w
  sound t w (History.began d empty) = record {
    crash = λ c left. subst (IsKept nothing_reported) (sym (empty c left)) nothing_kept;
    whole = λ yes. absurd (true≢false (sym yes));
  }
  sound t w (History.called u old new answered stopped so_far call) = after u old new answered stopped (sound u old so_far) call
  sound t w (History.stopped_between u old d so_far left) = record {
    crash = λ c l. (sound u old so_far).crash c (left c l);
    whole = λ yes. absurd (true≢false (sym yes));
  }
  sound t w (History.stopped_within u old new answered stopped d so_far call left) = record {
    crash = λ c l. within u old new answered stopped (sound u old so_far) call c (left c l);
    whole = λ yes. absurd (true≢false (sym yes));
  }
