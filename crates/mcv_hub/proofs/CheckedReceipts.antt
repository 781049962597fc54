-- What is known once receipts before an index were checked.
use Rattle.std.proofs.Common.{◌≡◌, ◌∙◌, ◌⊎◌, inl, inr, ℕ, ◌+◌, ◌<◌, ◌≤◌, Bool, true, false, List, [], ◌∷◌, Some, refl, length, get_or, take, take_all, count_by, sym, ap, subst, arith, true≢false}
use Rattle.std.specs.Prelude.{nat_eq, nat_lt, slice_get, slice_set}
use Rattle.std.proofs.lemmas.Bool.{and_from, and_left, and_right, cases_eq, cases_lt, eq-eqb, le-ltb, lt-ltb, ne_eqb}
use Rattle.std.proofs.lemmas.Grind.{common_steps}
use Rattle.std.proofs.lemmas.List.Sums.{count_by_more_no, count_by_more_yes}
use Rattle.std.proofs.lemmas.Option.{gets, slice_get-get_or, slice_get_within}
use Rattle.mcv_world.proofs.Numbers.{same_some}
use Rattle.mcv_hub.specs.declared.entry.Entry.{Entry}
use Rattle.mcv_hub.specs.declared.receipts.Receipt.{Receipt}
use Rattle.mcv_hub.specs.declared.receipts.ReceiptFault.{ReceiptFault}
use Rattle.mcv_hub.specs.declared.receipts.ReceiptFault.TheVariants.{Stranger, Twice, Memory}
use Rattle.mcv_hub.specs.Receipts.{is_older, IsGood, AreGood, AreApart, AreRefused}

-- ---- which receipts are of an earlier chapter

pub is_of_earlier : (hub chapter : ℕ) (r : Receipt) → r.hub ≡ hub → r.chapter < chapter → is_older hub chapter r ≡ true
is_of_earlier hub chapter r same before = and_from (nat_eq r.hub hub) (nat_lt r.chapter chapter) (eq-eqb r.hub hub same) (lt-ltb r.chapter chapter before)

pub is_of_other_hub : (hub chapter : ℕ) (r : Receipt) → (r.hub ≡ hub → ⊥) → is_older hub chapter r ≡ false
is_of_other_hub hub chapter r other = and_left (nat_eq r.hub hub) (nat_lt r.chapter chapter) (ne_eqb r.hub hub other)

pub isnt_of_earlier : (hub chapter : ℕ) (r : Receipt) → chapter ≤ r.chapter → is_older hub chapter r ≡ false
isnt_of_earlier hub chapter r late = and_right (nat_eq r.hub hub) (nat_lt r.chapter chapter) (le-ltb r.chapter chapter late)

-- ---- what was checked

-- a receipt before the index, of this hub and chapter, names the entry
pub record IsNamed (hub chapter : ℕ) (receipts : List Receipt) (index entry : ℕ) : Type 0 where
  pub number : ℕ
  pub before : number < index
  pub receipt : Receipt
  pub there : slice_get receipts number ≡ Some receipt
  pub hub_is : receipt.hub ≡ hub
  pub chapter_is : receipt.chapter ≡ chapter
  pub entry_is : receipt.entry ≡ entry

pub record Checked (hub chapter : ℕ) (history : List Entry) (receipts : List Receipt) (index older : ℕ) (seen : List Bool) : Type 0 where
  pub len : length seen ≡ length history
  pub good : (j : ℕ) (r : Receipt) → j < index → slice_get receipts j ≡ Some r → is_older hub chapter r ≡ false → IsGood hub chapter history r
  pub marked : (j : ℕ) (r : Receipt) → j < index → slice_get receipts j ≡ Some r → is_older hub chapter r ≡ false → slice_get seen r.entry ≡ Some true
  pub apart : (i j : ℕ) (r s : Receipt) → i < index → j < index → slice_get receipts i ≡ Some r → slice_get receipts j ≡ Some s → is_older hub chapter r ≡ false → is_older hub chapter s ≡ false → r.entry ≡ s.entry → i ≡ j
  pub named : (e : ℕ) → slice_get seen e ≡ Some true → IsNamed hub chapter receipts index e
  pub older_is : older ≡ count_by (is_older hub chapter) (take index receipts)
  pub few : older ≤ index

-- before the first one
pub none_checked : (hub chapter : ℕ) (history : List Entry) (receipts : List Receipt) (seen : List Bool) → length seen ≡ length history → ((k : ℕ) → slice_get seen k ≡ Some true → ⊥) → Checked hub chapter history receipts 0 0 seen
none_checked hub chapter history receipts seen e unset =
    record {
      len = e;
      good = λ j r low. absurd (omega (arith, low));
      marked = λ j r low. absurd (omega (arith, low));
      apart = λ i j r s low. absurd (omega (arith, low));
      named = λ k t. absurd (unset k t);
      older_is = none receipts;
      few = omega arith;
    }
  where
    none : (rs : List Receipt) → 0 ≡ count_by (is_older hub chapter) (take 0 rs)
    none [] = refl
    none (r ∷ rs) = refl

same_at : (receipts : List Receipt) (i j : ℕ) (x r : Receipt) → slice_get receipts i ≡ Some x → slice_get receipts j ≡ Some r → j ≡ i → x ≡ r
same_at receipts i j x r e f is = same_some (sym e ∙ ap (slice_get receipts) (sym is) ∙ f)

named_more : (hub chapter : ℕ) (receipts : List Receipt) (index e : ℕ) → IsNamed hub chapter receipts index e → IsNamed hub chapter receipts (index + 1) e
named_more hub chapter receipts index e n =
    let low = n.before in
    record { number = n.number; before = omega (arith, low); receipt = n.receipt; there = n.there; hub_is = n.hub_is; chapter_is = n.chapter_is; entry_is = n.entry_is }

-- one more of an earlier chapter
pub older_checked : (hub chapter : ℕ) (history : List Entry) (receipts : List Receipt) (index older : ℕ) (seen : List Bool) (d : Receipt) → Checked hub chapter history receipts index older seen
    → index < length receipts → is_older hub chapter (get_or receipts index d) ≡ true → Checked hub chapter history receipts (index + 1) (older + 1) seen
older_checked hub chapter history receipts index older seen d m within old =
    let few = m.few in
    let is = m.older_is in
    record {
      len = m.len;
      good = λ j r low e c. m.good j r (below j r low e c) e c;
      marked = λ j r low e c. m.marked j r (below j r low e c) e c;
      apart = λ i j r s l k e f c d same. m.apart i j r s (below i r l e c) (below j s k f d) e f c d same;
      named = λ e t. named_more hub chapter receipts index e (m.named e t);
      older_is = omega (arith, is, count_by_more_yes (is_older hub chapter) receipts index d within old);
      few = omega (arith, few);
    }
  where
    below : (j : ℕ) (r : Receipt) → j < index + 1 → slice_get receipts j ≡ Some r → is_older hub chapter r ≡ false → j < index
    below j r low e c = elim (cases_lt j index) [
      | inl under ↦ under
      | inr high ↦ absurd (true≢false (sym old ∙ ap (is_older hub chapter) (same_at receipts index j (get_or receipts index d) r (slice_get-get_or receipts index d within) e (omega (arith, low, high))) ∙ c))
    ]

keeps_true : (seen : List Bool) (k e : ℕ) → slice_get seen k ≡ Some false → slice_get seen e ≡ Some true → slice_get (slice_set seen k true) e ≡ Some true
keeps_true seen k e p q = grind (arith, common_steps, gets)

sets_true : (seen : List Bool) (k : ℕ) → slice_get seen k ≡ Some false → slice_get (slice_set seen k true) k ≡ Some true
sets_true seen k p = grind (arith, common_steps, gets)

was_true : (seen : List Bool) (k e : ℕ) → (k ≡ e → ⊥) → slice_get (slice_set seen k true) e ≡ Some true → slice_get seen e ≡ Some true
was_true seen k e p q = grind (arith, common_steps, gets)

-- one more that is good
pub good_checked : (hub chapter : ℕ) (history : List Entry) (receipts : List Receipt) (index older : ℕ) (seen new : List Bool) (d : Receipt) → Checked hub chapter history receipts index older seen
    → index < length receipts → is_older hub chapter (get_or receipts index d) ≡ false → IsGood hub chapter history (get_or receipts index d) → slice_get seen (get_or receipts index d).entry ≡ Some false
    → new ≡ slice_set seen (get_or receipts index d).entry true → length new ≡ length history → Checked hub chapter history receipts (index + 1) older new
good_checked hub chapter history receipts index older seen new d m within young good free set len =
    let few = m.few in
    let is = m.older_is in
    record {
      len = len;
      good = λ j r low e c. elim (cases_lt j index) [ inl under ↦ m.good j r under e c | inr high ↦ subst (IsGood hub chapter history) (last j r low high e) good ];
      marked = λ j r low e c. subst (λ s. slice_get s r.entry ≡ Some true) (sym set) (elim (cases_lt j index) [
        | inl under ↦ keeps_true seen x.entry r.entry free (m.marked j r under e c)
        | inr high ↦ subst (λ v. slice_get (slice_set seen x.entry true) v ≡ Some true) (ap (λ v. v.entry) (last j r low high e)) (sets_true seen x.entry free)
      ]);
      apart = λ i j r s l k e f c d same. elim (cases_lt i index) [
        | inl under ↦ elim (cases_lt j index) [
          | inl below ↦ m.apart i j r s under below e f c d same
          | inr high ↦ clash i r under e c (same ∙ ap (λ v. v.entry) (sym (last j s k high f)))
        ]
        | inr top ↦ elim (cases_lt j index) [
          | inl below ↦ clash j s below f d (sym same ∙ ap (λ v. v.entry) (sym (last i r l top e)))
          | inr high ↦ omega (arith, l, k, top, high)
        ]
      ];
      named = λ e t. by_entry e (cases_eq x.entry e) (subst (λ s. slice_get s e ≡ Some true) set t);
      older_is = omega (arith, is, count_by_more_no (is_older hub chapter) receipts index d within young);
      few = omega (arith, few);
    }
  where
    x : Receipt
    x = get_or receipts index d

    at : slice_get receipts index ≡ Some x
    at = slice_get-get_or receipts index d within

    last : (j : ℕ) (r : Receipt) → j < index + 1 → index ≤ j → slice_get receipts j ≡ Some r → x ≡ r
    last j r low high e = same_at receipts index j x r at e (omega (arith, low, high))

    clash : {Z : Type 0} (j : ℕ) (r : Receipt) → j < index → slice_get receipts j ≡ Some r → is_older hub chapter r ≡ false → r.entry ≡ x.entry → Z
    clash j r low e c same = absurd (true≢false (same_some (sym (m.marked j r low e c) ∙ ap (slice_get seen) same ∙ free)))

    by_entry : (e : ℕ) → (x.entry ≡ e) ⊎ (x.entry ≡ e → ⊥) → slice_get (slice_set seen x.entry true) e ≡ Some true → IsNamed hub chapter receipts (index + 1) e
    by_entry e (inl same) t = record { number = index; before = omega arith; receipt = x; there = at; hub_is = good.hub_is; chapter_is = good.chapter_is; entry_is = same }
    by_entry e (inr other) t = named_more hub chapter receipts index e (m.named e (was_true seen x.entry e other t))

-- ---- the end

pub all_good : (hub chapter : ℕ) (history : List Entry) (receipts : List Receipt) (index older : ℕ) (seen : List Bool) → Checked hub chapter history receipts index older seen → length receipts ≤ index → AreGood hub chapter history receipts
all_good hub chapter history receipts index older seen m all i r e c = m.good i r (omega (arith, all, slice_get_within receipts i r e)) e c

pub all_apart : (hub chapter : ℕ) (history : List Entry) (receipts : List Receipt) (index older : ℕ) (seen : List Bool) → Checked hub chapter history receipts index older seen → length receipts ≤ index → AreApart hub chapter receipts
all_apart hub chapter history receipts index older seen m all i j r s e f c d same =
    m.apart i j r s (omega (arith, all, slice_get_within receipts i r e)) (omega (arith, all, slice_get_within receipts j s f)) e f c d same

pub all_older : (hub chapter : ℕ) (history : List Entry) (receipts : List Receipt) (index older : ℕ) (seen : List Bool) → Checked hub chapter history receipts index older seen → length receipts ≤ index
    → older ≡ count_by (is_older hub chapter) receipts
all_older hub chapter history receipts index older seen m all = m.older_is ∙ ap (count_by (is_older hub chapter)) (take_all index receipts all)

-- ---- a refusal at the index

pub refused_at : (hub chapter : ℕ) (history : List Entry) (receipts : List Receipt) (index older : ℕ) (seen : List Bool) (d : Receipt) (fault : ReceiptFault) → Checked hub chapter history receipts index older seen
    → index < length receipts
    → (fault ≡ Stranger → (is_older hub chapter (get_or receipts index d) ≡ false) × (IsGood hub chapter history (get_or receipts index d) → ⊥))
    → (fault ≡ Twice → ((get_or receipts index d).hub ≡ hub) × ((get_or receipts index d).chapter ≡ chapter) × (slice_get seen (get_or receipts index d).entry ≡ Some true))
    → AreRefused hub chapter history receipts fault
refused_at hub chapter history receipts index older seen d Stranger m within stranger twice =
    record { index = index; receipt = get_or receipts index d; there = slice_get-get_or receipts index d within; current = (stranger refl).0; other = (stranger refl).1 }
refused_at hub chapter history receipts index older seen d Twice m within stranger twice =
    let t = twice refl in
    let n = m.named (get_or receipts index d).entry t.2 in
    record {
      first = n.number;
      second = index;
      before = n.before;
      one = n.receipt;
      other = get_or receipts index d;
      one_there = n.there;
      other_there = slice_get-get_or receipts index d within;
      one_hub = n.hub_is;
      other_hub = t.0;
      one_chapter = n.chapter_is;
      other_chapter = t.1;
      same = n.entry_is;
    }
refused_at hub chapter history receipts index older seen d Memory m within stranger twice = tt
