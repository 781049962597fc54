-- What a crash leaves of a file, in each step of a call.
use Rattle.std.proofs.Common.{◌≡◌, ◌≢◌, inl, inr, ℕ, zero, suc, ◌+◌, ◌*◌, ◌<◌, true, List, [], ◌∷◌, ◌++◌, length, map, get_or, take, drop, refl, sym, ◌∙◌, ap, subst, arith, append_assoc, length-append, take-append-drop, take_at, drop_at}
use Rattle.std.proofs.lemmas.Bool.{cases_eq}
use Rattle.std.proofs.lemmas.List.{drop_more, length-map, map-append, take_more}
use Rattle.mcv_spool.specs.Disk.{Torn, written}
use Rattle.mcv_spool.specs.File.{IsClosed, body, is_done, is_open, read_record, slots}
use Rattle.mcv_spool.specs.Version.{IsBeforeOrAfter, IsVersion}
use Rattle.mcv_spool.specs.declared.record.SpoolRecord.{SpoolRecord}
use Rattle.mcv_spool.proofs.Slots.{AllOpen, closed_row, front, length-row, one_more, row, same_closed}

pub version_self : (c : List ℕ) → IsClosed c → IsVersion (slots c) c
version_self c closed = record { records = refl; done = λ k h. h; closed = closed }

-- a file with the same slots, closed too
pub version_same : (all : List (List ℕ)) (c d : List ℕ) → IsVersion all c → slots d ≡ slots c → IsClosed d → IsVersion all d
version_same all c d v same closed = record {
  records = ap (λ (ss : List (List ℕ)). map read_record ss) same ∙ v.records;
  done = λ k h. v.done k (subst (λ (ss : List (List ℕ)). is_done (get_or ss k []) ≡ true) same h);
  closed = closed;
}

pub version_of : (all : List (List ℕ)) (c : List ℕ) → slots c ≡ all → IsClosed c → IsVersion all c
version_of all c same closed = subst (λ (ss : List (List ℕ)). IsVersion ss c) same (version_self c closed)

-- as many slots
pub counted : (all : List (List ℕ)) (c : List ℕ) → IsVersion all c → length (slots c) ≡ length all
counted all c v = sym (length-map (slots c) read_record) ∙ ap length v.records ∙ length-map all read_record

-- ---- a record is written

-- whatever is written behind a closed gate
pub torn_behind : (all : List (List ℕ)) (m : ℕ) (c d : List ℕ) → IsVersion all c → Torn (640 * length all + 1) m c d → IsVersion all d
torn_behind all m c d v torn =
    let begins : take (640 * length (slots c) + 1) d ≡ take (640 * length (slots c) + 1) c = subst (λ n. take (640 * n + 1) d ≡ take (640 * n + 1) c) (sym (counted all c v)) torn.before in
    let same = same_closed c d v.closed begins in
    version_same all c d v same.0 same.1

-- open slots, a gate with what comes behind it, and a closed gate
abbrev pub staged : List (List ℕ) → ℕ → List ℕ → List ℕ → List ℕ
staged all gate behind more = (row all ++ gate ∷ behind) ++ 0 ∷ more

front_closed : (file : List ℕ) → IsClosed file → take (640 * length (slots file) + 1) file ≡ row (slots file) ++ 0 ∷ []
front_closed file closed =
    let n = 640 * length (slots file) in
    take_more file n 0 closed.there ∙ ap (λ (l : List ℕ). l ++ get_or file n 0 ∷ []) (front file) ∙ ap (λ g. row (slots file) ++ g ∷ []) closed.closed

regroup : (xs b more : List ℕ) → ((xs ++ 0 ∷ []) ++ (b ++ 0 ∷ [])) ++ more ≡ (xs ++ 0 ∷ b) ++ 0 ∷ more
regroup [] b more = ap (λ (l : List ℕ). 0 ∷ l) (append_assoc b (0 ∷ []) more)
regroup (x ∷ xs) b more = ap (λ (l : List ℕ). x ∷ l) (regroup xs b more)

pub written_behind : (file b : List ℕ) → IsClosed file → (n : ℕ) → n ≡ 640 * length (slots file)
    → (more : List ℕ) × (written file (n + 1) (b ++ 0 ∷ []) ≡ staged (slots file) 0 b more)
written_behind file b closed n is =
    let more = drop (n + 1 + length (b ++ 0 ∷ [])) file in
    (more, ap (λ k. (take (k + 1) file ++ (b ++ 0 ∷ [])) ++ more) is ∙ ap (λ (l : List ℕ). (l ++ (b ++ 0 ∷ [])) ++ more) (front_closed file closed) ∙ regroup (row (slots file)) b more)

module _ (all : List (List ℕ)) (open_all : AllOpen all) (b more : List ℕ) (size : length b ≡ 639) where
  -- what is there while its gate is closed
  pub staged_shut : (slots (staged all 0 b more) ≡ all) × IsClosed (staged all 0 b more)
  staged_shut = subst (λ (l : List ℕ). (slots l ≡ all) × IsClosed l) (sym (append_assoc (row all) (0 ∷ b) (0 ∷ more))) (closed_row all (b ++ 0 ∷ more) open_all)

  pub staged_open : (gate : ℕ) → gate ≢ 0 → (slots (staged all gate b more) ≡ all ++ (gate ∷ b) ∷ []) × IsClosed (staged all gate b more)
  staged_open gate is_open = one_more all (gate ∷ b) more open_all (record { size = omega (arith, size); gate = is_open })

  behind : (gate : ℕ) → drop (640 * length all + 1) (staged all gate b more) ≡ b ++ 0 ∷ more
  behind gate =
      ap (λ (l : List ℕ). drop (640 * length all + 1) (l ++ 0 ∷ more)) (sym (append_assoc (row all) (gate ∷ []) b))
      ∙ ap (λ (l : List ℕ). drop (640 * length all + 1) l) (append_assoc (row all ++ gate ∷ []) b (0 ∷ more))
      ∙ drop_at (row all ++ gate ∷ []) (b ++ 0 ∷ more) (640 * length all + 1) (omega (arith, length-append (row all) (gate ∷ []), length-row all open_all))

  begins : (gate : ℕ) → take (640 * length all) (staged all gate b more) ≡ row all
  begins gate =
      ap (λ (l : List ℕ). take (640 * length all) l) (append_assoc (row all) (gate ∷ b) (0 ∷ more)) ∙ take_at (row all) (gate ∷ (b ++ 0 ∷ more)) (640 * length all) (length-row all open_all)

  pub long : (gate : ℕ) → 640 * length all < length (staged all gate b more)
  long gate = omega (arith, length-append (row all ++ gate ∷ b) (0 ∷ more), length-append (row all) (gate ∷ b), length-row all open_all)

  -- the gate is written
  pub gate_written : written (staged all 0 b more) (640 * length all) (1 ∷ []) ≡ staged all 1 b more
  gate_written =
      ap (λ (l : List ℕ). (l ++ 1 ∷ []) ++ drop (640 * length all + 1) (staged all 0 b more)) (begins 0)
      ∙ ap (λ (l : List ℕ). (row all ++ 1 ∷ []) ++ l) (behind 0)
      ∙ append_assoc (row all) (1 ∷ []) (b ++ 0 ∷ more)
      ∙ sym (append_assoc (row all) (1 ∷ b) (0 ∷ more))

  -- a crash leaves any byte in the gate's place
  pub gate_torn : (d : List ℕ) → Torn (640 * length all) 1 (staged all 0 b more) d → d ≡ staged all (get_or d (640 * length all) 0) b more
  gate_torn d torn =
      let n = 640 * length all in
      let gate = get_or d n 0 in
      let back : drop n d ≡ gate ∷ (b ++ 0 ∷ more) = drop_more d n 0 (omega (arith, torn.no_shorter, long 0)) ∙ ap (λ (l : List ℕ). gate ∷ l) (torn.after ∙ behind 0) in
      sym (take-append-drop n d) ∙ ap (λ (l : List ℕ). l ++ drop n d) (torn.before ∙ begins 0) ∙ ap (λ (l : List ℕ). row all ++ l) back ∙ sym (append_assoc (row all) (gate ∷ b) (0 ∷ more))

-- a gate is no part of the record
same_record : (gate : ℕ) (b : List ℕ) → read_record (gate ∷ b) ≡ read_record (1 ∷ b)
unfolding read_record
same_record gate b = refl

same_done : (all : List (List ℕ)) (gate : ℕ) (b : List ℕ) (k : ℕ) → is_done (get_or (all ++ (gate ∷ b) ∷ []) k []) ≡ is_done (get_or (all ++ (1 ∷ b) ∷ []) k [])
same_done [] gate b zero = refl
same_done [] gate b (suc k) = refl
same_done (s ∷ all) gate b zero = refl
same_done (s ∷ all) gate b (suc k) = same_done all gate b k

pub version_gate : (all : List (List ℕ)) (gate : ℕ) (b c : List ℕ) → slots c ≡ all ++ (gate ∷ b) ∷ [] → IsClosed c → IsVersion (all ++ (1 ∷ b) ∷ []) c
version_gate all gate b c same closed = record {
  records = ap (λ (ss : List (List ℕ)). map read_record ss) same ∙ map-append read_record all ((gate ∷ b) ∷ []) ∙ ap (λ o. map read_record all ++ o ∷ []) (same_record gate b) ∙ sym (map-append read_record all ((1 ∷ b) ∷ []));
  done = λ k h. sym (same_done all gate b k) ∙ subst (λ (ss : List (List ℕ)). is_done (get_or ss k []) ≡ true) same h;
  closed = closed;
}

-- a whole slot behind any gate counts or it doesn't
pub before_or_after : (all : List (List ℕ)) → AllOpen all → (r : SpoolRecord) (more : List ℕ) → length (body r) ≡ 639 → (gate : ℕ) → IsBeforeOrAfter all r (staged all gate (body r) more)
before_or_after all open_all r more size gate = elim (cases_eq gate 0) [
  | inl shut ↦
      let there = staged_shut all open_all (body r) more size in
      inl (subst (λ g. IsVersion all (staged all g (body r) more)) (sym shut) (version_of all (staged all 0 (body r) more) there.0 there.1))
  | inr is_open ↦
      let there = staged_open all open_all (body r) more size gate is_open in
      inr (version_gate all gate (body r) (staged all gate (body r) more) there.0 there.1)
]
