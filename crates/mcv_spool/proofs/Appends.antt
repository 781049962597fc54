-- What a crash leaves in each of the two writes of an append, and what is there after them.
use Rattle.std.proofs.Common.{◌≡◌, inl, ℕ, ◌+◌, ◌*◌, ◌≤◌, List, [], ◌∷◌, ◌++◌, length, get_or, sym, ◌∙◌, ap, subst, arith}
use Rattle.mcv_spool.specs.Disk.{IsTornFrom, Only, Torn, written}
use Rattle.mcv_spool.specs.File.{IsClosed, body, slot_of, slots}
use Rattle.mcv_spool.specs.Version.{IsBeforeOrAfter, IsVersion}
use Rattle.mcv_spool.specs.declared.record.SpoolRecord.{SpoolRecord}
use Rattle.mcv_spool.proofs.Slots.{parts}
use Rattle.mcv_spool.proofs.Versions.{before_or_after, gate_torn, gate_written, long, staged, staged_open, torn_behind, written_behind}

module _ (file : List ℕ) (closed : IsClosed file) (r : SpoolRecord) (size : length (body r) ≡ 639) (bytes : List ℕ) (bytes_are : bytes ≡ body r ++ 0 ∷ []) (end : ℕ) (end_is : end ≡ 640 * length (slots file)) where
  -- behind the gate
  pub first_write : (may_leave : List ℕ → Type 0) → ((c : List ℕ) → may_leave c → IsVersion (slots file) c) → (c : List ℕ) → IsTornFrom (end + 1) (length bytes) may_leave c → IsBeforeOrAfter (slots file) r c
  first_write may_leave settled c torn =
      inl (torn_behind (slots file) (length bytes) torn.0 c (settled torn.0 torn.1) (subst (λ e. Torn (e + 1) (length bytes) torn.0 c) end_is torn.2))

  pub first_fits : end + 1 ≤ length file
  first_fits = omega (arith, end_is, closed.there)

  staged_there : (more : List ℕ) × (written file (end + 1) (body r ++ 0 ∷ []) ≡ staged (slots file) 0 (body r) more)
  staged_there = written_behind file (body r) closed end end_is

  module _ (mid : List ℕ) (mid_is : mid ≡ written file (end + 1) bytes) where
    mid_staged : mid ≡ staged (slots file) 0 (body r) staged_there.0
    mid_staged = mid_is ∙ ap (λ (l : List ℕ). written file (end + 1) l) bytes_are ∙ staged_there.1

    pub second_fits : end ≤ length mid
    second_fits = omega (arith, end_is, ap length mid_staged, long (slots file) (parts file).all (body r) staged_there.0 size 0)

    -- the gate
    pub second_write : (may_leave : List ℕ → Type 0) → Only mid may_leave → (c : List ℕ) → IsTornFrom end 1 may_leave c → IsBeforeOrAfter (slots file) r c
    second_write may_leave durable c torn =
        let before : torn.0 ≡ staged (slots file) 0 (body r) staged_there.0 = durable torn.0 torn.1 ∙ mid_staged in
        let from : Torn (640 * length (slots file)) 1 (staged (slots file) 0 (body r) staged_there.0) c =
        subst (λ e. Torn e 1 (staged (slots file) 0 (body r) staged_there.0) c) end_is (subst (λ (d : List ℕ). Torn end 1 d c) before torn.2) in
        let gate = get_or c (640 * length (slots file)) 0 in
        let is : c ≡ staged (slots file) gate (body r) staged_there.0 = gate_torn (slots file) (parts file).all (body r) staged_there.0 size c from in
        subst (IsBeforeOrAfter (slots file) r) (sym is) (before_or_after (slots file) (parts file).all r staged_there.0 size gate)

    -- and then
    pub both_written : (new : List ℕ) → new ≡ written mid end (1 ∷ []) → (slots new ≡ slots file ++ slot_of r ∷ []) × IsClosed new
    both_written new new_is =
        let is : new ≡ staged (slots file) 1 (body r) staged_there.0 =
        new_is ∙ ap (λ (l : List ℕ). written l end (1 ∷ [])) mid_staged ∙ ap (λ e. written (staged (slots file) 0 (body r) staged_there.0) e (1 ∷ [])) end_is
        ∙ gate_written (slots file) (parts file).all (body r) staged_there.0 size in
        let there = staged_open (slots file) (parts file).all (body r) staged_there.0 size 1 (omega arith) in
        subst (λ (l : List ℕ). (slots l ≡ slots file ++ slot_of r ∷ []) × IsClosed l) (sym is) there
