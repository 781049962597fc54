-- A leg's servers put into the table of slots one after another: each goes where no leg is yet.
use Rattle.std.proofs.Common.{◌≡◌, ◌≢◌, ◌+◌, ◌<◌, ◌&&◌, ℕ, true, false, cond, nat_eq, nat_lt, List, length, get_or, Option, Some, None, inl, inr, refl, sym, ap, ◌∙◌, arith}
use Rattle.std.specs.Prelude.{is_some, slice_get}
use Rattle.std.specs.Ordering.{is_eq}
use Rattle.std.specs.Option.{option_map, option_or}
use Rattle.std.proofs.lemmas.Bool.{and_parts, cases_Bool, eqb-true, eqb-false, eq-eqb, lt-ltb, le-ltb, ltb-true, ltb-false}
use Rattle.std.proofs.lemmas.Option.{slice_get-get_or, slice_get_past}
use Rattle.mcv_base.specs.declared.request.ServerId.{ServerId}
use Rattle.mcv_judge.specs.PairsInMemory.{numbers}
use Rattle.mcv_judge.proofs.FirstFault.{and_false}
use Rattle.mcv_judge.proofs.Servers.{server_of}
use Rattle.mcv_judge.specs.Reason.{LegValue}
use Rattle.mcv_picks.specs.Tables.{Slot, is_at, slot_cmp}
use Rattle.mcv_picks.proofs.TwinsAreEqual.{slot_level}
use Rattle.mcv_picks.proofs.SearchResults.{none_there, or_nothing, or_there}

pub server_read : (servers : List ServerId) (i : ℕ) (d : ServerId) → i < length servers → slice_get (numbers servers) i ≡ Some (get_or servers i d).0
server_read servers i d l = server_of servers i ∙ ap (option_map (λ (s : ServerId). s.0)) (slice_get-get_or servers i d l)

at_index : (d : LegValue) (i x : ℕ) → slice_get d.servers i ≡ Some x → (q : Slot) → q.1 ≡ i → is_at q d ≡ (nat_eq d.symbol q.0 && nat_eq x q.2)
at_index d i x there q e = rw (e, there) refl

later : (j i : ℕ) → i ≢ j → nat_lt j (i + 1) ≡ nat_lt j i
later j i n = elim (cases_Bool (nat_lt j i)) [
  | inl h ↦ let a = ltb-true j i h in lt-ltb j (i + 1) (omega arith) ∙ sym h
  | inr h ↦ let a = ltb-false j i h in le-ltb j (i + 1) (omega (arith, a, n)) ∙ sym h
]

-- what the leg gives at its first indexes
abbrev pub given : LegValue → ℕ → Slot → Option LegValue
given d i q = cond (nat_lt q.1 i && is_at q d) (Some d) None

module _ (d : LegValue) (i x : ℕ) (there : slice_get d.servers i ≡ Some x) where
  -- the slot itself: its parts, and that the leg is there
  parts : (q : Slot) → is_eq (slot_cmp (d.symbol, i, x) q) ≡ true → (d.symbol ≡ q.0) × (i ≡ q.1) × (x ≡ q.2)
  parts q h =
      let both = and_parts (nat_eq d.symbol q.0) (nat_eq i q.1 && nat_eq x q.2) (sym (slot_level (d.symbol, i, x) q) ∙ h) in
      let two = and_parts (nat_eq i q.1) (nat_eq x q.2) both.1 in
      (eqb-true d.symbol q.0 both.0, eqb-true i q.1 two.0, eqb-true x q.2 two.1)

  is_there : (q : Slot) → is_eq (slot_cmp (d.symbol, i, x) q) ≡ true → is_at q d ≡ true
  is_there q h = let p = parts q h in at_index d i x there q (sym p.1) ∙ rw (eq-eqb d.symbol q.0 p.0, eq-eqb x q.2 p.2) refl

  -- at another slot the index makes no difference
  elsewhere : (q : Slot) → is_eq (slot_cmp (d.symbol, i, x) q) ≡ false → given d (i + 1) q ≡ given d i q
  elsewhere q h = elim (cases_Bool (nat_eq i q.1)) [
    | inl e ↦
        let own = at_index d i x there q (sym (eqb-true i q.1 e)) in
        let no : is_at q d ≡ false = own ∙ ap (λ b. nat_eq d.symbol q.0 && (b && nat_eq x q.2)) (sym e) ∙ sym (slot_level (d.symbol, i, x) q) ∙ h in
        rw (no, and_false (nat_lt q.1 (i + 1)), and_false (nat_lt q.1 i)) refl
    | inr n ↦ rw (later q.1 i (eqb-false i q.1 n)) refl
  ]

  -- nothing is given there yet, and then the leg is
  not_yet : (q : Slot) → is_eq (slot_cmp (d.symbol, i, x) q) ≡ true → given d i q ≡ None
  not_yet q h = let p = parts q h in rw (le-ltb q.1 i (omega (arith, p.1))) refl

  now : (q : Slot) → is_eq (slot_cmp (d.symbol, i, x) q) ≡ true → given d (i + 1) q ≡ Some d
  now q h = let p = parts q h in rw (lt-ltb q.1 (i + 1) (omega (arith, p.1)), is_there q h) refl

  module _ (table old : Slot → Option LegValue) (before : (q : Slot) → table q ≡ option_or (old q) (given d i q)) where
    as_old : (q : Slot) → is_eq (slot_cmp (d.symbol, i, x) q) ≡ true → table q ≡ old q
    as_old q h = before q ∙ ap (option_or (old q)) (not_yet q h) ∙ or_nothing (old q)

    -- a leg is there already
    pub taken : is_some (table (d.symbol, i, x)) ≡ true → (q : Slot) → table q ≡ option_or (old q) (given d (i + 1) q)
    taken some q = elim (cases_Bool (is_eq (slot_cmp (d.symbol, i, x) q))) [
      | inl h ↦
          let p = parts q h in
          let one : (d.symbol, i, x) ≡ q = λ k. (p.0 k, p.1 k, p.2 k) in
          let found : is_some (old q) ≡ true = ap is_some (sym (as_old q h)) ∙ sym (ap (λ s. is_some (table s)) one) ∙ some in
          as_old q h ∙ sym (or_there (old q) (given d (i + 1) q) found)
      | inr h ↦ before q ∙ ap (option_or (old q)) (sym (elsewhere q h))
    ]

    -- the leg goes there
    pub put : is_some (table (d.symbol, i, x)) ≡ false → (q : Slot) → cond (is_eq (slot_cmp (d.symbol, i, x) q)) (Some d) (table q) ≡ option_or (old q) (given d (i + 1) q)
    put none q = elim (cases_Bool (is_eq (slot_cmp (d.symbol, i, x) q))) [
      | inl h ↦
          let p = parts q h in
          let one : (d.symbol, i, x) ≡ q = λ k. (p.0 k, p.1 k, p.2 k) in
          let nothing : is_some (old q) ≡ false = ap is_some (sym (as_old q h)) ∙ sym (ap (λ s. is_some (table s)) one) ∙ none in
          rw (h, none_there (old q) nothing, now q h) refl
      | inr h ↦ rw h (before q ∙ ap (option_or (old q)) (sym (elsewhere q h)))
    ]

-- behind the last index all is given
pub all_given : (d : LegValue) (n : ℕ) → n ≡ length d.servers → (q : Slot) → given d n q ≡ cond (is_at q d) (Some d) None
all_given d n e q = elim (cases_Bool (nat_lt q.1 n)) [
  | inl h ↦ rw h refl
  | inr h ↦
      let past = slice_get_past d.servers q.1 (let a = ltb-false q.1 n h in omega (arith, a, e)) in
      let no : is_at q d ≡ false = rw past (and_false (nat_eq d.symbol q.0)) in
      rw (h, no) refl
]
