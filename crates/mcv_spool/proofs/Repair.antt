-- What a crash leaves while the end gate is closed.
use Rattle.std.proofs.Common.{◌≡◌, ◌⊎◌, inl, inr, ⊎_elim, ℕ, ◌+◌, ◌*◌, ◌<◌, ◌≤◌, min, true≢false, List, [], ◌∷◌, ◌++◌, length, get_or, take, drop, refl, sym, ◌∙◌, ap, subst, arith, append-nil, length-append, length-drop, length-take, take-take}
use Rattle.std.proofs.lemmas.Bool.{cases_eq, cases_lt}
use Rattle.std.proofs.lemmas.List.{drop_all}
use Rattle.mcv_spool.specs.Disk.{Cut, Torn, written}
use Rattle.mcv_spool.specs.File.{IsClosed, slots}
use Rattle.mcv_spool.proofs.Slots.{at_drop, back_shut, closed_at, closed_row, front, length-row, makes_open, parts, row, same_slots, shut_short, slots-shut, within}

-- the end gate is there, or there is no slot
pub end_gate : (file : List ℕ) → (640 * length (slots file) < length file) ⊎ (length (slots file) ≡ 0)
end_gate file = elim (cases_eq (length (slots file)) 0) [
  | inl none ↦ inr none
  | inr some ↦
      let p = parts file in
      let left : 0 < length p.tail = p.some (omega (arith, some)) in
      inl (omega (arith, left, ap length p.is, length-append (row (slots file)) p.tail, length-row (slots file) p.all))
]

-- an end gate that isn't closed is in the last 640 bytes
pub short_end : (file : List ℕ) → (IsClosed file → ⊥) → length file ≤ 640 * length (slots file) + 640
short_end file not_closed =
    let n = 640 * length (slots file) in
    let size = length-drop n file in
    elim (cases_lt 640 (length (drop n file))) [
      | inl long ↦ elim (cases_eq (get_or file n 0) 0) [
        | inl z ↦ absurd (not_closed (closed_at file file refl (omega (arith, size, long)) z))
        | inr nz ↦ absurd (true≢false (sym (makes_open (length (drop n file)) (get_or (drop n file) 0 0) long (λ z. nz (sym (at_drop file n) ∙ z))) ∙ back_shut file))
      ]
      | inr short ↦ omega (arith, size, short)
    ]

none_of : (ss : List (List ℕ)) → length ss ≡ 0 → ss ≡ []
none_of [] h = refl
none_of (s ∷ ss) h = absurd (omega (arith, h))

-- the same bytes before the end gate, and less than a slot behind it
pub same_short : (file c : List ℕ) → take (640 * length (slots file)) c ≡ take (640 * length (slots file)) file → length c ≤ 640 * length (slots file) + 640
    → (640 * length (slots file) < length c) ⊎ (length (slots file) ≡ 0) → slots c ≡ slots file
same_short file c same short gate =
    let n = 640 * length (slots file) in
    elim gate [
      | inl there ↦ same_slots file c same (shut_short (length (drop n c)) (get_or (drop n c) 0 0) (omega (arith, length-drop n c))) there
      | inr none ↦ slots-shut c (shut_short (length c) (get_or c 0 0) (omega arith)) ∙ sym (none_of (slots file) none)
    ]

module _ (file : List ℕ) (not_closed : IsClosed file → ⊥) (n kept : ℕ) (end_is : n ≡ 640 * length (slots file)) (kept_is : kept ≡ min (length file) (n + 1)) where
  -- the bytes before the end gate of a file with the same front
  begins : (c : List ℕ) → take kept c ≡ take kept file → take (640 * length (slots file)) c ≡ take (640 * length (slots file)) file
  begins c same =
      let m = 640 * length (slots file) in
      let low : m ≤ kept = omega (arith, within file) in
      sym (take-take m kept c low) ∙ ap (λ (l : List ℕ). take m l) same ∙ take-take m kept file low

  -- a crash leaves the same slots while the cut isn't on the disk
  pub cut_keeps : (c : List ℕ) → Cut kept file c → slots c ≡ slots file
  cut_keeps c cut =
      let size : min kept (length c) ≡ kept = sym (length-take kept c) ∙ ap length cut.before ∙ length-take kept file ∙ omega arith in
      same_short file c (begins c cut.before) (omega (arith, cut.no_longer, short_end file not_closed))
      (⊎_elim (λ there. inl (omega (arith, there, size))) (λ none. inr none) (end_gate file))

  -- the cut file
  abbrev pub remains : List ℕ
  remains = take kept file

  length-remains : length remains ≡ kept
  length-remains = length-take kept file ∙ omega arith

  -- a crash leaves the same slots while the gate isn't on the disk
  pub gate_keeps : (c : List ℕ) → Torn n 1 remains c → slots c ≡ slots file
  gate_keeps c torn =
      let m = 640 * length (slots file) in
      let low : m ≤ kept = omega (arith, within file) in
      let same : take m c ≡ take m file = subst (λ k. take k c ≡ take k remains) end_is torn.before ∙ take-take m kept file low in
      same_short file c same (omega (arith, torn.no_longer, length-remains))
      (⊎_elim (λ there. inl (omega (arith, there, torn.no_shorter, length-remains))) (λ none. inr none) (end_gate file))

  -- the gate is written
  pub gate_closed : (slots (written remains n (0 ∷ [])) ≡ slots file) × IsClosed (written remains n (0 ∷ []))
  gate_closed =
      let m = 640 * length (slots file) in
      let low : m ≤ kept = omega (arith, within file) in
      let begins_are : take n remains ≡ row (slots file) = ap (λ k. take k remains) end_is ∙ take-take m kept file low ∙ front file in
      let none : drop (n + 1) remains ≡ [] = drop_all (n + 1) remains (omega (arith, length-remains)) in
      let is : written remains n (0 ∷ []) ≡ row (slots file) ++ 0 ∷ [] =
      ap (λ (l : List ℕ). (take n remains ++ 0 ∷ []) ++ l) none ∙ append-nil (take n remains ++ 0 ∷ []) ∙ ap (λ (l : List ℕ). l ++ 0 ∷ []) begins_are in
      subst (λ (l : List ℕ). (slots l ≡ slots file) × IsClosed l) (sym is) (closed_row (slots file) [] (parts file).all)
