-- Each step that makes two heaps one leaves a forest, and the last one a heap.
use Rattle.std.proofs.Common.{◌≡◌, ◌&&◌, ◌⊎◌, inl, inr, cond, ℕ, ◌<◌, ◌≤◌, Bool, true, false, nat_lt, is_some, Option, Some, None, refl, sym, ap, subst, ◌∙◌, arith}
use Rattle.std.proofs.Math.Path.{fun_ext}
use Rattle.std.specs.Prelude.{option_map}
use Rattle.std.proofs.lemmas.Bool.{cases_eq, cases_lt, eq-eqb, ne_eqb, ltb-true, lt-ltb, and_from, and_parts}
use Rattle.mcv_queues.specs.declared.rows.Link.{Link}
use Rattle.mcv_queues.specs.declared.heap.Step.{Step}
use Rattle.mcv_queues.specs.Forest.{left_of, right_of, up_of, IsForest, changed, raised, turned}
use Rattle.mcv_queues.specs.Heap.{parted, stepped, AreApart, IsBefore, IsJoined, IsMelding}
use Rattle.mcv_queues.proofs.Places.{Placed, is_first, is_second, is_third, hangs, place, placed, put_here, put_there, some_eq, none_some, apart_bool, cases_names}
use Rattle.mcv_queues.proofs.LinkChanges.{keeps, lift, turn, turn_some, turn_left, turn_right, turn_up, raised_left, raised_right, raised_some_there, raised_here, raised_none, raised_there}

-- ---- a number is hung up

pub record IsHung (f g : ℕ → Option Link) (u x : ℕ) (y : Option ℕ) : Type 0 where
  there : (n : ℕ) → is_some (g n) ≡ is_some (f n)
  left : left_of (g u) ≡ Some x
  right : right_of (g u) ≡ left_of (f u)
  lefts : (n : ℕ) → (u ≡ n → ⊥) → left_of (g n) ≡ left_of (f n)
  rights : (n : ℕ) → (u ≡ n → ⊥) → right_of (g n) ≡ right_of (f n)
  up : up_of (g x) ≡ Some u
  ups : (n : ℕ) → y ≡ Some n → up_of (g n) ≡ None
  same : (n : ℕ) → (x ≡ n → ⊥) → (y ≡ Some n → ⊥) → up_of (g n) ≡ up_of (f n)

pub record IsParted (f : ℕ → Option Link) (u d x : ℕ) (y : Option ℕ) : Type 0 where
  above : u < x
  behind : (n : ℕ) → y ≡ Some n → x < n
  is_x : (x ≡ d) ⊎ (right_of (f u) ≡ Some x)
  is_y : (n : ℕ) → y ≡ Some n → (n ≡ d) ⊎ (right_of (f u) ≡ Some n)
  is_d : (d ≡ x) ⊎ (y ≡ Some d)
  is_right : (n : ℕ) → right_of (f u) ≡ Some n → (n ≡ x) ⊎ (y ≡ Some n)

pub hung : (w : ℕ → Bool) (f g : ℕ → Option Link) (t u d x : ℕ) (y c : Option ℕ) → IsForest w f (Some t) (Some d) c → w u ≡ true → t ≤ u → ((n : ℕ) → c ≡ Some n → n < u) → IsParted f u d x y → IsHung f g u x y → IsForest w g (Some t) y c
hung w f g t u d x y c i wu tu cu p s =
    record {
      there = λ n h. s.there n ∙ i.there n h;
      first = λ n e. ((i.first n e).0, s.same n (λ h. omega (arith, h, some_eq e, tu, p.above)) (λ h. omega (arith, p.behind n h, p.above, some_eq e, tu)) ∙ (i.first n e).1);
      second = λ n e. (elim (p.is_y n e) [ inl q ↦ subst (λ j. w j ≡ true) (sym q) (i.second d refl).0 | inr q ↦ (i.right u n wu q).0 ], s.ups n e);
      third = λ n e. ((i.third n e).0, s.same n (λ h. omega (arith, h, cu n e, p.above)) (λ h. omega (arith, p.behind n h, p.above, cu n e)) ∙ (i.third n e).1);
      member = λ n h. elim (cases_eq x n) [
        | inl z ↦ placed w g (Some t) y c n (hangs u (ap (λ j. up_of (g j)) (sym z) ∙ s.up) wu (omega (arith, z, p.above)) (inl (s.left ∙ ap (λ j. Some j) z)))
        | inr nx ↦ elim (cases_names y n) [
          | inl e ↦ placed w g (Some t) y c n (is_second e)
          | inr ny ↦ placed w g (Some t) y c n (by_place n nx ny (place w f (Some t) (Some d) c n i h))
        ]
      ];
      left = λ q n h e. elim (cases_eq u q) [
        | inl z ↦
            let same : x ≡ n = some_eq (sym s.left ∙ ap (λ j. left_of (g j)) z ∙ e) in
            (subst (λ j. w j ≡ true) same wx, omega (arith, p.above, same, z), ap (λ j. up_of (g j)) (sym same) ∙ s.up ∙ ap (λ j. Some j) z)
        | inr ne ↦
            let o = i.left q n h (sym (s.lefts q ne) ∙ e) in
            (o.0, o.1, kept n q o.2 (not_right n q o.2 ne))
      ];
      right = λ q n h e. elim (cases_eq u q) [
        | inl z ↦
            let l : left_of (f u) ≡ Some n = sym s.right ∙ ap (λ j. right_of (g j)) z ∙ e in
            let o = i.left u n wu l in
            (o.0, omega (arith, o.1, z), kept n u o.2 (λ r. i.apart u n wu l r) ∙ ap (λ j. Some j) z)
        | inr ne ↦
            let o = i.right q n h (sym (s.rights q ne) ∙ e) in
            (o.0, o.1, kept n q o.2 (not_right n q o.2 ne))
      ];
      apart = λ q n h e r. elim (cases_eq u q) [
        | inl z ↦
            let same : x ≡ n = some_eq (sym s.left ∙ ap (λ j. left_of (g j)) z ∙ e) in
            let l : left_of (f u) ≡ Some n = sym s.right ∙ ap (λ j. right_of (g j)) z ∙ r in
            elim p.is_x [
              | inl v ↦ none_some (sym dn ∙ ap (λ j. up_of (f j)) (sym v ∙ same) ∙ (i.left u n wu l).2)
              | inr v ↦ i.apart u n wu l (v ∙ ap (λ j. Some j) same)
            ]
        | inr ne ↦ i.apart q n h (sym (s.lefts q ne) ∙ e) (sym (s.rights q ne) ∙ r)
      ];
    }
  where
    dn : up_of (f d) ≡ None
    dn = (i.second d refl).1

    wx : w x ≡ true
    wx = elim p.is_x [ inl q ↦ subst (λ j. w j ≡ true) (sym q) (i.second d refl).0 | inr q ↦ (i.right u x wu q).0 ]

    kept : (n q : ℕ) → up_of (f n) ≡ Some q → (right_of (f u) ≡ Some n → ⊥) → up_of (g n) ≡ Some q
    kept n q e ne = s.same n
        (λ h. elim p.is_x [ inl z ↦ none_some (sym dn ∙ ap (λ j. up_of (f j)) (sym z ∙ h) ∙ e) | inr z ↦ ne (z ∙ ap (λ j. Some j) h) ])
        (λ h. elim (p.is_y n h) [ inl z ↦ none_some (sym dn ∙ ap (λ j. up_of (f j)) (sym z) ∙ e) | inr z ↦ ne z ]) ∙ e

    not_right : (n q : ℕ) → up_of (f n) ≡ Some q → (u ≡ q → ⊥) → right_of (f u) ≡ Some n → ⊥
    not_right n q e ne z = ne (some_eq (sym (i.right u n wu z).2 ∙ e))

    by_place : (n : ℕ) → (x ≡ n → ⊥) → (y ≡ Some n → ⊥) → Placed w f (Some t) (Some d) c n → Placed w g (Some t) y c n
    by_place n nx ny (is_first e) = is_first e
    by_place n nx ny (is_second e) = absurd (elim p.is_d [ inl z ↦ nx (sym z ∙ some_eq e) | inr z ↦ ny (z ∙ e) ])
    by_place n nx ny (is_third e) = is_third e
    by_place n nx ny (hangs q e h l side) = elim (cases_eq u q) [
      | inl z ↦ elim side [
        | inl v ↦ hangs q (s.same n nx ny ∙ e) h l (inr (ap (λ j. right_of (g j)) (sym z) ∙ s.right ∙ ap (λ j. left_of (f j)) z ∙ v))
        | inr v ↦ absurd (elim (p.is_right n (ap (λ j. right_of (f j)) z ∙ v)) [ inl o ↦ nx (sym o) | inr o ↦ ny o ])
      ]
      | inr ne ↦ hangs q (s.same n nx ny ∙ e) h l (elim side [ inl v ↦ inl (s.lefts q ne ∙ v) | inr v ↦ inr (s.rights q ne ∙ v) ])
    ]

-- ---- the links after a step

pub turned_there : (f : ℕ → Option Link) (u : ℕ) (v : Option ℕ) (n : ℕ) → (u ≡ n → ⊥) → turned f u v n ≡ f n
turned_there f u v n ne = put_there f u n (option_map (turn v) (f u)) ne

pub hung_some : (f : ℕ → Option Link) (u x y : ℕ) → is_some (f u) ≡ true → is_some (f x) ≡ true → x < y → IsHung f (raised (raised (turned f u (Some x)) x (Some u)) y None) u x (Some y)
hung_some f u x y hu hx lt =
    record {
      there = λ n. raised_some_there two y None n ∙ raised_some_there one x (Some u) n ∙ keeps is_some f u (turn (Some x)) (turn_some (Some x)) n;
      left = raised_left two y None u ∙ raised_left one x (Some u) u ∙ ap left_of (put_here f u (option_map (turn (Some x)) (f u))) ∙ turn_left (Some x) (f u) hu;
      right = raised_right two y None u ∙ raised_right one x (Some u) u ∙ ap right_of (put_here f u (option_map (turn (Some x)) (f u))) ∙ turn_right (Some x) (f u);
      lefts = λ n ne. raised_left two y None n ∙ raised_left one x (Some u) n ∙ ap left_of (turned_there f u (Some x) n ne);
      rights = λ n ne. raised_right two y None n ∙ raised_right one x (Some u) n ∙ ap right_of (turned_there f u (Some x) n ne);
      up = raised_there two y None x (λ e. omega (arith, e, lt)) ∙ raised_here one x (Some u) (keeps is_some f u (turn (Some x)) (turn_some (Some x)) x ∙ hx);
      ups = λ n e. ap (λ j. up_of (raised two y None j)) (sym (some_eq e)) ∙ raised_none two y;
      same = λ n nx ny. raised_there two y None n (λ e. ny (ap (λ j. Some j) e)) ∙ raised_there one x (Some u) n nx ∙ keeps up_of f u (turn (Some x)) (turn_up (Some x)) n;
    }
  where
    one : ℕ → Option Link
    one = turned f u (Some x)

    two : ℕ → Option Link
    two = raised one x (Some u)

pub hung_none : (f : ℕ → Option Link) (u x : ℕ) → is_some (f u) ≡ true → is_some (f x) ≡ true → IsHung f (raised (turned f u (Some x)) x (Some u)) u x None
hung_none f u x hu hx =
    record {
      there = λ n. raised_some_there one x (Some u) n ∙ keeps is_some f u (turn (Some x)) (turn_some (Some x)) n;
      left = raised_left one x (Some u) u ∙ ap left_of (put_here f u (option_map (turn (Some x)) (f u))) ∙ turn_left (Some x) (f u) hu;
      right = raised_right one x (Some u) u ∙ ap right_of (put_here f u (option_map (turn (Some x)) (f u))) ∙ turn_right (Some x) (f u);
      lefts = λ n ne. raised_left one x (Some u) n ∙ ap left_of (turned_there f u (Some x) n ne);
      rights = λ n ne. raised_right one x (Some u) n ∙ ap right_of (turned_there f u (Some x) n ne);
      up = raised_here one x (Some u) (keeps is_some f u (turn (Some x)) (turn_some (Some x)) x ∙ hx);
      ups = λ n e. absurd (none_some e);
      same = λ n nx ny. raised_there one x (Some u) n nx ∙ keeps up_of f u (turn (Some x)) (turn_up (Some x)) n;
    }
  where
    one : ℕ → Option Link
    one = turned f u (Some x)

pub data Parts (u d : ℕ) (o : Option ℕ) (s : Step) : Type 0 where
  right_next : o ≡ Some s.next → d ≡ s.rest → u < s.next → s.next < s.rest → Parts u d o s
  right_rest : o ≡ Some s.rest → d ≡ s.next → u < s.next → s.next ≤ s.rest → Parts u d o s

pub inner_step : (a b : Step) → Some a ≡ Some b → a ≡ b
inner_step a b e = cc

pub parts : (u d : ℕ) (o : Option ℕ) (s : Step) → parted u d o ≡ Some s → Parts u d o s
parts u d None s e = absurd (none_some e)
parts u d (Some r) s e = by_test (nat_lt u r && nat_lt u d) refl e
  where
    by_order : (b : Bool) → nat_lt r d ≡ b → u < r → u < d → Some (cond b (record { next = r; rest = d }) (record { next = d; rest = r })) ≡ Some s → Parts u d (Some r) s
    by_order true q ur ud h = let z = inner_step (record { next = r; rest = d }) s h in right_next (ap (λ t. Some t.next) z) (ap (λ t. t.rest) z) (subst (λ t. u < t.next) z ur) (subst (λ t. t.next < t.rest) z (ltb-true r d q))
    by_order false q ur ud h = let z = inner_step (record { next = d; rest = r }) s h in right_rest (ap (λ t. Some t.rest) z) (ap (λ t. t.next) z) (subst (λ t. u < t.next) z ud) (subst (λ t. t.next ≤ t.rest) z (low q))
      where
        low : nat_lt r d ≡ false → d ≤ r
        low g = elim (cases_lt r d) [ inl l ↦ absurd (apart_bool (nat_lt r d) (lt-ltb r d l) g) | inr l ↦ l ]

    by_test : (b : Bool) → (nat_lt u r && nat_lt u d) ≡ b → cond b (Some (cond (nat_lt r d) (record { next = r; rest = d }) (record { next = d; rest = r }))) None ≡ Some s → Parts u d (Some r) s
    by_test true q h = let z = and_parts (nat_lt u r) (nat_lt u d) q in by_order (nat_lt r d) refl (ltb-true u r z.0) (ltb-true u d z.1) h
    by_test false q h = absurd (none_some h)

pub no_parts : (u d : ℕ) (o : Option ℕ) (r : ℕ) → parted u d o ≡ None → u < d → o ≡ Some r → u < r → ⊥
no_parts u d o r e ud q ur = some_none (sym (ap (λ b. cond b (Some (cond (nat_lt r d) (record { next = r; rest = d }) (record { next = d; rest = r }))) None) (and_from (nat_lt u r) (nat_lt u d) (lt-ltb u r ur) (lt-ltb u d ud))) ∙ ap (parted u d) (sym q) ∙ e)
  where
    some_none : {y : Step} → Some y ≡ None → ⊥
    some_none e = absurd (cc)

pub same_stepped : (w : ℕ → Bool) (f : ℕ → Option Link) (n : ℕ) (g : Link → Link) (m : ℕ) → w n ≡ true → w m ≡ false → changed f n g m ≡ f m
same_stepped w f n g m h e = put_there f n m (option_map g (f n)) (λ q. apart_bool (w m) (subst (λ j. w j ≡ true) q h) e)

abbrev pub all_raised : (ℕ → Option Link) → ℕ → Step → ℕ → Option Link
all_raised g u s = raised (raised (turned g u (Some s.next)) s.next (Some u)) s.rest None

lift_same : (up : Option ℕ) (o : Option Link) → up_of o ≡ up → option_map (lift up) o ≡ o
lift_same up None e = refl
lift_same up (Some l) e = ap (λ v. Some (lift v l)) (sym e)

-- nothing changes where a number hangs from this one already
raised_same : (f : ℕ → Option Link) (n : ℕ) (up : Option ℕ) → up_of (f n) ≡ up → (m : ℕ) → raised f n up m ≡ f m
raised_same f n up e m = elim (cases_eq n m) [
  | inl q ↦ subst (λ j. raised f n up j ≡ f j) q (put_here f n (option_map (lift up) (f n)) ∙ lift_same up (f n) e)
  | inr ne ↦ put_there f n m (option_map (lift up) (f n)) ne
]

-- a step that raises nothing is as one that does
spared : (w : ℕ → Bool) (g : ℕ → Option Link) (a c : Option ℕ) (u d : ℕ) (s : Step) → IsForest w g a (Some d) c → w u ≡ true → Parts u d (right_of (g u)) s → stepped g u d (Some s) ≡ all_raised g u s
spared w g a c u d s i wu (right_next o z un nr) = ap (λ b. cond b one (all_raised g u s)) (eq-eqb s.rest d (sym z)) ∙ fun_ext (λ n. sym (last n ∙ first n))
  where
    one : ℕ → Option Link
    one = turned g u (Some s.next)

    up_one : (n : ℕ) → up_of (one n) ≡ up_of (g n)
    up_one n = keeps up_of g u (turn (Some s.next)) (turn_up (Some s.next)) n

    first : (n : ℕ) → raised one s.next (Some u) n ≡ one n
    first n = raised_same one s.next (Some u) (up_one s.next ∙ (i.right u s.next wu o).2) n

    last : (n : ℕ) → all_raised g u s n ≡ raised one s.next (Some u) n
    last n = raised_same (raised one s.next (Some u)) s.rest None (ap up_of (first s.rest) ∙ up_one s.rest ∙ ap (λ j. up_of (g j)) (sym z) ∙ (i.second d refl).1) n
spared w g a c u d s i wu (right_rest o z un nr) = ap (λ b. cond b (turned g u (Some s.next)) (all_raised g u s)) (ne_eqb s.rest d differ)
  where
    differ : s.rest ≡ d → ⊥
    differ q = none_some (sym (i.second d refl).1 ∙ ap (λ j. up_of (g j)) (sym q) ∙ (i.right u s.rest wu o).2)

-- one step on the way
pub melded_more : (w : ℕ → Bool) (f g h : ℕ → Option Link) (t u d : ℕ) (c : Option ℕ) (s : Step) → IsMelding w f g t u d c → parted u d (right_of (g u)) ≡ Some s → h ≡ stepped g u d (Some s) → IsMelding w f h t s.next s.rest c
melded_more w f g h t u d c s m e q = subst (λ k. IsMelding w f k t s.next s.rest c) (sym (q ∙ spared w g (Some t) c u d s i m.member (parts u d (right_of (g u)) s e))) (by_parts (parts u d (right_of (g u)) s e))
  where
    i : IsForest w g (Some t) (Some d) c
    i = m.forest

    new : ℕ → Option Link
    new = all_raised g u s

    dw : w d ≡ true
    dw = (i.second d refl).0

    differ : (r : ℕ) → right_of (g u) ≡ Some r → r ≡ d → ⊥
    differ r o z = none_some (sym (i.second d refl).1 ∙ ap (λ j. up_of (g j)) (sym z) ∙ (i.right u r m.member o).2)

    make : w s.next ≡ true → w s.rest ≡ true → u < s.next → s.next < s.rest → IsParted g u d s.next (Some s.rest) → IsMelding w f new t s.next s.rest c
    make wn wr un nr p = record {
      forest = hung w g new t u d s.next (Some s.rest) c i m.member m.low m.before p (hung_some g u s.next s.rest (i.there u m.member) (i.there s.next wn) nr);
      member = wn;
      low = omega (arith, m.low, un);
      above = nr;
      before = λ n z. omega (arith, m.before n z, un);
      same = λ n z. same_stepped w (raised (turned g u (Some s.next)) s.next (Some u)) s.rest (lift None) n wr z ∙ same_stepped w (turned g u (Some s.next)) s.next (lift (Some u)) n wn z ∙ same_stepped w g u (turn (Some s.next)) n m.member z ∙ m.same n z;
    }

    by_parts : Parts u d (right_of (g u)) s → IsMelding w f new t s.next s.rest c
    by_parts (right_next o z un nr) = make (i.right u s.next m.member o).0 (subst (λ j. w j ≡ true) z dw) un nr (record {
      above = un;
      behind = λ n y. omega (arith, nr, some_eq y);
      is_x = inr o;
      is_y = λ n y. inl (sym (some_eq y) ∙ sym z);
      is_d = inr (ap (λ j. Some j) (sym z));
      is_right = λ n y. inl (some_eq (sym y ∙ o));
    })
    by_parts (right_rest o z un nr) =
        let lt : s.next < s.rest = elim (cases_lt s.next s.rest) [ inl l ↦ l | inr l ↦ absurd (differ s.rest o (omega (arith, l, nr, z))) ] in
        make (subst (λ j. w j ≡ true) z dw) (i.right u s.rest m.member o).0 un lt (record {
          above = un;
          behind = λ n y. omega (arith, lt, some_eq y);
          is_x = inl (sym z);
          is_y = λ n y. inr (o ∙ y);
          is_d = inl z;
          is_right = λ n y. inr (sym o ∙ y);
        })

-- the last step
pub melded_last : (w : ℕ → Bool) (f g h : ℕ → Option Link) (t u d : ℕ) (b c : Option ℕ) → IsMelding w f g t u d c → parted u d (right_of (g u)) ≡ None → h ≡ stepped g u d None → IsJoined w f h (Some t) b (Some t) c
melded_last w f g h t u d b c m e q = subst (λ k. IsJoined w f k (Some t) b (Some t) c) (sym q) (record {
  forest = hung w g new t u d d None c i m.member m.low m.before (record {
    above = m.above;
    behind = λ n y. absurd (none_some y);
    is_x = inl refl;
    is_y = λ n y. absurd (none_some y);
    is_d = inl refl;
    is_right = λ n y. absurd (no_parts u d (right_of (g u)) n e m.above y (i.right u n m.member y).1);
  }) (hung_none g u d (i.there u m.member) (i.there d dw));
  same = λ n z. same_stepped w (turned g u (Some d)) d (lift (Some u)) n dw z ∙ same_stepped w g u (turn (Some d)) n m.member z ∙ m.same n z;
  one = λ n z ne. absurd (ne z);
})
  where
    i : IsForest w g (Some t) (Some d) c
    i = m.forest

    new : ℕ → Option Link
    new = stepped g u d None

    dw : w d ≡ true
    dw = (i.second d refl).0

-- ---- in another order

pub swapped : (w : ℕ → Bool) (f : ℕ → Option Link) (a b c : Option ℕ) → IsForest w f a b c → IsForest w f b a c
swapped w f a b c i = record { there = i.there; first = i.second; second = i.first; third = i.third; member = λ n h. placed w f b a c n (turned_place n (place w f a b c n i h)); left = i.left; right = i.right; apart = i.apart }
  where
    turned_place : (n : ℕ) → Placed w f a b c n → Placed w f b a c n
    turned_place n (is_first e) = is_second e
    turned_place n (is_second e) = is_first e
    turned_place n (is_third e) = is_third e
    turned_place n (hangs p e h l s) = hangs p e h l s

pub rotated : (w : ℕ → Bool) (f : ℕ → Option Link) (a b c : Option ℕ) → IsForest w f a b c → IsForest w f c a b
rotated w f a b c i = record { there = i.there; first = i.third; second = i.first; third = i.second; member = λ n h. placed w f c a b n (turned_place n (place w f a b c n i h)); left = i.left; right = i.right; apart = i.apart }
  where
    turned_place : (n : ℕ) → Placed w f a b c n → Placed w f c a b n
    turned_place n (is_first e) = is_second e
    turned_place n (is_second e) = is_third e
    turned_place n (is_third e) = is_first e
    turned_place n (hangs p e h l s) = hangs p e h l s

-- ---- two trees become one

pub join_first : (w : ℕ → Bool) (f g : ℕ → Option Link) (a b c : Option ℕ) (m n : ℕ) → a ≡ Some m → b ≡ Some n
    → (IsForest w f (Some m) (Some n) c → IsBefore c (Some m) → IsJoined w f g (Some m) (Some n) (Some m) c) → IsForest w f a b c → IsBefore c a → IsJoined w f g a b (Some m) c
join_first w f g a b c m n ea eb k i h =
    let j = k (subst (λ o. IsForest w f (Some m) o c) eb (subst (λ o. IsForest w f o b c) ea i)) (λ x y p q. h x y p (ea ∙ q)) in
    record { forest = j.forest; same = j.same; one = λ x e ne. absurd (ne (ea ∙ e)) }

pub join_second : (w : ℕ → Bool) (f g : ℕ → Option Link) (a b c : Option ℕ) (m n : ℕ) → a ≡ Some m → b ≡ Some n
    → (n < m → IsForest w f (Some n) (Some m) c → IsBefore c (Some n) → IsJoined w f g (Some n) (Some m) (Some n) c) → (m < n → ⊥) → AreApart a b → IsForest w f a b c → IsBefore c b → IsJoined w f g a b (Some n) c
join_second w f g a b c m n ea eb k ge differ i h =
    let lt : n < m = elim (cases_lt n m) [ inl l ↦ l | inr l ↦ elim (cases_lt m n) [ inl q ↦ absurd (ge q) | inr q ↦ absurd (differ m ea (eb ∙ ap (λ j. Some j) (omega (arith, l, q)))) ] ] in
    let j = k lt (swapped w f (Some m) (Some n) c (subst (λ o. IsForest w f (Some m) o c) eb (subst (λ o. IsForest w f o b c) ea i))) (λ x y p q. h x y p (eb ∙ q)) in
    record { forest = j.forest; same = j.same; one = λ x e ne. eb ∙ e }
