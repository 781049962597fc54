-- A number that is taken out of a heap leaves the others in it.
use Rattle.std.proofs.Common.{◌≡◌, ◌&&◌, inl, inr, cond, not, ℕ, ◌≤◌, Bool, true, false, nat_eq, is_some, Option, Some, None, refl, sym, ap, subst, ◌∙◌, arith}
use Rattle.std.specs.Prelude.{option_map}
use Rattle.std.proofs.lemmas.Bool.{cases_eq, eq-eqb, ne_eqb, leb-true, and_from, and_parts}
use Rattle.mcv_queues.specs.declared.rows.Link.{Link}
use Rattle.mcv_queues.specs.Numbers.{names, is_up_to}
use Rattle.mcv_queues.specs.Forest.{left_of, right_of, up_of, IsForest, raised_some, unless, cut}
use Rattle.mcv_queues.specs.Heap.{AreApart, IsBefore, IsJoined, without, IsOut}
use Rattle.mcv_queues.proofs.Places.{Placed, is_first, is_second, is_third, hangs, place, placed, put_here, put_there, some_eq, none_some, apart_bool, names_some, some_names, cases_names}
use Rattle.mcv_queues.proofs.LinkChanges.{keeps, raised_left, raised_right, raised_some_there, raised_none}
use Rattle.mcv_queues.proofs.MeldsAreForests.{rotated}
use Rattle.mcv_queues.proofs.RootIsLeast.{root_least}

pub unless_some : (o : Option ℕ) (x n : ℕ) → unless o x ≡ Some n → (o ≡ Some n) × (x ≡ n → ⊥)
unless_some o x n e = elim (cases_names o x) [
  | inl q ↦ absurd (none_some (sym (ap (λ b. cond b None o) (some_names o x q)) ∙ e))
  | inr ne ↦ let h = sym (ap (λ b. cond b None o) (off (names o x) (λ q. ne (names_some o x q)))) ∙ e in (h, λ q. ne (h ∙ ap (λ j. Some j) (sym q)))
]
  where
    off : (b : Bool) → (b ≡ true → ⊥) → b ≡ false
    off true ne = absurd (ne refl)
    off false ne = refl

pub some_unless : (o : Option ℕ) (x n : ℕ) → o ≡ Some n → (x ≡ n → ⊥) → unless o x ≡ Some n
some_unless o x n e ne = ap (λ z. unless z x) e ∙ ap (λ b. cond b None (Some n)) (ne_eqb n x (λ q. ne (sym q)))

abbrev pub cut_link : ℕ → Link → Link
cut_link x l = record { left = unless l.left x; right = unless l.right x; up = l.up }

pub cut_left : (x : ℕ) (o : Option Link) → left_of (option_map (cut_link x) o) ≡ unless (left_of o) x
cut_left x None = refl
cut_left x (Some l) = refl

pub cut_right : (x : ℕ) (o : Option Link) → right_of (option_map (cut_link x) o) ≡ unless (right_of o) x
cut_right x None = refl
cut_right x (Some l) = refl

pub cut_up : (x : ℕ) (o : Option Link) → up_of (option_map (cut_link x) o) ≡ up_of o
cut_up x None = refl
cut_up x (Some l) = refl

pub cut_some : (x : ℕ) (o : Option Link) → is_some (option_map (cut_link x) o) ≡ is_some o
cut_some x None = refl
cut_some x (Some l) = refl

pub cut_keeps_up : (f : ℕ → Option Link) (o : Option ℕ) (x n : ℕ) → up_of (cut f o x n) ≡ up_of (f n)
cut_keeps_up f None x n = refl
cut_keeps_up f (Some p) x n = keeps up_of f p (cut_link x) (cut_up x) n

pub cut_keeps_some : (f : ℕ → Option Link) (o : Option ℕ) (x n : ℕ) → is_some (cut f o x n) ≡ is_some (f n)
cut_keeps_some f None x n = refl
cut_keeps_some f (Some p) x n = keeps is_some f p (cut_link x) (cut_some x) n

pub cut_there : (f : ℕ → Option Link) (o : Option ℕ) (x n : ℕ) → (o ≡ Some n → ⊥) → cut f o x n ≡ f n
cut_there f None x n ne = refl
cut_there f (Some p) x n ne = put_there f p n _ (λ q. ne (ap (λ j. Some j) q))

pub cut_here_left : (f : ℕ → Option Link) (o : Option ℕ) (x n : ℕ) → o ≡ Some n → left_of (cut f o x n) ≡ unless (left_of (f n)) x
cut_here_left f o x n e = ap (λ z. left_of (cut f z x n)) e ∙ ap left_of (put_here f n _) ∙ cut_left x (f n)

pub cut_here_right : (f : ℕ → Option Link) (o : Option ℕ) (x n : ℕ) → o ≡ Some n → right_of (cut f o x n) ≡ unless (right_of (f n)) x
cut_here_right f o x n e = ap (λ z. right_of (cut f z x n)) e ∙ ap right_of (put_here f n _) ∙ cut_right x (f n)

pub raised_some_left : (f : ℕ → Option Link) (o : Option ℕ) (n : ℕ) → left_of (raised_some f o None n) ≡ left_of (f n)
raised_some_left f None n = refl
raised_some_left f (Some m) n = raised_left f m None n

pub raised_some_right : (f : ℕ → Option Link) (o : Option ℕ) (n : ℕ) → right_of (raised_some f o None n) ≡ right_of (f n)
raised_some_right f None n = refl
raised_some_right f (Some m) n = raised_right f m None n

pub raised_some_is_some : (f : ℕ → Option Link) (o : Option ℕ) (n : ℕ) → is_some (raised_some f o None n) ≡ is_some (f n)
raised_some_is_some f None n = refl
raised_some_is_some f (Some m) n = raised_some_there f m None n

pub raised_some_beside : (f : ℕ → Option Link) (o : Option ℕ) (n : ℕ) → (o ≡ Some n → ⊥) → raised_some f o None n ≡ f n
raised_some_beside f None n ne = refl
raised_some_beside f (Some m) n ne = put_there f m n _ (λ q. ne (ap (λ j. Some j) q))

pub raised_some_here : (f : ℕ → Option Link) (o : Option ℕ) (n : ℕ) → o ≡ Some n → up_of (raised_some f o None n) ≡ None
raised_some_here f o n e = ap (λ z. up_of (raised_some f z None n)) e ∙ raised_none f n

pub raised_some_none : (f : ℕ → Option Link) (o : Option ℕ) (n : ℕ) → up_of (f n) ≡ None → up_of (raised_some f o None n) ≡ None
raised_some_none f o n e = elim (cases_names o n) [ inl q ↦ raised_some_here f o n q | inr ne ↦ ap up_of (raised_some_beside f o n ne) ∙ e ]

abbrev pub outside : (ℕ → Option Link) → ℕ → Link → ℕ → Option Link
outside f x l = raised_some (raised_some (cut f l.up x) l.left None) l.right None

pub taken : (w : ℕ → Bool) (f : ℕ → Option Link) (a : Option ℕ) (x : ℕ) (l : Link) → IsForest w f a None None → w x ≡ true → f x ≡ Some l → IsForest (without w x) (outside f x l) l.left l.right (unless a x)
taken w f a x l i wx fx =
    record {
      there = λ n h. raised_some_is_some two l.right n ∙ raised_some_is_some one l.left n ∙ cut_keeps_some f l.up x n ∙ i.there n (was n h).0;
      first = λ n e. let o = i.left x n wx (ap left_of fx ∙ e) in (still n o.0 (λ q. omega (arith, q, o.1)), raised_some_none two l.right n (raised_some_here one l.left n e));
      second = λ n e. let o = i.right x n wx (ap right_of fx ∙ e) in (still n o.0 (λ q. omega (arith, q, o.1)), raised_some_here two l.right n e);
      third = λ n e. let u = unless_some a x n e in (still n (i.first n u.0).0 u.1, raised_some_none two l.right n (raised_some_none one l.left n (cut_keeps_up f l.up x n ∙ (i.first n u.0).1)));
      member = λ n h. placed v new l.left l.right (unless a x) n (by_place n (was n h).1 (place w f a None None n i (was n h).0));
      left = λ q n h e. let z = left_was q n (was q h).0 e in let o = i.left q n (was q h).0 z.0 in (still n o.0 z.1, o.1, up_still n q o.2 (was q h).1);
      right = λ q n h e. let z = right_was q n (was q h).0 e in let o = i.right q n (was q h).0 z.0 in (still n o.0 z.1, o.1, up_still n q o.2 (was q h).1);
      apart = λ q n h e r. i.apart q n (was q h).0 (left_was q n (was q h).0 e).0 (right_was q n (was q h).0 r).0;
    }
  where
    v : ℕ → Bool
    v = without w x

    one : ℕ → Option Link
    one = cut f l.up x

    two : ℕ → Option Link
    two = raised_some one l.left None

    new : ℕ → Option Link
    new = outside f x l

    not_false : (b : Bool) → not b ≡ true → b ≡ false
    not_false true e = absurd (cc)
    not_false false e = refl

    was : (n : ℕ) → v n ≡ true → (w n ≡ true) × (x ≡ n → ⊥)
    was n h = let z = and_parts (w n) (not (nat_eq x n)) h in (z.0, λ q. apart_bool (nat_eq x n) (eq-eqb x n q) (not_false (nat_eq x n) z.1))

    still : (n : ℕ) → w n ≡ true → (x ≡ n → ⊥) → v n ≡ true
    still n h ne = and_from (w n) (not (nat_eq x n)) h (ap not (ne_eqb x n ne))

    left_is : (n : ℕ) → left_of (new n) ≡ left_of (one n)
    left_is n = raised_some_left two l.right n ∙ raised_some_left one l.left n

    right_is : (n : ℕ) → right_of (new n) ≡ right_of (one n)
    right_is n = raised_some_right two l.right n ∙ raised_some_right one l.left n

    left_was : (q n : ℕ) → w q ≡ true → left_of (new q) ≡ Some n → (left_of (f q) ≡ Some n) × (x ≡ n → ⊥)
    left_was q n h e = elim (cases_names l.up q) [
      | inl z ↦ unless_some (left_of (f q)) x n (sym (cut_here_left f l.up x q z) ∙ sym (left_is q) ∙ e)
      | inr ne ↦
          let o : left_of (f q) ≡ Some n = sym (ap left_of (cut_there f l.up x q ne)) ∙ sym (left_is q) ∙ e in
          (o, λ y. ne (sym (ap up_of fx) ∙ ap (λ j. up_of (f j)) y ∙ (i.left q n h o).2))
    ]

    right_was : (q n : ℕ) → w q ≡ true → right_of (new q) ≡ Some n → (right_of (f q) ≡ Some n) × (x ≡ n → ⊥)
    right_was q n h e = elim (cases_names l.up q) [
      | inl z ↦ unless_some (right_of (f q)) x n (sym (cut_here_right f l.up x q z) ∙ sym (right_is q) ∙ e)
      | inr ne ↦
          let o : right_of (f q) ≡ Some n = sym (ap right_of (cut_there f l.up x q ne)) ∙ sym (right_is q) ∙ e in
          (o, λ y. ne (sym (ap up_of fx) ∙ ap (λ j. up_of (f j)) y ∙ (i.right q n h o).2))
    ]

    left_still : (q n : ℕ) → left_of (f q) ≡ Some n → (x ≡ n → ⊥) → left_of (new q) ≡ Some n
    left_still q n e ne = left_is q ∙ elim (cases_names l.up q) [ inl z ↦ cut_here_left f l.up x q z ∙ some_unless (left_of (f q)) x n e ne | inr away ↦ ap left_of (cut_there f l.up x q away) ∙ e ]

    right_still : (q n : ℕ) → right_of (f q) ≡ Some n → (x ≡ n → ⊥) → right_of (new q) ≡ Some n
    right_still q n e ne = right_is q ∙ elim (cases_names l.up q) [ inl z ↦ cut_here_right f l.up x q z ∙ some_unless (right_of (f q)) x n e ne | inr away ↦ ap right_of (cut_there f l.up x q away) ∙ e ]

    up_still : (n q : ℕ) → up_of (f n) ≡ Some q → (x ≡ q → ⊥) → up_of (new n) ≡ Some q
    up_still n q e ne =
        ap up_of (raised_some_beside two l.right n (λ z. ne (some_eq (sym (i.right x n wx (ap right_of fx ∙ z)).2 ∙ e))))
        ∙ ap up_of (raised_some_beside one l.left n (λ z. ne (some_eq (sym (i.left x n wx (ap left_of fx ∙ z)).2 ∙ e)))) ∙ cut_keeps_up f l.up x n ∙ e

    by_place : (n : ℕ) → (x ≡ n → ⊥) → Placed w f a None None n → Placed v new l.left l.right (unless a x) n
    by_place n ne (is_first e) = is_third (some_unless a x n e ne)
    by_place n ne (is_second e) = absurd (none_some e)
    by_place n ne (is_third e) = absurd (none_some e)
    by_place n ne (hangs p e h lt s) = elim (cases_eq x p) [
      | inl z ↦ elim s [
        | inl y ↦ is_first (sym (ap left_of fx) ∙ ap (λ j. left_of (f j)) z ∙ y)
        | inr y ↦ is_second (sym (ap right_of fx) ∙ ap (λ j. right_of (f j)) z ∙ y)
      ]
      | inr away ↦ hangs p (up_still n p e away) (still p h away) lt (elim s [ inl y ↦ inl (left_still p n y ne) | inr y ↦ inr (right_still p n y ne) ])
    ]

pub left_tree : (w : ℕ → Bool) (f f3 g h : ℕ → Option Link) (a : Option ℕ) (x : ℕ) (l : Link) (m result rest : Option ℕ) → IsForest w f a None None → w x ≡ true → f x ≡ Some l → f3 ≡ outside f x l → rest ≡ unless a x
    → ((c : Option ℕ) → IsForest (without w x) f3 l.left l.right c → AreApart l.left l.right → IsBefore c l.left → IsBefore c l.right → IsJoined (without w x) f3 g l.left l.right m c)
    → (IsForest (without w x) g rest m None → AreApart rest m → IsBefore None rest → IsBefore None m → IsJoined (without w x) g h rest m result None)
    → IsOut w f h x result
left_tree w f f3 g h a x l m result rest i wx fx e r k1 k2 =
    let j1 = k1 rest (subst (λ o. IsForest v f3 l.left l.right o) (sym r) (subst (λ u. IsForest v u l.left l.right (unless a x)) (sym e) (taken w f a x l i wx fx)))
    (λ n p q. i.apart x n wx (ap left_of fx ∙ p) (ap right_of fx ∙ q))
    (λ y n p q. let o = (i.left x n wx (ap left_of fx ∙ q)).1 in omega (arith, o, low y p))
    (λ y n p q. let o = (i.right x n wx (ap right_of fx ∙ q)).1 in omega (arith, o, low y p)) in
    let j2 = k2 (rotated v g m None rest j1.forest)
    (λ n p q. elim (cases_names l.left n) [
      | inl z ↦ let o = (i.left x n wx (ap left_of fx ∙ z)).1 in omega (arith, o, low n p)
      | inr ne ↦ let o = (i.right x n wx (ap right_of fx ∙ j1.one n q ne)).1 in omega (arith, o, low n p)
    ])
    (λ y n p q. absurd (none_some p)) (λ y n p q. absurd (none_some p)) in
    record {
      forest = j2.forest;
      same = λ n q. j2.same n (gone n q) ∙ j1.same n (gone n q) ∙ ap (λ u. u n) e ∙ raised_some_beside two l.right n (λ z. apart_bool (w n) (i.right x n wx (ap right_of fx ∙ z)).0 q)
          ∙ raised_some_beside one l.left n (λ z. apart_bool (w n) (i.left x n wx (ap left_of fx ∙ z)).0 q) ∙ cut_there f l.up x n (λ z. apart_bool (w n) (parent n (place w f a None None x i wx) (ap up_of fx ∙ z)) q);
    }
  where
    v : ℕ → Bool
    v = without w x

    one : ℕ → Option Link
    one = cut f l.up x

    two : ℕ → Option Link
    two = raised_some one l.left None

    low : (y : ℕ) → rest ≡ Some y → y ≤ x
    low y p = leb-true y x (sym (ap (λ o. is_up_to o x) (unless_some a x y (sym r ∙ p)).0) ∙ (root_least w f a i).least x wx)

    gone : (n : ℕ) → w n ≡ false → v n ≡ false
    gone n q = ap (λ b. b && not (nat_eq x n)) q

    parent : (n : ℕ) → Placed w f a None None x → up_of (f x) ≡ Some n → w n ≡ true
    parent n (is_first z) u = absurd (none_some (sym (i.first x z).1 ∙ u))
    parent n (is_second z) u = absurd (none_some z)
    parent n (is_third z) u = absurd (none_some z)
    parent n (hangs p z y lt s) u = subst (λ j. w j ≡ true) (some_eq (sym z ∙ u)) y
