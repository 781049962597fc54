-- A number that is put into a heap is in it, and all else is as before.
use Rattle.std.proofs.Common.{◌≡◌, inl, inr, cond, ℕ, Bool, true, false, is_some, Option, Some, None, refl, sym, ap, subst, ◌∙◌}
use Rattle.std.proofs.Math.Path.{fun_ext}
use Rattle.std.specs.Prelude.{option_map}
use Rattle.std.proofs.lemmas.Bool.{cases_eq, eq-eqb, ne_eqb}
use Rattle.mcv_queues.specs.declared.rows.Link.{Link}
use Rattle.mcv_queues.specs.Forest.{left_of, right_of, up_of, IsForest, free_link, freed}
use Rattle.mcv_queues.specs.Heap.{AreApart, IsBefore, IsJoined, with_one, IsIn}
use Rattle.mcv_queues.proofs.GroupsAreHeaps.{carried}
use Rattle.mcv_queues.proofs.Places.{Placed, is_first, is_second, is_third, hangs, place, placed, put_here, put_there, some_eq, none_some, apart_bool}

abbrev pub to_free : Link → Link
to_free l = free_link

pub entered : (w : ℕ → Bool) (f f1 g : ℕ → Option Link) (a : Option ℕ) (x : ℕ) (result : Option ℕ) → IsForest w f a None None → w x ≡ false → is_some (f x) ≡ true → f1 ≡ freed f x
    → (IsForest (with_one w x) f1 a (Some x) None → AreApart a (Some x) → IsBefore None a → IsBefore None (Some x) → IsJoined (with_one w x) f1 g a (Some x) result None) → IsIn w f g x result
entered w f f1 g a x result i out there e k =
    let j = k (subst (λ h. IsForest v h a (Some x) None) (sym e) forest) (λ n p q. apart_bool (w n) (i.first n p).0 (subst (λ m. w m ≡ false) (some_eq q) out)) (λ p q z. absurd (none_some z)) (λ p q z. absurd (none_some z)) in
    record {
      forest = j.forest;
      same = λ n h ne. j.same n (ap (λ b. cond b true (w n)) (ne_eqb x n ne) ∙ h) ∙ ap (λ u. u n) e ∙ put_there f x n _ ne;
    }
  where
    v : ℕ → Bool
    v = with_one w x

    new : ℕ → Option Link
    new = freed f x

    not_x : (n : ℕ) → w n ≡ true → x ≡ n → ⊥
    not_x n h q = apart_bool (w n) h (subst (λ m. w m ≡ false) q out)

    had : (n : ℕ) → w n ≡ true → v n ≡ true
    had n h = ap (λ b. cond b true (w n)) (ne_eqb x n (not_x n h)) ∙ h

    old : (n : ℕ) → v n ≡ true → (x ≡ n → ⊥) → w n ≡ true
    old n h ne = sym (ap (λ b. cond b true (w n)) (ne_eqb x n ne)) ∙ h

    same : (n : ℕ) → (x ≡ n → ⊥) → new n ≡ f n
    same n ne = put_there f x n _ ne

    freed_up : (o : Option Link) → up_of (option_map to_free o) ≡ None
    freed_up None = refl
    freed_up (Some l) = refl

    freed_left : (o : Option Link) → left_of (option_map to_free o) ≡ None
    freed_left None = refl
    freed_left (Some l) = refl

    freed_right : (o : Option Link) → right_of (option_map to_free o) ≡ None
    freed_right None = refl
    freed_right (Some l) = refl

    freed_some : (o : Option Link) → is_some (option_map to_free o) ≡ is_some o
    freed_some None = refl
    freed_some (Some l) = refl

    by_place : (n : ℕ) → (x ≡ n → ⊥) → Placed w f a None None n → Placed v new a (Some x) None n
    by_place n ne (is_first q) = is_first q
    by_place n ne (is_second q) = absurd (none_some q)
    by_place n ne (is_third q) = absurd (none_some q)
    by_place n ne (hangs p q h l s) = hangs p (ap up_of (same n ne) ∙ q) (had p h) l (elim s [ inl z ↦ inl (ap left_of (same p (not_x p h)) ∙ z) | inr z ↦ inr (ap right_of (same p (not_x p h)) ∙ z) ])

    forest : IsForest v new a (Some x) None
    forest = record {
      there = λ n h. elim (cases_eq x n) [
        | inl q ↦ subst (λ m. is_some (new m) ≡ true) q (ap is_some (put_here f x _) ∙ freed_some (f x) ∙ there)
        | inr ne ↦ ap is_some (same n ne) ∙ i.there n (old n h ne)
      ];
      first = λ n q. (had n (i.first n q).0, ap up_of (same n (not_x n (i.first n q).0)) ∙ (i.first n q).1);
      second = λ n q. (ap (λ b. cond b true (w n)) (eq-eqb x n (some_eq q)), subst (λ m. up_of (new m) ≡ None) (some_eq q) (ap up_of (put_here f x _) ∙ freed_up (f x)));
      third = λ n q. absurd (none_some q);
      member = λ n h. elim (cases_eq x n) [
        | inl q ↦ placed v new a (Some x) None n (is_second (ap (λ j. Some j) q))
        | inr ne ↦ placed v new a (Some x) None n (by_place n ne (place w f a None None n i (old n h ne)))
      ];
      left = λ p n h q. elim (cases_eq x p) [
        | inl z ↦ absurd (none_some (sym (subst (λ m. left_of (new m) ≡ None) z (ap left_of (put_here f x _) ∙ freed_left (f x))) ∙ q))
        | inr ne ↦ let o = i.left p n (old p h ne) (sym (ap left_of (same p ne)) ∙ q) in (had n o.0, o.1, ap up_of (same n (not_x n o.0)) ∙ o.2)
      ];
      right = λ p n h q. elim (cases_eq x p) [
        | inl z ↦ absurd (none_some (sym (subst (λ m. right_of (new m) ≡ None) z (ap right_of (put_here f x _) ∙ freed_right (f x))) ∙ q))
        | inr ne ↦ let o = i.right p n (old p h ne) (sym (ap right_of (same p ne)) ∙ q) in (had n o.0, o.1, ap up_of (same n (not_x n o.0)) ∙ o.2)
      ];
      apart = λ p n h q r. elim (cases_eq x p) [
        | inl z ↦ none_some (sym (subst (λ m. left_of (new m) ≡ None) z (ap left_of (put_here f x _) ∙ freed_left (f x))) ∙ q)
        | inr ne ↦ i.apart p n (old p h ne) (sym (ap left_of (same p ne)) ∙ q) (sym (ap right_of (same p ne)) ∙ r)
      ];
    }

freed_some_here : (o : Option Link) → is_some o ≡ true → option_map to_free o ≡ Some free_link
freed_some_here None e = absurd (cc)
freed_some_here (Some l) e = refl

pub freed_here : (f f1 : ℕ → Option Link) (x : ℕ) → is_some (f x) ≡ true → f1 ≡ freed f x → f1 x ≡ Some free_link
freed_here f f1 x there e = ap (λ u. u x) e ∙ put_here f x _ ∙ freed_some_here (f x) there

-- a number with no links is as it would be freed
freed_same : (f : ℕ → Option Link) (x : ℕ) → f x ≡ Some free_link → (n : ℕ) → f n ≡ freed f x n
freed_same f x e n = elim (cases_eq x n) [
  | inl q ↦ subst (λ j. f j ≡ freed f x j) q (e ∙ sym (ap (option_map to_free) e) ∙ sym (put_here f x _))
  | inr ne ↦ sym (put_there f x n _ ne)
]

pub entered_new : (w : ℕ → Bool) (f g : ℕ → Option Link) (a : Option ℕ) (x : ℕ) (result : Option ℕ) → IsForest w f a None None → w x ≡ false → f x ≡ Some free_link
    → (IsForest (with_one w x) f a (Some x) None → AreApart a (Some x) → IsBefore None a → IsBefore None (Some x) → IsJoined (with_one w x) f g a (Some x) result None) → IsIn w f g x result
entered_new w f g a x result i out e k = entered w f f g a x result i out (ap is_some e) (fun_ext (freed_same f x e)) k

-- what holds of the number that was freed first
pub entered_freed : (w : ℕ → Bool) (f f1 g : ℕ → Option Link) (a : Option ℕ) (x : ℕ) (result : Option ℕ) → IsForest w f a None None → w x ≡ false → f1 ≡ freed f x
    → (IsForest w f1 a None None → w x ≡ false → IsIn w f1 g x result) → IsIn w f g x result
entered_freed w f f1 g a x result i out e k =
    let j = k (carried w w f f1 a a i refl (λ n. refl) (λ n h. beside n (λ q. apart_bool (w n) h (subst (λ m. w m ≡ false) q out)))) out in
    record { forest = j.forest; same = λ n h ne. j.same n h ne ∙ beside n ne }
  where
    beside : (n : ℕ) → (x ≡ n → ⊥) → f1 n ≡ f n
    beside n ne = ap (λ u. u n) e ∙ put_there f x n _ ne
