-- Each group's legs form a heap after each change.
use Rattle.std.proofs.Common.{◌≡◌, ◌&&◌, inl, inr, cond, not, ℕ, ◌<◌, Bool, true, false, nat_eq, is_some, Option, Some, None, refl, sym, ap, subst, ◌∙◌}
use Rattle.std.proofs.Math.Path.{fun_ext}
use Rattle.std.specs.Prelude.{option_map}
use Rattle.std.proofs.lemmas.Bool.{cases_eq, eq-eqb, ne_eqb, eqb-true, lt-ltb, and_parts, and_left, and_right}
use Rattle.mcv_queues.specs.declared.leg.Leg.{Leg}
use Rattle.mcv_queues.specs.declared.rows.Link.{Link}
use Rattle.mcv_queues.specs.declared.leg.State.{State}
use Rattle.mcv_queues.specs.declared.leg.State.TheVariants.{Waiting, Sent, Held, Refused, InSpool, InReplay}
use Rattle.mcv_queues.specs.declared.roots.Group.{Group}
use Rattle.mcv_queues.specs.declared.roots.Group.TheVariants.{WaitingFor, SpooledFor, HeldLegs, RefusedLegs, LegsInReplay}
use Rattle.mcv_queues.specs.Forest.{left_of, right_of, up_of, IsForest}
use Rattle.mcv_queues.specs.Heap.{without, with_one, IsOut, IsIn}
use Rattle.mcv_queues.specs.Groups.{group_at, group_of, same_group, is_group, is_in}
use Rattle.mcv_queues.specs.Legs.{in_state, with_state}
use Rattle.mcv_queues.specs.Soundness.{AreTrees, AreTreesBut, AreInRange}
use Rattle.mcv_queues.specs.Roots.{is_known, put_root}
use Rattle.mcv_queues.proofs.Places.{Placed, is_first, is_second, is_third, hangs, place, placed, put_here, put_there, none_some, apart_bool, bool_cases}

inner_group : (a b : Group) → Some a ≡ Some b → a ≡ b
inner_group a b e = cc

none_group : {g : Group} → None ≡ Some g → ⊥
none_group e = absurd (cc)

pub known_state : (s : ℕ) (st : State) (g : Group) (k : ℕ) → s < k → group_at s st ≡ Some g → is_known k g ≡ true
known_state s Waiting g k h e = subst (λ j. is_known k j ≡ true) (inner_group (WaitingFor s) g e) (lt-ltb s k h)
known_state s Sent g k h e = absurd (none_group e)
known_state s Held g k h e = subst (λ j. is_known k j ≡ true) (inner_group HeldLegs g e) refl
known_state s Refused g k h e = subst (λ j. is_known k j ≡ true) (inner_group RefusedLegs g e) refl
known_state s InSpool g k h e = subst (λ j. is_known k j ≡ true) (inner_group (SpooledFor s) g e) (lt-ltb s k h)
known_state s InReplay g k h e = subst (λ j. is_known k j ≡ true) (inner_group LegsInReplay g e) refl

pub known_group : {T : Type 0} (o : Option (Leg T)) (g : Group) (k : ℕ) → ((l : Leg T) → o ≡ Some l → l.server.0 < k) → group_of o ≡ Some g → is_known k g ≡ true
known_group None g k h e = absurd (none_group e)
known_group (Some l) g k h e = known_state l.server.0 l.state g k (h l refl) e

group_same : (g h : Group) → same_group g h ≡ true → g ≡ h
group_same (WaitingFor s) (WaitingFor t) e = ap (λ j. WaitingFor j) (eqb-true s t e)
group_same (SpooledFor s) (SpooledFor t) e = ap (λ j. SpooledFor j) (eqb-true s t e)
group_same HeldLegs HeldLegs e = refl
group_same RefusedLegs RefusedLegs e = refl
group_same LegsInReplay LegsInReplay e = refl
group_same g h e = absurd (cc)

same_self : (g : Group) → same_group g g ≡ true
same_self (WaitingFor s) = eq-eqb s s refl
same_self (SpooledFor s) = eq-eqb s s refl
same_self HeldLegs = refl
same_self RefusedLegs = refl
same_self LegsInReplay = refl

-- a number of one group is in no other
other_group : (o : Option Group) (g h : Group) → is_group o h ≡ true → same_group g h ≡ false → is_group o g ≡ false
other_group None g h e d = refl
other_group (Some k) g h e d = elim (bool_cases (same_group k g)) [
  | inl q ↦ absurd (apart_bool (same_group g h) (subst (λ j. same_group j h ≡ true) (group_same k g q) e) d)
  | inr q ↦ q
]

-- ---- forests beside one another

pub carried : (w v : ℕ → Bool) (f g : ℕ → Option Link) (a b : Option ℕ) → IsForest w f a None None → b ≡ a → ((n : ℕ) → v n ≡ w n) → ((n : ℕ) → w n ≡ true → g n ≡ f n) → IsForest v g b None None
carried w v f g a b i eb ev eg = subst (λ u. IsForest u g b None None) (sym (fun_ext ev)) (subst (λ o. IsForest w g o None None) (sym eb) (record {
  there = λ n h. ap is_some (eg n h) ∙ i.there n h;
  first = λ n e. ((i.first n e).0, ap up_of (eg n (i.first n e).0) ∙ (i.first n e).1);
  second = λ n e. absurd (none_some e);
  third = λ n e. absurd (none_some e);
  member = λ n h. placed w g a None None n (by_place n h (place w f a None None n i h));
  left = λ p n h e. let o = i.left p n h (sym (ap left_of (eg p h)) ∙ e) in (o.0, o.1, ap up_of (eg n o.0) ∙ o.2);
  right = λ p n h e. let o = i.right p n h (sym (ap right_of (eg p h)) ∙ e) in (o.0, o.1, ap up_of (eg n o.0) ∙ o.2);
  apart = λ p n h e r. i.apart p n h (sym (ap left_of (eg p h)) ∙ e) (sym (ap right_of (eg p h)) ∙ r);
}))
  where
    by_place : (n : ℕ) → w n ≡ true → Placed w f a None None n → Placed w g a None None n
    by_place n h (is_first e) = is_first e
    by_place n h (is_second e) = is_second e
    by_place n h (is_third e) = is_third e
    by_place n h (hangs p e q l s) = hangs p (ap up_of (eg n h) ∙ e) q l (elim s [ inl z ↦ inl (ap left_of (eg p q) ∙ z) | inr z ↦ inr (ap right_of (eg p q) ∙ z) ])

without_there : (w : ℕ → Bool) (x n : ℕ) → (x ≡ n → ⊥) → without w x n ≡ w n
without_there w x n ne = ap (λ b. w n && not b) (ne_eqb x n ne) ∙ and_true (w n)
  where
    and_true : (b : Bool) → (b && true) ≡ b
    and_true true = refl
    and_true false = refl

without_here : (w : ℕ → Bool) (x n : ℕ) → x ≡ n → without w x n ≡ false
without_here w x n q = and_right (w n) (not (nat_eq x n)) (ap not (eq-eqb x n q))

without_same : (w : ℕ → Bool) (x n : ℕ) → w x ≡ false → without w x n ≡ w n
without_same w x n e = elim (cases_eq x n) [ inl q ↦ without_here w x n q ∙ sym (subst (λ j. w j ≡ false) q e) | inr ne ↦ without_there w x n ne ]

without_parts : (w : ℕ → Bool) (x n : ℕ) → without w x n ≡ true → (w n ≡ true) × (x ≡ n → ⊥)
without_parts w x n h = ((and_parts (w n) (not (nat_eq x n)) h).0, λ q. apart_bool (without w x n) h (without_here w x n q))

-- ---- a leg leaves its group

pub left_group : {T : Type 0} (legs : ℕ → Option (Leg T)) (f f2 : ℕ → Option Link) (roots roots2 : Group → Option ℕ) (x : ℕ) (g : Group) (root : Option ℕ) → AreTrees legs f roots → group_of (legs x) ≡ Some g
    → (a : Option ℕ) → a ≡ roots g → (IsForest (is_in legs g) f a None None → is_in legs g x ≡ true → IsOut (is_in legs g) f f2 x root) → ((h : Group) → roots2 h ≡ put_root roots g root h) → AreTreesBut x legs f2 roots2
left_group legs f f2 roots roots2 x g root t is a ea k rs = λ h. elim (bool_cases (same_group g h)) [
  | inl e ↦ subst (λ j. IsForest (without (is_in legs j) x) f2 (roots2 j) None None) (group_same g h e) (subst (λ o. IsForest (without (is_in legs g) x) f2 o None None) (sym (rs g ∙ ap (λ b. cond b root (roots g)) (same_self g))) out.forest)
  | inr e ↦ carried (is_in legs h) (without (is_in legs h) x) f f2 (roots h) (roots2 h) (t h) (rs h ∙ ap (λ b. cond b root (roots h)) e) (λ n. without_same (is_in legs h) x n (ap (λ o. is_group o h) is ∙ e)) (λ n q. out.same n (other_group (group_of (legs n)) g h q e))
]
  where
    out : IsOut (is_in legs g) f f2 x root
    out = k (subst (λ o. IsForest (is_in legs g) f o None None) (sym ea) (t g)) (ap (λ o. is_group o g) is ∙ same_self g)

pub left_none : {T : Type 0} (legs : ℕ → Option (Leg T)) (f : ℕ → Option Link) (roots : Group → Option ℕ) (x : ℕ) → AreTrees legs f roots → group_of (legs x) ≡ None → AreTreesBut x legs f roots
left_none legs f roots x t is = λ h. carried (is_in legs h) (without (is_in legs h) x) f f (roots h) (roots h) (t h) refl (λ n. without_same (is_in legs h) x n (ap (λ o. is_group o h) is)) (λ n q. refl)

-- ---- a leg enters its group

pub entered_group : {T : Type 0} (legs : ℕ → Option (Leg T)) (f f2 : ℕ → Option Link) (roots roots2 : Group → Option ℕ) (x : ℕ) (g : Group) (root : Option ℕ) → AreTreesBut x legs f roots → group_of (legs x) ≡ Some g
    → (a : Option ℕ) → a ≡ roots g → (IsForest (without (is_in legs g) x) f a None None → without (is_in legs g) x x ≡ false → IsIn (without (is_in legs g) x) f f2 x root) → ((h : Group) → roots2 h ≡ put_root roots g root h) → AreTrees legs f2 roots2
entered_group legs f f2 roots roots2 x g root t is a ea k rs = λ h. elim (bool_cases (same_group g h)) [
  | inl e ↦ subst (λ j. IsForest (is_in legs j) f2 (roots2 j) None None) (group_same g h e)
      (carried (with_one (without (is_in legs g) x) x) (is_in legs g) f2 f2 root (roots2 g) ins.forest (rs g ∙ ap (λ b. cond b root (roots g)) (same_self g)) again (λ n q. refl))
  | inr e ↦ carried (without (is_in legs h) x) (is_in legs h) f f2 (roots h) (roots2 h) (t h) (rs h ∙ ap (λ b. cond b root (roots h)) e) (λ n. sym (without_same (is_in legs h) x n (ap (λ o. is_group o h) is ∙ e)))
      (λ n q. let z = without_parts (is_in legs h) x n q in ins.same n (and_left (is_in legs g n) (not (nat_eq x n)) (other_group (group_of (legs n)) g h z.0 e)) z.1)
]
  where
    ins : IsIn (without (is_in legs g) x) f f2 x root
    ins = k (subst (λ o. IsForest (without (is_in legs g) x) f o None None) (sym ea) (t g)) (without_here (is_in legs g) x x refl)

    here : is_in legs g x ≡ true
    here = ap (λ o. is_group o g) is ∙ same_self g

    again : (n : ℕ) → is_in legs g n ≡ with_one (without (is_in legs g) x) x n
    again n = elim (cases_eq x n) [
      | inl q ↦ subst (λ j. is_in legs g j ≡ true) q here ∙ sym (ap (λ b. cond b true (without (is_in legs g) x n)) (eq-eqb x n q))
      | inr ne ↦ sym (ap (λ b. cond b true (without (is_in legs g) x n)) (ne_eqb x n ne) ∙ without_there (is_in legs g) x n ne)
    ]

pub entered_none : {T : Type 0} (legs : ℕ → Option (Leg T)) (f : ℕ → Option Link) (roots : Group → Option ℕ) (x : ℕ) → AreTreesBut x legs f roots → group_of (legs x) ≡ None → AreTrees legs f roots
entered_none legs f roots x t is = λ h. carried (without (is_in legs h) x) (is_in legs h) f f (roots h) (roots h) (t h) refl (λ n. sym (without_same (is_in legs h) x n (ap (λ o. is_group o h) is))) (λ n q. refl)

-- ---- another leg than those in trees changes

pub beside : {T : Type 0} (legs legs2 : ℕ → Option (Leg T)) (f f2 : ℕ → Option Link) (roots : Group → Option ℕ) (x : ℕ) → AreTreesBut x legs f roots → ((n : ℕ) → (x ≡ n → ⊥) → legs2 n ≡ legs n) → ((n : ℕ) → (x ≡ n → ⊥) → f2 n ≡ f n) → AreTreesBut x legs2 f2 roots
beside legs legs2 f f2 roots x t el ef = λ h. carried (without (is_in legs h) x) (without (is_in legs2 h) x) f f2 (roots h) (roots h) (t h) refl
    (λ n. elim (cases_eq x n) [ inl q ↦ without_here (is_in legs2 h) x n q ∙ sym (without_here (is_in legs h) x n q) | inr ne ↦ ap (λ o. is_group (group_of o) h && not (nat_eq x n)) (el n ne) ])
    (λ n q. ef n (without_parts (is_in legs h) x n q).1)

pub inner_leg : {T : Type 0} (a b : Leg T) → Some a ≡ Some b → a ≡ b
inner_leg a b e = cc

pub none_leg : {T : Type 0} {l : Leg T} → None ≡ Some l → ⊥
none_leg e = absurd (cc)

state_server : {T : Type 0} (st : State) (o : Option (Leg T)) (k : ℕ) → ((l : Leg T) → o ≡ Some l → l.server.0 < k) → (l : Leg T) → option_map (in_state st) o ≡ Some l → l.server.0 < k
state_server st None k h l e = absurd (none_leg e)
state_server st (Some o) k h l e = subst (λ j. j < k) (ap (λ y. y.server.0) (inner_leg (in_state st o) l e)) (h o refl)

pub range_with_state : {T : Type 0} (legs legs2 : ℕ → Option (Leg T)) (k k2 : ℕ) (x : ℕ) (st : State) → AreInRange legs k → legs2 ≡ with_state legs x st → k2 ≡ k → AreInRange legs2 k2
range_with_state legs legs2 k k2 x st r el ek = λ n l e. subst (λ j. l.server.0 < j) (sym ek) (elim (cases_eq x n) [
  | inl q ↦ state_server st (legs x) k (r x) l (sym (put_here legs x (option_map (in_state st) (legs x))) ∙ ap (λ j. with_state legs x st j) q ∙ sym (ap (λ u. u n) el) ∙ e)
  | inr ne ↦ r n l (sym (put_there legs x n (option_map (in_state st) (legs x)) ne) ∙ sym (ap (λ u. u n) el) ∙ e)
])

pub beside_with_state : {T : Type 0} (legs legs2 : ℕ → Option (Leg T)) (f f2 : ℕ → Option Link) (roots : Group → Option ℕ) (x : ℕ) (st : State) → AreTreesBut x legs f roots → legs2 ≡ with_state legs x st → f2 ≡ f → AreTreesBut x legs2 f2 roots
beside_with_state legs legs2 f f2 roots x st t el ef = beside legs legs2 f f2 roots x t (λ n ne. ap (λ u. u n) el ∙ put_there legs x n (option_map (in_state st) (legs x)) ne) (λ n ne. ap (λ u. u n) ef)
