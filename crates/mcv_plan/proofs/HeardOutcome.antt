-- What an outcome changes in a part, by what it changes in a child.
use Rattle.std.proofs.Common.{◌≡◌, ◌<◌, ◌-◌, inl, inr, cond, ℕ, zero, suc, Bool, true, false, nat_eq, List, [], ◌∷◌, ◌++◌, Option, Some, None, option_map, refl, sym, ap, ◌∙◌, append-nil, append_assoc, arith}
use Rattle.std.specs.Prelude.{◌==◌}
use Rattle.mcv_base.specs.declared.reply.Outcome.{Outcome}
use Rattle.mcv_route.specs.Children.{joined}
use Rattle.mcv_plan.specs.declared.answer.Answer.{Answer}
use Rattle.mcv_plan.specs.ReachedAnswers.{Own, Reached, IsBefore, IsMerge, Changes, ChangesAt, nothing, put, reached, answer_of, all_answered, at, is_hit, last_came, over, prevails, waits, first_answered, of_entry}
use Rattle.mcv_plan.specs.State.{State, send, all, beside, on_hit, states_of, Heard, HeardAt, IsOnlyIn, IsUnheard, Reflects, ReflectEach, entries, entries_each, holds, plan, plan_each, sends, sends_each, answered, answered_each, wave}
use Rattle.mcv_plan.proofs.PartsAreLocal.{Agree, agree_put, agree_unheard, either_map, reflects_local, answered_local, answered_plan, sends_local, holds_cases, unheard_local}
use Rattle.mcv_plan.proofs.Merges.{merge_append, merge_before, merge_behind, merge_new, merge_same}
use Rattle.mcv_plan.proofs.Lists.{AreBefore, each_before, last_set, merge_set, only_one, over_answer, over_answered, plan_set, positive, prevails_set, sends_at, sends_within, within_if, reflect_set, reflects_at, changes_at, answered_same, waits_set}

suc_zero : (n : ℕ) → (suc n == 0) ≡ false
suc_zero n = grind arith

-- ---- a leg

pub heard_send : (e k : ℕ) (x : Outcome) (b : List ℕ) → holds e (k ∷ []) ≡ true → Heard e x (Some (of_entry e x)) b b (send k) (send k)
heard_send e k x b h =
    let is : k ≡ e = grind (arith, h) in
    rw is record {
      same = refl;
      reflects = λ o t n b sent s. s;
      reply = λ o t n b sent s. (n, own o t (nat_eq e e) (grind arith));
      fresh = λ o t n q sent s. ([], sym (append-nil b), merge_same (e ∷ []));
    }
  where
    own : (o : Own) (t : ℕ) (c : Bool) → c ≡ true → cond c (Some (reached e x t)) (o e) ≡ Some (record { answer = of_entry e x; came = t })
    own o t true f = refl
    own o t false f = absurd (cc)

-- ---- all

option_at : (t : ℕ) (x : Option Reached) (a : Reached) → x ≡ Some a → option_map (at t) x ≡ Some (at t a)
option_at t x a e = ap (option_map (at t)) e

pub all_answers : (t : ℕ) (xs ys : List (Option Reached)) (i : ℕ) (a : Answer) (n : ℕ) (worst : Option Answer) (r : Option Answer) → 0 < t → AreBefore t xs → ChangesAt t (Some a) i xs ys
    → worst ≡ answer_of (prevails xs) → n ≡ waits xs - 1 → r ≡ cond (n == 0) (Some (over worst a)) None
    → (n ≡ waits ys) × (Some (over worst a) ≡ answer_of (prevails ys)) × Changes t r (all_answered xs) (all_answered ys)
all_answers t xs ys i a n worst r pos b f g m e =
    let new : Reached = record { answer = a; came = t } in
    let one : waits xs ≡ suc (waits ys) = rw (f.1) (waits_set xs i new f.0) in
    let count : n ≡ waits ys = omega (arith, one, m) in
    let best : prevails ys ≡ Some (over_answered (prevails xs) new) = rw (f.1) (prevails_set xs i new pos b f.0) in
    let last : last_came ys ≡ t = rw (f.1) (last_set xs i new b f.0) in
    let answer : (over_answered (prevails xs) new).answer ≡ over worst a = rw g (over_answer (prevails xs) new) in
    let waited : all_answered xs ≡ None = waiting_none (waits xs) (waits ys) _ one in
    (count, ap Some (sym answer) ∙ sym (ap answer_of best), changes (n == 0) (sym (ap (λ z. z == 0) count)) e waited last best answer)
  where
    waiting_none : (v w : ℕ) (z : Option Reached) → v ≡ suc w → cond (v == 0) z None ≡ None
    waiting_none v w z h = rw (h, suc_zero w) refl

    changes : (c : Bool) → (waits ys == 0) ≡ c → r ≡ cond c (Some (over worst a)) None → all_answered xs ≡ None → last_came ys ≡ t → prevails ys ≡ Some (over_answered (prevails xs) (record { answer = a; came = t }))
        → (over_answered (prevails xs) (record { answer = a; came = t })).answer ≡ over worst a → Changes t r (all_answered xs) (all_answered ys)
    changes true z e waited last best answer = rw e (waited, rw (z, last, best) (ap (λ q. Some (record { answer = q; came = t })) answer))
    changes false z e waited last best answer = rw (e, z) (sym waited)

module _ (ends : List ℕ) (ss us : List State) (e : ℕ) (x : Outcome) (i : ℕ) (before after : List ℕ) (only : IsOnlyIn e i (entries_each (states_of ss))) where
  same_plans : (r : Option Answer) → HeardAt e x r before after i ss us → plan_each (states_of us) ≡ plan_each (states_of ss)
  same_plans r h = rw h.now (plan_set ss i h.was h.«is» h.here h.heard.same)

  answered_in : (r : Option Answer) → HeardAt e x r before after i ss us → (o : Own) (t : ℕ) → o e ≡ None → IsBefore o t → holds e (joined (sends_each o (states_of ss))) ≡ true → ReflectEach o (states_of ss)
      → ChangesAt t r i (answered_each o (states_of ss)) (answered_each (put o e (reached e x t)) (states_of ss))
  answered_in r h o t n b sent s =
      changes_at o e x t r ss i h.was h.here only (h.heard.reply o t n b (sends_at o e ss i h.was h.here only sent) (reflects_at o ss i h.was h.here s))

  reflect_in : (r : Option Answer) → HeardAt e x r before after i ss us → (o : Own) (t : ℕ) → o e ≡ None → IsBefore o t → holds e (joined (sends_each o (states_of ss))) ≡ true → ReflectEach o (states_of ss)
      → ReflectEach (put o e (reached e x t)) (states_of us)
  reflect_in r h o t n b sent s =
      rw h.now (reflect_set o e (reached e x t) ss i h.«is» only (h.heard.reflects o t n b (sends_at o e ss i h.was h.here only sent) (reflects_at o ss i h.was h.here s)) s)

  fresh_in : (r : Option Answer) → HeardAt e x r before after i ss us → (o : Own) (t : ℕ) → o e ≡ None → IsBefore o t → holds e (joined (sends_each o (states_of ss))) ≡ true → ReflectEach o (states_of ss)
      → (ks : List ℕ) × (after ≡ before ++ ks) × IsMerge (joined (sends_each o (states_of ss))) ks (joined (sends_each (put o e (reached e x t)) (states_of ss)))
  fresh_in r h o t n b sent s =
      let f = h.heard.fresh o t n b (sends_at o e ss i h.was h.here only sent) (reflects_at o ss i h.was h.here s) in
      (f.0, f.1, merge_set o e (reached e x t) ss i h.was f.0 h.here only f.2)

  -- the answered of the children that are left, by those of the children as they were
  answered_now : (r : Option Answer) → HeardAt e x r before after i ss us → (q : Own) → answered_each q (states_of us) ≡ answered_each q (states_of ss)
  answered_now r h q = answered_same q (states_of ss) (states_of us) (same_plans r h)

  pub heard_all_none : (waiting : ℕ) (worst : Option Answer) → HeardAt e x None before after i ss us → Heard e x None before after (all ends (states_of ss) waiting worst) (all ends (states_of us) waiting worst)
  heard_all_none waiting worst h = record {
    same = ap (λ z. all ends z 0 None) (same_plans None h);
    reflects = λ o t n b sent s.
        let same = answered_now None h (put o e (reached e x t)) ∙ answered_in None h o t n b sent s.2 in
        (s.0 ∙ sym (ap waits same), s.1 ∙ sym (ap (λ z. answer_of (prevails z)) same), reflect_in None h o t n b sent s.2);
    reply = λ o t n b sent s. ap all_answered (answered_in None h o t n b sent s.2);
    fresh = λ o t n b sent s. fresh_in None h o t n b sent s.2;
  }

  pub heard_all_some : (waiting : ℕ) (worst : Option Answer) (a : Answer) (m : ℕ) (r : Option Answer) → m ≡ waiting - 1 → r ≡ cond (m == 0) (Some (over worst a)) None
      → HeardAt e x (Some a) before after i ss us → Heard e x r before after (all ends (states_of ss) waiting worst) (all ends (states_of us) m (Some (over worst a)))
  heard_all_some waiting worst a m r less is h =
      let changes : (o : Own) (t : ℕ) → o e ≡ None → IsBefore o t → holds e (joined (sends_each o (states_of ss))) ≡ true → Reflects o (all ends (states_of ss) waiting worst)
      → (m ≡ waits (answered_each (put o e (reached e x t)) (states_of ss))) × (Some (over worst a) ≡ answer_of (prevails (answered_each (put o e (reached e x t)) (states_of ss))))
      × Changes t r (all_answered (answered_each o (states_of ss))) (all_answered (answered_each (put o e (reached e x t)) (states_of ss)))
      = λ o t n b sent s. all_answers t (answered_each o (states_of ss)) (answered_each (put o e (reached e x t)) (states_of ss)) i a m worst r (positive o t b) (each_before o t (states_of ss) b) (answered_in (Some a) h o t n b sent s.2)
      s.1 (less ∙ ap (λ z. z - 1) s.0) is
      in
      record {
        same = ap (λ z. all ends z 0 None) (same_plans (Some a) h);
        reflects = λ o t n b sent s.
            let f = changes o t n b sent s in
            let now = answered_now (Some a) h (put o e (reached e x t)) in
            (f.0 ∙ sym (ap waits now), f.1 ∙ sym (ap (λ z. answer_of (prevails z)) now), reflect_in (Some a) h o t n b sent s.2);
        reply = λ o t n b sent s. (changes o t n b sent s).2;
        fresh = λ o t n b sent s. fresh_in (Some a) h o t n b sent s.2;
      }

  pub heard_beside : (r : Option Answer) → HeardAt e x r before after i ss us → Heard e x (cond (i == 0) r None) before after (beside ends (states_of ss)) (beside ends (states_of us))
  heard_beside r h = record {
    same = ap (λ z. beside ends z) (same_plans r h);
    reflects = λ o t n b sent s. reflect_in r h o t n b sent s;
    reply = λ o t n b sent s. first_reports t r i (answered_each o (states_of ss)) (answered_each (put o e (reached e x t)) (states_of ss)) (answered_in r h o t n b sent s);
    fresh = λ o t n b sent s. fresh_in r h o t n b sent s;
  }
    where
      first_reports : (t : ℕ) (r : Option Answer) (j : ℕ) (xs ys : List (Option Reached)) → ChangesAt t r j xs ys → Changes t (cond (j == 0) r None) (first_answered xs) (first_answered ys)
      first_reports t None zero xs ys f = ap first_answered f
      first_reports t None (suc j) xs ys f = rw (suc_zero j) (ap first_answered f)
      first_reports t (Some a) zero [] ys f = absurd (let g = f.0 in cc)
      first_reports t (Some a) zero (z ∷ xs) ys f = let g : Some z ≡ Some None = f.0 in let w : z ≡ None = cc in (w, ap first_answered f.1)
      first_reports t (Some a) (suc j) [] ys f = absurd (let g = f.0 in cc)
      first_reports t (Some a) (suc j) (z ∷ xs) ys f = rw (suc_zero j) (ap first_answered f.1)

-- ---- after a hit

hit_stays : (t : ℕ) (r : Option Answer) (x y : Option Reached) → Changes t r x y → is_hit r ≡ false → is_hit (answer_of y) ≡ is_hit (answer_of x)
hit_stays t None x y f off = ap (λ z. is_hit (answer_of z)) f
hit_stays t (Some a) x y f off = rw (f.0, f.1) off

hit_comes : (t : ℕ) (r : Option Answer) (x y : Option Reached) → Changes t r x y → is_hit r ≡ true → (is_hit (answer_of x) ≡ false) × (is_hit (answer_of y) ≡ true)
hit_comes t None x y f on = absurd (cc)
hit_comes t (Some a) x y f on = (rw (f.0) refl, rw (f.1) on)

-- what waits for an outcome that has come now
pub opened_agree : (o : Own) (e : ℕ) (r : Reached) (ks : List ℕ) → holds e ks ≡ false → IsUnheard o ks → Agree nothing (put o e r) ks
opened_agree o e r ks off u = λ k h. agree_unheard o ks u k h ∙ agree_put o e r ks off k h

pub heard_hit_off : (e : ℕ) (x : Outcome) (r : Option Answer) (b a : List ℕ) (s v : State) (end : ℕ) (u : State) → holds e (entries u) ≡ false → is_hit r ≡ false
    → Heard e x r b a s v → Heard e x r b a (on_hit s end u) (on_hit v end u)
heard_hit_off e x r b a s v end u off miss h =
    let sent_first : (o : Own) → holds e (sends o (on_hit s end u)) ≡ true → holds e (sends o s) ≡ true =
    λ o sent. only_one e (sends o s) (cond (is_hit (answer_of (answered o s))) (sends o u) []) (entries u)
    (λ f. within_if (is_hit (answer_of (answered o s))) e (sends o u) (entries u) (λ g. sends_within o e u g) f) off sent
    in
    record {
      same = ap (λ z. on_hit z end (plan u)) h.same;
      reflects = λ o t n bf sent st.
          let q = put o e (reached e x t) in
          let first = sent_first o sent in
          let stays = hit_stays t r (answered o s) (answered q s) (h.reply o t n bf first st.0) miss in
          let seen_now : answered q v ≡ answered q s = sym (answered_plan q v) ∙ ap (answered q) h.same ∙ answered_plan q s in (
            h.reflects o t n bf first st.0,
            rw (seen_now, stays) (either_map (is_hit (answer_of (answered o s))) (Reflects o u) (Reflects nothing u × IsUnheard o (entries u)) (Reflects q u) (Reflects nothing u × IsUnheard q (entries u))
                (λ g. reflects_local o q u (agree_put o e (reached e x t) (entries u) off) g) (λ g. (g.0, unheard_local o q (entries u) (agree_put o e (reached e x t) (entries u) off) g.1)) st.1),
          );
      reply = λ o t n bf sent st. h.reply o t n bf (sent_first o sent) st.0;
      fresh = λ o t n bf sent st.
          let q = put o e (reached e x t) in
          let first = sent_first o sent in
          let stays = hit_stays t r (answered o s) (answered q s) (h.reply o t n bf first st.0) miss in
          let f = h.fresh o t n bf first st.0 in
          (f.0, f.1, rw (stays, ← sends_local o q u (agree_put o e (reached e x t) (entries u) off)) (merge_before (sends o s) f.0 (sends q s) (cond (is_hit (answer_of (answered o s))) (sends o u) []) f.2));
    }

pub opens_merge : (b c : Bool) (xs ks ys us vs ws : List ℕ) → b ≡ false → c ≡ true → vs ≡ ws → IsMerge xs ks ys → IsMerge (xs ++ cond b us []) (ks ++ ws) (ys ++ cond c vs [])
opens_merge b c xs ks ys us vs ws off on e m = rw (off, on, e) (merge_append xs ks ys [] ws ws m (merge_new ws))

pub behind_merge : (b c : Bool) (xs ys us ks vs : List ℕ) → b ≡ true → c ≡ b → ys ≡ xs → IsMerge us ks vs → IsMerge (xs ++ cond b us []) ks (ys ++ cond c vs [])
behind_merge b c xs ys us ks vs on same e m = rw (same, e, on) (merge_behind us ks vs xs m)

pub heard_hit_on : (e : ℕ) (x : Outcome) (r : Option Answer) (b a c : List ℕ) (s v : State) (end : ℕ) (u : State) → holds e (entries u) ≡ false → is_hit r ≡ true
    → (Reflects nothing u → c ≡ a ++ wave u) → Heard e x r b a s v → Heard e x r b c (on_hit s end u) (on_hit v end u)
heard_hit_on e x r b a c s v end u off hit opens h =
    let sent_first : (o : Own) → holds e (sends o (on_hit s end u)) ≡ true → holds e (sends o s) ≡ true =
    λ o sent. only_one e (sends o s) (cond (is_hit (answer_of (answered o s))) (sends o u) []) (entries u)
    (λ f. within_if (is_hit (answer_of (answered o s))) e (sends o u) (entries u) (λ g. sends_within o e u g) f) off sent
    in
    record {
      same = ap (λ z. on_hit z end (plan u)) h.same;
      reflects = λ o t n bf sent st.
          let q = put o e (reached e x t) in
          let first = sent_first o sent in
          let comes = hit_comes t r (answered o s) (answered q s) (h.reply o t n bf first st.0) hit in
          let rests : Reflects nothing u × IsUnheard o (entries u) = (rw (comes.0) at st.1) in
          let seen_now : answered q v ≡ answered q s = sym (answered_plan q v) ∙ ap (answered q) h.same ∙ answered_plan q s in
          (h.reflects o t n bf first st.0, rw (seen_now, comes.1) (reflects_local nothing q u (opened_agree o e (reached e x t) (entries u) off rests.1) rests.0));
      reply = λ o t n bf sent st. h.reply o t n bf (sent_first o sent) st.0;
      fresh = λ o t n bf sent st.
          let q = put o e (reached e x t) in
          let first = sent_first o sent in
          let comes = hit_comes t r (answered o s) (answered q s) (h.reply o t n bf first st.0) hit in
          let rests : Reflects nothing u × IsUnheard o (entries u) = (rw (comes.0) at st.1) in
          let f = h.fresh o t n bf first st.0 in (
            f.0 ++ wave u,
            opens rests.0 ∙ ap (λ z. z ++ wave u) f.1 ∙ append_assoc b f.0 (wave u),
            opens_merge (is_hit (answer_of (answered o s))) (is_hit (answer_of (answered q s))) (sends o s) f.0 (sends q s) (sends o u) (sends q u) (wave u) comes.0 comes.1 (sym (sends_local nothing q u (opened_agree o e (reached e x t) (entries u) off rests.1))) f.2,
          );
    }

pub second_sent : (e : ℕ) (b : Bool) (xs ys : List ℕ) → holds e (xs ++ cond b ys []) ≡ true → holds e xs ≡ false → (b ≡ true) × (holds e ys ≡ true)
second_sent e true xs ys h off = elim (holds_cases e xs ys h) as (λ _. (true ≡ true) × (holds e ys ≡ true)) [
  | inl f ↦ absurd (cc)
  | inr f ↦ (refl, f)
]
second_sent e false xs ys h off = elim (holds_cases e xs [] h) as (λ _. (false ≡ true) × (holds e ys ≡ true)) [
  | inl f ↦ absurd (cc)
  | inr f ↦ absurd (cc)
]

pub off_within : (o : Own) (e : ℕ) (s : State) (b : Bool) → holds e (sends o s) ≡ b → holds e (entries s) ≡ false → b ≡ false
off_within o e s true is off = let f = sends_within o e s is in absurd (cc)
off_within o e s false is off = refl

pub heard_second : (e : ℕ) (x : Outcome) (r : Option Answer) (b a : List ℕ) (s : State) (end : ℕ) (u v : State) → holds e (entries s) ≡ false
    → Heard e x r b a u v → Heard e x None b a (on_hit s end u) (on_hit s end v)
heard_second e x r b a s end u v off h =
    let sent_second : (o : Own) → holds e (sends o (on_hit s end u)) ≡ true → (is_hit (answer_of (answered o s)) ≡ true) × (holds e (sends o u) ≡ true) =
    λ o sent. second_sent e (is_hit (answer_of (answered o s))) (sends o s) (sends o u) sent (off_within o e s (holds e (sends o s)) refl off)
    in
    record {
      same = ap (λ z. on_hit (plan s) end z) h.same;
      reflects = λ o t n bf sent st.
          let q = put o e (reached e x t) in
          let second = sent_second o sent in
          let reflected : Reflects o u = (rw (second.0) at st.1) in
          (reflects_local o q s (agree_put o e (reached e x t) (entries s) off) st.0, rw (← answered_local o q s (agree_put o e (reached e x t) (entries s) off), second.0) (h.reflects o t n bf second.1 reflected));
      reply = λ o t n bf sent st. sym (answered_local o (put o e (reached e x t)) s (agree_put o e (reached e x t) (entries s) off));
      fresh = λ o t n bf sent st.
          let q = put o e (reached e x t) in
          let second = sent_second o sent in
          let reflected : Reflects o u = (rw (second.0) at st.1) in
          let f = h.fresh o t n bf second.1 reflected in
          let apart = agree_put o e (reached e x t) (entries s) off in
          (f.0, f.1, behind_merge (is_hit (answer_of (answered o s))) (is_hit (answer_of (answered q s))) (sends o s) (sends q s) (sends o u) f.0 (sends q u) second.0 (ap (λ z. is_hit (answer_of z)) (sym (answered_local o q s apart))) (sym (sends_local o q s apart)) f.2);
    }
