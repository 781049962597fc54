-- Courses in memory are those of their plans: one more in a list, and one part at a time.
use Rattle.std.proofs.Common.{◌≡◌, ◌≢◌, ◌<◌, ◌+◌, ℕ, zero, suc, Bool, true, false, List, [], ◌∷◌, ◌++◌, length, map, take, get_or, Vec, Box, Global, refl, sym, ap, ◌∙◌, arith, add-one, append-nil, append_assoc, length-append, vec_len}
use Rattle.std.specs.Prelude.{◌==◌}
use Rattle.std.proofs.Math.Seq.{take-suc}
use Rattle.std.proofs.lemmas.List.{length-map, map-append}
use Rattle.mcv_base.specs.declared.reply.FixedReply.TheVariants.{ErrorRoute}
use Rattle.mcv_route.specs.declared.launch.Launch.{Launch}
use Rattle.mcv_route.specs.Children.{is_within, joined}
use Rattle.mcv_route.specs.Outcomes.{Choice}
use Rattle.mcv_rules.specs.declared.plan.PlannedLeg.{PlannedLeg}
use Rattle.mcv_rules.specs.declared.plan.Plan.{Plan, Send, Shadowed}
use Rattle.mcv_plan.specs.declared.course.Course as courses
use Rattle.mcv_plan.specs.declared.course.Course.{Course}
use Rattle.mcv_plan.specs.CourseOfPlan.{BuiltEach, IsBuilt}
use Rattle.mcv_plan.specs.Entries.{legs_of, numbers}
use Rattle.mcv_plan.specs.State.{State, entries}
use Rattle.mcv_plan.specs.View.{view}
use Rattle.mcv_plan.proofs.PartsBuilt.{built_push, built_send, built_silent}
use Rattle.mcv_plan.proofs.Views.{view-Reply, view-Send}

-- ---- one child more

joined_push : (xss : List (List Launch)) (xs : List Launch) → joined (xss ++ xs ∷ []) ≡ joined xss ++ xs
joined_push [] xs = append-nil xs
joined_push (ys ∷ xss) xs = ap (λ zs. ys ++ zs) (joined_push xss xs) ∙ sym (append_assoc ys (joined xss) xs)

module _ (c : Choice) (plans : List Plan) (i : ℕ) (p : Plan) (first old new : List Launch) (h : i < length plans) (is : p ≡ get_or plans i p) where
  take_next : take (i + 1) plans ≡ take i plans ++ p ∷ []
  take_next = rw (add-one i) (take-suc plans i p h ∙ ap (λ q. take i plans ++ q ∷ []) (sym is))

  legs_next : joined (map (legs_of c) (take (i + 1) plans)) ≡ joined (map (legs_of c) (take i plans)) ++ legs_of c p
  legs_next =
      ap (λ ps. joined (map (legs_of c) ps)) take_next
      ∙ ap joined (map-append (legs_of c) (take i plans) (p ∷ []))
      ∙ joined_push (map (legs_of c) (take i plans)) (legs_of c p)

  pub entries_grow : old ≡ first ++ joined (map (legs_of c) (take i plans)) → new ≡ old ++ legs_of c p → new ≡ first ++ joined (map (legs_of c) (take (i + 1) plans))
  entries_grow e f =
      f ∙ ap (λ ls. ls ++ legs_of c p) e ∙ append_assoc first (joined (map (legs_of c) (take i plans))) (legs_of c p) ∙ ap (λ ls. first ++ ls) (sym legs_next)

  pub courses_grow : (es : List ℕ) (cs : List Course) (m : ℕ) (child : Course) → old ≡ first ++ joined (map (legs_of c) (take i plans)) → new ≡ old ++ legs_of c p → m ≡ length new
      → IsBuilt c p (length old) (view child) → BuiltEach c (take i plans) (length first) es (map view cs) → BuiltEach c (take (i + 1) plans) (length first) (es ++ m ∷ []) (map view (cs ++ child ∷ []))
  courses_grow es cs m child e f g built each =
      let before : length old ≡ length first + length (joined (map (legs_of c) (take i plans))) = ap length e ∙ length-append first (joined (map (legs_of c) (take i plans))) in
      let after : m ≡ length old + length (legs_of c p) = g ∙ ap length f ∙ length-append old (legs_of c p) in
      rw (take_next, map-append view cs (child ∷ [])) (built_push c (take i plans) (length first) es (map view cs) p (length old) m (view child) each before built after)

-- ---- one part

pub sent_at : (c : Choice) (l : PlannedLeg) (n from : ℕ) → n ≡ from → IsBuilt c (Send l) from (view (courses.Send n))
sent_at c l n from e = rw (view-Send n, e) (built_send c l from)

pub silent_at : (c : Choice) (symbol first last from : ℕ) (p : Box Plan Global) → is_within (record { first = first; last = last }) (c symbol) ≡ false → IsBuilt c (Shadowed symbol first last p) from (view (courses.Reply ErrorRoute))
silent_at c symbol first last from p off = rw (view-Reply ErrorRoute) (built_silent c symbol first last from p off)

-- ---- no children, or some

pub no_courses : (v : Vec Course Global) (b : Bool) → b ≡ (vec_len v == 0) → b ≡ true → length (map view v.items) ≡ 0
no_courses v b e on = length-map v.items view ∙ grind (arith, e, on, v.ok.0)

pub some_courses : (v : Vec Course Global) (b : Bool) → b ≡ (vec_len v == 0) → b ≡ false → length (map view v.items) ≢ 0
some_courses v b e off = λ none. absurd (let count = length-map v.items view in grind (arith, e, off, none, count, v.ok.0))

-- ---- how many legs

pub count_numbers : (n from : ℕ) → length (numbers from n) ≡ n
count_numbers zero from = refl
count_numbers (suc n) from = ap suc (count_numbers n (suc from))

pub count_entries : (s : State) (ls : List Launch) (from : ℕ) → entries s ≡ numbers from (length ls) → length (entries s) ≡ length ls
count_entries s ls from e = ap length e ∙ count_numbers (length ls) from
