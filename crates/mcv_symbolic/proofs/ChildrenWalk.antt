-- A walk over the children of a plan in memory: one child more, and what the walk then has.
use Rattle.std.proofs.Common.{◌≡◌, ◌<◌, ◌≤◌, ◌+◌, ℕ, suc, Bool, true, false, List, [], ◌∷◌, ◌++◌, length, map, drop, take, get_or, Option, Some, None, Vec, Global, refl, sym, ap, ◌∙◌, subst, arith, add-one, append-nil, append_assoc}
use Rattle.std.specs.Prelude.{fold, if◌then◌else◌}
use Rattle.std.proofs.Math.Seq.{take-suc}
use Rattle.std.proofs.lemmas.List.{length-append, map-append, take_all, take_at, take-append-drop}
use Rattle.std.proofs.lemmas.List.Sums.{fold-append, fold_push}
use Rattle.mcv_base.specs.Reply.{is_error, is_missed}
use Rattle.mcv_base.specs.declared.reply.Outcome.{Outcome}
use Rattle.mcv_base.specs.declared.reply.Outcome.TheVariants.{Good, Soft, Error}
use Rattle.mcv_route.specs.Children.{together}
use Rattle.mcv_route.specs.Outcomes.{Outcomes}
use Rattle.mcv_rules.specs.Arrivals.{goes_on, goes_on_after}
use Rattle.mcv_rules.specs.Plan as whole
use Rattle.mcv_rules.specs.Plan.{Leg, reply}
use Rattle.mcv_rules.specs.NormalForm.{Part, all_of, alone, beside, in_turn, led_by, part, part_of, shade, turns_of, whole_of}
use Rattle.mcv_rules.specs.declared.arrival.After.{After}
use Rattle.mcv_rules.specs.declared.arrival.After.TheVariants as after
use Rattle.mcv_rules.specs.declared.plan.Plan.{Plan, All, InTurn}
use Rattle.mcv_rules.proofs.Searching.{joined_reply}
use Rattle.mcv_rules.proofs.NormalForms.{part-All, part-InTurn}
use Rattle.mcv_symbolic.specs.SetLists.{acknowledged, counted, hits, of_both, when_error, when_replied}
use Rattle.mcv_symbolic.specs.ShownAnswers.{answers, first_hit, leaf_hit}
use Rattle.mcv_symbolic.specs.Structure.{if_all, nothing}
use Rattle.mcv_symbolic.proofs.TriedHits.{answers-in_turn, reply-in_turn}

-- ---- lists

pub grown : {A : Type 0} (old mid new xs ys all : List A) → mid ≡ old ++ xs → new ≡ mid ++ ys → all ≡ xs ++ ys → new ≡ old ++ all
grown old mid new xs ys all one two law = two ∙ ap (λ l. l ++ ys) one ∙ append_assoc old xs ys ∙ ap (λ l. old ++ l) (sym law)

pub ungrown : {A : Type 0} (old new xs all : List A) → new ≡ old ++ xs → all ≡ xs → new ≡ old ++ all
ungrown old new xs all one law = one ∙ ap (λ l. old ++ l) (sym law)

pub none_grown : {A : Type 0} (old all : List A) → all ≡ [] → old ≡ old ++ all
none_grown old all law = sym (append-nil old) ∙ ap (λ l. old ++ l) (sym law)

-- ---- one level

pub tree-All : (p : Plan) (v : Vec Plan Global) (ps : List Plan) → p ≡ All v → ps ≡ v.items → whole_of p ≡ all_of (map whole_of ps)
tree-All p v ps is e = ap whole_of is ∙ ap alone (part-All v) ∙ ap (λ qs. all_of (map whole_of qs)) (sym e)

pub tree-InTurn : (p : Plan) (w : After) (v : Vec Plan Global) (ps : List Plan) → p ≡ InTurn w v → ps ≡ v.items → whole_of p ≡ turns_of w (map whole_of ps)
tree-InTurn p w v ps is e = ap whole_of is ∙ ap alone (part-InTurn w v) ∙ ap (λ qs. turns_of w (map whole_of qs)) (sym e)

-- ---- one child more

module _ (children : List Plan) (first : Plan) (others : List Plan) (shape : children ≡ first ∷ others) where
  cut : (i : ℕ) → take (suc i) children ≡ first ∷ take i others
  cut i = ap (take (suc i)) shape

  cut_more : (i : ℕ) (p : Plan) → i < length others → p ≡ get_or others i p → take (suc (i + 1)) children ≡ first ∷ (take i others ++ p ∷ [])
  cut_more i p h is =
      let next : take (i + 1) others ≡ take i others ++ p ∷ [] = rw (add-one i) (take-suc others i p h ∙ ap (λ q. take i others ++ q ∷ []) (sym is)) in
      cut (i + 1) ∙ ap (λ ps. first ∷ ps) next

  cut_all : (i : ℕ) → length others ≤ i → take (suc i) children ≡ children
  cut_all i h = cut i ∙ ap (λ ps. first ∷ ps) (take_all i others h) ∙ sym shape

  -- the children so far, joined
  module _ (join : whole.Plan → whole.Plan → whole.Plan) where
    abbrev pub so_far : ℕ → whole.Plan
    so_far i = together join (whole.Reply Error) (map whole_of (take (suc i) children))

    abbrev joined : List Plan → whole.Plan
    joined ps = together join (whole.Reply Error) (map whole_of ps)

    pub begun : so_far 0 ≡ whole_of first
    begun = ap joined (cut 0)

    pub one_more : (i : ℕ) (p : Plan) → i < length others → p ≡ get_or others i p → so_far (i + 1) ≡ join (so_far i) (whole_of p)
    one_more i p h is =
        ap joined (cut_more i p h is)
        ∙ ap (fold join (whole_of first)) (map-append whole_of (take i others) (p ∷ []))
        ∙ fold_push join (whole_of first) (map whole_of (take i others)) (whole_of p)
        ∙ ap (λ ps. join (joined ps) (whole_of p)) (sym (cut i))

    pub ended : (i : ℕ) → length others ≤ i → so_far i ≡ joined children
    ended i h = ap joined (cut_all i h)

    -- what no child more changes, holds of all
    module _ (P : whole.Plan → Type 0) (keeps : (t u : whole.Plan) → P t → P (join t u)) where
      folds : (t : whole.Plan) (us : List whole.Plan) → P t → P (fold join t us)
      folds t [] h = h
      folds t (u ∷ us) h = folds (join t u) us (keeps t u h)

      pub stopped : (i : ℕ) → P (so_far i) → P (joined children)
      stopped i h =
          let all : joined children ≡ fold join (joined (first ∷ take i others)) (map whole_of (drop i others)) =
          ap joined (shape ∙ ap (λ ps. first ∷ ps) (sym (take-append-drop i others)))
          ∙ ap (fold join (whole_of first)) (map-append whole_of (take i others) (drop i others))
          ∙ fold-append join (whole_of first) (map whole_of (take i others)) (map whole_of (drop i others)) in
          subst P (sym all) (folds (joined (first ∷ take i others)) (map whole_of (drop i others)) (subst (λ ps. P (joined ps)) (cut i) h))

  -- the first, and beside it the others so far
  abbrev pub led_so_far : ℕ → whole.Plan
  led_so_far i = led_by (map part_of (take (suc i) children))

  abbrev led : List Plan → whole.Plan
  led ps = led_by (map part_of ps)

  pub led_begun : led_so_far 0 ≡ whole_of first
  led_begun = ap led (cut 0)

  pub led_more : (i : ℕ) (p : Plan) → i < length others → p ≡ get_or others i p → led_so_far (i + 1) ≡ beside (led_so_far i) (part_of p)
  led_more i p h is =
      ap led (cut_more i p h is)
      ∙ ap (fold beside (whole_of first)) (map-append part_of (take i others) (p ∷ []))
      ∙ fold_push beside (whole_of first) (map part_of (take i others)) (part_of p)
      ∙ ap (λ ps. beside (led ps) (part_of p)) (sym (cut i))

  pub led_ended : (i : ℕ) → length others ≤ i → led_so_far i ≡ led children
  led_ended i h = ap led (cut_all i h)

pub first_is : {children : List Plan} {first : Plan} {others : List Plan} → children ≡ first ∷ others → first ≡ get_or children 0 first
first_is {first = first} shape = sym (ap (λ ps. get_or ps 0 first) shape)

pub first_there : {children : List Plan} {first : Plan} {others : List Plan} → children ≡ first ∷ others → 0 < length children
first_there shape = omega (arith, ap length shape)

-- what is beside the first changes nothing of it
module _ {A : Type 0} (F : whole.Plan → A) (law : (t : whole.Plan) (x : Part) → F (beside t x) ≡ F t) where
  pub led_keeps : (t : whole.Plan) (xs : List Part) → F (fold beside t xs) ≡ F t
  led_keeps t [] = refl
  led_keeps t (x ∷ xs) = led_keeps (beside t x) xs ∙ law t x

  pub led_first : (children : List Plan) (first : Plan) → first ≡ get_or children 0 first → 0 < length children → F (led_by (map part_of children)) ≡ F (whole_of first)
  led_first [] first is h = absurd (omega (arith, h))
  led_first (p ∷ ps) first is h = led_keeps (whole_of p) (map part_of ps) ∙ ap (λ q. F (whole_of q)) (sym is)

pub led_none : (children : List Plan) → length children ≡ 0 → led_by (map part_of children) ≡ whole.Reply Error
led_none [] h = refl
led_none (p ∷ ps) h = absurd (omega (arith, h))

-- ---- what goes beside

pub if_all_beside : (x : Outcome) (t : whole.Plan) (y : Part) → if_all x (beside t y) ≡ if_all x t
if_all_beside x t (part u) = refl
if_all_beside x t (shade s a b u) = refl

pub answers_beside : (x : Outcome) (t : whole.Plan) (y : Part) → answers x (beside t y) ≡ answers x t
answers_beside x t (part u) = refl
answers_beside x t (shade s a b u) = refl

pub first_hit_beside : (t : whole.Plan) (y : Part) → first_hit (beside t y) ≡ first_hit t
first_hit_beside t (part u) = refl
first_hit_beside t (shade s a b u) = refl

pub leaf_hit_beside : (p : List ℕ) (t : whole.Plan) (y : Part) → leaf_hit p (beside t y) ≡ leaf_hit p t
leaf_hit_beside p t (part u) = refl
leaf_hit_beside p t (shade s a b u) = refl

pub hits_beside : (t : whole.Plan) (y : Part) → hits (beside t y) ≡ hits t
hits_beside t (part u) = refl
hits_beside t (shade s a b u) = refl

pub reply_beside : (o : Outcomes) (t : whole.Plan) (y : Part) → reply (beside t y) o ≡ reply t o
reply_beside o t (part u) = refl
reply_beside o t (shade s a b u) = refl

pub counted_beside : (t : whole.Plan) (y : Part) → counted (beside t y) nothing ≡ counted t nothing ++ counted (alone y) nothing
counted_beside t (part u) = refl
counted_beside t (shade s a b u) = sym (append-nil (counted t nothing))

pub acknowledged_beside : (t : whole.Plan) (y : Part) → acknowledged (beside t y) ≡ acknowledged t ++ counted (alone y) nothing
acknowledged_beside t (part u) = refl
acknowledged_beside t (shade s a b u) = sym (append-nil (acknowledged t))

-- ---- a search among two

module _ (w : After) (t u : whole.Plan) where
  module _ (x y : Outcome) (is : y ≡ if_all x t) where
    pub reply_on : goes_on w y ≡ true → if_all x (in_turn w t u) ≡ if_all x u
    reply_on on = reply-in_turn x w t u ∙ ap (λ (g : Bool). if g then if_all x u else if_all x t) (ap (goes_on w) (sym is) ∙ on)

    pub reply_off : goes_on w y ≡ false → if_all x (in_turn w t u) ≡ if_all x t
    reply_off off = reply-in_turn x w t u ∙ ap (λ (g : Bool). if g then if_all x u else if_all x t) (ap (goes_on w) (sym is) ∙ off)

    pub answers_on : goes_on w y ≡ true → answers x (in_turn w t u) ≡ answers x t ++ answers x u
    answers_on on = answers-in_turn x w t u ∙ ap (λ (g : Bool). answers x t ++ (if g then answers x u else [])) (ap (goes_on w) (sym is) ∙ on)

    pub answers_off : goes_on w y ≡ false → answers x (in_turn w t u) ≡ answers x t
    answers_off off = answers-in_turn x w t u ∙ ap (λ (g : Bool). answers x t ++ (if g then answers x u else [])) (ap (goes_on w) (sym is) ∙ off) ∙ append-nil (answers x t)

module _ (t u : whole.Plan) where
  error_part : (r : Option Outcome) (ls : List Leg) → when_replied is_error r ls ≡ (if goes_on_after after.Error r then ls else [])
  error_part None ls = refl
  error_part (Some x) ls = refl

  miss_part : (r : Option Outcome) (ls : List Leg) → when_replied is_missed r ls ≡ (if goes_on_after after.Miss r then ls else [])
  miss_part None ls = refl
  miss_part (Some x) ls = refl

  counted-in_turn : (w : After) → counted (in_turn w t u) nothing ≡ counted t nothing ++ (if goes_on_after w (reply t nothing) then counted u nothing else [])
  counted-in_turn after.Error = ap (λ ls. counted t nothing ++ ls) (error_part (reply t nothing) (counted u nothing))
  counted-in_turn after.Miss = ap (λ ls. counted t nothing ++ ls) (miss_part (reply t nothing) (counted u nothing))

  module _ (w : After) (r : Option Outcome) (is : r ≡ reply t nothing) where
    pub wave_on : goes_on_after w r ≡ true → reply (in_turn w t u) nothing ≡ reply u nothing
    wave_on on = joined_reply w nothing t u ∙ ap (λ (g : Bool). if g then reply u nothing else reply t nothing) (ap (goes_on_after w) (sym is) ∙ on)

    pub wave_off : goes_on_after w r ≡ false → reply (in_turn w t u) nothing ≡ reply t nothing
    wave_off off = joined_reply w nothing t u ∙ ap (λ (g : Bool). if g then reply u nothing else reply t nothing) (ap (goes_on_after w) (sym is) ∙ off)

    pub counted_on : goes_on_after w r ≡ true → counted (in_turn w t u) nothing ≡ counted t nothing ++ counted u nothing
    counted_on on = counted-in_turn w ∙ ap (λ (g : Bool). counted t nothing ++ (if g then counted u nothing else [])) (ap (goes_on_after w) (sym is) ∙ on)

    pub counted_off : goes_on_after w r ≡ false → counted (in_turn w t u) nothing ≡ counted t nothing
    counted_off off =
        counted-in_turn w ∙ ap (λ (g : Bool). counted t nothing ++ (if g then counted u nothing else [])) (ap (goes_on_after w) (sym is) ∙ off) ∙ append-nil (counted t nothing)

when_error_on : (y : Outcome) (ls : List Leg) → goes_on after.Error y ≡ true → when_error y ls ≡ ls
when_error_on Good ls on = let e : false ≡ true = on in cc
when_error_on Soft ls on = let e : false ≡ true = on in cc
when_error_on Error ls on = refl

when_error_off : (y : Outcome) (ls : List Leg) → goes_on after.Error y ≡ false → when_error y ls ≡ []
when_error_off Good ls off = refl
when_error_off Soft ls off = refl
when_error_off Error ls off = let e : true ≡ false = off in cc

module _ (t u : whole.Plan) (y : Outcome) where
  module _ (is : y ≡ if_all Good t) where
    pub acknowledged_on : goes_on after.Error y ≡ true → acknowledged (whole.OnError t u) ≡ acknowledged t ++ acknowledged u
    acknowledged_on on = ap (λ ls. acknowledged t ++ ls) (ap (λ z. when_error z (acknowledged u)) (sym is) ∙ when_error_on y (acknowledged u) on)

    pub acknowledged_off : goes_on after.Error y ≡ false → acknowledged (whole.OnError t u) ≡ acknowledged t
    acknowledged_off off =
        ap (λ ls. acknowledged t ++ ls) (ap (λ z. when_error z (acknowledged u)) (sym is) ∙ when_error_off y (acknowledged u) off) ∙ append-nil (acknowledged t)

  module _ (is : y ≡ if_all Error t) where
    pub hits_on : goes_on after.Error y ≡ true → hits (whole.OnError t u) ≡ hits t ++ hits u
    hits_on on = ap (λ ls. hits t ++ ls) (ap (λ z. when_error z (hits u)) (sym is) ∙ when_error_on y (hits u) on)

    pub hits_off : goes_on after.Error y ≡ false → hits (whole.OnError t u) ≡ hits t
    hits_off off = ap (λ ls. hits t ++ ls) (ap (λ z. when_error z (hits u)) (sym is) ∙ when_error_off y (hits u) off) ∙ append-nil (hits t)

-- of several of a search by misses nothing is acknowledged
none_of : (t u : whole.Plan) (us : List whole.Plan) → acknowledged (fold (in_turn after.Miss) (in_turn after.Miss t u) us) ≡ []
none_of t u [] = refl
none_of t u (v ∷ us) = none_of (in_turn after.Miss t u) v us

module _ (children : List Plan) (first : Plan) (others : List Plan) (shape : children ≡ first ∷ others) where
  pub none_acknowledged : 0 < length others → acknowledged (turns_of after.Miss (map whole_of children)) ≡ []
  none_acknowledged h = ap (λ ps. acknowledged (turns_of after.Miss (map whole_of ps))) shape ∙ several others h
    where
      several : (ps : List Plan) → 0 < length ps → acknowledged (turns_of after.Miss (map whole_of (first ∷ ps))) ≡ []
      several [] h = absurd (omega (arith, h))
      several (p ∷ ps) h = none_of (whole_of first) (whole_of p) (map whole_of ps)

  pub one_child : (w : After) → length others ≡ 0 → turns_of w (map whole_of children) ≡ whole_of first
  one_child w h = ap (λ ps. turns_of w (map whole_of ps)) shape ∙ alone_of others h
    where
      alone_of : (ps : List Plan) → length ps ≡ 0 → turns_of w (map whole_of (first ∷ ps)) ≡ whole_of first
      alone_of [] h = refl
      alone_of (p ∷ ps) h = absurd (omega (arith, h))

-- ---- all have to hit

-- what is kept of both
pub kept_of_both : (before ones twos mid now : List Leg) (n : ℕ) → mid ≡ before ++ ones → now ≡ mid ++ twos
    → (length mid ≡ length before → n ≡ length before) → (length now ≡ length mid → n ≡ length before) → (length before < length mid → length mid < length now → n ≡ length now)
    → take n now ≡ before ++ of_both ones twos
kept_of_both before [] twos mid now n one two none_first none_second some =
    let size : length mid ≡ n = omega (arith, ap length one, length-append before [], none_first (omega (arith, ap length one, length-append before []))) in
    ap (take n) two ∙ take_at mid twos n size ∙ one
kept_of_both before (k ∷ ks) [] mid now n one two none_first none_second some =
    let size : length before ≡ n = omega (arith, none_second (omega (arith, ap length two, length-append mid []))) in
    ap (take n) (two ∙ append-nil mid ∙ one) ∙ take_at before (k ∷ ks) n size ∙ sym (append-nil before)
kept_of_both before (k ∷ ks) (l ∷ ls) mid now n one two none_first none_second some =
    let more : length before < length mid = omega (arith, ap length one, length-append before (k ∷ ks)) in
    let again : length mid < length now = omega (arith, ap length two, length-append mid (l ∷ ls)) in
    take_all n now (omega (arith, some more again)) ∙ grown before mid now (k ∷ ks) (l ∷ ls) (k ∷ ks ++ (l ∷ ls)) one two refl
