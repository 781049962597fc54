-- The entries of a call.
use Rattle.std.proofs.Common.{◌≡◌, ◌&&◌, ◌||◌, not, cond, inl, inr, ⊎_elim, ℕ, suc, ◌+◌, ◌<◌, Bool, true, false, List, [], ◌∷◌, ◌++◌, map, length, get_or, Option, Some, refl, sym, ap, ◌∙◌, subst, arith, true≢false}
use Rattle.std.specs.Prelude.{filter, is_some, ⊤}
use Rattle.std.specs.List.{AllPairs, list_all, list_any}
use Rattle.std.proofs.lemmas.List.{map-append}
use Rattle.mcv_classes.proofs.Order.{not-itself, before-through}
use Rattle.mcv_route.specs.declared.launch.Launch.{Launch}
use Rattle.mcv_route.specs.Outcomes.{Outcomes, Choice, is_same, outcomes}
use Rattle.mcv_rules.specs.Plan.{Leg, Plan, Send, Reply, Both, Beside, OnError, OnMiss, OnHit, Shadowed}
use Rattle.mcv_rules.specs.Plans.{plan, launch_of}
use Rattle.mcv_rules.specs.Rows.{ComesBefore}
use Rattle.mcv_rules.specs.Soundness.{positions}
use Rattle.mcv_rules.proofs.ListMembers.{Among, among_left, among_right}
use Rattle.mcv_rules.proofs.Orders.{same_is, same_self}
use Rattle.mcv_rules.proofs.LegsRise.{legs_come_in_order, pairs, places, plan_rises, launched_places}
use Rattle.mcv_rules.proofs.Sending.{Sends}
use Rattle.mcv_rules.proofs.Verdicts.{has_sends}
use Rattle.mcv_world.specs.World as world
use Rattle.mcv_world.specs.World.{Call, tree_of, situation_of, choice_of, history_of, launched_by, is_settled, put}
use Rattle.mcv_world.specs.Moves.{queue, queued, is_new, with_reply}
use Rattle.mcv_events.specs.Entries.{LaidOutByMembers, launches_under, is_launched, CallsAreLaidOut, LaunchedAreEntries, FreshAreEntries, SettledByEntries, QueuedOneByOne}
use Rattle.mcv_world.proofs.Numbers.{at_some}

-- ---- lists in order

abbrev Rises : List Launch → Type 0
Rises [] = ⊤
Rises (k ∷ ks) = ((l : Launch) → Among ks l → ComesBefore k.position l.position) × Rises ks

place_of : (ks : List Launch) (l : Launch) → Among ks l → (i : ℕ) × (i < length (map (λ k. k.position) ks)) × ((d : List ℕ) → get_or (map (λ k. k.position) ks) i d ≡ l.position)
place_of [] l h = absurd h
place_of (k ∷ ks) l (inl e) = (0, omega arith, λ d. ap (λ m. m.position) e)
place_of (k ∷ ks) l (inr h) = let i = place_of ks l h in (suc i.0, omega (arith, i.1), i.2)

rises : (ks : List Launch) → AllPairs ComesBefore (map (λ k. k.position) ks) → Rises ks
rises [] h = tt
rises (k ∷ ks) h = (
  (λ l a. let i = place_of ks l a in subst (ComesBefore k.position) (i.2 []) (h 0 (suc i.0) [] (omega arith) (omega (arith, i.1)))),
  rises ks (λ i j d low high. h (suc i) (suc j) d (omega (arith, low)) (omega (arith, high))),
)

-- ---- which of them have a position

abbrev is_at : List Launch → Launch → Bool
is_at ks l = list_any (λ k. is_same k.position l.position) ks

or_right : (b c : Bool) → c ≡ true → (b || c) ≡ true
or_right true c e = refl
or_right false c e = e

or_false : (b c : Bool) → b ≡ false → c ≡ false → (b || c) ≡ false
or_false true c e f = absurd (true≢false e)
or_false false c e f = f

there_at : (ks : List Launch) (l : Launch) → Among ks l → is_at ks l ≡ true
there_at [] l h = absurd h
there_at (k ∷ ks) l (inl e) = ap (λ b. b || is_at ks l) (ap (λ m. is_same m.position l.position) e ∙ same_self l.position)
there_at (k ∷ ks) l (inr h) = or_right (is_same k.position l.position) (is_at ks l) (there_at ks l h)

pub not_true : (b : Bool) → (b ≡ true → ⊥) → b ≡ false
not_true true h = absurd (h refl)
not_true false h = refl

-- two tests that agree on the members
filter_alike : (f g : Launch → Bool) (es : List Launch) → ((l : Launch) → Among es l → f l ≡ g l) → filter f es ≡ filter g es
filter_alike f g [] h = refl
filter_alike f g (e ∷ es) h = ap (λ b. cond b (e ∷ filter f es) (filter f es)) (h e (inl refl)) ∙ ap (λ ls. cond (g e) (e ∷ ls) ls) (filter_alike f g es (λ l a. h l (inr a)))

none_passes : (es : List Launch) → filter (λ l. false) es ≡ []
none_passes [] = refl
none_passes (e ∷ es) = none_passes es

same_apart : (p q : List ℕ) → ComesBefore p q → is_same p q ≡ false
same_apart p q h = not_true (is_same p q) (λ e. not-itself q (subst (λ v. ComesBefore v q) (same_is p q e) h))

cond_true : {A : Type 0} (b : Bool) (x y : A) → b ≡ true → cond b x y ≡ x
cond_true b x y e = ap (λ t. cond t x y) e

pub cond_false : {A : Type 0} (b : Bool) (x y : A) → b ≡ false → cond b x y ≡ y
cond_false b x y e = ap (λ t. cond t x y) e

-- what `members` says of a list
abbrev Fewer : List Launch → Type 0
Fewer es = (ls : List Launch) → Rises ls → ((l : Launch) → Among ls l → Among es l) → ls ≡ filter (is_at ls) es

-- of a list in order, those at whose positions some of its members are, are these members
members : (es ks : List Launch) → Rises es → Rises ks → ((l : Launch) → Among ks l → Among es l) → ks ≡ filter (is_at ks) es
members [] [] re rk sub = refl
members [] (k ∷ ks) re rk sub = absurd (sub k (inl refl))
members (e ∷ es) [] re rk sub = sym (none_passes (e ∷ es))
members (e ∷ es) (k ∷ ks) re rk sub = let fewer : Fewer es = λ ls a b. members es ls re.1 a b in ⊎_elim (first fewer) (later fewer) (sub k (inl refl))
  where
    first : Fewer es → e ≡ k → k ∷ ks ≡ filter (is_at (k ∷ ks)) (e ∷ es)
    first fewer same =
        let here : is_at (k ∷ ks) e ≡ true = there_at (k ∷ ks) e (inl (sym same)) in
        let others : filter (is_at (k ∷ ks)) es ≡ filter (is_at ks) es =
        filter_alike (is_at (k ∷ ks)) (is_at ks) es (λ l a. ap (λ b. b || is_at ks l) (same_apart k.position l.position (subst (λ m. ComesBefore m.position l.position) same (re.0 l a)))) in
        let down : (l : Launch) → Among ks l → Among es l = λ l a.
        ⊎_elim (λ q. absurd (not-itself k.position (subst (λ m. ComesBefore k.position m.position) (sym q ∙ same) (rk.0 l a)))) (λ b. b) (sub l (inr a)) in
        ap (λ m. m ∷ ks) (sym same) ∙ ap (λ ls. e ∷ ls) (fewer ks rk.1 down ∙ sym others) ∙ sym (cond_true (is_at (k ∷ ks) e) (e ∷ filter (is_at (k ∷ ks)) es) (filter (is_at (k ∷ ks)) es) here)

    -- no member has the position of e
    apart : Among es k → (m : Launch) → Among (k ∷ ks) m → m.position ≡ e.position → ⊥
    apart a m (inl q) p = not-itself e.position (subst (λ v. ComesBefore e.position v) (ap (λ v. v.position) q ∙ p) (re.0 k a))
    apart a m (inr h) p = not-itself e.position (before-through e.position k.position e.position (re.0 k a) (subst (λ v. ComesBefore k.position v) p (rk.0 m h)))

    later : Fewer es → Among es k → k ∷ ks ≡ filter (is_at (k ∷ ks)) (e ∷ es)
    later fewer a =
        let gone : is_at (k ∷ ks) e ≡ false = not_true (is_at (k ∷ ks) e) (λ t. let m = at_some e.position (k ∷ ks) t in apart a m.0 m.1 m.2) in
        let down : (l : Launch) → Among (k ∷ ks) l → Among es l = λ l h. ⊎_elim (λ q. absurd (apart a l h (ap (λ v. v.position) (sym q)))) (λ b. b) (sub l h) in
        fewer (k ∷ ks) rk down ∙ sym (cond_false (is_at (k ∷ ks) e) (e ∷ filter (is_at (k ∷ ks)) es) (filter (is_at (k ∷ ks)) es) gone)

-- ---- entries

pub laid_out_by_members : LaidOutByMembers
laid_out_by_members r call es rising all =
    record {
      all = λ o. members es (launches_under r call o) (rises es rising) (rises (launches_under r call o) (legs_come_in_order (tree_of r call.route) (situation_of call) (choice_of call) o)) (all o);
      rising = rising;
    }

pub launched_are_entries : LaunchedAreEntries
launched_are_entries r call es laid = laid.all (outcomes (history_of call.recorded))

filter_twice : (f g : Launch → Bool) (es : List Launch) → filter g (filter f es) ≡ filter (λ l. f l && g l) es
filter_twice f g [] = refl
filter_twice f g (e ∷ es) = by_cases (f e) (filter_twice f g es)
  where
    by_cases : (b : Bool) → filter g (filter f es) ≡ filter (λ l. f l && g l) es → filter g (cond b (e ∷ filter f es) (filter f es)) ≡ cond (b && g e) (e ∷ filter (λ l. f l && g l) es) (filter (λ l. f l && g l) es)
    by_cases true h = ap (λ ls. cond (g e) (e ∷ ls) ls) h
    by_cases false h = h

pub fresh_are_entries : FreshAreEntries
fresh_are_entries r call es p x laid =
    let more = with_reply call p x in
    ap (filter (is_new (launched_by r call))) (launched_are_entries r more es (record { all = laid.all; rising = laid.rising }))
    ∙ filter_twice (is_launched r more) (is_new (launched_by r call)) es

all_filtered : (f g : Launch → Bool) (es : List Launch) → list_all g (filter f es) ≡ list_all (λ l. not (f l) || g l) es
all_filtered f g [] = refl
all_filtered f g (e ∷ es) = by_cases (f e) (all_filtered f g es)
  where
    by_cases : (b : Bool) → list_all g (filter f es) ≡ list_all (λ l. not (f l) || g l) es → list_all g (cond b (e ∷ filter f es) (filter f es)) ≡ ((not b || g e) && list_all (λ l. not (f l) || g l) es)
    by_cases true h = ap (λ b. g e && b) h
    by_cases false h = h

pub settled_by_entries : SettledByEntries
settled_by_entries r call es laid =
    let has = λ (l : Launch). is_some (outcomes (history_of call.recorded) l.position) in
    ap (list_all has) (launched_are_entries r call es laid) ∙ all_filtered (is_launched r call) has es

-- ---- each call is laid out

abbrev all_legs : Plan → List Leg
all_legs (Send k) = k ∷ []
all_legs (Reply x) = []
all_legs (Both t u) = all_legs t ++ all_legs u
all_legs (Beside t u) = all_legs t ++ all_legs u
all_legs (OnError t u) = all_legs t ++ all_legs u
all_legs (OnMiss t u) = all_legs t ++ all_legs u
all_legs (OnHit t u) = all_legs t ++ all_legs u
all_legs (Shadowed s a b t u) = all_legs t ++ all_legs u

joined_places : (t u : Plan) → places (all_legs t) ≡ positions t → places (all_legs u) ≡ positions u → places (all_legs t ++ all_legs u) ≡ positions t ++ positions u
joined_places t u e f = map-append (λ l. l.position) (all_legs t) (all_legs u) ∙ ap (λ ps. ps ++ places (all_legs u)) e ∙ ap (λ ps. positions t ++ ps) f

all_places : (t : Plan) → places (all_legs t) ≡ positions t
all_places (Send k) = refl
all_places (Reply x) = refl
all_places (Both t u) = joined_places t u (all_places t) (all_places u)
all_places (Beside t u) = joined_places t u (all_places t) (all_places u)
all_places (OnError t u) = joined_places t u (all_places t) (all_places u)
all_places (OnMiss t u) = joined_places t u (all_places t) (all_places u)
all_places (OnHit t u) = joined_places t u (all_places t) (all_places u)
all_places (Shadowed s a b t u) = joined_places t u (all_places t) (all_places u)

sends_one : (t : Plan) (c : Choice) (o : Outcomes) (l : Leg) → Sends t c o l → Among (all_legs t) l
sends_one (Send k) c o l e = inl e
sends_one (Reply x) c o l e = e
sends_one (Both t u) c o l (inl e) = among_left (all_legs t) (all_legs u) l (sends_one t c o l e)
sends_one (Both t u) c o l (inr e) = among_right (all_legs t) (all_legs u) l (sends_one u c o l e)
sends_one (Beside t u) c o l (inl e) = among_left (all_legs t) (all_legs u) l (sends_one t c o l e)
sends_one (Beside t u) c o l (inr e) = among_right (all_legs t) (all_legs u) l (sends_one u c o l e)
sends_one (OnError t u) c o l (inl e) = among_left (all_legs t) (all_legs u) l (sends_one t c o l e)
sends_one (OnError t u) c o l (inr e) = among_right (all_legs t) (all_legs u) l (sends_one u c o l e.1)
sends_one (OnMiss t u) c o l (inl e) = among_left (all_legs t) (all_legs u) l (sends_one t c o l e)
sends_one (OnMiss t u) c o l (inr e) = among_right (all_legs t) (all_legs u) l (sends_one u c o l e.1)
sends_one (OnHit t u) c o l (inl e) = among_left (all_legs t) (all_legs u) l (sends_one t c o l e)
sends_one (OnHit t u) c o l (inr e) = among_right (all_legs t) (all_legs u) l (sends_one u c o l e.1)
sends_one (Shadowed s a b t u) c o l (inl e) = among_left (all_legs t) (all_legs u) l (sends_one t c o l e)
sends_one (Shadowed s a b t u) c o l (inr e) = among_right (all_legs t) (all_legs u) l (sends_one u c o l e.2)

among_map : {A B : Type 0} (f : A → B) (xs : List A) (x : A) → Among xs x → Among (map f xs) (f x)
among_map f [] x h = absurd h
among_map f (y ∷ xs) x (inl e) = inl (ap f e)
among_map f (y ∷ xs) x (inr h) = inr (among_map f xs x h)

pub calls_are_laid_out : CallsAreLaidOut
calls_are_laid_out r call =
    let c = choice_of call in
    let t = plan (tree_of r call.route) (situation_of call) in
    let es = map (launch_of c) (all_legs t) in (
      es,
      laid_out_by_members r call es
          (subst (AllPairs ComesBefore) (sym (launched_places c (all_legs t) ∙ all_places t)) (pairs (positions t) (plan_rises (tree_of r call.route) (situation_of call))))
          (λ o l h.
          let s = has_sends (tree_of r call.route) (situation_of call) c o (λ m. m ≡ l) h in
          subst (Among es) s.2 (among_map (launch_of c) (all_legs t) s.0 (sends_one t c o s.0 s.1))),
    )

-- ---- one by one

queued_next : (legs : ℕ → Option world.Leg) (n k : ℕ) (rest : List ℕ) (ls : List Launch) (l : Launch) → queue legs n k rest (ls ++ l ∷ []) ≡ put (queue legs n k rest ls) (n + length ls) (Some (queued k rest l))
queued_next legs n k rest [] l = let same : n ≡ n + 0 = omega arith in ap (λ m. put legs m (Some (queued k rest l))) same
queued_next legs n k rest (m ∷ ls) l =
    let same : suc n + length ls ≡ n + suc (length ls) = omega arith in
    queued_next (put legs n (Some (queued k rest m))) (suc n) k rest ls l ∙ ap (λ j. put (queue (put legs n (Some (queued k rest m))) (suc n) k rest ls) j (Some (queued k rest l))) same

pub queued_one_by_one : QueuedOneByOne
queued_one_by_one = queued_next
