-- What the walks for a hit leave in their list, one combination at a time.
use Rattle.std.proofs.Common.{◌≡◌, ◌⊎◌, inl, inr, ℕ, Bool, true, false, List, [], ◌∷◌, ◌++◌, length, take, Option, Some, None, refl, sym, ap, ◌∙◌, subst, append_assoc, append-nil}
use Rattle.std.specs.Prelude.{if◌then◌else◌}
use Rattle.std.proofs.lemmas.Bool.{false≢true}
use Rattle.std.proofs.lemmas.List.{length-map, take_at, take-map}
use Rattle.mcv_base.specs.Reply.{is_error, is_missed}
use Rattle.mcv_base.specs.declared.reply.Outcome.{Outcome}
use Rattle.mcv_base.specs.declared.reply.Outcome.TheVariants.{Good, Soft, Error}
use Rattle.mcv_route.specs.Outcomes.{History}
use Rattle.mcv_rules.specs.Arrivals.{goes_on}
use Rattle.mcv_rules.specs.Plan.{Plan, Send, Reply, Both, Beside, OnError, OnMiss, OnHit, Shadowed}
use Rattle.mcv_rules.specs.NormalForm.{in_turn}
use Rattle.mcv_rules.specs.declared.arrival.After.{After}
use Rattle.mcv_rules.specs.declared.arrival.After.TheVariants as after
use Rattle.mcv_symbolic.specs.ShownAnswers.{also, answers, first_hit, history_of, leaf_hit, one_after_other, or_else}
use Rattle.mcv_symbolic.specs.Structure.{after_error, after_miss, if_all}
use Rattle.mcv_symbolic.specs.HitSearch.{IsAdded, IsLead, IsTried, goes_on_after, is_hit, passed_on}
use Rattle.mcv_symbolic.specs.declared.shown.Added.{Added}
use Rattle.mcv_symbolic.specs.declared.shown.Added.TheVariants as added
use Rattle.mcv_symbolic.specs.declared.shown.Lead.{Lead}
use Rattle.mcv_symbolic.specs.declared.shown.Lead.TheVariants as lead
use Rattle.mcv_symbolic.specs.declared.shown.LegAnswer.{LegAnswer}

-- ---- lists

pub history-take : (n : ℕ) (legs : List LegAnswer) → history_of (take n legs) ≡ take n (history_of legs)
history-take n legs = sym (take-map (λ (a : LegAnswer). (a.leg.now.position, a.outcome)) n legs)

pub history-length : (n : ℕ) (legs : List LegAnswer) → n ≡ length legs → n ≡ length (history_of legs)
history-length n legs is = is ∙ sym (length-map legs (λ (a : LegAnswer). (a.leg.now.position, a.outcome)))

behind : (old mid new es fs : History) → mid ≡ old ++ es → new ≡ mid ++ fs → new ≡ old ++ (es ++ fs)
behind old mid new es fs one two = two ∙ ap (λ l. l ++ fs) one ∙ append_assoc old es fs

kept : (old mid es : History) (n : ℕ) → mid ≡ old ++ es → n ≡ length old → take n mid ≡ old
kept old mid es n is size = ap (take n) is ∙ take_at old es n (sym size)

-- ---- whether both hit

pub tried-both : (x y : Option History) (b c : Bool) (old mid new : History) → IsTried x b old mid → b ≡ true → IsTried y c mid new → IsTried (one_after_other x y) c old new
tried-both None y b c old mid new t does u = absurd (false≢true (sym t.0 ∙ does))
tried-both (Some es) None b c old mid new t does u = (u.0, (es ++ u.1.0, behind old mid new es u.1.0 t.1 u.1.1))
tried-both (Some es) (Some fs) b c old mid new t does u = (u.0, behind old mid new es fs t.1 u.1)

pub tried-neither : (x y : Option History) (b : Bool) (old mid : History) → IsTried x b old mid → b ≡ false → IsTried (one_after_other x y) false old mid
tried-neither None y b old mid t isnt = (refl, t.1)
tried-neither (Some es) y b old mid t isnt = absurd (false≢true (sym isnt ∙ t.0))

-- ---- a hit, or answers that are alike

pub added-hit : (f : Option History) (others : History) (y : Outcome) (b : Bool) (old new : History) → IsTried f b old new → b ≡ true → IsAdded f others y added.Hit old new
added-hit None others y b old new t does = absurd (false≢true (sym t.0 ∙ does))
added-hit (Some es) others y b old new t does = (refl, t.1)

pub added-instead : (f : Option History) (b : Bool) (old mid others new : History) (n : ℕ) (y z : Outcome) → IsTried f b old mid → b ≡ false → n ≡ length old → new ≡ take n mid ++ others → z ≡ y → IsAdded f others y (added.Alike z) old new
added-instead None b old mid others new n y z t isnt size is reply = (ap added.Alike reply, is ∙ ap (λ l. l ++ others) (kept old mid t.1.0 n t.1.1 size))
added-instead (Some es) b old mid others new n y z t isnt size is reply = absurd (false≢true (sym isnt ∙ t.0))

pub tried-added : (f : Option History) (others : History) (y : Outcome) (x : Added) (b : Bool) (old new : History) → IsAdded f others y x old new → b ≡ is_hit x → IsTried f b old new
tried-added None others y x b old new t is = (is ∙ ap is_hit t.0, (others, t.1))
tried-added (Some es) others y x b old new t is = (is ∙ ap is_hit t.0, t.1)

pub added-none : (y : Outcome) (old : History) → IsAdded None [] y (added.Alike y) old old
added-none y old = (refl, sym (append-nil old))

-- what it says of its hit
record Hits (f : Option History) (old new : History) : Type 0 where
  found : History
  is : f ≡ Some found
  new_is : new ≡ old ++ found

hits-by : (f : Option History) (others : History) (y : Outcome) (old new : History) → IsAdded f others y added.Hit old new → Hits f old new
hits-by None others y old new t = let e : added.Hit ≡ added.Alike y = t.0 in cc
hits-by (Some es) others y old new t = record { found = es; is = refl; new_is = t.1 }

-- what it says of answers that are alike
record Misses (f : Option History) (others : History) (y r : Outcome) (old new : History) : Type 0 where
  is : f ≡ None
  reply : r ≡ y
  new_is : new ≡ old ++ others

misses-by : (f : Option History) (others : History) (y r : Outcome) (old new : History) → IsAdded f others y (added.Alike r) old new → Misses f others y r old new
misses-by None others y r old new t = record { is = refl; reply = let e : added.Alike r ≡ added.Alike y = t.0 in cc; new_is = t.1 }
misses-by (Some es) others y r old new t = let e : added.Alike r ≡ added.Hit = t.0 in cc

pub added-still : (f : Option History) (others more : History) (y z : Outcome) (old new : History) → IsAdded f others y added.Hit old new → IsAdded f more z added.Hit old new
added-still None others more y z old new t = let e : added.Hit ≡ added.Alike y = t.0 in cc
added-still (Some es) others more y z old new t = t

pub added-settled : (f : Option History) (others more : History) (y r z reply : Outcome) (old mid new : History) (n : ℕ) → IsAdded f others y (added.Alike r) old mid → n ≡ length old → new ≡ take n mid ++ more → reply ≡ z
    → IsAdded f more z (added.Alike reply) old new
added-settled f others more y r z reply old mid new n t size is same =
    let m = misses-by f others y r old mid t in
    subst (λ g. IsAdded g more z (added.Alike reply) old new) (sym m.is) (ap added.Alike same, is ∙ ap (λ l. l ++ more) (kept old mid others n m.new_is size))

as-added : (f g : Option History) (others more : History) (y z : Outcome) (x : Added) (old new : History) → f ≡ g → others ≡ more → y ≡ z → IsAdded f others y x old new → IsAdded g more z x old new
as-added f g others more y z x old new p q r t =
    subst (λ h. IsAdded h more z x old new) p (subst (λ es. IsAdded f es z x old new) q (subst (λ w. IsAdded f others w x old new) r t))

behind-added : (f : Option History) (es others : History) (y : Outcome) (x : Added) (old mid new : History) → mid ≡ old ++ es → IsAdded f others y x mid new → IsAdded (also es f) (es ++ others) y x old new
behind-added None es others y x old mid new is t = (t.0, behind old mid new es others is t.1)
behind-added (Some fs) es others y x old mid new is t = (t.0, behind old mid new es fs is t.1)

-- ---- a search among two

-- what is looked for behind the first is looked for among the second, after answers that pass the search on
abbrev in_second : (Plan → Option History) → After → Plan → Plan → Option History
in_second find w t u = or_else (find t) (if goes_on w (if_all (passed_on w) t) then also (answers (passed_on w) t) (find u) else None)

pub answers-in_turn : (x : Outcome) (w : After) (t u : Plan) → answers x (in_turn w t u) ≡ answers x t ++ (if goes_on w (if_all x t) then answers x u else [])
answers-in_turn x after.Error t u = refl
answers-in_turn x after.Miss t u = refl

reply-error : (y z : Outcome) → after_error y z ≡ (if is_error y then z else y)
reply-error Good z = refl
reply-error Soft z = refl
reply-error Error z = refl

reply-miss : (y z : Outcome) → after_miss y z ≡ (if is_missed y then z else y)
reply-miss Good z = refl
reply-miss Soft z = refl
reply-miss Error z = refl

pub reply-in_turn : (x : Outcome) (w : After) (t u : Plan) → if_all x (in_turn w t u) ≡ (if goes_on w (if_all x t) then if_all x u else if_all x t)
reply-in_turn x after.Error t u = reply-error (if_all x t) (if_all x u)
reply-in_turn x after.Miss t u = reply-miss (if_all x t) (if_all x u)

-- what a walk that looks for this has added
abbrev pub IsAddedIn : (Plan → Option History) → After → Plan → Added → History → History → Type 0
IsAddedIn find w t x old new = IsAdded (find t) (answers (passed_on w) t) (if_all (passed_on w) t) x old new

module _ (find : Plan → Option History) (law : (w : After) (t u : Plan) → find (in_turn w t u) ≡ in_second find w t u) (w : After) (t u : Plan) (old mid : History) where
  abbrev passing : Outcome
  passing = passed_on w

  pub turn-hit : IsAddedIn find w t added.Hit old mid → IsAddedIn find w (in_turn w t u) added.Hit old mid
  turn-hit a =
      let m = hits-by (find t) (answers passing t) (if_all passing t) old mid a in
      let whole : find (in_turn w t u) ≡ Some m.found = law w t u ∙ ap (λ f. or_else f (if goes_on w (if_all passing t) then also (answers passing t) (find u) else None)) m.is in
      subst (λ f. IsAdded f (answers passing (in_turn w t u)) (if_all passing (in_turn w t u)) added.Hit old mid) (sym whole) (refl, m.new_is)

  module _ (r : Outcome) (a : IsAddedIn find w t (added.Alike r) old mid) where
    m : Misses (find t) (answers passing t) (if_all passing t) r old mid
    m = misses-by (find t) (answers passing t) (if_all passing t) r old mid a

    pub turn-on : goes_on w r ≡ true → (x : Added) (new : History) → IsAddedIn find w u x mid new → IsAddedIn find w (in_turn w t u) x old new
    turn-on on x new b =
        let go : goes_on w (if_all passing t) ≡ true = ap (goes_on w) (sym m.reply) ∙ on in
        let whole : find (in_turn w t u) ≡ also (answers passing t) (find u) =
        law w t u ∙ ap (λ f. or_else f (if goes_on w (if_all passing t) then also (answers passing t) (find u) else None)) m.is ∙ ap (λ (g : Bool). if g then also (answers passing t) (find u) else None) go in
        let all : answers passing (in_turn w t u) ≡ answers passing t ++ answers passing u = answers-in_turn passing w t u ∙ ap (λ (g : Bool). answers passing t ++ (if g then answers passing u else [])) go in
        let reply : if_all passing (in_turn w t u) ≡ if_all passing u = reply-in_turn passing w t u ∙ ap (λ (g : Bool). if g then if_all passing u else if_all passing t) go in
        as-added (also (answers passing t) (find u)) (find (in_turn w t u)) (answers passing t ++ answers passing u) (answers passing (in_turn w t u)) (if_all passing u) (if_all passing (in_turn w t u)) x old new (sym whole) (sym all) (sym reply)
        (behind-added (find u) (answers passing t) (answers passing u) (if_all passing u) x old mid new m.new_is b)

    pub turn-stop : goes_on w r ≡ false → IsAddedIn find w (in_turn w t u) (added.Alike r) old mid
    turn-stop off =
        let go : goes_on w (if_all passing t) ≡ false = ap (goes_on w) (sym m.reply) ∙ off in
        let whole : find (in_turn w t u) ≡ None =
        law w t u ∙ ap (λ f. or_else f (if goes_on w (if_all passing t) then also (answers passing t) (find u) else None)) m.is ∙ ap (λ (g : Bool). if g then also (answers passing t) (find u) else None) go in
        let all : answers passing (in_turn w t u) ≡ answers passing t =
        answers-in_turn passing w t u ∙ ap (λ (g : Bool). answers passing t ++ (if g then answers passing u else [])) go ∙ append-nil (answers passing t) in
        let reply : if_all passing (in_turn w t u) ≡ if_all passing t = reply-in_turn passing w t u ∙ ap (λ (g : Bool). if g then if_all passing u else if_all passing t) go in
        as-added None (find (in_turn w t u)) (answers passing t) (answers passing (in_turn w t u)) (if_all passing t) (if_all passing (in_turn w t u)) (added.Alike r) old mid (sym whole) (sym all) (sym reply)
        (ap added.Alike m.reply, m.new_is)

-- one more, where the search goes on, and where it has ended
module _ (find : Plan → Option History) (law : (w : After) (t u : Plan) → find (in_turn w t u) ≡ in_second find w t u) (w : After) (t u : Plan) (old mid : History) where
  pub turn-next : (x : Added) → goes_on_after w x ≡ true → IsAddedIn find w t x old mid → (y : Added) (new : History) → IsAddedIn find w u y mid new → IsAddedIn find w (in_turn w t u) y old new
  turn-next added.Hit on a y new b = absurd (false≢true on)
  turn-next (added.Alike r) on a y new b = turn-on find law w t u old mid r a on y new b

  pub turn-ended : (x : Added) → goes_on_after w x ≡ false → IsAddedIn find w t x old mid → IsAddedIn find w (in_turn w t u) x old mid
  turn-ended added.Hit off a = turn-hit find law w t u old mid a
  turn-ended (added.Alike r) off a = turn-stop find law w t u old mid r a off

pub hit-in_turn : (w : After) (t u : Plan) → first_hit (in_turn w t u) ≡ in_second first_hit w t u
hit-in_turn after.Error t u = refl
hit-in_turn after.Miss t u = refl

pub leaf_hit-in_turn : (p : List ℕ) (w : After) (t u : Plan) → leaf_hit p (in_turn w t u) ≡ in_second (leaf_hit p) w t u
leaf_hit-in_turn p after.Error t u = refl
leaf_hit-in_turn p after.Miss t u = refl

-- ---- a hit of a leg, or of any

pub lead-led : (f h : Option History) (others : History) (y : Outcome) (old new : History) → IsAdded f others y added.Hit old new → IsLead f h lead.Led old new
lead-led None h others y old new t = let e : added.Hit ≡ added.Alike y = t.0 in cc
lead-led (Some es) h others y old new t = (refl, t.1)

module _ (f h : Option History) (others : History) (y r : Outcome) (old mid back new : History) (n : ℕ) (b : Bool) (t : IsAdded f others y (added.Alike r) old mid) (size : n ≡ length old) (is : back ≡ take n mid) (u : IsTried h b back new) where
  again : IsTried h b old new
  again = let m = misses-by f others y r old mid t in subst (λ l. IsTried h b l new) (is ∙ kept old mid others n m.new_is size) u

  pub lead-hit : b ≡ true → IsLead f h lead.Hit old new
  lead-hit does =
      let m = misses-by f others y r old mid t in
      subst (λ g. IsLead g h lead.Hit old new) (sym m.is) (hit h again)
    where
      hit : (g : Option History) → IsTried g b old new → IsLead None g lead.Hit old new
      hit None v = absurd (false≢true (sym v.0 ∙ does))
      hit (Some es) v = (refl, v.1)

  pub lead-neither : b ≡ false → IsLead f h lead.Neither old new
  lead-neither isnt =
      let m = misses-by f others y r old mid t in
      subst (λ g. IsLead g h lead.Neither old new) (sym m.is) (neither h again)
    where
      neither : (g : Option History) → IsTried g b old new → IsLead None g lead.Neither old new
      neither None v = (refl, v.1)
      neither (Some es) v = absurd (false≢true (sym isnt ∙ v.0))

pub lead-none : (old : History) → IsLead None None lead.Neither old old
lead-none old = (refl, ([], sym (append-nil old)))

-- what it says of a leg that hits, of another hit, and of none
record Leads (f : Option History) (old new : History) : Type 0 where
  found : History
  is : f ≡ Some found
  new_is : new ≡ old ++ found

record HitsInstead (f h : Option History) (old new : History) : Type 0 where
  found : History
  none : f ≡ None
  is : h ≡ Some found
  new_is : new ≡ old ++ found

record Fails (f h : Option History) (old new : History) : Type 0 where
  found : History
  none : f ≡ None
  neither : h ≡ None
  new_is : new ≡ old ++ found

leads-by : (f h : Option History) (old new : History) → IsLead f h lead.Led old new → Leads f old new
leads-by (Some es) h old new t = record { found = es; is = refl; new_is = t.1 }
leads-by None (Some es) old new t = let e : lead.Led ≡ lead.Hit = t.0 in cc
leads-by None None old new t = let e : lead.Led ≡ lead.Neither = t.0 in cc

instead-by : (f h : Option History) (old new : History) → IsLead f h lead.Hit old new → HitsInstead f h old new
instead-by (Some es) h old new t = let e : lead.Hit ≡ lead.Led = t.0 in cc
instead-by None (Some es) old new t = record { found = es; none = refl; is = refl; new_is = t.1 }
instead-by None None old new t = let e : lead.Hit ≡ lead.Neither = t.0 in cc

fails-by : (f h : Option History) (old new : History) → IsLead f h lead.Neither old new → Fails f h old new
fails-by (Some es) h old new t = let e : lead.Neither ≡ lead.Led = t.0 in cc
fails-by None (Some es) old new t = let e : lead.Neither ≡ lead.Hit = t.0 in cc
fails-by None None old new t = record { found = t.1.0; none = refl; neither = refl; new_is = t.1.1 }

pub added-led : (f h : Option History) (others : History) (y : Outcome) (old new : History) → IsLead f h lead.Led old new → IsAdded f others y added.Hit old new
added-led f h others y old new t = let m = leads-by f h old new t in subst (λ g. IsAdded g others y added.Hit old new) (sym m.is) (refl, m.new_is)

pub added-unled : (f h : Option History) (x : Lead) (old mid others new : History) (n : ℕ) (y z : Outcome) → IsLead f h x old mid → (x ≡ lead.Hit) ⊎ (x ≡ lead.Neither) → n ≡ length old → new ≡ take n mid ++ others → z ≡ y
    → IsAdded f others y (added.Alike z) old new
added-unled f h x old mid others new n y z t (inl e) size is reply =
    let m = instead-by f h old mid (subst (λ v. IsLead f h v old mid) e t) in
    subst (λ g. IsAdded g others y (added.Alike z) old new) (sym m.none) (ap added.Alike reply, is ∙ ap (λ l. l ++ others) (kept old mid m.found n m.new_is size))
added-unled f h x old mid others new n y z t (inr e) size is reply =
    let m = fails-by f h old mid (subst (λ v. IsLead f h v old mid) e t) in
    subst (λ g. IsAdded g others y (added.Alike z) old new) (sym m.none) (ap added.Alike reply, is ∙ ap (λ l. l ++ others) (kept old mid m.found n m.new_is size))

-- ---- where nothing hits, no leg does

both-unled : (lt ft lu fu : Option History) → (ft ≡ None → lt ≡ None) → (fu ≡ None → lu ≡ None) → one_after_other ft fu ≡ None → or_else (one_after_other lt fu) (one_after_other ft lu) ≡ None
both-unled lt None lu fu first second none = ap (λ l. or_else (one_after_other l fu) None) (first refl)
both-unled None (Some es) lu None first second none = ap (also es) (second refl)
both-unled (Some ds) (Some es) lu None first second none = ap (also es) (second refl)
both-unled lt (Some es) lu (Some fs) first second none = let e : Some (es ++ fs) ≡ None = none in cc

turn-unled : (lt ft lu fu : Option History) (go : Bool) (es : History) → (ft ≡ None → lt ≡ None) → (fu ≡ None → lu ≡ None) → or_else ft (if go then also es fu else None) ≡ None → or_else lt (if go then also es lu else None) ≡ None
turn-unled lt None lu fu false es first second none = ap (λ l. or_else l None) (first refl)
turn-unled lt None lu None true es first second none = ap (λ l. or_else l (also es lu)) (first refl) ∙ ap (also es) (second refl)
turn-unled lt None lu (Some fs) true es first second none = let e : Some (es ++ fs) ≡ None = none in cc
turn-unled lt (Some ds) lu fu go es first second none = let e : Some ds ≡ None = none in cc

unled : (p : List ℕ) (t : Plan) → first_hit t ≡ None → leaf_hit p t ≡ None
unled p (Send l) none = let e : Some ((l.position, Good) ∷ []) ≡ None = none in cc
unled p (Reply y) none = refl
unled p (Both t u) none = both-unled (leaf_hit p t) (first_hit t) (leaf_hit p u) (first_hit u) (λ e. unled p t e) (λ e. unled p u e) none
unled p (Beside t u) none = unled p t none
unled p (OnError t u) none =
    turn-unled (leaf_hit p t) (first_hit t) (leaf_hit p u) (first_hit u) (is_error (if_all Error t)) (answers Error t) (λ e. unled p t e) (λ e. unled p u e) none
unled p (OnMiss t u) none = turn-unled (leaf_hit p t) (first_hit t) (leaf_hit p u) (first_hit u) (is_missed (if_all Soft t)) (answers Soft t) (λ e. unled p t e) (λ e. unled p u e) none
unled p (OnHit t u) none = unled p t none
unled p (Shadowed s a b t u) none = unled p t none

-- ---- both, where one leads

behind-lead : (l f : Option History) (es : History) (x : Lead) (old mid new : History) → mid ≡ old ++ es → IsLead l f x mid new → IsLead (also es l) (also es f) x old new
behind-lead (Some ds) f es x old mid new is t = (t.0, behind old mid new es ds is t.1)
behind-lead None (Some fs) es x old mid new is t = (t.0, behind old mid new es fs is t.1)
behind-lead None None es x old mid new is t = (t.0, (es ++ t.1.0, behind old mid new es t.1.0 is t.1.1))

module _ (p : List ℕ) (t u : Plan) (old mid : History) where
  module _ (new : History) (b : Bool) (a : IsLead (leaf_hit p t) (first_hit t) lead.Led old mid) (v : IsTried (first_hit u) b mid new) where
    pub both-led : b ≡ true → IsLead (leaf_hit p (Both t u)) (first_hit (Both t u)) lead.Led old new
    both-led does = let m = leads-by (leaf_hit p t) (first_hit t) old mid a in led (first_hit u) (leaf_hit p t) m.found m.is m.new_is v
      where
        led : (f l : Option History) (es : History) → l ≡ Some es → mid ≡ old ++ es → IsTried f b mid new → IsLead (or_else (one_after_other l f) (one_after_other (first_hit t) (leaf_hit p u))) (one_after_other (first_hit t) f) lead.Led old new
        led None l es is mid_is w = absurd (false≢true (sym w.0 ∙ does))
        led (Some fs) l es is mid_is w =
            subst (λ g. IsLead (or_else (one_after_other g (Some fs)) (one_after_other (first_hit t) (leaf_hit p u))) (one_after_other (first_hit t) (Some fs)) lead.Led old new) (sym is) (refl, behind old mid new es fs mid_is w.1)

    pub led-alone : b ≡ false → IsLead (leaf_hit p (Both t u)) (first_hit (Both t u)) lead.Neither old new
    led-alone isnt =
        let m = leads-by (leaf_hit p t) (first_hit t) old mid a in
        let hit : first_hit u ≡ None = no-hit (first_hit u) v in
        let none : first_hit (Both t u) ≡ None = ap (one_after_other (first_hit t)) hit ∙ none-after (first_hit t) in
        subst (λ f. IsLead f (first_hit (Both t u)) lead.Neither old new) (sym (unled p (Both t u) none))
        (subst (λ f. IsLead None f lead.Neither old new) (sym none) (refl, (m.found ++ (rest (first_hit u) v).0, behind old mid new m.found (rest (first_hit u) v).0 m.new_is (rest (first_hit u) v).1)))
      where
        no-hit : (f : Option History) → IsTried f b mid new → f ≡ None
        no-hit None w = refl
        no-hit (Some fs) w = absurd (false≢true (sym isnt ∙ w.0))

        none-after : (f : Option History) → one_after_other f None ≡ None
        none-after None = refl
        none-after (Some fs) = refl

        rest : (f : Option History) → IsTried f b mid new → (es : History) × (new ≡ mid ++ es)
        rest None w = w.1
        rest (Some fs) w = (fs, w.1)

  pub both-hit : IsLead (leaf_hit p t) (first_hit t) lead.Hit old mid → (x : Lead) (new : History) → IsLead (leaf_hit p u) (first_hit u) x mid new → IsLead (leaf_hit p (Both t u)) (first_hit (Both t u)) x old new
  both-hit a x new v =
      let m = instead-by (leaf_hit p t) (first_hit t) old mid a in
      let l : leaf_hit p (Both t u) ≡ also m.found (leaf_hit p u) =
      ap (λ f. or_else (one_after_other f (first_hit u)) (one_after_other (first_hit t) (leaf_hit p u))) m.none ∙ ap (λ f. one_after_other f (leaf_hit p u)) m.is in
      let f : first_hit (Both t u) ≡ also m.found (first_hit u) = ap (λ h. one_after_other h (first_hit u)) m.is in
      subst (λ g. IsLead g (first_hit (Both t u)) x old new) (sym l) (subst (λ h. IsLead (also m.found (leaf_hit p u)) h x old new) (sym f) (behind-lead (leaf_hit p u) (first_hit u) m.found x old mid new m.new_is v))

  pub both-fail : IsLead (leaf_hit p t) (first_hit t) lead.Neither old mid → IsLead (leaf_hit p (Both t u)) (first_hit (Both t u)) lead.Neither old mid
  both-fail a =
      let m = fails-by (leaf_hit p t) (first_hit t) old mid a in
      let none : first_hit (Both t u) ≡ None = ap (λ h. one_after_other h (first_hit u)) m.neither in
      subst (λ f. IsLead f (first_hit (Both t u)) lead.Neither old mid) (sym (unled p (Both t u) none)) (subst (λ f. IsLead None f lead.Neither old mid) (sym none) (refl, (m.found, m.new_is)))

-- ---- from an empty list

pub found-some : (f : Option History) (others : History) (y : Outcome) (old new : History) → IsAdded f others y added.Hit old new → old ≡ [] → Some new ≡ f
found-some f others y old new t empty = let m = hits-by f others y old new t in ap Some (m.new_is ∙ ap (λ l. l ++ m.found) empty) ∙ sym m.is

pub found-none : (f : Option History) (others : History) (y r : Outcome) (old new : History) → IsAdded f others y (added.Alike r) old new → None ≡ f
found-none f others y r old new t = sym (misses-by f others y r old new t).is
