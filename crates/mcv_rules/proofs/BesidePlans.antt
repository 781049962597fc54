-- Plans of which the first is waited for serve the handles that send beside: shadows, and all children at once.
use Rattle.std.proofs.Common.{◌≡◌, ◌<◌, ◌+◌, cond, ℕ, suc, List, [], ◌∷◌, ◌++◌, length, map, take, get_or, Vec, Box, Global, refl, sym, ap, ap₂, ◌∙◌, arith, add-one, append-nil, append_assoc, true}
use Rattle.std.specs.Prelude.{fold}
use Rattle.std.proofs.Math.Seq.{take-suc}
use Rattle.std.proofs.lemmas.List.{length-take-le, length-map, map-append}
use Rattle.mcv_route.specs.declared.launch.Launch.{Launch}
use Rattle.mcv_route.specs.declared.tree.Route.{Route}
use Rattle.mcv_route.specs.declared.tree.Shadow.{Shadow}
use Rattle.mcv_route.specs.Outcomes.{Outcomes, Choice, History}
use Rattle.mcv_route.specs.Tree.{Pool, Range, Tree, pool, null, error, many, AllInitial, AllAsync, none, child}
use Rattle.mcv_route.specs.Situation.{Situation, under, asynchronous, shadowed}
use Rattle.mcv_route.specs.Children.{joined, is_within, of_those_holding}
use Rattle.mcv_route.specs.View.{view, shadow_view, trees_of}
use Rattle.mcv_route.specs.Replies as replies
use Rattle.mcv_route.specs.Replies.{outcome_of as outcome_of_all}
use Rattle.mcv_route.specs.Launched.{launched, launched_each}
use Rattle.mcv_route.specs.Reply as definition
use Rattle.mcv_base.specs.declared.reply.Outcome.TheVariants.{Soft}
use Rattle.mcv_rules.specs.Arrivals.{own_arrived}
use Rattle.mcv_rules.specs.Places.{Kind, plain, shadow, misplaced, are_beside, is_beside, is_plain, kind_of, places_of}
use Rattle.mcv_rules.specs.Plan as planned
use Rattle.mcv_rules.specs.Plans.{leg_of, plan, plan_each, with_shadows}
use Rattle.mcv_rules.specs.Soundness.{positions}
use Rattle.mcv_rules.specs.NormalForm.{Part, alone, beside, part, part_of, shade}
use Rattle.mcv_rules.specs.PlanInMemory.{sent, legs_each, ranges_of, targets_of, Serves}
use Rattle.mcv_rules.specs.declared.plan.Plan.{Plan, Beside, Shadowed}
use Rattle.mcv_rules.proofs.Places.{kind-Beside, kind-Shadowed, places-Beside, places-Shadowed}
use Rattle.mcv_rules.proofs.NormalForms.{part-Beside, part-Shadowed}
use Rattle.mcv_rules.proofs.Plans.{sent-Beside, sent-Shadowed, arrived-Beside}
use Rattle.mcv_rules.proofs.Serving.{seen-does}

-- the legs of what goes beside, by choice and outcomes, and its normal form
pub record Legs : Type 0 where
  pub launches : Choice → Outcomes → List Launch
  pub part : Part

abbrev pub parts_of : List Legs → List Part
parts_of fs = map (λ f. f.part) fs

-- the plan sends these legs, and is a shadow or none
pub record SendsBeside (p : Plan) (f : Legs) : Type 0 where
  pub legs : (c : Choice) (o : Outcomes) → (sent c o p).legs ≡ f.launches c o
  pub kind : is_beside (kind_of p) ≡ true
  pub places : places_of p ≡ positions (alone f.part)
  pub whole : part_of p ≡ f.part

plain_beside : (k : Kind) → is_plain k ≡ true → is_beside k ≡ true
plain_beside plain e = refl
plain_beside shadow e = absurd (cc)
plain_beside misplaced e = absurd (cc)

pub serves-beside_it : (p : Plan) (t : Tree) (s : Situation) → Serves p t s → SendsBeside p (record { launches = λ c o. launched t s c o; part = part (plan t s) })
serves-beside_it p t s f = record { legs = f.sends; kind = plain_beside (kind_of p) f.kind; places = f.places; whole = f.whole }

-- each plan sends these legs; no one waits for its reply
abbrev pub SendEach : List Plan → List Legs → Type 0
SendEach [] [] = Unit {0}
SendEach [] (f ∷ fs) = ⊥
SendEach (p ∷ ps) [] = ⊥
SendEach (p ∷ ps) (f ∷ fs) = SendsBeside p f × SendEach ps fs

pub send-append : (ps : List Plan) (fs : List Legs) (p : Plan) (f : Legs) → SendEach ps fs → SendsBeside p f → SendEach (ps ++ p ∷ []) (fs ++ f ∷ [])
send-append [] [] p f a h = (h, tt)
send-append [] (g ∷ fs) p f a h = absurd a
send-append (q ∷ ps) [] p f a h = absurd a
send-append (q ∷ ps) (g ∷ fs) p f a h = (a.0, send-append ps fs p f a.1 h)

send-legs : (ps : List Plan) (fs : List Legs) (c : Choice) (o : Outcomes) → SendEach ps fs → joined (legs_each (map (sent c o) ps)) ≡ joined (map (λ f. f.launches c o) fs)
send-legs [] [] c o a = refl
send-legs [] (f ∷ fs) c o a = absurd a
send-legs (p ∷ ps) [] c o a = absurd a
send-legs (p ∷ ps) (f ∷ fs) c o a = ap₂ ◌++◌ (a.0.legs c o) (send-legs ps fs c o a.1)

send-kinds : (ps : List Plan) (fs : List Legs) → SendEach ps fs → are_beside (map kind_of ps) ≡ true
send-kinds [] fs a = refl
send-kinds (p ∷ ps) [] a = absurd a
send-kinds (p ∷ ps) (f ∷ fs) a = rw a.0.kind (send-kinds ps fs a.1)

send-places : (ps : List Plan) (fs : List Legs) → SendEach ps fs → joined (map places_of ps) ≡ joined (map (λ x. positions (alone x)) (parts_of fs))
send-places [] [] a = refl
send-places [] (f ∷ fs) a = absurd a
send-places (p ∷ ps) [] a = absurd a
send-places (p ∷ ps) (f ∷ fs) a = ap₂ ◌++◌ a.0.places (send-places ps fs a.1)

send-wholes : (ps : List Plan) (fs : List Legs) → SendEach ps fs → map part_of ps ≡ parts_of fs
send-wholes [] [] a = refl
send-wholes [] (f ∷ fs) a = absurd a
send-wholes (p ∷ ps) [] a = absurd a
send-wholes (p ∷ ps) (f ∷ fs) a = ap₂ ◌∷◌ a.0.whole (send-wholes ps fs a.1)

-- the positions of what goes beside come after
positions-beside : (t : planned.Plan) (xs : List Part) → positions (fold beside t xs) ≡ positions t ++ joined (map (λ x. positions (alone x)) xs)
positions-beside t [] = sym (append-nil (positions t))
positions-beside t (x ∷ xs) =
    positions-beside (beside t x) xs ∙ ap (λ ps. ps ++ joined (map (λ x. positions (alone x)) xs)) (one x) ∙ append_assoc (positions t) (positions (alone x)) (joined (map (λ x. positions (alone x)) xs))
  where
    one : (x : Part) → positions (beside t x) ≡ positions t ++ positions (alone x)
    one (part u) = refl
    one (shade symbol first last u) = refl

-- the first serves a route, and the rest sends beside it
abbrev pub LedBy : (Plan → Type 0) → List Plan → List Legs → Type 0
LedBy P [] fs = ⊥
LedBy P (p ∷ ps) fs = P p × SendEach ps fs

pub led-append : (P : Plan → Type 0) (ps : List Plan) (fs : List Legs) (p : Plan) (f : Legs) → LedBy P ps fs → SendsBeside p f → LedBy P (ps ++ p ∷ []) (fs ++ f ∷ [])
led-append P [] fs p f a h = absurd a
led-append P (q ∷ ps) fs p f a h = (a.0, send-append ps fs p f a.1 h)

-- the route replies as another does, and sends beside it
pub record Beyond (t : Tree) (s : Situation) (u : Tree) (v : Situation) (fs : List Legs) : Type 0 where
  pub op : s.op ≡ v.op
  pub sends : (c : Choice) (o : Outcomes) → launched t s c o ≡ launched u v c o ++ joined (map (λ f. f.launches c o) fs)
  pub whole : plan t s ≡ fold beside (plan u v) (parts_of fs)
  pub replies : (o : Outcomes) → replies.replies t s o ≡ replies.replies u v o
  pub reply : (es : History) → definition.reply t s es ≡ definition.reply u v es

led-serves : (w : Vec Plan Global) (ps : List Plan) (t u : Tree) (s v : Situation) (fs : List Legs) → w.items ≡ ps → Beyond t s u v fs → LedBy (λ p. Serves p u v) ps fs → Serves (Beside w) t s
led-serves w [] t u s v fs is d a = absurd a
led-serves w (p ∷ ps) t u s v fs is d a = record {
  sends = λ c o. rw (sent-Beside c o w, is, a.0.sends c o, send-legs ps fs c o a.1) (sym (d.sends c o));
  replies = λ c o. rw (sent-Beside c o w, is) (a.0.replies c o ∙ ap outcome_of_all (sym (d.replies o)));
  kind = rw (kind-Beside w, is, a.0.kind, send-kinds ps fs a.1) refl;
  places = rw (places-Beside w, is, a.0.places, send-places ps fs a.1) (sym (ap positions d.whole ∙ positions-beside (plan u v) (parts_of fs)));
  whole = rw (part-Beside w, is, a.0.whole, send-wholes ps fs a.1) (ap part (sym d.whole));
  answers = λ xs. rw (arrived-Beside (own_arrived xs) w, is) (a.0.answers xs ∙ seen-does t u s v d.op d.replies d.reply xs);
}

pub serves-beside : (w : Vec Plan Global) (t u : Tree) (s v : Situation) (fs : List Legs) → Beyond t s u v fs → LedBy (λ p. Serves p u v) w.items fs → Serves (Beside w) t s
serves-beside w t u s v fs d a = led-serves w w.items t u s v fs refl d a

-- ---- children that no one waits for

-- those of child k
abbrev pub child_leg : ℕ → Tree → Situation → Legs
child_leg k t s = record { launches = λ c o. launched t (under k s) c o; part = part (plan t (under k s)) }

-- the legs of each child, the first of which has number k
abbrev pub child_legs : ℕ → List Tree → Situation → List Legs
child_legs k [] s = []
child_legs k (t ∷ ts) s = child_leg k t s ∷ child_legs (suc k) ts s

child_legs-append : (k n : ℕ) (ts : List Tree) (t : Tree) (s : Situation) → n ≡ k + length ts → child_legs k (ts ++ t ∷ []) s ≡ child_legs k ts s ++ child_leg n t s ∷ []
child_legs-append k n [] t s e = let same : k ≡ n = omega (arith, e) in rw same refl
child_legs-append k n (u ∷ ts) t s e = ap (λ fs. child_leg k u s ∷ fs) (child_legs-append (suc k) n ts t s (omega (arith, e)))

child_legs-launched : (k : ℕ) (ts : List Tree) (s : Situation) (c : Choice) (o : Outcomes) → map (λ f. f.launches c o) (child_legs k ts s) ≡ launched_each k (trees_of ts) s c o
child_legs-launched k [] s c o = refl
child_legs-launched k (t ∷ ts) s c o = ap (λ xs. launched t (under k s) c o ∷ xs) (child_legs-launched (suc k) ts s c o)

child_legs-whole : (k : ℕ) (u : planned.Plan) (ts : List Tree) (s : Situation) → fold planned.Beside u (plan_each k (trees_of ts) s) ≡ fold beside u (parts_of (child_legs k ts s))
child_legs-whole k u [] s = refl
child_legs-whole k u (t ∷ ts) s = child_legs-whole (suc k) (planned.Beside u (plan t (under k s))) ts s

-- one child more; the first has number k
pub child-grows : (P : Plan → Type 0) (k m : ℕ) (ps : List Plan) (routes : List Route) (n : ℕ) (route : Route) (p : Plan) (s : Situation) → n < length routes → route ≡ get_or routes n route
    → LedBy P ps (child_legs k (map view (take n routes)) s) → m ≡ k + n → Serves p (view route) (under m s) → LedBy P (ps ++ p ∷ []) (child_legs k (map view (take (n + 1) routes)) s)
child-grows P k m ps routes n route p s h is a e f =
    let count : length (map view (take n routes)) ≡ n = length-map (take n routes) view ∙ length-take-le n routes (omega (arith, h)) in
    rw (add-one n, take-suc routes n route h, ← is, map-append view (take n routes) (route ∷ []), child_legs-append k m (map view (take n routes)) (view route) s (omega (arith, count, e)))
    (led-append P ps (child_legs k (map view (take n routes)) s) p (child_leg m (view route) s) a (serves-beside_it p (view route) (under m s) f))

-- the first of them
abbrev pub first_of : List Tree → Tree
first_of [] = error
first_of (t ∷ ts) = t

pub initial_beyond : (t : Tree) (ts : List Tree) (s : Situation) → Beyond (many AllInitial (child t (trees_of ts))) s t (under 0 s) (child_legs 1 ts (asynchronous s))
initial_beyond t ts s = record {
  op = refl;
  sends = λ c o. ap (λ ls. launched t (under 0 s) c o ++ joined ls) (sym (child_legs-launched 1 ts (asynchronous s) c o));
  whole = child_legs-whole 1 (plan t (under 0 s)) ts (asynchronous s);
  replies = λ o. refl;
  reply = λ es. refl;
}

pub async_beyond : (ts : List Tree) (s : Situation) → Beyond (many AllAsync (trees_of ts)) s null s (child_legs 0 ts (asynchronous s))
async_beyond ts s = record {
  op = refl;
  sends = λ c o. ap joined (sym (child_legs-launched 0 ts (asynchronous s) c o));
  whole = child_legs-whole 0 (planned.Reply Soft) ts (asynchronous s);
  replies = λ o. refl;
  reply = λ es. refl;
}

-- the first plan alone
pub led_first : (P : Plan → Type 0) (ps : List Plan) (p : Plan) → ps ≡ p ∷ [] → P p → LedBy P ps []
led_first P ps p is h = rw is (h, tt)

pub first_served : (p : Plan) (routes : List Route) (first : Route) (others : List Route) (s : Situation) → routes ≡ first ∷ others → Serves p (view first) s → Serves p (first_of (map view routes)) s
first_served p routes first others s is h = rw is h

pub first_beyond : (routes : List Route) (first : Route) (others : List Route) (s : Situation) → routes ≡ first ∷ others
    → Beyond (many AllInitial (trees_of (map view routes))) s (first_of (map view routes)) (under 0 s) (child_legs 1 (map view others) (asynchronous s))
first_beyond routes first others s is = rw is (initial_beyond (view first) (map view others) s)

-- ---- shadows

-- those of target k, where the symbol's index is in its range
abbrev pub shadow_leg : ℕ → ℕ → Range × Tree → Situation → Legs
shadow_leg symbol k x s = record { launches = λ c o. cond (is_within x.0 (c symbol)) (launched x.1 (under k s) c o) []; part = shade symbol x.0.first x.0.last (plan x.1 (under k s)) }

-- the legs of each target, the first of which has number k, where the symbol's index is in its range
abbrev pub shadow_legs : ℕ → ℕ → List (Range × Tree) → Situation → List Legs
shadow_legs symbol k [] s = []
shadow_legs symbol k (x ∷ shadows) s =
    shadow_leg symbol k x s ∷ shadow_legs symbol (suc k) shadows s

shadow_legs-append : (symbol k n : ℕ) (shadows : List (Range × Tree)) (x : Range × Tree) (s : Situation) → n ≡ k + length shadows
    → shadow_legs symbol k (shadows ++ x ∷ []) s ≡ shadow_legs symbol k shadows s ++ shadow_leg symbol n x s ∷ []
shadow_legs-append symbol k n [] x s e = let same : k ≡ n = omega (arith, e) in rw same refl
shadow_legs-append symbol k n (y ∷ shadows) x s e =
    ap (λ fs. shadow_leg symbol k y s ∷ fs) (shadow_legs-append symbol (suc k) n shadows x s (omega (arith, e)))

shadow_legs-launched : (symbol k : ℕ) (shadows : List (Range × Tree)) (s : Situation) (c : Choice) (o : Outcomes)
    → joined (map (λ f. f.launches c o) (shadow_legs symbol k shadows s)) ≡ of_those_holding (c symbol) (map (λ x. x.0) shadows) (launched_each k (trees_of (map (λ x. x.1) shadows)) s c o)
shadow_legs-launched symbol k [] s c o = refl
shadow_legs-launched symbol k (x ∷ shadows) s c o =
    ap (λ ls. cond (is_within x.0 (c symbol)) (launched x.1 (under k s) c o) [] ++ ls) (shadow_legs-launched symbol (suc k) shadows s c o)

shadow_legs-whole : (symbol k : ℕ) (t : planned.Plan) (shadows : List (Range × Tree)) (s : Situation)
    → with_shadows symbol t (map (λ x. x.0) shadows) (plan_each k (trees_of (map (λ x. x.1) shadows)) s) ≡ fold beside t (parts_of (shadow_legs symbol k shadows s))
shadow_legs-whole symbol k t [] s = refl
shadow_legs-whole symbol k t (x ∷ shadows) s = shadow_legs-whole symbol (suc k) (planned.Shadowed symbol x.0.first x.0.last t (plan x.1 (under k s))) shadows s

-- one shadow more
pub shadow-grows : (P : Plan → Type 0) (symbol : ℕ) (ps : List Plan) (shadows : List Shadow) (n : ℕ) (copied : Shadow) (target : Box Plan Global) (s : Situation) → n < length shadows → copied ≡ get_or shadows n copied
    → LedBy P ps (shadow_legs symbol 0 (map shadow_view (take n shadows)) s) → Serves target.value (shadow_view copied).1 (under n s)
    → LedBy P (ps ++ Shadowed symbol (shadow_view copied).0.first (shadow_view copied).0.last target ∷ []) (shadow_legs symbol 0 (map shadow_view (take (n + 1) shadows)) s)
shadow-grows P symbol ps shadows n copied target s h is a f =
    let x = shadow_view copied in
    let so_far = map shadow_view (take n shadows) in
    let count : length so_far ≡ n = length-map (take n shadows) shadow_view ∙ length-take-le n shadows (omega (arith, h)) in
    rw (add-one n, take-suc shadows n copied h, ← is, map-append shadow_view (take n shadows) (copied ∷ []), shadow_legs-append symbol 0 n so_far x s (omega (arith, count)))
    (led-append P ps (shadow_legs symbol 0 so_far s) (Shadowed symbol x.0.first x.0.last target) (shadow_leg symbol n x s) a
    (record {
      legs = λ c o. rw (sent-Shadowed c o symbol x.0.first x.0.last target, f.sends c o) refl;
      kind = rw (kind-Shadowed symbol x.0.first x.0.last target, f.kind) refl;
      places = places-Shadowed symbol x.0.first x.0.last target ∙ f.places;
      whole = part-Shadowed symbol x.0.first x.0.last target ∙ ap (λ y. shade symbol x.0.first x.0.last (alone y)) f.whole;
    }))

pub shadows_beyond : (q : Pool) (shadows : List Shadow) (s : Situation) → Beyond (pool q (ranges_of shadows) (targets_of shadows)) s (pool q [] none) s (shadow_legs q.symbol 0 (map shadow_view shadows) (shadowed s))
shadows_beyond q shadows s = record {
  op = refl;
  sends = λ c o. ap (λ ls. launched (pool q [] none) s c o ++ ls) (sym (shadow_legs-launched q.symbol 0 (map shadow_view shadows) (shadowed s) c o));
  whole = shadow_legs-whole q.symbol 0 (planned.Send (leg_of q s)) (map shadow_view shadows) (shadowed s);
  replies = λ o. refl;
  reply = λ es. refl;
}

-- a pool without shadows
pub no_shadows : (p : Plan) (q : Pool) (shadows : List Shadow) (s : Situation) → length shadows ≡ 0 → Serves p (pool q [] none) s → Serves p (pool q (ranges_of shadows) (targets_of shadows)) s
no_shadows p q [] s n f = f
no_shadows p q (x ∷ shadows) s n f = absurd (omega (arith, n))
