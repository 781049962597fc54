-- A plan that does what another one does, at other positions: what it sends and replies.
use Rattle.std.proofs.Common.{◌≡◌, ◌<◌, ◌&&◌, cond, ℕ, zero, suc, Bool, true, false, List, [], ◌∷◌, ◌++◌, length, map, Option, Some, None, nat_le, nat_lt, option_map, unwrap_or, slice_index, refl, sym, ap, ap₂, ◌∙◌, subst, append_assoc, arith}
use Rattle.std.specs.Prelude.{⊤, slice_get}
use Rattle.std.proofs.lemmas.List.{map-append}
use Rattle.mcv_base.specs.Reply.{badness, is_error, is_good, is_missed}
use Rattle.mcv_base.specs.declared.reply.Outcome.{Outcome}
use Rattle.mcv_base.specs.declared.reply.Outcome.TheVariants.{Good, Soft, Error}
use Rattle.mcv_pools.specs.Symbol.{SymbolValue}
use Rattle.mcv_route.specs.Outcomes.{Choice, Outcomes}
use Rattle.mcv_route.specs.Replies.{Answer, own_answers, the_worse, or_after_error, or_after_miss}
use Rattle.mcv_route.specs.Routes.{RoutesValue}
use Rattle.mcv_rules.specs.Plan.{Leg, Plan, Send, Reply, Both, Beside, OnError, OnMiss, OnHit, Shadowed, both, launched, on_error, on_miss, on_reply, reply}
use Rattle.mcv_rules.specs.Plans.{launch_of}
use Rattle.mcv_alike.specs.Alike.{IsHash, Move, Seen, chosen_by, moved, seen, server_text}
use Rattle.mcv_alike.specs.Plans.{AreOneLeg, AreOnePlan, AreOnePool, AreOneSymbol}
use Rattle.mcv_alike.proofs.Answers.{answers, at_once}

-- the legs of the second plan are those of the first one, moved
abbrev pub IsMoved : Move → Plan → Plan → Type 0
IsMoved m (Send k) (Send l) = m k.position ≡ l.position
IsMoved m (Reply x) (Reply y) = ⊤
IsMoved m (Both t u) (Both v w) = IsMoved m t v × IsMoved m u w
IsMoved m (Beside t u) (Beside v w) = IsMoved m t v × IsMoved m u w
IsMoved m (OnError t u) (OnError v w) = IsMoved m t v × IsMoved m u w
IsMoved m (OnMiss t u) (OnMiss v w) = IsMoved m t v × IsMoved m u w
IsMoved m (OnHit t u) (OnHit v w) = IsMoved m t v × IsMoved m u w
IsMoved m (Shadowed s a b t u) (Shadowed z c d v w) = IsMoved m t v × IsMoved m u w
IsMoved m t u = ⊥

-- the outcomes of legs at the places to which they are moved
abbrev pub brought : Move → Outcomes → Outcomes
brought m o p = o (m p)

module _ (r n : RoutesValue) (m : Move) where
  pub replied : (o : Outcomes) (t u : Plan) → AreOnePlan r n t u → IsMoved m t u → reply u o ≡ reply t (brought m o)
  replied o (Send k) (Send l) h e = ap o (sym e)
  replied o (Reply x) (Reply y) h e = ap Some (sym h)
  replied o (Both t u) (Both v w) h e = ap₂ both (replied o t v h.0 e.0) (replied o u w h.1 e.1)
  replied o (Beside t u) (Beside v w) h e = replied o t v h.0 e.0
  replied o (OnError t u) (OnError v w) h e = ap₂ on_error (replied o t v h.0 e.0) (replied o u w h.1 e.1)
  replied o (OnMiss t u) (OnMiss v w) h e = ap₂ on_miss (replied o t v h.0 e.0) (replied o u w h.1 e.1)
  replied o (OnHit t u) (OnHit v w) h e = replied o t v h.0 e.0
  replied o (Shadowed s a b t u) (Shadowed z c d v w) h e = replied o t v h.3 e.0
  replied o t u h e = absurd h

-- ---- answers

if-map : {A B : Type 0} (g : A → B) (b : Bool) (xs ys : List A) → cond b (map g xs) (map g ys) ≡ map g (cond b xs ys)
if-map g true xs ys = refl
if-map g false xs ys = refl

module _ (m : Move) where
  own-moved : (p : List ℕ) (x : Option Outcome) → own_answers (m p) x ≡ map (moved m) (own_answers p x)
  own-moved p None = refl
  own-moved p (Some x) = refl

  once-moved : (x : Outcome) → at_once x ≡ map (moved m) (at_once x)
  once-moved Good = refl
  once-moved Soft = refl
  once-moved Error = refl

  worse-moved : (qs bs : List Answer) → the_worse (map (moved m) qs) (map (moved m) bs) ≡ map (moved m) (the_worse qs bs)
  worse-moved [] bs = refl
  worse-moved (a ∷ more) [] = refl
  worse-moved (a ∷ more) (b ∷ bs) =
      ap (λ xs. cond (nat_lt (badness a.outcome) (badness b.outcome)) (map (moved m) (b ∷ bs)) (cond (nat_lt (badness b.outcome) (badness a.outcome)) (map (moved m) (a ∷ more)) xs))
      (sym (map-append (moved m) (a ∷ more) (b ∷ bs)))
      ∙ ap (cond (nat_lt (badness a.outcome) (badness b.outcome)) (map (moved m) (b ∷ bs))) (if-map (moved m) (nat_lt (badness b.outcome) (badness a.outcome)) (a ∷ more) (a ∷ more ++ b ∷ bs))
      ∙ if-map (moved m) (nat_lt (badness a.outcome) (badness b.outcome)) (b ∷ bs) (cond (nat_lt (badness b.outcome) (badness a.outcome)) (a ∷ more) (a ∷ more ++ b ∷ bs))

  error-moved : (qs bs : List Answer) → or_after_error (map (moved m) qs) (map (moved m) bs) ≡ map (moved m) (or_after_error qs bs)
  error-moved [] bs = refl
  error-moved (a ∷ more) bs = if-map (moved m) (is_error a.outcome) bs (a ∷ more)

  miss-moved : (qs bs : List Answer) → or_after_miss (map (moved m) qs) (map (moved m) bs) ≡ map (moved m) (or_after_miss qs bs)
  miss-moved [] bs = refl
  miss-moved (a ∷ more) bs = if-map (moved m) (is_good a.outcome) (a ∷ more) bs

module _ (r n : RoutesValue) (m : Move) where
  pub answered : (o : Outcomes) (t u : Plan) → AreOnePlan r n t u → IsMoved m t u → answers u o ≡ map (moved m) (answers t (brought m o))
  answered o (Send k) (Send l) h e = ap (λ p. own_answers p (o p)) (sym e) ∙ own-moved m k.position (o (m k.position))
  answered o (Reply x) (Reply y) h e = ap at_once (sym h) ∙ once-moved m x
  answered o (Both t u) (Both v w) h e = ap₂ the_worse (answered o t v h.0 e.0) (answered o u w h.1 e.1) ∙ worse-moved m (answers t (brought m o)) (answers u (brought m o))
  answered o (Beside t u) (Beside v w) h e = answered o t v h.0 e.0
  answered o (OnError t u) (OnError v w) h e = ap₂ or_after_error (answered o t v h.0 e.0) (answered o u w h.1 e.1) ∙ error-moved m (answers t (brought m o)) (answers u (brought m o))
  answered o (OnMiss t u) (OnMiss v w) h e = ap₂ or_after_miss (answered o t v h.0 e.0) (answered o u w h.1 e.1) ∙ miss-moved m (answers t (brought m o)) (answers u (brought m o))
  answered o (OnHit t u) (OnHit v w) h e = answered o t v h.0 e.0
  answered o (Shadowed s a b t u) (Shadowed z c d v w) h e = answered o t v h.3 e.0
  answered o t u h e = absurd h

-- ---- legs

-- a leg as it is seen under a hash
abbrev pub seen_leg : RoutesValue → Move → (SymbolValue → ℕ) → Leg → Seen
seen_leg r m h l = seen r m (launch_of (chosen_by h r) l)

-- the legs that a plan sends, as they are seen
abbrev pub seen_by : RoutesValue → Move → (SymbolValue → ℕ) → Plan → Outcomes → List Seen
seen_by r m h t o = map (seen_leg r m h) (launched t (chosen_by h r) o)

one_text : (f g : ℕ → List ℕ) (xs ys : List ℕ) (i : ℕ) → map f xs ≡ map g ys → i < length xs → f (slice_index xs i) ≡ g (slice_index ys i)
one_text f g [] ys i e lt = absurd (omega arith)
one_text f g (x ∷ xs) [] i e lt = absurd (cc)
one_text f g (x ∷ xs) (y ∷ ys) zero e lt = (cc)
one_text f g (x ∷ xs) (y ∷ ys) (suc i) e lt = one_text f g xs ys i (cc) (omega arith)

pub chosen : (r : RoutesValue) (h : SymbolValue → ℕ) (s : ℕ) (v : SymbolValue) → slice_get r.symbols s ≡ Some v → chosen_by h r s ≡ h v
chosen r h s v e = ap (λ x. unwrap_or (option_map h x) 0) e

module _ (r n : RoutesValue) (h : SymbolValue → ℕ) (is : IsHash h) where
  pub one_choice : (s z : ℕ) → AreOneSymbol r n s z → chosen_by h r s ≡ chosen_by h n z
  one_choice s z one = chosen r h s one.symbol one.old ∙ sym (chosen n h z one.symbol one.new)

  -- both send to the same server
  pub one_server : (s : ℕ) (xs : List ℕ) (z : ℕ) (ys : List ℕ) → AreOnePool r n s xs z ys → server_text r (slice_index xs (chosen_by h r s)) ≡ server_text n (slice_index ys (chosen_by h n z))
  one_server s xs z ys one =
      let v = one.symbol.symbol in
      let below : h v < v.n = is v one.symbol.some in
      let lt : h v < length xs = subst (λ x. h v < x) (sym one.sized) below in
      ap (λ i. server_text r (slice_index xs i)) (chosen r h s v one.symbol.old)
      ∙ one_text (server_text r) (server_text n) xs ys (h v) one.servers lt
      ∙ ap (λ i. server_text n (slice_index ys i)) (sym (chosen n h z v one.symbol.new))

  same_seen : (m : Move) (k l : Leg) → AreOneLeg r n k l → m k.position ≡ l.position → seen_leg n (λ p. p) h l ≡ seen_leg r m h k
  same_seen m k l one e =
      let same = one_server k.symbol k.servers l.symbol l.servers one.pool in
      λ i. record { position = sym e i; server = sym same i; op = sym one.op i; mark = sym one.mark i }

-- what is sent once a reply passes the test
abbrev when : (Outcome → Bool) → Option Outcome → List Seen → List Seen
when t None ls = []
when t (Some x) ls = cond (t x) ls []

module _ (q : RoutesValue) (m : Move) (h : SymbolValue → ℕ) where
  seen-when : (t : Outcome → Bool) (x : Option Outcome) (ls : List Leg) → map (seen_leg q m h) (on_reply t x ls) ≡ when t x (map (seen_leg q m h) ls)
  seen-when t None ls = refl
  seen-when t (Some x) ls = sym (if-map (seen_leg q m h) (t x) ls [])

  seen-both : (t u : Plan) (o : Outcomes) (ls : List Leg) → map (seen_leg q m h) (launched t (chosen_by h q) o ++ ls) ≡ seen_by q m h t o ++ map (seen_leg q m h) ls
  seen-both t u o ls = map-append (seen_leg q m h) (launched t (chosen_by h q) o) ls

  -- the second plan behind the first one's reply
  seen-after : (test : Outcome → Bool) (t u : Plan) (o : Outcomes)
      → map (seen_leg q m h) (launched t (chosen_by h q) o ++ on_reply test (reply t o) (launched u (chosen_by h q) o)) ≡ seen_by q m h t o ++ when test (reply t o) (seen_by q m h u o)
  seen-after test t u o = seen-both t u o (on_reply test (reply t o) (launched u (chosen_by h q) o)) ∙ ap (λ ls. seen_by q m h t o ++ ls) (seen-when test (reply t o) (launched u (chosen_by h q) o))

  -- a shadow's plan beside the first one
  seen-shadow : (s a b : ℕ) (t u : Plan) (o : Outcomes)
      → map (seen_leg q m h) (launched t (chosen_by h q) o ++ cond (nat_le a (chosen_by h q s) && nat_le (chosen_by h q s) b) (launched u (chosen_by h q) o) [])
      ≡ seen_by q m h t o ++ cond (nat_le a (chosen_by h q s) && nat_le (chosen_by h q s) b) (seen_by q m h u o) []
  seen-shadow s a b t u o =
      seen-both t u o (cond (nat_le a (chosen_by h q s) && nat_le (chosen_by h q s) b) (launched u (chosen_by h q) o) [])
      ∙ ap (λ ls. seen_by q m h t o ++ ls) (sym (if-map (seen_leg q m h) (nat_le a (chosen_by h q s) && nat_le (chosen_by h q s) b) (launched u (chosen_by h q) o) []))

abbrev pub stay : Move
stay p = p

module _ (r n : RoutesValue) (m : Move) (h : SymbolValue → ℕ) (is : IsHash h) (o : Outcomes) where
  -- the second of two plans behind the first, by what both do
  afterwards : (test : Outcome → Bool) (t u v w : Plan) → AreOnePlan r n t v → IsMoved m t v → seen_by n stay h v o ≡ seen_by r m h t (brought m o) → seen_by n stay h w o ≡ seen_by r m h u (brought m o)
      → seen_by n stay h v o ++ when test (reply v o) (seen_by n stay h w o) ≡ seen_by r m h t (brought m o) ++ when test (reply t (brought m o)) (seen_by r m h u (brought m o))
  afterwards test t u v w one e f g = ap₂ ◌++◌ f (ap₂ (when test) (replied r n m o t v one e) g)

  within : (s z a b c d : ℕ) → AreOneSymbol r n s z → a ≡ c → b ≡ d
      → (nat_le c (chosen_by h n z) && nat_le (chosen_by h n z) d) ≡ (nat_le a (chosen_by h r s) && nat_le (chosen_by h r s) b)
  within s z a b c d one e f =
      let g = one_choice r n h is s z one in
      ap₂ ◌&&◌ (ap₂ nat_le (sym e) (sym g)) (ap₂ nat_le (sym g) (sym f))

  pub sends : (t u : Plan) → AreOnePlan r n t u → IsMoved m t u → seen_by n stay h u o ≡ seen_by r m h t (brought m o)
  sends (Send k) (Send l) one e = ap (λ x. x ∷ []) (same_seen r n h is m k l one e)
  sends (Reply x) (Reply y) one e = refl
  sends (Both t u) (Both v w) one e =
      seen-both n stay h v w o (launched w (chosen_by h n) o) ∙ ap₂ ◌++◌ (sends t v one.0 e.0) (sends u w one.1 e.1) ∙ sym (seen-both r m h t u (brought m o) (launched u (chosen_by h r) (brought m o)))
  sends (Beside t u) (Beside v w) one e =
      seen-both n stay h v w o (launched w (chosen_by h n) o) ∙ ap₂ ◌++◌ (sends t v one.0 e.0) (sends u w one.1 e.1) ∙ sym (seen-both r m h t u (brought m o) (launched u (chosen_by h r) (brought m o)))
  sends (OnError t u) (OnError v w) one e =
      seen-after n stay h is_error v w o ∙ afterwards is_error t u v w one.0 e.0 (sends t v one.0 e.0) (sends u w one.1 e.1) ∙ sym (seen-after r m h is_error t u (brought m o))
  sends (OnMiss t u) (OnMiss v w) one e =
      seen-after n stay h is_missed v w o ∙ afterwards is_missed t u v w one.0 e.0 (sends t v one.0 e.0) (sends u w one.1 e.1) ∙ sym (seen-after r m h is_missed t u (brought m o))
  sends (OnHit t u) (OnHit v w) one e =
      seen-after n stay h is_good v w o ∙ afterwards is_good t u v w one.0 e.0 (sends t v one.0 e.0) (sends u w one.1 e.1) ∙ sym (seen-after r m h is_good t u (brought m o))
  sends (Shadowed s a b t u) (Shadowed z c d v w) one e =
      seen-shadow n stay h z c d v w o
      ∙ ap₂ ◌++◌ (sends t v one.3 e.0) (ap₂ (λ (x : Bool) (ls : List Seen). cond x ls []) (within s z a b c d one.0 one.1 one.2) (sends u w one.4 e.1))
      ∙ sym (seen-shadow r m h s a b t u (brought m o))
  sends t u one e = absurd one
