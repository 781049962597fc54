-- Replies to the keys of a request, each of its hub.
use Rattle.std.proofs.Common.{◌≡◌, ◌∙◌, ◌++◌, ◌+◌, ◌≤◌, ℕ, zero, suc, Bool, Bor, true, false, not, List, [], ◌∷◌, Vec, Global, Option, None, Some, Result, Ok, Err, IfErr, IfOk, inl, inr, ap, arith, length, map, option_to_list, refl, subst, sym}
use Rattle.std.specs.Prelude.{IfSome, IsSome, cond, count_by, is_none, is_some, option_map, slice_get, slice_set}
use Rattle.std.specs.Arc.{arc_value}
use Rattle.std.specs.Option.{unwrap_or}
use Rattle.std.specs.declared.sync.Arc.{Arc}
use Rattle.std.specs.List.{All}
use Rattle.std.proofs.lemmas.List.{length-map, length-set}
use Rattle.std.proofs.lemmas.List.Sums.{count_by-le-length, sum_by-cons}
use Rattle.std.specs.Slice.{IsItemAt}
use Rattle.std.proofs.lemmas.Option.{slice_get-get_or, slice_get_within}
use Rattle.mcv_base.specs.Reply.{ReplyValue, part_value}
use Rattle.mcv_base.specs.declared.operation.Op.{Op}
use Rattle.mcv_base.specs.declared.reply.Part.{Part}
use Rattle.mcv_base.specs.declared.request.Request.{Request}
use Rattle.mcv_core.specs.CoreView.{CoreView}
use Rattle.mcv_hub.specs.declared.seat.TakenReply.{TakenReply}
use Rattle.mcv_hubs.specs.Choice.{IsHubOf, hub_number}
use Rattle.mcv_session.specs.Desk.{answer_value, keys_of}
use Rattle.mcv_session.specs.declared.desk.DeskFault.{DeskFault}
use Rattle.mcv_session.specs.declared.desk.DeskFault.TheVariants.{Memory}
use Rattle.mcv_text.specs.Request.{RequestValue, asking, version, quit, request_value}
use Rattle.mcv_turn.specs.Answers.{IsAnswer, IsFor, WasTaken, word_at}
use Rattle.mcv_turn.proofs.Routed.{NoRestReadsEmpty, OneReading}
use Rattle.mcv_desks.specs.Desks.{AreOfHubs, AsksHubs, IsForOf, WasTakenOf}
use Rattle.mcv_desks.specs.Mixed.{IsFilled, IsKeyAlone, IsKeyAnswer, IsMixed, IsReplyTo, MixedRequest}
use Rattle.mcv_desks.specs.OneKey.{only_key}
use Rattle.mcv_desks.proofs.KeysOfHubs.{all_by_index, at_index, hub_of_reply}

-- ---- one key

at_most_one : {X : Type 0} (o : Option X) → length (option_to_list o) ≤ 1
at_most_one None = omega arith
at_most_one (Some x) = omega arith

few_keys : (request : RequestValue) (key : ℕ) → length (keys_of (only_key request key)) ≤ 1
few_keys (asking ask) key = at_most_one (slice_get ask.keys key)
few_keys version key = omega arith
few_keys quit key = omega arith

first_of : {X : Type 0} (o : Option X) → slice_get (option_to_list o) 0 ≡ o
first_of None = refl
first_of (Some x) = refl

only_word : (request : RequestValue) (key : ℕ) → word_at (only_key request key) 0 ≡ word_at request key
only_word (asking ask) key = ap (option_map {U = Op × List ℕ} (λ word. (ask.op, word))) (first_of (slice_get ask.keys key))
only_word version key = refl
only_word quit key = refl

last_of_one : {X Y : Type 0} (f : X → Y) (left : List X) (p : X) (y : Y) → map f (left ++ p ∷ []) ≡ y ∷ [] → f p ≡ y
last_of_one f [] p y e = cc
last_of_one f (x ∷ []) p y e = cc
last_of_one f (x ∷ z ∷ left) p y e = cc

nothing_is_there : {X Y : Type 0} (f : X → Y) (left : List X) (p : X) → map f (left ++ p ∷ []) ≡ [] → ⊥
nothing_is_there f [] p e = cc
nothing_is_there f (x ∷ left) p e = cc

module _ (one : OneReading) (empty : NoRestReadsEmpty) (opened_of : ℕ → CoreView) (hubs : ℕ) (asked : Request) (key hub : ℕ) (of_key : IsHubOf hubs asked key hub) where
  its_reply : (t : TakenReply) → IsFor (opened_of hub).routes (only_key (request_value asked) key) 0 t → WasTaken (opened_of hub) t → (part : Part) → part_value part ≡ part_value t.reply → IsReplyTo opened_of hubs (request_value asked) key (part_value part)
  its_reply t f was part same =
      let r = (opened_of hub).routes in
      let its : IsFor r (request_value asked) key t = record { word = f.word; there = sym (only_word (request_value asked) key) ∙ f.there; routed = f.routed } in
      let of : hub_number hubs t.asked.rest ≡ hub = hub_of_reply one empty hubs asked key hub r t its of_key in
      record {
        taken = t;
        was = subst (λ (k : ℕ). WasTaken (opened_of k) t) (sym of) was;
        its = subst (λ (k : ℕ). IsFor (opened_of k).routes (request_value asked) key t) (sym of) its;
        is = same;
      }

  by_taken : (left : List Part) (part : Part) (taken : List TakenReply) → length taken ≤ 1 → map part_value (left ++ part ∷ []) ≡ map (λ t. part_value t.reply) taken → All (WasTaken (opened_of hub)) taken → ((k : ℕ) (t : TakenReply) → slice_get taken k ≡ Some t → IsFor (opened_of hub).routes (only_key (request_value asked) key) k t)
      → IsReplyTo opened_of hubs (request_value asked) key (part_value part)
  by_taken left part [] few same each for_keys = absurd (nothing_is_there part_value left part same)
  by_taken left part (t ∷ []) few same each for_keys = its_reply t (for_keys 0 t refl) (at_index (WasTaken (opened_of hub)) (t ∷ []) 0 t refl each) part (last_of_one part_value left part (part_value t.reply) same)
  by_taken left part (t ∷ u ∷ ts) few same each for_keys = absurd (omega (arith, few))

  -- the last one of its replies, of which there is one, is for the key
  pub reply_to_key : (left : List Part) (part : Part) → IsAnswer (opened_of hub) (only_key (request_value asked) key) (Ok (map part_value (left ++ part ∷ []))) → IsReplyTo opened_of hubs (request_value asked) key (part_value part)
  reply_to_key left part h =
      let by = h.answered.0 in
      let few : length h.taken ≤ 1 = omega (arith, by.one_each, few_keys (request_value asked) key) in
      by_taken left part h.taken few by.replies_are h.each by.for_keys

-- ---- the places for the replies

some_counts : {X : Type 0} (x : X) (places : List (Option X)) → count_by is_some (Some x ∷ places) ≡ 1 + count_by is_some places
some_counts {X = X} x places = sum_by-cons (λ (o : Option X). cond (is_some o) 1 0) (Some x) places

none_counts : {X : Type 0} (places : List (Option X)) → count_by is_some (None ∷ places) ≡ 0 + count_by is_some places
none_counts {X = X} places = sum_by-cons (λ (o : Option X). cond (is_some o) 1 0) None places

filled_first : {X : Type 0} (x : X) (places : List (Option X)) → count_by is_some (Some x ∷ places) ≡ count_by is_some (None ∷ places) + 1
filled_first x places = omega (arith, some_counts x places, none_counts places)

filled_behind_none : {X : Type 0} (old new : List (Option X)) → count_by is_some new ≡ count_by is_some old + 1 → count_by is_some (None ∷ new) ≡ count_by is_some (None ∷ old) + 1
filled_behind_none old new h = omega (arith, h, none_counts old, none_counts new)

filled_behind_some : {X : Type 0} (y : X) (old new : List (Option X)) → count_by is_some new ≡ count_by is_some old + 1 → count_by is_some (Some y ∷ new) ≡ count_by is_some (Some y ∷ old) + 1
filled_behind_some y old new h = omega (arith, h, some_counts y old, some_counts y new)

-- one more place is filled
pub one_more_there : {X : Type 0} (places : List (Option X)) (key : ℕ) (old : Option X) (x : X) → slice_get places key ≡ Some old → is_none old ≡ true → count_by is_some (slice_set places key (Some x)) ≡ count_by is_some places + 1
one_more_there [] key old x there vacant = cc
one_more_there (None ∷ places) zero old x there vacant = filled_first x places
one_more_there (Some y ∷ places) zero None x there vacant = cc
one_more_there (Some y ∷ places) zero (Some z) x there vacant = cc
one_more_there (None ∷ places) (suc key) old x there vacant = filled_behind_none places (slice_set places key (Some x)) (one_more_there places key old x there vacant)
one_more_there (Some y ∷ places) (suc key) old x there vacant = filled_behind_some y places (slice_set places key (Some x)) (one_more_there places key old x there vacant)

-- what stands in a place
pub in_place : {X : Type 0} (P : ℕ → X → Type 0) (places : List (Option X)) (key : ℕ) (x : X) → ((k : ℕ) (y : X) → slice_get places k ≡ Some (Some y) → P k y) → P key x → (k : ℕ) (y : X) → slice_get (slice_set places key (Some x)) k ≡ Some (Some y) → P k y
in_place P [] key x all here k y e = cc
in_place P (p ∷ places) zero x all here zero y e = let same : x ≡ y = cc in subst (P zero) same here
in_place P (p ∷ places) zero x all here (suc k) y e = all (suc k) y e
in_place P (p ∷ places) (suc key) x all here zero y e = all zero y e
in_place P (p ∷ places) (suc key) x all here (suc k) y e = in_place (λ n z. P (suc n) z) places key x (λ n z there. all (suc n) z there) here k y e

-- as many are there as there are places: each is
pub all_there : {X : Type 0} (places : List (Option X)) → length places ≤ count_by is_some places → (xs : List X) × (places ≡ map Some xs)
all_there [] h = ([], refl)
all_there (None ∷ places) h = let most = count_by-le-length is_some places in absurd (omega (arith, most, h, none_counts places))
all_there (Some x ∷ places) h =
    let few : length places ≤ count_by is_some places = omega (arith, h, some_counts x places) in
    let rest = all_there places few in
    (x ∷ rest.0, ap (λ ps. Some x ∷ ps) rest.1)

pub placed : {X : Type 0} (xs : List X) (k : ℕ) (x : X) → slice_get xs k ≡ Some x → slice_get (map Some xs) k ≡ Some (Some x)
placed [] k x e = cc
placed (y ∷ xs) zero x e = ap Some e
placed (y ∷ xs) (suc k) x e = placed xs k x e

-- each of the places of replies that are there has one
pub one_is_there : {X : Type 0} (xs : List X) (before behind : List (Option X)) (o : Option X) → before ++ o ∷ behind ≡ map Some xs → IsSome o
one_is_there [] [] behind o e = cc
one_is_there [] (p ∷ before) behind o e = cc
one_is_there (x ∷ xs) [] behind o e = let same : Some x ≡ o = cc in subst IsSome same refl
one_is_there (x ∷ xs) (p ∷ before) behind o e = let tail : before ++ o ∷ behind ≡ map Some xs = cc in one_is_there xs before behind o tail

-- what a place has
pub item_there : {X : Type 0} (xs : List X) (i : ℕ) (x : Bor X) → IsItemAt xs i (Some x) → slice_get xs i ≡ Some x.now
item_there xs i x h = slice_get-get_or xs i x.now h.3.0 ∙ ap Some (sym h.1)

pub none_of : {X : Type 0} (o : Option X) (b : Bool) → is_some o ≡ not b → b ≡ true → o ≡ None
none_of None b e t = refl
none_of (Some x) true e t = cc
none_of (Some x) false e t = cc

-- ---- all replies

record One (P : TakenReply → Type 0) (r : ReplyValue) : Type 0 where
  taken : TakenReply
  has : P taken
  is : r ≡ part_value taken.reply

record Chosen (P : ℕ → TakenReply → Type 0) (parts : List Part) : Type 0 where
  taken : List TakenReply
  count : length taken ≡ length parts
  each : (k : ℕ) (t : TakenReply) → slice_get taken k ≡ Some t → P k t
  replies : map part_value parts ≡ map (λ t. part_value t.reply) taken

first_and_rest : (P : ℕ → TakenReply → Type 0) (t : TakenReply) (ts : List TakenReply) → P 0 t → ((k : ℕ) (u : TakenReply) → slice_get ts k ≡ Some u → P (suc k) u) → (k : ℕ) (u : TakenReply) → slice_get (t ∷ ts) k ≡ Some u → P k u
first_and_rest P t ts here rest zero u e = let same : t ≡ u = cc in subst (P 0) same here
first_and_rest P t ts here rest (suc k) u e = rest k u e

no_taken : (P : ℕ → TakenReply → Type 0) (k : ℕ) (t : TakenReply) → slice_get [] k ≡ Some t → P k t
no_taken P k t e = cc

-- a reply was taken for each
choose : (P : ℕ → TakenReply → Type 0) (parts : List Part) → ((k : ℕ) (p : Part) → slice_get parts k ≡ Some p → One (P k) (part_value p)) → Chosen P parts
choose P [] each = record { taken = []; count = refl; each = no_taken P; replies = refl }
choose P (p ∷ parts) each =
    let first = each 0 p refl in
    let rest = choose (λ k t. P (suc k) t) parts (λ k q e. each (suc k) q e) in
    record {
      taken = first.taken ∷ rest.taken;
      count = omega (arith, rest.count);
      each = first_and_rest P first.taken rest.taken first.has rest.each;
      replies = ap (λ r. r ∷ map part_value parts) first.is ∙ ap (λ rs. part_value first.taken.reply ∷ rs) rest.replies;
    }

-- a reply to each key answers the request
pub all_replied : (opened_of : ℕ → CoreView) (hubs : ℕ) (request : RequestValue) (parts : List Part) → length parts ≡ length (keys_of request) → ((k : ℕ) (p : Part) → slice_get parts k ≡ Some p → IsReplyTo opened_of hubs request k (part_value p)) → AreOfHubs opened_of hubs request (map part_value parts)
all_replied opened_of hubs request parts count each =
    let P : ℕ → TakenReply → Type 0 = λ k t. WasTakenOf opened_of hubs t × IsForOf opened_of hubs request k t in
    let all : Chosen P parts = choose P parts (λ k p e. let r = each k p e in record { taken = r.taken; has = (r.was, r.its); is = r.is }) in
    record {
      taken = all.taken;
      are = record { each = all_by_index (WasTakenOf opened_of hubs) all.taken (λ k t e. (all.each k t e).0); for_keys = λ k t e. (all.each k t e).1 };
      one_each = all.count ∙ count;
      replies_are = all.replies;
    }

-- ---- what is kept of a request, and what it is answered

no_some : {A Z : Type 0} {x : A} → None ≡ Some x → Z
no_some e = cc

some_none : {A Z : Type 0} {x : A} → Some x ≡ None → Z
some_none e = cc

-- the first of two reasons
pub either_holds : {A : Type 0} (P : A → Type 0) (o : Option A) (x : A) → IfSome o P → P x → P (unwrap_or o x)
either_holds P None x h k = k
either_holds P (Some y) x h k = h

pub holds_of : {A : Type 0} (P : A → Type 0) (o : Option A) (x : A) → o ≡ Some x → IfSome o P → P x
holds_of {A = A} P o x e h = subst (λ (p : Option A). IfSome p P) e h

-- a refusal of its key is one of the request
pub key_refused : (opened_of : ℕ → CoreView) (q : MixedRequest) (key : ℕ) (fault : DeskFault) → IsKeyAnswer opened_of q key (Err fault) → AsksHubs opened_of q.hubs (request_value q.asked) (Err fault)
key_refused opened_of q key fault h = inr (inr (record { asked = q.asked; its = refl; key = key; hub = h.hub; of_key = h.of_key; answer = h.is }))

pub nothing_replied : (opened_of : ℕ → CoreView) (hubs : ℕ) (request : RequestValue) (replies : List (Option Part)) → ((key : ℕ) (reply : Option Part) → slice_get replies key ≡ Some reply → reply ≡ None) → (key : ℕ) (part : Part) → slice_get replies key ≡ Some (Some part) → IsReplyTo opened_of hubs request key (part_value part)
nothing_replied opened_of hubs request replies none key part there = some_none (none key (Some part) there)

module _ (opened_of : ℕ → CoreView) (q : MixedRequest) (of_keys : List (Arc Request Global)) (replies : List (Option Part)) (parts : Vec Part Global) (answered : ℕ) (fault : Option DeskFault) (is : IsMixed opened_of q of_keys replies parts answered fault) where
  -- one more key is answered
  pub one_more_reply : (later key : ℕ) (part : Part) (new : List (Option Part)) → later ≤ answered + 1 → IsFilled replies key part new → IsReplyTo opened_of q.hubs (request_value q.asked) key (part_value part) → IsMixed opened_of q of_keys new parts later fault
  one_more_reply later key part new most filled its =
      let P : ℕ → Part → Type 0 = λ k p. IsReplyTo opened_of q.hubs (request_value q.asked) k (part_value p) in
      let placed_too : (k : ℕ) (p : Part) → slice_get (slice_set replies key (Some part)) k ≡ Some (Some p) → P k p = in_place P replies key part is.replied its in
      let more : count_by is_some (slice_set replies key (Some part)) ≡ count_by is_some replies + 1 = one_more_there replies key None part filled.was refl in
      let same : length (slice_set replies key (Some part)) ≡ length replies = length-set replies key (Some part) in
      let Q : List (Option Part) → Type 0 = λ rs. IsMixed opened_of q of_keys rs parts later fault in
      subst Q (sym filled.is) (record {
        keys = is.keys;
        one_each = same ∙ is.one_each;
        replied = placed_too;
        counted = λ none. let before = is.counted none in omega (arith, before, more, most);
        why = is.why;
        room = is.room;
        no_parts = is.no_parts;
      })

  -- one has no reply
  pub one_refused : (later : ℕ) (reason : DeskFault) → AsksHubs opened_of q.hubs (request_value q.asked) (Err reason) → IsMixed opened_of q of_keys replies parts later (Some (unwrap_or fault reason))
  one_refused later reason why = record {
    keys = is.keys;
    one_each = is.one_each;
    replied = is.replied;
    counted = λ none. some_none none;
    why = either_holds (λ f. AsksHubs opened_of q.hubs (request_value q.asked) (Err f)) fault reason is.why why;
    room = is.room;
    no_parts = is.no_parts;
  }

  -- there is no memory for the next one
  pub memory_ran_out : IsMixed opened_of q of_keys replies parts answered (Some Memory)
  memory_ran_out = record {
    keys = is.keys;
    one_each = is.one_each;
    replied = is.replied;
    counted = λ none. some_none none;
    why = inl refl;
    room = is.room;
    no_parts = is.no_parts;
  }

  pub its_key : (key : ℕ) (alone : Arc Request Global) → slice_get of_keys key ≡ Some alone → IsKeyAlone q key (request_value (arc_value alone))
  its_key key alone there = record {
    within = let lower = slice_get_within of_keys key alone there in omega (arith, lower, is.keys.one_each);
    is = is.keys.each key alone there;
  }

  -- once it is done, each key has a reply, unless one has none
  pub each_replied : (fault ≡ None → length (keys_of (request_value q.asked)) ≤ answered) → fault ≡ None → (ps : List Part) × (replies ≡ map Some ps)
  each_replied done none =
      let all = done none in
      let so_many = is.counted none in
      all_there replies (omega (arith, all, so_many, is.one_each, is.keys.one_each))

  its_replies : (found : List Part) → map Some found ≡ replies → AreOfHubs opened_of q.hubs (request_value q.asked) (map part_value found)
  its_replies found same =
      let count : length found ≡ length (map {B = Option Part} Some found) = sym (length-map found Some) in
      let many : length (map {B = Option Part} Some found) ≡ length replies = ap length same in
      all_replied opened_of q.hubs (request_value q.asked) found (omega (arith, count, many, is.one_each, is.keys.one_each))
      (λ k p there. is.replied k p (subst (λ (rs : List (Option Part)). slice_get rs k ≡ Some (Some p)) same (placed found k p there)))

  pub mixed_answer : (r : Result (Vec Part Global) DeskFault) → IfOk r (λ v. (fault ≡ None) × (map Some v.items ≡ replies)) → IfErr r (λ f. fault ≡ Some f) → AsksHubs opened_of q.hubs (request_value q.asked) (answer_value r)
  mixed_answer (Ok v) ok err = its_replies v.items ok.1
  mixed_answer (Err f) ok err = holds_of (λ g. AsksHubs opened_of q.hubs (request_value q.asked) (Err g)) fault f err is.why
