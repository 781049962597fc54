-- What becomes of the table of the clients where one of them changes, or the desks do.
use Rattle.slab.specs.Slab.{Slab, Updates, get, with_value}
use Rattle.slab.proofs.SlabLemmas.{Updates-with_value}
use Rattle.std.proofs.Common.{◌≡◌, ◌≢◌, ◌∙◌, ◌⊎◌, ◌<◌, ◌≤◌, ◌+◌, ◌++◌, ◌∷◌, inl, inr, ℕ, zero, suc, List, [], Option, None, Some, Result, Err, ap, arith, drop, length, refl, rules, subst, sym, take}
use Rattle.std.proofs.lemmas.Bool.{cases_eq}
use Rattle.std.specs.Arc.{arc_value}
use Rattle.std.specs.Prelude.{IfSome, IsSome}
use Rattle.std.specs.declared.alloc.Global.{Global}
use Rattle.std.specs.declared.sync.Arc.{Arc}
use Rattle.mcv_base.specs.declared.request.Request.{Request}
use Rattle.mcv_base.specs.Reply.{ReplyValue}
use Rattle.mcv_core.specs.CoreView.{CoreView}
use Rattle.mcv_desks.specs.Desks.{AsksHubs}
use Rattle.mcv_desks.specs.Open.{AreSameRequests, DesksView, IsOneLess, IsOneMore, IsOpen, NoneOpens}
use Rattle.mcv_session.specs.declared.desk.DeskFault.{DeskFault}
use Rattle.mcv_session.specs.declared.desk.DeskFault.TheVariants.{Memory}
use Rattle.mcv_text.specs.Request.{RequestValue, request_value}
use Rattle.mcv_clients.specs.Clients.{AreClients, AreLeft, AreOf, AreSame, AreStill, AskersStay, ChangesAt, HasAsked, IfChanged, IsOneOf, WantsAnswer}
use Rattle.mcv_clients.specs.Life.{ClientView, IsToldOf, Wire, came_client}
use Rattle.mcv_clients.specs.Steps.{Asked, Goes, Told, ToldIf}

-- ---- options

same_of : {X : Type 0} (x y : X) → Some x ≡ Some y → x ≡ y
same_of x y e = cc

none_is_some : {X : Type 0} (x : X) (o : Option X) → o ≡ None → o ≡ Some x → ⊥
none_is_some x o none some = cc

-- ---- one that changes

is_there : (s : Slab ClientView) (number : ℕ) (c : ClientView) → get s number ≡ Some c → IsSome (get s number)
is_there s number c there = subst IsSome (sym there) refl

pub same_at : (s : Slab ClientView) (number : ℕ) (was later : ClientView) → get s number ≡ Some was → later ≡ was → AreSame s (with_value s number later)
same_at s number was later there same =
    let u = Updates-with_value s number later (is_there s number was there) in
    λ other. elim (cases_eq other number) [
      | inl is ↦ ap (get (with_value s number later)) is ∙ u.changed ∙ ap Some same ∙ sym there ∙ sym (ap (get s) is)
      | inr apart ↦ u.others other apart
    ]

pub changed_at : (P : ClientView → ClientView → Type 0) (s : Slab ClientView) (number : ℕ) (was later : ClientView) → get s number ≡ Some was → P was later → ChangesAt P number s (with_value s number later)
changed_at P s number was later there p =
    let u = Updates-with_value s number later (is_there s number was there) in
    record {
      here = subst (λ (o : Option ClientView). IfChanged P o (get (with_value s number later) number)) (sym there) (subst (λ (o : Option ClientView). IfChanged P (Some was) o) (sym u.changed) p);
      others = u.others;
    }

pub none_at : (P : ClientView → ClientView → Type 0) (s : Slab ClientView) (number : ℕ) → get s number ≡ None → ChangesAt P number s s
none_at P s number none = record {
  here = subst (λ (o : Option ClientView). IfChanged P o (get s number)) (sym none) none;
  others = λ other apart. refl;
}

-- what it was
pub changed_one : (P : ClientView → ClientView → Type 0) (o n : Option ClientView) (d : ClientView) → IfChanged P o n → n ≡ Some d → (c : ClientView) × (o ≡ Some c) × P c d
changed_one P None n d changed there = absurd (none_is_some d n changed there)
changed_one P (Some c) None d changed there = absurd changed
changed_one P (Some c) (Some x) d changed there = (c, refl, subst (P c) (same_of x d there) changed)

pub has_asked : (s : Slab ClientView) (number : ℕ) (was later : ClientView) (request : RequestValue) → get s number ≡ Some was → later.out ≡ None → later.session.request ≡ Some request → HasAsked (with_value s number later) number request
has_asked s number was later request there free asked =
    record { its = later; there = (Updates-with_value s number later (is_there s number was there)).changed; free = free; asked = asked }

pub asks_at : (s : Slab ClientView) (number : ℕ) (was later : ClientView) → get s number ≡ Some was → (o : Option (Arc Request Global)) → IfSome o (λ r. later.out ≡ None) → IfSome o (λ r. later.session.request ≡ Some (request_value (arc_value r)))
    → IfSome o (λ r. HasAsked (with_value s number later) number (request_value (arc_value r)))
asks_at s number was later there None free asked = tt
asks_at s number was later there (Some r) free asked = has_asked s number was later (request_value (arc_value r)) there free asked

pub refused_for : (opened_of : ℕ → CoreView) (c : ClientView) → (request : RequestValue) × (c.session.request ≡ Some request) → IsToldOf opened_of c (Err Memory)
refused_for opened_of c its = record { request = its.0; asked = its.1; answers = inl refl }

-- ---- who is still there

pub still_same : (s : Slab ClientView) → AreStill s s
still_same s = λ number c there. (c, there, refl)

pub still_on : (a b c : Slab ClientView) → AreStill a b → AreStill b c → AreStill a c
still_on a b c first second = λ number d there.
    let later = second number d there in
    let before = first number later.0 later.1 in
    (before.0, before.1, later.2 ∙ before.2)

pub still_left : (old new : Slab ClientView) → AreLeft old new → AreStill old new
still_left old new left = λ number c there.
    elim (left number) [
      | inl same ↦ (c, sym same ∙ there, refl)
      | inr none ↦ absurd (none_is_some c (get new number) none there)
    ]

pub still_changed : (P : ClientView → ClientView → Type 0) (number : ℕ) (old new : Slab ClientView) → ((c d : ClientView) → P c d → d.came ≡ c.came) → ChangesAt P number old new → AreStill old new
still_changed P number old new came changes = λ other d there.
    elim (cases_eq other number) [
      | inl is ↦
          let b = changed_one P (get old number) (get new number) d changes.here (sym (ap (get new) is) ∙ there) in
          (b.0, ap (get old) is ∙ b.1, came b.0 d b.2)
      | inr apart ↦ (d, sym (changes.others other apart) ∙ there, refl)
    ]

pub left_same : (old new : Slab ClientView) → AreSame old new → AreLeft old new
left_same old new same = λ number. inl (same number)

pub same_slots : (old new : Slab ClientView) → new.slots ≡ old.slots → AreSame old new
same_slots old new same = λ number. ap (λ (slots : List (Option ClientView)). get (record old { slots = slots }) number) same

pub left_on : (a b c : Slab ClientView) → AreLeft a b → AreLeft b c → AreLeft a c
left_on a b c first second = λ number.
    elim (second number) [
      | inl same ↦ elim (first number) [ inl was ↦ inl (same ∙ was) | inr none ↦ inr (same ∙ none) ]
      | inr none ↦ inr none
    ]

pub left_gone : (old new : Slab ClientView) (number : ℕ) → get new number ≡ None → ((other : ℕ) → other ≢ number → get new other ≡ get old other) → AreLeft old new
left_gone old new number none others = λ other.
    elim (cases_eq other number) [
      | inl is ↦ inr (ap (get new) is ∙ none)
      | inr apart ↦ inl (others other apart)
    ]

-- ---- those of the desks

pub each_left : (d : DesksView) (next : ℕ) (old new : Slab ClientView) → AreLeft old new → AreOf d next old → AreOf d next new
each_left d next old new left each = λ number c there.
    elim (left number) [
      | inl same ↦ each number c (sym same ∙ there)
      | inr none ↦ absurd (none_is_some c (get new number) none there)
    ]

pub each_changed : (d : DesksView) (next : ℕ) (P : ClientView → ClientView → Type 0) (number : ℕ) (old new : Slab ClientView) → ((c e : ClientView) → P c e → IsOneOf d next c → IsOneOf d next e) → ChangesAt P number old new → AreOf d next old → AreOf d next new
each_changed d next P number old new goes changes each = λ other e there.
    elim (cases_eq other number) [
      | inl is ↦
          let b = changed_one P (get old number) (get new number) e changes.here (sym (ap (get new) is) ∙ there) in
          goes b.0 e b.2 (each number b.0 b.1)
      | inr apart ↦ each other e (sym (changes.others other apart) ∙ there)
    ]

pub one_goes : (d : DesksView) (next : ℕ) (c e : ClientView) → Goes c e → IsOneOf d next c → IsOneOf d next e
one_goes d next c e goes is = record {
  hubs = goes.hubs ∙ is.hubs;
  below = λ number out. is.below number (sym goes.out ∙ out);
  its = λ number request out its_open. goes.request number (sym goes.out ∙ out) ∙ is.its number request (sym goes.out ∙ out) its_open;
}

pub one_told : (d : DesksView) (next : ℕ) (answer : Result (List ReplyValue) DeskFault) (c e : ClientView) → Told answer c e → IsOneOf d next c → IsOneOf d next e
one_told d next answer c e told is = record {
  hubs = told.hubs ∙ is.hubs;
  below = λ number out. absurd (none_is_some number e.out told.out out);
  its = λ number request out its_open. absurd (none_is_some number e.out told.out out);
}

pub one_told_if : (d : DesksView) (next serial : ℕ) (answer : Result (List ReplyValue) DeskFault) (c e : ClientView) → ToldIf serial answer c e → IsOneOf d next c → IsOneOf d next e
one_told_if d next serial answer c e told is =
    elim told [
      | inl same ↦ subst (IsOneOf d next) (sym same) is
      | inr both ↦ one_told d next answer c e both.1 is
    ]

-- no request opens
pub one_fewer : (d e : DesksView) (next later : ℕ) (c : ClientView) → e.hubs ≡ d.hubs → NoneOpens d e → next ≤ later → IsOneOf d next c → IsOneOf e later c
one_fewer d e next later c hubs none most is = record {
  hubs = is.hubs ∙ sym hubs;
  below = λ number out. let lt = is.below number out in omega (arith, lt, most);
  its = λ number request out its_open. is.its number request out (none number request its_open);
}

pub each_fewer : (d e : DesksView) (next later : ℕ) (s : Slab ClientView) → e.hubs ≡ d.hubs → NoneOpens d e → next ≤ later → AreOf d next s → AreOf e later s
each_fewer d e next later s hubs none most each = λ number c there. one_fewer d e next later c hubs none most (each number c there)

-- another one's request opens
one_more : (d e : DesksView) (next later : ℕ) (request : RequestValue) (c : ClientView) → IsOneMore d e next request → later ≡ next + 1 → IsOneOf d next c → IsOneOf e later c
one_more d e next later request c more is_later is = record {
  hubs = is.hubs ∙ sym more.hubs;
  below = λ number out. let lt = is.below number out in omega (arith, lt, is_later);
  its = λ number other out its_open.
      elim (more.others number other its_open) [
        | inl was ↦ is.its number other out was
        | inr same ↦ let lt = is.below number out in let at = same.0 in absurd (omega (arith, lt, at))
      ];
}

-- its own request opens
one_asked : (d e : DesksView) (next later : ℕ) (request : RequestValue) (c : ClientView) → IsOneMore d e next request → later ≡ next + 1 → ((other : RequestValue) → IsOpen d next other → ⊥) → c.session.request ≡ Some request → IsOneOf d next c → IsOneOf e later (record c { out = Some next })
one_asked d e next later request c more is_later fresh asked is = record {
  hubs = is.hubs ∙ sym more.hubs;
  below = λ number out. let at = same_of next number out in omega (arith, at, is_later);
  its = λ number other out its_open.
      let at = same_of next number out in
      elim (more.others number other its_open) [
        | inl was ↦ absurd (fresh other (subst (λ (n : ℕ). IsOpen d n other) (sym at) was))
        | inr same ↦ asked ∙ ap Some (sym same.1)
      ];
}

-- ---- the clients of a loop

pub clients_left : (d : DesksView) (next hubs : ℕ) (old new : Slab ClientView) (room : List ℕ) → AreLeft old new → AreClients d next hubs old room → AreClients d next hubs new room
clients_left d next hubs old new room left are = record { among = are.among; each = each_left d next old new left are.each; has_room = are.has_room }

pub clients_go : (d : DesksView) (next hubs number : ℕ) (old new : Slab ClientView) (room : List ℕ) → ChangesAt Goes number old new → AreClients d next hubs old room → AreClients d next hubs new room
clients_go d next hubs number old new room goes are = record { among = are.among; each = each_changed d next Goes number old new (one_goes d next) goes are.each; has_room = are.has_room }

-- a request of one is out
pub clients_asked : (d e : DesksView) (next later hubs number serial : ℕ) (request : RequestValue) (old mid new : Slab ClientView) (room : List ℕ) → ChangesAt Goes number old mid → HasAsked mid number request → serial ≡ next → later ≡ serial + 1
    → ((other : RequestValue) → IsOpen d serial other → ⊥) → IsOneMore d e serial request → ChangesAt (Asked serial) number mid new → AreClients d next hubs old room → AreClients e later hubs new room
clients_asked d e next later hubs number serial request old mid new room goes has is_next is_later fresh more asked are =
    let each = subst (λ (n : ℕ). AreOf d n mid) (sym is_next) (each_changed d next Goes number old mid (one_goes d next) goes are.each) in
    record {
      among = are.among ∙ sym more.hubs;
      each = λ other c there.
          elim (cases_eq other number) [
            | inl is ↦
                let b = changed_one (Asked serial) (get mid number) (get new number) c asked.here (sym (ap (get new) is) ∙ there) in
                let its = same_of has.its b.0 (sym has.there ∙ b.1) in
                subst (IsOneOf e later) (sym b.2) (one_asked d e serial later request b.0 more is_later fresh (sym (ap (λ (v : ClientView). v.session.request) its) ∙ has.asked) (each number b.0 b.1))
            | inr apart ↦ one_more d e serial later request c more is_later (each other c (sym (asked.others other apart) ∙ there))
          ];
      has_room = are.has_room;
    }

-- a request of one is refused
pub clients_refused : (d e : DesksView) (next later hubs number : ℕ) (answer : Result (List ReplyValue) DeskFault) (old mid new : Slab ClientView) (room : List ℕ) → ChangesAt Goes number old mid → next ≤ later → AreSameRequests d e
    → ChangesAt (Told answer) number mid new → AreClients d next hubs old room → AreClients e later hubs new room
clients_refused d e next later hubs number answer old mid new room goes most same told are =
    let each = each_changed d next Goes number old mid (one_goes d next) goes are.each in
    record {
      among = are.among ∙ sym same.hubs;
      each = each_changed e later (Told answer) number mid new (one_told e later answer) told (each_fewer d e next later mid same.hubs same.none_opens most each);
      has_room = are.has_room;
    }

pub wants : (s : Slab ClientView) (number : ℕ) (request : RequestValue) → HasAsked s number request → WantsAnswer s number
wants s number request has = λ c there. (request, sym (ap (λ (v : ClientView). v.session.request) (same_of has.its c (sym has.there ∙ there))) ∙ has.asked)

-- no request is answered
pub clients_wait : (d e : DesksView) (next later hubs : ℕ) (s : Slab ClientView) (room : List ℕ) → AreSameRequests d e → next ≤ later → AreClients d next hubs s room → AreClients e later hubs s room
clients_wait d e next later hubs s room same most are = record { among = are.among ∙ sym same.hubs; each = each_fewer d e next later s same.hubs same.none_opens most are.each; has_room = are.has_room }

-- one that has gone is
pub clients_without : (d e : DesksView) (next hubs serial : ℕ) (request : RequestValue) (s : Slab ClientView) (room : List ℕ) → IsOneLess d e serial request → AreClients d next hubs s room → AreClients e next hubs s room
clients_without d e next hubs serial request s room less are = record { among = are.among ∙ sym less.hubs; each = each_fewer d e next next s less.hubs less.none_opens (omega arith) are.each; has_room = are.has_room }

-- the request of one is answered
pub clients_told : (d e : DesksView) (next hubs number serial : ℕ) (request : RequestValue) (answer : Result (List ReplyValue) DeskFault) (old new : Slab ClientView) (room : List ℕ) → IsOneLess d e serial request → ChangesAt (ToldIf serial answer) number old new
    → AreClients d next hubs old room → AreClients e next hubs new room
clients_told d e next hubs number serial request answer old new room less told are =
    let w = clients_without d e next hubs serial request old room less are in
    record { among = w.among; each = each_changed e next (ToldIf serial answer) number old new (one_told_if e next serial answer) told w.each; has_room = w.has_room }

-- the answer is to its own request
pub its_answer : (opened_of : ℕ → CoreView) (d e : DesksView) (next hubs number serial : ℕ) (request : RequestValue) (answer : Result (List ReplyValue) DeskFault) (s : Slab ClientView) (room : List ℕ) → IsOneLess d e serial request → AsksHubs opened_of d.hubs request answer → AreClients d next hubs s room
    → (c : ClientView) → get s number ≡ Some c → c.out ≡ Some serial → IsToldOf opened_of c answer
its_answer opened_of d e next hubs number serial request answer s room less asks are c there out =
    let is = are.each number c there in
    record { request = request; asked = is.its serial request out less.was; answers = subst (λ (h : ℕ). AsksHubs opened_of h request answer) (sym is.hubs) asks }

-- one has come
pub clients_more : (d : DesksView) (next hubs number : ℕ) (w : Wire) (old new : Slab ClientView) (room : List ℕ) → Updates old new number (Some (came_client w hubs)) → AreClients d next hubs old room → AreClients d next hubs new room
clients_more d next hubs number w old new room updates are = record {
  among = are.among;
  each = λ other c there.
      elim (cases_eq other number) [
        | inl is ↦ subst (IsOneOf d next) (same_of (came_client w hubs) c (sym updates.changed ∙ sym (ap (get new) is) ∙ there)) (record {
          hubs = are.among;
          below = λ n out. absurd (none_is_some n None refl out);
          its = λ n request out its_open. absurd (none_is_some n None refl out);
        })
        | inr apart ↦ are.each other c (sym (updates.others other apart) ∙ there)
      ];
  has_room = are.has_room;
}

no_slot : (s : Slab ClientView) → s.slots ≡ [] → (number : ℕ) → get s number ≡ None
no_slot s none number = ap (λ (slots : List (Option ClientView)). get (record s { slots = slots }) number) none

-- none is there
pub no_clients : (d : DesksView) (next hubs : ℕ) (s : Slab ClientView) (room : List ℕ) → hubs ≡ d.hubs → s.slots ≡ [] → 0 < length room → AreClients d next hubs s room
no_clients d next hubs s room among none some = record { among = among; each = λ number c there. absurd (none_is_some c (get s number) (no_slot s none number) there); has_room = some }

-- ---- the room of a read

pub some_room : (n : ℕ) (new old : List ℕ) → 0 < n → 0 < length new → 0 < length (take n (new ++ drop (length new) old))
some_room zero new old some read = absurd (omega (arith, some))
some_room (suc n) [] old some read = absurd (omega (arith, read))
some_room (suc n) (x ∷ new) old some read = search rules

-- ---- those whose requests are out

pub askers_same : (old new : Slab ClientView) → AreSame old new → AskersStay old new
askers_same old new same = λ number c serial there out. same number ∙ there

pub askers_on : (a b c : Slab ClientView) → AskersStay a b → AskersStay b c → AskersStay a c
askers_on a b c first second = λ number d serial there out. second number d serial (first number d serial there out) out

pub askers_but : (old new : Slab ClientView) (number : ℕ) → ((c : ClientView) → get old number ≡ Some c → c.out ≡ None) → ((other : ℕ) → other ≢ number → get new other ≡ get old other) → AskersStay old new
askers_but old new number free others = λ other c serial there out.
    elim (cases_eq other number) [
      | inl is ↦ absurd (none_is_some serial c.out (free c (sym (ap (get old) is) ∙ there)) out)
      | inr apart ↦ others other apart ∙ there
    ]
