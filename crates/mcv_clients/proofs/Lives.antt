-- A client's life goes on by what becomes of its connection and its session.
use Rattle.std.proofs.Common.{◌≡◌, ◌∙◌, ◌⊎◌, inl, inr, ℕ, List, [], ◌∷◌, ◌++◌, Option, None, Some, Result, Ok, Err, ap, refl, subst, sym, append-nil, append_assoc, take, drop, map}
use Rattle.std.specs.List.{All}
use Rattle.std.specs.Arc.{arc_value}
use Rattle.std.specs.Prelude.{◌↔◌, IfNone, IfSome, OnOk}
use Rattle.std.specs.declared.alloc.Global.{Global}
use Rattle.std.specs.declared.sync.Arc.{Arc}
use Rattle.mcv_base.specs.declared.request.Request.{Request}
use Rattle.std.specs.Result.{IsErrOf}
use Rattle.std.specs.Io.KnownBytes.{Appends, Consumes, Keeps}
use Rattle.std.proofs.KnownBytes.{Appends-trans, Consumes-kept, Consumes-trans}
use Rattle.std.proofs.lemmas.List.Elements.{All-append, All-nil, All-push, All-weaker}
use Rattle.mcv_base.specs.Reply.{ReplyValue}
use Rattle.mcv_core.specs.CoreView.{CoreView}
use Rattle.mcv_desks.specs.Desks.{AsksHubs}
use Rattle.mcv_session.specs.declared.desk.DeskFault.{DeskFault}
use Rattle.mcv_session.specs.declared.phase.Phase.{Phase}
use Rattle.mcv_session.specs.declared.phase.Phase.TheVariants.{Open, Ended, Failed}
use Rattle.mcv_session.specs.declared.session.SessionFault.{SessionFault}
use Rattle.mcv_session.specs.declared.session.SessionFault.TheVariants as faults
use Rattle.mcv_session.specs.Exchange.{Exchange, by_desk, by_version, by_quit, by_refusal, item_of, text_of}
use Rattle.mcv_session.specs.Machine.{Fails, Feeds, History, IsOwn, Lived, MachineValue, Passes, Replies, Stands, unlived, unused}
use Rattle.mcv_text.specs.Request.{AskValue, ItemValue, RequestValue, asking, request_value}
use Rattle.mcv_text.specs.Stream.{Awaits, Held}
use Rattle.mcv_clients.specs.Life.{ClientView, HasLived, IsAnswered, IsClient, IsOfHubs, IsToldOf, Wire, came_client}

-- ---- known bytes

pub Appends-kept : (a b c : Option (List ℕ)) (bs : List ℕ) → Appends a b bs → Keeps b c → Appends a c bs
Appends-kept None b c bs p q = tt
Appends-kept (Some x) None c bs p q = absurd p
Appends-kept (Some x) (Some y) None bs p q = absurd q
Appends-kept (Some x) (Some y) (Some z) bs p q = q ∙ p

-- ---- phases

open_isnt_failed : (phase : Phase) → phase ≡ Open → phase ≡ Failed → ⊥
open_isnt_failed phase is failed = cc

none_is_some : {X : Type 0} (x : X) (o : Option X) → o ≡ None → o ≡ Some x → ⊥
none_is_some x o none some = cc

standing_is_open : (phase : Phase) (now : MachineValue) (log : List Exchange) (items : List ItemValue) (rest : Awaits) (r : RequestValue) → Stands phase now log items rest → now.request ≡ Some r → phase ≡ Open
standing_is_open Open now log items rest r stands asked = refl
standing_is_open Ended now log items rest r stands asked = absurd (none_is_some r now.request stands.3 asked)
standing_is_open Failed now log items rest r stands asked = absurd (none_is_some r now.request stands.1 asked)

-- a session with a request out goes on
pub asking_is_open : (from : Awaits) (h : History) (now : MachineValue) (r : RequestValue) → Lived from h now → now.request ≡ Some r → now.phase ≡ Open
asking_is_open from h now r l asked = standing_is_open now.phase now h.log l.items l.rest r l.stands asked

-- one that failed has none
failed_asks_nothing : (from : Awaits) (h : History) (now : MachineValue) → Lived from h now → now.phase ≡ Failed → now.request ≡ None
failed_asks_nothing from h now l failed = (subst (λ (p : Phase). Stands p now h.log l.items l.rest) failed l.stands).1

-- ---- requests

asks_nothing : (o : Option RequestValue) → o ≡ None → IfSome o (λ r. (ask : AskValue) × (r ≡ asking ask))
asks_nothing o none = subst (λ (o : Option RequestValue). IfSome o (λ r. (ask : AskValue) × (r ≡ asking ask))) (sym none) tt

pub asks_same : (o p : Option RequestValue) → p ≡ o → IfSome o (λ r. (ask : AskValue) × (r ≡ asking ask)) → IfSome p (λ r. (ask : AskValue) × (r ≡ asking ask))
asks_same o p same given = subst (λ (o : Option RequestValue). IfSome o (λ r. (ask : AskValue) × (r ≡ asking ask))) (sym same) given

pub asks_this : (o : Option RequestValue) (r : RequestValue) → o ≡ Some r → (ask : AskValue) × (r ≡ asking ask) → IfSome o (λ r. (ask : AskValue) × (r ≡ asking ask))
asks_this o r is given = subst (λ (o : Option RequestValue). IfSome o (λ r. (ask : AskValue) × (r ≡ asking ask))) (sym is) given

its_ask : (o : Option RequestValue) (r : RequestValue) → o ≡ Some r → IfSome o (λ r. (ask : AskValue) × (r ≡ asking ask)) → (ask : AskValue) × (r ≡ asking ask)
its_ask o r is given = subst (λ (o : Option RequestValue). IfSome o (λ r. (ask : AskValue) × (r ≡ asking ask))) is given

module _ (opened_of : ℕ → CoreView) where
  -- ---- a client that has come

  pub came : (w : Wire) (hubs : ℕ) → Lived (Held []) unlived (unused (Held [])) → Consumes w.unread w.unread [] → Appends w.written w.written [] → IsClient opened_of (came_client w hubs)
  came w hubs begins reads writes = record {
    answered = (unlived, record { lived = begins; lost = []; none_lost = λ _. refl; reads = reads; writes = writes; answers = All-nil (IsOfHubs opened_of hubs) });
    asks = tt;
  }

  -- ---- reading

  -- no byte came
  pub read_nothing : (c : ClientView) (unread written : Option (List ℕ)) → Consumes c.now.unread unread [] → Keeps c.now.written written → IsClient opened_of c → IsClient opened_of (record c { now = record { unread = unread; written = written } })
  read_nothing c unread written reads keeps is =
      let h = is.answered.0 in
      let l = is.answered.1 in
      record {
        answered = (
          h,
          record {
            lived = l.lived;
            lost = l.lost;
            none_lost = l.none_lost;
            reads = subst (Consumes c.came.unread unread) (append-nil (h.bytes ++ l.lost)) (Consumes-trans c.came.unread c.now.unread unread (h.bytes ++ l.lost) [] l.reads reads);
            writes = Appends-kept c.came.written c.now.written written h.written l.writes keeps;
            answers = l.answers;
          },
        );
        asks = is.asks;
      }

  -- a piece came, and its session has it
  pub read_piece : (c : ClientView) (unread written : Option (List ℕ)) (piece : List ℕ) (session : MachineValue)
      → ((from : Awaits) (h : History) (old : MachineValue) (bytes : List ℕ) (new : MachineValue) → old.phase ≡ Open → Lived from h old → Feeds old bytes new → Lived from (record h { bytes = h.bytes ++ bytes }) new)
      → c.session.phase ≡ Open → Consumes c.now.unread unread piece → Keeps c.now.written written → Feeds c.session piece session → IsClient opened_of c → IsClient opened_of (record c { now = record { unread = unread; written = written }; session = session })
  read_piece c unread written piece session law is_open reads keeps feeds is =
      let h = is.answered.0 in
      let l = is.answered.1 in
      let none = l.none_lost (open_isnt_failed c.session.phase is_open) in
      let before = subst (Consumes c.came.unread c.now.unread) (ap (λ (t : List ℕ). h.bytes ++ t) none ∙ append-nil h.bytes) l.reads in
      record {
        answered = (
          record h { bytes = h.bytes ++ piece },
          record {
            lived = law (Held []) h c.session piece session is_open l.lived feeds;
            lost = [];
            none_lost = λ _. refl;
            reads = subst (Consumes c.came.unread unread) (sym (append-nil (h.bytes ++ piece))) (Consumes-trans c.came.unread c.now.unread unread h.bytes piece before reads);
            writes = Appends-kept c.came.written c.now.written written h.written l.writes keeps;
            answers = l.answers;
          },
        );
        asks = asks_same c.session.request session.request feeds.request is.asks;
      }

  -- a piece came, and memory ran out
  pub read_in_vain : (c : ClientView) (unread written : Option (List ℕ)) (piece : List ℕ) (session : MachineValue)
      → ((from : Awaits) (h : History) (old new : MachineValue) → Lived from h old → Fails old new → Lived from h new)
      → Consumes c.now.unread unread piece → Keeps c.now.written written → Fails c.session session → IsClient opened_of c → IsClient opened_of (record c { now = record { unread = unread; written = written }; session = session })
  read_in_vain c unread written piece session law reads keeps fails is =
      let h = is.answered.0 in
      let l = is.answered.1 in
      record {
        answered = (
          h,
          record {
            lived = law (Held []) h c.session session l.lived fails;
            lost = l.lost ++ piece;
            none_lost = λ not. absurd (not fails.phase);
            reads = subst (Consumes c.came.unread unread) (append_assoc h.bytes l.lost piece) (Consumes-trans c.came.unread c.now.unread unread (h.bytes ++ l.lost) piece l.reads reads);
            writes = Appends-kept c.came.written c.now.written written h.written l.writes keeps;
            answers = l.answers;
          },
        );
        asks = asks_nothing session.request fails.request;
      }

  -- what comes of a piece
  pub read_some : (c : ClientView) (unread written : Option (List ℕ)) (piece : List ℕ) (session : MachineValue) (result : Result Unit SessionFault)
      → ((from : Awaits) (h : History) (old : MachineValue) (bytes : List ℕ) (new : MachineValue) → old.phase ≡ Open → Lived from h old → Feeds old bytes new → Lived from (record h { bytes = h.bytes ++ bytes }) new)
      → ((from : Awaits) (h : History) (old new : MachineValue) → Lived from h old → Fails old new → Lived from h new)
      → c.session.phase ≡ Open → Consumes c.now.unread unread piece → Keeps c.now.written written → OnOk result (Feeds c.session piece session) → (IsErrOf result faults.Ended ↔ (c.session.phase ≡ Open → ⊥))
      → (IsErrOf result faults.Memory → Fails c.session session) → IsClient opened_of c → IsClient opened_of (record c { now = record { unread = unread; written = written }; session = session })
  read_some c unread written piece session (Ok u) feeding failing is_open reads keeps ok ended memory is = read_piece c unread written piece session feeding is_open reads keeps ok is
  read_some c unread written piece session (Err faults.Ended) feeding failing is_open reads keeps ok ended memory is = absurd (ended.0 refl is_open)
  read_some c unread written piece session (Err faults.Memory) feeding failing is_open reads keeps ok ended memory is = read_in_vain c unread written piece session failing reads keeps (memory refl) is

  -- ---- writing

  pub wrote_nothing : (c : ClientView) (unread written : Option (List ℕ)) → Keeps c.now.unread unread → Appends c.now.written written [] → IsClient opened_of c → IsClient opened_of (record c { now = record { unread = unread; written = written } })
  wrote_nothing c unread written keeps writes is =
      let h = is.answered.0 in
      let l = is.answered.1 in
      record {
        answered = (
          h,
          record {
            lived = l.lived;
            lost = l.lost;
            none_lost = l.none_lost;
            reads = Consumes-kept c.came.unread c.now.unread unread (h.bytes ++ l.lost) l.reads keeps;
            writes = subst (Appends c.came.written written) (append-nil h.written) (Appends-trans c.came.written c.now.written written h.written [] l.writes writes);
            answers = l.answers;
          },
        );
        asks = is.asks;
      }

  -- the first bytes of the output are written
  pub wrote_some : (c : ClientView) (unread written : Option (List ℕ)) (n : ℕ) (session : MachineValue)
      → ((from : Awaits) (h : History) (old : MachineValue) (n : ℕ) → Lived from h old → Lived from (record h { written = h.written ++ take n old.output }) (record old { output = drop n old.output }))
      → Keeps c.now.unread unread → Appends c.now.written written (take n c.session.output) → session ≡ record c.session { output = drop n c.session.output } → IsClient opened_of c → IsClient opened_of (record c { now = record { unread = unread; written = written }; session = session })
  wrote_some c unread written n session law keeps writes became is =
      let h = is.answered.0 in
      let l = is.answered.1 in
      let later = record c { now = record { unread = unread; written = written }; session = record c.session { output = drop n c.session.output } } in
      subst (λ (s : MachineValue). IsClient opened_of (record later { session = s })) (sym became) (record {
        answered = (
          record h { written = h.written ++ take n c.session.output },
          record {
            lived = law (Held []) h c.session n l.lived;
            lost = l.lost;
            none_lost = l.none_lost;
            reads = Consumes-kept c.came.unread c.now.unread unread (h.bytes ++ l.lost) l.reads keeps;
            writes = Appends-trans c.came.written c.now.written written h.written (take n c.session.output) l.writes writes;
            answers = l.answers;
          },
        );
        asks = is.asks;
      })

  -- ---- asking

  own_is_of_hubs : (hubs : ℕ) (exchange : Exchange) → IsOwn exchange → IsOfHubs opened_of hubs exchange
  own_is_of_hubs hubs (by_desk ask answer) own = absurd own
  own_is_of_hubs hubs by_version own = tt
  own_is_of_hubs hubs by_quit own = tt
  own_is_of_hubs hubs (by_refusal refusal) own = tt

  -- what waited was answered by its session itself, and a request may have been given out
  pub asked_next : (c : ClientView) (session : MachineValue) → c.session.phase ≡ Open → ((from : Awaits) (h : History) → Lived from h c.session → Passes from h session) → IfSome session.request (λ r. (ask : AskValue) × (r ≡ asking ask))
      → IsClient opened_of c → IsClient opened_of (record c { session = session })
  asked_next c session is_open lives asks is =
      let h = is.answered.0 in
      let l = is.answered.1 in
      let none = l.none_lost (open_isnt_failed c.session.phase is_open) in
      let p = lives (Held []) h l.lived in
      record {
        answered = (
          record h { log = h.log ++ p.0 },
          record {
            lived = p.2;
            lost = l.lost;
            none_lost = λ _. none;
            reads = l.reads;
            writes = l.writes;
            answers = All-append (IsOfHubs opened_of c.hubs) h.log p.0 l.answers (All-weaker IsOwn (IsOfHubs opened_of c.hubs) (own_is_of_hubs c.hubs) p.0 p.1);
          },
        );
        asks = asks;
      }

  -- where memory ran out there is none
  pub none_asked : (c : ClientView) (session : MachineValue) → ((from : Awaits) (h : History) → Lived from h c.session → Passes from h session) → session.phase ≡ Failed → IsClient opened_of c → session.request ≡ None
  none_asked c session lives failed is =
      let p = lives (Held []) is.answered.0 is.answered.1.lived in
      failed_asks_nothing (Held []) _ session p.2 failed

  -- whether it has given one out is known
  pub next_asks : (c : ClientView) (session : MachineValue) (o : Option (Arc Request Global)) → ((from : Awaits) (h : History) → Lived from h c.session → Passes from h session)
      → IfSome o (λ r. session.request ≡ Some (request_value (arc_value r))) → IfSome o (λ r. (ask : AskValue) × (request_value (arc_value r) ≡ asking ask)) → IfNone o ((session.request ≡ c.session.request) ⊎ (session.phase ≡ Failed))
      → IsClient opened_of c → IfSome session.request (λ r. (ask : AskValue) × (r ≡ asking ask))
  next_asks c session (Some r) lives asks of_desk none is = asks_this session.request (request_value (arc_value r)) asks of_desk
  next_asks c session None lives asks of_desk none is =
      elim none [
        | inl same ↦ asks_same c.session.request session.request same is.asks
        | inr failed ↦ asks_nothing session.request (none_asked c session lives failed is)
      ]

  -- ---- answers

  -- its session was answered
  replied_to : (c : ClientView) (session : MachineValue) (answer : Result (List ReplyValue) DeskFault) (ask : AskValue) (h : History) → HasLived opened_of h c → (c.session.phase ≡ Failed → ⊥) → AsksHubs opened_of c.hubs (asking ask) answer
      → Lived (Held []) (record h { log = h.log ++ by_desk ask answer ∷ [] }) session → Replies c.session (text_of (by_desk ask answer)) session → IsClient opened_of (record c { session = session; out = None })
  replied_to c session answer ask h l goes_on answers lived replies = record {
    answered = (
      record h { log = h.log ++ by_desk ask answer ∷ [] },
      record {
        lived = lived;
        lost = l.lost;
        none_lost = λ _. l.none_lost goes_on;
        reads = l.reads;
        writes = l.writes;
        answers = All-push (IsOfHubs opened_of c.hubs) h.log (by_desk ask answer) l.answers answers;
      },
    );
    asks = asks_nothing session.request replies.request;
  }

  -- its session failed
  failed_at : (c : ClientView) (session : MachineValue) (h : History) → HasLived opened_of h c → Lived (Held []) h session → Fails c.session session → (c.session.phase ≡ Failed → ⊥) → IsClient opened_of (record c { session = session; out = None })
  failed_at c session h l lived fails goes_on = record {
    answered = (
      h,
      record {
        lived = lived;
        lost = l.lost;
        none_lost = λ _. l.none_lost goes_on;
        reads = l.reads;
        writes = l.writes;
        answers = l.answers;
      },
    );
    asks = asks_nothing session.request fails.request;
  }

  pub told : (c : ClientView) (session : MachineValue) (answer : Result (List ReplyValue) DeskFault)
      → ((from : Awaits) (h : History) (old new : MachineValue) (ask : AskValue) (answer : Result (List ReplyValue) DeskFault) → old.phase ≡ Open → old.request ≡ Some (asking ask) → Lived from h old → Replies old (text_of (by_desk ask answer)) new → Lived from (record h { log = h.log ++ by_desk ask answer ∷ [] }) new)
      → ((from : Awaits) (h : History) (old new : MachineValue) → Lived from h old → Fails old new → Lived from h new)
      → IsToldOf opened_of c answer → ((ask : AskValue) → c.session.request ≡ Some (asking ask) → Replies c.session (text_of (by_desk ask answer)) session ⊎ Fails c.session session)
      → IsClient opened_of c → IsClient opened_of (record c { session = session; out = None })
  told c session answer answering failing its became is =
      let h = is.answered.0 in
      let l = is.answered.1 in
      let of = its_ask c.session.request its.request its.asked is.asks in
      let ask = of.0 in
      let asked = its.asked ∙ ap Some of.1 in
      let is_open = asking_is_open (Held []) h c.session (asking ask) l.lived asked in
      let goes_on = open_isnt_failed c.session.phase is_open in
      let answers = subst (λ (r : RequestValue). AsksHubs opened_of c.hubs r answer) of.1 its.answers in
      elim (became ask asked) [
        | inl replies ↦ replied_to c session answer ask h l goes_on answers (answering (Held []) h c.session session ask answer is_open asked l.lived replies) replies
        | inr fails ↦ failed_at c session h l (failing (Held []) h c.session session l.lived fails) fails goes_on
      ]

-- a session was answered, or memory ran out
pub replied : (old new : MachineValue) (answer : Result (List ReplyValue) DeskFault) (result : Result Unit SessionFault) → OnOk result ((ask : AskValue) → old.request ≡ Some (asking ask) → Replies old (text_of (by_desk ask answer)) new) → (IsErrOf result faults.Ended ↔ (old.request ≡ None))
    → (IsErrOf result faults.Memory → Fails old new) → (ask : AskValue) → old.request ≡ Some (asking ask) → Replies old (text_of (by_desk ask answer)) new ⊎ Fails old new
replied old new answer (Ok u) ok ended memory ask asked = inl (ok ask asked)
replied old new answer (Err faults.Ended) ok ended memory ask asked = absurd (none_is_some (asking ask) old.request (ended.0 refl) asked)
replied old new answer (Err faults.Memory) ok ended memory ask asked = inr (memory refl)
