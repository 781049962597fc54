-- A session that waits for nobody with a desk that answers at once.
use Rattle.std.proofs.Common.{◌≡◌, ◌∙◌, ℕ, List, [], ◌∷◌, ◌++◌, map, true, false, refl, sym, ap, subst, append_assoc, append-nil, Some, None, arith, inr, Result}
use Rattle.std.specs.List.{All}
use Rattle.std.proofs.lemmas.List.Elements.{All-head, All-tail}
use Rattle.mcv_base.specs.Reply.{ReplyValue}
use Rattle.mcv_text.specs.Request.{AskValue, RequestValue, asking, ItemValue, asked}
use Rattle.mcv_text.specs.Stream.{Awaits, Reads, followed}
use Rattle.mcv_session.specs.declared.desk.DeskFault.{DeskFault}
use Rattle.mcv_session.specs.declared.phase.Phase.TheVariants.{Open, Ended}
use Rattle.mcv_session.specs.declared.session.Flow.TheVariants.{GoesOn, Ends}
use Rattle.mcv_session.specs.Desk.{HasOneEach}
use Rattle.mcv_session.specs.Drive.{AsksDesk, Drives}
use Rattle.mcv_session.specs.Exchange.{Exchange, by_desk, by_version, by_quit, by_refusal, item_of, text_of}
use Rattle.mcv_session.specs.Machine.{Fails, Feeds, History, IsIdle, IsOwn, Lived, MachineValue, Passes, Replies, Stands, asked_item}
use Rattle.mcv_session.specs.Session.{Breaks, Chain, Goes, Serves, taken}
use Rattle.mcv_session.proofs.Items.{chain_join, chain_push, flow_is, taken_on}
use Rattle.mcv_session.proofs.Life.{at_phase, items_push, lived_answered, lived_keeps, lived_whole, taken_log, taken_whole}

open_stands : (now : MachineValue) (items : List ItemValue) → now.phase ≡ Open → asked_item now.request ++ now.waiting ≡ items → Stands now.phase now [] items now.reader
open_stands now items is_open all = subst (λ p. Stands p now [] items now.reader) (sym is_open) (all, refl, refl)

-- a piece that came to a session that had nothing to do
pub lived_first : (old : MachineValue) (piece : List ℕ) (new : MachineValue) → old.phase ≡ Open → old.request ≡ None → old.waiting ≡ [] → old.output ≡ [] → Feeds old piece new → Lived old.reader (record { bytes = piece; log = []; written = [] }) new
lived_first old piece new is_open free none silent f = record {
  items = f.items;
  rest = new.reader;
  reads = f.reads;
  stands = open_stands new f.items (f.phase ∙ is_open) (ap (λ r. asked_item r ++ new.waiting) (f.request ∙ free) ∙ f.waiting ∙ ap (λ w. w ++ f.items) none);
  writes = f.output ∙ silent;
}

module _ {D : Type 0} (asks : D → RequestValue → Result (List ReplyValue) DeskFault → D → Type 0) where
  goes_own : (desk : D) (x : Exchange) → IsOwn x → Goes asks x desk desk
  goes_own desk (by_desk ask answer) own = absurd own
  goes_own desk by_version own = refl
  goes_own desk by_quit own = refl
  goes_own desk (by_refusal refusal) own = refl

  chain_own : (desk : D) (own : List Exchange) → All IsOwn own → Chain asks desk own desk
  chain_own desk [] all = refl
  chain_own desk (x ∷ own) all = (desk, goes_own desk x (All-head IsOwn x own all), chain_own desk own (All-tail IsOwn x own all))

  pub drives_none : (from : Awaits) (h : History) (desk : D) (now : MachineValue) → Lived from h now → Drives asks from h desk desk now
  drives_none from h desk now l = ([], refl, subst (λ log. Lived from (record h { log = log }) now) (sym (append-nil h.log)) l)

  pub drives_passes : (from : Awaits) (h : History) (old desk : D) (now new : MachineValue) → Drives asks from h old desk now → ((k : History) → Lived from k now → Passes from k new) → Drives asks from h old desk new
  drives_passes from h old desk now new (more, chain, l) step =
      let p = step (record h { log = h.log ++ more }) l in
      (more ++ p.0, chain_join asks old desk desk more p.0 chain (chain_own desk p.0 p.1), subst (λ log. Lived from (record h { log = log }) new) (append_assoc h.log more p.0) p.2)

  pub drives_asks : (from : Awaits) (h : History) (old mid desk : D) (now new : MachineValue) → now.phase ≡ Open → Drives asks from h old mid now → (a : AsksDesk asks mid desk now) → Replies now (text_of a.exchange) new → Drives asks from h old desk new
  drives_asks from h old mid desk now new is_open (more, chain, l) a r =
      let k = record h { log = h.log ++ more } in (
        more ++ a.exchange ∷ [],
        chain_push asks old mid desk more a.exchange chain a.goes,
        subst (λ log. Lived from (record h { log = log }) new) (append_assoc h.log more (a.exchange ∷ [])) (lived_answered from k now new a.exchange a.request is_open a.was a.is a.on l r),
      )

  -- memory ran out, and no answer is lost
  pub drives_break : (from : Awaits) (bytes : List ℕ) (old desk : D) (now : MachineValue) → Drives asks from (record { bytes = bytes; log = []; written = [] }) old desk now → Breaks asks old desk from bytes now.output
  drives_break from bytes old desk now (more, chain, l) =
      let k = lived_keeps from (record { bytes = bytes; log = more; written = [] }) now l in record {
        items = k.items;
        reads = inr (k.rest, k.reads);
        answers = record { log = more; lost = []; few = omega arith; more = k.more; takes = ap (λ l. map item_of l ++ k.more) (append-nil more) ∙ k.takes; chain = subst (λ l. Chain asks old l desk) (sym (append-nil more)) chain; writes = k.writes };
      }

  -- memory ran out at an answer
  pub drives_lose : (from : Awaits) (bytes : List ℕ) (old mid desk : D) (now new : MachineValue) → now.phase ≡ Open → Drives asks from (record { bytes = bytes; log = []; written = [] }) old mid now → AsksDesk asks mid desk now → Fails now new → Breaks asks old desk from bytes new.output
  drives_lose from bytes old mid desk now new is_open (more, chain, l) a f =
      let s = at_phase Open from (record { bytes = bytes; log = more; written = [] }) now l is_open in
      let all = ap (λ i. map item_of more ++ i ∷ now.waiting) a.is ∙ ap (λ r. map item_of more ++ (asked_item r ++ now.waiting)) (sym a.was) ∙ s.0 in record {
        items = l.items;
        reads = inr (l.rest, l.reads);
        answers = record {
          log = more;
          lost = a.exchange ∷ [];
          few = omega arith;
          more = taken now.waiting;
          takes = items_push more a.exchange (taken now.waiting) ∙ ap (λ t. map item_of more ++ t) (sym (taken_on (item_of a.exchange) now.waiting a.on)) ∙ sym (taken_log more (item_of a.exchange ∷ now.waiting) s.1) ∙ ap taken all;
          chain = chain_push asks old mid desk more a.exchange chain a.goes;
          writes = f.output ∙ l.writes;
        };
      }

  -- nothing is left to do
  pub drives_serve : (from : Awaits) (bytes : List ℕ) (old desk : D) (now : MachineValue) → now.phase ≡ Open → now.request ≡ None → now.waiting ≡ [] → Drives asks from (record { bytes = bytes; log = []; written = [] }) old desk now
      → Serves asks old desk from bytes now.output GoesOn now.reader
  drives_serve from bytes old desk now is_open free none (more, chain, l) =
      let w = lived_whole from (record { bytes = bytes; log = more; written = [] }) now is_open free none l in record {
        items = l.items;
        reads = subst (λ r. Reads (followed from bytes) l.items r) w.2 l.reads;
        answers = record { log = more; takes = w.0 ∙ sym (taken_whole l.items w.1); chain = chain; writes = l.writes; flow_is = sym (flow_is l.items false w.1) };
      }

  -- it has ended
  pub drives_end : (from : Awaits) (bytes : List ℕ) (old desk : D) (now : MachineValue) → now.phase ≡ Ended → Drives asks from (record { bytes = bytes; log = []; written = [] }) old desk now → Serves asks old desk from bytes now.output Ends now.reader
  drives_end from bytes old desk now ended (more, chain, l) =
      let s = at_phase Ended from (record { bytes = bytes; log = more; written = [] }) now l ended in record {
        items = l.items;
        reads = subst (λ r. Reads (followed from bytes) l.items r) s.2 l.reads;
        answers = record { log = more; takes = s.0; chain = chain; writes = l.writes; flow_is = sym (flow_is l.items true s.1) };
      }

  pub asks_desk : (old new : D) (now : MachineValue) (request : RequestValue) (ask : AskValue) (answer : Result (List ReplyValue) DeskFault) → now.request ≡ Some request → request ≡ asking ask → asks old request answer new → HasOneEach request answer → AsksDesk asks old new now
  asks_desk old new now request ask answer was is a one = record {
    exchange = by_desk ask answer;
    goes = (subst (λ r. asks old r answer new) is a, subst (λ r. HasOneEach r answer) is one);
    request = request;
    was = was;
    is = ap asked (sym is);
    on = refl;
  }

  pub answered_desk : (old new : D) (now after : MachineValue) (request : RequestValue) (ask : AskValue) (answer : Result (List ReplyValue) DeskFault) → now.request ≡ Some request → request ≡ asking ask → asks old request answer new → HasOneEach request answer
      → (now.request ≡ Some (asking ask) → Replies now (text_of (by_desk ask answer)) after) → (a : AsksDesk asks old new now) × Replies now (text_of a.exchange) after
  unfolding asks_desk
  answered_desk old new now after request ask answer was is a one k = (asks_desk old new now request ask answer was is a one, k (was ∙ ap Some is))

  pub serves_first : (old : MachineValue) (piece : List ℕ) (fed new : MachineValue) (first desk : D) → IsIdle old → Feeds old piece fed → ((from : Awaits) (h : History) → Lived from h fed → Drives asks from h first desk new) → Drives asks old.reader (record { bytes = piece; log = []; written = [] }) first desk new
  serves_first old piece fed new first desk idle f lives = lives old.reader (record { bytes = piece; log = []; written = [] }) (lived_first old piece fed idle.0 idle.1 idle.2 idle.3 f)
