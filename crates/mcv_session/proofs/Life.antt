-- What each step of a session that waits for nobody makes of what it lived through.
use Rattle.std.proofs.Common.{◌≡◌, ◌∙◌, ℕ, List, [], ◌∷◌, ◌++◌, map, Bool, true, false, ◌||◌, refl, sym, ap, subst, append-nil, append_assoc, Some, None, take, drop, if◌then◌else◌}
use Rattle.std.specs.List.{list_any}
use Rattle.std.proofs.lemmas.List.{map-append, take-append-drop}
use Rattle.std.proofs.lemmas.List.Elements.{All-nil, All-cons, All-append}
use Rattle.std.proofs.lemmas.List.Folds.{list_any-append}
use Rattle.std.proofs.lemmas.Grind.{flat_map-append}
use Rattle.mcv_text.specs.Request.{RequestValue, ItemValue, asked}
use Rattle.mcv_text.specs.Stream.{Awaits, Reads, followed}
use Rattle.mcv_session.specs.declared.phase.Phase.{Phase}
use Rattle.mcv_session.specs.declared.phase.Phase.TheVariants.{Open, Ended, Failed}
use Rattle.mcv_session.specs.Exchange.{Exchange, item_of, text_of, texts_of, ends}
use Rattle.mcv_session.specs.Session.{taken}
use Rattle.mcv_session.specs.Machine.{MachineValue, History, Lived, Keeps, Stands, Passes, PassesOne, EndsOne, AsksOne, Feeds, Fails, Replies, IsOwn, asked_item}
use Rattle.mcv_session.proofs.Items.{taken_on}
use Rattle.mcv_session.proofs.Pieces.{taken_append, or_false}

any_alone : (item : ItemValue) (b : Bool) → ends item ≡ b → list_any ends (item ∷ []) ≡ b
any_alone item true e = ap (λ a. a || false) e
any_alone item false e = ap (λ a. a || false) e

-- a log that none ends goes on by one that doesn't end it
any_push : (log : List Exchange) (x : Exchange) → list_any ends (map item_of log) ≡ false → ends (item_of x) ≡ false → list_any ends (map item_of (log ++ x ∷ [])) ≡ false
any_push log x none e =
    ap (list_any ends) (map-append item_of log (x ∷ [])) ∙ list_any-append ends (map item_of log) (item_of x ∷ []) ∙ ap (λ b. b || list_any ends (item_of x ∷ [])) none ∙ any_alone (item_of x) false e

texts_push : (log : List Exchange) (x : Exchange) → texts_of (log ++ x ∷ []) ≡ texts_of log ++ text_of x
texts_push log x = flat_map-append text_of log (x ∷ []) ∙ ap (λ t. texts_of log ++ t) (append-nil (text_of x))

-- the output grew by one answer
writes_push : (written output now : List ℕ) (log : List Exchange) (x : Exchange) → written ++ output ≡ texts_of log → now ≡ output ++ text_of x → written ++ now ≡ texts_of (log ++ x ∷ [])
writes_push written output now log x was grew =
    ap (λ t. written ++ t) grew ∙ sym (append_assoc written output (text_of x)) ∙ ap (λ t. t ++ text_of x) was ∙ sym (texts_push log x)

pub items_push : (log : List Exchange) (x : Exchange) (more : List ItemValue) → map item_of (log ++ x ∷ []) ++ more ≡ map item_of log ++ item_of x ∷ more
items_push log x more = ap (λ t. t ++ more) (map-append item_of log (x ∷ [])) ∙ append_assoc (map item_of log) (item_of x ∷ []) more

-- a log that none ends is taken whole
pub taken_whole : (items : List ItemValue) → list_any ends items ≡ false → taken items ≡ items
taken_whole [] e = refl
taken_whole (item ∷ items) e = let both = or_false (ends item) (list_any ends items) e in taken_on item items both.0 ∙ ap (λ t. item ∷ t) (taken_whole items both.1)

pub taken_log : (log : List Exchange) (more : List ItemValue) → list_any ends (map item_of log) ≡ false → taken (map item_of log ++ more) ≡ map item_of log ++ taken more
taken_log log more none = taken_append (map item_of log) more none ∙ ap (λ t. t ++ taken more) (taken_whole (map item_of log) none)

-- the promise at each moment
keeps_at : (phase : Phase) (from : Awaits) (h : History) (now : MachineValue) (items : List ItemValue) (rest : Awaits) → Reads (followed from h.bytes) items rest → Stands phase now h.log items rest → h.written ++ now.output ≡ texts_of h.log → Keeps from h now
keeps_at Open from h now items rest reads stands writes = record {
  items = items;
  rest = rest;
  reads = reads;
  more = taken (asked_item now.request ++ now.waiting);
  takes = sym (taken_log h.log (asked_item now.request ++ now.waiting) stands.1) ∙ ap taken stands.0;
  writes = writes;
}
keeps_at Ended from h now items rest reads stands writes = record { items = items; rest = rest; reads = reads; more = []; takes = append-nil (map item_of h.log) ∙ stands.0; writes = writes }
keeps_at Failed from h now items rest reads stands writes = record { items = items; rest = rest; reads = reads; more = stands.0.0; takes = stands.0.1; writes = writes }

pub lived_keeps : (from : Awaits) (h : History) (now : MachineValue) → Lived from h now → Keeps from h now
lived_keeps from h now l = keeps_at now.phase from h now l.items l.rest l.reads l.stands l.writes

pub at_phase : (phase : Phase) (from : Awaits) (h : History) (now : MachineValue) (l : Lived from h now) → now.phase ≡ phase → Stands phase now h.log l.items l.rest
at_phase phase from h now l is = subst (λ p. Stands p now h.log l.items l.rest) is l.stands

-- one item was answered without a desk
pub lived_passed : (from : Awaits) (h : History) (old new : MachineValue) → old.phase ≡ Open → old.request ≡ None → Lived from h old → (p : PassesOne old new) → Lived from (record h { log = h.log ++ p.exchange ∷ [] }) new
lived_passed from h old new is_open free l p =
    let s = at_phase Open from h old l is_open in record {
      items = l.items;
      rest = l.rest;
      reads = l.reads;
      stands = subst (λ ph. Stands ph new (h.log ++ p.exchange ∷ []) l.items l.rest) (sym p.phase) (
        ap (λ r. map item_of (h.log ++ p.exchange ∷ []) ++ (asked_item r ++ new.waiting)) p.request
            ∙ ap (λ w. map item_of (h.log ++ p.exchange ∷ []) ++ w) p.waiting
            ∙ items_push h.log p.exchange p.left
            ∙ ap (λ w. map item_of h.log ++ w) (sym p.took)
            ∙ ap (λ r. map item_of h.log ++ (asked_item r ++ old.waiting)) (sym free)
            ∙ s.0,
        any_push h.log p.exchange s.1 p.goes_on,
        s.2 ∙ sym p.reader,
      );
      writes = writes_push h.written old.output new.output h.log p.exchange l.writes p.output;
    }

-- a request was given out
pub lived_asked : (from : Awaits) (h : History) (old : MachineValue) (request : RequestValue) (new : MachineValue) → old.phase ≡ Open → old.request ≡ None → Lived from h old → AsksOne old request new → Lived from h new
lived_asked from h old request new is_open free l p =
    let s = at_phase Open from h old l is_open in record {
      items = l.items;
      rest = l.rest;
      reads = l.reads;
      stands = subst (λ ph. Stands ph new h.log l.items l.rest) (sym p.phase) (
        ap (λ r. map item_of h.log ++ (asked_item r ++ new.waiting)) p.asks
            ∙ ap (λ w. map item_of h.log ++ asked request ∷ w) p.waiting
            ∙ ap (λ w. map item_of h.log ++ w) (sym p.took)
            ∙ ap (λ r. map item_of h.log ++ (asked_item r ++ old.waiting)) (sym free)
            ∙ s.0,
        s.1,
        s.2 ∙ sym p.reader,
      );
      writes = ap (λ t. h.written ++ t) p.output ∙ l.writes;
    }

taken_last : (item : ItemValue) (items : List ItemValue) → ends item ≡ true → taken (item ∷ items) ≡ item ∷ []
taken_last item items e = ap (λ b. item ∷ (if b then [] else taken items)) e

any_last : (item : ItemValue) (items : List ItemValue) → ends item ≡ true → list_any ends (item ∷ items) ≡ true
any_last item items e = ap (λ b. b || list_any ends items) e

-- the last item was answered
pub lived_ended : (from : Awaits) (h : History) (old new : MachineValue) → old.phase ≡ Open → old.request ≡ None → Lived from h old → (p : EndsOne old new) → Lived from (record h { log = h.log ++ p.exchange ∷ [] }) new
lived_ended from h old new is_open free l p =
    let s = at_phase Open from h old l is_open in
    let all = ap (λ w. map item_of h.log ++ w) (sym p.took) ∙ ap (λ r. map item_of h.log ++ (asked_item r ++ old.waiting)) (sym free) ∙ s.0 in record {
      items = l.items;
      rest = l.rest;
      reads = l.reads;
      stands = subst (λ ph. Stands ph new (h.log ++ p.exchange ∷ []) l.items l.rest) (sym p.phase) (
        sym (append-nil (map item_of (h.log ++ p.exchange ∷ []))) ∙ items_push h.log p.exchange [] ∙ ap (λ t. map item_of h.log ++ t) (sym (taken_last (item_of p.exchange) p.left p.last))
            ∙ sym (taken_log h.log (item_of p.exchange ∷ p.left) s.1) ∙ ap taken all,
        ap (list_any ends) (sym all) ∙ list_any-append ends (map item_of h.log) (item_of p.exchange ∷ p.left) ∙ ap (λ b. b || list_any ends (item_of p.exchange ∷ p.left)) s.1 ∙ any_last (item_of p.exchange) p.left p.last,
        s.2 ∙ sym p.reader,
        p.request,
      );
      writes = writes_push h.written old.output new.output h.log p.exchange l.writes p.output;
    }

-- memory ran out
pub lived_failed : (from : Awaits) (h : History) (old new : MachineValue) → Lived from h old → Fails old new → Lived from h new
lived_failed from h old new l f =
    let k = lived_keeps from h old l in record {
      items = k.items;
      rest = k.rest;
      reads = k.reads;
      stands = subst (λ ph. Stands ph new h.log k.items k.rest) (sym f.phase) ((k.more, k.takes), f.request);
      writes = ap (λ t. h.written ++ t) f.output ∙ l.writes;
    }

-- the request that was given out was answered
pub lived_answered : (from : Awaits) (h : History) (old new : MachineValue) (x : Exchange) (request : RequestValue) → old.phase ≡ Open → old.request ≡ Some request → item_of x ≡ asked request → ends (item_of x) ≡ false → Lived from h old → Replies old (text_of x) new
    → Lived from (record h { log = h.log ++ x ∷ [] }) new
lived_answered from h old new x request is_open was is on l p =
    let s = at_phase Open from h old l is_open in record {
      items = l.items;
      rest = l.rest;
      reads = l.reads;
      stands = subst (λ ph. Stands ph new (h.log ++ x ∷ []) l.items l.rest) (sym (p.phase ∙ is_open)) (
        ap (λ r. map item_of (h.log ++ x ∷ []) ++ (asked_item r ++ new.waiting)) p.request
            ∙ ap (λ w. map item_of (h.log ++ x ∷ []) ++ w) p.waiting
            ∙ items_push h.log x old.waiting
            ∙ ap (λ i. map item_of h.log ++ i ∷ old.waiting) is
            ∙ ap (λ r. map item_of h.log ++ (asked_item r ++ old.waiting)) (sym was)
            ∙ s.0,
        any_push h.log x s.1 on,
        s.2 ∙ sym p.reader,
      );
      writes = writes_push h.written old.output new.output h.log x l.writes p.output;
    }

-- a piece was read
pub lived_fed : ((from mid to : Awaits) (a b : List ℕ) (xs ys : List ItemValue) → Reads (followed from a) xs mid → Reads (followed mid b) ys to → Reads (followed from (a ++ b)) (xs ++ ys) to)
    → (from : Awaits) (h : History) (old : MachineValue) (piece : List ℕ) (new : MachineValue) → old.phase ≡ Open → Lived from h old → Feeds old piece new → Lived from (record h { bytes = h.bytes ++ piece }) new
lived_fed law from h old piece new is_open l p =
    let s = at_phase Open from h old l is_open in record {
      items = l.items ++ p.items;
      rest = new.reader;
      reads = law from old.reader new.reader h.bytes piece l.items p.items (subst (λ r. Reads (followed from h.bytes) l.items r) s.2 l.reads) p.reads;
      stands = subst (λ ph. Stands ph new h.log (l.items ++ p.items) new.reader) (sym (p.phase ∙ is_open)) (
        ap (λ r. map item_of h.log ++ (asked_item r ++ new.waiting)) p.request
            ∙ ap (λ w. map item_of h.log ++ (asked_item old.request ++ w)) p.waiting
            ∙ ap (λ w. map item_of h.log ++ w) (sym (append_assoc (asked_item old.request) old.waiting p.items))
            ∙ sym (append_assoc (map item_of h.log) (asked_item old.request ++ old.waiting) p.items)
            ∙ ap (λ i. i ++ p.items) s.0,
        s.1,
        refl,
      );
      writes = ap (λ t. h.written ++ t) p.output ∙ l.writes;
    }

-- nothing was answered
pub passes_none : (from : Awaits) (h : History) (now : MachineValue) → Lived from h now → Passes from h now
passes_none from h now l = ([], All-nil IsOwn, subst (λ log. Lived from (record h { log = log }) now) (sym (append-nil h.log)) l)

-- it answered more by itself, and what came of that has lived through it
pub passes_then : (from : Awaits) (h : History) (now new : MachineValue) → Passes from h now → ((k : History) → Lived from k now → Passes from k new) → Passes from h new
passes_then from h now new (own, all, l) step =
    let more = step (record h { log = h.log ++ own }) l in
    (own ++ more.0, All-append IsOwn own more.0 all more.1, subst (λ log. Lived from (record h { log = log }) new) (append_assoc h.log own more.0) more.2)

pub passes_passed : (from : Awaits) (h : History) (old new : MachineValue) → old.phase ≡ Open → old.request ≡ None → Lived from h old → PassesOne old new → Passes from h new
passes_passed from h old new is_open free l p = (p.exchange ∷ [], All-cons IsOwn p.exchange [] p.own (All-nil IsOwn), lived_passed from h old new is_open free l p)

pub passes_ended : (from : Awaits) (h : History) (old new : MachineValue) → old.phase ≡ Open → old.request ≡ None → Lived from h old → EndsOne old new → Passes from h new
passes_ended from h old new is_open free l p = (p.exchange ∷ [], All-cons IsOwn p.exchange [] p.own (All-nil IsOwn), lived_ended from h old new is_open free l p)

stands_written : (phase : Phase) (now : MachineValue) (output : List ℕ) (log : List Exchange) (items : List ItemValue) (rest : Awaits) → Stands phase now log items rest → Stands phase (record now { output = output }) log items rest
stands_written Open now output log items rest s = s
stands_written Ended now output log items rest s = s
stands_written Failed now output log items rest s = s

-- some of the output was written
pub lived_written : (from : Awaits) (h : History) (old : MachineValue) (n : ℕ) → Lived from h old → Lived from (record h { written = h.written ++ take n old.output }) (record old { output = drop n old.output })
lived_written from h old n l = record {
  items = l.items;
  rest = l.rest;
  reads = l.reads;
  stands = stands_written old.phase old (drop n old.output) h.log l.items l.rest l.stands;
  writes = append_assoc h.written (take n old.output) (drop n old.output) ∙ ap (λ t. h.written ++ t) (take-append-drop n old.output) ∙ l.writes;
}

-- a session that has nothing more to do answered all that was read
pub lived_whole : (from : Awaits) (h : History) (now : MachineValue) → now.phase ≡ Open → now.request ≡ None → now.waiting ≡ [] → (l : Lived from h now) → (map item_of h.log ≡ l.items) × (list_any ends l.items ≡ false) × (l.rest ≡ now.reader)
lived_whole from h now is_open free none l =
    let s = at_phase Open from h now l is_open in
    let all = sym (append-nil (map item_of h.log)) ∙ ap (λ w. map item_of h.log ++ w) (sym none) ∙ ap (λ r. map item_of h.log ++ (asked_item r ++ now.waiting)) (sym free) ∙ s.0 in
    (all, ap (list_any ends) (sym all) ∙ s.1, s.2)
