-- Each step of an open connection keeps it that what is written is the texts of the legs that were sent, and what is read replies to them.
use Rattle.std.proofs.Common.{◌≡◌, ◌∙◌, ◌+◌, ◌-◌, ◌≤◌, ◌||◌, ℕ, zero, suc, Bool, true, false, ltb, List, [], ◌∷◌, ◌++◌, length, map, take, drop, refl, sym, ap, subst, append-nil, append_assoc, arith, length-append, length-drop, Result, Ok, Err, OnErr, OnOk}
use Rattle.std.proofs.KnownBytes.{Appends-kept, Appends-nil, Appends-trans, Consumes-kept, Consumes-nil, Consumes-trans}
use Rattle.std.proofs.lemmas.List.{length-map, length_push, map-append, take-append-drop}
use Rattle.std.proofs.lemmas.List.Folds.{concat-append}
use Rattle.std.proofs.lemmas.Bool.{le-ltb, lt-ltb, ltb-false}
use Rattle.std.specs.Io.KnownBytes.{Appends, Consumes, Keeps}
use Rattle.std.specs.List.{concat}
use Rattle.mcv_base.specs.Reply.{ReplyValue}
use Rattle.mcv_base.specs.declared.request.LegId.{LegId}
use Rattle.mcv_base.specs.declared.request.LegRequest.{LegRequest}
use Rattle.mcv_pipeline.specs.Pipeline.{PipelineValue, leg_of, reply_of}
use Rattle.mcv_pipeline.specs.declared.landed.Landed.{Landed}
use Rattle.mcv_reply.specs.Replies.{Connection, Open, Closed, Leg, Receives, Sends, Waits, flying, is_open}
use Rattle.mcv_reply.specs.declared.fault.ReplyFault.{ReplyFault}
use Rattle.mcv_reply.specs.declared.fault.ReplyFault.TheVariants as faults
use Rattle.mcv_reply.proofs.RepliesInOrder.{replied_joined, replied_later}
use Rattle.mcv_upstream.specs.Life.{Carried, unlived}
use Rattle.mcv_upstream.specs.Upstream.{SendsText, UpstreamValue, asked_leg, output_after, unused}
use Rattle.mcv_upstream.proofs.Connections.{closed_received, stays_refused}
use Rattle.mcv_upstream.proofs.Life.{carried_begins, carried_closed, carried_landed, carried_sent, carried_written}
use Rattle.mcv_lines.specs.Channel.{ChannelValue, Ends, ReadsNone, ReadsOf, ReadsPiece, SendsOver, WritesOf, has_some, request_text, unwritten_sent}
use Rattle.mcv_lines.specs.Life.{HasReplied, Life, held_of, waiting_of}
use Rattle.mcv_lines.specs.Took.{IsCountOf}
use Rattle.mcv_lines.specs.declared.took.Heard.{Heard}
use Rattle.mcv_lines.specs.declared.took.Heard.TheVariants as heard
use Rattle.mcv_lines.specs.declared.took.Wrote.{Wrote}
use Rattle.mcv_lines.specs.declared.took.Wrote.TheVariants as wrote

-- ---- a connection that was opened

pub life_begins : (ends : Ends) → Life (record { carrier = unused; ends = ends; is_kept = false; has_begun = false; unwritten = 0 })
life_begins ends = record {
  requests = [];
  history = unlived;
  carried = carried_begins;
  each_sent = refl;
  texts = refl;
  unwritten = [];
  whole = refl;
  count = refl;
  waits = refl;
  opened = ends;
  writes = Appends-nil ends.given;
  heard = [];
  reads = Consumes-nil ends.left;
  replies = [];
  each_landed = refl;
  replied = (refl, refl);
  kept = refl;
  begun = λ now. refl;
}

-- ---- a leg is sent

sent_replied : (requests : List LegRequest) (request : LegRequest) (bytes : List ℕ) (replies : List ReplyValue) (old new : Connection) → HasReplied (map asked_leg requests) bytes replies old
    → Sends old (asked_leg request) (Ok tt) new → HasReplied (map asked_leg (requests ++ request ∷ [])) bytes replies new
sent_replied requests request bytes replies (Open left held) new r s =
    let later = replied_later (map asked_leg requests) bytes replies left held (asked_leg request) r in
    let legs : map asked_leg (requests ++ request ∷ []) ≡ map asked_leg requests ++ asked_leg request ∷ [] = map-append asked_leg requests (request ∷ []) in
    subst (λ (c : Connection). HasReplied (map asked_leg (requests ++ request ∷ [])) bytes replies c) (sym s)
    (subst (λ (asked : List Leg). HasReplied asked bytes replies (Open (left ++ asked_leg request ∷ []) held)) (sym legs) later)
sent_replied requests request bytes replies Closed new r s = let e = s.0 in absurd (cc)

sent_held : (old new : Connection) (leg : Leg) → Sends old leg (Ok tt) new → held_of new ≡ held_of old
sent_held (Open legs held) new leg s = ap held_of s
sent_held Closed new leg s = let e = s.0 in absurd (cc)

as_many : (requests : List LegRequest) (sent : List LegId) (request : LegRequest) (number : LegId) → length requests ≡ length sent → length (requests ++ request ∷ []) ≡ length (sent ++ number ∷ [])
as_many requests sent request number e = let one = length_push requests request in let other = length_push sent number in omega (arith, e, one, other)

sent_whole : (written unwritten text : List ℕ) (texts : List (List ℕ)) → written ++ unwritten ≡ concat texts → written ++ (unwritten ++ text) ≡ concat (texts ++ text ∷ [])
sent_whole written unwritten text texts e =
    sym (append_assoc written unwritten text) ∙ ap (λ (bytes : List ℕ). bytes ++ text) e ∙ ap (λ (bytes : List ℕ). concat texts ++ bytes) (sym (append-nil text)) ∙ sym (concat-append texts (text ∷ []))

sent_count : (before after : ℕ) (unwritten text : List ℕ) → before ≡ length unwritten → after ≡ before + length text → after ≡ length (unwritten ++ text)
sent_count before after unwritten text e more = let both = length-append unwritten text in omega (arith, e, more, both)

sent_waits : (old new : Connection) (leg : Leg) (unwritten text output then_output : List ℕ) → Sends old leg (Ok tt) new → output ≡ waiting_of old unwritten → then_output ≡ output ++ text → then_output ≡ waiting_of new (unwritten ++ text)
sent_waits (Open legs held) new leg unwritten text output then_output s e more =
    more ∙ ap (λ (bytes : List ℕ). bytes ++ text) e ∙ ap (λ (c : Connection). waiting_of c (unwritten ++ text)) (sym s)
sent_waits Closed new leg unwritten text output then_output s e more = let shut = s.0 in absurd (cc)

-- where a leg was sent, all that is unwritten is to be written
waiting_open : (old new : Connection) (leg : Leg) (unwritten : List ℕ) → Sends old leg (Ok tt) new → waiting_of old unwritten ≡ unwritten
waiting_open (Open legs held) new leg unwritten s = refl
waiting_open Closed new leg unwritten s = let shut = s.0 in absurd (cc)

pub sent_unwritten : (old : ChannelValue) (new : UpstreamValue) (number : LegId) (request : LegRequest) → Life old → SendsText old.carrier number (asked_leg request) (request_text request) (Ok tt) new
    → length new.output ≡ old.unwritten + length (request_text request)
sent_unwritten old new number request l s =
    let output = s.output in
    let all = ap length (l.waits ∙ waiting_open old.carrier.legs.connection new.legs.connection (asked_leg request) l.unwritten s.sends.sends) in
    let more = ap length output in
    let both = length-append old.carrier.output (request_text request) in
    let count = l.count in
    omega (arith, all, more, both, count)

-- what the channel counts behind it
pub sent_any : (old : ChannelValue) (new : UpstreamValue) (number : LegId) (request : LegRequest) (result : Result (Unit {0}) ReplyFault) (waiting count : ℕ) → Life old
    → SendsText old.carrier number (asked_leg request) (request_text request) result new → waiting ≡ length new.output → OnOk result (count ≡ waiting) → OnErr result (count ≡ old.unwritten)
    → count ≡ unwritten_sent old.unwritten (request_text request) result
sent_any old new number request (Ok done) waiting count l s e ok err = ok ∙ e ∙ sent_unwritten old new number request l s
sent_any old new number request (Err fault) waiting count l s e ok err = err

pub life_sent : (old new : ChannelValue) (number : LegId) (request : LegRequest) → Life old → SendsOver old number request (Ok tt) new → Life new
life_sent old new number request l s = record {
  requests = l.requests ++ request ∷ [];
  history = record l.history { sent = l.history.sent ++ number ∷ []; texts = l.history.texts ++ request_text request ∷ [] };
  carried = carried_sent l.history old.carrier new.carrier number (asked_leg request) (request_text request) l.carried s.sends;
  each_sent = as_many l.requests l.history.sent request number l.each_sent;
  texts = ap (λ (ts : List (List ℕ)). ts ++ request_text request ∷ []) l.texts ∙ sym (map-append request_text l.requests (request ∷ []));
  unwritten = l.unwritten ++ request_text request;
  whole = sent_whole l.history.written l.unwritten (request_text request) l.history.texts l.whole;
  count = sent_count old.unwritten new.unwritten l.unwritten (request_text request) l.count s.unwritten;
  waits = sent_waits old.carrier.legs.connection new.carrier.legs.connection (asked_leg request) l.unwritten (request_text request) old.carrier.output new.carrier.output s.sends.sends.sends l.waits s.sends.output;
  opened = l.opened;
  writes = subst (λ (e : Ends). Appends l.opened.given e.given l.history.written) (sym s.ends) l.writes;
  heard = l.heard;
  reads = subst (λ (e : Ends). Consumes l.opened.left e.left l.heard) (sym s.ends) l.reads;
  replies = l.replies;
  each_landed = l.each_landed;
  replied = sent_replied l.requests request l.heard l.replies old.carrier.legs.connection new.carrier.legs.connection l.replied s.sends.sends.sends;
  kept = s.kept ∙ l.kept;
  begun = λ now. sent_held old.carrier.legs.connection new.carrier.legs.connection (asked_leg request) s.sends.sends.sends ∙ l.begun (sym s.begun ∙ now);
}

-- a refusal changes nothing
pub refused_same : (old new : ChannelValue) (number : LegId) (request : LegRequest) (fault : ReplyFault) → SendsOver old number request (Err fault) new → new ≡ old
refused_same old new number request fault s =
    let connection : new.carrier.legs.connection ≡ old.carrier.legs.connection = stays_refused old.carrier.legs.connection new.carrier.legs.connection (asked_leg request) fault s.sends.sends.sends in
    let legs : new.carrier.legs.legs ≡ old.carrier.legs.legs = s.sends.sends.legs in
    let output : new.carrier.output ≡ old.carrier.output = s.sends.output in
    let ends : new.ends ≡ old.ends = s.ends in
    let kept : new.is_kept ≡ old.is_kept = s.kept in
    let begun : new.has_begun ≡ old.has_begun = s.begun in
    let unwritten : new.unwritten ≡ old.unwritten = s.unwritten in
    λ j. record { carrier = record { legs = record { legs = legs j; connection = connection j }; output = output j }; ends = ends j; is_kept = kept j; has_begun = begun j; unwritten = unwritten j }

pub life_refused : (old new : ChannelValue) (number : LegId) (request : LegRequest) (fault : ReplyFault) → Life old → SendsOver old number request (Err fault) new → Life new
life_refused old new number request fault l s = subst Life (sym (refused_same old new number request fault s)) l

-- ---- a write

count_within : (outcome : Wrote) (n all : ℕ) → IsCountOf outcome n all → n ≤ all
count_within wrote.All n all e = omega (arith, e)
count_within wrote.Part n all e = let few = e.1 in omega (arith, few)
count_within wrote.NotNow n all e = omega (arith, e)
count_within wrote.Over n all e = omega (arith, e)

none_waits : (output : List ℕ) (count : ℕ) → output ≡ [] → count ≤ length output → count ≡ 0
none_waits output count none few = let e = ap length none in omega (arith, e, few)

written_front : (c : Connection) (unwritten output : List ℕ) (count : ℕ) → output ≡ waiting_of c unwritten → count ≤ length output → take count output ≡ take count unwritten
written_front (Open legs held) unwritten output count e few = ap (λ (bytes : List ℕ). take count bytes) e
written_front Closed unwritten output zero e few = refl
written_front Closed unwritten output (suc count) e few = let none = none_waits output (suc count) e few in absurd (omega (arith, none))

written_whole : (c : Connection) (written unwritten output all : List ℕ) (count : ℕ) → output ≡ waiting_of c unwritten → count ≤ length output → written ++ unwritten ≡ all → (written ++ take count output) ++ drop count unwritten ≡ all
written_whole c written unwritten output all count e few whole =
    append_assoc written (take count output) (drop count unwritten) ∙ ap (λ (bytes : List ℕ). written ++ (bytes ++ drop count unwritten)) (written_front c unwritten output count e few)
    ∙ ap (λ (bytes : List ℕ). written ++ bytes) (take-append-drop count unwritten) ∙ whole

waiting_few : (c : Connection) (unwritten output : List ℕ) → output ≡ waiting_of c unwritten → length output ≤ length unwritten
waiting_few (Open legs held) unwritten output e = let same = ap length e in omega (arith, same)
waiting_few Closed unwritten output e = let none = ap length e in omega (arith, none)

-- no more is written than is unwritten
written_within : (old : ChannelValue) (count : ℕ) → Life old → count ≤ length old.carrier.output → count ≤ old.unwritten
written_within old count l few =
    let most = waiting_few old.carrier.legs.connection l.unwritten old.carrier.output l.waits in
    let all = l.count in
    omega (arith, few, most, all)

fewer_by : (before count : ℕ) → count ≤ before → before ≡ (before - count) + count
fewer_by before count few = omega (arith, few)

written_count : (before after count : ℕ) (unwritten : List ℕ) → before ≡ length unwritten → before ≡ after + count → after ≡ length (drop count unwritten)
written_count before after count unwritten e fewer = let left = length-drop count unwritten in omega (arith, e, fewer, left)

drop_none : {X : Type 0} (count : ℕ) → drop {A = X} count [] ≡ []
drop_none zero = refl
drop_none (suc count) = refl

written_waits : (c : Connection) (unwritten output : List ℕ) (count : ℕ) → output ≡ waiting_of c unwritten → drop count output ≡ waiting_of c (drop count unwritten)
written_waits (Open legs held) unwritten output count e = ap (λ (bytes : List ℕ). drop count bytes) e
written_waits Closed unwritten output count e = ap (λ (bytes : List ℕ). drop count bytes) e ∙ drop_none count

-- what one write does
pub writes_of : (old new : ChannelValue) (outcome : Wrote) (count : ℕ) → Life old → IsCountOf outcome count (length old.carrier.output) → new.carrier ≡ record old.carrier { output = drop count old.carrier.output }
    → Appends old.ends.given new.ends.given (take count old.carrier.output) → Keeps old.ends.left new.ends.left → new.is_kept ≡ old.is_kept → new.has_begun ≡ old.has_begun → new.unwritten ≡ old.unwritten - count → WritesOf old outcome new
writes_of old new outcome count l is_count carrier given unread kept begun fewer = record {
  writes = record { count = count; is_count = is_count; rest = ap (λ (u : UpstreamValue). u.output) carrier; given = given };
  legs = ap (λ (u : UpstreamValue). u.legs) carrier;
  unread = unread;
  kept = kept;
  begun = begun;
  fewer = fewer_by old.unwritten count (written_within old count l (count_within outcome count (length old.carrier.output) is_count)) ∙ ap (λ (n : ℕ). n + count) (sym fewer);
}

pub life_written : (old new : ChannelValue) (result : Wrote) → Life old → WritesOf old result new → Life new
life_written old new result l w =
    let count = w.writes.count in
    let rest : new.carrier.output ≡ drop count old.carrier.output = w.writes.rest in
    let legs : new.carrier.legs ≡ old.carrier.legs = w.legs in
    let carrier : new.carrier ≡ record old.carrier { output = drop count old.carrier.output } = λ j. record { legs = legs j; output = rest j } in
    let history = record l.history { written = l.history.written ++ take count old.carrier.output } in
    record {
      requests = l.requests;
      history = history;
      carried = subst (λ (c : UpstreamValue). Carried history c) (sym carrier) (carried_written l.history old.carrier count (count_within result count (length old.carrier.output) w.writes.is_count) l.carried);
      each_sent = l.each_sent;
      texts = l.texts;
      unwritten = drop count l.unwritten;
      whole = written_whole old.carrier.legs.connection l.history.written l.unwritten old.carrier.output (concat l.history.texts) count l.waits (count_within result count (length old.carrier.output) w.writes.is_count) l.whole;
      count = written_count old.unwritten new.unwritten count l.unwritten l.count w.fewer;
      waits = rest ∙ written_waits old.carrier.legs.connection l.unwritten old.carrier.output count l.waits ∙ ap (λ (p : PipelineValue). waiting_of p.connection (drop count l.unwritten)) (sym legs);
      opened = l.opened;
      writes = Appends-trans l.opened.given old.ends.given new.ends.given l.history.written (take count old.carrier.output) l.writes w.writes.given;
      heard = l.heard;
      reads = Consumes-kept l.opened.left old.ends.left new.ends.left l.heard l.reads w.unread;
      replies = l.replies;
      each_landed = l.each_landed;
      replied = subst (λ (p : PipelineValue). HasReplied (map asked_leg l.requests) l.heard l.replies p.connection) (sym legs) l.replied;
      kept = w.kept ∙ l.kept;
      begun = λ now. ap (λ (p : PipelineValue). held_of p.connection) legs ∙ l.begun (sym w.begun ∙ now);
    }

-- ---- a read

piece_replied : (legs : List Leg) (bytes piece : List ℕ) (replies more : List ReplyValue) (old new : Connection) (result : Result (Unit {0}) ReplyFault) → HasReplied legs bytes replies old → Receives old piece more result new
    → is_open old ≡ true → HasReplied legs (bytes ++ piece) (replies ++ more) new
piece_replied legs bytes piece replies more (Open mid held) new (Ok done) h r now =
    subst (λ (c : Connection). HasReplied legs (bytes ++ piece) (replies ++ more) c) (sym r.4) (replied_joined legs bytes piece replies more mid r.0 held r.1 h r.2)
piece_replied legs bytes piece replies more (Open mid held) new (Err faults.NotAReply) h r now =
    subst (λ (c : Connection). HasReplied legs (bytes ++ piece) (replies ++ more) c) (sym r.4) (r.0, r.1, replied_joined legs bytes piece replies more mid r.0 held r.1 h r.2)
piece_replied legs bytes piece replies more (Open mid held) new (Err faults.Closed) h r now = absurd r
piece_replied legs bytes piece replies more (Open mid held) new (Err faults.Memory) h r now =
    subst (λ (c : Connection). HasReplied legs (bytes ++ piece) (replies ++ more) c) (sym r.3) (r.0, r.1, replied_joined legs bytes piece replies more mid r.0 held r.1 h r.2)
piece_replied legs bytes piece replies more Closed new result h r now = absurd (cc)

read_waits : (old new : Connection) (piece unwritten output then_output : List ℕ) (replies : List ReplyValue) (result : Result (Unit {0}) ReplyFault) → is_open old ≡ true → Receives old piece replies result new
    → output ≡ waiting_of old unwritten → then_output ≡ output_after result output → then_output ≡ waiting_of new unwritten
read_waits (Open mid held) new piece unwritten output then_output replies (Ok done) now r e then = then ∙ e ∙ ap (λ (c : Connection). waiting_of c unwritten) (sym r.4)
read_waits (Open mid held) new piece unwritten output then_output replies (Err faults.NotAReply) now r e then = then ∙ ap (λ (c : Connection). waiting_of c unwritten) (sym r.4)
read_waits (Open mid held) new piece unwritten output then_output replies (Err faults.Closed) now r e then = absurd r
read_waits (Open mid held) new piece unwritten output then_output replies (Err faults.Memory) now r e then = then ∙ ap (λ (c : Connection). waiting_of c unwritten) (sym r.3)
read_waits Closed new piece unwritten output then_output replies result now r e then = absurd (cc)

waits_none : (left : List Leg) (rest : List ℕ) → Waits left rest → ltb 0 (length left) ≡ false → rest ≡ []
waits_none [] rest waits none = waits
waits_none (leg ∷ left) rest waits none = let few = ltb-false 0 (length (leg ∷ left)) none in absurd (omega (arith, few))

-- where no leg is left in flight, nothing has come of a reply
piece_held : (old new : Connection) (piece : List ℕ) (more : List ReplyValue) → Receives old piece more (Ok tt) new → ltb 0 (flying new) ≡ false → held_of new ≡ []
piece_held (Open mid held) new piece more r none =
    ap held_of r.4 ∙ waits_none r.0 r.1 r.3 (ap (λ (c : Connection). ltb 0 (flying c)) (sym r.4) ∙ none)
piece_held Closed new piece more r none = let e = r.1 in absurd (cc)

closed_held : (c : Connection) → is_open c ≡ false → held_of c ≡ []
closed_held (Open legs held) shut = absurd (cc)
closed_held Closed shut = refl

some_joined : {X : Type 0} (xs ys : List X) → has_some (xs ++ ys) ≡ (has_some xs || has_some ys)
some_joined [] ys = refl
some_joined (x ∷ xs) ys = refl

some_mapped : {X Y : Type 0} (f : X → Y) (xs : List X) → has_some (map f xs) ≡ has_some xs
some_mapped f [] = refl
some_mapped f (x ∷ xs) = refl

landed_each : (replies : List ReplyValue) (before : List LegId) (landed : List Landed) → length replies ≡ length before → length (replies ++ map reply_of landed) ≡ length (before ++ map leg_of landed)
landed_each replies before landed e =
    let one = length-append replies (map reply_of landed) in
    let other = length-append before (map leg_of landed) in
    let replied = length-map landed reply_of in
    let numbered = length-map landed leg_of in
    omega (arith, e, one, other, replied, numbered)

life_piece : (old new : ChannelValue) (piece : List ℕ) (landed : List Landed) (result : Result (Unit {0}) ReplyFault) → Life old → is_open old.carrier.legs.connection ≡ true
    → ReadsPiece old.carrier old.ends.left piece landed result new.carrier new.ends.left → Keeps old.ends.given new.ends.given → new.is_kept ≡ (old.is_kept || has_some landed)
    → (new.has_begun ≡ false → held_of new.carrier.legs.connection ≡ []) → new.unwritten ≡ old.unwritten → Life new
life_piece old new piece landed result l now r given kept begun same = record {
  requests = l.requests;
  history = record l.history { landed = l.history.landed ++ map leg_of landed };
  carried = carried_landed l.history old.carrier new.carrier piece landed result l.carried r.lands r.output;
  each_sent = l.each_sent;
  texts = l.texts;
  unwritten = l.unwritten;
  whole = l.whole;
  count = same ∙ l.count;
  waits = read_waits old.carrier.legs.connection new.carrier.legs.connection piece l.unwritten old.carrier.output new.carrier.output (map reply_of landed) result now r.lands.receives l.waits r.output;
  opened = l.opened;
  writes = Appends-kept l.opened.given old.ends.given new.ends.given l.history.written l.writes given;
  heard = l.heard ++ piece;
  reads = Consumes-trans l.opened.left old.ends.left new.ends.left l.heard piece l.reads r.left;
  replies = l.replies ++ map reply_of landed;
  each_landed = landed_each l.replies l.history.landed landed l.each_landed;
  replied = piece_replied (map asked_leg l.requests) l.heard piece l.replies (map reply_of landed) old.carrier.legs.connection new.carrier.legs.connection result l.replied r.lands.receives now;
  kept = kept ∙ ap (λ (b : Bool). b || has_some landed) l.kept ∙ ap (λ (b : Bool). has_some l.replies || b) (sym (some_mapped reply_of landed)) ∙ sym (some_joined l.replies (map reply_of landed));
  begun = begun;
}

or_none : (b : Bool) → (b || false) ≡ b
or_none true = refl
or_none false = refl

life_unread : (old new : ChannelValue) (landed : List Landed) → Life old → ReadsNone old.carrier old.ends.left landed new.carrier new.ends.left → Keeps old.ends.given new.ends.given
    → new.is_kept ≡ (old.is_kept || has_some landed) → new.has_begun ≡ old.has_begun → new.unwritten ≡ old.unwritten → Life new
life_unread old new landed l r given kept begun same = record {
  requests = l.requests;
  history = l.history;
  carried = subst (λ (c : UpstreamValue). Carried l.history c) (sym r.carrier) l.carried;
  each_sent = l.each_sent;
  texts = l.texts;
  unwritten = l.unwritten;
  whole = l.whole;
  count = same ∙ l.count;
  waits = subst (λ (c : UpstreamValue). c.output ≡ waiting_of c.legs.connection l.unwritten) (sym r.carrier) l.waits;
  opened = l.opened;
  writes = Appends-kept l.opened.given old.ends.given new.ends.given l.history.written l.writes given;
  heard = l.heard ++ [];
  reads = Consumes-trans l.opened.left old.ends.left new.ends.left l.heard [] l.reads r.left;
  replies = l.replies;
  each_landed = l.each_landed;
  replied =
      subst (λ (c : UpstreamValue). HasReplied (map asked_leg l.requests) (l.heard ++ []) l.replies c.legs.connection) (sym r.carrier)
      (subst (λ (bytes : List ℕ). HasReplied (map asked_leg l.requests) bytes l.replies old.carrier.legs.connection) (sym (append-nil l.heard)) l.replied);
  kept = kept ∙ ap (λ (xs : List Landed). old.is_kept || has_some xs) r.none ∙ or_none old.is_kept ∙ l.kept;
  begun = λ now. ap (λ (c : UpstreamValue). held_of c.legs.connection) r.carrier ∙ l.begun (sym begun ∙ now);
}

pub life_read : (old new : ChannelValue) (room : List ℕ) (result : Heard) (landed : List Landed) → Life old → is_open old.carrier.legs.connection ≡ true → ReadsOf old room result landed new → Life new
life_read old new room (heard.Bytes n) landed l now r =
    life_piece old new (take n room) landed (Ok tt) l now r.reads.1 r.given r.kept
    (λ none. piece_held old.carrier.legs.connection new.carrier.legs.connection (take n room) (map reply_of landed) r.reads.1.lands.receives (sym r.begun ∙ none)) r.unwritten
life_read old new room heard.NotNow landed l now r = life_unread old new landed l r.reads r.given r.kept r.begun r.unwritten
life_read old new room heard.Over landed l now r = life_unread old new landed l r.reads r.given r.kept r.begun r.unwritten
life_read old new room heard.Faulty landed l now r =
    life_piece old new (take r.reads.0 room) landed (Err r.reads.1) l now r.reads.3 r.given r.kept
    (λ none. closed_held new.carrier.legs.connection (closed_received old.carrier.legs.connection new.carrier.legs.connection (take r.reads.0 room) (map reply_of landed) r.reads.1 r.reads.3.lands.receives)) r.unwritten
life_read old new room heard.Answers landed l now r = absurd r.reads

-- ---- the connection is closed

closed_replied : (legs : List Leg) (bytes : List ℕ) (replies : List ReplyValue) (c : Connection) → HasReplied legs bytes replies c → HasReplied legs bytes replies Closed
closed_replied legs bytes replies (Open left held) r = (left, held, r)
closed_replied legs bytes replies Closed r = r

pub life_closed : (old : ChannelValue) → Life old → Life (record old { carrier = record { legs = record old.carrier.legs { connection = Closed }; output = [] } })
life_closed old l = record {
  requests = l.requests;
  history = l.history;
  carried = carried_closed l.history old.carrier l.carried;
  each_sent = l.each_sent;
  texts = l.texts;
  unwritten = l.unwritten;
  whole = l.whole;
  count = l.count;
  waits = refl;
  opened = l.opened;
  writes = l.writes;
  heard = l.heard;
  reads = l.reads;
  replies = l.replies;
  each_landed = l.each_landed;
  replied = closed_replied (map asked_leg l.requests) l.heard l.replies old.carrier.legs.connection l.replied;
  kept = l.kept;
  begun = λ now. refl;
}

-- ---- as the channel's functions have it

pub life_asked : (old new : ChannelValue) (number : LegId) (request : LegRequest) (result : Result (Unit {0}) ReplyFault) → Life old → SendsOver old number request result new → Life new
life_asked old new number request (Ok done) l s = life_sent old new number request l s
life_asked old new number request (Err fault) l s = life_refused old new number request fault l s

-- a list that has grown has something behind
pub grown_some : {X : Type 0} (old more new : List X) → new ≡ old ++ more → ltb (length old) (length new) ≡ has_some more
grown_some old [] new e =
    let same = length-append old [] in
    let count = ap length e in
    le-ltb (length old) (length new) (omega (arith, same, count))
grown_some old (x ∷ more) new e =
    let longer = length-append old (x ∷ more) in
    let count = ap length e in
    lt-ltb (length old) (length new) (omega (arith, longer, count))
