-- Steps of the oldest leg's reply.
use Rattle.std.proofs.Common.{◌≡◌, ◌≢◌, ◌⊎◌, inl, inr, ℕ, ◌<◌, Bool, true, false, not, List, [], ◌∷◌, ◌++◌, length, get_or, take, drop, map, refl, sym, ap, subst, ◌∙◌, arith, append_assoc, length-append, Option, Some, None, Result, Ok, Err, OnOk, OnErr, if◌then◌else◌}
use Rattle.std.specs.Option.{option_to_list}
use Rattle.std.proofs.lemmas.List.{append-nil, map-append, nil_from_length, take-append-drop}
use Rattle.std.proofs.lemmas.List.Elements.{All-head, All-tail, All-nil, All-cons, All-append}
use Rattle.mcv_base.specs.declared.operation.Op.{Op}
use Rattle.mcv_base.specs.declared.reply.Reply.{Reply}
use Rattle.mcv_base.specs.Key.{is_key_word}
use Rattle.mcv_base.specs.Reply.{ReplyValue, reply_value}
use Rattle.mcv_reply.specs.declared.fault.ReplyFault.{ReplyFault}
use Rattle.mcv_reply.specs.declared.fault.ReplyFault.TheVariants.{NotAReply, Closed, Memory}
use Rattle.mcv_reply.specs.declared.progress.Progress.{Progress}
use Rattle.mcv_reply.specs.declared.progress.Step.{Step}
use Rattle.mcv_reply.specs.declared.progress.Stage.{Stage}
use Rattle.mcv_reply.specs.declared.progress.Stage.TheVariants as stages
use Rattle.mcv_reply.specs.Reader.{Fed}
use Rattle.mcv_reply.specs.Reply.{Spells}
use Rattle.mcv_reply.specs.Progress.{IsAt, IsAtStage, StepMakes, Steps, bytes_at, reader_state_at}
use Rattle.mcv_reply.specs.Replies as replies
use Rattle.mcv_reply.specs.Replies.{Connection, HaveKeys, IsUnasked, Leg, Receives, Replied, Waits}
use Rattle.mcv_reply.specs.Flight.{HasCome, IsFlight, IsRead, Leads, OldestMakes, OldestSteps, ReadsReplies, connection_of, held_in, is_over}
use Rattle.mcv_reply.proofs.Steps.{is_front}
use Rattle.mcv_reply.proofs.Words.{key_clean}

-- a reply that is being read has bytes
pub open_fed : (stage : Stage) (p : Progress) → is_over stage ≡ false → reader_state_at stage p ≡ Fed (bytes_at stage p)
open_fed stages.Start p e = refl
open_fed stages.Line p e = refl
open_fed stages.Value p e = refl
open_fed stages.Return p e = refl
open_fed stages.Last p e = refl
open_fed stages.Answered p e = absurd (cc)
open_fed stages.Closed p e = absurd (cc)

pub fed_open : (stage : Stage) (p : Progress) (bytes : List ℕ) → reader_state_at stage p ≡ Fed bytes → (is_over stage ≡ false) × (bytes_at stage p ≡ bytes)
fed_open stages.Start p bytes e = (refl, cc)
fed_open stages.Line p bytes e = (refl, cc)
fed_open stages.Value p bytes e = (refl, cc)
fed_open stages.Return p bytes e = (refl, cc)
fed_open stages.Last p bytes e = (refl, cc)
fed_open stages.Answered p bytes e = absurd (cc)
fed_open stages.Closed p bytes e = absurd (cc)

-- a connection is open until nothing is read any more
pub open_is : (over : Bool) (legs : List Leg) (held : List ℕ) → replies.is_open (if over then replies.Closed else replies.Open legs held) ≡ not over
open_is true legs held = refl
open_is false legs held = refl

-- of a value some has come
not_none : (front back : List ℕ) (byte : ℕ) → (front ++ byte ∷ back) ≢ []
not_none front back byte e = omega (arith, ap length e, length-append front (byte ∷ back))

pub value_come : (stage : Stage) (p : Progress) → (stage ≡ stages.Value) ⊎ (stage ≡ stages.Return) ⊎ (stage ≡ stages.Last) → HasCome stage p
value_come stage p (inl e) = subst (λ (s : Stage). HasCome s p) (sym e) (not_none p.first.items p.body.items 10)
value_come stage p (inr (inl e)) = subst (λ (s : Stage). HasCome s p) (sym e) (not_none p.first.items (p.body.items ++ 13 ∷ []) 10)
value_come stage p (inr (inr e)) = subst (λ (s : Stage). HasCome s p) (sym e) (not_none p.first.items (p.body.items ++ 13 ∷ 10 ∷ p.text.items) 10)

-- before a reply nothing has come
pub starts_read : (legs : List Leg) (p : Progress) → p.stage ≡ stages.Start → IsRead legs p
starts_read [] p e = e
starts_read (leg ∷ legs) p e = (subst (λ (s : Stage). IsAtStage leg.op leg.key p s) (sym e) tt, subst (λ (s : Stage). is_over s ≡ false) (sym e) refl)

pub starts_none : (p : Progress) → p.stage ≡ stages.Start → held_in p ≡ []
starts_none p e = ap (λ (s : Stage). bytes_at s p) e

pub keys_left : (legs : List Leg) → HaveKeys legs → HaveKeys (drop 1 legs)
keys_left [] keys = keys
keys_left (leg ∷ legs) keys = All-tail (λ l. is_key_word l.key ≡ true) leg legs keys

pub leads : (legs : List Leg) (leg : Leg) → 0 < length legs → leg ≡ get_or legs 0 leg → Leads leg legs
leads [] leg some e = absurd (omega arith)
leads (first ∷ legs) leg some e = (legs, ap (λ l. l ∷ legs) (sym e))

-- of the oldest leg
pub oldest_key : (leg : Leg) (legs : List Leg) → Leads leg legs → HaveKeys legs → is_key_word leg.key ≡ true
oldest_key leg legs first keys = All-head (λ l. is_key_word l.key ≡ true) leg first.0 (subst HaveKeys first.1 keys)

pub oldest_read : (leg : Leg) (legs : List Leg) (p : Progress) → Leads leg legs → IsRead legs p → IsAt leg.op leg.key p × (is_over p.stage ≡ false)
oldest_read leg legs p first read = subst (λ (l : List Leg). IsRead l p) first.1 read

pub steps_of : (op own : Op) (key word bytes piece : List ℕ) (result : Result Step ReplyFault) (new : Progress) → op ≡ own → key ≡ word → Steps op key bytes piece result new → Steps own word bytes piece result new
steps_of op own key word bytes piece result new op_is key_is steps = subst (λ (o : Op). Steps o word bytes piece result new) op_is (subst (λ (k : List ℕ). Steps op k bytes piece result new) key_is steps)

-- where no leg is in flight any byte is unasked
pub unasked_none : (legs : List Leg) (held piece : List ℕ) → legs ≡ [] → 0 < length piece → IsUnasked legs (held ++ piece)
unasked_none legs held piece none some = subst (λ (l : List Leg). IsUnasked l (held ++ piece)) (sym none) (λ e. omega (arith, ap length e, length-append held piece))

module _ (legs : List Leg) (p : Progress) (piece : List ℕ) (leg : Leg) (first : Leads leg legs) where
  pub oldest_fault : (fault : ReplyFault) (new now : Progress) (left : List Leg) → Steps leg.op leg.key (held_in p) piece (Err fault) new → OldestSteps legs p piece (Err fault) left now
  oldest_fault NotAReply new now left none = subst (λ (l : List Leg). IsUnasked l (held_in p ++ piece)) (sym first.1) none
  oldest_fault Closed new now left none = none
  oldest_fault Memory new now left none = tt

  pub oldest_none : (used : ℕ) (o : Option Reply) (new : Progress) → HaveKeys legs → o ≡ None → StepMakes leg.op leg.key (held_in p) (take used piece) o new → IsFlight legs new × OldestMakes legs (held_in p ++ take used piece) None legs (held_in new)
  oldest_none used o new keys is makes =
      let made : IsAt leg.op leg.key new × (reader_state_at new.stage new ≡ Fed (held_in p ++ take used piece)) = subst (λ (t : Option Reply). StepMakes leg.op leg.key (held_in p) (take used piece) t new) is makes in
      let shown = fed_open new.stage new (held_in p ++ take used piece) made.1 in
      (record { keys = keys; is_read = subst (λ (l : List Leg). IsRead l new) (sym first.1) (made.0, shown.0) }, (refl, shown.1))

  pub oldest_reply : (used : ℕ) (o : Option Reply) (reply : Reply) (new now : Progress) (left : List Leg) → o ≡ Some reply → left ≡ drop 1 legs → held_in now ≡ [] → StepMakes leg.op leg.key (held_in p) (take used piece) o new → OldestMakes legs (held_in p ++ take used piece) (Some reply) left (held_in now)
  oldest_reply used o reply new now left is left_is none makes =
      let spelled : Spells leg.op leg.key (held_in p ++ take used piece) (reply_value reply) = subst (λ (t : Option Reply). StepMakes leg.op leg.key (held_in p) (take used piece) t new) is makes in
      (leg, first.1 ∙ ap (λ l. leg ∷ l) (sym (left_is ∙ ap (drop 1) first.1)), spelled, none)

-- the replies so far lead to what all bytes lead to
abbrev pub LeadsOn : List Leg → List ℕ → List ReplyValue → List Leg → List ℕ → Type 0
LeadsOn legs bytes given now rest = (more : List ReplyValue) (left : List Leg) (end : List ℕ) → Replied now rest more left end → Replied legs bytes (given ++ more) left end

pub leads_none : (legs : List Leg) (bytes : List ℕ) → LeadsOn legs bytes [] legs bytes
leads_none legs bytes more left end r = r

pub leads_read : (legs : List Leg) (bytes held : List ℕ) (given : List ReplyValue) (now new : List Leg) (left made : List ℕ) (used : ℕ) → LeadsOn legs bytes given now (held ++ left) → new ≡ now → made ≡ held ++ take used left → LeadsOn legs bytes given new (made ++ drop used left)
leads_read legs bytes held given now new left made used on same is more last end r =
    let whole : made ++ drop used left ≡ held ++ left = ap (λ t. t ++ drop used left) is ∙ append_assoc held (take used left) (drop used left) ∙ ap (λ t. held ++ t) (take-append-drop used left) in
    on more last end (subst (λ (l : List Leg). Replied l (held ++ left) more last end) same (subst (λ (t : List ℕ). Replied new t more last end) whole r))

pub leads_reply : (legs : List Leg) (bytes held : List ℕ) (given : List Reply) (now new : List Leg) (left made : List ℕ) (used : ℕ) (reply : Reply) → LeadsOn legs bytes (map reply_value given) now (held ++ left) → OldestMakes now (held ++ take used left) (Some reply) new made
    → LeadsOn legs bytes (map reply_value (given ++ reply ∷ [])) new (made ++ drop used left)
leads_reply legs bytes held given now new left made used reply on makes more last end r =
    let leg = makes.0 in
    let rest : Replied new (drop used left) more last end = subst (λ (t : List ℕ). Replied new (t ++ drop used left) more last end) makes.3 r in
    let whole : held ++ left ≡ (held ++ take used left) ++ drop used left = ap (λ t. held ++ t) (sym (take-append-drop used left)) ∙ sym (append_assoc held (take used left) (drop used left)) in
    let one : Replied (leg ∷ new) (held ++ left) (reply_value reply ∷ more) last end = (held ++ take used left, drop used left, whole, makes.2, rest) in
    let all = on (reply_value reply ∷ more) last end (subst (λ (l : List Leg). Replied l (held ++ left) (reply_value reply ∷ more) last end) (sym makes.1) one) in
    let same : map reply_value given ++ (reply_value reply ∷ more) ≡ map reply_value (given ++ reply ∷ []) ++ more = sym (ap (λ t. t ++ more) (map-append reply_value given (reply ∷ [])) ∙ append_assoc (map reply_value given) (reply_value reply ∷ []) more) in
    subst (λ (t : List ReplyValue). Replied legs bytes t last end) same all

-- one step more
pub leads_step : (legs : List Leg) (bytes held : List ℕ) (given : List Reply) (now new : List Leg) (left made : List ℕ) (used : ℕ) (o : Option Reply) → LeadsOn legs bytes (map reply_value given) now (held ++ left) → OldestMakes now (held ++ take used left) o new made
    → LeadsOn legs bytes (map reply_value (given ++ option_to_list o)) new (made ++ drop used left)
leads_step legs bytes held given now new left made used None on makes =
    subst (λ (g : List Reply). LeadsOn legs bytes (map reply_value g) new (made ++ drop used left)) (sym (append-nil given)) (leads_read legs bytes held (map reply_value given) now new left made used on makes.0 makes.1)
leads_step legs bytes held given now new left made used (Some reply) on makes = leads_reply legs bytes held given now new left made used reply on makes

pub leads_end : (legs : List Leg) (bytes : List ℕ) (given : List ReplyValue) (now : List Leg) (rest : List ℕ) → LeadsOn legs bytes given now rest → Replied legs bytes given now rest
leads_end legs bytes given now rest on = subst (λ (t : List ReplyValue). Replied legs bytes t now rest) (append-nil given) (on [] now rest (refl, refl))

-- a fault of a step is one of the piece
pub leads_fault : (legs : List Leg) (bytes left : List ℕ) (given : List ReplyValue) (now : List Leg) (p : Progress) (fault : ReplyFault) (after last : List Leg) (new end : Progress) → LeadsOn legs bytes given now (held_in p ++ left) → OldestSteps now p left (Err fault) after new → ReadsReplies legs bytes given (Err fault) last end
leads_fault legs bytes left given now p NotAReply after last new end on steps = (now, held_in p ++ left, leads_end legs bytes given now (held_in p ++ left) on, steps)
leads_fault legs bytes left given now p Closed after last new end on steps = steps
leads_fault legs bytes left given now p Memory after last new end on steps = (now, held_in p ++ left, leads_end legs bytes given now (held_in p ++ left) on)

pub leads_memory : (legs : List Leg) (bytes : List ℕ) (given : List ReplyValue) (now : List Leg) (rest : List ℕ) (fault : ReplyFault) (last : List Leg) (end : Progress) → fault ≡ Memory → LeadsOn legs bytes given now rest → ReadsReplies legs bytes given (Err fault) last end
leads_memory legs bytes given now rest fault last end is on = subst (λ (f : ReplyFault). ReadsReplies legs bytes given (Err f) last end) (sym is) (now, rest, leads_end legs bytes given now rest on)

-- the piece has been read
pub leads_all : (legs : List Leg) (bytes left : List ℕ) (given : List ReplyValue) (now : List Leg) (p : Progress) → length left ≡ 0 → IsFlight now p → LeadsOn legs bytes given now (held_in p ++ left) → IsFlight now p × Replied legs bytes given now (held_in p)
leads_all legs bytes left given now p none flight on = (flight, subst (λ (t : List ℕ). Replied legs bytes given now t) (ap (λ t. held_in p ++ t) (nil_from_length left none) ∙ append-nil (held_in p)) (leads_end legs bytes given now (held_in p ++ left) on))

-- what is read waits for more
pub flight_waits : (legs : List Leg) (p : Progress) → IsFlight legs p → Waits legs (held_in p)
flight_waits [] p f = starts_none p f.is_read
flight_waits (leg ∷ legs) p f = is_front leg.op leg.key p p.stage (held_in p) (key_clean leg.key (All-head (λ l. is_key_word l.key ≡ true) leg legs f.keys)) f.is_read.0 (open_fed p.stage p f.is_read.1)

pub flight_open : (legs : List Leg) (p : Progress) → IsRead legs p → is_over p.stage ≡ false
flight_open [] p read = ap is_over read
flight_open (leg ∷ legs) p read = read.1

pub shown_open : (legs : List Leg) (p : Progress) → is_over p.stage ≡ false → connection_of legs p ≡ replies.Open legs (held_in p)
shown_open legs p e = ap (λ (b : Bool). if b then replies.Closed else replies.Open legs (held_in p)) e

pub shown_closed : (legs : List Leg) (p : Progress) → is_over p.stage ≡ true → connection_of legs p ≡ replies.Closed
shown_closed legs p e = ap (λ (b : Bool). if b then replies.Closed else replies.Open legs (held_in p)) e

-- a piece that is read is one that is received
pub received : (legs : List Leg) (held piece : List ℕ) (given : List ReplyValue) (result : Result Unit ReplyFault) (left : List Leg) (p : Progress) (new : Connection) → ReadsReplies legs (held ++ piece) given result left p → OnOk result (new ≡ connection_of left p) → OnErr result (new ≡ replies.Closed)
    → Receives (replies.Open legs held) piece given result new
received legs held piece given (Ok done) left p new reads shown closed = (left, held_in p, reads.1, flight_waits left p reads.0, shown ∙ shown_open left p (flight_open left p reads.0.is_read))
received legs held piece given (Err NotAReply) left p new reads shown closed = (reads.0, reads.1, reads.2, reads.3, closed)
received legs held piece given (Err Closed) left p new reads shown closed = reads
received legs held piece given (Err Memory) left p new reads shown closed = (reads.0, reads.1, reads.2, closed)

-- a leg more
pub flight_sent : (legs : List Leg) (p : Progress) (leg : Leg) → IsFlight legs p → is_key_word leg.key ≡ true → IsFlight (legs ++ leg ∷ []) p
flight_sent legs p leg f key = record { keys = All-append (λ l. is_key_word l.key ≡ true) legs (leg ∷ []) f.keys (All-cons (λ l. is_key_word l.key ≡ true) leg [] key (All-nil (λ l. is_key_word l.key ≡ true))); is_read = sent_read legs f.is_read }
  where
    sent_read : (legs : List Leg) → IsRead legs p → IsRead (legs ++ leg ∷ []) p
    sent_read [] read = starts_read (leg ∷ []) p read
    sent_read (first ∷ legs) read = read
