-- Answers of the steps.
use Rattle.std.proofs.Common.{◌≡◌, ◌≢◌, ◌⊎◌, inl, inr, ℕ, ◌+◌, ◌<◌, Bool, true, List, [], ◌∷◌, ◌++◌, length, get_or, take, drop, refl, sym, ap, subst, ◌∙◌, arith, append_assoc, length-append, Option, Some, None, Result, Ok, Err, eq-eqb}
use Rattle.std.specs.List.{All}
use Rattle.std.specs.Prelude.{codes}
use Rattle.std.proofs.lemmas.Bool.{eqb-true}
use Rattle.std.proofs.lemmas.List.{append-nil, take-append-drop, drop_more, length-take, get_or-take, take_more, nil_from_length}
use Rattle.std.proofs.lemmas.List.Elements.{All-from_get_or}
use Rattle.memchr.specs.Find.{IsFirstByte, is_byte}
use Rattle.mcv_base.specs.declared.operation.Op.{Op}
use Rattle.mcv_base.specs.declared.reply.Reply.{Reply}
use Rattle.mcv_base.specs.Reply.{ReplyValue, hit, reply_value}
use Rattle.mcv_reply.specs.declared.word.Word.{Word}
use Rattle.mcv_reply.specs.declared.word.Word.TheVariants.{End, Value, Error}
use Rattle.mcv_reply.specs.declared.word.Row.{Row}
use Rattle.mcv_reply.specs.declared.word.Row.TheVariants as rows
use Rattle.mcv_reply.specs.declared.candidate.Head.{Head}
use Rattle.mcv_reply.specs.declared.candidate.Candidate.{Candidate}
use Rattle.mcv_reply.specs.declared.fault.ReplyFault.{ReplyFault}
use Rattle.mcv_reply.specs.declared.fault.ReplyFault.TheVariants.{NotAReply, Closed, Memory}
use Rattle.mcv_reply.specs.declared.progress.Progress.{Progress}
use Rattle.mcv_reply.specs.declared.progress.Stage.{Stage}
use Rattle.mcv_reply.specs.declared.progress.Stage.TheVariants as stages
use Rattle.mcv_reply.specs.Reader as reader_states
use Rattle.mcv_reply.specs.Word.{answers, has_cas}
use Rattle.mcv_reply.specs.Line.{IsLine}
use Rattle.mcv_reply.specs.Candidate.{GoesOn, IsKept, is_clean, zero_head}
use Rattle.mcv_reply.specs.Reply.{Spells, cas_said}
use Rattle.mcv_reply.specs.Reader.{ReaderState, Fed, Answers, FeedsAt, IsFront, BeginsNone, IsNoReply}
use Rattle.mcv_reply.specs.Progress.{bytes_at, HitMade, IsAt, IsAtStage, LastEnds, FirstEnds, ReadsPiece, StepMakes, Steps, reader_state_at}
use Rattle.mcv_reply.proofs.Spelling.{replies_one}
use Rattle.mcv_reply.proofs.Stages.{error_line, front_nothing, front_last, front_line, front_return, front_value, begins_more, end_line, last_right, last_whole, no_last_begins, no_line_begins, only_end}

-- no LF is found
pub no_end_found : (piece : List ℕ) → IsFirstByte (is_byte 10) piece None → All (λ b. b ≢ 10) piece
no_end_found piece none = All-from_get_or (λ b. b ≢ 10) piece 0 (λ k l is. none k (omega arith) l (eq-eqb (get_or piece k 0) 10 is))

-- the first LF is found
pub end_before : (piece : List ℕ) (end : ℕ) → IsFirstByte (is_byte 10) piece (Some end) → All (λ b. b ≢ 10) (take end piece)
end_before piece end found = All-from_get_or (λ b. b ≢ 10) (take end piece) 0 (λ k l is.
    let low : k < end = omega (arith, length-take end piece) in
    found.0.before k (omega arith) low (eq-eqb (get_or piece k 0) 10 (sym (get_or-take end piece k 0 low) ∙ is)))

pub end_cut : (piece : List ℕ) (end : ℕ) → IsFirstByte (is_byte 10) piece (Some end) → piece ≡ take end piece ++ 10 ∷ drop (end + 1) piece
end_cut piece end found =
    let within : end < length piece = found.0.high in
    let at : get_or piece end 0 ≡ 10 = eqb-true (get_or piece end 0) 10 found.1 in
    sym (take-append-drop end piece) ∙ ap (λ t. take end piece ++ t) (drop_more piece end 0 within ∙ ap (λ b. b ∷ drop (end + 1) piece) at)

pub end_taken : (piece : List ℕ) (end : ℕ) → IsFirstByte (is_byte 10) piece (Some end) → take (end + 1) piece ≡ take end piece ++ 10 ∷ []
end_taken piece end found =
    let within : end < length piece = found.0.high in
    let at : get_or piece end 0 ≡ 10 = eqb-true (get_or piece end 0) 10 found.1 in
    take_more piece end 0 within ∙ ap (λ b. take end piece ++ b ∷ []) at

-- candidates are left where a line goes on
pub kept_some : (row : Row) (key : List ℕ) (candidates : List Candidate) (first : Word) (head : Head) (line : List ℕ) → IsKept row key [] candidates → IsLine row key first head line → 0 < length candidates
kept_some row key candidates first head line kept is = let any = kept.to first head line is in omega (arith, any.2)

pub last_some : (key : List ℕ) (candidates : List Candidate) → IsKept rows.AfterValue key [] candidates → 0 < length candidates
last_some key candidates kept = kept_some rows.AfterValue key candidates End zero_head (codes "END") kept (end_line key)

pub first_some : (op : Op) (key : List ℕ) (candidates : List Candidate) → IsKept (rows.Reply op) key [] candidates → 0 < length candidates
first_some op key candidates kept = kept_some (rows.Reply op) key candidates Error zero_head (codes "ERROR") kept (error_line op key)

-- no candidate is left
pub none_left : (row : Row) (key bytes : List ℕ) (candidates : List Candidate) → IsKept row key bytes candidates → length candidates ≡ 0 → (first : Word) (head : Head) (more : List ℕ) → IsLine row key first head (bytes ++ more) → ⊥
none_left row key bytes candidates kept none first head more is = let any = kept.to first head more is in omega (arith, any.2)

-- a fault in the first line
pub line_fault : (op : Op) (key old front x piece : List ℕ) (fault : ReplyFault) (bytes : List ℕ) (candidates : List Candidate) (new : Progress) → All (λ b. b ≢ 10) (old ++ front) → piece ≡ front ++ x → GoesOn (rows.Reply op) key old front (Err fault) bytes candidates → Steps op key old piece (Err fault) new
line_fault op key old front x piece NotAReply bytes candidates new clean cut none = begins_more op key (old ++ front) x (old ++ piece) (ap (λ t. old ++ t) cut ∙ sym (append_assoc old front x)) (no_line_begins op key (old ++ front) clean none)
line_fault op key old front x piece Closed bytes candidates new clean cut none = none
line_fault op key old front x piece Memory bytes candidates new clean cut none = tt

-- a fault at the end of the first line
pub first_fault : (op : Op) (key old front x piece line : List ℕ) (fault : ReplyFault) (p new : Progress) → piece ≡ front ++ 10 ∷ x → line ≡ old ++ front → FirstEnds op key line (Err fault) p → Steps op key old piece (Err fault) new
first_fault op key old front x piece line NotAReply p new cut is none =
    let whole : old ++ piece ≡ line ++ 10 ∷ x = ap (λ t. old ++ t) cut ∙ sym (append_assoc old front (10 ∷ x)) ∙ ap (λ t. t ++ 10 ∷ x) (sym is) in
    subst (λ (t : List ℕ). IsNoReply op key t) (sym whole) (none x)
first_fault op key old front x piece line Closed p new cut is none = none
first_fault op key old front x piece line Memory p new cut is none = tt

module _ (op : Op) (key : List ℕ) (clean : is_clean key ≡ true) (head : Head) (line body : List ℕ) (is : IsLine (rows.Reply op) key Value head line) (size : length body ≡ head.size) where
  last_more : (old front : List ℕ) → (line ++ 10 ∷ (body ++ 13 ∷ 10 ∷ old)) ++ front ≡ line ++ 10 ∷ (body ++ 13 ∷ 10 ∷ (old ++ front))
  last_more old front = last_whole op key clean head line body is old front

  -- a fault in the line behind the value
  pub last_line_fault : (old front x piece : List ℕ) (fault : ReplyFault) (bytes : List ℕ) (candidates : List Candidate) (new : Progress) → All (λ b. b ≢ 10) (old ++ front) → piece ≡ front ++ x → GoesOn rows.AfterValue key old front (Err fault) bytes candidates → Steps op key (line ++ 10 ∷ (body ++ 13 ∷ 10 ∷ old)) piece (Err fault) new
  last_line_fault old front x piece NotAReply bytes candidates new no_end cut none =
      begins_more op key (line ++ 10 ∷ (body ++ 13 ∷ 10 ∷ (old ++ front))) x ((line ++ 10 ∷ (body ++ 13 ∷ 10 ∷ old)) ++ piece)
      (ap (λ t. (line ++ 10 ∷ (body ++ 13 ∷ 10 ∷ old)) ++ t) cut ∙ sym (append_assoc (line ++ 10 ∷ (body ++ 13 ∷ 10 ∷ old)) front x) ∙ ap (λ t. t ++ x) (last_more old front))
      (no_last_begins op key clean head line body is (old ++ front) size no_end none)
  last_line_fault old front x piece Closed bytes candidates new no_end cut none = none
  last_line_fault old front x piece Memory bytes candidates new no_end cut none = tt

  pub last_fault : (old front x piece text bytes : List ℕ) (fault : ReplyFault) (new : Progress) → piece ≡ front ++ 10 ∷ x → text ≡ old ++ front → bytes ≡ line ++ 10 ∷ (body ++ 13 ∷ 10 ∷ text) → LastEnds op key bytes (Err fault) → Steps op key (line ++ 10 ∷ (body ++ 13 ∷ 10 ∷ old)) piece (Err fault) new
  last_fault old front x piece text bytes NotAReply new cut is_text is_bytes none =
      let whole : (line ++ 10 ∷ (body ++ 13 ∷ 10 ∷ old)) ++ piece ≡ bytes ++ 10 ∷ x = ap (λ t. (line ++ 10 ∷ (body ++ 13 ∷ 10 ∷ old)) ++ t) cut ∙ sym (append_assoc (line ++ 10 ∷ (body ++ 13 ∷ 10 ∷ old)) front (10 ∷ x)) ∙ ap (λ t. t ++ 10 ∷ x) (last_more old front ∙ ap (λ t. line ++ 10 ∷ (body ++ 13 ∷ 10 ∷ t)) (sym is_text) ∙ sym is_bytes) in
      subst (λ (t : List ℕ). IsNoReply op key t) (sym whole) (none x)
  last_fault old front x piece text bytes Closed new cut is_text is_bytes none = none
  last_fault old front x piece text bytes Memory new cut is_text is_bytes none = tt

  pub last_reply : (old front text bytes taken : List ℕ) (reply : ReplyValue) → taken ≡ front ++ 10 ∷ [] → text ≡ old ++ front → bytes ≡ line ++ 10 ∷ (body ++ 13 ∷ 10 ∷ text) → Spells op key (bytes ++ 10 ∷ []) reply → Spells op key ((line ++ 10 ∷ (body ++ 13 ∷ 10 ∷ old)) ++ taken) reply
  last_reply old front text bytes taken reply cut is_text is_bytes s =
      let whole : (line ++ 10 ∷ (body ++ 13 ∷ 10 ∷ old)) ++ taken ≡ bytes ++ 10 ∷ [] = ap (λ t. (line ++ 10 ∷ (body ++ 13 ∷ 10 ∷ old)) ++ t) cut ∙ sym (append_assoc (line ++ 10 ∷ (body ++ 13 ∷ 10 ∷ old)) front (10 ∷ [])) ∙ ap (λ t. t ++ 10 ∷ []) (last_more old front ∙ ap (λ t. line ++ 10 ∷ (body ++ 13 ∷ 10 ∷ t)) (sym is_text) ∙ sym is_bytes) in
      subst (λ (t : List ℕ). Spells op key t reply) (sym whole) s

  pub last_made : (x value : List ℕ) (cas : Bool) (first : Word) (other : Head) (r : Result Reply ReplyFault) → IsLine rows.AfterValue key first other x → cas ≡ has_cas (rows.Reply op) → value ≡ body → HitMade cas head value r → LastEnds op key (line ++ 10 ∷ (body ++ 13 ∷ 10 ∷ x)) r
  last_made x value cas first other (Ok reply) last cas_is value_is made =
      last_right op key clean head line body is x other (reply_value reply) size (only_end key first other x last)
      (made ∙ ap (λ (h : Bool). hit head.flags (cas_said h head.cas) value) cas_is ∙ ap (hit head.flags (cas_said (has_cas (rows.Reply op)) head.cas)) value_is)
  last_made x value cas first other (Err NotAReply) last cas_is value_is made = absurd made
  last_made x value cas first other (Err Closed) last cas_is value_is made = made
  last_made x value cas first other (Err Memory) last cas_is value_is made = tt

pub return_step : (line body rest taken : List ℕ) → rest ≡ [] → taken ≡ 10 ∷ [] → line ++ 10 ∷ (body ++ 13 ∷ 10 ∷ rest) ≡ (line ++ 10 ∷ (body ++ 13 ∷ [])) ++ taken
return_step line body rest taken none is =
    ap (λ t. line ++ 10 ∷ (body ++ 13 ∷ 10 ∷ t)) none
    ∙ sym (append_assoc line (10 ∷ (body ++ 13 ∷ [])) (10 ∷ []) ∙ ap (λ t. line ++ 10 ∷ t) (append_assoc body (13 ∷ []) (10 ∷ [])))
    ∙ ap (λ t. (line ++ 10 ∷ (body ++ 13 ∷ [])) ++ t) (sym is)

pub first_taken : (piece : List ℕ) (b : ℕ) → 0 < length piece → get_or piece 0 0 ≡ b → take 1 piece ≡ b ∷ []
first_taken [] b l e = absurd (omega arith)
first_taken (x ∷ piece) b l e = ap (λ t. t ∷ []) e

pub end_within : (piece : List ℕ) (end : ℕ) → IsFirstByte (is_byte 10) piece (Some end) → end < length piece
end_within piece end found = found.0.high

same_fed : (a b : List ℕ) → Fed a ≡ Fed b → a ≡ b
same_fed a b e = cc

-- a fault of a step is one of the piece
pub step_fault : (op : Op) (key now left whole : List ℕ) (fault : ReplyFault) (new last : Progress) → now ++ left ≡ whole → Steps op key now left (Err fault) new → ReadsPiece op key whole (Err fault) last
step_fault op key now left whole NotAReply new last e none = λ more reply s. none more (whole ++ more) [] reply (ap (λ t. t ++ more) e ∙ sym (append-nil (whole ++ more))) s
step_fault op key now left whole Closed new last e none = none
step_fault op key now left whole Memory new last e none = tt

pub step_reply : (op : Op) (key now left whole : List ℕ) (used : ℕ) (o : Option Reply) (reply : Reply) (new : Progress) → StepMakes op key now (take used left) o new → o ≡ Some reply → length (drop used left) ≡ 0 → now ++ left ≡ whole → Spells op key whole (reply_value reply)
step_reply op key now left whole used o reply new makes is none e =
    let s : Spells op key (now ++ take used left) (reply_value reply) = subst (λ (t : Option Reply). StepMakes op key now (take used left) t new) is makes in
    let all : take used left ≡ left = sym (append-nil (take used left)) ∙ ap (λ t. take used left ++ t) (sym (nil_from_length (drop used left) none)) ∙ take-append-drop used left in
    subst (λ (t : List ℕ). Spells op key t (reply_value reply)) (ap (λ t. now ++ t) all ∙ e) s

-- bytes behind a reply
pub step_more : (op : Op) (key now left whole : List ℕ) (used : ℕ) (o : Option Reply) (reply : Reply) (new : Progress) → is_clean key ≡ true → StepMakes op key now (take used left) o new → o ≡ Some reply → (length (drop used left) ≡ 0 → ⊥) → now ++ left ≡ whole → BeginsNone op key whole
step_more op key now left whole used o reply new clean makes is some e more other t =
    let s : Spells op key (now ++ take used left) (reply_value reply) = subst (λ (t : Option Reply). StepMakes op key now (take used left) t new) is makes in
    let cut : whole ++ more ≡ (now ++ take used left) ++ (drop used left ++ more) =
    ap (λ t. t ++ more) (sym e ∙ ap (λ t. now ++ t) (sym (take-append-drop used left)) ∙ sym (append_assoc now (take used left) (drop used left))) ∙ append_assoc (now ++ take used left) (drop used left) more in
    let one = replies_one op key clean (now ++ take used left) (drop used left ++ more) (reply_value reply) other s (subst (λ (t : List ℕ). Spells op key t other) cut t) in
    some (omega (arith, ap length one.0, length-append (drop used left) more))

pub step_none : (op : Op) (key now left : List ℕ) (used : ℕ) (o : Option Reply) (new : Progress) → StepMakes op key now (take used left) o new → o ≡ None → IsAt op key new × (reader_state_at new.stage new ≡ Fed (now ++ take used left))
step_none op key now left used o new makes is = subst (λ (t : Option Reply). StepMakes op key now (take used left) t new) is makes

pub step_rest : (now left whole : List ℕ) (used : ℕ) → now ++ left ≡ whole → (now ++ take used left) ++ drop used left ≡ whole
step_rest now left whole used e = append_assoc now (take used left) (drop used left) ∙ ap (λ t. now ++ t) (take-append-drop used left) ∙ e

-- what has been fed is the front of a reply
pub is_front : (op : Op) (key : List ℕ) (p : Progress) (stage : Stage) (bytes : List ℕ) → is_clean key ≡ true → IsAtStage op key p stage → reader_state_at stage p ≡ Fed bytes → IsFront op key bytes
is_front op key p stages.Start bytes clean at e = subst (λ (t : List ℕ). IsFront op key t) (same_fed _ bytes e) (front_nothing op key)
is_front op key p stages.Line bytes clean at e = subst (λ (t : List ℕ). IsFront op key t) (same_fed _ bytes e) (front_line op key clean p.text.items p.candidates.items at.0 at.1)
is_front op key p stages.Value bytes clean at e = subst (λ (t : List ℕ). IsFront op key t) (same_fed _ bytes e) (front_value op key clean p.head p.first.items p.body.items at.0 at.1)
is_front op key p stages.Return bytes clean at e = subst (λ (t : List ℕ). IsFront op key t) (same_fed _ bytes e) (front_return op key clean p.head p.first.items p.body.items at.0 at.1)
is_front op key p stages.Last bytes clean at e = subst (λ (t : List ℕ). IsFront op key t) (same_fed _ bytes e) (front_last op key clean p.head p.first.items p.body.items p.text.items p.candidates.items at.0 at.1 at.2 at.3)
is_front op key p stages.Answered bytes clean at e = absurd (cc)
is_front op key p stages.Closed bytes clean at e = absurd (cc)

-- bytes have been fed, and no answer has been given
pub fed_at : (p : Progress) (stage : Stage) → (stage ≡ stages.Start) ⊎ (stage ≡ stages.Line) ⊎ (stage ≡ stages.Value) ⊎ (stage ≡ stages.Return) ⊎ (stage ≡ stages.Last) → (bytes : List ℕ) × (reader_state_at stage p ≡ Fed bytes)
fed_at p stage (inl e) = (bytes_at stages.Start p, ap (λ (s : Stage). reader_state_at s p) e)
fed_at p stage (inr (inl e)) = (bytes_at stages.Line p, ap (λ (s : Stage). reader_state_at s p) e)
fed_at p stage (inr (inr (inl e))) = (bytes_at stages.Value p, ap (λ (s : Stage). reader_state_at s p) e)
fed_at p stage (inr (inr (inr (inl e)))) = (bytes_at stages.Return p, ap (λ (s : Stage). reader_state_at s p) e)
fed_at p stage (inr (inr (inr (inr e)))) = (bytes_at stages.Last p, ap (λ (s : Stage). reader_state_at s p) e)

-- what has been fed, of a reader that has answered nothing, answers the piece
pub feeds_at : (op : Op) (key : List ℕ) (old new : ReaderState) (piece : List ℕ) (result : Result (Option Reply) ReplyFault) (fed : (bytes : List ℕ) × (old ≡ Fed bytes)) → ((bytes : List ℕ) → old ≡ Fed bytes → Answers op key (bytes ++ piece) result new) → FeedsAt op key old piece result new
feeds_at op key old new piece result fed answers = subst (λ (s : ReaderState). FeedsAt op key s piece result new) (sym fed.1) (answers fed.0 fed.1)

pub piece_fault : (op : Op) (key bytes : List ℕ) (fault : ReplyFault) (p : Progress) → ReadsPiece op key bytes (Err fault) p → Answers op key bytes (Err fault) reader_states.Closed
piece_fault op key bytes NotAReply p r = (r, refl)
piece_fault op key bytes Closed p r = r
piece_fault op key bytes Memory p r = refl

pub piece_none : (op : Op) (key bytes : List ℕ) (reply : Option Reply) (p : Progress) → is_clean key ≡ true → reply ≡ None → ReadsPiece op key bytes (Ok reply) p → IsAt op key p × Answers op key bytes (Ok None) (reader_state_at p.stage p)
piece_none op key bytes reply p clean is r =
    let at : IsAt op key p × (reader_state_at p.stage p ≡ Fed bytes) = subst (λ (t : Option Reply). ReadsPiece op key bytes (Ok t) p) is r in
    (at.0, (is_front op key p p.stage bytes clean at.0 at.1, at.1))

pub piece_some : (op : Op) (key bytes : List ℕ) (o : Option Reply) (reply : Reply) (p : Progress) → o ≡ Some reply → ReadsPiece op key bytes (Ok o) p → Spells op key bytes (reply_value reply)
piece_some op key bytes o reply p is r = subst (λ (t : Option Reply). ReadsPiece op key bytes (Ok t) p) is r
