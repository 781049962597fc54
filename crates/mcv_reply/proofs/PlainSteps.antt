-- Steps that take a whole line, or a whole value and its end.
use Rattle.std.proofs.Common.{◌≡◌, ◌≢◌, ℕ, ◌+◌, ◌<◌, ◌≤◌, inr, Bool, List, [], ◌∷◌, ◌++◌, length, take, drop, Option, Some, None, Ok, Err, refl, sym, ap, subst, ◌∙◌, arith, append_assoc, length-append}
use Rattle.std.specs.Prelude.{codes}
use Rattle.std.proofs.lemmas.List.{length-take, take-append-drop, take_at}
use Rattle.std.proofs.lemmas.List.Elements.{All-push}
use Rattle.mcv_base.specs.declared.operation.Op.{Op}
use Rattle.mcv_base.specs.declared.reply.Reply.{Reply}
use Rattle.mcv_base.specs.Reply.{ReplyValue, hit, reply_value}
use Rattle.mcv_reply.specs.declared.word.Word.TheVariants.{End, Value}
use Rattle.mcv_reply.specs.declared.word.Row.TheVariants as rows
use Rattle.mcv_reply.specs.declared.candidate.Head.{Head}
use Rattle.mcv_reply.specs.declared.fault.ReplyFault.{ReplyFault}
use Rattle.mcv_reply.specs.declared.fault.ReplyFault.TheVariants.{NotAReply, Closed, Memory}
use Rattle.mcv_reply.specs.declared.progress.Progress.{Progress}
use Rattle.mcv_reply.specs.Word.{has_cas}
use Rattle.mcv_reply.specs.Line.{IsLine}
use Rattle.mcv_reply.specs.Candidate.{zero_head}
use Rattle.mcv_reply.specs.PlainLine.{EndsValue, value_end}
use Rattle.mcv_reply.specs.Reply.{Spells, with_value, cas_said}
use Rattle.mcv_reply.specs.Reader.{Fed}
use Rattle.mcv_reply.specs.Progress.{FirstEnds, HitMade, StepMakes, Steps}
use Rattle.mcv_reply.proofs.OpenCandidates.{clean_ends}

pub first_step : (op : Op) (key piece line : List ℕ) (end : ℕ) (reply : Option Reply) (new : Progress) → line ≡ take end piece → take (end + 1) piece ≡ take end piece ++ 10 ∷ []
    → FirstEnds op key line (Ok reply) new → StepMakes op key [] (take (end + 1) piece) reply new
first_step op key piece line end None new is taken ends = (ends.0, ends.1 ∙ ap Fed (ap (λ t. t ++ 10 ∷ []) is ∙ sym taken))
first_step op key piece line end (Some reply) new is taken ends = subst (λ (t : List ℕ). Spells op key t (reply_value reply)) (ap (λ t. t ++ 10 ∷ []) is ∙ sym taken) ends

-- `END` with a CR, behind a value
end_text : (key : List ℕ) → IsLine rows.AfterValue key End zero_head (codes "END" ++ 13 ∷ [])
end_text key = record {
  may = (0, omega arith, refl);
  writes = record { gap = 0; written = codes "END"; after = 13 ∷ []; parts = refl; enough = omega arith; is = refl; rest = inr (refl, refl) };
  no_end = All-push (λ b. b ≢ 10) (codes "END") 13 (clean_ends (codes "END") refl) (λ e. omega (arith, e));
  short = omega arith;
}

module _ (op : Op) (key : List ℕ) (head : Head) (line body piece : List ℕ) (missing : ℕ) (is : IsLine (rows.Reply op) key Value head line) (lacks : length body + missing ≡ head.size) (ends : EndsValue missing piece) where
  size : length (body ++ take missing piece) ≡ head.size
  size = let within : missing + 7 ≤ length piece = ends.within in omega (arith, length-append body (take missing piece), length-take missing piece, lacks)

  whole : (line ++ 10 ∷ body) ++ take (missing + 7) piece ≡ line ++ 10 ∷ ((body ++ take missing piece) ++ value_end)
  whole = ap (λ t. (line ++ 10 ∷ body) ++ t) ends.taken ∙ append_assoc line (10 ∷ body) (take missing piece ++ value_end) ∙ ap (λ t. line ++ 10 ∷ t) (sym (append_assoc body (take missing piece) value_end))

  spelled : (reply : ReplyValue) → reply ≡ hit head.flags (cas_said (has_cas (rows.Reply op)) head.cas) (body ++ take missing piece) → Spells op key ((line ++ 10 ∷ body) ++ take (missing + 7) piece) reply
  spelled reply says = with_value (record {
    head = head;
    line = line;
    value = body ++ take missing piece;
    last = codes "END" ++ 13 ∷ [];
    line_is = is;
    size = size;
    other = zero_head;
    last_is = end_text key;
    parts = whole;
    says = says;
  })

  -- the hit that is made of the value is the reply
  pub value_step : (made : List ℕ) (cas : Bool) (reply : Reply) (new : Progress) → made ≡ body ++ take missing piece → cas ≡ has_cas (rows.Reply op) → HitMade cas head made (Ok reply) → StepMakes op key (line ++ 10 ∷ body) (take (missing + 7) piece) (Some reply) new
  value_step made cas reply new made_is cas_is hit_is =
      let says : reply_value reply ≡ hit head.flags (cas_said (has_cas (rows.Reply op)) head.cas) (body ++ take missing piece) =
      hit_is ∙ ap (λ (h : Bool). hit head.flags (cas_said h head.cas) made) cas_is ∙ ap (hit head.flags (cas_said (has_cas (rows.Reply op)) head.cas)) made_is in
      spelled (reply_value reply) says

pub hit_fault : (op : Op) (key bytes piece made : List ℕ) (cas : Bool) (head : Head) (fault : ReplyFault) (new : Progress) → HitMade cas head made (Err fault) → Steps op key bytes piece (Err fault) new
hit_fault op key bytes piece made cas head NotAReply new h = absurd h
hit_fault op key bytes piece made cas head Closed new h = h
hit_fault op key bytes piece made cas head Memory new h = tt

pub value_ended : (missing : ℕ) (piece more : List ℕ) → missing < length piece → drop missing piece ≡ value_end ++ more → EndsValue missing piece
value_ended missing piece more within is =
    let front = take missing piece ++ value_end in
    let parts : piece ≡ front ++ more = sym (take-append-drop missing piece) ∙ ap (λ t. take missing piece ++ t) is ∙ sym (append_assoc (take missing piece) value_end more) in
    let seven : length value_end ≡ 7 = refl in
    let count : length front ≡ missing + 7 = omega (arith, length-append (take missing piece) value_end, length-take missing piece, seven) in
    record { within = omega (arith, ap length parts, length-append front more, count); taken = ap (take (missing + 7)) parts ∙ take_at front more (missing + 7) count }
