-- Steps of a reply that has come in part.
use Rattle.std.proofs.Common.{◌≡◌, ◌≢◌, ℕ, suc, zero, ◌-◌, ◌<◌, ◌≤◌, ◌⊎◌, inl, inr, Bool, true, false, List, [], ◌∷◌, ◌++◌, length, get_or, drop, replicate, refl, sym, ap, subst, ◌∙◌, arith, append_assoc, length-append, Some, None}
use Rattle.std.specs.List.{All, Contains, list_all}
use Rattle.std.proofs.lemmas.Bool.{false≢true}
use Rattle.std.proofs.lemmas.List.{append-nil, get_or_append_left, length-replicate}
use Rattle.std.proofs.lemmas.List.Elements.{All-contains}
use Rattle.std.proofs.lemmas.List.Sums.{AllPass-from_list_all}
use Rattle.mcv_base.specs.declared.operation.Op.{Op}
use Rattle.mcv_base.specs.declared.operation.Op.TheVariants as ops
use Rattle.mcv_base.specs.Reply.{ReplyValue, hit}
use Rattle.mcv_reply.specs.declared.word.Word.{Word}
use Rattle.mcv_reply.specs.declared.word.Word.TheVariants.{End, Value, Stored, NotStored, Exists, NotFound, Deleted, Touched, Count, Error, ClientError, ServerError, Version}
use Rattle.mcv_reply.specs.declared.word.Row.{Row}
use Rattle.mcv_reply.specs.declared.word.Row.TheVariants as rows
use Rattle.mcv_reply.specs.declared.candidate.Head.{Head}
use Rattle.mcv_reply.specs.declared.candidate.Candidate.{Candidate}
use Rattle.mcv_reply.specs.Word.{answers, has_cas}
use Rattle.mcv_reply.specs.Line.{IsLine}
use Rattle.mcv_reply.specs.Candidate.{IsKept, is_clean, zero_head}
use Rattle.mcv_reply.specs.Reply.{Spells, alone, with_value, cas_said, said_alone}
use Rattle.mcv_reply.specs.Reader.{IsFront, IsNoReply}
use Rattle.std.specs.Prelude.{codes}
use Rattle.mcv_reply.proofs.OpenCandidates.{candidate_opens, clean_ends}
use Rattle.mcv_reply.proofs.Spelling.{line_one, line_heads, front_of_line, value_goes, value_back, last_goes, last_heads}

-- no line of the row goes on from the bytes
abbrev pub IsNoLine : Row → List ℕ → List ℕ → Type 0
IsNoLine row key bytes = (first : Word) (head : Head) (more : List ℕ) → IsLine row key first head (bytes ++ more) → ⊥

module _ (op : Op) (key : List ℕ) where
  pub begins_more : (bytes x whole : List ℕ) → whole ≡ bytes ++ x → IsNoReply op key bytes → IsNoReply op key whole
  begins_more bytes x whole e none more own rest reply heads s = none (x ++ more) own rest reply (sym (ap (λ t. t ++ more) e ∙ append_assoc bytes x more) ∙ heads) s

  pub no_line_begins : (bytes : List ℕ) → All (λ b. b ≢ 10) bytes → IsNoLine (rows.Reply op) key bytes → IsNoReply op key bytes
  no_line_begins bytes clean none more own rest reply heads (alone s) =
      let f = front_of_line bytes more s.line rest clean (heads ∙ line_heads own s.line [] rest s.parts) in
      none s.first s.head f.0 (subst (λ (t : List ℕ). IsLine (rows.Reply op) key s.first s.head t) f.1 s.line_is)
  no_line_begins bytes clean none more own rest reply heads (with_value s) =
      let f = front_of_line bytes more s.line ((s.value ++ 13 ∷ 10 ∷ (s.last ++ 10 ∷ [])) ++ rest) clean (heads ∙ line_heads own s.line (s.value ++ 13 ∷ 10 ∷ (s.last ++ 10 ∷ [])) rest s.parts) in
      none Value s.head f.0 (subst (λ (t : List ℕ). IsLine (rows.Reply op) key Value s.head t) f.1 s.line_is)

  -- a line has ended that is none
  pub ended_wrong : (line : List ℕ) → All (λ b. b ≢ 10) line → ((first : Word) (head : Head) → IsLine (rows.Reply op) key first head line → ⊥) → (left : List ℕ) → IsNoReply op key (line ++ 10 ∷ left)
  ended_wrong line clean none left more own rest reply heads (alone s) =
      let one = line_one line s.line (left ++ more) rest clean s.line_is.no_end (sym (append_assoc line (10 ∷ left) more) ∙ heads ∙ line_heads own s.line [] rest s.parts) in
      none s.first s.head (subst (λ (t : List ℕ). IsLine (rows.Reply op) key s.first s.head t) (sym one.0) s.line_is)
  ended_wrong line clean none left more own rest reply heads (with_value s) =
      let one = line_one line s.line (left ++ more) ((s.value ++ 13 ∷ 10 ∷ (s.last ++ 10 ∷ [])) ++ rest) clean s.line_is.no_end (sym (append_assoc line (10 ∷ left) more) ∙ heads ∙ line_heads own s.line (s.value ++ 13 ∷ 10 ∷ (s.last ++ 10 ∷ [])) rest s.parts) in
      none Value s.head (subst (λ (t : List ℕ). IsLine (rows.Reply op) key Value s.head t) (sym one.0) s.line_is)

  pub ended_right : (first : Word) (head : Head) (line : List ℕ) (reply : ReplyValue) → IsLine (rows.Reply op) key first head line → said_alone first head line ≡ Some reply → Spells op key (line ++ 10 ∷ []) reply
  ended_right first head line reply is says = alone (record { first = first; line = line; head = head; line_is = is; parts = refl; says = says })

-- VERSION answers no leg
is_reply_word : Word → Bool
is_reply_word Version = false
is_reply_word End = true
is_reply_word Value = true
is_reply_word Stored = true
is_reply_word NotStored = true
is_reply_word Exists = true
is_reply_word NotFound = true
is_reply_word Deleted = true
is_reply_word Touched = true
is_reply_word Count = true
is_reply_word Error = true
is_reply_word ClientError = true
is_reply_word ServerError = true

reply_words : (op : Op) → list_all is_reply_word (answers op) ≡ true
unfolding is_reply_word
reply_words ops.Get = refl
reply_words ops.Gets = refl
reply_words ops.Set = refl
reply_words ops.Add = refl
reply_words ops.Replace = refl
reply_words ops.Append = refl
reply_words ops.Prepend = refl
reply_words ops.Cas = refl
reply_words ops.Delete = refl
reply_words ops.Touch = refl
reply_words ops.Incr = refl
reply_words ops.Decr = refl

version_not : (w : Word) → w ≡ Version → is_reply_word w ≡ true → ⊥
unfolding is_reply_word
version_not w is e = false≢true (sym (ap is_reply_word is) ∙ e)

pub no_version : (op : Op) (key : List ℕ) (first : Word) (head : Head) (line : List ℕ) → IsLine (rows.Reply op) key first head line → first ≡ Version → ⊥
no_version op key first head line is e = version_not first e (All-contains (λ w. is_reply_word w ≡ true) (answers op) first (AllPass-from_list_all is_reply_word (answers op) (reply_words op)) is.may)

module _ (op : Op) (key : List ℕ) (clean : is_clean key ≡ true) (head : Head) (line body : List ℕ) (is : IsLine (rows.Reply op) key Value head line) where
  -- the bytes behind the line, and what comes
  behind : (x y : List ℕ) → (line ++ 10 ∷ x) ++ y ≡ line ++ 10 ∷ (x ++ y)
  behind x y = append_assoc line (10 ∷ x) y

  pub wrong_return : (piece : List ℕ) → length body ≡ head.size → 0 < length piece → get_or piece 0 0 ≢ 13 → IsNoReply op key ((line ++ 10 ∷ body) ++ piece)
  wrong_return piece size some ne more own rest reply heads s =
      let whole : ((line ++ 10 ∷ body) ++ piece) ++ more ≡ line ++ 10 ∷ (body ++ (piece ++ more)) = append_assoc (line ++ 10 ∷ body) piece more ∙ behind body (piece ++ more) in
      let r = last_heads op key clean head line body (piece ++ more) own rest reply is size (sym whole ∙ heads) s in
      ne (sym (get_or_append_left piece more 0 0 some) ∙ ap (λ t. get_or t 0 0) r.3)

  pub wrong_line_feed : (piece : List ℕ) → length body ≡ head.size → 0 < length piece → get_or piece 0 0 ≢ 10 → IsNoReply op key ((line ++ 10 ∷ (body ++ 13 ∷ [])) ++ piece)
  wrong_line_feed piece size some ne more own rest reply heads s =
      let whole : ((line ++ 10 ∷ (body ++ 13 ∷ [])) ++ piece) ++ more ≡ line ++ 10 ∷ (body ++ 13 ∷ (piece ++ more)) = append_assoc (line ++ 10 ∷ (body ++ 13 ∷ [])) piece more ∙ behind (body ++ 13 ∷ []) (piece ++ more) ∙ ap (λ t. line ++ 10 ∷ t) (append_assoc body (13 ∷ []) (piece ++ more)) in
      let r = last_heads op key clean head line body (13 ∷ (piece ++ more)) own rest reply is size (sym whole ∙ heads) s in
      ne (sym (get_or_append_left piece more 0 0 some) ∙ ap (λ t. get_or t 1 0) r.3)

  -- the last line
  pub last_whole : (x more : List ℕ) → (line ++ 10 ∷ (body ++ 13 ∷ 10 ∷ x)) ++ more ≡ line ++ 10 ∷ (body ++ 13 ∷ 10 ∷ (x ++ more))
  last_whole x more = behind (body ++ 13 ∷ 10 ∷ x) more ∙ ap (λ t. line ++ 10 ∷ t) (append_assoc body (13 ∷ 10 ∷ x) more)

  pub no_last_begins : (x : List ℕ) → length body ≡ head.size → All (λ b. b ≢ 10) x → IsNoLine rows.AfterValue key x → IsNoReply op key (line ++ 10 ∷ (body ++ 13 ∷ 10 ∷ x))
  no_last_begins x size no_end none more own rest reply heads s =
      let r = last_heads op key clean head line body (13 ∷ 10 ∷ (x ++ more)) own rest reply is size (sym (last_whole x more) ∙ heads) s in
      let tails : x ++ more ≡ r.0 ++ 10 ∷ rest = ap (drop 2) r.3 in
      let f = front_of_line x more r.0 rest no_end tails in
      none End r.1 f.0 (subst (λ (t : List ℕ). IsLine rows.AfterValue key End r.1 t) f.1 r.2)

  pub last_wrong : (x : List ℕ) → length body ≡ head.size → All (λ b. b ≢ 10) x → ((first : Word) (h : Head) → IsLine rows.AfterValue key first h x → ⊥) → (left : List ℕ) → IsNoReply op key ((line ++ 10 ∷ (body ++ 13 ∷ 10 ∷ x)) ++ 10 ∷ left)
  last_wrong x size no_end none left more own rest reply heads s =
      let whole : ((line ++ 10 ∷ (body ++ 13 ∷ 10 ∷ x)) ++ 10 ∷ left) ++ more ≡ line ++ 10 ∷ (body ++ 13 ∷ 10 ∷ (x ++ 10 ∷ (left ++ more))) = append_assoc (line ++ 10 ∷ (body ++ 13 ∷ 10 ∷ x)) (10 ∷ left) more ∙ last_whole x (10 ∷ (left ++ more)) in
      let r = last_heads op key clean head line body (13 ∷ 10 ∷ (x ++ 10 ∷ (left ++ more))) own rest reply is size (sym whole ∙ heads) s in
      let tails : x ++ 10 ∷ (left ++ more) ≡ r.0 ++ 10 ∷ rest = ap (drop 2) r.3 in
      let one = line_one x r.0 (left ++ more) rest no_end r.2.no_end tails in
      none End r.1 (subst (λ (t : List ℕ). IsLine rows.AfterValue key End r.1 t) (sym one.0) r.2)

  pub last_right : (x : List ℕ) (other : Head) (reply : ReplyValue) → length body ≡ head.size → IsLine rows.AfterValue key End other x → reply ≡ hit head.flags (cas_said (has_cas (rows.Reply op)) head.cas) body → Spells op key ((line ++ 10 ∷ (body ++ 13 ∷ 10 ∷ x)) ++ 10 ∷ []) reply
  last_right x other reply size last says = with_value (record { head = head; line = line; value = body; last = x; line_is = is; size = size; other = other; last_is = last; parts = last_whole x (10 ∷ []); says = says })

  -- what has come of a value is no reply
  pub value_front : length body ≤ head.size → (reply : ReplyValue) → Spells op key (line ++ 10 ∷ body) reply → ⊥
  value_front l reply s =
      let r = value_goes op key clean head line body reply is s in
      omega (arith, ap length r.parts, length-append r.value (13 ∷ 10 ∷ (r.last ++ 10 ∷ [])), r.size)

  pub return_front : length body ≡ head.size → (reply : ReplyValue) → Spells op key (line ++ 10 ∷ (body ++ 13 ∷ [])) reply → ⊥
  return_front l reply s =
      let r = last_goes op key clean head line body (13 ∷ []) reply is l s in
      let e : 1 ≡ suc (suc (length (r.0 ++ 10 ∷ []))) = ap length r.3 in
      absurd (omega arith)

  pub last_front : (x : List ℕ) → length body ≡ head.size → All (λ b. b ≢ 10) x → (reply : ReplyValue) → Spells op key (line ++ 10 ∷ (body ++ 13 ∷ 10 ∷ x)) reply → ⊥
  last_front x l no_end reply s =
      let r = last_goes op key clean head line body (13 ∷ 10 ∷ x) reply is l s in
      let tails : x ≡ r.0 ++ 10 ∷ [] = ap (drop 2) r.3 in
      let f = front_of_line x [] r.0 [] no_end (append-nil x ∙ tails) in
      omega (arith, ap length f.2, length-append f.0 (10 ∷ []))

-- a line that is left goes on to one
pub line_opens : (row : Row) (key bytes : List ℕ) (candidates : List Candidate) → is_clean key ≡ true → IsKept row key bytes candidates → 0 < length candidates → (first : Word) × (head : Head) × (more : List ℕ) × IsLine row key first head (bytes ++ more)
line_opens row key bytes [] clean kept some = absurd (omega arith)
line_opens row key bytes (c ∷ candidates) clean kept some =
    let open_c = candidate_opens (has_cas row) key c clean (kept.valid 0 c some) in
    (c.first, open_c.0, open_c.1, kept.back 0 c some open_c.0 open_c.1 open_c.2)

one_word : (first : Word) (k : ℕ) → k < 1 → get_or (End ∷ []) k first ≡ first → first ≡ End
one_word first zero l e = sym e
one_word first (suc k) l e = absurd (omega arith)

-- behind a value comes END
pub only_end : (key : List ℕ) (first : Word) (head : Head) (line : List ℕ) → IsLine rows.AfterValue key first head line → IsLine rows.AfterValue key End head line
only_end key first head line is = subst (λ (w : Word). IsLine rows.AfterValue key w head line) (one_word first is.may.0 is.may.1 is.may.2) is

pub end_line : (key : List ℕ) → IsLine rows.AfterValue key End zero_head (codes "END")
end_line key = record {
  may = (0, omega arith, refl);
  writes = record { gap = 0; written = codes "END"; after = []; parts = refl; enough = omega arith; is = refl; rest = tt };
  no_end = clean_ends (codes "END") refl;
  short = omega arith;
}

module _ (op : Op) (key : List ℕ) (clean : is_clean key ≡ true) where
  -- a value, of which some has come
  pub value_completes : (head : Head) (line body : List ℕ) → IsLine (rows.Reply op) key Value head line → length body ≤ head.size → (more : List ℕ) × (reply : ReplyValue) × Spells op key (line ++ 10 ∷ (body ++ more)) reply
  value_completes head line body is l =
      let left = replicate (head.size - length body) 0 in
      let value = body ++ left in (
        left ++ 13 ∷ 10 ∷ (codes "END" ++ 10 ∷ []),
        hit head.flags (cas_said (has_cas (rows.Reply op)) head.cas) value,
        value_back op key clean head line (body ++ (left ++ 13 ∷ 10 ∷ (codes "END" ++ 10 ∷ []))) _ is (record {
          value = value;
          last = codes "END";
          other = zero_head;
          size = omega (arith, length-append body left, length-replicate {A = ℕ} (head.size - length body) 0);
          last_is = end_line key;
          parts = sym (append_assoc body left (13 ∷ 10 ∷ (codes "END" ++ 10 ∷ [])));
          says = refl;
        }),
      )

  alone_completes : (first : Word) (head : Head) (line : List ℕ) (reply : ReplyValue) → IsLine (rows.Reply op) key first head line → said_alone first head line ≡ Some reply → (rest : List ℕ) × (r : ReplyValue) × Spells op key (line ++ 10 ∷ rest) r
  alone_completes first head line reply is says = ([], reply, ended_right op key first head line reply is says)

  line_completes : (first : Word) (head : Head) (line : List ℕ) → IsLine (rows.Reply op) key first head line → (rest : List ℕ) × (reply : ReplyValue) × Spells op key (line ++ 10 ∷ rest) reply
  line_completes Value head line is = value_completes head line [] is (omega arith)
  line_completes Version head line is = absurd (no_version op key Version head line is refl)
  line_completes End head line is = alone_completes End head line _ is refl
  line_completes Stored head line is = alone_completes Stored head line _ is refl
  line_completes NotStored head line is = alone_completes NotStored head line _ is refl
  line_completes Exists head line is = alone_completes Exists head line _ is refl
  line_completes NotFound head line is = alone_completes NotFound head line _ is refl
  line_completes Deleted head line is = alone_completes Deleted head line _ is refl
  line_completes Touched head line is = alone_completes Touched head line _ is refl
  line_completes Count head line is = alone_completes Count head line _ is refl
  line_completes Error head line is = alone_completes Error head line _ is refl
  line_completes ClientError head line is = alone_completes ClientError head line _ is refl
  line_completes ServerError head line is = alone_completes ServerError head line _ is refl

  pub front_line : (bytes : List ℕ) (candidates : List Candidate) → IsKept (rows.Reply op) key bytes candidates → 0 < length candidates → IsFront op key bytes
  front_line bytes candidates kept some =
      let l = line_opens (rows.Reply op) key bytes candidates clean kept some in
      let r = line_completes l.0 l.1 (bytes ++ l.2) l.3 in
      (line_is_none, (l.2 ++ 10 ∷ r.0, r.1, subst (λ (t : List ℕ). Spells op key t r.1) (append_assoc bytes l.2 (10 ∷ r.0)) r.2))
    where
      line_is_none : (reply : ReplyValue) → Spells op key bytes reply → ⊥
      line_is_none reply (alone s) =
          let f = front_of_line bytes [] s.line [] kept.no_end (append-nil bytes ∙ s.parts) in
          omega (arith, ap length f.2, length-append f.0 (10 ∷ []))
      line_is_none reply (with_value s) =
          let f = front_of_line bytes [] s.line (s.value ++ 13 ∷ 10 ∷ (s.last ++ 10 ∷ [])) kept.no_end (append-nil bytes ∙ s.parts) in
          omega (arith, ap length f.2, length-append f.0 (10 ∷ (s.value ++ 13 ∷ 10 ∷ (s.last ++ 10 ∷ []))))

  pub front_value : (head : Head) (line body : List ℕ) → IsLine (rows.Reply op) key Value head line → length body ≤ head.size → IsFront op key (line ++ 10 ∷ body)
  front_value head line body is l =
      let v = value_completes head line body is l in
      (value_front op key clean head line body is l, (v.0, v.1, subst (λ (t : List ℕ). Spells op key t v.1) (sym (append_assoc line (10 ∷ body) v.0)) v.2))

  pub front_return : (head : Head) (line body : List ℕ) → IsLine (rows.Reply op) key Value head line → length body ≡ head.size → IsFront op key (line ++ 10 ∷ (body ++ 13 ∷ []))
  front_return head line body is l =
      let reply = hit head.flags (cas_said (has_cas (rows.Reply op)) head.cas) body in
      let more = 10 ∷ (codes "END" ++ 10 ∷ []) in
      let whole : (line ++ 10 ∷ (body ++ 13 ∷ [])) ++ more ≡ line ++ 10 ∷ (body ++ 13 ∷ more) = append_assoc line (10 ∷ (body ++ 13 ∷ [])) more ∙ ap (λ t. line ++ 10 ∷ t) (append_assoc body (13 ∷ []) more) in (
        return_front op key clean head line body is l,
        (
          more,
          reply,
          subst (λ (t : List ℕ). Spells op key t reply) (sym whole)
              (value_back op key clean head line (body ++ 13 ∷ more) reply is (record { value = body; last = codes "END"; other = zero_head; size = l; last_is = end_line key; parts = refl; says = refl })),
        ),
      )

  pub front_last : (head : Head) (line body bytes : List ℕ) (candidates : List Candidate) → IsLine (rows.Reply op) key Value head line → length body ≡ head.size → IsKept rows.AfterValue key bytes candidates → 0 < length candidates → IsFront op key (line ++ 10 ∷ (body ++ 13 ∷ 10 ∷ bytes))
  front_last head line body bytes candidates is l kept some =
      let reply = hit head.flags (cas_said (has_cas (rows.Reply op)) head.cas) body in
      let o = line_opens rows.AfterValue key bytes candidates clean kept some in
      let last = only_end key o.0 o.1 (bytes ++ o.2) o.3 in
      let more = o.2 ++ 10 ∷ [] in
      let whole : (line ++ 10 ∷ (body ++ 13 ∷ 10 ∷ bytes)) ++ more ≡ line ++ 10 ∷ (body ++ 13 ∷ 10 ∷ ((bytes ++ o.2) ++ 10 ∷ [])) = last_whole op key clean head line body is bytes more ∙ ap (λ t. line ++ 10 ∷ (body ++ 13 ∷ 10 ∷ t)) (sym (append_assoc bytes o.2 (10 ∷ []))) in (
        last_front op key clean head line body is bytes l kept.no_end,
        (
          more,
          reply,
          subst (λ (t : List ℕ). Spells op key t reply) (sym whole)
              (value_back op key clean head line (body ++ 13 ∷ 10 ∷ ((bytes ++ o.2) ++ 10 ∷ [])) reply is (record { value = body; last = bytes ++ o.2; other = o.1; size = l; last_is = last; parts = refl; says = refl })),
        ),
      )

error_may : (op : Op) → Contains (answers op) Error
error_may ops.Get = (2, omega arith, refl)
error_may ops.Gets = (2, omega arith, refl)
error_may ops.Set = (2, omega arith, refl)
error_may ops.Add = (2, omega arith, refl)
error_may ops.Replace = (2, omega arith, refl)
error_may ops.Append = (2, omega arith, refl)
error_may ops.Prepend = (2, omega arith, refl)
error_may ops.Cas = (4, omega arith, refl)
error_may ops.Delete = (2, omega arith, refl)
error_may ops.Touch = (2, omega arith, refl)
error_may ops.Incr = (2, omega arith, refl)
error_may ops.Decr = (2, omega arith, refl)

-- `ERROR` may answer each operation
pub error_line : (op : Op) (key : List ℕ) → IsLine (rows.Reply op) key Error zero_head (codes "ERROR")
error_line op key = record {
  may = error_may op;
  writes = record { gap = 0; written = codes "ERROR"; after = []; parts = refl; enough = omega arith; is = refl; rest = tt };
  no_end = clean_ends (codes "ERROR") refl;
  short = omega arith;
}

-- nothing is the front of a reply
pub front_nothing : (op : Op) (key : List ℕ) → IsFront op key []
front_nothing op key = (nothing_spelled, (codes "ERROR" ++ 10 ∷ [], _, ended_right op key Error zero_head (codes "ERROR") _ (error_line op key) refl))
  where
    nothing_spelled : (reply : ReplyValue) → Spells op key [] reply → ⊥
    nothing_spelled reply (alone s) = omega (arith, ap length s.parts, length-append s.line (10 ∷ []))
    nothing_spelled reply (with_value s) = omega (arith, ap length s.parts, length-append s.line (10 ∷ (s.value ++ 13 ∷ 10 ∷ (s.last ++ 10 ∷ []))))

-- a line that is no reply alone is that of a value, or answers a probe
unsaid : (first : Word) (head : Head) (line : List ℕ) → said_alone first head line ≡ None → (first ≡ Value) ⊎ (first ≡ Version)
unsaid Value head line e = inl refl
unsaid Version head line e = inr refl
unsaid End head line e = absurd (cc)
unsaid Stored head line e = absurd (cc)
unsaid NotStored head line e = absurd (cc)
unsaid Exists head line e = absurd (cc)
unsaid NotFound head line e = absurd (cc)
unsaid Deleted head line e = absurd (cc)
unsaid Touched head line e = absurd (cc)
unsaid Count head line e = absurd (cc)
unsaid Error head line e = absurd (cc)
unsaid ClientError head line e = absurd (cc)
unsaid ServerError head line e = absurd (cc)

pub always_said : (op : Op) (key : List ℕ) (first : Word) (head : Head) (line : List ℕ) → IsLine (rows.Reply op) key first head line → (first ≡ Value → ⊥) → said_alone first head line ≡ None → ⊥
always_said op key first head line is not_value e = elim (unsaid first head line e) [ inl v ↦ not_value v | inr v ↦ no_version op key first head line is v ]
