-- The line that answers a probe.
use Rattle.std.proofs.Common.{◌≡◌, ◌≢◌, ℕ, suc, zero, ◌<◌, List, [], ◌∷◌, ◌++◌, length, get_or, refl, sym, ap, subst, ◌∙◌, arith, append_assoc, length-append, Err}
use Rattle.std.specs.Prelude.{codes}
use Rattle.std.specs.List.{All}
use Rattle.std.specs.Str.Lines.{strip_carriage_return}
use Rattle.std.proofs.lemmas.List.{append-nil}
use Rattle.mcv_reply.specs.declared.word.Word.{Word}
use Rattle.mcv_reply.specs.declared.word.Word.TheVariants.{Version}
use Rattle.mcv_reply.specs.declared.word.Row.TheVariants as rows
use Rattle.mcv_reply.specs.declared.candidate.Head.{Head}
use Rattle.mcv_reply.specs.declared.candidate.Candidate.{Candidate}
use Rattle.mcv_reply.specs.declared.fault.ReplyFault.{ReplyFault}
use Rattle.mcv_reply.specs.declared.fault.ReplyFault.TheVariants.{NotAReply, Closed, Memory}
use Rattle.mcv_reply.specs.Line.{IsLine}
use Rattle.mcv_reply.specs.Candidate.{GoesOn, IsKept}
use Rattle.mcv_reply.specs.Reply.{SpellsVersion}
use Rattle.mcv_reply.specs.Probe.{BeginsNoVersion, IsVersionFront, ReadsProbe}
use Rattle.mcv_reply.proofs.Spelling.{line_one, front_of_line}
use Rattle.mcv_reply.proofs.Stages.{IsNoLine, line_opens}

one_word : (first : Word) (k : ℕ) → k < 1 → get_or (Version ∷ []) k first ≡ first → first ≡ Version
one_word first zero l e = sym e
one_word first (suc k) l e = absurd (omega arith)

pub to_version : (first : Word) (head : Head) (line : List ℕ) → IsLine rows.Probe (codes "-") first head line → IsLine rows.Probe [] Version head line
to_version first head line is =
    let v : IsLine rows.Probe (codes "-") Version head line = subst (λ (w : Word). IsLine rows.Probe (codes "-") w head line) (one_word first is.may.0 is.may.1 is.may.2) is in
    record { may = v.may; writes = v.writes; no_end = v.no_end; short = v.short }

from_version : (head : Head) (line : List ℕ) → IsLine rows.Probe [] Version head line → IsLine rows.Probe (codes "-") Version head line
from_version head line v = record { may = v.may; writes = v.writes; no_end = v.no_end; short = v.short }

pub none_begins : (bytes : List ℕ) → All (λ b. b ≢ 10) bytes → IsNoLine rows.Probe (codes "-") bytes → BeginsNoVersion bytes
none_begins bytes clean none more version s =
    let f = front_of_line bytes more s.line [] clean s.parts in
    none Version s.other f.0 (subst (λ (t : List ℕ). IsLine rows.Probe (codes "-") Version s.other t) f.1 (from_version s.other s.line s.line_is))

pub none_begins_more : (bytes x whole : List ℕ) → whole ≡ bytes ++ x → BeginsNoVersion bytes → BeginsNoVersion whole
none_begins_more bytes x whole e none more version s = none (x ++ more) version (subst (λ (t : List ℕ). SpellsVersion t version) (ap (λ t. t ++ more) e ∙ append_assoc bytes x more) s)

pub probe_fault : (old front x piece : List ℕ) (fault : ReplyFault) (bytes new : List ℕ) (candidates last : List Candidate) → All (λ b. b ≢ 10) (old ++ front) → piece ≡ front ++ x → GoesOn rows.Probe (codes "-") old front (Err fault) bytes candidates → ReadsProbe old piece (Err fault) new last
probe_fault old front x piece NotAReply bytes new candidates last clean cut none = none_begins_more (old ++ front) x (old ++ piece) (ap (λ t. old ++ t) cut ∙ sym (append_assoc old front x)) (none_begins (old ++ front) clean none)
probe_fault old front x piece Closed bytes new candidates last clean cut none = none
probe_fault old front x piece Memory bytes new candidates last clean cut none = tt

-- a line has ended that is none
pub probe_wrong : (old front x piece line : List ℕ) → piece ≡ front ++ 10 ∷ x → line ≡ old ++ front → All (λ b. b ≢ 10) line → ((first : Word) (head : Head) → IsLine rows.Probe (codes "-") first head line → ⊥) → BeginsNoVersion (old ++ piece)
probe_wrong old front x piece line cut is clean none more version s =
    let whole : (old ++ piece) ++ more ≡ line ++ 10 ∷ (x ++ more) = ap (λ t. (old ++ t) ++ more) cut ∙ ap (λ t. t ++ more) (sym (append_assoc old front (10 ∷ x))) ∙ ap (λ t. (t ++ 10 ∷ x) ++ more) (sym is) ∙ append_assoc line (10 ∷ x) more in
    let one = line_one line s.line (x ++ more) [] clean s.line_is.no_end (sym whole ∙ s.parts) in
    none Version s.other (subst (λ (t : List ℕ). IsLine rows.Probe (codes "-") Version s.other t) (sym one.0) (from_version s.other s.line s.line_is))

-- bytes behind the line
pub probe_more : (old front x piece line : List ℕ) → piece ≡ front ++ 10 ∷ x → line ≡ old ++ front → All (λ b. b ≢ 10) line → 0 < length x → BeginsNoVersion (old ++ piece)
probe_more old front x piece line cut is clean some more version s =
    let whole : (old ++ piece) ++ more ≡ line ++ 10 ∷ (x ++ more) = ap (λ t. (old ++ t) ++ more) cut ∙ ap (λ t. t ++ more) (sym (append_assoc old front (10 ∷ x))) ∙ ap (λ t. (t ++ 10 ∷ x) ++ more) (sym is) ∙ append_assoc line (10 ∷ x) more in
    let one = line_one line s.line (x ++ more) [] clean s.line_is.no_end (sym whole ∙ s.parts) in
    omega (arith, ap length one.1, length-append x more)

pub probe_right : (old front piece line version : List ℕ) (first : Word) (head : Head) → piece ≡ front ++ 10 ∷ [] → line ≡ old ++ front → version ≡ strip_carriage_return line → IsLine rows.Probe (codes "-") first head line → SpellsVersion (old ++ piece) version
probe_right old front piece line version first head cut is says line_is = record {
  line = line;
  other = head;
  line_is = to_version first head line line_is;
  parts = ap (λ t. old ++ t) cut ∙ sym (append_assoc old front (10 ∷ [])) ∙ ap (λ t. t ++ 10 ∷ []) (sym is);
  says = says;
}

pub probe_front : (bytes : List ℕ) (candidates : List Candidate) → IsKept rows.Probe (codes "-") bytes candidates → 0 < length candidates → IsVersionFront bytes
probe_front bytes candidates kept some =
    let l = line_opens rows.Probe (codes "-") bytes candidates refl kept some in
    let line = bytes ++ l.2 in (
      λ version s. let f = front_of_line bytes [] s.line [] kept.no_end (append-nil bytes ∙ s.parts) in omega (arith, ap length f.2, length-append f.0 (10 ∷ [])),
      (l.2 ++ 10 ∷ [], strip_carriage_return line, record { line = line; other = l.1; line_is = to_version l.0 l.1 line l.3; parts = sym (append_assoc bytes l.2 (10 ∷ [])); says = refl }),
    )
