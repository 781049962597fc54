-- Where a line cannot end yet.
use Rattle.std.proofs.Common.{◌≡◌, ℕ, ◌<◌, ◌≤◌, Bool, true, false, List, [], length, None, refl, ap, subst, arith}
use Rattle.std.proofs.lemmas.List.{length-drop}
use Rattle.mcv_reply.specs.declared.word.Tail.{Tail}
use Rattle.mcv_reply.specs.declared.word.Tail.TheVariants as tails
use Rattle.mcv_reply.specs.declared.candidate.Head.{Head}
use Rattle.mcv_reply.specs.declared.candidate.Name.{Name}
use Rattle.mcv_reply.specs.declared.candidate.Name.TheVariants.{First}
use Rattle.mcv_reply.specs.declared.candidate.LinePart.{LinePart}
use Rattle.mcv_reply.specs.declared.candidate.LinePart.TheVariants.{BeforeName, InName}
use Rattle.mcv_reply.specs.declared.candidate.Candidate.{Candidate}
use Rattle.mcv_reply.specs.Word.{tail_of, word_text}
use Rattle.mcv_reply.specs.Line.{tail_forms}
use Rattle.mcv_reply.specs.Candidate.{AllRead, Ends, Follows, SameCas, fewest, is_clean, name_text, needed, zero_head}
use Rattle.mcv_reply.proofs.LeastLengths.{needed_least}
use Rattle.mcv_reply.proofs.Words.{clean_starts, name_clean}

same_cas : (has : Bool) (read : Head) → SameCas has read read
same_cas true read = refl
same_cas false read = tt

pub all_read : (t : Tail) (has : Bool) (read : Head) → AllRead t has read read
all_read tails.Nothing has read = tt
all_read tails.Text has read = tt
all_read tails.Value has read = (refl, refl, same_cas has read)
all_read tails.Count has read = refl

module _ (has : Bool) (key : List ℕ) (c : Candidate) where
  -- bytes are missing
  pub ends_not : (part : LinePart) → c.part ≡ part → 1 ≤ needed c.first has key part → Ends has key c None
  ends_not part is some head f =
      let least = needed_least c.first has key c.head part head [] (subst (λ (p : LinePart). Follows c.first has key c.head p head []) is f) in
      omega (arith, least)

  clean_length : (bytes : List ℕ) → is_clean bytes ≡ true → 1 ≤ length bytes
  clean_length bytes clean = let s = clean_starts bytes clean in omega (arith, ap length s.2)

  pub not_before_name : (name : Name) → c.part ≡ BeforeName name → is_clean key ≡ true → Ends has key c None
  not_before_name name is clean = ends_not (BeforeName name) is (omega (arith, clean_length (name_text name c.first key) (name_clean name c.first key clean)))

  pub not_in_word : (at : ℕ) → c.part ≡ InName First at → at < length (word_text c.first) → Ends has key c None
  not_in_word at is l = ends_not (InName First at) is (omega (arith, length-drop at (word_text c.first)))

  pub not_before_value : (at : ℕ) → c.part ≡ InName First at → tail_of c.first ≡ tails.Value → Ends has key c None
  not_before_value at is value =
      let same : fewest (tail_forms (tail_of c.first) has key zero_head) 1 ≡ fewest (tail_forms tails.Value has key zero_head) 1 = ap (λ (t : Tail). fewest (tail_forms t has key zero_head) 1) value in
      ends_not (InName First at) is (omega (arith, same))
