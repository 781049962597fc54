-- Advances by the space that must be between two words.
use Rattle.std.proofs.Common.{◌≡◌, ℕ, Bool, true, false, cond, eqb, List, [], ◌∷◌, Option, Some, None, refl, sym, ap, subst, arith}
use Rattle.mcv_reply.specs.declared.word.Tail.{Tail}
use Rattle.mcv_reply.specs.declared.word.Tail.TheVariants as tails
use Rattle.mcv_reply.specs.declared.candidate.Head.{Head}
use Rattle.mcv_reply.specs.declared.candidate.Name.{Name}
use Rattle.mcv_reply.specs.declared.candidate.Name.TheVariants.{First, Key}
use Rattle.mcv_reply.specs.declared.candidate.Number.{Number}
use Rattle.mcv_reply.specs.declared.candidate.Number.TheVariants.{Flags, Size, Cas}
use Rattle.mcv_reply.specs.declared.candidate.LinePart.TheVariants.{BeforeName, BeforeNumber}
use Rattle.mcv_reply.specs.declared.candidate.Candidate.{Candidate}
use Rattle.mcv_reply.specs.declared.candidate.Advance.{Advance}
use Rattle.mcv_reply.specs.Word.{tail_of}
use Rattle.mcv_reply.specs.Line.{word, number, Writes, cas_forms, flags_forms, size_forms, tail_forms}
use Rattle.mcv_reply.specs.Candidate.{HasName, HasNumber, AdvancesBehindName, AdvancesBehindNumber, fewest, zero_head}
use Rattle.mcv_reply.proofs.Writing.{space_on, space_back}
use Rattle.mcv_reply.proofs.CandidateSteps.{moves_by_space}

module _ (has : Bool) (key : List ℕ) (c : Candidate) (b : ℕ) where
  -- the key, behind the first word of a value's line
  pub before_key : (name : Name) (r : Option Advance) → name ≡ First → tail_of c.first ≡ tails.Value → r ≡ cond (eqb b 32) (Some (record { next = record c { part = BeforeName Key }; free = false })) None → AdvancesBehindName has key c name b r
  before_key name r is value e =
      let to = λ (head : Head) (more : List ℕ) (f : Writes (tail_forms (tail_of c.first) has key head) 1 (b ∷ more)). subst (λ (t : Tail). Writes (tail_forms t has key head) 1 (b ∷ more)) value f in
      let at_first : AdvancesBehindName has key c First b r =
      moves_by_space has key c b (λ head more. Writes (tail_forms (tail_of c.first) has key head) 1 more) (fewest (tail_forms (tail_of c.first) has key zero_head) 1) _ r e
      (λ head more f. (space_on (word key) (Writes (flags_forms has head) 1) b more (to head more f)).0)
      (λ s. record {
        on = λ head more f. (space_on (word key) (Writes (flags_forms has head) 1) b more (to head more f)).1;
        back = λ head more f. subst (λ (t : Tail). Writes (tail_forms t has key head) 1 (b ∷ more)) (sym value) (space_back (word key) (Writes (flags_forms has head) 1) b more s f);
        first = refl;
        spare = refl;
        valid = value;
        needs = (let same : fewest (tail_forms (tail_of c.first) has key zero_head) 1 ≡ fewest (tail_forms tails.Value has key zero_head) 1 = ap (λ (t : Tail). fewest (tail_forms t has key zero_head) 1) value in omega (arith, same));
      }) in
      subst (λ (n : Name). AdvancesBehindName has key c n b r) (sym is) at_first

  -- the flags, behind the key
  pub before_flags : (name : Name) (r : Option Advance) → name ≡ Key → HasName c.first name → r ≡ cond (eqb b 32) (Some (record { next = record c { part = BeforeNumber Flags }; free = false })) None → AdvancesBehindName has key c name b r
  before_flags name r is value e =
      let at_key : AdvancesBehindName has key c Key b r =
      moves_by_space has key c b (λ head more. Writes (flags_forms has head) 1 more) (fewest (flags_forms has zero_head) 1) _ r e
      (λ head more f. (space_on (number 4294967295 head.flags) (Writes (size_forms has head) 1) b more f).0)
      (λ s. record {
        on = λ head more f. (tt, (space_on (number 4294967295 head.flags) (Writes (size_forms has head) 1) b more f).1);
        back = λ head more f. space_back (number 4294967295 head.flags) (Writes (size_forms has head) 1) b more s f.1;
        first = refl;
        spare = refl;
        valid = subst (HasName c.first) is value;
        needs = omega arith;
      }) in
      subst (λ (n : Name). AdvancesBehindName has key c n b r) (sym is) at_key

  -- the size, behind the flags
  pub before_size : (n : Number) (value : ℕ) (r : Option Advance) → n ≡ Flags → HasNumber c.first has n → r ≡ cond (eqb b 32) (Some (record { next = record c { head = record c.head { flags = value }; part = BeforeNumber Size }; free = false })) None → AdvancesBehindNumber has key c n value b r
  before_size n value r is valid e =
      let at_flags : AdvancesBehindNumber has key c Flags value b r =
      moves_by_space has key c b (λ head more. Unit {0} × (value ≡ head.flags) × Writes (size_forms has head) 1 more) (fewest (size_forms has zero_head) 1) _ r e
      (λ head more f. (space_on (number 1048576 head.size) (Writes (cas_forms has head.cas) 1) b more f.2).0)
      (λ s. record {
        on = λ head more f. (sym f.1, (space_on (number 1048576 head.size) (Writes (cas_forms has head.cas) 1) b more f.2).1);
        back = λ head more f. (tt, sym f.0, space_back (number 1048576 head.size) (Writes (cas_forms has head.cas) 1) b more s f.1);
        first = refl;
        spare = refl;
        valid = subst (HasNumber c.first has) is valid;
        needs = omega arith;
      }) in
      subst (λ (t : Number). AdvancesBehindNumber has key c t value b r) (sym is) at_flags

-- the unique number, behind the size
pub before_cas : (has : Bool) (key : List ℕ) (c : Candidate) (b : ℕ) (n : Number) (value : ℕ) (r : Option Advance) → n ≡ Size → has ≡ true → HasNumber c.first has n → r ≡ cond (eqb b 32) (Some (record { next = record c { head = record c.head { size = value }; part = BeforeNumber Cas }; free = false })) None → AdvancesBehindNumber has key c n value b r
before_cas has key c b n value r is cas valid e =
    let size : HasNumber c.first true Size = subst (λ (t : Number). HasNumber c.first true t) is (subst (λ (h : Bool). HasNumber c.first h n) cas valid) in
    let at_size : AdvancesBehindNumber true key c Size value b r =
    moves_by_space true key c b (λ head more. (head.flags ≡ c.head.flags) × (value ≡ head.size) × Writes (cas_forms true head.cas) 1 more) (fewest (cas_forms true 0) 1) _ r e
    (λ head more f. (space_on (number 18446744073709551615 head.cas) (Writes [] 1) b more f.2).0)
    (λ s. record {
      on = λ head more f. ((f.0, sym f.1), (space_on (number 18446744073709551615 head.cas) (Writes [] 1) b more f.2).1);
      back = λ head more f. (f.0.0, sym f.0.1, space_back (number 18446744073709551615 head.cas) (Writes [] 1) b more s f.1);
      first = refl;
      spare = refl;
      valid = (size, refl);
      needs = omega arith;
    }) in
    subst (λ (t : Number). AdvancesBehindNumber has key c t value b r) (sym is) (subst (λ (h : Bool). AdvancesBehindNumber h key c Size value b r) (sym cas) at_size)
