-- A candidate behind some bytes.
use Rattle.std.proofs.Common.{◌≡◌, ◌≢◌, ℕ, ◌+◌, ◌<◌, ◌≤◌, Bool, true, cond, List, [], ◌∷◌, ◌++◌, length, get_or, drop, Some, None, sym, subst, ◌∙◌, arith}
use Rattle.std.proofs.lemmas.List.{drop_more, drop_all}
use Rattle.std.proofs.lemmas.List.Elements.{All-tail, All-cons}
use Rattle.mcv_reply.specs.declared.candidate.Head.{Head}
use Rattle.mcv_reply.specs.declared.candidate.Candidate.{Candidate}
use Rattle.mcv_reply.specs.declared.candidate.Advance.{Advance}
use Rattle.mcv_reply.specs.Candidate.{IsValid, AdvancesAt, Open, Reads, ReadsOn, needed}
use Rattle.mcv_reply.proofs.LeastLengths.{needed_least}

module _ (has : Bool) (key : List ℕ) (c : Candidate) (b : ℕ) (no_end : b ≢ 10) where
  -- the line goes on, and may have so many bytes more than it must
  pub goes : (m : Advance) (left cost : ℕ) → AdvancesAt has key c c.part b (Some m) → needed c.first has key c.part + cost ≡ needed m.next.first has key m.next.part + 1 → c.spare ≡ left + cost → ReadsOn has key c (b ∷ []) (record m.next { spare = left })
  goes m left cost moves needs spare = record {
    on = λ head more o. record {
      follows = moves.on head more o.follows;
      short = (let short : length (b ∷ more) ≤ needed c.first has key c.part + c.spare = o.short in omega (arith, short));
      no_end = All-tail (λ x. x ≢ 10) b more o.no_end;
    };
    back = λ head more o. record {
      follows = moves.back head more o.follows;
      short = (let short : length more ≤ needed m.next.first has key m.next.part + left = o.short in omega (arith, short));
      no_end = All-cons (λ x. x ≢ 10) b more no_end o.no_end;
    };
    first = moves.first;
    valid = moves.valid;
  }

  -- no byte is left for it
  pub too_long : (m : Advance) → AdvancesAt has key c c.part b (Some m) → m.free ≡ true → c.spare ≡ 0 → (head : Head) (more : List ℕ) → Open has key c head (b ∷ more) → ⊥
  too_long m moves free none head more o =
      let least = needed_least m.next.first has key m.next.head m.next.part head more (moves.on head more o.follows) in
      let cost : needed c.first has key c.part + 1 ≡ needed m.next.first has key m.next.part + 1 = subst (λ (t : Bool). needed c.first has key c.part + cond t 1 0 ≡ needed m.next.first has key m.next.part + 1) free moves.needs in
      let short : length (b ∷ more) ≤ needed c.first has key c.part + c.spare = o.short in
      omega (arith, least, cost, short)

-- the candidate comes behind the first k bytes
pub record IsReadTo (has : Bool) (key : List ℕ) (c : Candidate) (bytes : List ℕ) (k : ℕ) (next : Candidate) : Type 0 where
  pub on : (head : Head) (more : List ℕ) → Open has key c head (bytes ++ more) → Open has key next head (drop k bytes ++ more)
  pub back : (head : Head) (more : List ℕ) → Open has key next head (drop k bytes ++ more) → Open has key c head (bytes ++ more)
  pub first : next.first ≡ c.first
  pub valid : IsValid has next

module _ (has : Bool) (key : List ℕ) (c : Candidate) (bytes : List ℕ) (k : ℕ) (at : Candidate) (so_far : IsReadTo has key c bytes k at) where
  pub reads_more : (next : Candidate) → k < length bytes → Reads has key at (get_or bytes k 0 ∷ []) (Some next) → IsReadTo has key c bytes (k + 1) next
  reads_more next l reads =
      let cut : drop k bytes ≡ get_or bytes k 0 ∷ drop (k + 1) bytes = drop_more bytes k 0 l in
      record {
        on = λ head more o. reads.on head (drop (k + 1) bytes ++ more) (subst (λ (t : List ℕ). Open has key at head (t ++ more)) cut (so_far.on head more o));
        back = λ head more o. so_far.back head more (subst (λ (t : List ℕ). Open has key at head (t ++ more)) (sym cut) (reads.back head (drop (k + 1) bytes ++ more) o));
        first = reads.first ∙ so_far.first;
        valid = reads.valid;
      }

  pub reads_wrong : k < length bytes → Reads has key at (get_or bytes k 0 ∷ []) None → Reads has key c bytes None
  reads_wrong l never = λ head more o.
      let cut : drop k bytes ≡ get_or bytes k 0 ∷ drop (k + 1) bytes = drop_more bytes k 0 l in
      never head (drop (k + 1) bytes ++ more) (subst (λ (t : List ℕ). Open has key at head (t ++ more)) cut (so_far.on head more o))

  pub reads_all : length bytes ≤ k → Reads has key c bytes (Some at)
  reads_all l =
      let none : drop k bytes ≡ [] = drop_all k bytes l in
      record { on = λ head more o. subst (λ (t : List ℕ). Open has key at head (t ++ more)) none (so_far.on head more o); back = λ head more o. so_far.back head more (subst (λ (t : List ℕ). Open has key at head (t ++ more)) (sym none) o); first = so_far.first; valid = so_far.valid }
