use Rattle.std.proofs.Common.{◌≡◌, ◌∙◌, ℕ, ◌+◌, Option, List, ◌∷◌, take, drop, subst, sym, ap, MatchOption}
use Rattle.std.proofs.lemmas.List.{take_rest}
use Rattle.mcv_base.specs.Key.{IsNamed, IsUnnamed, IsUnrouted, IsRoutingPrefix, slash}
use Rattle.mcv_base.proofs.Prefixes.{routed_by, unrouted_second}
use Rattle.mcv_base.proofs.key.prefix_len.Goals as goal

pub returns-in_err-second-clause-routed : goal.returns-in_err-second-clause-routed
returns-in_err-second-clause-routed c =
    let bytes = c.in_ok-byte.bytes.now in
    let first = c.in_ok-first.first in
    let word : c.args.word.now ≡ slash ∷ bytes = c.in_ok-byte.ensures.cases.0 ∙ ap (λ (b : ℕ). b ∷ bytes) c.if-byte-ne47.false in
    let second : IsUnnamed (drop first bytes) = subst (λ (xs : List ℕ). IsUnnamed xs) (take_rest bytes first) c.in_err-second.ensures.named in
    let un : IsUnrouted c.args.word.now = subst (λ (xs : List ℕ). IsUnrouted xs) (sym word) (unrouted_second bytes first c.in_ok-first.ensures.named second) in
    subst (λ (r : Option ℕ). MatchOption r (IsUnrouted c.args.word.now) (λ n. IsRoutingPrefix (take n c.args.word.now))) (sym c.from_residual-in_err-second.ensures) un

pub returns-clause-routed : goal.returns-clause-routed
returns-clause-routed c =
    let bytes = c.in_ok-byte.bytes.now in
    let first = c.in_ok-first.first in
    let next = c.in_ok-second.second in
    let word : c.args.word.now ≡ slash ∷ bytes = c.in_ok-byte.ensures.cases.0 ∙ ap (λ (b : ℕ). b ∷ bytes) c.if-byte-ne47.false in
    let second : IsNamed (drop first bytes) next = subst (λ (xs : List ℕ). IsNamed xs next) (take_rest bytes first) c.in_ok-second.ensures.named in
    subst (λ (xs : List ℕ). IsRoutingPrefix (take (1 + first + next) xs)) (sym word) (routed_by bytes first next c.in_ok-first.ensures.named second)
