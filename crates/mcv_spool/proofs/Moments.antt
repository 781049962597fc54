-- How a run of disk calls goes on.
use Rattle.std.proofs.Common.{inl, inr, ⊎_elim, ℕ, ◌≤◌, List, refl, ◌∙◌, arith}
use Rattle.mcv_spool.specs.Disk.{Changes, IsQuiet, LeavesOnly}

module _ {D : Type 0} (seen : D → List ℕ) (may_leave : D → List ℕ → Type 0) (moment : D → ℕ) (left_since : D → ℕ → List ℕ → Type 0) where
  -- before the first call
  pub started : (old : D) (P : List ℕ → Type 0) → LeavesOnly moment left_since old old P
  started old P = record { later = omega arith; since = λ t c le left. inl left }

  -- a call that changes no byte
  pub after_quiet : (old mid new : D) (P : List ℕ → Type 0) → LeavesOnly moment left_since old mid P → IsQuiet seen may_leave moment left_since mid new → LeavesOnly moment left_since old new P
  after_quiet old mid new P so_far quiet = record {
    later = omega (arith, so_far.later, quiet.later);
    since = λ t c le left. so_far.since t c le (quiet.since t c (omega (arith, le, so_far.later)) left);
  }

  -- a call after which a crash leaves what has P
  pub after_change : (step : List ℕ → List ℕ → Type 0) (old mid new : D) (P : List ℕ → Type 0) → LeavesOnly moment left_since old mid P → Changes may_leave moment left_since step mid new
      → ((c : List ℕ) → may_leave new c → P c) → LeavesOnly moment left_since old new P
  after_change step old mid new P so_far change here = record {
    later = omega (arith, so_far.later, change.later);
    since = λ t c le left. ⊎_elim (λ past. so_far.since t c le past) (λ now. inr (here c now)) (change.since t c (omega (arith, le, so_far.later)) left);
  }

  -- calls that leave what has Q, where that has P
  pub after_run : (old mid new : D) (P Q : List ℕ → Type 0) → LeavesOnly moment left_since old mid P → LeavesOnly moment left_since mid new Q → ((c : List ℕ) → Q c → P c) → LeavesOnly moment left_since old new P
  after_run old mid new P Q so_far run same = record {
    later = omega (arith, so_far.later, run.later);
    since = λ t c le left. ⊎_elim (λ past. so_far.since t c le past) (λ q. inr (same c q)) (run.since t c (omega (arith, le, so_far.later)) left);
  }

  -- what has P has Q
  pub weaker : (old new : D) (P Q : List ℕ → Type 0) → LeavesOnly moment left_since old new P → ((c : List ℕ) → P c → Q c) → LeavesOnly moment left_since old new Q
  weaker old new P Q so_far same = record {
    later = so_far.later;
    since = λ t c le left. ⊎_elim (λ past. inl past) (λ p. inr (same c p)) (so_far.since t c le left);
  }

  -- a read gives what has P, where a crash could leave nothing else before
  pub seen_has : ((disk : D) → may_leave disk (seen disk)) → ((disk : D) (t : ℕ) (c : List ℕ) → t ≤ moment disk → may_leave disk c → left_since disk t c) → ((disk : D) (c : List ℕ) → left_since disk (moment disk) c → may_leave disk c)
      → (old new : D) (P : List ℕ → Type 0) → LeavesOnly moment left_since old new P → ((c : List ℕ) → may_leave old c → P c) → P (seen new)
  seen_has read_may_stay counts_now only_now old new P run before =
      ⊎_elim (λ past. before (seen new) (only_now old (seen new) past)) (λ p. p) (run.since (moment old) (seen new) (omega arith) (counts_now new (moment old) (seen new) run.later (read_may_stay new)))

  pub quiet_start : (old : D) → IsQuiet seen may_leave moment left_since old old
  quiet_start old = record { same = refl; crash = λ c left. left; later = omega arith; since = λ t c le left. left; forgets_nothing = λ t c le left. left }

  pub quiet_on : (old mid new : D) → IsQuiet seen may_leave moment left_since old mid → IsQuiet seen may_leave moment left_since mid new → IsQuiet seen may_leave moment left_since old new
  quiet_on old mid new first then = record {
    same = then.same ∙ first.same;
    crash = λ c left. first.crash c (then.crash c left);
    later = omega (arith, first.later, then.later);
    since = λ t c le left. first.since t c le (then.since t c (omega (arith, le, first.later)) left);
    forgets_nothing = λ t c le left. then.forgets_nothing t c (omega (arith, le, first.later)) (first.forgets_nothing t c le left);
  }
