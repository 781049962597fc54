use Rattle.std.proofs.Common.{◌≡◌, ◌≤◌, ℕ, List, length, take}
use Rattle.mcv_rules.specs.Arrivals.{found_in, own_found}
use Rattle.mcv_rules.specs.History.{history_of}
use Rattle.mcv_rules.proofs.known.Known.of.Given as goal

-- the table is that of the entries so far
abbrev pub invariant-loop-place : goal.invariant-loop-place
invariant-loop-place l = record {
  found : (p : List ℕ) → found_in l.known p ≡ own_found p (take l.place l.outcomes);
  count : l.known.count ≡ length (history_of (take l.place l.outcomes));
  within : l.known.count ≤ l.place;
}
