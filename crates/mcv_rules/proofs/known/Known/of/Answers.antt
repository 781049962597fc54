use Rattle.std.proofs.Common.{arith, ◌≡◌, ◌≤◌, ℕ, suc, Bool, true, false, cond, List, None, length, unwrap_or, refl, sym, ap, ap₂, ◌∙◌}
use Rattle.std.specs.Prelude.{is_some}
use Rattle.std.proofs.lemmas.List.{take_all}
use Rattle.mcv_rules.specs.Arrivals.{found_in, known_at, own_found, own_arrived}
use Rattle.mcv_rules.specs.History.{history_of}
use Rattle.mcv_rules.proofs.KnownIsHistory.{count-grows, own_found-grows, same_bytes}
use Rattle.mcv_rules.proofs.known.Known.of.Goals as goal

-- the count grows by one at most
grown : (b : Bool) (n m : ℕ) → n ≤ m → cond b n (suc n) ≤ suc m
grown true n m h = omega (arith, h)
grown false n m h = omega (arith, h)

pub loop-place-preserved : goal.loop-place-preserved
loop-place-preserved c =
    let entry = c.index-outcomes-place.result in
    let xs = c.args.outcomes.now in
    let place = c.loop-place.place in
    let before = c.loop-place.invariant in
    let heard = c.in_ok-hear.ensures in
    record {
      found = λ p.
          heard.found p
          ∙ rw (same_bytes entry.position p, before.found entry.position, before.found p, before.count) refl
          ∙ sym (own_found-grows p xs place entry c.loop-place-test.true c.index-outcomes-place.is);
      count =
          heard.count
          ∙ rw (before.found entry.position, before.count) refl
          ∙ sym (count-grows xs place entry c.loop-place-test.true c.index-outcomes-place.is);
      within =
          let one = grown (is_some (found_in c.loop-place.known entry.position)) c.loop-place.known.count place before.within in
          rw heard.count (omega (arith, one));
    }

-- the table of all entries says of each position what the list does
pub returns : goal.returns
returns c =
    let xs = c.args.outcomes.now in
    let all = take_all c.loop-place.place xs c.loop-place-test.false in
    let whole : (p : List ℕ) → known_at c.loop-place.known p ≡ own_arrived xs p =
    λ p. ap₂ (λ r n. unwrap_or r (record { answer = None; came = n })) (c.loop-place.invariant.found p ∙ ap (own_found p) all) (c.loop-place.invariant.count ∙ ap (λ ys. length (history_of ys)) all)
    in
    λ i p. whole p i
