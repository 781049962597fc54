-- How many legs running calls may still launch.
use Rattle.std.proofs.Common.{◌≡◌, ◌&&◌, not, cond, inl, inr, ℕ, suc, ◌+◌, ◌<◌, ◌≤◌, Bool, true, false, List, [], ◌∷◌, length, Some, None, refl, sym, ap, ◌∙◌, arith, true≢false}
use Rattle.std.specs.Prelude.{filter}
use Rattle.std.proofs.lemmas.Bool.{cases_lt}
use Rattle.mcv_route.specs.declared.launch.Launch.{Launch}
use Rattle.mcv_route.specs.Routes.{RoutesValue}
use Rattle.mcv_world.specs.World.{put}
use Rattle.mcv_world.specs.LiveWorld.{has_ended}
use Rattle.mcv_events.specs.Entries.{is_launched}
use Rattle.mcv_world.specs.Moves.{with_reply, with_taken}
use Rattle.mcv_events.specs.Rows.{CallRow, Rows, IsCore, recorded_row}
use Rattle.mcv_events.specs.Events.{new_row}
use Rattle.mcv_events.specs.Reservations.{unlaunched, unlaunched_of, RecordingSpends, BeginningReserves, TakingReserves}
use Rattle.mcv_world.proofs.Numbers.{no_some, put_same}
use Rattle.mcv_events.proofs.Sums.{sum_above, sum_put}
use Rattle.mcv_events.proofs.Recording.{launched_stays}

-- ---- entries, by whether they are launched

count_step : (a b : Bool) (x y z : ℕ) → (a ≡ true → b ≡ true) → x ≡ y + z → cond (not a) (suc x) x ≡ cond (b && not a) (suc y) y + cond (not b) (suc z) z
count_step true true x y z h e = e
count_step true false x y z h e = absurd (true≢false (sym (h refl)))
count_step false true x y z h e = omega (arith, e)
count_step false false x y z h e = omega (arith, e)

length_cond : (b : Bool) (l : Launch) (ls : List Launch) → length (cond b (l ∷ ls) ls) ≡ cond b (suc (length ls)) (length ls)
length_cond true l ls = refl
length_cond false l ls = refl

entries_divided : (f g : Launch → Bool) → ((l : Launch) → f l ≡ true → g l ≡ true) → (es : List Launch) → length (filter (λ l. not (f l)) es) ≡ length (filter (λ l. g l && not (f l)) es) + length (filter (λ l. not (g l)) es)
entries_divided f g h [] = refl
entries_divided f g h (l ∷ es) =
    length_cond (not (f l)) l (filter (λ l. not (f l)) es)
    ∙ count_step (f l) (g l) _ _ _ (h l) (entries_divided f g h es)
    ∙ sym (sum_of _ _ _ _ (length_cond (g l && not (f l)) l (filter (λ l. g l && not (f l)) es)) (length_cond (not (g l)) l (filter (λ l. not (g l)) es)))
  where
    sum_of : (a b c d : ℕ) → a ≡ b → c ≡ d → a + c ≡ b + d
    sum_of a b c d e f = omega (arith, e, f)

both_counted : (f : Launch → Bool) (es : List Launch) → length (filter (λ l. not (f l)) es) + length (filter f es) ≡ length es
both_counted f [] = refl
both_counted f (l ∷ es) = by_cases (f l) (both_counted f es)
  where
    by_cases : (b : Bool) → length (filter (λ l. not (f l)) es) + length (filter f es) ≡ length es
        → length (cond (not b) (l ∷ filter (λ l. not (f l)) es) (filter (λ l. not (f l)) es)) + length (cond b (l ∷ filter f es) (filter f es)) ≡ suc (length es)
    by_cases true e = omega (arith, e)
    by_cases false e = omega (arith, e)

-- ---- events

at_most : (r : RoutesValue) (b : Bool) (c : CallRow) → unlaunched_of r (cond b None (Some c)) ≤ unlaunched r c
at_most r true c = omega arith
at_most r false c = omega arith

call_below : (r : RoutesValue) (w : Rows) → IsCore r w → (k : ℕ) (c : CallRow) → w.calls k ≡ Some c → k < w.next_call
call_below r w i k c e = elim (cases_lt k w.next_call) [ inl low ↦ low | inr high ↦ no_some (sym (i.calls_below k high) ∙ e) ]

pub recording_spends : RecordingSpends
recording_spends r w k c e l x i h =
    let call2 = with_reply c.call l.position x in
    let row2 = recorded_row r w c l.position x in
    let after = cond (has_ended r call2) None (Some row2) in
    let t = sum_put (unlaunched_of r) w.calls k after w.next_call (call_below r w i k c h.there) in
    let n = entries_divided (is_launched r c.call) (is_launched r call2) (λ m f. launched_stays r w k c e l x i h m f) c.entries in
    let s : unlaunched_of r (w.calls k) ≡ unlaunched r c = ap (unlaunched_of r) h.there in
    let m = at_most r (has_ended r call2) row2 in
    omega (arith, t, n, s, m)

pub beginning_reserves : BeginningReserves
beginning_reserves r w call request es =
    let new = new_row r w call request es in
    let t = sum_above (unlaunched_of r) w.calls w.next_call (Some new) w.next_call (omega arith) in
    let here : unlaunched_of r (put w.calls w.next_call (Some new) w.next_call) ≡ unlaunched r new = ap (unlaunched_of r) (put_same w.calls w.next_call (Some new)) in
    let n = both_counted (is_launched r call) es in
    omega (arith, t, here, n)

pub taking_reserves : TakingReserves
taking_reserves r w k c i there =
    let row2 = record c { call = with_taken c.call } in
    let t = sum_put (unlaunched_of r) w.calls k (cond (has_ended r (with_taken c.call)) None (Some row2)) w.next_call (call_below r w i k c there) in
    let s : unlaunched_of r (w.calls k) ≡ unlaunched r c = ap (unlaunched_of r) there in
    let m = at_most r (has_ended r (with_taken c.call)) row2 in
    omega (arith, t, s, m)
