-- The legs in flight over a connection are those that were sent and haven't landed, in their order.
use Rattle.std.proofs.Common.{◌≡◌, ◌∙◌, ◌+◌, ◌≤◌, ℕ, zero, suc, List, [], ◌∷◌, ◌++◌, length, map, take, drop, refl, sym, ap, subst, append_assoc, add-one, arith, length-append}
use Rattle.std.proofs.Math.Seq.{drop-append_seam, take-append_seam}
use Rattle.std.proofs.lemmas.List.{drop-map, length-map, length_push, map-append, take-append-drop, take-map}
use Rattle.mcv_base.specs.declared.request.LegId.{LegId}
use Rattle.mcv_base.specs.declared.request.ServerId.{ServerId}
use Rattle.mcv_pipeline.specs.Pipeline.{leg_of}
use Rattle.mcv_pipeline.specs.declared.landed.Landed.{Landed}
use Rattle.mcv_turn.specs.declared.arrival.Arrival.{Arrival}
use Rattle.mcv_upstream.specs.Upstream.{UpstreamValue}
use Rattle.mcv_lines.specs.Channel.{ChannelValue, Reads, ReadsOf}
use Rattle.mcv_lines.specs.Legs.{AreArrivals, HearsPiece, IsArrival, LandLegs, landed_number, leg_number, number_of}
use Rattle.mcv_lines.specs.declared.sent.Sent.{Sent}
use Rattle.mcv_lines.specs.declared.took.Heard.{Heard}
use Rattle.mcv_lines.specs.declared.took.Heard.TheVariants as heard
use Rattle.std.specs.Prelude.{Option}

-- one more is sent
pub one_more : (sent then_sent : List Sent) (one : Sent) (legs then_legs : List LegId) → map number_of sent ≡ map leg_number legs → then_sent ≡ sent ++ one ∷ [] → then_legs ≡ legs ++ one.flight.leg ∷ [] → map number_of then_sent ≡ map leg_number then_legs
one_more sent then_sent one legs then_legs order more longer =
    ap (λ (xs : List Sent). map number_of xs) more ∙ map-append number_of sent (one ∷ []) ∙ ap (λ (ns : List ℕ). ns ++ number_of one ∷ []) order
    ∙ sym (map-append leg_number legs (one.flight.leg ∷ [])) ∙ sym (ap (λ (ls : List LegId). map leg_number ls) longer)

-- ---- legs that land

arrive_more : (server : ServerId) (landed : List Landed) (arrivals : List Arrival) (one : Landed) (a : Arrival) → AreArrivals server landed arrivals → IsArrival server one a → AreArrivals server (landed ++ one ∷ []) (arrivals ++ a ∷ [])
arrive_more server [] [] one a all is = (is, tt)
arrive_more server [] (b ∷ arrivals) one a all is = absurd all
arrive_more server (l ∷ landed) [] one a all is = absurd all
arrive_more server (l ∷ landed) (b ∷ arrivals) one a all is = (all.0, arrive_more server landed arrivals one a all.1 is)

dropped : {X : Type 0} (n : ℕ) (xs : List X) → drop 1 (drop n xs) ≡ drop (suc n) xs
dropped zero xs = refl
dropped (suc n) [] = refl
dropped (suc n) (x ∷ xs) = dropped n xs

drop_next : {X : Type 0} (n : ℕ) (xs : List X) → drop 1 (drop n xs) ≡ drop (n + 1) xs
drop_next n xs = rw add-one (dropped n xs)

pub lands_none : (server : ServerId) (sent : List Sent) (before : List Arrival) → before ≡ before ++ [] → LandLegs server sent [] before sent before
lands_none server sent before same = record { more = []; behind = same; arrive = tt; still = refl }

pub lands_next : (server : ServerId) (sent mid left : List Sent) (landed : List Landed) (before now after : List Arrival) (one : Landed) → LandLegs server sent landed before mid now
    → (a : Arrival) × (after ≡ now ++ a ∷ []) × IsArrival server one a → left ≡ drop 1 mid → LandLegs server sent (landed ++ one ∷ []) before left after
lands_next server sent mid left landed before now after one all is rest = record {
  more = all.more ++ is.0 ∷ [];
  behind = is.1 ∙ ap (λ (xs : List Arrival). xs ++ is.0 ∷ []) all.behind ∙ append_assoc before all.more (is.0 ∷ []);
  arrive = arrive_more server landed all.more one is.0 all.arrive is.2;
  still = rest ∙ ap (λ (xs : List Sent). drop 1 xs) all.still ∙ drop_next (length landed) sent ∙ ap (λ (n : ℕ). drop n sent) (sym (length_push landed one));
}

-- ---- a piece

pub reads_legs : (old new : UpstreamValue) (left leaves : Option (List ℕ)) (room : List ℕ) (result : Heard) (landed : List Landed) → Reads old left room result landed new leaves → old.legs.legs ≡ map leg_of landed ++ new.legs.legs
reads_legs old new left leaves room (heard.Bytes n) landed r = r.1.lands.legs
reads_legs old new left leaves room heard.NotNow landed r = rw r.none (ap (λ (u : UpstreamValue). u.legs.legs) (sym r.carrier))
reads_legs old new left leaves room heard.Over landed r = rw r.none (ap (λ (u : UpstreamValue). u.legs.legs) (sym r.carrier))
reads_legs old new left leaves room heard.Faulty landed r = r.3.lands.legs
reads_legs old new left leaves room heard.Answers landed r = absurd r

numbers_landed : (landed : List Landed) → map leg_number (map leg_of landed) ≡ map landed_number landed
numbers_landed [] = refl
numbers_landed (l ∷ landed) = ap (λ (ns : List ℕ). landed_number l ∷ ns) (numbers_landed landed)

module _ (sent : List Sent) (landed : List Landed) (legs left : List LegId) (order : map number_of sent ≡ map leg_number legs) (lands : legs ≡ map leg_of landed ++ left) where
  numbers : map number_of sent ≡ map landed_number landed ++ map leg_number left
  numbers =
      order ∙ ap (λ (ls : List LegId). map leg_number ls) lands ∙ map-append leg_number (map leg_of landed) left
      ∙ ap (λ (ns : List ℕ). ns ++ map leg_number left) (numbers_landed landed)

  pub few_land : length landed ≤ length sent
  few_land =
      let count = ap length numbers in
      let one = length-map sent number_of in
      let other = length-map landed landed_number in
      let both = length-append (map landed_number landed) (map leg_number left) in
      omega (arith, count, one, other, both)

  pub gone_are : map number_of (take (length landed) sent) ≡ map landed_number landed
  gone_are =
      sym (take-map number_of (length landed) sent) ∙ ap (λ (ns : List ℕ). take (length landed) ns) numbers
      ∙ ap (λ (n : ℕ). take n (map landed_number landed ++ map leg_number left)) (sym (length-map landed landed_number))
      ∙ take-append_seam (map landed_number landed) (map leg_number left)

  pub left_are : map number_of (drop (length landed) sent) ≡ map leg_number left
  left_are =
      sym (drop-map number_of (length landed) sent) ∙ ap (λ (ns : List ℕ). drop (length landed) ns) numbers
      ∙ ap (λ (n : ℕ). drop n (map landed_number landed ++ map leg_number left)) (sym (length-map landed landed_number))
      ∙ drop-append_seam (map landed_number landed) (map leg_number left)

pub hears_piece : (server : ServerId) (room : List ℕ) (sent left : List Sent) (old new : ChannelValue) (result : Heard) (landed more : List Landed) (before after : List Arrival) → map number_of sent ≡ map leg_number old.carrier.legs.legs
    → landed ≡ more → ReadsOf old room result more new → LandLegs server sent landed before left after → (arrivals : List Arrival) × (after ≡ before ++ arrivals) × HearsPiece server room sent old result arrivals left new
hears_piece server room sent left old new result landed more before after order same reads all =
    let reads : ReadsOf old room result landed new = subst (λ (ls : List Landed). ReadsOf old room result ls new) (sym same) reads in (
      all.more,
      all.behind,
      record {
        landed = landed;
        gone = take (length landed) sent;
        reads = reads;
        legs = sym (take-append-drop (length landed) sent) ∙ ap (λ (xs : List Sent). take (length landed) sent ++ xs) (sym all.still);
        own = gone_are sent landed old.carrier.legs.legs new.carrier.legs.legs order (reads_legs old.carrier new.carrier old.ends.left new.ends.left room result landed reads.reads);
        arrive = all.arrive;
      },
    )
