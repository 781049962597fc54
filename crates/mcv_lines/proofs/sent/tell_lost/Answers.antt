use Rattle.std.proofs.Common.{◌≡◌, ◌∙◌, ◌++◌, ◌∷◌, ◌&&◌, [], ℕ, Bool, List, false, ap, arith, cond, length, ltb, refl, rules, sym}
use Rattle.std.proofs.lemmas.List.{append-nil}
use Rattle.mcv_turn.specs.declared.arrival.Arrival.{Arrival}
use Rattle.mcv_turn.specs.declared.flight.Flight.{Flight}
use Rattle.mcv_lines.specs.Lost.{again_of, goes_again, lost_leg, lost_of}
use Rattle.mcv_lines.specs.declared.sent.Sent.{Sent}
use Rattle.mcv_lines.proofs.LegsAreLost.{no_legs, one_goes, one_is_lost}
use Rattle.mcv_lines.proofs.sent.tell_lost.Goals as goal

pub loop-one-init : goal.loop-one-init
loop-one-init c = record { again = refl; lost = refl; arrivals_room = c.requires.arrivals; again_room = c.requires.again }

-- there is room for one more
pub tell_one-is_oldest-requires : goal.tell_one-is_oldest-requires
tell_one-is_oldest-requires c =
    let many = c.in-Some.ensures.len in
    let arrivals = c.loop-one.invariant.arrivals_room in
    let again = c.loop-one.invariant.again_room in
    record { arrivals = omega (arith, many, arrivals); again = omega (arith, many, again) }

pub loop-one-preserved : goal.loop-one-preserved
loop-one-preserved c =
    let before = c.loop-one.invariant in
    let one = c.in-Some.one in
    let rest = c.pop_front.new.self.items in
    let loss = c.args.loss in
    let unwritten = c.args.unwritten in
    let goes = c.goes_again-goes.result in
    let server = c.args.server in
    let oldest = c.loop-one.is_oldest in
    let items : c.loop-one.sent.items ≡ one ∷ rest = c.in-Some.ensures.items in
    let many = c.in-Some.ensures.len in
    let told = c.tell_one-is_oldest.ensures in
    let behind : c.len.result ≡ length rest = search rules in
    let as_told : goes ≡ goes_again loss (ltb (length rest) unwritten) one = c.goes_again-goes.ensures ∙ ap (λ (n : ℕ). goes_again loss (ltb n unwritten) one) behind in
    let few = told.few in
    let room = told.room in
    let arrivals_room = before.arrivals_room in
    let again_room = before.again_room in
    record {
      again =
          ap (λ (xs : List Flight). xs ++ again_of loss unwritten rest) told.again ∙ one_goes goes one.flight (again_of loss unwritten rest) c.loop-one.again.items
          ∙ ap (λ (b : Bool). c.loop-one.again.items ++ cond b (one.flight ∷ again_of loss unwritten rest) (again_of loss unwritten rest)) as_told
          ∙ ap (λ (xs : List Sent). c.loop-one.again.items ++ again_of loss unwritten xs) (sym items) ∙ before.again;
      lost =
          ap (λ (b : Bool). c.tell_one-is_oldest.new.arrivals.items ++ lost_of server loss unwritten b rest) told.oldest
          ∙ ap (λ (xs : List Arrival). xs ++ lost_of server loss unwritten (oldest && goes) rest) told.lost
          ∙ one_is_lost goes oldest (lost_leg server oldest one.flight.leg) (λ o. lost_of server loss unwritten o rest) c.loop-one.arrivals.items
          ∙ ap (λ (b : Bool). c.loop-one.arrivals.items ++ cond b (lost_of server loss unwritten oldest rest) (lost_leg server oldest one.flight.leg ∷ lost_of server loss unwritten false rest)) as_told
          ∙ ap (λ (xs : List Sent). c.loop-one.arrivals.items ++ lost_of server loss unwritten oldest xs) (sym items) ∙ before.lost;
      arrivals_room = omega (arith, many, few.0, room.0, arrivals_room);
      again_room = omega (arith, many, few.1, room.1, again_room);
    }

pub loop-one-smaller : goal.loop-one-smaller
loop-one-smaller c = let many = c.in-Some.ensures.len in omega (arith, many)

-- none is left
pub returns : goal.returns
returns c =
    let none : c.loop-one.sent.items ≡ [] = no_legs c.loop-one.sent.items (c.in_default.ensures.items ∙ c.in_default.ensures.rest) in
    record {
      none = sym c.in_default.ensures.items ∙ none;
      again = sym (append-nil c.loop-one.again.items) ∙ ap (λ (xs : List Sent). c.loop-one.again.items ++ again_of c.args.loss c.args.unwritten xs) (sym none) ∙ c.loop-one.invariant.again;
      lost = sym (append-nil c.loop-one.arrivals.items) ∙ ap (λ (xs : List Sent). c.loop-one.arrivals.items ++ lost_of c.args.server c.args.loss c.args.unwritten c.loop-one.is_oldest xs) (sym none) ∙ c.loop-one.invariant.lost;
    }
