use Rattle.std.proofs.Common.{◌∙◌, ◌++◌, List, [], ap, append-nil, arith, drop, inl, inr, length, map, refl, sym}
use Rattle.mcv_pipeline.specs.declared.landed.Landed.{Landed}
use Rattle.mcv_turn.specs.declared.arrival.Arrival.{Arrival}
use Rattle.mcv_lines.specs.Legs.{number_of}
use Rattle.mcv_lines.specs.declared.sent.Sent.{Sent}
use Rattle.mcv_lines.proofs.InFlight.{few_land, hears_piece, left_are, reads_legs}
use Rattle.mcv_lines.proofs.OfOneServer.{left_lengths}
use Rattle.mcv_lines.proofs.open.OpenLine.read.Goals as goal

pub land-requires-clause-few : goal.land-requires-clause-few
land-requires-clause-few g c =
    let m = c.read-heard.ensures in
    let old = c.args.self.now.channel in
    let new = c.read-heard.new.self in
    let same = m.1 ∙ ap (λ (ls : List Landed). ls ++ m.0) c.new-landed.ensures.items in
    let count = ap length same in
    let few = few_land c.args.self.now.sent.items m.0 old.carrier.legs.legs new.carrier.legs.legs c.args.self.now.in_order (reads_legs old.carrier new.carrier old.ends.left new.ends.left c.read-heard.new.room c.read-heard.result m.0 m.2.reads) in
    omega (arith, count, few)

pub invariant_of-self : goal.invariant_of-self
invariant_of-self g c =
    let m = c.read-heard.ensures in
    let old = c.args.self.now.channel in
    let new = c.read-heard.new.self in
    let sent = c.args.self.now.sent.items in
    let same = m.1 ∙ ap (λ (ls : List Landed). ls ++ m.0) c.new-landed.ensures.items in
    record {
      in_order = ap (λ (xs : List Sent). map number_of xs) (c.land.ensures.still ∙ ap (λ (ls : List Landed). drop (length ls) sent) same)
          ∙ left_are sent m.0 old.carrier.legs.legs new.carrier.legs.legs c.args.self.now.in_order (reads_legs old.carrier new.carrier old.ends.left new.ends.left c.read-heard.new.room c.read-heard.result m.0 m.2.reads);
      lengths = left_lengths (length m.0) sent c.land.new.sent.items c.args.self.now.lengths (c.land.ensures.still ∙ ap (λ (ls : List Landed). drop (length ls) sent) same);
    }

pub returns-then-is_err : goal.returns-then-is_err
returns-then-is_err g c = ([], c.reserve.ensures.items ∙ sym (append-nil c.args.arrivals.now.items), inr (record { faulty = refl; none = refl; still = refl; same = refl }))

pub returns : goal.returns
returns g c =
    let m = c.read-heard.ensures in
    let old = c.args.self.now.channel in
    let new = c.read-heard.new.self in
    let same = m.1 ∙ ap (λ (ls : List Landed). ls ++ m.0) c.new-landed.ensures.items in
    let h = hears_piece c.args.server c.read-heard.new.room c.args.self.now.sent.items c.land.new.sent.items old new c.read-heard.result c.read-heard.new.landed.items m.0 c.reserve.new.self.items c.land.new.arrivals.items c.args.self.now.in_order same m.2 c.land.ensures in
    (h.0, h.1 ∙ ap (λ (xs : List Arrival). xs ++ h.0) c.reserve.ensures.items, inl h.2)
