use Rattle.std.proofs.Common.{◌≡◌, rules, option_map, refl, ap, arith, None}
use Rattle.std.specs.Arc.{arc_value}
use Rattle.mcv_route.specs.Eras.{breaks_of, since_at}
use Rattle.mcv_core.proofs.IdleCores
use Rattle.mcv_core.specs.View.{core_view}
use Rattle.mcv_core.specs.Chapters.{era_move, in_era}
use Rattle.mcv_core.proofs.dispatcher.Dispatcher.clock.Goals as goal

pub returns : goal.returns
returns c =
    let d = c.args.self.now in
    let is : option_map (λ m. m.0) c.since-since.result ≡ since_at (breaks_of (arc_value d.accepted)) c.args.moment.0 = search rules in
    record {
      move = era_move c.after-era.result;
      event = record {
        forward = omega arith;
        view = ap (λ since. record (in_era (core_view d) since) { moment = c.args.moment.0 }) is;
        era_is = IdleCores.new_era d.since c.since-since.result c.after-era.result c.after-era.ensures.changed c.after-era.ensures.other c.after-era.ensures.same;
        move = refl;
        does = IdleCores.era_does d c.since-since.result c.args.moment.0 is c.after-era.result c.after-era.ensures.changed c.after-era.ensures.other c.after-era.ensures.same;
      };
    }

-- the moment is earlier
pub returns-then-moment-self : goal.returns-then-moment-self
returns-then-moment-self c = record { move = None; event = record { cause = (refl, omega arith); none = refl; same = refl } }
