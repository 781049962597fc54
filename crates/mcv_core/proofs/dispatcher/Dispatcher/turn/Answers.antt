use Rattle.std.proofs.Common.{◌≡◌, ◌+◌, ◌<◌, ◌^◌, rules, true, false, refl, sym, ◌∙◌, None, arith, true≢false}
use Rattle.mcv_core.specs.View.{core_view}
use Rattle.mcv_core.proofs.IdleCores
use Rattle.mcv_core.proofs.dispatcher.Dispatcher.turn.Goals as goal

pub returns : goal.returns
returns c =
    let d = c.args.self.now in
    let rests : c.is_at_rest.result ≡ true = search rules in
    let rest = c.is_at_rest.ensures.0 rests in
    let next : c.in-Some.chapter ≡ d.chapter + 1 = search rules in
    let number : d.chapter + 1 < 2 ^ 64 = omega (arith, next) in
    record {
      move = None;
      event = record {
        can = record { rests = rest; number = number };
        view = λ j. record (core_view d) { chapter = next j; entries = d.sound.spooled_is j };
        quiet = IdleCores.rest_is_quiet d rest;
        none = refl;
        does = record { world = refl; core = d.sound.core; routes = refl };
      };
    }

-- something runs, or is queued or in flight
pub returns-then-not-is_at_rest : goal.returns-then-not-is_at_rest
returns-then-not-is_at_rest c =
    let busy : c.is_at_rest.result ≡ false = search rules in
    record { move = None; event = record { cause = (refl, λ can. true≢false (sym (c.is_at_rest.ensures.1 can.rests) ∙ busy)); none = refl; same = refl } }

-- no chapter has a greater number
pub returns-in_default : goal.returns-in_default
returns-in_default c =
    let last = c.in_default.ensures in
    record { move = None; event = record { cause = (refl, λ can. let number = can.number in omega (arith, last, number)); none = refl; same = refl } }
