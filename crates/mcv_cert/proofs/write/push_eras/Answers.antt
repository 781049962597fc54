use Rattle.mcv_cert.specs.Place.{place_of}
use Rattle.mcv_cert.proofs.Written.{one_era_written, two_eras_written}
use Rattle.mcv_cert.proofs.write.push_eras.Goals as goal

pub returns-then-window-eq0 : goal.returns-then-window-eq0
returns-then-window-eq0 c = one_era_written c.args.window (place_of c.args.place.now).spot _ _ c.if-window-eq0.true c.in_ok-push_number.ensures

pub returns : goal.returns
returns c = two_eras_written c.args.window (place_of c.args.place.now).spot _ _ _ _ c.if-window-eq0.false c.in_ok-push_number.ensures c.in_ok-extend_from_slice.ensures.items c.in_ok-push_number-2.ensures
