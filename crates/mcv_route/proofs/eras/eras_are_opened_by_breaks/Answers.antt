use Rattle.mcv_route.proofs.MomentsHaveEras.{moments_have_eras}
use Rattle.mcv_route.proofs.OpeningBreak.{since_is_last, eras_are_opened, eras_say}
use Rattle.mcv_route.proofs.eras.eras_are_opened_by_breaks.Goals as goal

pub returns : goal.returns
returns c = record { last = since_is_last; one_era = eras_are_opened; passed = eras_say; moments = moments_have_eras }
