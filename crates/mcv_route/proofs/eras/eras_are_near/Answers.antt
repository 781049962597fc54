use Rattle.mcv_route.proofs.NearBreaks.{moments_are_near, near_by_breaks, near_is_symmetric, near_grows}
use Rattle.mcv_route.proofs.eras.eras_are_near.Goals as goal

pub returns : goal.returns
returns c = record { moments = moments_are_near; breaks = near_by_breaks; symmetric = near_is_symmetric; grows = near_grows }
