-- What a fault says, by what was reported on the way.
use Rattle.std.proofs.Common.{◌≡◌, ◌<◌, ℕ, List, length, refl}
use Rattle.std.specs.List.{All}
use Rattle.mcv_cert.specs.Pair.{place_of}
use Rattle.mcv_route.specs.Routes.{IsSoundRoutes, RoutesValue}
use Rattle.mcv_route.specs.declared.eras.NearEras.{NearEras}
use Rattle.mcv_symbolic.specs.CoveredRoutes.{AreCovered, sizes_of}
use Rattle.mcv_blocks.specs.Places.{AreRouteClasses}
use Rattle.mcv_blocks.specs.Spots.{AreNears, classes_in_eras}
use Rattle.mcv_blocks.specs.declared.classes.RouteClass.{RouteClass}
use Rattle.mcv_certify.specs.Gap.{IfLost, IsRightFault}
use Rattle.mcv_certify.specs.BlockSteps.{ReportsGapIn}
use Rattle.mcv_certify.specs.declared.gap.CertifyFault.{CertifyFault}
use Rattle.mcv_certify.specs.declared.gap.CertifyFault.TheVariants.{Lost, Memory}
use Rattle.mcv_certify.proofs.FirstGap.{first_gap, own}
use Rattle.mcv_certify.proofs.GapIsLoss.{gap_lost}
use Rattle.mcv_certify.proofs.ReportedServerIsKnown.{server_known}

module _ (r : RoutesValue) (cs : List RouteClass) (xs : List NearEras) (sound : IsSoundRoutes r) (classes : AreRouteClasses r cs) (near : AreNears r xs) where
  pub right : (e : CertifyFault) → IfLost e (ReportsGapIn r (classes_in_eras cs xs)) → IsRightFault r e
  right (Lost f) t = first_gap r cs xs classes near f t
  right Memory t = tt

  pub known : (e : CertifyFault) → IfLost e (ReportsGapIn r (classes_in_eras cs xs)) → IfLost e (λ f. f.server.0 < length r.servers)
  known (Lost f) t = let g = own r cs xs classes near f t in server_known r sound g.block g.block_is g.leaf f.at f.server.0 g.readable g.has
  known Memory t = tt

  pub only_memory : All (λ n. 0 < n) (sizes_of r) → AreCovered r → (e : CertifyFault) → IfLost e (ReportsGapIn r (classes_in_eras cs xs)) → e ≡ Memory
  only_memory positive covered (Lost f) t = absurd (gap_lost r (place_of f.place) f.at f.server.0 sound positive t.reports.reports.bytes (own r cs xs classes near f t) covered)
  only_memory positive covered Memory t = refl
