use Rattle.std.proofs.Common.{◌≡◌, map, take}
use Rattle.serde_json.specs.View.{view}
use Rattle.mcv_base.specs.Position.{position_text}
use Rattle.mcv_report.specs.Json.{text_from}
use Rattle.mcv_report.proofs.certificate.leg_texts.Given as goal

abbrev pub invariant-loop-leg : goal.invariant-loop-leg
invariant-loop-leg l = map view l.texts.items ≡ map (λ leg. text_from (position_text leg)) (take l.leg-index l.legs)
