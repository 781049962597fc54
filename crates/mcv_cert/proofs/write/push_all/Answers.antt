use Rattle.std.proofs.Common.{◌∙◌, ◌++◌, ap}
use Rattle.std.specs.Prelude.{codes, decimal}
use Rattle.std.specs.List.{flat_map}
use Rattle.mcv_base.specs.Position.{position_text}
use Rattle.mcv_cert.proofs.Written.{all_written}
use Rattle.mcv_cert.proofs.write.push_all.Goals as goal

pub returns : goal.returns
returns c =
    c.in_ok-push_positions.ensures
    ∙ ap (λ t. t ++ flat_map (λ p. codes " " ++ position_text p) c.args.legs.now) (c.in_ok-push_number.ensures ∙ ap (λ t. t ++ decimal c.args.index) c.in_ok-extend_from_slice.ensures.items)
    ∙ all_written c.args.text.now.items (decimal c.args.index) c.args.legs.now
