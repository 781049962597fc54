use Rattle.std.proofs.Common.{◌∙◌, subst, sym}
use Rattle.mcv_core.specs.CoreView.{HasDone, landing_at}
use Rattle.mcv_core.specs.View.{core_view}
use Rattle.mcv_core.proofs.dispatcher.Dispatcher.lose.Goals as goal

pub land-requires : goal.land-requires
land-requires c = record { at = c.requires.at; flies = c.requires.flies; one = c.lost.ensures.taken ∙ sym c.lost.ensures.outcome }

pub returns : goal.returns
returns c = subst (λ y. HasDone (landing_at (core_view c.args.self.now) c.args.leg.0 y) (core_view c.land.new.self) c.land.result) c.lost.ensures.outcome c.land.ensures
