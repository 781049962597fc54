use Rattle.std.proofs.Common.{◌-◌, length}
use Rattle.mcv_draw.specs.Walk.{elements_of}
use Rattle.mcv_picture.specs.Found.{AreMarksOf}
use Rattle.mcv_picture.proofs.RoutesInTurn.{LeadTo}
use Rattle.mcv_picture.proofs.drawing.picture_of.Given as goal

-- the elements so far, and those of the routes from this number on, are the whole
abbrev pub invariant-loop-route : goal.invariant-loop-route
invariant-loop-route l = LeadTo (AreMarksOf l.found l.routes) l.routes l.number (elements_of l.picture)

abbrev pub decreases-loop-route : goal.decreases-loop-route
decreases-loop-route l = length l.routes.entries - l.number
