use Rattle.std.proofs.Common.{ℕ, List, map, subst, sym}
use Rattle.mcv_base.specs.declared.request.Moment.{Moment}
use Rattle.mcv_route.specs.Eras.{IsBreakTable, breaks_of}
use Rattle.mcv_mended.proofs.SameClasses.{same_eras}
use Rattle.mcv_mended.proofs.mended.have_same_eras.Goals as goal

pub returns : goal.returns
returns c = λ is.
    let table = map (λ (m : Moment). m.0) c.breaks.result.now in
    same_eras c.args.old.now c.args.new.now table c.breaks.ensures (subst (λ (bs : List ℕ). IsBreakTable (breaks_of c.args.new.now) bs) (sym (c.are_same_moments.ensures is)) c.breaks-2.ensures)
