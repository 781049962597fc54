use Rattle.std.proofs.Common.{subst, sym}
use Rattle.std.specs.Prelude.{IfOk}
use Rattle.mcv_draw.specs.Marks.{marks_of}
use Rattle.mcv_picture.specs.Found.{AreMarksOf}
use Rattle.mcv_picture.specs.declared.marks.Found.{Found}
use Rattle.mcv_picture.proofs.marks.marks_of.Goals as goal

pub returns-in-Covered : goal.returns-in-Covered
returns-in-Covered c = subst (λ (found : Found). IfOk c.certified.result (λ marks. AreMarksOf found c.args.routes.now c.args.number (marks_of marks))) (sym c.in-Covered.is) c.certified.ensures

pub returns-in-Lost : goal.returns-in-Lost
returns-in-Lost c = subst (λ (found : Found). IfOk c.lost.result (λ marks. AreMarksOf found c.args.routes.now c.args.number (marks_of marks))) (sym c.in-Lost.is) c.lost.ensures
