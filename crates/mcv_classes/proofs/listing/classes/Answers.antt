use Rattle.std.specs.Prelude.{slice_get}
use Rattle.std.proofs.lemmas.Option.{IfSome_then}
use Rattle.std.proofs.lemmas.Result.{IfOk-weaker}
use Rattle.mcv_classes.specs.Class.{IsClassList}
use Rattle.mcv_classes.specs.Words.{class_words}
use Rattle.mcv_classes.proofs.TableHasClasses.{table-classes}
use Rattle.mcv_classes.proofs.listing.classes.Goals as goal

pub returns : goal.returns
returns c =
    IfSome_then (slice_get c.args.routes.now.entries c.args.route) c.in_ok-table.ensures
    (λ e t. IfOk-weaker _ (λ cs. IsClassList c.in_ok-table.table cs.items) (λ cs. IsClassList (class_words e.tree) cs.items) (λ cs h. table-classes (class_words e.tree) c.in_ok-table.table cs.items t h) c.classes.ensures)
