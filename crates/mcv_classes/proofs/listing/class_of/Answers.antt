use Rattle.std.specs.Prelude.{slice_get}
use Rattle.std.proofs.lemmas.Option.{IfSome_then}
use Rattle.std.proofs.lemmas.Result.{IfOk-weaker}
use Rattle.mcv_classes.specs.Class.{IsClassOf}
use Rattle.mcv_classes.specs.Words.{class_words}
use Rattle.mcv_classes.proofs.TableHasClasses.{table-class}
use Rattle.mcv_classes.proofs.listing.class_of.Goals as goal

pub returns : goal.returns
returns c =
    IfSome_then (slice_get c.args.routes.now.entries c.args.route) c.in_ok-words.ensures
    (λ e t. IfOk-weaker _ (IsClassOf c.in_ok-words.words c.args.rest.now) (IsClassOf (class_words e.tree) c.args.rest.now) (λ class h. table-class (class_words e.tree) c.in_ok-words.words c.args.rest.now class t h) c.class_of.ensures)
