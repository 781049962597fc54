use Rattle.std.proofs.lemmas.Result.{IfOk-weaker}
use Rattle.serde_json.specs.View.{view}
use Rattle.mcv_mend_patch.proofs.run.patch_between.Goals as goal

pub returns : goal.returns
returns c =
    IfOk-weaker c.patch_to.result _ _
    (λ text patch. record {
      old = view c.in_ok-old.old;
      new = patch.0;
      reads = c.in_ok-old.ensures.document;
      mends = patch.1;
      patches = patch.2;
    })
    c.patch_to.ensures
