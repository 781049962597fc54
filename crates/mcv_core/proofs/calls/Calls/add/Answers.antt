use Rattle.std.proofs.Common.{Result, Ok, Err, sym, true≢false}
use Rattle.std.specs.Prelude.{IsOk, OnOk}
use Rattle.std.proofs.Math.Path.{fun_ext}
use Rattle.mcv_core.proofs.calls.Calls.add.Goals as goal

on_ok : {A E : Type 0} {P : Type 0} (r : Result A E) → IsOk r → OnOk r P → P
on_ok (Ok x) is h = h
on_ok (Err e) is h = absurd (true≢false (sym is))

pub returns : goal.returns
returns c = fun_ext (λ q. (on_ok c.insert.result (c.insert.ensures.succeeds c.requires) c.insert.ensures.updates).0 q)
