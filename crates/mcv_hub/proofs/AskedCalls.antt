-- What the core's reader of a call says is what its row has.
use Rattle.std.proofs.Common.{◌≡◌, ◌∙◌, ℕ, List, Option, Some, None, option_map, refl, sym, ap}
use Rattle.mcv_world.proofs.Numbers.{no_some, same_some}
use Rattle.mcv_events.specs.Rows.{CallRow}
use Rattle.mcv_core.specs.Readers.{Asked, call_asked, row_asked}
use Rattle.mcv_core.specs.View.{core_view}
use Rattle.mcv_core.specs.declared.dispatcher.Dispatcher.{Dispatcher}
use Rattle.mcv_core.specs.declared.readers.CallView.{CallView}
use Rattle.mcv_hub.specs.State.{HubView, IsCallOf}

asked_row : (o : Option CallRow) (a : Asked) → Some a ≡ option_map row_asked o → (row : CallRow) × (o ≡ Some row) × (a ≡ row_asked row)
asked_row None a p = absurd (no_some (sym p))
asked_row (Some row) a p = (row, refl, same_some p)

pub is_call_of : (v : HubView) (k : ℕ) (d : Dispatcher) (o : Option CallView) (view : CallView) (rest : List ℕ) → d ≡ v.core
    → option_map call_asked o ≡ option_map row_asked ((core_view d).rows.calls k) → o ≡ Some view → rest ≡ view.rest.now
    → IsCallOf v k view.op view.route rest
is_call_of v k d o view rest same reads is copied =
    let found = asked_row ((core_view v.core).rows.calls k) (call_asked view) (sym (ap (option_map call_asked) is) ∙ reads ∙ ap (λ e. option_map row_asked ((core_view e).rows.calls k)) same) in
    record {
      row = found.0;
      there = found.1;
      op_is = ap (λ a. a.op) found.2;
      route_is = ap (λ a. a.route) found.2;
      rest_is = copied ∙ ap (λ a. a.rest) found.2;
    }
