-- The definitions at small values.
use Rattle.std.proofs.Common.{◌≡◌, [], true, Some, None, refl, codes}
use Rattle.mcv_names.specs.declared.fault.FaultKind.TheVariants.{UnknownKey, LeftOut}
use Rattle.mcv_names.specs.declared.handle.Handle.TheVariants.{Null}
use Rattle.mcv_names.specs.declared.handle.Object.TheVariants.{Root, Handle}
use Rattle.mcv_names.specs.declared.handle.Selector.TheVariants.{Operation}
use Rattle.mcv_names.specs.Fault.{path_text}
use Rattle.mcv_names.specs.Handles.{is_elsewhere, key_fault, name_fault, op_named}
use Rattle.mcv_names.specs.Path.{key_step}

escaped : key_step [] (codes "a b/%") ≡ codes "/a%20b%2F%25"
escaped = refl

root_is_a_dot : path_text [] ≡ codes "."
root_is_a_dot = refl

key_of_the_root : key_fault Root (codes "routes") ≡ None
unfolding key_fault
key_of_the_root = refl

key_of_another : key_fault Root (codes "servers") ≡ Some UnknownKey
unfolding key_fault
key_of_another = refl

key_left_out : key_fault Root (codes "macros") ≡ Some LeftOut
unfolding key_fault
key_left_out = refl

handle_by_name : key_fault (Handle Null) (codes "name") ≡ Some LeftOut
unfolding key_fault
handle_by_name = refl

no_request_has_it : name_fault Operation (codes "lease-get") ≡ None
unfolding name_fault op_named
no_request_has_it = refl

no_operation : name_fault Operation (codes "gat") ≡ Some UnknownKey
unfolding name_fault op_named
no_operation = refl

macro : is_elsewhere (codes "%name%") ≡ true
unfolding is_elsewhere
macro = refl
