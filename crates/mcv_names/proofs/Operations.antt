-- An operation is the only one with its name.
use Rattle.std.proofs.Common.{◌≡◌, ◌≢◌, List, [], ◌∷◌, ℕ, Bool, true, false, cond, Option, Some, None, MatchOption, refl, sym, ap, ◌∙◌, bytes_eq}
use Rattle.std.specs.Cmp.Lexicographic.{bytes_decides}
use Rattle.mcv_base.specs.declared.operation.Op.{Op}
use Rattle.mcv_base.specs.declared.operation.Op.TheVariants.{Get, Gets, Set, Add, Replace, Append, Prepend, Cas, Delete, Touch, Incr, Decr}
use Rattle.mcv_base.specs.Operation.{op_name}
use Rattle.mcv_names.specs.Handles.{op_among, op_named}

named_itself : (op : Op) → op_named (op_name op) ≡ Some op
unfolding op_named
named_itself Get = refl
named_itself Gets = refl
named_itself Set = refl
named_itself Add = refl
named_itself Replace = refl
named_itself Append = refl
named_itself Prepend = refl
named_itself Cas = refl
named_itself Delete = refl
named_itself Touch = refl
named_itself Incr = refl
named_itself Decr = refl

op_named-is : (name : List ℕ) (op : Op) → op_name op ≡ name → op_named name ≡ Some op
op_named-is name op e = ap op_named (sym e) ∙ named_itself op

among_none : (ops : List Op) (name : List ℕ) → ((op : Op) → op_name op ≢ name) → op_among ops name ≡ None
among_none [] name none = refl
among_none (op ∷ ops) name none = by (bytes_eq (op_name op) name) refl (among_none ops name none)
  where
    by : (b : Bool) → bytes_eq (op_name op) name ≡ b → op_among ops name ≡ None → cond b (Some op) (op_among ops name) ≡ None
    by true e rest = absurd (none op ((bytes_decides (op_name op) name).0 e))
    by false e rest = rest

op_named-none : (name : List ℕ) → ((op : Op) → op_name op ≢ name) → op_named name ≡ None
unfolding op_named
op_named-none name none = among_none (Get ∷ Gets ∷ Set ∷ Add ∷ Replace ∷ Append ∷ Prepend ∷ Cas ∷ Delete ∷ Touch ∷ Incr ∷ Decr ∷ []) name none

pub found-op_named : (name bytes : List ℕ) (found : Option Op) → bytes ≡ name → MatchOption found ((op : Op) → op_name op ≢ bytes) (λ op. op_name op ≡ bytes) → found ≡ op_named name
found-op_named name bytes (Some op) e h = sym (op_named-is name op (h ∙ e))
found-op_named name bytes None e h = sym (op_named-none name (λ op k. h op (k ∙ sym e)))
