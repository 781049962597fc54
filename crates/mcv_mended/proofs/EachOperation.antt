-- What holds of each operation in a list of all.
use Rattle.std.proofs.Common.{◌≡◌, ◌<◌, ◌+◌, ℕ, List, [], ◌∷◌, ◌++◌, get_or, length, refl, sym, subst, take, arith}
use Rattle.std.specs.List.{All}
use Rattle.std.proofs.lemmas.List.{take_more}
use Rattle.std.proofs.lemmas.List.Elements.{All-append, All-cons, All-contains, All-nil}
use Rattle.mcv_base.specs.declared.operation.Op.{Op}
use Rattle.mcv_base.specs.declared.operation.Op.TheVariants.{Get, Gets, Set, Add, Replace, Append, Prepend, Cas, Delete, Touch, Incr, Decr}

abbrev pub operations : List Op
operations = Get ∷ Gets ∷ Set ∷ Add ∷ Replace ∷ Append ∷ Prepend ∷ Cas ∷ Delete ∷ Touch ∷ Incr ∷ Decr ∷ []

pub each_operation : (P : Op → Type 0) → All P operations → (op : Op) → P op
each_operation P all Get = all 0 Get (omega arith)
each_operation P all Gets = all 1 Get (omega arith)
each_operation P all Set = all 2 Get (omega arith)
each_operation P all Add = all 3 Get (omega arith)
each_operation P all Replace = all 4 Get (omega arith)
each_operation P all Append = all 5 Get (omega arith)
each_operation P all Prepend = all 6 Get (omega arith)
each_operation P all Cas = all 7 Get (omega arith)
each_operation P all Delete = all 8 Get (omega arith)
each_operation P all Touch = all 9 Get (omega arith)
each_operation P all Incr = all 10 Get (omega arith)
each_operation P all Decr = all 11 Get (omega arith)

-- what holds of those so far, and of the next one
pub all_more : {A : Type 0} (P : A → Type 0) (xs : List A) (i : ℕ) (d : A) → i < length xs → All P (take i xs) → P (get_or xs i d) → All P (take (i + 1) xs)
all_more {A} P xs i d lt all own = subst (λ (ys : List A). All P ys) (sym (take_more xs i d lt)) (All-append P (take i xs) (get_or xs i d ∷ []) all (All-cons P (get_or xs i d) [] own (All-nil P)))
