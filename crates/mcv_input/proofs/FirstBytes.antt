-- What the first bytes of an input say of all of it.
use Rattle.std.proofs.Common.{◌≡◌, ◌∙◌, ℕ, zero, suc, ◌+◌, ◌<◌, ◌≤◌, ◌⊎◌, inl, inr, List, [], ◌∷◌, ◌++◌, length, take, Option, Some, None, IfSome, refl, sym, ap, subst, arith}
use Rattle.std.proofs.lemmas.Bool.{cases_lt}
use Rattle.std.specs.Option.{option_map}
use Rattle.std.specs.Io.Take.{take_limit, take_inner, take_remaining}
use Rattle.std.specs.declared.io.traits.Take.{Take}
use Rattle.mcv_names.specs.declared.fault.ConfigFault.{ConfigFault}
use Rattle.mcv_names.specs.declared.fault.ReadFault.{ReadFault}
use Rattle.mcv_names.specs.declared.fault.ReadFault.TheVariants as read_faults
use Rattle.mcv_names.specs.Fault.{Refuses}
use Rattle.mcv_config.specs.Config.{Faulty, size_limit}
use Rattle.mcv_route.specs.Routes.{RoutesValue}
use Rattle.mcv_input.specs.declared.fault.RunFault.{RunFault}
use Rattle.mcv_input.specs.declared.fault.RunFault.TheVariants.{Memory, Device}
use Rattle.mcv_input.specs.Fault.{AreNamedBy, IsConfigFault, IsInputFault, IsOutside, of_reading}

-- ---- reading through a limit

known_first : (n : ℕ) (start items : List ℕ) (known : Option (List ℕ)) → start ≡ [] → IfSome (option_map (take n) known) (λ xs. items ≡ start ++ xs)
    → IfSome known (λ bytes. items ≡ take n bytes)
known_first n start items None none h = h
known_first n start items (Some bytes) none h = h ∙ ap (λ (xs : List ℕ). xs ++ take n bytes) none

-- what is read through a limit into an empty list is the first bytes of what there is
pub limited_first : {T : Type 0} (remaining : T → Option (List ℕ)) (t : Take T) (known : Option (List ℕ)) (n : ℕ) (start items : List ℕ) → take_limit t ≡ n
    → remaining (take_inner t) ≡ known → start ≡ [] → IfSome (take_remaining remaining t) (λ xs. items ≡ start ++ xs) → IfSome known (λ bytes. items ≡ take n bytes)
limited_first remaining t known n start items limit_is known_is none h =
    subst (λ (k : Option (List ℕ)). IfSome k (λ bytes. items ≡ take n bytes)) known_is
    (subst (λ (m : ℕ). IfSome (remaining (take_inner t)) (λ bytes. items ≡ take m bytes)) limit_is
    (known_first (take_limit t) start items (remaining (take_inner t)) none h))

-- a list that a limit doesn't reach is whole
pub whole : (n : ℕ) (xs : List ℕ) → length (take n xs) < n → take n xs ≡ xs
whole zero xs lt = absurd (let h : ⊥ = omega arith in h)
whole (suc n) [] lt = refl
whole (suc n) (x ∷ xs) lt = ap (λ (ys : List ℕ). x ∷ ys) (whole n xs (omega arith))

-- a list is no shorter than its first elements
longer : (n : ℕ) (xs : List ℕ) → length (take n xs) ≤ length xs
longer zero xs = omega arith
longer (suc n) [] = omega arith
longer (suc n) (x ∷ xs) = let h = longer n xs in omega arith

-- ---- a configuration that is read up to one byte more than it may have

abbrev pub read_limit : ℕ
read_limit = size_limit + 1

read_whole : (bytes : List ℕ) → length (take read_limit bytes) ≤ size_limit → take read_limit bytes ≡ bytes
read_whole bytes short = whole read_limit bytes (omega arith)

pub named_by_all : (bytes : List ℕ) (routes : RoutesValue) → AreNamedBy (take read_limit bytes) routes → AreNamedBy bytes routes
named_by_all bytes routes named = subst (λ (text : List ℕ). AreNamedBy text routes) (read_whole bytes named.1.0) named

-- a text that is too long has one fault, which is that of any other that is
pub too_long_is_all : (bytes more : List ℕ) (fault : ConfigFault) → size_limit < length bytes → size_limit < length more → IsConfigFault bytes fault → IsConfigFault more fault
too_long_is_all bytes more fault long longer (inl too) = inl (longer, too.1)
too_long_is_all bytes more fault long longer (inr within) = let h : ⊥ = omega (arith, long, within.0) in absurd h

config_fault_of_all : (bytes : List ℕ) (fault : ConfigFault) → IsConfigFault (take read_limit bytes) fault
    → (size_limit < length (take read_limit bytes)) ⊎ (length (take read_limit bytes) ≤ size_limit) → IsConfigFault bytes fault
config_fault_of_all bytes fault is (inr short) = subst (λ (text : List ℕ). IsConfigFault text fault) (read_whole bytes short) is
config_fault_of_all bytes fault is (inl long) =
    let more = longer read_limit bytes in
    too_long_is_all (take read_limit bytes) bytes fault long (omega arith) is

fault_of_all : (bytes : List ℕ) (fault : ReadFault) → Refuses fault (Faulty (take read_limit bytes)) → IsInputFault bytes (of_reading fault)
fault_of_all bytes (read_faults.Config fault) is = config_fault_of_all bytes fault is (cases_lt size_limit (length (take read_limit bytes)))
fault_of_all bytes read_faults.Memory is = tt

-- what was read is the first bytes of what there is, where that is known; and a fault of what was read is one of it
pub fault_of_known : (known : Option (List ℕ)) (text : List ℕ) (fault : ReadFault) → IfSome known (λ bytes. text ≡ take read_limit bytes)
    → Refuses fault (Faulty text) → IfSome known (λ bytes. IsInputFault bytes (of_reading fault))
fault_of_known None text fault read is = tt
fault_of_known (Some bytes) text fault read is = fault_of_all bytes fault (subst (λ (xs : List ℕ). Refuses fault (Faulty xs)) read is)

-- ---- out of memory and the failure of a device, at any input

pub outside_of_any : (P : List ℕ → RunFault → Type 0) (known : Option (List ℕ)) (fault : RunFault) → ((bytes : List ℕ) → P bytes Memory) → ((bytes : List ℕ) → P bytes Device)
    → IsOutside fault → IfSome known (λ bytes. P bytes fault)
outside_of_any P None fault memory device out = tt
outside_of_any P (Some bytes) fault memory device (inl is) = subst (P bytes) (sym is) (memory bytes)
outside_of_any P (Some bytes) fault memory device (inr is) = subst (P bytes) (sym is) (device bytes)
