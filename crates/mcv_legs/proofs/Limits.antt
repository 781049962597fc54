-- What the first bytes of an input say of all of it.
use Rattle.std.proofs.Common.{◌≡◌, ◌∙◌, ℕ, zero, suc, ◌+◌, ◌-◌, ◌<◌, ◌≤◌, ◌⊎◌, inl, inr, true, List, [], ◌∷◌, ◌++◌, length, take, drop, sym, ap, subst, arith, length-append, append_assoc}
use native.Mathlib.Numerals.{unary_clauses}
use Rattle.std.proofs.lemmas.Bool.{cases_lt}
use Rattle.std.proofs.lemmas.Bool.Decides.{nat_tests}
use Rattle.std.proofs.lemmas.List.{take-append-drop}
use Rattle.mcv_base.specs.declared.operation.Op.{Op}
use Rattle.mcv_base.specs.declared.operation.Op.TheVariants.{Get, Gets, Set, Add, Replace, Append, Prepend, Cas, Delete, Touch, Incr, Decr}
use Rattle.mcv_base.specs.Operation.{op_name}
use Rattle.mcv_base.specs.Key.{is_key_word}
use Rattle.mcv_names.specs.declared.fault.ConfigFault.{ConfigFault}
use Rattle.mcv_config.specs.Config.{size_limit}
use Rattle.mcv_input.proofs.FirstBytes.{too_long_is_all, whole}
use Rattle.mcv_input.specs.declared.fault.RunFault.{RunFault}
use Rattle.mcv_input.specs.declared.fault.RunFault.TheVariants.{Line, NoRoute, Config, CertificateText, Certificate, Window, Memory, Device}
use Rattle.mcv_legs.specs.Answer.{IsAnswer, IsWithoutRoute}
use Rattle.mcv_legs.specs.Fault.{IsMisconfigured, IsRunFault}
use Rattle.mcv_legs.specs.Limits.{input_limit, line_limit}
use Rattle.mcv_legs.specs.Request.{Asks, IsNoRequest, space, line_feed}
use Rattle.mcv_legs.proofs.Lines.{key_bytes}

-- ---- what the first bytes ask

name_len : (op : Op) → length (op_name op) ≤ 7
name_len Get = omega arith
name_len Gets = omega arith
name_len Set = omega arith
name_len Add = omega arith
name_len Replace = omega arith
name_len Append = omega arith
name_len Prepend = omega arith
name_len Cas = omega arith
name_len Delete = omega arith
name_len Touch = omega arith
name_len Incr = omega arith
name_len Decr = omega arith

key_len : (key : List ℕ) → is_key_word key ≡ true → length key ≤ 250
key_len key is =
    let short = (key_bytes key is).1 in
    grind (arith, nat_tests)

-- what comes before the configuration
abbrev line_of : Op → List ℕ → List ℕ
line_of op key = (op_name op ++ space ∷ key) ++ line_feed ∷ []

line_len : (op : Op) (key : List ℕ) → is_key_word key ≡ true → length (line_of op key) ≤ line_limit
line_len op key is =
    omega (arith, length-append (op_name op ++ space ∷ key) (line_feed ∷ []), length-append (op_name op) (space ∷ key), name_len op, key_len key is)

line_then : (op : Op) (key configuration : List ℕ) → (op_name op ++ space ∷ key) ++ line_feed ∷ configuration ≡ line_of op key ++ configuration
line_then op key configuration = sym (append_assoc (op_name op ++ space ∷ key) (line_feed ∷ []) configuration)

take_behind : (n : ℕ) (xs ys : List ℕ) → length xs ≤ n → take n (xs ++ ys) ≡ xs ++ take (n - length xs) ys
take_behind n [] ys le = simp unary_clauses
take_behind zero (x ∷ xs) ys le = absurd (let h : ⊥ = omega arith in h)
take_behind (suc n) (x ∷ xs) ys le =
    let same : suc n - suc (length xs) ≡ n - length xs = omega arith in
    ap (λ (zs : List ℕ). x ∷ zs) (take_behind n xs ys (omega arith)) ∙ ap (λ (m : ℕ). x ∷ xs ++ take m ys) (sym same)

-- an input's first bytes ask the same, with the first bytes of its configuration
pub asks_first : (n : ℕ) (input : List ℕ) (op : Op) (prefix rest configuration : List ℕ) → line_limit ≤ n → (asks : Asks input op prefix rest configuration)
    → Asks (take n input) op prefix rest (take (n - length (line_of op asks.key)) configuration)
asks_first n input op prefix rest configuration le asks =
    let short : length (line_of op asks.key) ≤ n = omega (arith, line_len op asks.key asks.is_key) in
    record {
      key = asks.key;
      line = ap (take n) (asks.line ∙ line_then op asks.key configuration) ∙ take_behind n (line_of op asks.key) configuration short
          ∙ sym (line_then op asks.key (take (n - length (line_of op asks.key)) configuration));
      is_key = asks.is_key;
      cut = asks.cut;
      some = asks.some;
    }

-- an input with more behind it asks the same, with that behind its configuration
pub asks_more : (input more : List ℕ) (op : Op) (prefix rest configuration : List ℕ) → Asks input op prefix rest configuration
    → Asks (input ++ more) op prefix rest (configuration ++ more)
asks_more input more op prefix rest configuration asks =
    record {
      key = asks.key;
      line = ap (λ (xs : List ℕ). xs ++ more) asks.line ∙ append_assoc (op_name op ++ space ∷ asks.key) (line_feed ∷ configuration) more;
      is_key = asks.is_key;
      cut = asks.cut;
      some = asks.some;
    }

asks_len : (input : List ℕ) (op : Op) (prefix rest configuration : List ℕ) → Asks input op prefix rest configuration → length input ≤ line_limit + length configuration
asks_len input op prefix rest configuration asks =
    omega (arith, ap length (asks.line ∙ line_then op asks.key configuration), length-append (line_of op asks.key) configuration, line_len op asks.key asks.is_key)

-- a configuration that is not too long is read whole
pub read_whole : (bytes : List ℕ) (op : Op) (prefix rest configuration : List ℕ) → Asks (take input_limit bytes) op prefix rest configuration → length configuration ≤ size_limit
    → take input_limit bytes ≡ bytes
read_whole bytes op prefix rest configuration asks short =
    whole input_limit bytes (omega (arith, asks_len (take input_limit bytes) op prefix rest configuration asks))

-- ---- what is in an input, by its first bytes

pub answer_of_all : (moment : ℕ) (bytes text : List ℕ) → IsAnswer moment (take input_limit bytes) text → IsAnswer moment bytes text
answer_of_all moment bytes text answer =
    subst (λ (input : List ℕ). IsAnswer moment input text) (read_whole bytes answer.op answer.prefix answer.rest answer.configuration answer.asks answer.names.0) answer

no_request_of_all : (bytes : List ℕ) → IsNoRequest (take input_limit bytes) → IsNoRequest bytes
no_request_of_all bytes none op prefix rest configuration asks =
    none op prefix rest _ (asks_first input_limit bytes op prefix rest configuration (omega arith) asks)

without_route_of_all : (bytes : List ℕ) → IsWithoutRoute (take input_limit bytes) → IsWithoutRoute bytes
without_route_of_all bytes w = subst IsWithoutRoute (read_whole bytes w.op w.prefix w.rest w.configuration w.asks w.names.0) w

too_long_of_all : (bytes : List ℕ) (fault : ConfigFault) (m : IsMisconfigured (take input_limit bytes) fault) → size_limit < length m.configuration → IsMisconfigured bytes fault
too_long_of_all bytes fault m long =
    let more = drop input_limit bytes in
    let longer : size_limit < length (m.configuration ++ more) = omega (arith, length-append m.configuration more) in
    record {
      op = m.op;
      prefix = m.prefix;
      rest = m.rest;
      configuration = m.configuration ++ more;
      asks = subst (λ (input : List ℕ). Asks input m.op m.prefix m.rest (m.configuration ++ more)) (take-append-drop input_limit bytes)
          (asks_more (take input_limit bytes) more m.op m.prefix m.rest m.configuration m.asks);
      faulty = too_long_is_all m.configuration (m.configuration ++ more) fault long longer m.faulty;
    }

misconfigured_of_all : (bytes : List ℕ) (fault : ConfigFault) (m : IsMisconfigured (take input_limit bytes) fault)
    → (size_limit < length m.configuration) ⊎ (length m.configuration ≤ size_limit) → IsMisconfigured bytes fault
misconfigured_of_all bytes fault m (inr short) =
    subst (λ (input : List ℕ). IsMisconfigured input fault) (read_whole bytes m.op m.prefix m.rest m.configuration m.asks short) m
misconfigured_of_all bytes fault m (inl long) = too_long_of_all bytes fault m long

pub fault_of_all : (bytes : List ℕ) (fault : RunFault) → IsRunFault (take input_limit bytes) fault → IsRunFault bytes fault
fault_of_all bytes Line is = no_request_of_all bytes is
fault_of_all bytes NoRoute is = without_route_of_all bytes is
fault_of_all bytes (Config fault) m = misconfigured_of_all bytes fault m (cases_lt size_limit (length m.configuration))
fault_of_all bytes (CertificateText fault) is = is
fault_of_all bytes (Certificate fault) is = is
fault_of_all bytes Window is = is
fault_of_all bytes Memory is = tt
fault_of_all bytes Device is = tt
