-- What an input asks: a request line, and behind it a configuration.
use Rattle.std.specs.Prelude.{◌≡◌, ◌≢◌, ℕ, true, List, [], ◌∷◌, ◌++◌}
use Rattle.mcv_base.specs.declared.operation.Op.{Op}
use Rattle.mcv_base.specs.Operation.{op_name}
use Rattle.mcv_base.specs.Key.{IsCut, is_key_word}

abbrev pub space : ℕ
space = 32

abbrev pub line_feed : ℕ
line_feed = 10

-- the first line is the operation's name, one space and a key word that has a rest; all behind the line is the configuration (own)
pub record Asks (input : List ℕ) (op : Op) (prefix rest configuration : List ℕ) : Type 0 where
  pub key : List ℕ
  pub line : input ≡ (op_name op ++ space ∷ key) ++ line_feed ∷ configuration
  pub is_key : is_key_word key ≡ true
  pub cut : IsCut key prefix rest
  pub some : rest ≢ []

abbrev pub IsNoRequest : List ℕ → Type 0
IsNoRequest input = (op : Op) (prefix rest configuration : List ℕ) → ¬ Asks input op prefix rest configuration

-- two readings of one input are the same
abbrev pub HaveOneReading : Type 0
HaveOneReading =
    (input : List ℕ) (op other : Op) (prefix rest configuration start end text : List ℕ) → Asks input op prefix rest configuration → Asks input other start end text
    → (op ≡ other) × (prefix ≡ start) × (rest ≡ end) × (configuration ≡ text)
