-- A finding: a key, a read and a delete of it, by which a server can keep what was deleted (own).
use Rattle.std.specs.Prelude.{ℕ, List, map}
use Rattle.mcv_base.specs.declared.operation.Op.{Op}
use Rattle.mcv_cert.specs.Pair.{PlaceValue, place_of}
use Rattle.mcv_route.specs.Outcomes.{History}
use Rattle.mcv_witness.specs.declared.finding.Finding.{Finding}
use Rattle.mcv_witness.specs.declared.finding.LegOutcome.{LegOutcome}

pub record FindingValue : Type 0 where
  -- the leaf that is read, its index, and the number of its server there
  pub place : PlaceValue
  pub at : ℕ
  pub server : ℕ
  -- the key word
  pub key : List ℕ
  -- the index of each symbol, by the symbol's number
  pub choice : List ℕ
  -- how the key is read: get, gets, incr or decr
  pub op : Op
  -- what the legs of the read have answered, and those of the delete, each with its position
  pub gets : History
  pub deletes : History
  -- the window at which the eras of both are near
  pub window : ℕ

-- outcomes as they are kept
abbrev pub outcomes_of : List LegOutcome → History
outcomes_of legs = map (λ l. (l.position, l.outcome)) legs

-- the finding that is kept so
abbrev pub finding_of : Finding → FindingValue
finding_of f = record {
  place = place_of f.place;
  at = f.at;
  server = f.server.0;
  key = f.key.items;
  choice = f.choice;
  op = f.op;
  gets = outcomes_of f.gets.items;
  deletes = outcomes_of f.deletes.items;
  window = f.window;
}
