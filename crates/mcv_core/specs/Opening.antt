-- A core is opened with the records that the spool held (own).
use Rattle.std.specs.Prelude.{◌≡◌, ℕ, List, [], ◌∷◌, Option, Some, None, length, option_map, slice_get}
use Rattle.std.specs.Arc.{arc_value}
use Rattle.std.specs.Str.{bytes_eq}
use Rattle.mcv_base.specs.declared.operation.Mark.TheVariants.{Plain}
use Rattle.mcv_base.specs.declared.operation.Op.TheVariants.{Delete}
use Rattle.mcv_base.specs.declared.request.ServerId.{ServerId}
use Rattle.mcv_pools.specs.Table.{number_in}
use Rattle.mcv_queues.specs.declared.leg.Leg.{Leg}
use Rattle.mcv_queues.specs.declared.leg.State.{State}
use Rattle.mcv_queues.specs.declared.leg.State.TheVariants.{InSpool}
use Rattle.mcv_queues.specs.Marks.{no_mark}
use Rattle.mcv_route.specs.Eras.{breaks_of, since_at}
use Rattle.mcv_route.specs.Routes.{RoutesValue}
use Rattle.mcv_spool.specs.declared.record.SpoolRecord.{SpoolRecord}
use Rattle.mcv_events.specs.Rows as rows
use Rattle.mcv_events.specs.Runs.{OpenedRecord, opened, spooled_row}
use Rattle.mcv_core.specs.CoreView.{CoreView}
use Rattle.mcv_core.specs.declared.errand.Errand.{Errand}
use Rattle.mcv_core.specs.Errands.{laid_request, launch_of, rest_of}
use Rattle.mcv_core.specs.Facts.{records_in}
use Rattle.mcv_core.specs.Recordings.{AreAddressed}
use Rattle.mcv_core.specs.Rows.{rows_by}

abbrev pub with_server : Option ℕ → List ℕ → List OpenedRecord → List OpenedRecord
with_server None rest all = all
with_server (Some server) rest all = (server, rest) ∷ all

-- the records whose servers are in the table
abbrev pub known_records : List (List ℕ) → List (ℕ × SpoolRecord) → List OpenedRecord
known_records servers [] = []
known_records servers (x ∷ records) = with_server (number_in bytes_eq servers x.1.server) x.1.rest (known_records servers records)

abbrev pub with_number : Option ℕ → ℕ → List ℕ → List ℕ
with_number None seq all = all
with_number (Some server) seq all = seq ∷ all

-- their numbers
abbrev pub known_numbers : List (List ℕ) → List (ℕ × SpoolRecord) → List ℕ
known_numbers servers [] = []
known_numbers servers (x ∷ records) = with_number (number_in bytes_eq servers x.1.server) x.0 (known_numbers servers records)

-- nothing in flight, of so many legs that may be, no mark, at moment 0 of chapter 0
abbrev pub opened_within : (limit : ℕ) → RoutesValue → List (ℕ × SpoolRecord) → CoreView
opened_within limit r records = record {
  routes = r;
  rows = opened (since_at (breaks_of r) 0) (known_records r.servers records);
  records = slice_get (known_numbers r.servers records);
  flights = λ s. 0;
  limit = limit;
  marks = λ s. no_mark;
  moment = 0;
  chapter = 0;
  entries = length (known_records r.servers records);
}

-- one leg of a server may be in flight at a time
abbrev pub opened_view : RoutesValue → List (ℕ × SpoolRecord) → CoreView
opened_view r records = opened_within 1 r records

-- a delete at the root, of no call
pub record IsOpenedErrand (server : ServerId) (rest : List ℕ) (e : Errand) : Type 0 where
  pub call : e.call ≡ None
  pub entry : e.entry ≡ 0
  pub launch : launch_of e ≡ record { position = []; server = server; op = Delete; mark = Plain }
  pub rest_is : rest_of e ≡ rest
  pub request : laid_request (arc_value e.laid) ≡ None

-- the legs are those of these records, numbered from 0 in their order, and have the numbers of these records
pub record AreOpened (records : List OpenedRecord) (numbers : List ℕ) (legs : ℕ → Option (Leg Errand)) (count : ℕ) : Type 0 where
  pub rows_are : (f : State → rows.State) → f InSpool ≡ rows.InSpool → (n : ℕ) → rows_by f legs n ≡ option_map spooled_row (slice_get records n)
  pub addressed : AreAddressed legs
  pub counted : count ≡ length records
  pub numbered : (n : ℕ) → records_in legs n ≡ slice_get numbers n
  pub all_numbered : length numbers ≡ count
