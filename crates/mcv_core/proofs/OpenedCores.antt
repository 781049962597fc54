-- A core is opened.
use Rattle.std.proofs.Common.{◌≡◌, ◌&&◌, cond, inl, inr, ℕ, zero, suc, ◌+◌, ◌<◌, ◌^◌, Bool, true, false, nat_eq, List, [], ◌∷◌, ◌++◌, length, get_or, take, nat_le, Option, Some, None, option_map, refl, sym, ap, ◌∙◌, subst, arith, length-append}
use Rattle.std.specs.Char.{is_ascii_digit, is_ascii_graphic}
use Rattle.std.specs.List.{list_all}
use Rattle.std.specs.Prelude.{slice_get, slice_index}
use Rattle.std.specs.Str.{bytes_eq, IsAscii, IsUtf8}
use Rattle.std.proofs.lemmas.Bool.{cases_eq}
use Rattle.std.proofs.lemmas.Bool.Decides.{nat_tests}
use Rattle.std.proofs.lemmas.List.{take_more}
use Rattle.std.proofs.lemmas.Option.{slice_get-get_or, slice_get_past}
use Rattle.std.proofs.lemmas.Str.{IsAscii-append, IsUtf8-from_ascii}
use Rattle.std.proofs.Math.Path.{fun_ext}
use Rattle.mcv_base.specs.declared.request.ServerId.{ServerId}
use Rattle.mcv_base.specs.Server.{colon, is_host, is_port, is_server}
use Rattle.mcv_base.proofs.Colon.{server_has_parts}
use Rattle.mcv_base.proofs.Cuts.{both}
use Rattle.mcv_pools.specs.Table.{number_in}
use Rattle.mcv_queues.specs.declared.leg.Leg.{Leg}
use Rattle.mcv_queues.specs.declared.leg.State.{State}
use Rattle.mcv_queues.specs.declared.leg.State.TheVariants.{InSpool}
use Rattle.mcv_queues.specs.declared.marks.ServerFailures.{ServerFailures}
use Rattle.mcv_queues.specs.Legs.{stored_as, with_stored}
use Rattle.mcv_queues.specs.Marks.{no_mark}
use Rattle.mcv_route.specs.Eras.{breaks_of, since_at}
use Rattle.mcv_route.specs.Routes.{RoutesValue}
use Rattle.mcv_spool.specs.declared.record.SpoolRecord.{SpoolRecord}
use Rattle.mcv_world.specs.World.{put}
use Rattle.mcv_world.proofs.Numbers.{no_some, put_cases, put_other, put_same, same_some}
use Rattle.mcv_events.specs.Rows as rows
use Rattle.mcv_events.specs.Rows.{IsCore, LegRow}
use Rattle.mcv_events.specs.QueuedLegs.{count_in, count_of}
use Rattle.mcv_events.specs.Runs.{OpenedRecord, opened, spooled_row}
use Rattle.mcv_events.specs.Sums.{sum_below}
use Rattle.mcv_events.proofs.CoresKeepDeletes.{opened_is_core}
use Rattle.mcv_core.specs.declared.call.Call.{Call}
use Rattle.mcv_core.specs.declared.errand.Errand.{Errand}
use Rattle.mcv_core.specs.CoreView.{CoreView}
use Rattle.mcv_core.specs.Errands.{launch_of}
use Rattle.mcv_core.specs.Facts.{record_in, records_in}
use Rattle.mcv_core.specs.Opening.{AreOpened, IsOpenedErrand, known_numbers, known_records, opened_within, with_number, with_server}
use Rattle.mcv_core.specs.Rows.{all_rows, awaiting_state, call_rows, row_by, rows_by, rows_of, state_of}
use Rattle.mcv_core.specs.Soundness.{spooled_one, IsSound}

-- ---- a server's text is UTF-8

small : (lo hi c : ℕ) → hi < 128 → (nat_le lo c && nat_le c hi) ≡ true → c < 128
small lo hi c least h = let most : nat_le c hi ≡ true = (both (nat_le lo c) (nat_le c hi) h).1 in grind (arith, nat_tests)

all_small : (p : ℕ → Bool) → ((c : ℕ) → p c ≡ true → c < 128) → (bs : List ℕ) → list_all p bs ≡ true → (i : ℕ) → slice_index bs i < 128
all_small p each [] all i = omega arith
all_small p each (b ∷ bs) all zero = each b (both _ _ all).0
all_small p each (b ∷ bs) all (suc i) = all_small p each bs (both _ _ all).1 i

host_ascii : (host : List ℕ) → is_host host ≡ true → IsAscii host
unfolding is_host
host_ascii host h = all_small is_ascii_graphic (λ c. small 33 126 c (omega arith)) host (both _ _ (both _ _ (both _ _ h).1).1).0

port_ascii : (port : List ℕ) → is_port port ≡ true → IsAscii port
unfolding is_port
port_ascii port h = all_small is_ascii_digit (λ c. small 48 57 c (omega arith)) port (both _ _ (both _ _ (both _ _ h).1).1).0

colon_ascii : IsAscii (colon ∷ [])
colon_ascii = all_small (λ c. nat_eq c 58) (λ c e. grind (arith, nat_tests)) (colon ∷ []) refl

pub server_utf8 : (text : List ℕ) → is_server text ≡ true → IsUtf8 text
server_utf8 text h =
    let parts = server_has_parts text h in
    let tail : IsAscii ((colon ∷ []) ++ parts.1) = IsAscii-append (colon ∷ []) parts.1 colon_ascii (port_ascii parts.1 parts.4) in
    IsUtf8-from_ascii text (subst IsAscii (sym parts.2) (IsAscii-append parts.0 (colon ∷ parts.1) (host_ascii parts.0 parts.3) tail))

-- ---- the records whose servers are in the table

take_past : {A : Type 0} (xs : List A) (i : ℕ) → (i < length xs → ⊥) → take i xs ≡ xs
take_past [] zero past = refl
take_past [] (suc i) past = refl
take_past (x ∷ xs) zero past = absurd (past (omega arith))
take_past (x ∷ xs) (suc i) past = ap (λ l. x ∷ l) (take_past xs i (λ low. past (omega (arith, low))))

module _ (servers : List (List ℕ)) where
  known_append : (xs ys : List (ℕ × SpoolRecord)) → known_records servers (xs ++ ys) ≡ known_records servers xs ++ known_records servers ys
  known_append [] ys = refl
  known_append (x ∷ xs) ys = by_number (number_in bytes_eq servers x.1.server) (known_append xs ys)
    where
      by_number : (o : Option ℕ) → known_records servers (xs ++ ys) ≡ known_records servers xs ++ known_records servers ys
          → with_server o x.1.rest (known_records servers (xs ++ ys)) ≡ with_server o x.1.rest (known_records servers xs) ++ known_records servers ys
      by_number None e = e
      by_number (Some s) e = ap (λ l. (s, x.1.rest) ∷ l) e

  numbers_append : (xs ys : List (ℕ × SpoolRecord)) → known_numbers servers (xs ++ ys) ≡ known_numbers servers xs ++ known_numbers servers ys
  numbers_append [] ys = refl
  numbers_append (x ∷ xs) ys = by_number (number_in bytes_eq servers x.1.server) (numbers_append xs ys)
    where
      by_number : (o : Option ℕ) → known_numbers servers (xs ++ ys) ≡ known_numbers servers xs ++ known_numbers servers ys
          → with_number o x.0 (known_numbers servers (xs ++ ys)) ≡ with_number o x.0 (known_numbers servers xs) ++ known_numbers servers ys
      by_number None e = e
      by_number (Some s) e = ap (λ l. x.0 ∷ l) e

  pub numbers_more : (records : List (ℕ × SpoolRecord)) (i : ℕ) (x : ℕ × SpoolRecord) → i < length records → x ≡ get_or records i x
      → known_numbers servers (take (i + 1) records) ≡ known_numbers servers (take i records) ++ with_number (number_in bytes_eq servers x.1.server) x.0 []
  numbers_more records i x below is =
      ap (known_numbers servers) (take_more records i x below ∙ ap (λ y. take i records ++ y ∷ []) (sym is)) ∙ numbers_append (take i records) (x ∷ [])

  pub numbers_all : (records : List (ℕ × SpoolRecord)) (i : ℕ) → (i < length records → ⊥) → known_numbers servers (take i records) ≡ known_numbers servers records
  numbers_all records i past = ap (known_numbers servers) (take_past records i past)

  pub known_more : (records : List (ℕ × SpoolRecord)) (i : ℕ) (x : ℕ × SpoolRecord) → i < length records → x ≡ get_or records i x
      → known_records servers (take (i + 1) records) ≡ known_records servers (take i records) ++ with_server (number_in bytes_eq servers x.1.server) x.1.rest []
  known_more records i x below is =
      ap (known_records servers) (take_more records i x below ∙ ap (λ y. take i records ++ y ∷ []) (sym is)) ∙ known_append (take i records) (x ∷ [])

  pub known_all : (records : List (ℕ × SpoolRecord)) (i : ℕ) → (i < length records → ⊥) → known_records servers (take i records) ≡ known_records servers records
  known_all records i past = ap (known_records servers) (take_past records i past)

-- ---- a leg is added

pub put_spooled : (old : ℕ → Option (Leg Errand)) (n seq : ℕ) (l : Leg Errand) → with_stored (put old n (Some l)) n seq ≡ put old n (Some (stored_as seq l))
put_spooled old n seq l =
    ap (λ o. put (put old n (Some l)) n (option_map (stored_as seq) o)) (put_same old n (Some l)) ∙ fun_ext (λ m. by_number (nat_eq n m) m)
  where
    by_number : (b : Bool) (m : ℕ) → cond b (Some (stored_as seq l)) (cond b (Some l) (old m)) ≡ cond b (Some (stored_as seq l)) (old m)
    by_number true m = refl
    by_number false m = refl

last_at : {A : Type 0} (xs : List A) (x : A) → slice_get (xs ++ x ∷ []) (length xs) ≡ Some x
last_at [] x = refl
last_at (y ∷ xs) x = last_at xs x

others_at : {A : Type 0} (xs : List A) (x : A) (n : ℕ) → (length xs ≡ n → ⊥) → slice_get (xs ++ x ∷ []) n ≡ slice_get xs n
others_at [] x zero ne = absurd (ne refl)
others_at [] x (suc n) ne = refl
others_at (y ∷ xs) x zero ne = refl
others_at (y ∷ xs) x (suc n) ne = others_at xs x n (λ e. ne (omega (arith, e)))

none_row : (o : Option (Leg Errand)) → option_map (row_by state_of) o ≡ None → o ≡ None
none_row None e = refl
none_row (Some l) e = no_some (sym e)

pub none_opened : (legs : ℕ → Option (Leg Errand)) → ((n : ℕ) → legs n ≡ None) → AreOpened [] [] legs 0
none_opened legs none = record {
  rows_are = λ f spools n. ap (option_map (row_by f)) (none n);
  addressed = λ n l at. no_some (sym (none n) ∙ at);
  counted = refl;
  numbered = λ n. ap record_in (none n);
  all_numbered = refl;
}

module _ (before : List OpenedRecord) (numbers : List ℕ) (old : ℕ → Option (Leg Errand)) (count : ℕ) (are : AreOpened before numbers old count) where
  pub free : old count ≡ None
  free = none_row (old count) (are.rows_are state_of refl count ∙ ap (option_map spooled_row) (slice_get_past before count (let a = are.counted in omega (arith, a))))

  module _ (seq : ℕ) (server : ServerId) (rest : List ℕ) (e : Errand) (is : IsOpenedErrand server rest e) where
    abbrev added : Leg Errand
    added = record { server = server; state = InSpool; «record» = Some seq; content = e }

    row_is : (f : State → rows.State) → f InSpool ≡ rows.InSpool → row_by f added ≡ spooled_row (server.0, rest)
    row_is f spools = λ j. record { call = is.call j; entry = is.entry j; launch = is.launch j; rest = is.rest_is j; request = is.request j; state = spools j }

    at_each : (f : State → rows.State) → f InSpool ≡ rows.InSpool → (n : ℕ) → rows_by f (put old count (Some added)) n ≡ option_map spooled_row (slice_get (before ++ (server.0, rest) ∷ []) n)
    at_each f spools n = elim (cases_eq count n) [
      | inl q ↦
          let here : rows_by f (put old count (Some added)) count ≡ Some (spooled_row (server.0, rest)) = ap (option_map (row_by f)) (put_same old count (Some added)) ∙ ap Some (row_is f spools) in
          let last : option_map spooled_row (slice_get (before ++ (server.0, rest) ∷ []) count) ≡ Some (spooled_row (server.0, rest)) =
          ap (λ m. option_map spooled_row (slice_get (before ++ (server.0, rest) ∷ []) m)) are.counted ∙ ap (option_map spooled_row) (last_at before (server.0, rest)) in
          subst (λ m. rows_by f (put old count (Some added)) m ≡ option_map spooled_row (slice_get (before ++ (server.0, rest) ∷ []) m)) q (here ∙ sym last)
      | inr ne ↦
          ap (option_map (row_by f)) (put_other old count n (Some added) ne) ∙ are.rows_are f spools n
          ∙ ap (option_map spooled_row) (sym (others_at before (server.0, rest) n (λ q. ne (are.counted ∙ q))))
    ]

    number_at : (n : ℕ) → records_in (put old count (Some added)) n ≡ slice_get (numbers ++ seq ∷ []) n
    number_at n = elim (cases_eq count n) [
      | inl q ↦
          let last : slice_get (numbers ++ seq ∷ []) count ≡ Some seq = ap (slice_get (numbers ++ seq ∷ [])) (sym are.all_numbered) ∙ last_at numbers seq in
          subst (λ m. records_in (put old count (Some added)) m ≡ slice_get (numbers ++ seq ∷ []) m) q (ap record_in (put_same old count (Some added)) ∙ sym last)
      | inr ne ↦ ap record_in (put_other old count n (Some added) ne) ∙ are.numbered n ∙ sym (others_at numbers seq n (λ q. ne (sym are.all_numbered ∙ q)))
    ]

    pub one_more : (new : ℕ → Option (Leg Errand)) → new ≡ put old count (Some added) → (next : ℕ) → next ≡ count + 1 → AreOpened (before ++ (server.0, rest) ∷ []) (numbers ++ seq ∷ []) new next
    one_more new new_is next next_is = record {
      rows_are = λ f spools n. ap (λ g. rows_by f g n) new_is ∙ at_each f spools n;
      addressed = λ n l at. elim (put_cases old count n (Some added) l (sym (ap (λ g. g n) new_is) ∙ at)) [
        | inl q ↦ subst (λ (v : Leg Errand). v.server ≡ (launch_of v.content).server) (same_some q.1) (sym (ap (λ v. v.server) is.launch))
        | inr q ↦ are.addressed n l q.1
      ];
      counted = let a = are.counted in let b = length-append before ((server.0, rest) ∷ []) in omega (arith, a, b, next_is);
      numbered = λ n. ap (λ g. records_in g n) new_is ∙ number_at n;
      all_numbered = let a = are.all_numbered in let b = length-append numbers (seq ∷ []) in omega (arith, a, b, next_is);
    }

-- where the record's server has this number
pub stored : (before : List OpenedRecord) (numbers : List ℕ) (old : ℕ → Option (Leg Errand)) (count : ℕ) → AreOpened before numbers old count → (seq : ℕ) (server : ServerId) (rest : List ℕ) (e : Errand) → IsOpenedErrand server rest e
    → (o : Option ℕ) → Some server.0 ≡ o → (new : ℕ → Option (Leg Errand)) → new ≡ put old count (Some (record { server = server; state = InSpool; «record» = Some seq; content = e })) → (next : ℕ) → next ≡ count + 1
    → AreOpened (before ++ with_server o rest []) (numbers ++ with_number o seq []) new next
stored before numbers old count are seq server rest e is o o_is new new_is next next_is =
    subst (λ v. AreOpened (before ++ with_server v rest []) (numbers ++ with_number v seq []) new next) o_is (one_more before numbers old count are seq server rest e is new new_is next next_is)

-- ---- sums

sum_zero : {X : Type 0} (weigh : Option X → ℕ) (f : ℕ → Option X) → ((n : ℕ) → weigh (f n) ≡ 0) → (m : ℕ) → sum_below weigh f m ≡ 0
sum_zero weigh f none zero = refl
sum_zero weigh f none (suc m) = let here = none m in let others = sum_zero weigh f none m in omega (arith, here, others)

sum_ones : {X : Type 0} (weigh : Option X → ℕ) (f : ℕ → Option X) (m : ℕ) → ((n : ℕ) → n < m → weigh (f n) ≡ 1) → sum_below weigh f m ≡ m
sum_ones weigh f zero ones = refl
sum_ones weigh f (suc m) ones =
    let here = ones m (omega arith) in
    let others = sum_ones weigh f m (λ n low. ones n (omega (arith, low))) in
    omega (arith, here, others)

unqueued : (o : Option OpenedRecord) → count_of (option_map spooled_row o) ≡ 0
unqueued None = refl
unqueued (Some s) = refl

spooled_state : (o : Option OpenedRecord) (s : LegRow) → option_map spooled_row o ≡ Some s → count_in s.state ≡ 0
spooled_state None s e = no_some e
spooled_state (Some x) s e = ap (λ (v : LegRow). count_in v.state) (sym (same_some e))

-- ---- what holds then

module _ (r : RoutesValue) (records : List OpenedRecord) (numbers : List ℕ) (calls : ℕ → Option Call) (no_calls : calls ≡ (λ k. None)) (legs : ℕ → Option (Leg Errand)) (count : ℕ) (are : AreOpened records numbers legs count)
    (since : Option ℕ) (since_is : since ≡ since_at (breaks_of r) 0) where
  rows_are : (f : State → rows.State) → f InSpool ≡ rows.InSpool → all_rows f calls legs since 0 count ≡ opened (since_at (breaks_of r) 0) records
  rows_are f spools =
      let each : rows_by f legs ≡ (λ n. option_map spooled_row (slice_get records n)) = fun_ext (are.rows_are f spools) in
      let none : call_rows calls ≡ (λ k. None) = ap call_rows no_calls in
      let counted = are.counted in
      λ j. record { calls = none j; legs = each j; since = since_is j; next_call = 0; next_leg = counted j }

  core_is : (f : State → rows.State) → f InSpool ≡ rows.InSpool → IsCore r (all_rows f calls legs since 0 count)
  core_is f spools = subst (IsCore r) (sym (rows_are f spools)) (opened_is_core r (since_at (breaks_of r) 0) records)

  pub sound : count < 2 ^ 64 → (room servers : ℕ) → servers ≡ length r.servers → IsSound r calls legs since 0 0 count 0 0 count 0 room servers
  sound fits room servers known = record {
    core = core_is state_of refl;
    awaiting = core_is awaiting_state refl;
    refused = λ n s at held.
        let zero_is : count_in s.state ≡ 0 = spooled_state (slice_get records n) s (sym (are.rows_are awaiting_state refl n) ∙ at) in
        let one_is : count_in s.state ≡ 1 = ap count_in held in
        absurd (omega (arith, zero_is, one_is));
    calls_run = λ k c at. no_some (sym (ap (λ g. g k) no_calls) ∙ at);
    addressed = are.addressed;
    reserved_is = refl;
    queued_is = sym (sum_zero count_of (rows_by state_of legs) (λ n. ap count_of (are.rows_are state_of refl n) ∙ unqueued (slice_get records n)) count);
    spooled_is = sym (sum_ones spooled_one (rows_by state_of legs) count (λ n low.
        let a = are.counted in
        ap spooled_one (are.rows_are state_of refl n) ∙ ap (λ o. spooled_one (option_map spooled_row o)) (slice_get-get_or records n (0, []) (omega (arith, low, a)))));
    running_is = refl;
    room_is = omega arith;
    limit = omega arith;
    numbers = omega (arith, fits);
    known = omega (arith, known);
    era = since_is;
  }

pub view : (r : RoutesValue) (records : List (ℕ × SpoolRecord)) (calls : ℕ → Option Call) → calls ≡ (λ k. None) → (legs : ℕ → Option (Leg Errand)) (count : ℕ) → AreOpened (known_records r.servers records) (known_numbers r.servers records) legs count
    → (since : Option ℕ) → since ≡ since_at (breaks_of r) 0 → (flights : ℕ → ℕ) → ((s : ℕ) → flights s ≡ 0) → (limit : ℕ) (marks : ℕ → ServerFailures) → ((s : ℕ) → marks s ≡ no_mark) → (v : CoreView)
    → v ≡ record { routes = r; rows = rows_of calls legs since 0 count; records = records_in legs; flights = flights; limit = limit; marks = marks; moment = 0; chapter = 0; entries = count } → v ≡ opened_within limit r records
view r records calls no_calls legs count are since since_is flights none limit marks unmarked v is =
    let same = rows_are r (known_records r.servers records) (known_numbers r.servers records) calls no_calls legs count are since since_is state_of refl in
    let nowhere : flights ≡ (λ s. 0) = fun_ext none in
    let no_marks : marks ≡ (λ s. no_mark) = fun_ext unmarked in
    let counted = are.counted in
    let numbers = fun_ext are.numbered in
    is ∙ (λ j. record { routes = r; rows = same j; records = numbers j; flights = nowhere j; limit = limit; marks = no_marks j; moment = 0; chapter = 0; entries = counted j })
