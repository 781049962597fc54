-- The families of the text: their names, what they say, and whether they only grow (own; the names follow
-- prometheus.io/docs/practices/naming: a prefix, base units, `_total` behind what only grows).
use Rattle.std.specs.Prelude.{List, [], ◌∷◌, ℕ, codes}
use Rattle.mcv_metrics.specs.declared.metric.Kind.{Kind}
use Rattle.mcv_metrics.specs.declared.metric.Kind.TheVariants.{Counter, Gauge}
use Rattle.mcv_metrics.specs.declared.metric.Metric.{Metric}
use Rattle.mcv_metrics.specs.declared.metric.Metric.TheVariants.{Words, Servers, Spool, Hubs, Clients, Uptime, Build}
use Rattle.mcv_metrics.specs.declared.metric.WordMetric.{WordMetric}
use Rattle.mcv_metrics.specs.declared.metric.WordMetric.TheVariants.{Calls, Replies, Refusals}
use Rattle.mcv_metrics.specs.declared.metric.ServerMetric.TheVariants.{Sent, Lost, Waiting, Marked, Replayed}
use Rattle.mcv_metrics.specs.declared.metric.SpoolMetric.TheVariants.{Spooled, Pending, Slots, Refusing}
use Rattle.mcv_metrics.specs.declared.metric.HubMetric.TheVariants.{Entries, Bytes, Turned}
use Rattle.mcv_metrics.specs.declared.metric.ClientMetric.TheVariants.{Connected, Accepted, Refused}

-- all of them, in the order of the text
abbrev pub metrics : List Metric
metrics =
    Words Calls ∷ Words Replies ∷ Words Refusals
    ∷ Servers Sent ∷ Servers Lost ∷ Servers Waiting ∷ Servers Marked ∷ Servers Replayed
    ∷ Spool Spooled ∷ Spool Pending ∷ Spool Slots ∷ Spool Refusing
    ∷ Hubs Entries ∷ Hubs Bytes ∷ Hubs Turned
    ∷ Clients Connected ∷ Clients Accepted ∷ Clients Refused
    ∷ Uptime ∷ Build ∷ []

abbrev pub metric_name : Metric → List ℕ
metric_name (Words Calls) = codes "mcv_calls_total"
metric_name (Words Replies) = codes "mcv_replies_total"
metric_name (Words Refusals) = codes "mcv_refusals_total"
metric_name (Servers Sent) = codes "mcv_legs_sent_total"
metric_name (Servers Lost) = codes "mcv_legs_lost_total"
metric_name (Servers Waiting) = codes "mcv_legs_waiting"
metric_name (Servers Marked) = codes "mcv_server_marked"
metric_name (Servers Replayed) = codes "mcv_records_replayed_total"
metric_name (Spool Spooled) = codes "mcv_records_spooled_total"
metric_name (Spool Pending) = codes "mcv_records_pending"
metric_name (Spool Slots) = codes "mcv_spool_slots"
metric_name (Spool Refusing) = codes "mcv_spool_refusing"
metric_name (Hubs Entries) = codes "mcv_chapter_entries"
metric_name (Hubs Bytes) = codes "mcv_chapter_bytes"
metric_name (Hubs Turned) = codes "mcv_chapters_turned_total"
metric_name (Clients Connected) = codes "mcv_clients"
metric_name (Clients Accepted) = codes "mcv_clients_accepted_total"
metric_name (Clients Refused) = codes "mcv_clients_refused_total"
metric_name Uptime = codes "mcv_uptime_seconds"
metric_name Build = codes "mcv_build_info"

abbrev pub metric_help : Metric → List ℕ
metric_help (Words Calls) = codes "Calls that clients asked for, by operation."
metric_help (Words Replies) = codes "Replies to these calls, by outcome."
metric_help (Words Refusals) = codes "Requests that were refused, by cause."
metric_help (Servers Sent) = codes "Legs begun, by server."
metric_help (Servers Lost) = codes "Legs that got no reply, by server."
metric_help (Servers Waiting) = codes "Legs that waited to be sent when they were last counted, by server."
metric_help (Servers Marked) = codes "Hubs that have marked the server as down, by server."
metric_help (Servers Replayed) = codes "Deletes of the spool that the server has performed, by server."
metric_help (Spool Spooled) = codes "Deletes that were written into the spool."
metric_help (Spool Pending) = codes "Deletes in the spool that their servers haven't performed."
metric_help (Spool Slots) = codes "Slots of the spool's file that are used, of 1000000."
metric_help (Spool Refusing) = codes "Hubs whose records the spool refuses."
metric_help (Hubs Entries) = codes "Entries that the chapter has or may get, by hub."
metric_help (Hubs Bytes) = codes "Bytes that the chapter holds, by hub."
metric_help (Hubs Turned) = codes "Chapters that have ended, by hub."
metric_help (Clients Connected) = codes "Clients that are connected."
metric_help (Clients Accepted) = codes "Clients that were accepted."
metric_help (Clients Refused) = codes "Clients that were refused, since there were too many."
metric_help Uptime = codes "Seconds since the start."
metric_help Build = codes "1, by the version of the program."

-- a counter only grows while the program runs, a gauge may fall
abbrev pub metric_kind : Metric → Kind
metric_kind (Words Calls) = Counter
metric_kind (Words Replies) = Counter
metric_kind (Words Refusals) = Counter
metric_kind (Servers Sent) = Counter
metric_kind (Servers Lost) = Counter
metric_kind (Servers Waiting) = Gauge
metric_kind (Servers Marked) = Gauge
metric_kind (Servers Replayed) = Counter
metric_kind (Spool Spooled) = Counter
metric_kind (Spool Pending) = Gauge
metric_kind (Spool Slots) = Gauge
metric_kind (Spool Refusing) = Gauge
metric_kind (Hubs Entries) = Gauge
metric_kind (Hubs Bytes) = Gauge
metric_kind (Hubs Turned) = Counter
metric_kind (Clients Connected) = Gauge
metric_kind (Clients Accepted) = Counter
metric_kind (Clients Refused) = Counter
metric_kind Uptime = Gauge
metric_kind Build = Gauge

-- what the words name
abbrev pub word_label : WordMetric → List ℕ
word_label Calls = codes "operation"
word_label Replies = codes "outcome"
word_label Refusals = codes "cause"

abbrev pub kind_name : Kind → List ℕ
kind_name Counter = codes "counter"
kind_name Gauge = codes "gauge"
