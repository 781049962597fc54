-- What of a snapshot a metric says (own).
use Rattle.std.specs.Prelude.{ℕ, List}
use Rattle.mcv_metrics.specs.declared.metric.WordMetric.{WordMetric}
use Rattle.mcv_metrics.specs.declared.metric.WordMetric.TheVariants.{Calls, Replies, Refusals}
use Rattle.mcv_metrics.specs.declared.metric.ServerMetric.{ServerMetric}
use Rattle.mcv_metrics.specs.declared.metric.ServerMetric.TheVariants.{Sent, Lost, Waiting, Marked, Replayed}
use Rattle.mcv_metrics.specs.declared.metric.SpoolMetric.{SpoolMetric}
use Rattle.mcv_metrics.specs.declared.metric.SpoolMetric.TheVariants.{Spooled, Pending, Slots, Refusing}
use Rattle.mcv_metrics.specs.declared.metric.HubMetric.{HubMetric}
use Rattle.mcv_metrics.specs.declared.metric.HubMetric.TheVariants.{Entries, Bytes, Turned}
use Rattle.mcv_metrics.specs.declared.metric.ClientMetric.{ClientMetric}
use Rattle.mcv_metrics.specs.declared.metric.ClientMetric.TheVariants.{Connected, Accepted, Refused}
use Rattle.mcv_metrics.specs.declared.snapshot.WordCount.{WordCount}
use Rattle.mcv_metrics.specs.declared.snapshot.WordCounts.{WordCounts}
use Rattle.mcv_metrics.specs.declared.snapshot.ServerCounts.{ServerCounts}
use Rattle.mcv_metrics.specs.declared.snapshot.SpoolCounts.{SpoolCounts}
use Rattle.mcv_metrics.specs.declared.snapshot.HubCounts.{HubCounts}
use Rattle.mcv_metrics.specs.declared.snapshot.ClientCounts.{ClientCounts}

abbrev pub word_counts : WordCounts → WordMetric → List WordCount
word_counts counts Calls = counts.calls.items
word_counts counts Replies = counts.replies.items
word_counts counts Refusals = counts.refusals.items

abbrev pub server_count : ServerCounts → ServerMetric → ℕ
server_count counts Sent = counts.sent
server_count counts Lost = counts.lost
server_count counts Waiting = counts.waiting
server_count counts Marked = counts.marked
server_count counts Replayed = counts.replayed

abbrev pub spool_count : SpoolCounts → SpoolMetric → ℕ
spool_count counts Spooled = counts.spooled
spool_count counts Pending = counts.pending
spool_count counts Slots = counts.slots
spool_count counts Refusing = counts.refusing

abbrev pub hub_count : HubCounts → HubMetric → ℕ
hub_count counts Entries = counts.entries
hub_count counts Bytes = counts.bytes
hub_count counts Turned = counts.turned

abbrev pub client_count : ClientCounts → ClientMetric → ℕ
client_count counts Connected = counts.connected
client_count counts Accepted = counts.accepted
client_count counts Refused = counts.refused
