-- The text of a snapshot in Prometheus' format, version 0.0.4 (prometheus.io/docs/instrumenting/exposition_formats,
-- "Text-based format"): for each family a line of help, a line of its type, and a line for each sample.
use Rattle.std.specs.Prelude.{ℕ, ◌==◌, List, [], ◌∷◌, ◌++◌, if◌then◌else◌, codes, decimal, string_bytes}
use Rattle.std.specs.List.{flat_map}
use Rattle.mcv_metrics.specs.Counts.{client_count, hub_count, server_count, spool_count, word_counts}
use Rattle.mcv_metrics.specs.Metrics.{kind_name, metric_help, metric_kind, metric_name, metrics, word_label}
use Rattle.mcv_metrics.specs.declared.metric.WordMetric.{WordMetric}
use Rattle.mcv_metrics.specs.declared.metric.ServerMetric.{ServerMetric}
use Rattle.mcv_metrics.specs.declared.metric.HubMetric.{HubMetric}
use Rattle.mcv_metrics.specs.declared.metric.Metric.{Metric}
use Rattle.mcv_metrics.specs.declared.metric.Metric.TheVariants.{Words, Servers, Spool, Hubs, Clients, Uptime, Build}
use Rattle.mcv_metrics.specs.declared.snapshot.WordCount.{WordCount}
use Rattle.mcv_metrics.specs.declared.snapshot.HubCounts.{HubCounts}
use Rattle.mcv_metrics.specs.declared.snapshot.ServerCounts.{ServerCounts}
use Rattle.mcv_metrics.specs.declared.snapshot.Snapshot.{Snapshot}

-- in a label's value a backslash, a quote and a line feed are written \\, \" and \n
abbrev pub label_byte : ℕ → List ℕ
label_byte b = if b == 92 then 92 ∷ 92 ∷ [] else if b == 34 then 92 ∷ 34 ∷ [] else if b == 10 then 92 ∷ 110 ∷ [] else b ∷ []

abbrev pub label_value : List ℕ → List ℕ
label_value text = flat_map label_byte text

-- `name value`
abbrev pub plain : List ℕ → ℕ → List ℕ
plain name number = name ++ codes " " ++ decimal number ++ codes "\n"

-- `name{label="value"} number`
abbrev pub labelled : List ℕ → List ℕ → List ℕ → ℕ → List ℕ
labelled name label value number = plain (name ++ codes "{" ++ label ++ codes "=\"" ++ label_value value ++ codes "\"}") number

-- one sample of a family that counts by words
abbrev pub word_sample : WordMetric → WordCount → List ℕ
word_sample m counts = labelled (metric_name (Words m)) (word_label m) (string_bytes counts.word) counts.number

-- one sample of a family that speaks of each hub
abbrev pub hub_sample : HubMetric → HubCounts → List ℕ
hub_sample m counts = labelled (metric_name (Hubs m)) (codes "hub") (decimal counts.hub) (hub_count counts m)

-- one sample of a family that speaks of each server
abbrev pub server_sample : ServerMetric → ServerCounts → List ℕ
server_sample m counts = labelled (metric_name (Servers m)) (codes "server") (string_bytes counts.server) (server_count counts m)

-- the samples of a family
abbrev pub samples : Snapshot → Metric → List ℕ
samples s (Words m) = flat_map (word_sample m) (word_counts s.words m)
samples s (Servers m) = flat_map (server_sample m) s.servers.items
samples s (Spool m) = plain (metric_name (Spool m)) (spool_count s.spool m)
samples s (Hubs m) = flat_map (hub_sample m) s.hubs.items
samples s (Clients m) = plain (metric_name (Clients m)) (client_count s.clients m)
samples s Uptime = plain (metric_name Uptime) s.uptime
samples s Build = labelled (metric_name Build) (codes "version") (decimal s.version) 1

-- `# HELP name help` and `# TYPE name kind`
abbrev pub head : Metric → List ℕ
head m = codes "# HELP " ++ metric_name m ++ codes " " ++ metric_help m ++ codes "\n# TYPE " ++ metric_name m ++ codes " " ++ kind_name (metric_kind m) ++ codes "\n"

abbrev pub family : Snapshot → Metric → List ℕ
family s m = head m ++ samples s m

abbrev pub metrics_text : Snapshot → List ℕ
metrics_text s = flat_map (family s) metrics
