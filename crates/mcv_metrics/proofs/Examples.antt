-- The definitions at small counts.
use Rattle.std.proofs.Common.{◌≡◌, [], ◌∷◌, ◌++◌, codes, refl}
use Rattle.std.specs.Fmt.{digits}
use Rattle.mcv_metrics.specs.Metrics.{metric_name, word_label}
use Rattle.mcv_metrics.specs.Text.{head, label_value, labelled, plain}
use Rattle.mcv_metrics.specs.declared.metric.Metric.TheVariants.{Hubs, Servers, Uptime, Words}
use Rattle.mcv_metrics.specs.declared.metric.HubMetric.TheVariants.{Bytes}
use Rattle.mcv_metrics.specs.declared.metric.WordMetric.TheVariants.{Replies}
use Rattle.mcv_metrics.specs.declared.metric.ServerMetric.TheVariants.{Lost}

uptime : head Uptime ++ plain (metric_name Uptime) 7 ≡ codes "# HELP mcv_uptime_seconds Seconds since the start.\n# TYPE mcv_uptime_seconds gauge\nmcv_uptime_seconds 7\n"
unfolding digits
uptime = refl

lost : labelled (metric_name (Servers Lost)) (codes "server") (codes "a:1") 12 ≡ codes "mcv_legs_lost_total{server=\"a:1\"} 12\n"
unfolding digits
lost = refl

bytes : labelled (metric_name (Hubs Bytes)) (codes "hub") (codes "7") 12 ≡ codes "mcv_chapter_bytes{hub=\"7\"} 12\n"
unfolding digits
bytes = refl

misses : labelled (metric_name (Words Replies)) (word_label Replies) (codes "miss") 12 ≡ codes "mcv_replies_total{outcome=\"miss\"} 12\n"
unfolding digits
misses = refl

-- a quote, a backslash, a line feed
value : label_value (34 ∷ 92 ∷ 10 ∷ 97 ∷ []) ≡ 92 ∷ 34 ∷ 92 ∷ 92 ∷ 92 ∷ 110 ∷ 97 ∷ []
value = refl
