-- What a connection has carried (own).
-- A get of a and a delete of b are sent as legs 4 and 7, and five bytes are written: of `get a` CR LF `delete b` CR LF the rest is to be written.
use Rattle.std.specs.Prelude.{◌≡◌, ◌++◌, ℕ, List, [], length, true}
use Rattle.std.specs.List.{concat}
use Rattle.mcv_base.specs.declared.request.LegId.{LegId}
use Rattle.mcv_pipeline.specs.Life.{Lived}
use Rattle.mcv_reply.specs.Replies.{is_open}
use Rattle.mcv_upstream.specs.Upstream.{UpstreamValue}

-- the legs that were sent, with their texts; those that landed, and those that were told as lost; and what was written
pub record History : Type 0 where
  pub sent : List LegId
  pub texts : List (List ℕ)
  pub landed : List LegId
  pub lost : List LegId
  pub written : List ℕ

abbrev pub unlived : History
unlived = record { sent = []; texts = []; landed = []; lost = []; written = [] }

-- each leg has its text, and lands or is lost once; what is written, then the output, are the texts in their order
pub record Carried (h : History) (now : UpstreamValue) : Type 0 where
  pub lived : Lived (record { sent = h.sent; landed = h.landed; lost = h.lost }) now.legs
  pub one_each : length h.texts ≡ length h.sent
  pub writes : is_open now.legs.connection ≡ true → h.written ++ now.output ≡ concat h.texts
