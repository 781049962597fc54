-- What a pipeline has lived through (own): each leg that was sent has landed, was told as lost, or is neither yet, in the order of sending.
-- Legs 4, 7 and 9 are sent, 4 lands, the connection is closed, 7 is told as lost: 9 is still to be told.
use Rattle.std.specs.Prelude.{◌≡◌, ◌++◌, List, [], true}
use Rattle.mcv_base.specs.declared.request.LegId.{LegId}
use Rattle.mcv_pipeline.specs.Pipeline.{PipelineValue}
use Rattle.mcv_reply.specs.Replies.{Open, is_open}

-- the legs that were sent, those that landed, and those that were told as lost
pub record History : Type 0 where
  pub sent : List LegId
  pub landed : List LegId
  pub lost : List LegId

abbrev pub unlived : History
unlived = record { sent = []; landed = []; lost = [] }

-- a connection over which nothing was sent yet
abbrev pub unused : PipelineValue
unused = record { legs = []; connection = Open [] [] }

-- each leg once; none is lost while the connection is open
pub record Lived (h : History) (now : PipelineValue) : Type 0 where
  pub all : h.sent ≡ h.landed ++ (h.lost ++ now.legs)
  pub none_lost : is_open now.connection ≡ true → h.lost ≡ []
