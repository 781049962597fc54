-- A session over a reader and a writer.
use Rattle.std.specs.Prelude.{◌≡◌, ◌⊎◌, ℕ, List, [], Option, Result}
use Rattle.std.specs.Io.KnownBytes.{Appends, Consumes, IsAtEnd}
use Rattle.mcv_base.specs.Reply.{ReplyValue}
use Rattle.mcv_text.specs.Request.{RequestValue}
use Rattle.mcv_text.specs.Stream.{Awaits, Held}
use Rattle.mcv_session.specs.declared.desk.DeskFault.{DeskFault}
use Rattle.mcv_session.specs.declared.session.Flow.{Flow}
use Rattle.mcv_session.specs.declared.session.Flow.TheVariants.{GoesOn, Ends}
use Rattle.mcv_session.specs.declared.serve.ServeFault.{ServeFault}
use Rattle.mcv_session.specs.declared.serve.ServeFault.TheVariants as faults
use Rattle.mcv_session.specs.Session.{Serves, Breaks}

module _ {D : Type 0} (asks : D → RequestValue → Result (List ReplyValue) DeskFault → D → Type 0) where
  -- these bytes were read from their start on and served, and the text was written; `unread` and `left` are what the reader had and has left, `before` and `after` what the writer held and holds
  pub record Served (old new : D) (flow : Flow) (rest : Awaits) (unread left before after : Option (List ℕ)) : Type 0 where
    pub bytes : List ℕ
    pub text : List ℕ
    pub serves : Serves asks old new (Held []) bytes text flow rest
    pub reads : Consumes unread left bytes
    pub writes : Appends before after text

  -- it came to its end: to that of its input, or to an item that ends it
  pub record IsServed (old new : D) (unread left before after : Option (List ℕ)) : Type 0 where
    pub flow : Flow
    pub rest : Awaits
    pub served : Served old new flow rest unread left before after
    pub ended : (flow ≡ Ends) ⊎ IsAtEnd left

  -- how a fault met the last piece; of what a failed write wrote nothing is said
  abbrev pub Stops : ServeFault → D → D → Awaits → List ℕ → Option (List ℕ) → Option (List ℕ) → Type 0
  Stops faults.Read old new from piece before after = (piece ≡ []) × (new ≡ old) × Appends before after []
  Stops faults.Write old new from piece before after = ((text : List ℕ) × (flow : Flow) × (rest : Awaits) × Serves asks old new from piece text flow rest) ⊎ ((text : List ℕ) × Breaks asks old new from piece text)
  Stops faults.Memory old new from piece before after = (text : List ℕ) × Breaks asks old new from piece text × Appends before after text

  -- it stopped at a fault: all pieces before the last are served
  pub record IsStopped (fault : ServeFault) (old new : D) (unread left before after : Option (List ℕ)) : Type 0 where
    pub mid : D
    pub rest : Awaits
    pub between : Option (List ℕ)
    pub later : Option (List ℕ)
    pub earlier : Served old mid GoesOn rest unread later before between
    pub piece : List ℕ
    pub reads : Consumes later left piece
    pub stops : Stops fault mid new rest piece between after
