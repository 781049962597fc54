-- A session over a reader and a writer, piece after piece.
use Rattle.std.proofs.Common.{◌≡◌, ℕ, List, [], ◌++◌, refl, subst, Option, Result}
use Rattle.std.proofs.KnownBytes.{Consumes-nil, Consumes-trans, Appends-nil, Appends-trans}
use Rattle.std.specs.Io.KnownBytes.{Appends, Consumes}
use Rattle.mcv_base.specs.Reply.{ReplyValue}
use Rattle.mcv_text.specs.Request.{RequestValue, ItemValue}
use Rattle.mcv_text.specs.Stream.{Awaits, Held, Reads, followed}
use Rattle.mcv_session.specs.declared.desk.DeskFault.{DeskFault}
use Rattle.mcv_session.specs.declared.session.Flow.{Flow}
use Rattle.mcv_session.specs.declared.session.Flow.TheVariants.{GoesOn}
use Rattle.mcv_session.specs.declared.serve.ServeFault.{ServeFault}
use Rattle.mcv_session.specs.declared.serve.ServeFault.TheVariants as faults
use Rattle.mcv_session.specs.Session.{Serves}
use Rattle.mcv_session.specs.ServedSession.{IsStopped, Served, Stops}
use Rattle.mcv_session.proofs.Pieces.{serves_join, breaks_unread}

module _ {D : Type 0} (asks : D → RequestValue → Result (List ReplyValue) DeskFault → D → Type 0) where
  pub served_start : (desk : D) (unread before : Option (List ℕ)) → Serves asks desk desk (Held []) [] [] GoesOn (Held []) → Served asks desk desk GoesOn (Held []) unread unread before before
  served_start desk unread before s = record { bytes = []; text = []; serves = s; reads = Consumes-nil unread; writes = Appends-nil before }

  pub served_more : ((from mid to : Awaits) (a b : List ℕ) (xs ys : List ItemValue) → Reads (followed from a) xs mid → Reads (followed mid b) ys to → Reads (followed from (a ++ b)) (xs ++ ys) to)
      → (old mid new : D) (s rest : Awaits) (flow : Flow) (unread later left before between after : Option (List ℕ)) (piece text : List ℕ) → Served asks old mid GoesOn s unread later before between
      → Consumes later left piece → Serves asks mid new s piece text flow rest → Appends between after text → Served asks old new flow rest unread left before after
  served_more law old mid new s rest flow unread later left before between after piece text x c v a = record {
    bytes = x.bytes ++ piece;
    text = x.text ++ text;
    serves = serves_join asks law old mid new (Held []) s rest x.bytes piece x.text text flow x.serves v;
    reads = Consumes-trans unread later left x.bytes piece x.reads c;
    writes = Appends-trans before between after x.text text x.writes a;
  }

  pub served_on : (old new : D) (flow : Flow) (rest : Awaits) (unread left before after : Option (List ℕ)) → Served asks old new flow rest unread left before after → flow ≡ GoesOn → Served asks old new GoesOn rest unread left before after
  served_on old new flow rest unread left before after x is = subst (λ f. Served asks old new f rest unread left before after) is x

  pub stopped : (fault : ServeFault) (old mid new : D) (rest : Awaits) (unread later left before between after : Option (List ℕ)) (piece : List ℕ) → Served asks old mid GoesOn rest unread later before between
      → Consumes later left piece → Stops asks fault mid new rest piece between after → IsStopped asks fault old new unread left before after
  stopped fault old mid new rest unread later left before between after piece x c s = record { mid = mid; rest = rest; between = between; later = later; earlier = x; piece = piece; reads = c; stops = s }

  -- memory ran out before the first read
  pub stopped_unread : (desk : D) (unread before : Option (List ℕ)) → Serves asks desk desk (Held []) [] [] GoesOn (Held []) → IsStopped asks faults.Memory desk desk unread unread before before
  stopped_unread desk unread before s =
      stopped faults.Memory desk desk desk (Held []) unread unread unread before before before [] (served_start desk unread before s) (Consumes-nil unread) ([], breaks_unread asks desk (Held []) [] [] refl, Appends-nil before)
