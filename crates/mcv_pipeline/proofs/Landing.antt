-- Replies that land.
use Rattle.std.proofs.Common.{◌≡◌, ℕ, true, false, List, [], ◌∷◌, ◌++◌, map, refl, sym, ap, subst, ◌∙◌, append_assoc, Result, Err}
use Rattle.std.proofs.lemmas.List.{map-append}
use Rattle.mcv_base.specs.declared.request.LegId.{LegId}
use Rattle.mcv_base.specs.declared.reply.Reply.{Reply}
use Rattle.mcv_base.specs.Reply.{ReplyValue, reply_value}
use Rattle.mcv_pipeline.specs.declared.landed.Landed.{Landed}
use Rattle.mcv_pipeline.specs.Pipeline.{Lands, LandsAll, LandsOne, leg_of, reply_of, with_reply}
use Rattle.mcv_reply.specs.declared.fault.ReplyFault.{ReplyFault}
use Rattle.mcv_reply.specs.declared.fault.ReplyFault.TheVariants as faults
use Rattle.mcv_reply.specs.Replies.{Connection, Closed, Receives, is_open}
use Rattle.mcv_pipeline.proofs.Numbers.{map_more, receives_closed, receives_memory}

-- one reply more
pub lands_more : (numbers : List LegId) (replies : List Reply) (before : List Landed) (mid left : List LegId) (now after : List Landed) (reply : Reply) → LandsAll numbers replies before mid now → LandsOne mid reply now left after → LandsAll numbers (replies ++ reply ∷ []) before left after
lands_more numbers replies before mid left now after reply all one =
    let x = with_reply one.leg reply in record {
      more = all.more ++ x ∷ [];
      landed = one.landed ∙ ap (λ t. t ++ x ∷ []) all.landed ∙ append_assoc before all.more (x ∷ []);
      legs = all.legs ∙ ap (λ t. map leg_of all.more ++ t) one.legs ∙ sym (map_more leg_of all.more x left);
      replies_are = map-append (λ (l : Landed). l.reply) all.more (x ∷ []) ∙ ap (λ t. t ++ reply ∷ []) all.replies_are;
    }

-- what clauses see of the replies
replies_of : (more : List Landed) → map reply_of more ≡ map reply_value (map (λ (l : Landed). l.reply) more)
replies_of [] = refl
replies_of (x ∷ more) = ap (λ t. reply_value x.reply ∷ t) (replies_of more)

-- a piece's replies are those that landed
pub lands_all : (legs left : List LegId) (old new : Connection) (piece : List ℕ) (given replies : List Reply) (before after : List Landed) (result : Result Unit ReplyFault) → replies ≡ given → Receives old piece (map reply_value given) result new → LandsAll legs replies before left after
    → (more : List Landed) × (after ≡ before ++ more) × Lands (record { legs = legs; connection = old }) piece more result (record { legs = left; connection = new })
lands_all legs left old new piece given replies before after result same receives all =
    (all.more, all.landed, record { receives = subst (λ (t : List ReplyValue). Receives old piece t result new) (sym (replies_of all.more ∙ ap (map reply_value) (all.replies_are ∙ same))) receives; legs = all.legs })

pub lands_closed : (legs : List LegId) (connection : Connection) (piece : List ℕ) → is_open connection ≡ false → Lands (record { legs = legs; connection = connection }) piece [] (Err faults.Closed) (record { legs = legs; connection = connection })
lands_closed legs connection piece now = record { receives = receives_closed connection piece now; legs = refl }

pub lands_memory : (legs : List LegId) (connection : Connection) (piece : List ℕ) → is_open connection ≡ true → Lands (record { legs = legs; connection = connection }) piece [] (Err faults.Memory) (record { legs = legs; connection = Closed })
lands_memory legs connection piece now = record { receives = receives_memory connection piece now; legs = refl }
