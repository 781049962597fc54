-- Each event is its move, or leaves the rows as they are.
use Rattle.std.proofs.Common.{◌≡◌, ℕ, List, Option, Some, None, Result, Ok, Err, sym, ap, subst}
use Rattle.std.specs.Arc.{arc_value}
use Rattle.mcv_base.specs.declared.reply.Part.{Part}
use Rattle.mcv_base.specs.declared.request.CallId.{CallId}
use Rattle.mcv_base.specs.declared.request.LegId.{LegId}
use Rattle.mcv_base.specs.declared.request.Moment.{Moment}
use Rattle.mcv_base.specs.declared.request.Request.{Request}
use Rattle.mcv_base.specs.declared.request.ServerId.{ServerId}
use Rattle.mcv_base.specs.Reply.{ReplyValue}
use Rattle.mcv_pools.specs.Symbol.{SymbolValue}
use Rattle.mcv_world.specs.Moves.{Began, Move, Taken}
use Rattle.mcv_core.specs.CoreView.{CoreView, Does, Effect, HasEffect, does, refuses}
use Rattle.mcv_core.specs.Events.{Happens, IsBegun, IsClocked, IsNext, IsReplay, IsTaken, IsTurned}
use Rattle.mcv_core.specs.Steps.{Step, begun, sent, replayed, answered, lost, lost_too, spooled, refused, marked, unmarked, clocked, turned, taken}
use Rattle.mcv_core.specs.declared.fault.CoreFault.{CoreFault}
use Rattle.mcv_core.specs.declared.run.Answer.{Answer}
use Rattle.mcv_core.specs.declared.run.Event.{Event}
use Rattle.mcv_core.specs.declared.step.Step.{Step as Done}
use Rattle.mcv_core.specs.declared.turn.Era.{Era}

-- it is no move and no row changes, or it is what the move does
pub data Leads (v w : CoreView) : Option Move → Type 0 where
  stays : w.rows ≡ v.rows → w.routes ≡ v.routes → Leads v w None
  goes : (m : Option Move) → Does v w m → Leads v w m

pub effect_same : (e : Effect) (v w : CoreView) (fault : CoreFault) → HasEffect e v w (Err fault) → w ≡ v
effect_same (refuses f) v w fault h = h.1
effect_same (does s u) v w fault h = absurd (let k = h.0 in cc)

pub nothing_leads : (v w : CoreView) (m : Option Move) → m ≡ None → w ≡ v → Leads v w m
nothing_leads v w m none same = subst (Leads v w) (sym none) (stays (ap (λ z. z.rows) same) (ap (λ z. z.routes) same))

pub move_leads : (v w : CoreView) (m n : Option Move) → m ≡ n → Does v w n → Leads v w m
move_leads v w m n is d = subst (Leads v w) (sym is) (goes n d)

pub begun_leads : (v : CoreView) (chosen : SymbolValue → List ℕ → ℕ) (request : Request) (key : ℕ) (r : Result CallId CoreFault) (m : Option Move) (w : CoreView) → IsBegun v chosen request key r m w → Leads v w m
begun_leads v chosen request key (Ok call) m w h = move_leads v w m (Some (Began h.op h.route h.rest h.choice)) h.move h.does
begun_leads v chosen request key (Err fault) m w h = nothing_leads v w m h.none h.same

pub next_leads : (v : CoreView) (server : ServerId) (r : Result LegId CoreFault) (m : Option Move) (w : CoreView) → IsNext v server r m w → Leads v w m
next_leads v server (Ok leg) m w h = move_leads v w m None h.none h.does
next_leads v server (Err fault) m w h = nothing_leads v w m h.none h.same

pub replay_leads : (v : CoreView) (server : ServerId) (r : Result LegId CoreFault) (m : Option Move) (w : CoreView) → IsReplay v server r m w → Leads v w m
replay_leads v server (Ok leg) m w h = move_leads v w m None h.none h.does
replay_leads v server (Err fault) m w h = nothing_leads v w m h.none h.same

pub leg_leads : (e : Effect) (leg : LegId) (x : ReplyValue) (v : CoreView) (r : Result Done CoreFault) (m : Option Move) (w : CoreView) → Happens e leg x v r m w → Leads v w m
leg_leads e leg x v (Ok step) m w h = goes m h.does
leg_leads e leg x v (Err fault) m w h = nothing_leads v w m h.move (effect_same e v w fault h.effect)

pub clock_leads : (v : CoreView) (moment : Moment) (r : Result (Option Era) CoreFault) (m : Option Move) (w : CoreView) → IsClocked v moment r m w → Leads v w m
clock_leads v moment (Ok era) m w h = goes m h.does
clock_leads v moment (Err fault) m w h = nothing_leads v w m h.none h.same

pub turn_leads : (v : CoreView) (r : Result (Unit {0}) CoreFault) (m : Option Move) (w : CoreView) → IsTurned v r m w → Leads v w m
turn_leads v (Ok done) m w h = move_leads v w m None h.none h.does
turn_leads v (Err fault) m w h = nothing_leads v w m h.none h.same

pub take_leads : (v : CoreView) (call : CallId) (r : Result (Option Part) CoreFault) (m : Option Move) (w : CoreView) → IsTaken v call r m w → Leads v w m
take_leads v call (Ok (Some part)) m w h = move_leads v w m (Some (Taken call.0)) h.move h.does
take_leads v call (Ok None) m w h = nothing_leads v w m h.none h.same
take_leads v call (Err fault) m w h = nothing_leads v w m h.none h.same

pub step_leads : (chosen : SymbolValue → List ℕ → ℕ) (v w : CoreView) (e : Event) (a : Answer) (m : Option Move) → Step chosen v e a m w → Leads v w m
step_leads chosen v w e a m (begun request key r n u h) = begun_leads v chosen (arc_value request) key r n u h
step_leads chosen v w e a m (sent server r n u h) = next_leads v server r n u h
step_leads chosen v w e a m (replayed server r n u h) = replay_leads v server r n u h
step_leads chosen v w e a m (answered leg reply r n u h) = leg_leads _ leg _ v r n u h
step_leads chosen v w e a m (lost leg r n u h) = leg_leads _ leg _ v r n u h
step_leads chosen v w e a m (lost_too leg r n u h) = leg_leads _ leg _ v r n u h
step_leads chosen v w e a m (spooled leg stored r n u h) = leg_leads _ leg _ v r n u h
step_leads chosen v w e a m (refused leg r n u h) = leg_leads _ leg _ v r n u h
step_leads chosen v w e a m (marked server n u h) = move_leads v u n None h.none h.does
step_leads chosen v w e a m (unmarked server n u h) = move_leads v u n None h.none h.does
step_leads chosen v w e a m (clocked moment r n u h) = clock_leads v moment r n u h
step_leads chosen v w e a m (turned r n u h) = turn_leads v r n u h
step_leads chosen v w e a m (taken call r n u h) = take_leads v call r n u h
