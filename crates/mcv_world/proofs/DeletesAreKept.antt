-- Deletes are kept.
use Rattle.std.proofs.Common.{◌≡◌, ◌≢◌, ◌⊎◌, inl, inr, ℕ, true, List, Option, Some, refl, sym, ap, ◌∙◌, subst}
use Rattle.std.specs.Prelude.{option_map, slice_get, unwrap_or}
use Rattle.std.specs.List.{Contains}
use Rattle.std.proofs.lemmas.Bool.{and_from}
use Rattle.std.proofs.lemmas.List.Elements.{Contains-get_or}
use Rattle.std.proofs.lemmas.Option.{get_or_from_slice_get, slice_get_within}
use Rattle.mcv_base.specs.declared.operation.Op.TheVariants.{Delete}
use Rattle.mcv_base.specs.declared.reply.Outcome.TheVariants.{Error}
use Rattle.mcv_base.specs.Operation.{is_delete, is_counting}
use Rattle.mcv_base.specs.Reply.{ReplyValue, outcome_of}
use Rattle.mcv_route.specs.Outcomes.{outcomes}
use Rattle.mcv_route.specs.Routes.{RoutesValue}
use Rattle.mcv_route.specs.Situation.{asked}
use Rattle.mcv_route.specs.Tree.{Tree, error}
use Rattle.mcv_route.specs.Launched.{launched}
use Rattle.mcv_route.specs.Replies.{replies}
use Rattle.mcv_route.specs.Eras.{IsEra, IsNear}
use Rattle.mcv_route.specs.Verdict.{IsCovered, IsLegal, IsReadableNear, IsSent}
use Rattle.mcv_rules.proofs.ListMembers.{Among}
use Rattle.mcv_symbolic.specs.CoveredRoutes.{AreCovered, sizes_of}
use Rattle.mcv_world.specs.World.{LegState, Queued, Performed, Spooled, Gone, Call, World, tree_of, choice_of, history_of, reply_of, is_counted_delete}
use Rattle.mcv_world.specs.Moves.{after, run}
use Rattle.mcv_world.specs.KeptLegs.{KeepsLeg}
use Rattle.mcv_world.specs.Laws.{IsWorld, LosesNothing, NothingLaunchedIsLost, ReadableIsLaunched, CoveredIsKept, CoveredWorldsAreKept, MovesKeepDeletes}
use Rattle.mcv_world.proofs.CallsLegs.{among_has, has_among, deletes_send_deletes}
use Rattle.mcv_world.proofs.Replies.{reply_answer}
use Rattle.mcv_world.proofs.MovesKeepWorlds.{opening_is_world, moves_keep_worlds, run_world}

at_place : {A : Type 0} (xs : List A) (n : ℕ) (x : A) → slice_get xs n ≡ Some x → Contains xs x
at_place xs n x e = subst (Contains xs) (get_or_from_slice_get xs n x x e) (Contains-get_or xs n x (slice_get_within xs n x e))

not_gone : (state : LegState) → state ≢ Gone → (state ≡ Performed) ⊎ (state ≡ Queued) ⊎ (state ≡ Spooled)
not_gone Queued h = inr (inl refl)
not_gone Performed h = inl refl
not_gone Spooled h = inr (inr refl)
not_gone Gone h = absurd (h refl)

module _ (r : RoutesValue) (w : World) (covered : AreCovered r) (i : IsWorld r w) (k : ℕ) (call : Call) (there : w.calls k ≡ Some call) (delete : call.op ≡ Delete) where
  abbrev tree : Tree
  tree = tree_of r call.route

  is_covered : (read : Option ℕ) → IsEra r read → IsNear r r.window call.since read → IsCovered (sizes_of r) tree call.rest call.since read
  is_covered read era near =
      let c = (i.calls k call there).1 in
      let same : tree ≡ c.began.entry.tree = ap (λ o. unwrap_or (option_map (λ e. e.tree) o) error) c.began.there in
      subst (λ t. IsCovered (sizes_of r) t call.rest call.since read) (sym same)
      (covered c.began.entry call.rest call.since read (at_place r.entries call.route c.began.entry c.began.there) c.began.rest_is c.era era near)

  sent_to : (reply : ReplyValue) → reply_of r call ≡ Some reply → outcome_of reply ≢ Error → (x : ℕ) → IsReadableNear r tree call.rest call.since (choice_of call) x
      → IsSent tree call.rest call.since (choice_of call) (outcomes (history_of call.recorded)) x
  sent_to reply e fine x readable =
      let c = (i.calls k call there).1 in
      let legal = subst (λ op. IsLegal tree (asked op call.rest call.since) (choice_of call) (history_of call.recorded)) delete c.legal in
      let a = reply_answer r call reply e in
      let among = subst (λ op. Among (replies tree (asked op call.rest call.since) (outcomes (history_of call.recorded))) a.0) delete a.1 in
      is_covered readable.0 readable.1 readable.2 (choice_of call) (outcomes (history_of call.recorded)) c.began.choice_is (history_of call.recorded, legal, λ p. refl)
      (among_has (replies tree (asked Delete call.rest call.since) (outcomes (history_of call.recorded))) (λ b. b.outcome ≢ Error) a.0 among (λ f. fine (sym a.2 ∙ f))) x readable.3

  pub keeps_leg : (reply : ReplyValue) → reply_of r call ≡ Some reply → outcome_of reply ≢ Error → (x : ℕ) → IsReadableNear r tree call.rest call.since (choice_of call) x → KeepsLeg w k x
  keeps_leg reply e fine x readable =
      let s = has_among _ _ (sent_to reply e fine x readable) in
      let op = deletes_send_deletes tree call.rest call.since (choice_of call) (outcomes (history_of call.recorded)) s.0 s.1 in
      let h = i.has k call s.0 there (subst (λ op. Among (launched tree (asked op call.rest call.since) (choice_of call) (outcomes (history_of call.recorded))) s.0) (sym delete) s.1) in
      let deletes : h.leg.launch.op ≡ Delete = ap (λ l. l.op) h.launch ∙ op in
      let counts : is_counting h.leg.launch.mark ≡ true = ap (λ l. is_counting l.mark) h.launch ∙ s.2.1 in
      let counted : is_counted_delete h.leg ≡ true = and_from (is_delete h.leg.launch.op) (is_counting h.leg.launch.mark) (ap is_delete deletes) counts in
      record {
        number = h.number;
        leg = h.leg;
        there = h.there;
        own = h.own;
        server = ap (λ l. l.server.0) h.launch ∙ s.2.0;
        deletes = deletes;
        counts = counts;
        state = not_gone h.leg.state (i.counted h.number h.leg h.there counted);
      }

pub readable_is_launched : ReadableIsLaunched
readable_is_launched r w k call reply covered i there delete e fine x readable = sent_to r w covered i k call there delete reply e fine x readable

pub covered_worlds_are_kept : CoveredWorldsAreKept
covered_worlds_are_kept r w covered i k call reply there delete e fine x readable = keeps_leg r w covered i k call there delete reply e fine x readable

pub loses_nothing : (r : RoutesValue) (w : World) → IsWorld r w → LosesNothing r w
loses_nothing r w i = record { reachable = λ k call e. (history_of call.recorded, (i.calls k call e).1.legal, λ p. refl); legs = i.has; counted = i.counted }

pub nothing_launched_is_lost : NothingLaunchedIsLost
nothing_launched_is_lost r w ms o p = loses_nothing r (run r w ms) (run_world r w ms (opening_is_world r w o) p)

pub covered_is_kept : CoveredIsKept
covered_is_kept r w ms covered o p = covered_worlds_are_kept r (run r w ms) covered (run_world r w ms (opening_is_world r w o) p)

pub moves_keep_deletes : MovesKeepDeletes
moves_keep_deletes r w m covered i p = covered_worlds_are_kept r (after r w m) covered (moves_keep_worlds r w m i p)
