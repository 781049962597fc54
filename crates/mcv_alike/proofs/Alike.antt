-- Trees whose plans do the same, and trees whose plan for a delete sends more.
use Rattle.std.proofs.Common.{◌≡◌, ◌≢◌, ◌⊎◌, inl, inr, ⊎_elim, ℕ, suc, Bool, true, List, [], ◌∷◌, ◌++◌, length, map, Option, Some, None, refl, sym, ap, ap₂, ◌∙◌, subst, append_assoc, append-nil}
use Rattle.std.specs.Prelude.{⊤, fold, slice_index}
use Rattle.std.specs.List.{AllByRecursion, zip}
use Rattle.std.proofs.lemmas.List.{map-append}
use Rattle.std.proofs.lemmas.List.Elements.{All-from_recursion}
use Rattle.std.proofs.lemmas.Simd.{map-map}
use Rattle.mcv_base.specs.Operation.{is_counting}
use Rattle.mcv_base.specs.Reply.{worse}
use Rattle.mcv_base.specs.declared.reply.Outcome.{Outcome}
use Rattle.mcv_base.specs.declared.reply.Outcome.TheVariants.{Good, Soft, Error}
use Rattle.mcv_judge.specs.Reason.{LegValue}
use Rattle.mcv_pools.specs.Symbol.{SymbolValue}
use Rattle.mcv_route.specs.Launched.{launched}
use Rattle.mcv_route.specs.Outcomes.{Outcomes}
use Rattle.mcv_route.specs.Replies.{Answer, outcome_of, replies}
use Rattle.mcv_route.specs.Routes.{RoutesValue}
use Rattle.mcv_route.specs.Situation.{Situation}
use Rattle.mcv_route.specs.Tree.{Tree}
use Rattle.mcv_route.specs.Verdict.{Has}
use Rattle.mcv_rules.specs.Plan.{Leg, Plan, Send, Both, Beside, both, reply}
use Rattle.mcv_rules.specs.Plan as planned
use Rattle.mcv_rules.specs.Plans.{launch_of, plan}
use Rattle.mcv_rules.proofs.AnswersOfPlan
use Rattle.mcv_rules.proofs.Basics.{both_some}
use Rattle.mcv_rules.proofs.LegsOfPlan.{sent}
use Rattle.mcv_rules.proofs.ListMembers.{Among}
use Rattle.mcv_rules.proofs.PlansAreSound.{plan_apart}
use Rattle.mcv_alike.specs.Alike.{DeletesMore, DoesAlike, IsHash, Move, Place, Seen, added, chosen_by, moved, seen, sent_by}
use Rattle.mcv_alike.specs.Plans.{AreAddedLegs, AreOnePlan, IsAddedLeg, IsWidened, sends_more}
use Rattle.mcv_alike.proofs.Answers.{answers, replied as answered}
use Rattle.mcv_alike.proofs.MoveExists.{move_exists}
use Rattle.mcv_alike.proofs.Moves as moves
use Rattle.mcv_alike.proofs.Moves.{IsMoved, brought, one_server, seen_by, seen_leg, stay}

-- what a tree sends is what its plan does
seen_tree : (r : RoutesValue) (t : Tree) (s : Situation) (m : Move) (h : SymbolValue → ℕ) (o : Outcomes) → sent_by r t s m h o ≡ seen_by r m h (plan t s) (brought m o)
seen_tree r t s m h o =
    ap (map (seen r m)) (sent t s (chosen_by h r) (brought m o))
    ∙ map-map (seen r m) (launch_of (chosen_by h r)) (planned.launched (plan t s) (chosen_by h r) (brought m o))

pub alike : (r n : RoutesValue) (t u : Tree) (s : Situation) → AreOnePlan r n (plan t s) (plan u s) → DoesAlike r n t u s
alike r n t u s one =
    let m = move_exists r n (plan t s) (plan u s) one (plan_apart t s) in
    record {
      move = m.0;
      sends = λ h o is. seen_tree n u s stay h o ∙ moves.sends r n m.0 h is o (plan t s) (plan u s) one m.1 ∙ sym (seen_tree r t s m.0 h o);
      replies = λ o. answered u s o ∙ moves.answered r n m.0 o (plan t s) (plan u s) one m.1 ∙ ap (map (moved m.0)) (sym (answered t s (brought m.0 o)));
    }

-- ---- more legs

more_both : (t : Plan) (ls : List Leg) (h : ℕ → ℕ) (o : Outcomes) → planned.launched (sends_more Both t ls) h o ≡ planned.launched t h o ++ ls
more_both t [] h o = sym (append-nil (planned.launched t h o))
more_both t (l ∷ ls) h o = more_both (Both t (Send l)) ls h o ∙ append_assoc (planned.launched t h o) (l ∷ []) ls

more_beside : (t : Plan) (ls : List Leg) (h : ℕ → ℕ) (o : Outcomes) → planned.launched (sends_more Beside t ls) h o ≡ planned.launched t h o ++ ls
more_beside t [] h o = sym (append-nil (planned.launched t h o))
more_beside t (l ∷ ls) h o = more_beside (Beside t (Send l)) ls h o ∙ append_assoc (planned.launched t h o) (l ∷ []) ls

abbrev place_of : Leg → Place
place_of l = (l.position, l.mark)

module _ (r n : RoutesValue) where
  as_many : (ks : List LegValue) (ls : List Leg) → AreAddedLegs r n ks ls → length (map place_of ls) ≡ length ks
  as_many [] [] are = refl
  as_many [] (l ∷ ls) are = absurd are
  as_many (k ∷ ks) [] are = absurd are
  as_many (k ∷ ks) (l ∷ ls) are = ap suc (as_many ks ls are.1)

  all_counted : (ks : List LegValue) (ls : List Leg) → AreAddedLegs r n ks ls → AllByRecursion (λ (p : Place). is_counting p.1 ≡ true) (map place_of ls)
  all_counted [] [] are = tt
  all_counted [] (l ∷ ls) are = absurd are
  all_counted (k ∷ ks) [] are = absurd are
  all_counted (k ∷ ks) (l ∷ ls) are = (are.0.mark, all_counted ks ls are.1)

  module _ (h : SymbolValue → ℕ) (is : IsHash h) where
    one_added : (k : LegValue) (l : Leg) → IsAddedLeg r n k l → seen_leg n stay h l ≡ added r h (k, place_of l)
    one_added k l one =
        let same = one_server r n h is k.symbol k.servers l.symbol l.servers one.pool in
        λ i. record { position = l.position; server = sym same i; op = one.op i; mark = l.mark }

    all_added : (ks : List LegValue) (ls : List Leg) → AreAddedLegs r n ks ls → map (seen_leg n stay h) ls ≡ map (added r h) (zip ks (map place_of ls))
    all_added [] [] are = refl
    all_added [] (l ∷ ls) are = absurd are
    all_added (k ∷ ks) [] are = absurd are
    all_added (k ∷ ks) (l ∷ ls) are = ap₂ ◌∷◌ (one_added k l are.0) (all_added ks ls are.1)

  launched_more : (ks : List LegValue) (t u : Plan) (w : IsWidened r n ks t u) (h : ℕ → ℕ) (o : Outcomes) → planned.launched u h o ≡ planned.launched w.own h o ++ w.legs
  launched_more ks t u w h o =
      ⊎_elim (λ e. ap (λ (x : Plan). planned.launched x h o) e ∙ more_both w.own w.legs h o) (λ e. ap (λ (x : Plan). planned.launched x h o) e ∙ more_beside w.own w.legs h o) w.joined

-- ---- done

-- the plan has a reply that isn't an error
abbrev Done : Plan → Outcomes → Type 0
Done t o = (x : Outcome) × (reply t o ≡ Some x) × (x ≢ Error)

done_both : (t : Plan) (ls : List Leg) (o : Outcomes) → Done (sends_more Both t ls) o → Done t o
done_both t [] o d = d
done_both t (l ∷ ls) o d =
    let e = done_both (Both t (Send l)) ls o d in
    let parts = both_some (reply t o) (o l.position) e.0 e.1 in
    (parts.0, parts.2, λ is. e.2 (sym parts.4 ∙ ap (λ (y : Outcome). worse y parts.1) is))

done_beside : (t : Plan) (ls : List Leg) (o : Outcomes) → Done (sends_more Beside t ls) o → Done t o
done_beside t [] o d = d
done_beside t (l ∷ ls) o d = done_beside (Beside t (Send l)) ls o d

done_more : (r n : RoutesValue) (ks : List LegValue) (t u : Plan) (w : IsWidened r n ks t u) (o : Outcomes) → Done u o → Done w.own o
done_more r n ks t u w o d = ⊎_elim (λ e. done_both w.own w.legs o (subst (λ (x : Plan). Done x o) e d)) (λ e. done_beside w.own w.legs o (subst (λ (x : Plan). Done x o) e d)) w.joined

one_of : (qs : List Answer) → Has qs (λ a. a.outcome ≢ Error) → (a : Answer) × Among qs a × (a.outcome ≢ Error)
one_of [] h = absurd h
one_of (a ∷ qs) (inl fine) = (a, inl refl, fine)
one_of (a ∷ qs) (inr h) = let b = one_of qs h in (b.0, inr b.1, b.2)

first_of : (qs : List Answer) (x : Outcome) → outcome_of qs ≡ Some x → x ≢ Error → Has qs (λ a. a.outcome ≢ Error)
first_of [] x e fine = absurd (cc)
first_of (a ∷ qs) x e fine = inl (λ is. fine (same e ∙ is))
  where
    same : Some a.outcome ≡ Some x → x ≡ a.outcome
    same f = (cc)

tree_done : (t : Tree) (s : Situation) (o : Outcomes) → Has (replies t s o) (λ a. a.outcome ≢ Error) → Done (plan t s) o
tree_done t s o h = let a = one_of (replies t s o) h in (a.0.outcome, (AnswersOfPlan.replied t s o).same a.0 a.1, a.2)

done_tree : (t : Tree) (s : Situation) (o : Outcomes) → Done (plan t s) o → Has (replies t s o) (λ a. a.outcome ≢ Error)
done_tree t s o d = first_of (replies t s o) d.0 ((AnswersOfPlan.replied t s o).outcome ∙ d.1) d.2

pub deletes_more : (r n : RoutesValue) (t u : Tree) (s : Situation) (ks : List LegValue) → IsWidened r n ks (plan t s) (plan u s) → DeletesMore r n t u s ks
deletes_more r n t u s ks w =
    let m = move_exists r n (plan t s) w.own w.same (plan_apart t s) in
    record {
      move = m.0;
      places = map place_of w.legs;
      own = as_many r n ks w.legs w.added;
      counted = All-from_recursion (λ (p : Place). is_counting p.1 ≡ true) (map place_of w.legs) (all_counted r n ks w.legs w.added);
      sends = λ h o is.
          seen_tree n u s stay h o
          ∙ ap (map (seen_leg n stay h)) (launched_more r n ks (plan t s) (plan u s) w (chosen_by h n) o)
          ∙ map-append (seen_leg n stay h) (planned.launched w.own (chosen_by h n) o) w.legs
          ∙ ap₂ ◌++◌ (moves.sends r n m.0 h is o (plan t s) w.own w.same m.1 ∙ sym (seen_tree r t s m.0 h o)) (all_added r n h is ks w.legs w.added);
      done = λ o d.
          let e = done_more r n ks (plan t s) (plan u s) w o (tree_done u s o d) in
          done_tree t s (brought m.0 o) (e.0, sym (moves.replied r n m.0 o (plan t s) w.own w.same m.1) ∙ e.1, e.2);
    }
