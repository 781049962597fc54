-- Outcomes come in the order of their positions.
use Rattle.std.proofs.Common.{ℕ, Bool, true, false, List, [], ◌∷◌, ◌++◌, map, sym, subst}
use Rattle.std.specs.Prelude.{if◌then◌else◌}
use Rattle.std.proofs.lemmas.List.{map-append}
use Rattle.mcv_base.specs.Reply.{is_error, is_missed}
use Rattle.mcv_base.specs.declared.reply.Outcome.{Outcome}
use Rattle.mcv_route.specs.Outcomes.{History}
use Rattle.mcv_rules.specs.Plan.{Plan, Send, Reply, Both, Beside, OnError, OnMiss, OnHit, Shadowed}
use Rattle.mcv_rules.specs.Soundness.{positions}
use Rattle.mcv_rules.proofs.LegsRise.{IsPart, IsRising, both-parts, left-part, no-part, pairs, whole-part}
use Rattle.mcv_symbolic.specs.ShownAnswers.{answers}
use Rattle.mcv_symbolic.specs.Structure.{if_all}
use Rattle.mcv_witness.specs.Breaks.{AreRising}

abbrev places : History → List (List ℕ)
places es = map (λ e. e.0) es

-- at some of these places, in their order
abbrev pub IsOrdered : List (List ℕ) → History → Type 0
IsOrdered ps es = IsPart (places es) ps

no-outcome : (ps : List (List ℕ)) → IsOrdered ps []
no-outcome ps = no-part ps

pub one-outcome : (p : List ℕ) (x : Outcome) → IsOrdered (p ∷ []) ((p, x) ∷ [])
one-outcome p x = whole-part (p ∷ [])

pub ordered-first : (ps qs : List (List ℕ)) (es : History) → IsOrdered ps es → IsOrdered (ps ++ qs) es
ordered-first ps qs es h = left-part (places es) ps qs h

pub ordered-both : (ps qs : List (List ℕ)) (es fs : History) → IsOrdered ps es → IsOrdered qs fs → IsOrdered (ps ++ qs) (es ++ fs)
ordered-both ps qs es fs h g = subst (λ ns. IsPart ns (ps ++ qs)) (sym (map-append (λ (e : List ℕ × Outcome). e.0) es fs)) (both-parts (places es) (places fs) ps qs h g)

ordered-if : (b : Bool) (ps : List (List ℕ)) (es : History) → IsOrdered ps es → IsOrdered ps (if b then es else [])
ordered-if true ps es h = h
ordered-if false ps es h = no-outcome ps

pub answers-ordered : (x : Outcome) (t : Plan) → IsOrdered (positions t) (answers x t)
answers-ordered x (Send l) = one-outcome l.position x
answers-ordered x (Reply y) = no-outcome []
answers-ordered x (Both t u) = ordered-both (positions t) (positions u) (answers x t) (answers x u) (answers-ordered x t) (answers-ordered x u)
answers-ordered x (Beside t u) = ordered-first (positions t) (positions u) (answers x t) (answers-ordered x t)
answers-ordered x (OnError t u) = ordered-both (positions t) (positions u) (answers x t) (if is_error (if_all x t) then answers x u else []) (answers-ordered x t) (ordered-if (is_error (if_all x t)) (positions u) (answers x u) (answers-ordered x u))
answers-ordered x (OnMiss t u) = ordered-both (positions t) (positions u) (answers x t) (if is_missed (if_all x t) then answers x u else []) (answers-ordered x t) (ordered-if (is_missed (if_all x t)) (positions u) (answers x u) (answers-ordered x u))
answers-ordered x (OnHit t u) = ordered-first (positions t) (positions u) (answers x t) (answers-ordered x t)
answers-ordered x (Shadowed s a b t u) = ordered-first (positions t) (positions u) (answers x t) (answers-ordered x t)

pub are-rising : (ps : List (List ℕ)) (es : History) → IsRising ps → IsOrdered ps es → AreRising es
are-rising ps es r h = pairs (places es) (h.rising r)
