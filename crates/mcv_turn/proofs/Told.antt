-- What a turn tells.
use Rattle.std.proofs.Common.{◌≡◌, ◌∙◌, ◌⊎◌, ◌++◌, ◌∷◌, [], ℕ, Bool, true, false, List, Option, None, Some, Result, Ok, Err, OnErr, OnOk, ap, append-nil, append_assoc, inl, inr, refl, subst, sym}
use Rattle.std.specs.Prelude.{if◌then◌else◌, IfNone, IfSome}
use Rattle.std.specs.List.{All, Contains}
use Rattle.std.proofs.lemmas.List.Elements.{All-append, All-cons, All-nil, All-weaker, Contains-append_left, Contains-append_right, Contains-push}
use Rattle.mcv_base.specs.declared.request.ServerId.{ServerId}
use Rattle.mcv_hub.specs.State.{HubView}
use Rattle.mcv_turn.specs.Flights.{is_marked}
use Rattle.mcv_turn.specs.Runs.{Runs, joined, nothing}
use Rattle.mcv_turn.specs.Shown.{IsDoneBy, IsMarkedSo, TellsMarks, TellsPerformed, told_of}
use Rattle.mcv_turn.specs.Steps.{WasPerformed}
use Rattle.mcv_turn.specs.declared.arrival.Arrival.{Arrival}
use Rattle.mcv_turn.specs.declared.came.Marked.{Marked}
use Rattle.mcv_turn.specs.declared.came.Performed.{Performed}

-- one of the two
pub either : {X : Type 0} (b : Bool) (x y z : X) → z ≡ (if b then x else y) → (z ≡ x) ⊎ (z ≡ y)
either true x y z h = inl h
either false x y z h = inr h

-- ---- records that are done

pub none_told : (start : HubView) (arrivals : List Arrival) (before after : List Performed) → after ≡ before → TellsPerformed start arrivals before after
none_told start arrivals before after e = record { more = []; are = e ∙ sym (append-nil before); each = All-nil (IsDoneBy start arrivals) }

-- where a record is told or not, for want of memory
pub told_or_untold : (server : ServerId) (landed : Option ℕ) (number : ℕ) (before after : List Performed) → landed ≡ Some number → (after ≡ before ++ (record { server = server; number = number }) ∷ []) ⊎ (after ≡ before) → IfSome landed (λ n. (after ≡ before ++ (record { server = server; number = n }) ∷ []) ⊎ (after ≡ before))
told_or_untold server landed number before after is h = subst (λ (o : Option ℕ). IfSome o (λ n. (after ≡ before ++ (record { server = server; number = n }) ∷ []) ⊎ (after ≡ before))) (sym is) h

pub none_where_some : (X : Type 0) (landed : Option ℕ) (number : ℕ) → landed ≡ Some number → IfNone landed X
none_where_some X landed number is = subst (λ (o : Option ℕ). IfNone o X) (sym is) tt

pub one_told : (start new : HubView) (a : Arrival) (number : ℕ) (before after : List Performed) → WasPerformed number a start new → after ≡ before ++ (record { server = a.server; number = number }) ∷ [] → TellsPerformed start (a ∷ []) before after
one_told start new a number before after was e =
    let p : Performed = record { server = a.server; number = number } in
    let its : IsDoneBy start (a ∷ []) p = record { arrival = a; one = Contains-push [] a; server = refl; before = []; old = start; so_far = nothing start; new = new; performed = was } in
    record { more = p ∷ []; are = e; each = All-cons (IsDoneBy start (a ∷ [])) p [] its (All-nil (IsDoneBy start (a ∷ []))) }

-- the record of an arrival, if there is one, is told or not
pub told_or_not : (start new : HubView) (a : Arrival) (landed : Option ℕ) (before after : List Performed) → IfSome landed (λ number. WasPerformed number a start new) → IfSome landed (λ number. (after ≡ before ++ (record { server = a.server; number = number }) ∷ []) ⊎ (after ≡ before)) → IfNone landed (after ≡ before) → TellsPerformed start (a ∷ []) before after
told_or_not start new a None before after was told untold = none_told start (a ∷ []) before after untold
told_or_not start new a (Some number) before after was (inl told) untold = one_told start new a number before after was told
told_or_not start new a (Some number) before after was (inr same) untold = none_told start (a ∷ []) before after same

module _ (start mid : HubView) (cs ds : List Arrival) (run : Runs start cs [] mid) where
  earlier : (p : Performed) → IsDoneBy start cs p → IsDoneBy start (cs ++ ds) p
  earlier p h = record { arrival = h.arrival; one = Contains-append_left cs ds h.arrival h.one; server = h.server; before = h.before; old = h.old; so_far = h.so_far; new = h.new; performed = h.performed }

  later : (p : Performed) → IsDoneBy mid ds p → IsDoneBy start (cs ++ ds) p
  later p h = record { arrival = h.arrival; one = Contains-append_right cs ds h.arrival h.one; server = h.server; before = cs ++ h.before; old = h.old; so_far = joined start mid h.old cs h.before [] [] run h.so_far; new = h.new; performed = h.performed }

  pub told_on : (before now after : List Performed) → TellsPerformed start cs before now → TellsPerformed mid ds now after → TellsPerformed start (cs ++ ds) before after
  told_on before now after h k =
      let all = IsDoneBy start (cs ++ ds) in
      record {
        more = h.more ++ k.more;
        are = k.are ∙ ap (λ t. t ++ k.more) h.are ∙ append_assoc before h.more k.more;
        each = All-append all h.more k.more (All-weaker (IsDoneBy start cs) all earlier h.more h.each) (All-weaker (IsDoneBy mid ds) all later k.more k.each);
      }

-- behind a run without arrivals
pub told_behind : (start mid : HubView) (ds : List Arrival) (before after : List Performed) → Runs start [] [] mid → TellsPerformed mid ds before after → TellsPerformed start ds before after
told_behind start mid ds before after run k = told_on start mid [] ds run before before after (none_told start [] before before refl) k

-- ---- marks

pub none_marked : (v : HubView) (before after : List Marked) → after ≡ before → TellsMarks v before after
none_marked v before after e = record { more = []; are = e ∙ sym (append-nil before); each = All-nil (IsMarkedSo v) }

is_told_so : (v : HubView) (server : ServerId) (was is : Bool) → is ≡ is_marked v server → All (IsMarkedSo v) (told_of server was is)
is_told_so v server true true so = All-nil (IsMarkedSo v)
is_told_so v server true false so = All-cons (IsMarkedSo v) (record { server = server; is_marked = false }) [] so (All-nil (IsMarkedSo v))
is_told_so v server false true so = All-cons (IsMarkedSo v) (record { server = server; is_marked = true }) [] so (All-nil (IsMarkedSo v))
is_told_so v server false false so = All-nil (IsMarkedSo v)

-- a server's mark is told where it was told otherwise, or there is no memory for that
pub one_marked : {T E : Type 0} (v : HubView) (server : ServerId) (was is : Bool) (r : Result T E) (before after : List Marked) → is ≡ is_marked v server → OnOk r (after ≡ before ++ told_of server was is) → OnErr r (after ≡ before) → TellsMarks v before after
one_marked v server was is (Ok x) before after so told untold = record { more = told_of server was is; are = told; each = is_told_so v server was is so }
one_marked v server was is (Err e) before after so told untold = none_marked v before after untold

pub marked_on : (v : HubView) (before now after : List Marked) → TellsMarks v before now → TellsMarks v now after → TellsMarks v before after
marked_on v before now after h k = record {
  more = h.more ++ k.more;
  are = k.are ∙ ap (λ t. t ++ k.more) h.are ∙ append_assoc before h.more k.more;
  each = All-append (IsMarkedSo v) h.more k.more h.each k.each;
}
