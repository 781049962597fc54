-- Pieces in a row, and readers that have failed.
use Rattle.std.proofs.Common.{◌≡◌, ◌≢◌, ◌∙◌, ℕ, ◌-◌, List, [], ◌∷◌, ◌++◌, length, map, Bool, true, false, ◌||◌, refl, sym, ap, subst, Result, if◌then◌else◌, arith, nat_lt, drop, ◌⊎◌, inl, inr}
use Rattle.std.specs.List.{list_any}
use Rattle.std.proofs.lemmas.List.{map-append}
use Rattle.std.proofs.lemmas.List.Folds.{list_any-append}
use Rattle.std.proofs.lemmas.Grind.{flat_map-append}
use Rattle.mcv_base.specs.Reply.{ReplyValue}
use Rattle.mcv_text.specs.Request.{RequestValue, ItemValue}
use Rattle.mcv_text.specs.Stream.{Awaits, Held, Skips, Failed, EndsRefused, IsEnding, Reads, followed}
use Rattle.mcv_session.specs.declared.desk.DeskFault.{DeskFault}
use Rattle.mcv_session.specs.declared.session.Flow.{Flow}
use Rattle.mcv_session.specs.declared.session.Flow.TheVariants.{GoesOn, Ends}
use Rattle.mcv_session.specs.Exchange.{item_of, text_of, texts_of, ends}
use Rattle.mcv_session.specs.Session.{Answers, Breaks, Serves, taken, flow_after}
use Rattle.mcv_session.proofs.Items.{chain_join, taken_on}

either_open : (b : Bool) (x y : Awaits) → x ≢ Failed → y ≢ Failed → (if b then x else y) ≢ Failed
either_open true x y p q = p
either_open false x y p q = q

followed_open : (from : Awaits) (piece : List ℕ) → from ≢ Failed → followed from piece ≢ Failed
followed_open (Held bytes) piece live = λ e. cc
followed_open (Skips n) piece live = either_open (nat_lt (length piece) n) (Skips (n - length piece)) (Held (drop n piece)) (λ e. cc) (λ e. cc)
followed_open Failed piece live = live

or_true : (b : Bool) → (b || true) ≡ true
or_true true = refl
or_true false = refl

pub or_false : (a b : Bool) → (a || b) ≡ false → (a ≡ false) × (b ≡ false)
or_false true b e = absurd (cc)
or_false false b e = (refl, e)

ending_ends : (item : ItemValue) → IsEnding item → ends item ≡ true
ending_ends item (inl is) = ap ends is
ending_ends item (inr is) = ap ends is

refused_ends : (items : List ItemValue) → EndsRefused items → list_any ends items ≡ true
refused_ends [] e = absurd e
refused_ends (item ∷ []) e = ap (λ b. b || false) (ending_ends item e)
refused_ends (item ∷ next ∷ items) e = ap (λ b. ends item || b) (refused_ends (next ∷ items) e) ∙ or_true (ends item)

flow_open : (b : Bool) → GoesOn ≡ (if b then Ends else GoesOn) → b ≡ false
flow_open true e = absurd (cc)
flow_open false e = refl

goes_on : (items : List ItemValue) → GoesOn ≡ flow_after items → list_any ends items ≡ false
goes_on items e = flow_open (list_any ends items) e

not_both : (b : Bool) → b ≡ true → b ≡ false → ⊥
not_both b p q = cc

-- a reader that hasn't failed goes on where no item ends the session
pub still_open : ((from : Awaits) (items : List ItemValue) → Reads from items Failed → (from ≡ Failed) ⊎ EndsRefused items) → (from to : Awaits) (piece : List ℕ) (items : List ItemValue)
    → from ≢ Failed → Reads (followed from piece) items to → GoesOn ≡ flow_after items → to ≢ Failed
still_open law from to piece items live reads flow = λ failed. elim (law (followed from piece) items (subst (Reads (followed from piece) items) failed reads)) [
  | inl e ↦ followed_open from piece live e
  | inr e ↦ not_both (list_any ends items) (refused_ends items e) (goes_on items flow)
]

pub taken_append : (xs ys : List ItemValue) → list_any ends xs ≡ false → taken (xs ++ ys) ≡ taken xs ++ taken ys
taken_append [] ys e = refl
taken_append (item ∷ xs) ys e =
    let both = or_false (ends item) (list_any ends xs) e in
    taken_on item (xs ++ ys) both.0 ∙ ap (λ t. item ∷ t) (taken_append xs ys both.1) ∙ ap (λ t. t ++ taken ys) (sym (taken_on item xs both.0))

flow_append : (xs ys : List ItemValue) → list_any ends xs ≡ false → flow_after (xs ++ ys) ≡ flow_after ys
flow_append xs ys e = ap (λ b. if b then Ends else GoesOn) (list_any-append ends xs ys ∙ ap (λ b. b || list_any ends ys) e)

module _ {D : Type 0} (asks : D → RequestValue → Result (List ReplyValue) DeskFault → D → Type 0) where
  answers_join : (old mid new : D) (xs ys : List ItemValue) (t u : List ℕ) (flow : Flow) → Answers asks old mid xs t GoesOn → Answers asks mid new ys u flow → Answers asks old new (xs ++ ys) (t ++ u) flow
  answers_join old mid new xs ys t u flow a b =
      let none = goes_on xs a.flow_is in
      record {
        log = a.log ++ b.log;
        takes = map-append item_of a.log b.log ∙ ap (λ l. l ++ map item_of b.log) a.takes ∙ ap (λ l. taken xs ++ l) b.takes ∙ sym (taken_append xs ys none);
        chain = chain_join asks old mid new a.log b.log a.chain b.chain;
        writes = ap (λ l. l ++ u) a.writes ∙ ap (λ l. texts_of a.log ++ l) b.writes ∙ sym (flat_map-append text_of a.log b.log);
        flow_is = b.flow_is ∙ sym (flow_append xs ys none);
      }

  pub serves_join : ((from mid to : Awaits) (a b : List ℕ) (xs ys : List ItemValue) → Reads (followed from a) xs mid → Reads (followed mid b) ys to → Reads (followed from (a ++ b)) (xs ++ ys) to)
      → (old mid new : D) (from s rest : Awaits) (a b t u : List ℕ) (flow : Flow) → Serves asks old mid from a t GoesOn s → Serves asks mid new s b u flow rest → Serves asks old new from (a ++ b) (t ++ u) flow rest
  serves_join law old mid new from s rest a b t u flow x y = record {
    items = x.items ++ y.items;
    reads = law from s rest a b x.items y.items x.reads y.reads;
    answers = answers_join old mid new x.items y.items t u flow x.answers y.answers;
  }

  -- memory ran out before a byte was read
  pub breaks_unread : (desk : D) (from : Awaits) (piece text : List ℕ) → text ≡ [] → Breaks asks desk desk from piece text
  breaks_unread desk from piece text none = record { items = []; reads = inl refl; answers = record { log = []; lost = []; few = omega arith; more = []; takes = refl; chain = refl; writes = none } }
