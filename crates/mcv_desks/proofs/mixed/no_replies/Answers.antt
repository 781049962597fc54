use Rattle.std.proofs.Common.{◌≡◌, ◌++◌, ◌∷◌, [], ℕ, List, Option, None, Some, arith, length, refl, rules, slice_get, subst, sym}
use Rattle.std.proofs.lemmas.Grind.{common_steps}
use Rattle.mcv_base.specs.declared.reply.Part.{Part}
use Rattle.mcv_desks.proofs.KeysOfHubs.{at_push, no_item}
use Rattle.mcv_desks.proofs.mixed.no_replies.Goals as goal

pub loop-key-init : goal.loop-key-init
loop-key-init c = record {
  many = search rules;
  none = λ key reply there. no_item c.in_ok-replies.replies.items key reply (search rules) there;
}

pub loop-key-preserved : goal.loop-key-preserved
loop-key-preserved c =
    let P : ℕ → Option Part → Type 0 = λ k o. o ≡ None in
    let before = c.loop-key.replies.items in
    let items : c.push.new.self.items ≡ before ++ None ∷ [] = c.in_ok-push.ensures.items in
    let len : length before ≡ c.loop-key._key = search rules in
    let Q : List (Option Part) → Type 0 = λ xs. (k : ℕ) (o : Option Part) → slice_get xs k ≡ Some o → P k o in
    record {
      many = grind (arith, common_steps);
      none = subst Q (sym items) (at_push P before c.loop-key._key None len c.loop-key.invariant.none refl);
    }

pub returns : goal.returns
returns c =
    let so_far = c.loop-key.invariant.many in
    record { many = search (rules, so_far); none = c.loop-key.invariant.none }
