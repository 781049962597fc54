use Rattle.std.proofs.Common.{◌≡◌, ◌++◌, ℕ, List, [], ◌∷◌, length, flat_map, append-nil, ap, arith, refl, sym, ◌∙◌, rules, subst}
use Rattle.std.proofs.lemmas.Str.{IsUtf8-past_char, chars-nil, chars_past_char}
use Rattle.std.specs.Str.{IsUtf8, chars}
use Rattle.std.specs.Str.Iter.{chars_rest}
use Rattle.mcv_patch.specs.Pointer.{pointer_char}
use Rattle.mcv_patch.proofs.Pieces.{one_more_piece}
use Rattle.mcv_patch.proofs.pointer.push_key.Goals as goal

pub loop-c-init : goal.loop-c-init
loop-c-init c =
    let whole : chars_rest c.into_iter-c-iterator.result ≡ c.args.key.now = search rules in
    record { text = subst IsUtf8 (sym whole) c.utf8.key; leads = rw whole refl }

pub loop-c-preserved : goal.loop-c-preserved
loop-c-preserved c = record {
  text = IsUtf8-past_char _ _ _ c.loop-c.invariant.text c.in-Some.ensures.steps.0;
  leads =
      one_more_piece _ _ (pointer_char c.in-Some.c) _ _ _ c.loop-c.invariant.leads
      (ap (flat_map pointer_char) (chars_past_char _ _ _ c.loop-c.invariant.text c.in-Some.ensures.steps.0))
      c.in_ok-push_char.ensures;
}

nothing_left : (text whole rest : List ℕ) → length rest ≡ 0 → text ++ flat_map pointer_char (chars rest) ≡ whole → text ≡ whole
nothing_left text whole [] none is = sym (append-nil text) ∙ (rw chars-nil at is)
nothing_left text whole (x ∷ rest) none is = absurd (omega arith)

pub returns : goal.returns
returns c = nothing_left _ _ _ c.in-None.ensures.steps.0.0 c.loop-c.invariant.leads
