-- A request of one key.
use Rattle.std.proofs.Common.{◌≡◌, ◌∙◌, ℕ, List, [], ◌∷◌, Bor, Vec, Global, None, Some, Result, Ok, Err, IfOk, ap, map, option_to_list, slice_get, sym}
use Rattle.std.specs.Arc.{arc_value}
use Rattle.std.specs.Slice.{IsItemAt}
use Rattle.std.proofs.lemmas.Option.{slice_get-map}
use Rattle.mcv_base.specs.declared.request.Ask.{Ask}
use Rattle.mcv_route.proofs.HandleChildren.{borrowed-at}
use Rattle.mcv_text.specs.Request.{asking}

abbrev bytes_of : Vec ℕ Global → List ℕ
bytes_of word = word.items

module _ (words : List (Vec ℕ Global)) (key : ℕ) where
  -- the word that is there
  pub one_word : {E : Type 0} (word : Bor (Vec ℕ Global)) (bytes : List ℕ) (r : Result (Vec (Vec ℕ Global) Global) E) → IsItemAt words key (Some word) → bytes ≡ word.now.items → IfOk r (λ v. map bytes_of v.items ≡ bytes ∷ [])
      → IfOk r (λ v. map bytes_of v.items ≡ option_to_list (slice_get (map bytes_of words) key))
  one_word word bytes (Ok v) there same is = is ∙ ap (λ x. x ∷ []) same ∙ ap option_to_list (borrowed-at bytes_of words key (Some word) there ∙ sym (slice_get-map bytes_of words key))
  one_word word bytes (Err fault) there same is = tt

  pub no_word : IsItemAt words key None → [] ≡ option_to_list (slice_get (map bytes_of words) key)
  no_word there = ap option_to_list (borrowed-at bytes_of words key None there ∙ sym (slice_get-map bytes_of words key))

-- with other words, and the body shared
pub with_words : (a : Ask) (words others : List (List ℕ)) (body : Vec ℕ Global) → words ≡ others → body ≡ arc_value a.body
    → asking (record { op = a.op; keys = words; flags = a.flags; exptime = a.exptime; body = body.items; cas = a.cas; delta = a.delta; noreply = a.noreply }) ≡ asking (record { op = a.op; keys = others; flags = a.flags; exptime = a.exptime; body = (arc_value a.body).items; cas = a.cas; delta = a.delta; noreply = a.noreply })
with_words a words others body same shared =
    ap (λ (ws : List (List ℕ)). asking (record { op = a.op; keys = ws; flags = a.flags; exptime = a.exptime; body = body.items; cas = a.cas; delta = a.delta; noreply = a.noreply })) same ∙ ap (λ (b : Vec ℕ Global). asking (record { op = a.op; keys = others; flags = a.flags; exptime = a.exptime; body = b.items; cas = a.cas; delta = a.delta; noreply = a.noreply })) shared
