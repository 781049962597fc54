-- The value of a text is that of what it is without its comments.
use Rattle.std.proofs.Common.{◌≡◌, ◌∙◌, List, None, Option, Some, ap, subst, sym, ℕ}
use Rattle.std.specs.Prelude.{Err, IfOk, MatchOption, Ok, Result}
use Rattle.std.specs.declared.alloc.AllocError.{AllocError}
use Rattle.serde_json.specs.Data.{Data}
use Rattle.serde_json.specs.Read.{read}
use Rattle.serde_json.specs.View.{view}
use Rattle.serde_json.specs.declared.value.Value.{Value}
use Rattle.mcv_comments.specs.Comments.{Strips}
use Rattle.mcv_comments.proofs.OneReading.{strips_one}
use Rattle.mcv_places.specs.Document.{HasNoDocument, IsDocument, IsNoJson, IsValueOf}

pub document_of_json : (text json : List ℕ) (r : Result (Option Value) AllocError) → Strips text json → ((other : List ℕ) → Strips text other → other ≡ json)
    → IfOk r (λ found. MatchOption found (IsNoJson json) (λ value. IsValueOf json (view value)))
    → IfOk r (λ found. MatchOption found (HasNoDocument text) (λ value. IsDocument text (view value)))
document_of_json text json (Err e) strips one read = tt
document_of_json text json (Ok None) strips one read = λ d document. read d (subst (λ (other : List ℕ). IsValueOf other d) (one document.0 document.1) document.2)
document_of_json text json (Ok (Some value)) strips one read = (json, strips, read)

-- a text has one value
pub document_once : (text : List ℕ) (d e : Data) → IsDocument text d → IsDocument text e → d ≡ e
document_once text d e one other = inside d e (sym one.2.1 ∙ (ap read (strips_one text one.0 other.0 one.1 other.1) ∙ other.2.1))
  where
    inside : (x y : Data) → Some x ≡ Some y → x ≡ y
    inside x y same = cc
