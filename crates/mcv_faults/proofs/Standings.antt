-- What is said of the value at fault, by the value that the text is.
use Rattle.std.proofs.Common.{◌≡◌, ◌∙◌, List, None, Option, Some, ap, option_map, refl, ℕ}
use Rattle.std.specs.Prelude.{IfSome}
use Rattle.serde_json.specs.Data.{Data}
use Rattle.mcv_places.proofs.Documents.{document_once}
use Rattle.mcv_places.specs.Document.{HasNoDocument, IsDocument}
use Rattle.mcv_faults.specs.TextPlace.{IsPlaceAt, IsSaidAt, StandsAt, StandsIn, at_fault, text_at_fault}
use Rattle.mcv_faults.specs.declared.place.TextPlace.{TextPlace}

pub said_in : (text path : List ℕ) (said : Option (List ℕ)) (d : Data) → IsDocument text d → said ≡ text_at_fault path d → IsSaidAt text path said
said_in text path said d document is = record {
  of_value = λ e other. is ∙ ap (text_at_fault path) (document_once text d e document other);
  of_none = λ none. absurd (none d document);
}

pub said_of_none : (text path : List ℕ) → HasNoDocument text → IsSaidAt text path None
said_of_none text path none = record {
  of_value = λ d document. absurd (none d document);
  of_none = λ none. refl;
}

pub place_in : (text path : List ℕ) (place : Option TextPlace) (d : Data) → IsDocument text d → IfSome place (λ p. StandsIn text (at_fault path d) (p.line, p.column))
    → IsPlaceAt text path (option_map (λ p. (p.line, p.column)) place)
place_in text path None d document stands = tt
place_in text path (Some p) d document stands = (d, document, stands)

pub place_of_found : (text : List ℕ) (place : Option TextPlace) (found : Option Data) (v : Data) → found ≡ Some v → IfSome place (λ p. StandsAt text (p.line, p.column) v)
    → IfSome place (λ p. StandsIn text found (p.line, p.column))
place_of_found text None found v is stands = tt
place_of_found text (Some p) found v is stands = (v, is, stands)
