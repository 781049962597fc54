-- A located value as a place, one level at a time, and where it stands.
use Rattle.std.proofs.Common.{◌≡◌, ◌∙◌, ◌<◌, ◌+◌, ℕ, List, ◌∷◌, drop, get_or, length, String, Vec, Global, Some, ap, rules, string_bytes, subst, sym}
use Rattle.std.proofs.lemmas.List.{drop_more}
use Rattle.serde_json.specs.Data.{string}
use Rattle.serde_json.specs.Read.{read}
use Rattle.mcv_spans.specs.Place.{Place, array, items_view, member_view, members_view, object, other, span_of, text, view}
use Rattle.mcv_spans.specs.Stands.{IsBetween, IsWithin, IsWord, ItemsStand, MembersStand, StandsIn, bytes_at}
use Rattle.mcv_spans.specs.declared.value.Span.{Span}
use Rattle.mcv_spans.specs.declared.value.Member.{Member, out-Member}
use Rattle.mcv_spans.specs.declared.value.Located.{Located, Array, Object, Other, Text, the_lemmas}

pub view-Object : (span : Span) (v : Vec Member Global) → view (Object span v) ≡ object span (members_view v.items)
view-Object span v = search (rules, the_lemmas)

pub view-Array : (span : Span) (v : Vec Located Global) → view (Array span v) ≡ array span (items_view v.items)
view-Array span v = search (rules, the_lemmas)

pub view-Text : (span : Span) (body : String Global) → view (Text span body) ≡ text span (string_bytes body)
view-Text span body = search (rules, the_lemmas)

pub view-Other : (span : Span) → view (Other span) ≡ other span
view-Other span = search (rules, the_lemmas)

pub member_view-out : (m : Member) → member_view m ≡ (string_bytes (out-Member m).name, view (out-Member m).value)
member_view-out m = search (rules, the_lemmas)

-- one more item stands, where the rest does behind it
pub items_on : (bytes : List ℕ) (from to : ℕ) (items : List Located) (i : ℕ) (p : Located) (end : ℕ) → i < length items → p ≡ get_or items i p → StandsIn bytes from to (view p)
    → end ≡ (span_of (view p)).end → ItemsStand bytes end to (items_view (drop (i + 1) items)) → ItemsStand bytes from to (items_view (drop i items))
items_on bytes from to items i p end more is stands ends rest =
    let shape : drop i items ≡ p ∷ drop (i + 1) items = drop_more items i p more ∙ ap (λ (x : Located). x ∷ drop (i + 1) items) (sym is) in
    subst (λ (ps : List Located). ItemsStand bytes from to (items_view ps)) (sym shape)
    (stands, subst (λ (n : ℕ). ItemsStand bytes n to (items_view (drop (i + 1) items))) ends rest)

-- ---- a value of each kind stands, where what it is made of does

pub object_stands : (bytes : List ℕ) (from to : ℕ) (value : Located) (s at : Span) (v : Vec Member Global) (ms : List Member) (inner : List ℕ) → value ≡ Object s v → at ≡ span_of (view value)
    → IsWithin from to at → inner ≡ bytes_at bytes at → ms ≡ v.items → IsBetween 123 125 inner × MembersStand bytes at.start at.end (members_view ms) → StandsIn bytes from to (view value)
object_stands bytes from to value s at v ms inner is spans within cut same stand =
    let shape : view value ≡ object s (members_view v.items) = ap view is ∙ view-Object s v in
    let here : at ≡ s = spans ∙ ap span_of shape in
    subst (λ (p : Place). StandsIn bytes from to p) (sym shape) (
      subst (IsWithin from to) here within,
      subst (IsBetween 123 125) (cut ∙ ap (bytes_at bytes) here) stand.0,
      subst (λ (x : Span). MembersStand bytes x.start x.end (members_view v.items)) here
          (subst (λ (xs : List Member). MembersStand bytes at.start at.end (members_view xs)) same stand.1),
    )

pub list_stands : (bytes : List ℕ) (from to : ℕ) (value : Located) (s at : Span) (v : Vec Located Global) (ps : List Located) (inner : List ℕ) → value ≡ Array s v → at ≡ span_of (view value)
    → IsWithin from to at → inner ≡ bytes_at bytes at → ps ≡ v.items → IsBetween 91 93 inner × ItemsStand bytes at.start at.end (items_view ps) → StandsIn bytes from to (view value)
list_stands bytes from to value s at v ps inner is spans within cut same stand =
    let shape : view value ≡ array s (items_view v.items) = ap view is ∙ view-Array s v in
    let here : at ≡ s = spans ∙ ap span_of shape in
    subst (λ (p : Place). StandsIn bytes from to p) (sym shape) (
      subst (IsWithin from to) here within,
      subst (IsBetween 91 93) (cut ∙ ap (bytes_at bytes) here) stand.0,
      subst (λ (x : Span). ItemsStand bytes x.start x.end (items_view v.items)) here
          (subst (λ (xs : List Located). ItemsStand bytes at.start at.end (items_view xs)) same stand.1),
    )

pub text_stands : (bytes : List ℕ) (from to : ℕ) (value : Located) (s at : Span) (b : String Global) (body inner : List ℕ) → value ≡ Text s b → at ≡ span_of (view value)
    → IsWithin from to at → inner ≡ bytes_at bytes at → body ≡ string_bytes b → read inner ≡ Some (string body) → StandsIn bytes from to (view value)
text_stands bytes from to value s at b body inner is spans within cut same reads =
    let shape : view value ≡ text s (string_bytes b) = ap view is ∙ view-Text s b in
    let here : at ≡ s = spans ∙ ap span_of shape in
    subst (λ (p : Place). StandsIn bytes from to p) (sym shape) (
      subst (IsWithin from to) here within,
      ap read (sym (cut ∙ ap (bytes_at bytes) here)) ∙ (reads ∙ ap (λ xs. Some (string xs)) same),
    )

pub word_stands : (bytes : List ℕ) (from to : ℕ) (value : Located) (s at : Span) (inner : List ℕ) → value ≡ Other s → at ≡ span_of (view value) → IsWithin from to at
    → inner ≡ bytes_at bytes at → IsWord (read inner) → StandsIn bytes from to (view value)
word_stands bytes from to value s at inner is spans within cut reads =
    let shape : view value ≡ other s = ap view is ∙ view-Other s in
    let here : at ≡ s = spans ∙ ap span_of shape in
    subst (λ (p : Place). StandsIn bytes from to p) (sym shape) (
      subst (IsWithin from to) here within,
      subst (λ (xs : List ℕ). IsWord (read xs)) (cut ∙ ap (bytes_at bytes) here) reads,
    )
