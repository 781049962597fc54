-- What a change makes of a value is what it makes of the value behind a step, in its place.
use Rattle.std.proofs.Common.{◌≡◌, ◌∙◌, List, [], ◌∷◌, ◌++◌, Option, Some, None, ap, option_and_then, option_map, refl, subst, sym}
use Rattle.std.proofs.lemmas.List.{map-append}
use Rattle.serde_json.specs.Data.{Data, array, boolean, null, number, object, put, string}
use Rattle.serde_json.specs.Find.{get_item, get_member}
use Rattle.mcv_patch.specs.Child.{DiffersBehind}
use Rattle.mcv_patch.specs.Operations.{path_of, step_of}
use Rattle.mcv_patch.specs.declared.operation.Step as code
use Rattle.mcv_patch.specs.Patch.{Step, at_path, index, inside, key, with_item}

-- where a function makes `after` of `before`, the function at the step makes the new value of the old
pub behind : (s : Step) (f : Data → Option Data) (old new before after : Data) → DiffersBehind s old new before after → f before ≡ Some after → inside s f old ≡ Some new
behind (key k) f old new before after differs made = rw (differs.1, differs.2, made, differs.3) refl
behind (index i) f old new before after differs made = rw (differs.1, differs.2, made, differs.3) refl

-- the values at a path: what a function makes of the value there, it makes of the whole at the path
abbrev pub LeadsTo : (path : List Step) → (old new here there : Data) → Type 0
LeadsTo path old new here there = (f : Data → Option Data) → f here ≡ Some there → at_path path f old ≡ Some new

-- functions that make the same make the same behind a step
inside_same : (s : Step) (f g : Data → Option Data) → ((d : Data) → f d ≡ g d) → (d : Data) → inside s f d ≡ inside s g d
inside_same (key k) f g same null = refl
inside_same (key k) f g same (boolean b) = refl
inside_same (key k) f g same (number n) = refl
inside_same (key k) f g same (string text) = refl
inside_same (key k) f g same (array ds) = refl
inside_same (key k) f g same (object ms) = go (get_member k ms)
  where
    put_back : Data → Data
    put_back x = object (put k x ms)

    go : (o : Option Data) → option_and_then (λ c. option_map put_back (f c)) o ≡ option_and_then (λ c. option_map put_back (g c)) o
    go None = refl
    go (Some c) = ap (option_map put_back) (same c)
inside_same (index i) f g same null = refl
inside_same (index i) f g same (boolean b) = refl
inside_same (index i) f g same (number n) = refl
inside_same (index i) f g same (string text) = refl
inside_same (index i) f g same (array ds) = go (get_item i ds)
  where
    put_back : Data → Data
    put_back x = array (with_item i x ds)

    go : (o : Option Data) → option_and_then (λ c. option_map put_back (f c)) o ≡ option_and_then (λ c. option_map put_back (g c)) o
    go None = refl
    go (Some c) = ap (option_map put_back) (same c)
inside_same (index i) f g same (object ms) = refl

one_more : (path : List Step) (s : Step) (f : Data → Option Data) (d : Data) → at_path (path ++ s ∷ []) f d ≡ at_path path (inside s f) d
one_more [] s f d = refl
one_more (t ∷ path) s f d = inside_same t (at_path (path ++ s ∷ []) f) (at_path path (inside s f)) (one_more path s f) d

pub leads_nowhere : (old new : Data) → LeadsTo [] old new old new
leads_nowhere old new f made = made

pub leads_on : (path : List Step) (s : Step) (old new here there before after : Data) → LeadsTo path old new here there → DiffersBehind s here there before after
    → LeadsTo (path ++ s ∷ []) old new before after
leads_on path s old new here there before after leads differs f made =
    one_more path s f old ∙ leads (inside s f) (behind s f here there before after differs made)

-- the same of the code's path, grown by a step
pub step_on : (path grown : List code.Step) (s : code.Step) (old new here there before after : Data) → grown ≡ path ++ s ∷ [] → LeadsTo (path_of path) old new here there
    → DiffersBehind (step_of s) here there before after → LeadsTo (path_of grown) old new before after
step_on path grown s old new here there before after grows leads differs =
    let is : path_of grown ≡ path_of path ++ step_of s ∷ [] = ap path_of grows ∙ map-append step_of path (s ∷ []) in
    subst (λ (steps : List Step). LeadsTo steps old new before after) (sym is) (leads_on (path_of path) (step_of s) old new here there before after leads differs)
