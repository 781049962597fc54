-- The policies of the two handles that select: a route for each name, and one for all else (mcrouter wiki, PrefixSelectorRoute and OperationSelectorRoute).
use Rattle.std.specs.Prelude.{ℕ, List, [], ◌++◌, Option, Some, None, map}
use Rattle.serde_json.specs.Data.{Data, Members}
use Rattle.serde_json.specs.Find.{get, as_object}
use Rattle.mcv_names.specs.declared.fault.FaultKind.TheVariants.{WrongKind}
use Rattle.mcv_names.specs.declared.handle.Selector.{Selector}
use Rattle.mcv_names.specs.declared.handle.Selector.TheVariants as selectors
use Rattle.mcv_names.specs.Fault.{Read, good, refused, ◌>>=◌, also}
use Rattle.mcv_names.specs.Handles.{default_key, keys_read, name_fault, op_named, policies_key}
use Rattle.mcv_names.specs.Lists.{each_member}
use Rattle.mcv_names.specs.Path.{key_step}
use Rattle.mcv_config.specs.ConfigValue.{Named, PolicyValue, PrefixValue, last_of, nameds_of, operation_selector, prefix_selector}
use Rattle.mcv_config.specs.Walk.{SoFar, Reader}

-- the route of a name
unfoldable pub policy_read : Reader → SoFar → List ℕ → List ℕ → Data → Read (PrefixValue × SoFar)
policy_read reader w path name d = reader w path d >>= λ (x : Named × SoFar). good ((name, x.0), x.1)

abbrev pub policies_of_members : Selector → Reader → SoFar → List ℕ → Option Members → Read (List PrefixValue × SoFar)
policies_of_members selector reader w path None = refused WrongKind path
policies_of_members selector reader w path (Some ms) = also (keys_read (name_fault selector) path ms) (each_member (policy_read reader) w path ms)

-- no policies where there is no such key
abbrev pub policies_read : Selector → Reader → SoFar → List ℕ → Option Data → Read (List PrefixValue × SoFar)
policies_read selector reader w path None = good ([], w)
policies_read selector reader w path (Some d) = policies_of_members selector reader w path (as_object d)

-- no route for all else where there is no such key
abbrev pub default_read : Reader → SoFar → List ℕ → Option Data → Read (Option Named × SoFar)
default_read reader w path None = good (None, w)
default_read reader w path (Some d) = reader w path d >>= λ (x : Named × SoFar). good (Some x.0, x.1)

-- None is a name that no request has
abbrev pub of_operation : PrefixValue → PolicyValue
of_operation p = (op_named p.0, p.1)

abbrev pub by_prefix : List PrefixValue → Option Named → Named
by_prefix policies wildcard = prefix_selector (map (λ p. p.0) policies) (nameds_of (map (λ p. p.1) policies ++ last_of wildcard))

abbrev pub by_operation : List PolicyValue → Option Named → Named
by_operation policies default = operation_selector (map (λ p. p.0) policies) (nameds_of (map (λ p. p.1) policies ++ last_of default))

abbrev pub selecting : Selector → List PrefixValue → Option Named → Named
selecting selectors.Prefix policies default = by_prefix policies default
selecting selectors.Operation policies default = by_operation (map of_operation policies) default

-- the policies, and then the route for all else
unfoldable pub selector_fields : Selector → Reader → SoFar → List ℕ → Data → Read (Named × SoFar)
selector_fields selector reader w path d =
    policies_read selector reader w (key_step path (policies_key selector)) (get (policies_key selector) d) >>= λ (ps : List PrefixValue × SoFar).
    default_read reader ps.1 (key_step path (default_key selector)) (get (default_key selector) d) >>= λ (t : Option Named × SoFar).
    good (selecting selector ps.0 t.0, t.1)
