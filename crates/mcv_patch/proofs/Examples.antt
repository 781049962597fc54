-- The definitions at the examples of RFC 6902, appendix A, and of RFC 6901, section 5.
use Rattle.std.proofs.Common.{◌≡◌, [], ◌∷◌, None, Some, codes, refl}
use Rattle.serde_json.specs.Data.{Data, array, item, member, no_items, no_members, object, string}
use Rattle.mcv_patch.specs.Patch.{add, index, key, patched, patched_by, replace}
use Rattle.mcv_patch.specs.Pointer.{pointer, pointer_char}

-- {"foo": "bar"}
abbrev foo : Data
foo = object (member (codes "foo") (string (codes "bar")) no_members)

-- {"baz": .., "foo": "bar"}
abbrev baz : Data → Data
baz d = object (member (codes "baz") d (member (codes "foo") (string (codes "bar")) no_members))

-- A.1: an object's member is added
added : patched (add [] (codes "baz") (string (codes "qux"))) foo ≡ Some (baz (string (codes "qux")))
added = refl

-- A.5: a value is replaced
replaced : patched (replace (key (codes "baz") ∷ []) (string (codes "boo"))) (baz (string (codes "qux"))) ≡ Some (baz (string (codes "boo")))
replaced = refl

-- A.12: nothing is there to which a member could be added
no_target : patched (add (key (codes "baz") ∷ []) (codes "bat") (string (codes "qux"))) foo ≡ None
no_target = refl

-- {"foo": [.., "b"]}
abbrev list : Data → Data
list d = object (member (codes "foo") (array (item d (item (string (codes "b")) no_items))) no_members)

item_replaced : patched (replace (key (codes "foo") ∷ index 0 ∷ []) (string (codes "c"))) (list (string (codes "a"))) ≡ Some (list (string (codes "c")))
item_replaced = refl

-- a list has no item behind its last
no_item : patched (replace (key (codes "foo") ∷ index 2 ∷ []) (string (codes "c"))) (list (string (codes "a"))) ≡ None
no_item = refl

one_after_the_other : patched_by (add [] (codes "baz") (string (codes "qux")) ∷ replace (key (codes "baz") ∷ []) (string (codes "boo")) ∷ []) foo ≡ Some (baz (string (codes "boo")))
one_after_the_other = refl

whole : pointer [] ≡ codes ""
whole = refl

-- `a/b` is written `a~1b`, and `m~n` is written `m~0n`
slash : pointer_char 47 ≡ codes "~1"
slash = refl

tilde : pointer_char 126 ≡ codes "~0"
tilde = refl
