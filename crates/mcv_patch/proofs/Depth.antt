-- How deep what is in objects and lists nests, and what is put into them.
use Rattle.std.proofs.Common.{◌≡◌, ◌≤◌, ℕ, zero, suc, List, Ordering, Less, Equal, Greater, Some, arith, max, nat_cmp, subst}
use Rattle.std.proofs.Math.Nat.{le-max_left, le-max_right, max-le}
use Rattle.std.specs.Cmp.Lexicographic.{slice_cmp}
use Rattle.std.specs.Ordering.{match_ordering}
use Rattle.serde_json.specs.Data.{Data, Items, Members, depth, item, items_depth, member, members_depth, no_items, no_members, put}
use Rattle.serde_json.specs.Find.{get_item, get_member}
use Rattle.mcv_patch.specs.Patch.{with_item}

inside : (a b : Data) → Some a ≡ Some b → a ≡ b
inside a b is = cc

first_within : (a b m : ℕ) → max a b ≤ m → a ≤ m
first_within a b m within = omega (arith, le-max_left a b)

second_within : (a b m : ℕ) → max a b ≤ m → b ≤ m
second_within a b m within = omega (arith, le-max_right a b)

pub member_within : (k : List ℕ) (ms : Members) (d : Data) (m : ℕ) → get_member k ms ≡ Some d → members_depth ms ≤ m → depth d ≤ m
member_within k no_members d m is within = absurd (cc)
member_within k (member l x ms) d m is within =
    go (slice_cmp nat_cmp k l) (λ there. member_within k ms d m there (second_within (depth x) (members_depth ms) m within)) is
  where
    go : (o : Ordering) → (get_member k ms ≡ Some d → depth d ≤ m) → match_ordering o (get_member k ms) (Some x) (get_member k ms) ≡ Some d → depth d ≤ m
    go Less more there = more there
    go Equal more there = subst (λ (y : Data). depth y ≤ m) (inside x d there) (first_within (depth x) (members_depth ms) m within)
    go Greater more there = more there

pub put_within : (k : List ℕ) (d : Data) (ms : Members) (m : ℕ) → depth d ≤ m → members_depth ms ≤ m → members_depth (put k d ms) ≤ m
put_within k d no_members m deep within = max-le deep within
put_within k d (member l x ms) m deep within =
    go (slice_cmp nat_cmp k l) (put_within k d ms m deep (second_within (depth x) (members_depth ms) m within))
  where
    go : (o : Ordering) → members_depth (put k d ms) ≤ m → members_depth (match_ordering o (member k d (member l x ms)) (member l d ms) (member l x (put k d ms))) ≤ m
    go Less more = max-le deep within
    go Equal more = max-le deep (second_within (depth x) (members_depth ms) m within)
    go Greater more = max-le (first_within (depth x) (members_depth ms) m within) more

pub item_within : (n : ℕ) (ds : Items) (d : Data) (m : ℕ) → get_item n ds ≡ Some d → items_depth ds ≤ m → depth d ≤ m
item_within n no_items d m is within = absurd (cc)
item_within zero (item x ds) d m is within = subst (λ (y : Data). depth y ≤ m) (inside x d is) (first_within (depth x) (items_depth ds) m within)
item_within (suc n) (item x ds) d m is within = item_within n ds d m is (second_within (depth x) (items_depth ds) m within)

pub with_item_within : (n : ℕ) (d : Data) (ds : Items) (m : ℕ) → depth d ≤ m → items_depth ds ≤ m → items_depth (with_item n d ds) ≤ m
with_item_within n d no_items m deep within = within
with_item_within zero d (item x ds) m deep within = max-le deep (second_within (depth x) (items_depth ds) m within)
with_item_within (suc n) d (item x ds) m deep within =
    max-le (first_within (depth x) (items_depth ds) m within) (with_item_within n d ds m deep (second_within (depth x) (items_depth ds) m within))
