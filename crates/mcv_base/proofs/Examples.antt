-- The definitions at small words.
use Rattle.std.proofs.Common.{◌≡◌, ◌<◌, [], true, false, Some, None, refl, codes, lit<}
use Rattle.std.proofs.lemmas.List.Elements.{All-cons, All-nil}
use Rattle.mcv_base.specs.declared.operation.Op.TheVariants.{Get, Gets, Set, Add, Delete, Touch, Incr, Decr}
use Rattle.mcv_base.specs.Reply.{may_answer, hit, miss, exists, not_found, number, fault}
use Rattle.mcv_base.specs.Key.{IsCut, IsHashedCut, IsName, IsRest, IsRoutingPrefix, IsKeyFault, default_prefix, hashed_part, is_key_word}
use Rattle.mcv_base.specs.Position.{position_text}
use Rattle.mcv_base.specs.Server.{is_host, is_port, is_server}
use Rattle.mcv_base.specs.declared.key.KeyFault.TheVariants.{NoRest}
use Rattle.mcv_base.proofs.HashedPart.{hashed_is_cut, one_hashed_cut}
use Rattle.mcv_base.proofs.Prefixes.{unrouted_by_byte}

a_name : IsName (codes "a")
a_name = record { some = λ e. cc; no_slash = refl }

b_name : IsName (codes "b")
b_name = record { some = λ e. cc; no_slash = refl }

a_and_b : IsRoutingPrefix (codes "/a/b/")
a_and_b = record { first = codes "a"; second = codes "b"; first_is = a_name; second_is = b_name; is = refl }

-- what follows the third slash is the rest, further slashes too
routed : IsCut (codes "/a/b/c/d") (codes "/a/b/") (codes "c/d")
routed = IsCut.routed a_and_b refl

plain : IsCut (codes "a") default_prefix (codes "a")
plain = IsCut.unrouted (unrouted_by_byte 97 [] (λ e. cc)) refl refl

nothing_behind_the_prefix : IsKeyFault (codes "/a/b/") NoRest
nothing_behind_the_prefix = (refl, a_and_b)

before_the_separator : hashed_part (codes "ab|#|c") ≡ codes "ab"
before_the_separator = refl

separator_in_front : hashed_part (codes "|#|c") ≡ []
separator_in_front = refl

first_of_two : hashed_part (codes "a|#|b|#|c") ≡ codes "a"
first_of_two = refl

no_separator : hashed_part (codes "ab|#c") ≡ codes "ab|#c"
no_separator = refl

cut_before_the_first : IsHashedCut (codes "a|#|b|#|c") (codes "a")
cut_before_the_first = hashed_is_cut (codes "a|#|b|#|c")

not_before_the_second : IsHashedCut (codes "a|#|b|#|c") (codes "a|#|b") → ⊥
not_before_the_second cut =
    let same : codes "a" ≡ codes "a|#|b" = one_hashed_cut (codes "a|#|b|#|c") (codes "a") (codes "a|#|b") cut_before_the_first cut in
    cc

a_blank_is_no_key_byte : is_key_word (codes "a b") ≡ false
a_blank_is_no_key_byte = refl

a_is_a_rest : IsRest (codes "a")
a_is_a_rest = record { key = refl; bytes = All-cons (λ b. b < 256) 97 [] (lit< tt) (All-nil (λ b. b < 256)) }

-- replies and operations
number_for_gets : may_answer Gets (hit 0 (Some 7) (codes "x")) ≡ true
number_for_gets = refl

no_number_for_get : may_answer Get (hit 0 (Some 7) (codes "x")) ≡ false
no_number_for_get = refl

no_number_missing_for_gets : may_answer Gets (hit 0 None (codes "x")) ≡ false
no_number_missing_for_gets = refl

miss_for_a_delete : may_answer Delete miss ≡ false
miss_for_a_delete = refl

not_found_for_a_delete : may_answer Delete not_found ≡ true
not_found_for_a_delete = refl

not_found_for_a_set : may_answer Set not_found ≡ false
not_found_for_a_set = refl

exists_for_an_add : may_answer Add exists ≡ false
exists_for_an_add = refl

number_for_an_incr : may_answer Incr (number 6) ≡ true
number_for_an_incr = refl

no_number_for_a_touch : may_answer Touch (number 6) ≡ false
no_number_for_a_touch = refl

not_found_for_a_decr : may_answer Decr not_found ≡ true
not_found_for_a_decr = refl

miss_for_an_incr : may_answer Incr miss ≡ false
miss_for_an_incr = refl

fault_for_a_delete : may_answer Delete (fault (codes "ERROR")) ≡ true
fault_for_a_delete = refl

root : position_text [] ≡ codes "-"
root = refl

least_port : is_server (codes "a:1") ≡ true
unfolding is_server is_host is_port
least_port = refl

greatest_port : is_server (codes "[::1]:65535") ≡ true
unfolding is_server is_host is_port
greatest_port = refl

port_too_great : is_server (codes "a:65536") ≡ false
unfolding is_server is_host is_port
port_too_great = refl

leading_zero : is_server (codes "a:01") ≡ false
unfolding is_server is_host is_port
leading_zero = refl

three_parts : is_server (codes "a:1:ascii") ≡ false
unfolding is_server is_host is_port
three_parts = refl

open_colons : is_server (codes "::1:11211") ≡ false
unfolding is_server is_host is_port
open_colons = refl
