-- The root of a heap is its least number.
use Rattle.std.proofs.Common.{◌≡◌, ℕ, zero, suc, ◌<◌, ◌≤◌, Bool, true, Option, Some, None, ap, ◌∙◌, arith}
use Rattle.std.proofs.lemmas.Bool.{leb-true, le-leb}
use Rattle.mcv_queues.specs.declared.rows.Link.{Link}
use Rattle.mcv_queues.specs.Numbers.{is_up_to, IsLeast}
use Rattle.mcv_queues.specs.Forest.{IsForest}
use Rattle.mcv_queues.proofs.Places.{Placed, is_first, is_second, is_third, hangs, place, none_some}

pub up_more : (a : Option ℕ) (p n : ℕ) → is_up_to a p ≡ true → p ≤ n → is_up_to a n ≡ true
up_more None p n e h = absurd (cc)
up_more (Some t) p n e h = le-leb t n (omega (arith, leb-true t p e, h))

pub up_self : (a : Option ℕ) (n : ℕ) → a ≡ Some n → is_up_to a n ≡ true
up_self a n e = ap (λ o. is_up_to o n) e ∙ le-leb n n (omega arith)

pub least_below : (w : ℕ → Bool) (f : ℕ → Option Link) (a : Option ℕ) → IsForest w f a None None → (b n : ℕ) → n < b → w n ≡ true → is_up_to a n ≡ true
least_below w f a i zero n lt h = absurd (omega (arith, lt))
least_below w f a i (suc b) n lt h = by_place (least_below w f a i b) (place w f a None None n i h)
  where
    by_place : ((m : ℕ) → m < b → w m ≡ true → is_up_to a m ≡ true) → Placed w f a None None n → is_up_to a n ≡ true
    by_place ih (is_first e) = up_self a n e
    by_place ih (is_second e) = absurd (none_some e)
    by_place ih (is_third e) = absurd (none_some e)
    by_place ih (hangs p e q l s) = up_more a p n (ih p (omega (arith, l, lt)) q) (omega (arith, l))

pub root_least : (w : ℕ → Bool) (f : ℕ → Option Link) (a : Option ℕ) → IsForest w f a None None → IsLeast w a
root_least w f a i = record { there = λ m e. (i.first m e).0; least = λ n h. least_below w f a i (suc n) n (omega arith) h }
