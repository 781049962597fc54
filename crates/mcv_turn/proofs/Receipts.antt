-- Receipts of one chapter and of later ones.
use Rattle.std.proofs.Common.{◌≡◌, ◌∙◌, ◌≤◌, ◌++◌, ℕ, List, [], ◌∷◌, true, nat_le, refl, sym, ap, append-nil, append_assoc, arith}
use Rattle.std.specs.List.{All, filter}
use Rattle.std.proofs.lemmas.Bool.Decides.{nat_tests}
use Rattle.std.proofs.lemmas.List.Sums.{fold_push}
use Rattle.std.proofs.lemmas.List.Elements.{All-head, All-tail, All-weaker, filter_passes}
use Rattle.mcv_hub.specs.declared.receipts.Receipt.{Receipt}
use Rattle.mcv_hub.specs.declared.seat.TakenReply.{TakenReply}
use Rattle.mcv_turn.specs.Answers.{KeepsMore, with_receipt}

le_is_true : (a b : ℕ) → a ≤ b → nat_le a b ≡ true
le_is_true a b h = grind (arith, nat_tests)

true_is_le : (a b : ℕ) → nat_le a b ≡ true → a ≤ b
true_is_le a b h = grind (arith, nat_tests)

-- where none is of an earlier chapter, none goes
pub none_goes : (c m : ℕ) (xs : List Receipt) → All (λ r. m ≤ r.chapter) xs → c ≤ m → filter (λ r. nat_le c r.chapter) xs ≡ xs
none_goes c m [] h low = refl
none_goes c m (x ∷ xs) h low =
    let P : Receipt → Type 0 = λ r. m ≤ r.chapter in
    let head : m ≤ x.chapter = All-head P x xs h in
    let t : nat_le c x.chapter ≡ true = le_is_true c x.chapter (omega arith) in
    let rest = none_goes c m xs (All-tail P x xs h) low in
    rw t (ap (λ ys. x ∷ ys) rest)

-- none of those that stay is of an earlier chapter
pub all_current : (c : ℕ) (xs : List Receipt) → All (λ r. c ≤ r.chapter) (filter (λ r. nat_le c r.chapter) xs)
all_current c xs =
    let P : Receipt → Type 0 = λ r. nat_le c r.chapter ≡ true in
    let Q : Receipt → Type 0 = λ r. c ≤ r.chapter in
    All-weaker P Q (λ x t. true_is_le c x.chapter t) (filter (λ r. nat_le c r.chapter) xs) (filter_passes (λ r. nat_le c r.chapter) xs)

-- replies that are taken, and their receipts

pub keeps_none : (old : List Receipt) (before : List TakenReply) → KeepsMore old old before before
keeps_none old before = record { more = []; are = sym (append-nil before); kept = refl }

pub keeps_one : (old now new : List Receipt) (first before after : List TakenReply) (t : TakenReply) → KeepsMore old now first before → after ≡ before ++ t ∷ [] → new ≡ with_receipt now t → KeepsMore old new first after
keeps_one old now new first before after t h e k = record {
  more = h.more ++ t ∷ [];
  are = e ∙ ap (λ x. x ++ t ∷ []) h.are ∙ append_assoc first h.more (t ∷ []);
  kept = k ∙ ap (λ x. with_receipt x t) h.kept ∙ sym (fold_push with_receipt old h.more t);
}
