-- The list of the classes that have members, one word after another.
use Rattle.std.proofs.Common.{◌≡◌, ℕ, ◌+◌, ◌<◌, ◌≤◌, ◌⊎◌, inl, inr, List, [], ◌∷◌, ◌++◌, length, get_or, take, Option, Some, None, refl, sym, ap, ◌∙◌, subst, arith}
use Rattle.std.specs.Prelude.{is_some}
use Rattle.std.specs.List.{All, AllPairs, Contains}
use Rattle.std.proofs.lemmas.Bool.{false≢true}
use Rattle.std.proofs.lemmas.List.{get_or-take, get_or_default, length-take, take_all, take_more}
use Rattle.std.proofs.lemmas.List.Elements.{All-push, All-weaker, Contains-append_left, Contains-push, Contains-push_cases}
use Rattle.std.proofs.lemmas.List.Quantifiers.{all_pairs_push}
use Rattle.mcv_classes.specs.Class.{ClassValue, IsBefore, IsClassList, IsListed, IsMember}

-- ---- a word has one member

pub one-member : (words : List (List ℕ)) (word m n : List ℕ) → IsMember words word (Some m) → IsMember words word (Some n) → m ≡ n
one-member words [] m n a b =
    let low : a.0 ≤ b.0 = a.3 b.0 b.2 in
    let high : b.0 ≤ a.0 = b.3 a.0 a.2 in
    let same : a.0 ≡ b.0 = omega (arith, low, high) in
    a.1 ∙ ap (λ x. x ∷ []) same ∙ sym b.1
one-member words (x ∷ word) m n a b = a.0 ∙ sym b.0

pub some-or-none : (words : List (List ℕ)) (word m : List ℕ) → IsMember words word None → IsMember words word (Some m) → ⊥
some-or-none words [] m a b = a b.0 b.2
some-or-none words (x ∷ word) m a b = false≢true (sym a ∙ b.1)

-- ---- the classes of the first i words

pub record AreListed (table : List (List ℕ)) (i : ℕ) (classes : List ClassValue) : Type 0 where
  pub rising : AllPairs (λ a b. IsBefore a.word b.word) classes
  pub only : All (IsListed table) classes
  pub early : All (λ c. Contains (take i table) c.word) classes
  pub all : (class : ClassValue) → IsListed table class → Contains (take i table) class.word → Contains classes class

pub all-listed : (table : List (List ℕ)) (classes : List ClassValue) → AreListed table (length table) classes → IsClassList table classes
all-listed table classes h = record {
  rising = h.rising;
  only = h.only;
  all = λ class l. h.all class l (subst (λ ws. Contains ws class.word) (sym (take_all (length table) table (omega arith))) l.word);
}

module _ (table : List (List ℕ)) (i : ℕ) (classes : List ClassValue) (word : List ℕ) (inside : i < length table) (is : word ≡ get_or table i word) (so_far : AreListed table i classes) where
  more : take (i + 1) table ≡ take i table ++ word ∷ []
  more = take_more table i word inside ∙ ap (λ w. take i table ++ w ∷ []) (sym is)

  earlier : (v : List ℕ) → Contains (take i table) v → Contains (take (i + 1) table) v
  earlier v h = subst (λ ws. Contains ws v) (sym more) (Contains-append_left (take i table) (word ∷ []) v h)

  still-early : All (λ c. Contains (take (i + 1) table) c.word) classes
  still-early = All-weaker (λ c. Contains (take i table) c.word) (λ c. Contains (take (i + 1) table) c.word) (λ c h. earlier c.word h) classes so_far.early

  split : (v : List ℕ) → Contains (take (i + 1) table) v → Contains (take i table) v ⊎ (word ≡ v)
  split v h = Contains-push_cases (take i table) word v (subst (λ ws. Contains ws v) more h)

  -- the word has no member
  pub passed-over : IsMember table word None → AreListed table (i + 1) classes
  passed-over no_member = record {
    rising = so_far.rising;
    only = so_far.only;
    early = still-early;
    all = λ class l h. by class l class.member refl (split class.word h);
  }
    where
      by : (class : ClassValue) → IsListed table class → (m : Option (List ℕ)) → class.member ≡ m → Contains (take i table) class.word ⊎ (word ≡ class.word) → Contains classes class
      by class l m m-is (inl old) = so_far.all class l old
      by class l None m-is (inr same) = absurd (false≢true (ap is_some (sym m-is) ∙ l.some))
      by class l (Some m) m-is (inr same) =
          absurd (some-or-none table word m no_member (subst (λ w. IsMember table w (Some m)) (sym same) (subst (IsMember table class.word) m-is l.member)))

  before-word : (v : List ℕ) → AllPairs IsBefore table → Contains (take i table) v → IsBefore v word
  before-word v up h =
      let size = length-take i table in
      let early : h.0 < i = omega (arith, h.1, size) in
      let own : get_or table h.0 word ≡ v = get_or_default table h.0 word v (omega (arith, early, inside)) ∙ sym (get_or-take i table h.0 v early) ∙ h.2 in
      let far : IsBefore (get_or table h.0 word) (get_or table i word) = up h.0 i word early inside in
      subst (λ w. IsBefore v w) (sym is) (subst (λ u. IsBefore u (get_or table i word)) own far)

  -- the word has a member
  pub listed-next : (m : List ℕ) → AllPairs IsBefore table → IsMember table word (Some m) → AreListed table (i + 1) (classes ++ record { word = word; member = Some m } ∷ [])
  listed-next m up member =
      let new : ClassValue = record { word = word; member = Some m } in
      let here : Contains table word = (i, inside, sym is) in
      record {
        rising = all_pairs_push (λ a b. IsBefore a.word b.word) classes new so_far.rising (λ k d h. before-word (get_or classes k d).word up (so_far.early k d h));
        only = All-push (IsListed table) classes new so_far.only (record { word = here; member = member; some = refl });
        early = All-push (λ c. Contains (take (i + 1) table) c.word) classes new still-early (subst (λ ws. Contains ws word) (sym more) (Contains-push (take i table) word));
        all = λ class l h. by class l class.member refl (split class.word h);
      }
    where
      by : (class : ClassValue) → IsListed table class → (n : Option (List ℕ)) → class.member ≡ n → Contains (take i table) class.word ⊎ (word ≡ class.word) → Contains (classes ++ record { word = word; member = Some m } ∷ []) class
      by class l n n-is (inl old) = Contains-append_left classes (record { word = word; member = Some m } ∷ []) class (so_far.all class l old)
      by class l None n-is (inr same) = absurd (false≢true (ap is_some (sym n-is) ∙ l.some))
      by class l (Some n) n-is (inr same) =
          let theirs : IsMember table word (Some n) = subst (λ w. IsMember table w (Some n)) (sym same) (subst (IsMember table class.word) n-is l.member) in
          let equal : m ≡ n = one-member table word m n member theirs in
          let class-is : record { word = word; member = Some m } ≡ class = λ x. record { word = same x; member = (ap Some equal ∙ sym n-is) x } in
          subst (Contains (classes ++ record { word = word; member = Some m } ∷ [])) class-is (Contains-push classes (record { word = word; member = Some m }))
