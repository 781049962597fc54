-- What the laws of routes say of the legs of one call.
use Rattle.std.proofs.Common.{◌≡◌, inl, inr, ℕ, suc, List, [], ◌∷◌, map, Option, Some, refl, sym, ap, ◌∙◌, subst}
use Rattle.std.specs.Prelude.{slice_get, Bool, true}
use Rattle.std.specs.List.{list_all}
use Rattle.std.proofs.lemmas.Bool.{and_parts}
use Rattle.mcv_base.specs.declared.operation.Op.TheVariants.{Delete}
use Rattle.mcv_route.specs.declared.launch.Launch.{Launch}
use Rattle.mcv_route.specs.Outcomes.{Outcomes, Choice}
use Rattle.mcv_route.specs.Tree.{Tree}
use Rattle.mcv_route.specs.Situation.{Situation, asked}
use Rattle.mcv_route.specs.Launched.{launched}
use Rattle.mcv_route.specs.Verdict.{Has}
use Rattle.mcv_rules.specs.Laws.{Extends}
use Rattle.mcv_rules.proofs.ListMembers.{Among}
use Rattle.mcv_rules.proofs.Operations.{own_operation}
use Rattle.mcv_rules.proofs.SentOnce.{legs_are_sent_once}
use Rattle.mcv_rules.proofs.Verdicts.{sent_stays}
use Rattle.mcv_world.proofs.Numbers.{same_some}

-- ---- members

pub among_has : {A : Type 0} (xs : List A) (P : A → Type 0) (x : A) → Among xs x → P x → Has xs P
among_has [] P x h p = absurd h
among_has (y ∷ xs) P x (inl e) p = inl (subst P (sym e) p)
among_has (y ∷ xs) P x (inr h) p = inr (among_has xs P x h p)

pub has_among : {A : Type 0} (xs : List A) (P : A → Type 0) → Has xs P → (x : A) × Among xs x × P x
has_among [] P h = absurd h
has_among (y ∷ xs) P (inl p) = (y, inl refl, p)
has_among (y ∷ xs) P (inr h) = let r = has_among xs P h in (r.0, inr r.1, r.2)

pub all_at : (test : Launch → Bool) (ls : List Launch) (l : Launch) → list_all test ls ≡ true → Among ls l → test l ≡ true
all_at test [] l e h = absurd h
all_at test (m ∷ ls) l e (inl q) = ap test (sym q) ∙ (and_parts _ _ e).0
all_at test (m ∷ ls) l e (inr h) = all_at test ls l (and_parts _ _ e).1 h

among_at : (ls : List Launch) (l : Launch) → Among ls l → (i : ℕ) × (slice_get (map (λ m. m.position) ls) i ≡ Some l.position) × (slice_get ls i ≡ Some l)
among_at [] l h = absurd h
among_at (m ∷ ls) l (inl e) = (0, ap (λ n. Some n.position) e, ap (λ n. Some n) e)
among_at (m ∷ ls) l (inr h) = let r = among_at ls l h in (suc r.0, r.1, r.2)

-- a position has one leg
pub one_leg : (t : Tree) (s : Situation) (c : Choice) (o : Outcomes) (l m : Launch) → Among (launched t s c o) l → Among (launched t s c o) m → l.position ≡ m.position → l ≡ m
one_leg t s c o l m h g e =
    let a = among_at (launched t s c o) l h in
    let b = among_at (launched t s c o) m g in
    let same : a.0 ≡ b.0 = legs_are_sent_once t s c o a.0 b.0 m.position (a.1 ∙ ap (λ p. Some p) e) b.1 in
    same_some (sym a.2 ∙ ap (slice_get (launched t s c o)) same ∙ b.2)

-- also where the second was launched later
pub one_leg_later : (t : Tree) (s : Situation) (c : Choice) (o o2 : Outcomes) (l m : Launch) → Extends o o2 → Among (launched t s c o) l → Among (launched t s c o2) m → l.position ≡ m.position → l ≡ m
one_leg_later t s c o o2 l m more h g e = one_leg t s c o2 l m (sent_stays t s c o o2 l more h) g e

-- ---- operations

-- a delete sends deletes alone
pub deletes_send_deletes : (t : Tree) (rest : List ℕ) (since : Option ℕ) (c : Choice) (o : Outcomes) (l : Launch) → Among (launched t (asked Delete rest since) c o) l → l.op ≡ Delete
deletes_send_deletes t rest since c o l h = own_operation t (asked Delete rest since) c o l refl h
