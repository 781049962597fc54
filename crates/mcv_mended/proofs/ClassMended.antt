-- What holds for a member of a class holds for the class.
use Rattle.std.proofs.Common.{◌≡◌, ◌≢◌, ◌<◌, ◌≤◌, ℕ, true, List, [], ◌∷◌, ◌++◌, length, map, Option, Some, refl, sym, ap, ◌∙◌, subst, arith}
use Rattle.std.specs.Prelude.{IsSome}
use Rattle.std.specs.List.{Contains, zip}
use Rattle.mcv_base.specs.Key.{IsRest, begins_with}
use Rattle.mcv_base.specs.declared.operation.Op.{Op}
use Rattle.mcv_base.specs.declared.operation.Op.TheVariants.{Delete}
use Rattle.mcv_base.specs.declared.reply.Outcome.TheVariants.{Error}
use Rattle.mcv_classes.specs.Class.{ClassValue, IsClassWord, IsListed, IsMember}
use Rattle.mcv_classes.specs.Laws.{AreAlike}
use Rattle.mcv_classes.specs.Words.{class_words}
use Rattle.mcv_classes.proofs.AlikeRests.{alike_are_replied, alike_are_sent}
use Rattle.mcv_classes.proofs.Existence.{rests_have_classes}
use Rattle.mcv_classes.proofs.Members.{members_are_inside, one_class}
use Rattle.mcv_judge.specs.Reason.{LegValue}
use Rattle.mcv_route.specs.Eras.{IsEra}
use Rattle.mcv_route.specs.Replies.{Answer}
use Rattle.mcv_route.specs.Routes.{RoutesValue}
use Rattle.mcv_route.specs.Situation.{asked}
use Rattle.mcv_route.specs.Tree.{Tree}
use Rattle.mcv_route.specs.Verdict.{Has}
use Rattle.mcv_route.proofs.BreakTables.{era_numbered}
use Rattle.mcv_alike.specs.Alike.{DeletesMore, DoesAlike, added, chosen_by, moved, seen}
use Rattle.mcv_mended.specs.Mend.{IsClassMended}
use Rattle.mcv_mended.specs.Classes.{AreListedToo}
use Rattle.mcv_mended.specs.Members.{IsMemberMended}
use Rattle.mcv_alike.proofs.Alike.{alike, deletes_more}

module _ (t u : Tree) (there : AreListedToo t u) (back : AreListedToo u t) where
  -- a rest's class in the first tree is its class in the second
  one_class_word : (rest word : List ℕ) → IsRest rest → IsClassWord (class_words t) rest word → IsClassWord (class_words u) rest word
  one_class_word rest word is h = record { listed = listed; begins = h.begins; longest = longest }
    where
      listed : Contains (class_words u) word
      listed =
          let own = rests_have_classes t rest is.key is.bytes in
          let same = one_class (class_words t) rest own.0 word own.2 h in
          there (record { word = word; member = Some own.1 })
          (record { word = h.listed; member = subst (λ w. IsMember (class_words t) w (Some own.1)) same own.3; some = refl })

      longest : (v : List ℕ) → Contains (class_words u) v → begins_with rest v ≡ true → length v ≤ length word
      longest v at begins =
          let own = rests_have_classes u rest is.key is.bytes in
          let first = back (record { word = own.0; member = Some own.1 }) (record { word = own.2.listed; member = own.3; some = refl }) in
          let low : length v ≤ length own.0 = own.2.longest v at begins in
          let high : length own.0 ≤ length word = h.longest own.0 first own.2.begins in
          omega (arith, low, high)

  both_alike : (rest word member : List ℕ) → IsRest rest → IsRest member → IsClassWord (class_words t) rest word → IsMember (class_words t) word (Some member) → AreAlike t rest member × AreAlike u rest member
  both_alike rest word member is own h inside =
      let in_class = members_are_inside t word member inside h.listed in
      ((word, h, in_class.0), (word, one_class_word rest word is h, one_class_word member word own in_class.0))

module _ (r n : RoutesValue) (t u : Tree) (rest member : List ℕ) (since : Option ℕ) (a : AreAlike t rest member) (b : AreAlike u rest member) where
  alike_at : (op : Op) → DoesAlike r n t u (asked op member since) → DoesAlike r n t u (asked op rest since)
  alike_at op d = record {
    move = d.move;
    sends = λ h o is.
        ap (map (seen n (λ p. p))) (alike_are_sent u rest member b op since (chosen_by h n) o)
        ∙ d.sends h o is
        ∙ ap (map (seen r d.move)) (sym (alike_are_sent t rest member a op since (chosen_by h r) (λ p. o (d.move p))));
    replies = λ o.
        alike_are_replied u rest member b op since o
        ∙ d.replies o
        ∙ ap (map (moved d.move)) (sym (alike_are_replied t rest member a op since (λ p. o (d.move p))));
  }

  more_at : (legs : List LegValue) → DeletesMore r n t u (asked Delete member since) legs → DeletesMore r n t u (asked Delete rest since) legs
  more_at legs d = record {
    move = d.move;
    places = d.places;
    own = d.own;
    counted = d.counted;
    sends = λ h o is.
        ap (map (seen n (λ p. p))) (alike_are_sent u rest member b Delete since (chosen_by h n) o)
        ∙ d.sends h o is
        ∙ ap (λ ls. map (seen r d.move) ls ++ map (added r h) (zip legs d.places)) (sym (alike_are_sent t rest member a Delete since (chosen_by h r) (λ p. o (d.move p))));
    done = λ o h.
        let Done : List Answer → Type 0 = λ qs. Has qs (λ x. x.outcome ≢ Error) in
        subst Done (sym (alike_are_replied t rest member a Delete since (λ p. o (d.move p)))) (d.done o (subst Done (alike_are_replied u rest member b Delete since o) h));
  }

pub class_mended : (r n : RoutesValue) (t u : Tree) (word member : List ℕ) (legs : List LegValue) → AreListedToo t u → AreListedToo u t → IsRest member → IsMember (class_words t) word (Some member)
    → IsMemberMended r n t u member legs → IsClassMended r n t u word legs
class_mended r n t u word member legs there back own inside mended = record {
  alike = λ op rest since other is h era.
      let e = era_numbered r since era in
      let both = both_alike t u there back rest word member is own h inside in
      alike_at r n t u rest member since both.0 both.1 op (alike r n t u (asked op member since) ((mended e.0 since e.1 op).alike other));
  deletes = λ rest since is h era.
      let e = era_numbered r since era in
      let both = both_alike t u there back rest word member is own h inside in
      more_at r n t u rest member since both.0 both.1 legs (deletes_more r n t u (asked Delete member since) legs ((mended e.0 since e.1 Delete).deletes refl));
}
