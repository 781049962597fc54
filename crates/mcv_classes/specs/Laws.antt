-- The laws of classes.
use Rattle.std.specs.Prelude.{◌≡◌, ℕ, ◌<◌, true, List, Option, Some, None}
use Rattle.std.specs.List.{All, Contains}
use Rattle.mcv_base.specs.declared.operation.Op.{Op}
use Rattle.mcv_base.specs.Key.{is_key_word}
use Rattle.mcv_route.specs.Launched.{launched}
use Rattle.mcv_route.specs.Outcomes.{Choice, Outcomes, History}
use Rattle.mcv_route.specs.Replies.{replies}
use Rattle.mcv_route.specs.Reply.{reply}
use Rattle.mcv_route.specs.Situation.{asked}
use Rattle.mcv_route.specs.Tree.{Tree}
use Rattle.mcv_classes.specs.Class.{IsClassWord, IsMember}
use Rattle.mcv_classes.specs.Words.{class_words}

-- two rests are in one class of the route
abbrev pub AreAlike : Tree → List ℕ → List ℕ → Type 0
AreAlike t rest other = (word : List ℕ) × IsClassWord (class_words t) rest word × IsClassWord (class_words t) other word

-- rests of one class have the same legs sent, in every era, under every choice, at all outcomes
abbrev pub AlikeAreSent : Type 0
AlikeAreSent = (t : Tree) (rest other : List ℕ) → AreAlike t rest other →
    (op : Op) (since : Option ℕ) (c : Choice) (o : Outcomes) → launched t (asked op rest since) c o ≡ launched t (asked op other since) c o

-- and have the same replies
abbrev pub AlikeAreReplied : Type 0
AlikeAreReplied = (t : Tree) (rest other : List ℕ) → AreAlike t rest other →
    (op : Op) (since : Option ℕ) (o : Outcomes) → replies t (asked op rest since) o ≡ replies t (asked op other since) o

-- and of them the same one came last
abbrev pub AlikeAreAnswered : Type 0
AlikeAreAnswered = (t : Tree) (rest other : List ℕ) → AreAlike t rest other →
    (op : Op) (since : Option ℕ) (es : History) → reply t (asked op rest since) es ≡ reply t (asked op other since) es

-- a rest has no two classes
abbrev pub OneClass : Type 0
OneClass = (words : List (List ℕ)) (rest v w : List ℕ) → IsClassWord words rest v → IsClassWord words rest w → v ≡ w

-- the member of a class of the route is a rest of this class
abbrev pub MembersAreInside : Type 0
MembersAreInside = (t : Tree) (word member : List ℕ) → IsMember (class_words t) word (Some member) → Contains (class_words t) word →
    IsClassWord (class_words t) member word × (is_key_word member ≡ true)

-- a class without a member has no rests
abbrev pub NoMemberNoRest : Type 0
NoMemberNoRest = (t : Tree) (word rest : List ℕ) → IsMember (class_words t) word None → is_key_word rest ≡ true → All (λ b. b < 256) rest →
    IsClassWord (class_words t) rest word → ⊥

-- each rest, of bytes, has a class word, and the class has a member
abbrev pub RestsHaveClasses : Type 0
RestsHaveClasses = (t : Tree) (rest : List ℕ) → is_key_word rest ≡ true → All (λ b. b < 256) rest →
    (word : List ℕ) × (member : List ℕ) × IsClassWord (class_words t) rest word × IsMember (class_words t) word (Some member)
