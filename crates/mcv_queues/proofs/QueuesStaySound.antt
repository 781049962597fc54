-- What keeps queues sound: the legs, their ranges and the first one of each group after each change.
use Rattle.std.proofs.Common.{◌≡◌, ◌&&◌, inl, inr, cond, not, ℕ, ◌<◌, Bool, true, false, nat_eq, [], Option, Some, None, IfSome, refl, sym, ap, subst, ◌∙◌}
use Rattle.std.proofs.Math.Path.{fun_ext}
use Rattle.std.specs.Prelude.{option_map}
use Rattle.std.proofs.lemmas.Bool.{cases_eq, eqb-true, and_from, and_parts, and_right}
use Rattle.mcv_base.specs.declared.request.ServerId.{ServerId}
use Rattle.mcv_queues.specs.declared.leg.Leg.{Leg}
use Rattle.mcv_queues.specs.declared.rows.Link.{Link}
use Rattle.mcv_queues.specs.declared.rows.Row.{Row}
use Rattle.mcv_queues.specs.declared.leg.State.{State}
use Rattle.mcv_queues.specs.declared.leg.State.TheVariants.{Waiting, Sent, Held, Refused, InSpool, InReplay}
use Rattle.mcv_queues.specs.declared.roots.Group.{Group}
use Rattle.mcv_queues.specs.declared.roots.Group.TheVariants.{WaitingFor, SpooledFor}
use Rattle.mcv_queues.specs.Numbers.{put, IsLeast}
use Rattle.mcv_queues.specs.Forest.{IsForest}
use Rattle.mcv_queues.specs.Rows.{leg_of, link_of, content_of}
use Rattle.mcv_queues.specs.Groups.{group_at, group_of, is_group, is_in}
use Rattle.mcv_queues.specs.Legs.{rests_at, is_flight, is_in_flight_to, leg_content}
use Rattle.mcv_queues.specs.Soundness.{AreTrees, AreTreesBut, AreInRange, IsQueues}
use Rattle.mcv_queues.proofs.Places.{put_here, put_there, none_some}
use Rattle.mcv_queues.proofs.RootIsLeast.{root_least}
use Rattle.mcv_queues.proofs.GroupsAreHeaps.{left_none, entered_none, beside, inner_leg, none_leg}

pub rooted : {T : Type 0} (legs : ℕ → Option (Leg T)) (f : ℕ → Option Link) (roots roots2 : Group → Option ℕ) → AreTrees legs f roots → ((g : Group) → roots2 g ≡ roots g) → AreTrees legs f roots2
rooted legs f roots roots2 t e = λ g. subst (λ o. IsForest (is_in legs g) f o None None) (sym (e g)) (t g)

-- ---- rows

cond_leg : {T : Type 0} (b : Bool) (v o : Option (Row T)) → option_map leg_of (cond b v o) ≡ cond b (option_map leg_of v) (option_map leg_of o)
cond_leg true v o = refl
cond_leg false v o = refl

cond_link : {T : Type 0} (b : Bool) (v o : Option (Row T)) → option_map link_of (cond b v o) ≡ cond b (option_map link_of v) (option_map link_of o)
cond_link true v o = refl
cond_link false v o = refl

pub legs_put : {T : Type 0} (a a2 : ℕ → Option (Row T)) (x : ℕ) (v : Option (Row T)) → a2 ≡ put a x v → (λ m. option_map leg_of (a2 m)) ≡ put (λ m. option_map leg_of (a m)) x (option_map leg_of v)
legs_put a a2 x v e = fun_ext (λ m. ap (λ u. option_map leg_of (u m)) e ∙ cond_leg (nat_eq x m) v (a m))

pub links_put : {T : Type 0} (a a2 : ℕ → Option (Row T)) (x : ℕ) (v : Option (Row T)) → a2 ≡ put a x v → (λ m. option_map link_of (a2 m)) ≡ put (λ m. option_map link_of (a m)) x (option_map link_of v)
links_put a a2 x v e = fun_ext (λ m. ap (λ u. option_map link_of (u m)) e ∙ cond_link (nat_eq x m) v (a m))

pub same_rows : {T : Type 0} (a a2 : ℕ → Option (Row T)) (roots : Group → Option ℕ) (fl : ℕ → ℕ) (k : ℕ) → a2 ≡ a → IsQueues (λ m. option_map leg_of (a m)) (λ m. option_map link_of (a m)) roots fl k → IsQueues (λ m. option_map leg_of (a2 m)) (λ m. option_map link_of (a2 m)) roots fl k
same_rows a a2 roots fl k e q = subst (λ u. IsQueues (λ m. option_map leg_of (u m)) (λ m. option_map link_of (u m)) roots fl k) (sym e) q

-- a new leg is in no tree
pub fresh : {T : Type 0} (legs legs2 : ℕ → Option (Leg T)) (f f2 : ℕ → Option Link) (roots : Group → Option ℕ) (x : ℕ) (v : Option (Leg T)) (o : Option Link) → AreTrees legs f roots → legs x ≡ None → legs2 ≡ put legs x v → f2 ≡ put f x o → AreTreesBut x legs2 f2 roots
fresh legs legs2 f f2 roots x v o t none el ef = beside legs legs2 f f2 roots x (left_none legs f roots x t (ap group_of none)) (λ n ne. ap (λ u. u n) el ∙ put_there legs x n v ne) (λ n ne. ap (λ u. u n) ef ∙ put_there f x n o ne)

-- a leg that hangs in no heap goes
pub dropped : {T : Type 0} (legs legs2 : ℕ → Option (Leg T)) (f f2 : ℕ → Option Link) (roots : Group → Option ℕ) (x : ℕ) → AreTreesBut x legs f roots → legs2 ≡ put legs x None → f2 ≡ put f x None → AreTrees legs2 f2 roots
dropped legs legs2 f f2 roots x t el ef = entered_none legs2 f2 roots x
    (beside legs legs2 f f2 roots x t (λ n ne. ap (λ u. u n) el ∙ put_there legs x n None ne) (λ n ne. ap (λ u. u n) ef ∙ put_there f x n None ne))
    (ap (λ u. group_of (u x)) el ∙ ap group_of (put_here legs x None))

-- ---- ranges

pub range_put : {T : Type 0} (legs legs2 : ℕ → Option (Leg T)) (k : ℕ) (x : ℕ) (v : Option (Leg T)) → AreInRange legs k → legs2 ≡ put legs x v → ((l : Leg T) → v ≡ Some l → l.server.0 < k) → AreInRange legs2 k
range_put legs legs2 k x v r el h = λ n l e. elim (cases_eq x n) [
  | inl q ↦ h l (sym (put_here legs x v) ∙ ap (λ j. put legs x v j) q ∙ sym (ap (λ u. u n) el) ∙ e)
  | inr ne ↦ r n l (sym (put_there legs x n v ne) ∙ sym (ap (λ u. u n) el) ∙ e)
]

pub range_known : {T : Type 0} (legs legs2 : ℕ → Option (Leg T)) (k k2 : ℕ) → AreInRange legs k → legs2 ≡ legs → k2 ≡ k → AreInRange legs2 k2
range_known legs legs2 k k2 r e ek = subst (λ u. AreInRange u k2) (sym e) (subst (λ j. AreInRange legs j) (sym ek) r)

pub one_server : {T : Type 0} (l m : Leg T) (k : ℕ) → l.server.0 < k → Some l ≡ Some m → m.server.0 < k
one_server l m k h e = subst (λ j. j < k) (ap (λ y. y.server.0) (inner_leg l m e)) h

pub server_known : {T : Type 0} (s k : ℕ) (o : Option (Leg T)) → ((l : Leg T) → o ≡ Some l → l.server.0 < k) → rests_at s o ≡ true → s < k
server_known s k None h e = absurd (cc)
server_known s k (Some l) h e = subst (λ j. j < k) (eqb-true l.server.0 s (and_parts (nat_eq l.server.0 s) (not (is_flight l.state)) e).0) (h l refl)

-- ---- the first leg of a group

pub first_of_group : {T : Type 0} (legs : ℕ → Option (Leg T)) (f : ℕ → Option Link) (roots : Group → Option ℕ) (g : Group) (b : Option ℕ) → AreTrees legs f roots → roots g ≡ b → IsLeast (is_in legs g) b
first_of_group legs f roots g b t e = subst (λ o. IsLeast (is_in legs g) o) e (root_least (is_in legs g) f (roots g) (t g))

waiting_states : (v s : ℕ) (st : State) → is_group (group_at v st) (WaitingFor s) ≡ true → (nat_eq v s && not (is_flight st)) ≡ true
waiting_states v s Waiting e = and_from (nat_eq v s) true e refl
waiting_states v s Sent e = absurd (cc)
waiting_states v s Held e = absurd (cc)
waiting_states v s Refused e = absurd (cc)
waiting_states v s InSpool e = absurd (cc)
waiting_states v s InReplay e = absurd (cc)

pub waiting_rests : {T : Type 0} (s : ℕ) (o : Option (Leg T)) → is_group (group_of o) (WaitingFor s) ≡ true → rests_at s o ≡ true
waiting_rests s None e = absurd (cc)
waiting_rests s (Some l) e = waiting_states l.server.0 s l.state e

spooled_states : (v s : ℕ) (st : State) → is_group (group_at v st) (SpooledFor s) ≡ true → (nat_eq v s && not (is_flight st)) ≡ true
spooled_states v s Waiting e = absurd (cc)
spooled_states v s Sent e = absurd (cc)
spooled_states v s Held e = absurd (cc)
spooled_states v s Refused e = absurd (cc)
spooled_states v s InSpool e = and_from (nat_eq v s) true e refl
spooled_states v s InReplay e = absurd (cc)

pub spooled_rests : {T : Type 0} (s : ℕ) (o : Option (Leg T)) → is_group (group_of o) (SpooledFor s) ≡ true → rests_at s o ≡ true
spooled_rests s None e = absurd (cc)
spooled_rests s (Some l) e = spooled_states l.server.0 s l.state e

pub if_some : {P : ℕ → Type 0} (o : Option ℕ) → ((n : ℕ) → o ≡ Some n → P n) → IfSome o P
if_some None h = tt
if_some (Some n) h = h n refl

pub waiting_in_no_flight : {T : Type 0} (t : ℕ) (s : ServerId) (content : T) → is_in_flight_to t (Some (record { server = s; state = Waiting; «record» = None; content = content })) ≡ false
waiting_in_no_flight t s content = and_right (nat_eq s.0 t) false refl

-- ---- no legs

none_in : (T : Type 0) (g : Group) (n : ℕ) → is_in {T = T} (λ m. None) g n ≡ true → ⊥
none_in T g n e = absurd (cc)

nothing : {T : Type 0} (roots : Group → Option ℕ) (fl : ℕ → ℕ) (k : ℕ) → ((g : Group) → roots g ≡ None) → ((s : ℕ) → fl s ≡ 0) → IsQueues {T = T} (λ m. None) (λ m. None) roots fl k
nothing {T} roots fl k r f = record {
  trees = λ g. record {
    there = λ n h. absurd (none_in T g n h);
    first = λ n e. absurd (none_some (sym (r g) ∙ e));
    second = λ n e. absurd (none_some e);
    third = λ n e. absurd (none_some e);
    member = λ n h. absurd (none_in T g n h);
    left = λ p n h e. absurd (none_in T g p h);
    right = λ p n h e. absurd (none_in T g p h);
    apart = λ p n h e q. none_in T g p h;
  };
  flying = λ s. ∣ record { numbers = []; these = λ n. refl; apart = refl; counted = sym (f s) } ∣₁;
  range = λ n l e. absurd (none_leg e);
}

pub empty : {T : Type 0} (a : ℕ → Option (Row T)) (roots : Group → Option ℕ) (fl : ℕ → ℕ) (k : ℕ) → a ≡ (λ n. None) → ((g : Group) → roots g ≡ None) → ((s : ℕ) → fl s ≡ 0) → IsQueues (λ m. option_map leg_of (a m)) (λ m. option_map link_of (a m)) roots fl k
empty a roots fl k e r f = subst (λ u. IsQueues (λ m. option_map leg_of (u m)) (λ m. option_map link_of (u m)) roots fl k) (sym e) (nothing roots fl k r f)

pub no_legs : {T : Type 0} (a : ℕ → Option (Row T)) → a ≡ (λ n. None) → (n : ℕ) → option_map leg_of (a n) ≡ None
no_legs a e n = ap (λ u. option_map leg_of (u n)) e

pub content_of_leg : {T : Type 0} (o : Option (Row T)) → option_map content_of o ≡ option_map leg_content (option_map leg_of o)
content_of_leg None = refl
content_of_leg (Some r) = refl
