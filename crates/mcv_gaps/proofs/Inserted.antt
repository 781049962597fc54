-- Sets of servers and of twins, with one more.
use Rattle.std.proofs.Common.{◌≡◌, ◌<◌, ◌&&◌, ℕ, Bool, true, false, cond, nat_eq, List, [], ◌∷◌, ◌++◌, inl, inr, ⊎_elim, refl, sym, ap, ◌∙◌, subst}
use Rattle.std.specs.BTreeSet.{BTreeSet, contains}
use Rattle.std.specs.List.{All, Contains}
use Rattle.std.specs.Ordering.{is_eq, nat_cmp}
use Rattle.std.proofs.lemmas.Bool.{and_parts, cases_Bool, eq-eqb, eqb-true}
use Rattle.std.proofs.lemmas.List.Elements.{All-append, All-cons, All-nil, Contains-append_left, Contains-push, Contains-push_cases}
use Rattle.mcv_judge.specs.PairsInMemory.{numbers}
use Rattle.mcv_judge.specs.Reason.{LegValue, is_same_list}
use Rattle.mcv_picks.specs.Tables.{TwinKey, twin_cmp}
use Rattle.mcv_picks.proofs.TwinsAreEqual.{same_itself, same_list, twin_level}
use Rattle.mcv_gaps.specs.Gaps.{WantedValue}
use Rattle.mcv_gaps.specs.Least.{HasTwin, HasTwinAt, HaveServers, IsMissingOf, IsUnsent, TellsTwins, leg_missing, legs_missing}
use Rattle.mcv_gaps.specs.declared.missing.Missing.{Missing}

-- a server put in: those that were there are, and so is it
pub put_in : (x y : ℕ) (b old new : Bool) → b ≡ nat_eq y x → new ≡ cond b true old → (old ≡ true → new ≡ true) × (y ≡ x → new ≡ true)
put_in x y true old new e h = (λ _. h, λ _. h)
put_in x y false old new e h = (λ was. h ∙ was, λ one. absurd (let there : ◌≡◌ {A = Bool} false true = e ∙ eq-eqb y x one in cc))

-- the servers of one more leg
pub more_servers : (old new : BTreeSet ℕ) (legs : List LegValue) (d : LegValue) → ((x : ℕ) → contains nat_cmp old x ≡ true → contains nat_cmp new x ≡ true) → ((x : ℕ) → Contains d.servers x → contains nat_cmp new x ≡ true)
    → HaveServers old legs → HaveServers new (legs ++ d ∷ [])
more_servers old new legs d kept own have e x at has = ⊎_elim (λ h. kept x (have e x h has)) (λ is. own x (subst (λ (l : LegValue). Contains l.servers x) (sym is) has)) (Contains-push_cases legs d e at)

module _ (ms : List Missing) (m : Missing) where
  -- a twin stays
  pub still_twin : (d : LegValue) → HasTwin (legs_missing ms) d → HasTwin (legs_missing ms ++ leg_missing m ∷ []) d
  still_twin d t = record { twin = t.twin; listed = Contains-append_left (legs_missing ms) (leg_missing m ∷ []) t.twin t.listed; symbol = t.symbol; servers = t.servers }

  pub own_twin : HasTwin (legs_missing ms ++ leg_missing m ∷ []) (leg_missing m)
  own_twin = record { twin = leg_missing m; listed = Contains-push (legs_missing ms) (leg_missing m); symbol = refl; servers = refl }

  -- the set tells of one more
  pub tells_more : (old new : BTreeSet TwinKey) (k : TwinKey) → (leg_missing m).symbol ≡ k.0 → (leg_missing m).servers ≡ numbers k.1.now
      → ((q : TwinKey) → contains twin_cmp new q ≡ cond (is_eq (twin_cmp k q)) true (contains twin_cmp old q)) → TellsTwins old (legs_missing ms) → TellsTwins new (legs_missing ms ++ leg_missing m ∷ [])
  tells_more old new k symbol servers updates tells q h = elim (cases_Bool (is_eq (twin_cmp k q))) [
    | inl is ↦
        let both = and_parts (nat_eq k.0 q.0) (is_same_list (numbers k.1.now) (numbers q.1.now)) (sym (twin_level k q) ∙ is) in
        record {
          twin = leg_missing m;
          listed = Contains-push (legs_missing ms) (leg_missing m);
          symbol = symbol ∙ eqb-true k.0 q.0 both.0;
          servers = servers ∙ same_list (numbers k.1.now) (numbers q.1.now) both.1;
        }
    | inr isnt ↦
        let was : contains twin_cmp old q ≡ true = sym (updates q ∙ ap (λ b. cond b true (contains twin_cmp old q)) isnt) ∙ h in
        let t = tells q was in
        record { twin = t.twin; listed = Contains-append_left (legs_missing ms) (leg_missing m ∷ []) t.twin t.listed; symbol = t.symbol; servers = t.servers }
  ]

-- a leaf whose servers aren't sent to
pub is_unsent : (w : WantedValue) (m : Missing) (sent : BTreeSet ℕ) → Contains w.readable (leg_missing m) → HaveServers sent w.acknowledged
    → ((x : ℕ) → Contains m.unsent.items x → Contains (leg_missing m).servers x × (contains nat_cmp sent x ≡ false)) → IsUnsent w m
is_unsent w m sent read have of = record {
  read = read;
  own = λ x at. (of x at).0;
  alone = λ x at d in_acknowledged has. let there : ◌≡◌ {A = Bool} true false = sym (have d x in_acknowledged has) ∙ (of x at).1 in absurd cc;
}

pub one_missing_more : (ws : List WantedValue) (ms : List Missing) (m : Missing) → All (IsMissingOf ws) ms → IsMissingOf ws m → All (IsMissingOf ws) (ms ++ m ∷ [])
one_missing_more ws ms m all own = All-append (IsMissingOf ws) ms (m ∷ []) all (All-cons (IsMissingOf ws) m [] own (All-nil (IsMissingOf ws)))
