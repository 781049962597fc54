-- A warm-up's finding: a get that misses in the cold pool is answered by the warm one, to which no delete is sent.
use Rattle.std.proofs.Common.{◌≡◌, inl, inr, ⊎_elim, ℕ, zero, suc, ◌<◌, ◌≤◌, List, [], ◌∷◌, length, None, refl, arith}
use Rattle.std.specs.Fmt.{digits}
use Rattle.std.specs.Prelude.{codes}
use Rattle.std.proofs.lemmas.List.Elements.{All-cons, All-nil, All-contains}
use Rattle.std.proofs.lemmas.List.Kept.{AllPairs-cons}
use Rattle.mcv_base.specs.declared.operation.Op.TheVariants.{Get, Delete}
use Rattle.mcv_base.specs.declared.reply.Outcome.TheVariants.{Good, Soft}
use Rattle.mcv_base.specs.Key.{IsRoutingPrefix, routed}
use Rattle.mcv_classes.specs.Class.{IsBefore}
use Rattle.mcv_pools.specs.declared.symbol.HashFunc.TheVariants.{Ch3}
use Rattle.mcv_route.specs.Outcomes.{IsChoice, outcomes}
use Rattle.mcv_route.specs.Routes.{RoutesValue}
use Rattle.mcv_route.specs.Situation.{asked}
use Rattle.mcv_route.specs.Tree.{Tree, pool, warm_up, none}
use Rattle.mcv_rules.proofs.Verdicts.{reachable_is_closed}
use Rattle.mcv_symbolic.specs.CoveredRoutes.{sizes_of}
use Rattle.mcv_witness.specs.Breaks.{BreaksCoverage, chosen}
use Rattle.mcv_witness.specs.Finding.{FindingValue}
use Rattle.mcv_witness.specs.Text.{finding_text}
use Rattle.mcv_witness.proofs.Losses.{each_closed}

abbrev one : ℕ → Tree
one n = pool (record { symbol = 0; servers = n ∷ [] }) [] none

abbrev tree : Tree
tree = warm_up (one 0) (one 1) 0

abbrev routes : RoutesValue
routes = record {
  servers = codes "a:11211" ∷ codes "b:11211" ∷ [];
  symbols = record { func = Ch3; salt = []; n = 1 } ∷ [];
  entries = record { aliases = codes "/././" ∷ []; tree = tree } ∷ [];
  window = 0;
}

abbrev finding : FindingValue
finding = record {
  place = record { spot = record { route = 0; class = []; era = 0; get_era = 0 }; leaf = 1 ∷ [] };
  at = 0;
  server = 1;
  key = codes "/././!";
  choice = 0 ∷ [];
  op = Get;
  gets = (0 ∷ [], Soft) ∷ (1 ∷ [], Good) ∷ [];
  deletes = (0 ∷ [], Good) ∷ [];
  window = 0;
}

abbrev rest : List ℕ
rest = codes "!"

default : IsRoutingPrefix (codes "/././")
default = record {
  first = codes ".";
  second = codes ".";
  first_is = record { some = λ e. cc; no_slash = refl };
  second_is = record { some = λ e. cc; no_slash = refl };
  is = refl;
}

choice_is : IsChoice (sizes_of routes) (chosen finding)
choice_is zero h = omega arith
choice_is (suc s) h = absurd (omega (arith, h))

pub warm_up_breaks : BreaksCoverage routes finding
warm_up_breaks = record {
  tree = tree;
  rest = rest;
  since = None;
  get_since = None;
  placed = record {
    prefix = codes "/././";
    route = refl;
    word = refl;
    cut = routed default refl;
    rest_is = record { key = refl; bytes = All-cons (λ b. b < 256) 33 [] (omega arith) (All-nil (λ b. b < 256)) };
    selects = refl;
    class = record {
      listed = (0, omega arith, refl);
      begins = refl;
      longest = λ v h e. All-contains (λ w. length w ≤ 0) ([] ∷ []) v (All-cons (λ w. length w ≤ 0) [] [] (omega arith) (All-nil (λ w. length w ≤ 0))) h;
    };
    era = refl;
    get_era = refl;
    near = inl refl;
  };
  choice = choice_is;
  leaf = record { pool = record { symbol = 0; servers = 1 ∷ [] }; pool_there = refl; index = refl; server = refl };
  read = record {
    reading = refl;
    rising = AllPairs-cons IsBefore (0 ∷ []) ((1 ∷ []) ∷ []) (All-cons (IsBefore (0 ∷ [])) (1 ∷ []) [] refl (All-nil (IsBefore (0 ∷ []))))
        (AllPairs-cons IsBefore (1 ∷ []) [] (All-nil (IsBefore (1 ∷ []))) (λ i j d low high. absurd (omega (arith, high))));
    reachable = (reachable_is_closed tree (asked Get rest None) (chosen finding) (outcomes finding.gets)).1
        (each_closed tree (asked Get rest None) (chosen finding) (outcomes finding.gets) finding.gets (inl refl, (inr (inl refl), tt)));
    hit = inl refl;
  };
  missed = record {
    rising = AllPairs-cons IsBefore (0 ∷ []) [] (All-nil (IsBefore (0 ∷ []))) (λ i j d low high. absurd (omega (arith, high)));
    reachable = (reachable_is_closed tree (asked Delete rest None) (chosen finding) (outcomes finding.deletes)).1
        (each_closed tree (asked Delete rest None) (chosen finding) (outcomes finding.deletes) finding.deletes (inl refl, tt));
    done = inl (λ e. cc);
    unsent = λ h. ⊎_elim (λ e. let no_server : ◌≡◌ {A = ℕ} 0 1 = e.0 in omega (arith, no_server)) (λ e. e) h;
  };
}

pub warm_up_text : finding_text routes finding ≡ codes "lost b:11211\nroute 0\nclass =\nera 0\nkey /././!\nget 0=miss 1=hit\ndelete 0=deleted\n"
unfolding digits
warm_up_text = refl
