-- The finding of a gap as the code builds it: each part is what is shown.
use Rattle.std.proofs.Common.{◌≡◌, ◌<◌, ℕ, true, List, ◌++◌, Option, Some, option_map, sym, ap, ◌∙◌}
use Rattle.std.specs.Prelude.{option_and_then, slice_get}
use Rattle.std.proofs.lemmas.Option.{same_Some}
use Rattle.mcv_cert.specs.Pair.{place_of}
use Rattle.mcv_base.specs.Operation.{op_number, shows_value}
use Rattle.mcv_base.specs.declared.operation.Op.{Op}
use Rattle.mcv_base.specs.declared.operation.Op.TheVariants.{Delete}
use Rattle.mcv_base.specs.declared.reply.Outcome.TheVariants.{Good}
use Rattle.mcv_route.specs.Eras.{HasEra, IsEraOf}
use Rattle.mcv_classes.specs.Class.{IsMember}
use Rattle.mcv_classes.specs.Words.{class_words}
use Rattle.mcv_certify.specs.Gap.{IsGap}
use Rattle.mcv_certify.specs.declared.gap.Gap.{Gap}
use Rattle.mcv_route.specs.Outcomes.{Choice, History}
use Rattle.mcv_route.specs.Places.{leaf_in, pool_at_position}
use Rattle.mcv_route.specs.Routes.{RouteEntry, RoutesValue}
use Rattle.mcv_route.specs.Situation.{asked}
use Rattle.mcv_route.specs.Tree.{Pool, Tree}
use Rattle.mcv_rules.specs.Plans.{plan}
use Rattle.mcv_rules.specs.declared.plan.PlannedLeg.{PlannedLeg}
use Rattle.mcv_base.specs.Key.{IsRest}
use Rattle.mcv_symbolic.specs.JustifiedRoutes.{IsReadableAt}
use Rattle.mcv_symbolic.specs.Sets.{AreLegsAt, CanHitAt, IsAcknowledged}
use Rattle.mcv_witness.specs.Finding.{FindingValue}
use Rattle.mcv_make.specs.FreeIndexes.{free_indexes}
use Rattle.mcv_symbolic.specs.ShownAnswers.{answers, leaf_hit}
use Rattle.mcv_make.specs.ShownFinding.{IsShownWith}
use Rattle.mcv_make.proofs.Gaps as gaps

-- the finding at the gap with these parts
abbrev pub finding_at : Gap → (window : ℕ) → (key choice : List ℕ) → Op → (answered deleted : History) → FindingValue
finding_at g window key choice op answered deleted = record {
  place = place_of g.place;
  key = key;
  at = g.at;
  server = g.server.0;
  choice = choice;
  op = op;
  gets = answered;
  deletes = deleted;
  window = window;
}

module _ (r : RoutesValue) (g : Gap) (gap : IsGap r (place_of g.place) g.at g.server.0) (t : Tree) (here : Some t ≡ option_map (λ (e : RouteEntry). e.tree) (slice_get r.entries g.place.route)) where
  abbrev entry : RouteEntry
  entry = record { aliases = (gaps.entry r g gap).aliases; tree = t }

  same-tree : t ≡ (gaps.entry r g gap).tree
  same-tree = same_Some t (gaps.entry r g gap).tree (here ∙ ap (option_map (λ (e : RouteEntry). e.tree)) (gaps.numbered r g gap))

  numbered : slice_get r.entries g.place.route ≡ Some entry
  numbered = gaps.numbered r g gap ∙ ap (λ (u : Tree). Some (record { aliases = (gaps.entry r g gap).aliases; tree = u })) (sym same-tree)

  module _ (rest : List ℕ) (member : IsMember (class_words t) g.place.class.items (Some rest)) (since read : Option ℕ) (era : HasEra r g.place.era → IsEraOf r g.place.era since) (get_era : HasEra r g.place.get_era → IsEraOf r g.place.get_era read) where
    opened : IsEraOf r g.place.era since
    opened = era (gaps.has_era r g gap)

    read_opened : IsEraOf r g.place.get_era read
    read_opened = get_era (gaps.has_get_era r g gap)

    pub reads : IsReadableAt t rest read g.place.leaf
    reads = gaps.readable r g gap entry rest since read numbered (gaps.listed r g gap entry numbered) member opened read_opened

    module _ (pool : Pool) (pool_there : Some pool ≡ leaf_in r g.place.route g.place.leaf) (window : ℕ) (prefix key choice : List ℕ) (op : Op) (answered deleted : History) (legs : List PlannedLeg) where
      pub is_shown : window ≡ r.window → IsRest rest → key ≡ prefix ++ rest → ((c : Choice) → AreLegsAt t (IsAcknowledged t rest since c) legs) → choice ≡ free_indexes legs g.server.0 pool.symbol g.at 0 r.symbols
          → shows_value op ≡ true → ((earlier : Op) → shows_value earlier ≡ true → op_number earlier < op_number op → (c : Choice) → CanHitAt t (asked earlier rest read) c g.place.leaf → ⊥) → leaf_hit g.place.leaf (plan t (asked op rest read)) ≡ Some answered
          → deleted ≡ answers Good (plan t (asked Delete rest since)) → IsShownWith r prefix (finding_at g window key choice op answered deleted)
      is_shown is_window rest_is is_key are is_choice reading first led done = record {
        entry = entry;
        rest = rest;
        since = since;
        read = read;
        pool = pool;
        legs = legs;
        numbered = numbered;
        listed = gaps.listed r g gap entry numbered;
        member = member;
        rest_is = rest_is;
        opened = opened;
        read_opened = read_opened;
        window = is_window;
        key = is_key;
        pool_there = sym (pool_there ∙ ap (option_and_then (λ (x : RouteEntry). pool_at_position x.tree g.place.leaf)) numbered);
        are = are;
        choice = is_choice;
        reading = reading;
        first = first;
        gets = led;
        deletes = done;
      }
