use Rattle.std.proofs.Common.{◌≡◌, ◌+◌, ◌∷◌, [], ◌++◌, ◌≤◌, length, ap, sym, subst, ◌∙◌, arith}
use Rattle.std.proofs.lemmas.List.{length_push}
use Rattle.mcv_blocks.specs.SetsInEras.{AreSetsFrom, AreSetsOf}
use Rattle.mcv_blocks.proofs.SetsEraByEra.{each_more}
use Rattle.mcv_blocks.proofs.sliding.slide.Goals as goal

pub overflow_sub-count : goal.overflow_sub-count
overflow_sub-count c =
    let first = c.requires.near.first_is in
    let end = c.requires.near.end_is in
    omega (arith, first, end)

pub loop-alloc-init : goal.loop-alloc-init
loop-alloc-init c = record { first = c.drop_before.ensures.first; sets = c.drop_before.ensures.sets c.args.routes.now c.args.at.now.class.now c.requires.sets }

pub loop-alloc-preserved : goal.loop-alloc-preserved
loop-alloc-preserved c =
    let r = c.args.routes.now in
    let class = c.args.at.now.class.now in
    let xs = c.loop-alloc.sets.sets.items in
    let x = c.in_ok-own.own in
    let so_far = c.loop-alloc.invariant in
    let first = so_far.first in
    let count = c.loop-alloc.sets.sets.ok.0 in
    let len = c.len-in-loop-alloc.ensures in
    let here : c.args.at.now.near.first + c.len-in-loop-alloc.result ≡ c.loop-alloc.sets.first + length xs = omega (arith, first, count, len) in
    let own : AreSetsOf r class (c.loop-alloc.sets.first + length xs) x = subst (λ n. AreSetsOf r class n x) here c.in_ok-own.ensures in
    record {
      first = first;
      sets = subst (AreSetsFrom r class c.loop-alloc.sets.first) (sym c.in_ok-push_back.ensures.items) (each_more (AreSetsOf r class) c.loop-alloc.sets.first xs x so_far.sets own);
    }

pub loop-alloc-smaller : goal.loop-alloc-smaller
loop-alloc-smaller c =
    let xs = c.loop-alloc.sets.sets.items in
    let x = c.in_ok-own.own in
    let more = ap length c.in_ok-push_back.ensures.items ∙ length_push xs x in
    let count = c.loop-alloc.sets.sets.ok.0 in
    omega (arith, more, count)

pub returns : goal.returns
returns c =
    let r = c.args.routes.now in
    let so_far = c.loop-alloc.invariant in
    let first = so_far.first in
    let count = c.loop-alloc.sets.sets.ok.0 in
    record {
      class = c.requires.class;
      near = c.requires.near;
      sets = so_far.sets;
      first = first;
      end = omega (arith, first, count);
    }
