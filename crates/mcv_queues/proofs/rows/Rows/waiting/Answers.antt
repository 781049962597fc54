use Rattle.std.proofs.Common.{◌<◌, ◌+◌, subst, sym}
use Rattle.std.specs.Prelude.{IfSome, slice_get}
use Rattle.std.specs.Map.Iter.{deref}
use Rattle.std.proofs.lemmas.Map.Iter.{rest_all}
use Rattle.std.proofs.lemmas.Option.{IfSome_then}
use Rattle.mcv_queues.proofs.WaitingLegs.{all_counted, counts_fit}
use Rattle.mcv_queues.proofs.rows.Rows.waiting.Goals as goal

pub count_in-requires : goal.count_in-requires
count_in-requires g c = λ s. subst (λ xs. IfSome (slice_get xs s) (λ count. count + 1 < 18446744073709551616)) (sym c.as_mut_slice.ensures.value) (IfSome_then (slice_get c.loop-row.counts.items s) (c.loop-row.invariant.1 s) (λ count e. counts_fit c.args.self.now s count _ c.values-row-items.ensures.fits e))

pub returns-clause-counted : goal.returns-clause-counted
returns-clause-counted g c = λ s. IfSome_then (slice_get c.loop-row.counts.items s) (c.loop-row.invariant.1 s) (λ count e. ∣ all_counted c.args.self.now s count c.loop-row.row-iterator c.values-row-items.ensures.unique (rest_all deref c.loop-row.row-iterator c.next.new.self c.next.result c.in-None.is c.next.ensures.steps) e ∣₁)
