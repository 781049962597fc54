use Rattle.std.proofs.Common.{⊎_elim, inl, inr, ap, sym, ◌∙◌, not}
use Rattle.std.specs.Prelude.{slice_index_or, None}
use Rattle.mcv_spool.specs.History.{spool_state}
use Rattle.mcv_spool.proofs.Histories.{pending_or_done, sound}
use Rattle.mcv_spool.proofs.spool.Spool.pending.Goals as goal

pub returns-clause-kept : goal.returns-clause-kept
returns-clause-kept g c = λ model reported so_far ready r k number.
    let w = spool_state c.args.self.now.disk c.args.self.now.needs_reopen in
    let file = g.D.Disk.seen c.args.self.now.disk in
    let known = sound g.D.Disk.seen g.D.Disk.may_leave g.D.Disk.moment g.D.Disk.left_since (g.met.D.Disk.read_may_stay model) (g.met.D.Disk.counts_now model) (g.met.D.Disk.only_now model) reported w so_far in
    let found = (c.args.self.now.settled model ready).found in
    ⊎_elim (λ done. inl done) (λ there. inr (ap (λ slots. slice_index_or slots k None) (c.slots.ensures ∙ found.undone) ∙ there))
    (pending_or_done reported file (known.whole (ap not ready)) (known.crash file (g.met.D.Disk.read_may_stay model c.args.self.now.disk)) r k number)
