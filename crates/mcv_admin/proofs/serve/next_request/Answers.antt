use Rattle.std.proofs.Common.{◌∙◌, ◌+◌, None, arith, subst, sym, take}
use Rattle.std.specs.Io.KnownBytes.{Consumes}
use Rattle.mcv_admin.proofs.Coming.{HasCome, ended_there, enough_reads, known_read, more_has_come, nothing_has_come, some_read, still_none}
use Rattle.mcv_admin.proofs.serve.next_request.Goals as goal

pub loop-read-init : goal.loop-read-init
loop-read-init g c = record {
  come = nothing_has_come (g.I.Read.remaining c.args.reader.now) c.in_ok-coming.coming.request c.in_ok-coming.coming.known c.in_ok-coming.ensures.empty c.in_ok-coming.ensures.known
      c.in_ok-coming.ensures.answered;
  few = omega arith;
}

pub loop-read-preserved : goal.loop-read-preserved
loop-read-preserved g c =
    let start = g.I.Read.remaining c.args.reader.now in
    let between = g.I.Read.remaining c.loop-read.reader in
    let now = g.I.Read.remaining c.next_piece.new.reader in
    let held = c.loop-read.coming.request in
    let reads = c.loop-read._read in
    let none = still_none c.loop-read.coming.known (sym c.is_some.ensures ∙ c.if-is_some.false) in
    let before : HasCome start between reads held None = subst (λ known. HasCome start between reads held known) none c.loop-read.invariant.come in
    let come = more_has_come start between now reads held (take c.in_ok-count.count c.next_piece.new.room) c.take.new.self.request c.take.new.self.known before c.in_ok-count.ensures.read
    (some_read c.in_ok-count.count c.next_piece.new.room c.if-count-eq0.false c.in_ok-count.ensures.within) c.in_ok-take.ensures.taken c.in_ok-take.ensures.known
    c.in_ok-take.ensures.answered in
    record { come = come; few = enough_reads start now (reads + 1) c.take.new.self.request c.take.new.self.known come }

pub returns-then-is_some : goal.returns-then-is_some
returns-then-is_some g c =
    known_read (g.I.Read.remaining c.args.reader.now) (g.I.Read.remaining c.loop-read.reader) c.loop-read._read c.loop-read.coming.request c.loop-read.coming.known
    c.loop-read.invariant.come (sym c.is_some.ensures ∙ c.if-is_some.true)

pub returns-then-count-eq0 : goal.returns-then-count-eq0
returns-then-count-eq0 g c =
    let start = g.I.Read.remaining c.args.reader.now in
    let between = g.I.Read.remaining c.loop-read.reader in
    let now = g.I.Read.remaining c.next_piece.new.reader in
    let held = c.loop-read.coming.request in
    let reads = c.loop-read._read in
    let none = still_none c.loop-read.coming.known (sym c.is_some.ensures ∙ c.if-is_some.false) in
    let before : HasCome start between reads held None = subst (λ known. HasCome start between reads held known) none c.loop-read.invariant.come in
    ended_there start between now reads held before (subst (λ n. Consumes between now (take n c.next_piece.new.room)) c.if-count-eq0.true c.in_ok-count.ensures.read)
    (c.in_ok-count.ensures.ended c.if-count-eq0.true)
