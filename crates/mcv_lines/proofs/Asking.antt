-- Each step of a probe keeps it that `version` is written, and that the reader has what was read.
use Rattle.std.proofs.Common.{◌≡◌, ◌∙◌, ℕ, List, [], ◌++◌, codes, take, drop, refl, sym, ap, subst, append-nil, append_assoc, Option, Some, None, Result, Ok, Err}
use Rattle.std.proofs.KnownBytes.{Appends-kept, Appends-nil, Appends-trans, Consumes-kept, Consumes-nil, Consumes-trans}
use Rattle.std.proofs.lemmas.List.{take-append-drop}
use Rattle.std.specs.Io.KnownBytes.{Consumes, Keeps}
use Rattle.std.specs.declared.alloc.Global.{Global}
use Rattle.std.specs.declared.vec.Vec.{Vec}
use Rattle.mcv_reply.specs.Probe.{FeedsProbe}
use Rattle.mcv_reply.specs.Reader.{ReaderState, Fed, Answered, Closed}
use Rattle.mcv_reply.specs.Reply.{SpellsVersion}
use Rattle.mcv_reply.specs.declared.fault.ReplyFault.{ReplyFault}
use Rattle.mcv_reply.specs.declared.fault.ReplyFault.TheVariants as faults
use Rattle.mcv_lines.specs.Channel.{Ends}
use Rattle.mcv_lines.specs.Probe.{FeedsPiece, HasFed, IsProbe, ProbeValue, ReadsAnswer, WritesProbe}
use Rattle.mcv_lines.specs.declared.took.Heard.{Heard}
use Rattle.mcv_lines.specs.declared.took.Heard.TheVariants as heard
use Rattle.mcv_lines.specs.declared.took.Wrote.{Wrote}

pub probe_begins : (reader : ReaderState) (output : List ℕ) (ends : Ends) → reader ≡ Fed [] → output ≡ codes "version\r\n" → IsProbe (record { reader = reader; output = output; ends = ends })
probe_begins reader output ends fresh asks = record {
  opened = ends;
  written = [];
  writes = Appends-nil ends.given;
  whole = asks;
  heard = [];
  reads = Consumes-nil ends.left;
  fed = subst (λ (r : ReaderState). HasFed [] r) (sym fresh) refl;
}

pub probe_written : (old new : ProbeValue) (result : Wrote) → IsProbe old → WritesProbe old result new → IsProbe new
probe_written old new result p w =
    let count = w.writes.count in
    record {
      opened = p.opened;
      written = p.written ++ take count old.output;
      writes = Appends-trans p.opened.given old.ends.given new.ends.given p.written (take count old.output) p.writes w.writes.given;
      whole =
          ap (λ (rest : List ℕ). (p.written ++ take count old.output) ++ rest) w.writes.rest ∙ append_assoc p.written (take count old.output) (drop count old.output)
          ∙ ap (λ (all : List ℕ). p.written ++ all) (take-append-drop count old.output) ∙ p.whole;
      heard = p.heard;
      reads = Consumes-kept p.opened.left old.ends.left new.ends.left p.heard p.reads w.unread;
      fed = subst (λ (r : ReaderState). HasFed p.heard r) (sym w.reader) p.fed;
    }

fed_more : (bytes piece : List ℕ) (old new : ReaderState) (result : Result (Option (Vec ℕ Global)) ReplyFault) → HasFed bytes old → FeedsProbe old piece result new → HasFed (bytes ++ piece) new
fed_more bytes piece (Fed fed) new (Ok (Some version)) h f =
    subst (λ (r : ReaderState). HasFed (bytes ++ piece) r) (sym f.1) (version.items, subst (λ (b : List ℕ). SpellsVersion (b ++ piece) version.items) h f.0)
fed_more bytes piece (Fed fed) new (Ok None) h f = subst (λ (r : ReaderState). HasFed (bytes ++ piece) r) (sym f.1) (ap (λ (b : List ℕ). b ++ piece) h)
fed_more bytes piece (Fed fed) new (Err faults.NotAReply) h f = subst (λ (r : ReaderState). HasFed (bytes ++ piece) r) (sym f.1) tt
fed_more bytes piece (Fed fed) new (Err faults.Closed) h f = absurd f
fed_more bytes piece (Fed fed) new (Err faults.Memory) h f = subst (λ (r : ReaderState). HasFed (bytes ++ piece) r) (sym f) tt
fed_more bytes piece Answered new result h f = subst (λ (r : ReaderState). HasFed (bytes ++ piece) r) (sym f.1) tt
fed_more bytes piece Closed new result h f = subst (λ (r : ReaderState). HasFed (bytes ++ piece) r) (sym f.1) tt

module _ (old new : ProbeValue) (p : IsProbe old) (given : Keeps old.ends.given new.ends.given) (output : new.output ≡ old.output) where
  probe_fed : (piece : List ℕ) (result : Result (Option (Vec ℕ Global)) ReplyFault) → FeedsPiece old.reader old.ends.left piece result new.reader new.ends.left → IsProbe new
  probe_fed piece result f = record {
    opened = p.opened;
    written = p.written;
    writes = Appends-kept p.opened.given old.ends.given new.ends.given p.written p.writes given;
    whole = ap (λ (rest : List ℕ). p.written ++ rest) output ∙ p.whole;
    heard = p.heard ++ piece;
    reads = Consumes-trans p.opened.left old.ends.left new.ends.left p.heard piece p.reads f.left;
    fed = fed_more p.heard piece old.reader new.reader result p.fed f.feeds;
  }

  probe_unread : new.reader ≡ old.reader → Consumes old.ends.left new.ends.left [] → IsProbe new
  probe_unread same left = record {
    opened = p.opened;
    written = p.written;
    writes = Appends-kept p.opened.given old.ends.given new.ends.given p.written p.writes given;
    whole = ap (λ (rest : List ℕ). p.written ++ rest) output ∙ p.whole;
    heard = p.heard ++ [];
    reads = Consumes-trans p.opened.left old.ends.left new.ends.left p.heard [] p.reads left;
    fed = subst (λ (r : ReaderState). HasFed (p.heard ++ []) r) (sym same) (subst (λ (b : List ℕ). HasFed b old.reader) (sym (append-nil p.heard)) p.fed);
  }

  pub probe_read : (room : List ℕ) (result : Heard) → ReadsAnswer old.reader old.ends.left room result new.reader new.ends.left → IsProbe new
  probe_read room (heard.Bytes n) r = probe_fed (take n room) (Ok None) r.1
  probe_read room heard.NotNow r = probe_unread r.0 r.1
  probe_read room heard.Over r = probe_unread r.0 r.1
  probe_read room heard.Faulty r = probe_fed (take r.0 room) (Err r.1) r.3
  probe_read room heard.Answers r = probe_fed (take r.0 room) (Ok (Some r.1)) r.3
