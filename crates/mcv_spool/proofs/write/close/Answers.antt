use Rattle.std.proofs.Common.{◌≡◌, ◌+◌, min, [], ◌∷◌, List, ℕ, length, take, subst, sym, ap, ◌∙◌, arith, length-take}
use Rattle.mcv_spool.specs.Disk.{Cut, Torn, written}
use Rattle.mcv_spool.specs.File.{IsClosed, slots}
use Rattle.mcv_spool.proofs.Moments.{after_run, weaker}
use Rattle.mcv_spool.proofs.Repair.{cut_keeps, gate_closed, gate_keeps}
use Rattle.mcv_spool.proofs.Slots.{within}
use Rattle.mcv_spool.proofs.write.close.Goals as goal

pub cut_through-requires : goal.cut_through-requires
cut_through-requires g c = λ model. omega (arith, c.min-kept.ensures, c.requires.len model)

pub returns-in_err-cut_through-clause-any_moment : goal.returns-in_err-cut_through-clause-any_moment
returns-in_err-cut_through-clause-any_moment g c = λ model.
    let old = c.args.disk.now in
    let mid = c.cut_through.new.disk in
    let file = g.D.Disk.seen old in
    let kept = c.min-kept.result in
    let end_is = c.requires.end model in
    let kept_is : kept ≡ min (length file) (c.args.end + 1) = omega (arith, c.min-kept.ensures, c.requires.len model) in
    let P : List ℕ → Type 0 = λ f. slots f ≡ slots file in
    let cut = weaker g.D.Disk.seen g.D.Disk.may_leave g.D.Disk.moment g.D.Disk.left_since old mid _ P (c.cut_through.ensures.any_moment model)
    (λ f from. cut_keeps file (c.requires.not_closed model) c.args.end kept end_is kept_is f (subst (λ (d : List ℕ). Cut kept d f) (c.requires.durable model from.0 from.1) from.2)) in
    cut

pub write_through-requires : goal.write_through-requires
write_through-requires g c = λ model.
    let old = c.args.disk.now in
    let mid = c.cut_through.new.disk in
    let file = g.D.Disk.seen old in
    let kept = c.min-kept.result in
    let end_is = c.requires.end model in
    let kept_is : kept ≡ min (length file) (c.args.end + 1) = omega (arith, c.min-kept.ensures, c.requires.len model) in
    let before : g.D.Disk.seen mid ≡ take kept file = c.in_ok-cut_through.ensures.cut model in
    omega (arith, ap length before, length-take kept file, kept_is, end_is, within file)

pub returns-in_err-write_through-clause-any_moment : goal.returns-in_err-write_through-clause-any_moment
returns-in_err-write_through-clause-any_moment g c = λ model.
    let old = c.args.disk.now in
    let mid = c.cut_through.new.disk in
    let file = g.D.Disk.seen old in
    let kept = c.min-kept.result in
    let end_is = c.requires.end model in
    let kept_is : kept ≡ min (length file) (c.args.end + 1) = omega (arith, c.min-kept.ensures, c.requires.len model) in
    let P : List ℕ → Type 0 = λ f. slots f ≡ slots file in
    let cut = weaker g.D.Disk.seen g.D.Disk.may_leave g.D.Disk.moment g.D.Disk.left_since old mid _ P (c.cut_through.ensures.any_moment model)
    (λ f from. cut_keeps file (c.requires.not_closed model) c.args.end kept end_is kept_is f (subst (λ (d : List ℕ). Cut kept d f) (c.requires.durable model from.0 from.1) from.2)) in
    after_run g.D.Disk.seen g.D.Disk.may_leave g.D.Disk.moment g.D.Disk.left_since old mid c.write_through.new.disk P _ cut (c.write_through.ensures.any_moment model)
    (λ f torn.
    let before : torn.0 ≡ take kept file = c.in_ok-cut_through.ensures.durable model torn.0 torn.1 ∙ c.in_ok-cut_through.ensures.cut model in
    gate_keeps file (c.requires.not_closed model) c.args.end kept end_is kept_is f (subst (λ (d : List ℕ). Torn c.args.end 1 d f) before torn.2))

pub returns-clause-any_moment : goal.returns-clause-any_moment
returns-clause-any_moment g c = λ model.
    let old = c.args.disk.now in
    let mid = c.cut_through.new.disk in
    let file = g.D.Disk.seen old in
    let kept = c.min-kept.result in
    let end_is = c.requires.end model in
    let kept_is : kept ≡ min (length file) (c.args.end + 1) = omega (arith, c.min-kept.ensures, c.requires.len model) in
    let P : List ℕ → Type 0 = λ f. slots f ≡ slots file in
    let cut = weaker g.D.Disk.seen g.D.Disk.may_leave g.D.Disk.moment g.D.Disk.left_since old mid _ P (c.cut_through.ensures.any_moment model)
    (λ f from. cut_keeps file (c.requires.not_closed model) c.args.end kept end_is kept_is f (subst (λ (d : List ℕ). Cut kept d f) (c.requires.durable model from.0 from.1) from.2)) in
    after_run g.D.Disk.seen g.D.Disk.may_leave g.D.Disk.moment g.D.Disk.left_since old mid c.write_through.new.disk P _ cut (c.write_through.ensures.any_moment model)
    (λ f torn.
    let before : torn.0 ≡ take kept file = c.in_ok-cut_through.ensures.durable model torn.0 torn.1 ∙ c.in_ok-cut_through.ensures.cut model in
    gate_keeps file (c.requires.not_closed model) c.args.end kept end_is kept_is f (subst (λ (d : List ℕ). Torn c.args.end 1 d f) before torn.2))

pub returns-clause-slots : goal.returns-clause-slots
returns-clause-slots g c = λ model.
    let old = c.args.disk.now in
    let mid = c.cut_through.new.disk in
    let file = g.D.Disk.seen old in
    let kept = c.min-kept.result in
    let end_is = c.requires.end model in
    let kept_is : kept ≡ min (length file) (c.args.end + 1) = omega (arith, c.min-kept.ensures, c.requires.len model) in
    let before : g.D.Disk.seen mid ≡ take kept file = c.in_ok-cut_through.ensures.cut model in
    let is : g.D.Disk.seen c.write_through.new.disk ≡ written (take kept file) c.args.end (0 ∷ []) = c.in_ok-write_through.ensures.written model ∙ ap (λ (l : List ℕ). written l c.args.end (0 ∷ [])) before in
    let there = gate_closed file (c.requires.not_closed model) c.args.end kept end_is kept_is in
    ap slots is ∙ there.0

pub returns-clause-closed : goal.returns-clause-closed
returns-clause-closed g c = λ model.
    let old = c.args.disk.now in
    let mid = c.cut_through.new.disk in
    let file = g.D.Disk.seen old in
    let kept = c.min-kept.result in
    let end_is = c.requires.end model in
    let kept_is : kept ≡ min (length file) (c.args.end + 1) = omega (arith, c.min-kept.ensures, c.requires.len model) in
    let before : g.D.Disk.seen mid ≡ take kept file = c.in_ok-cut_through.ensures.cut model in
    let is : g.D.Disk.seen c.write_through.new.disk ≡ written (take kept file) c.args.end (0 ∷ []) = c.in_ok-write_through.ensures.written model ∙ ap (λ (l : List ℕ). written l c.args.end (0 ∷ [])) before in
    let there = gate_closed file (c.requires.not_closed model) c.args.end kept end_is kept_is in
    subst IsClosed (sym is) there.1
