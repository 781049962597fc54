use Rattle.std.proofs.Common.{◌≡◌, ◌∙◌, [], ap, sym}
use Rattle.mcv_base.specs.Position.{position_text}
use Rattle.mcv_cert.specs.Pair.{names_legs, reason_of}
use Rattle.mcv_cert.specs.Place.{place_of}
use Rattle.mcv_cert.specs.Text.{reason_words}
use Rattle.mcv_cert.proofs.Meant.{not_some, some_is}
use Rattle.mcv_cert.proofs.Places.{behind_eras, class_word, eras_are, eras_of_window, first_word, not_empty, not_short, other_words, pair_is, pair_made, route_word}
use Rattle.mcv_cert.proofs.parse.pair_of_words.Goals as goal

pub returns-in_default-clause-meant : goal.returns-in_default-clause-meant
returns-in_default-clause-meant c = λ p is e. not_short c.args.words.now c.args.window p e c.in_default.len_below

pub returns-in_default-read_number-clause-meant : goal.returns-in_default-read_number-clause-meant
returns-in_default-read_number-clause-meant c = λ p is e. not_some c.read_number.result p.place.spot.route c.in_default-read_number.is (c.read_number.ensures p.place.spot.route is.fits.spot.route (route_word c.args.words.now c.args.window p e))

pub returns-in_default-read_eras-clause-meant : goal.returns-in_default-read_eras-clause-meant
returns-in_default-read_eras-clause-meant c = λ p is e.
    let some = c.read_eras.ensures.meant p.place.spot (behind_eras p) is.fits.spot is.eras (eras_are c.args.words.now c.args.window p e) in
    let none = rw c.in_default-read_eras.is at some in none

pub returns-in_default-behind-clause-meant : goal.returns-in_default-behind-clause-meant
returns-in_default-behind-clause-meant c = λ p is e.
    let eras = c.in-Some-read_eras.ensures.meant p.place.spot (behind_eras p) is.fits.spot is.eras (eras_are c.args.words.now c.args.window p e) in
    not_empty c.in-Some-read_eras.eras.behind.now (position_text p.place.leaf) (reason_words p.reason) eras.2 c.in_default-behind.len_below

pub returns-in_default-2-clause-meant : goal.returns-in_default-2-clause-meant
returns-in_default-2-clause-meant c = λ p is e.
    let some = c.in_ok-class.ensures p.place.spot.class is.fits.spot.class (class_word c.args.words.now c.args.window p e) in
    let none = rw c.in_default-2.is at some in absurd (cc)

pub returns-in_default-3-clause-meant : goal.returns-in_default-3-clause-meant
returns-in_default-3-clause-meant c = λ p is e.
    let eras = c.in-Some-read_eras.ensures.meant p.place.spot (behind_eras p) is.fits.spot is.eras (eras_are c.args.words.now c.args.window p e) in
    let some = c.in_ok-leaf.ensures p.place.leaf is.fits.leaf (first_word c.in-Some-read_eras.eras.behind.now (position_text p.place.leaf) (reason_words p.reason) eras.2) in
    let none = rw c.in_default-3.is at some in none

pub returns-in_default-4-clause-meant : goal.returns-in_default-4-clause-meant
returns-in_default-4-clause-meant c = λ p is e.
    let eras = c.in-Some-read_eras.ensures.meant p.place.spot (behind_eras p) is.fits.spot is.eras (eras_are c.args.words.now c.args.window p e) in
    let some = c.in_ok-reason.ensures.meant p.reason is.fits.reason is.legs (other_words c.in-Some-read_eras.eras.behind.now (position_text p.place.leaf) (reason_words p.reason) eras.2) in
    let none = rw c.in_default-4.is at some in none

pub returns-clause-meant : goal.returns-clause-meant
returns-clause-meant c = λ p is e.
    let route = some_is c.in-Some.route p.place.spot.route (c.in-Some.ensures p.place.spot.route is.fits.spot.route (route_word c.args.words.now c.args.window p e)) in
    let eras = c.in-Some-read_eras.ensures.meant p.place.spot (behind_eras p) is.fits.spot is.eras (eras_are c.args.words.now c.args.window p e) in
    let behind = c.in-Some-read_eras.eras.behind.now in
    let class-read = c.in_ok-class.ensures p.place.spot.class is.fits.spot.class (class_word c.args.words.now c.args.window p e) in
    let class = rw c.in-Some-2.is at class-read in
    let leaf-read = c.in_ok-leaf.ensures p.place.leaf is.fits.leaf (first_word behind (position_text p.place.leaf) (reason_words p.reason) eras.2) in
    let leaf = rw c.in-Some-3.is at leaf-read in
    let reason-read = c.in_ok-reason.ensures.meant p.reason is.fits.reason is.legs (other_words behind (position_text p.place.leaf) (reason_words p.reason) eras.2) in
    let reason = rw c.in-Some-4.is at reason-read in
    pair_made c.new-pair.result _ _ c.new-pair.ensures.place c.new-pair.ensures.reason
    ∙ pair_is p c.in-Some.route c.in-Some-2.class.items c.in-Some-read_eras.eras.era c.in-Some-read_eras.eras.get_era c.in-Some-3.leaf (reason_of c.in-Some-4.reason) route class eras.0 eras.1 leaf reason

pub returns-clause-fits : goal.returns-clause-fits
returns-clause-fits c =
    let legs = c.in_ok-reason.ensures.legs in
    let are = rw c.in-Some-4.is at legs in
    let place = c.new-pair.ensures.place in
    record {
      fits = c.new-pair.result.fits;
      legs = ap (λ r. names_legs (reason_of r)) c.new-pair.ensures.reason ∙ are;
      eras = eras_of_window c.args.window (place_of c.new-pair.result.place).spot (λ none. ap (λ x. (place_of x).spot.get_era) place ∙ c.in-Some-read_eras.ensures.one none ∙ ap (λ x. (place_of x).spot.era) (sym place));
    }
