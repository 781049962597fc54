use Rattle.std.proofs.Common.{◌∙◌, ◌∷◌, [], ap}
use Rattle.std.proofs.lemmas.List.{map-append}
use Rattle.mcv_cert.specs.Pair.{CertificateValue, has_eras, is_behind, pair_of}
use Rattle.mcv_cert.specs.Place.{place_of}
use Rattle.mcv_cert.proofs.Rising.{certificate_push}
use Rattle.mcv_cert.proofs.certificate.Certificate.push.Goals as goal

pub invariant_of-self-2 : goal.invariant_of-self-2
invariant_of-self-2 c =
    rw (c.in_ok-push.ensures.items, map-append pair_of c.self.inside.pairs.items (c.args.pair ∷ []))
    (certificate_push _ _ _ c.self.invariant
    (ap (λ (x : CertificateValue). has_eras x.window (place_of c.args.pair.place).spot) c.self.view_is ∙ c.requires.eras)
    c.requires.legs (ap (λ (x : CertificateValue). is_behind x.pairs (pair_of c.args.pair)) c.self.view_is ∙ c.requires.behind))
