-- Worked rows of the definitions.
use Rattle.std.proofs.Common.{◌≡◌, true, false, [], ◌∷◌, refl}
use Rattle.mcv_base.specs.declared.reply.FixedReply.TheVariants.{Miss}
use Rattle.mcv_base.specs.declared.reply.Part.TheVariants.{Fixed}
use Rattle.mcv_hub.specs.Gate.{is_half_full}
use Rattle.mcv_hub.specs.Weights.{bytes_of}
use Rattle.mcv_hub.specs.declared.entry.Entry.TheVariants.{Answered, Spooled}

-- ---- is_half_full

-- half of 1,000,000
half : is_half_full 0 500000 ≡ true
half = refl

one_less : is_half_full 0 499999 ≡ false
one_less = refl

-- with 600,000 legs in the spool there is room for 400,000 entries, and 200,000 are half of it
with_a_spool : is_half_full 600000 800000 ≡ true
with_a_spool = refl

one_less_with_it : is_half_full 600000 799999 ≡ false
one_less_with_it = refl

-- with no room nothing is gained
with_a_full_spool : is_half_full 1000000 1000000 ≡ false
with_a_full_spool = refl

-- ---- bytes_of

nothing : bytes_of [] ≡ 0
unfolding bytes_of
nothing = refl

-- an entry that holds nothing of its own
two_entries : bytes_of (Answered (record { 0 = 3 }) (Fixed Miss) ∷ Spooled (record { 0 = 4 }) ∷ []) ≡ 256
unfolding bytes_of
two_entries = refl
