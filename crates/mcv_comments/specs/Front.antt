-- How the front of a text shows what is there.
use Rattle.std.specs.Prelude.{◌≡◌, ◌≢◌, ◌<◌, ℕ, List, length, slice_index}
use Rattle.mcv_comments.specs.declared.front.Kind.{Kind}
use Rattle.mcv_comments.specs.declared.front.Kind.TheVariants.{Quote, Block, Line, Plain}

-- a quote, or a slash with a star or a slash behind it, or neither
abbrev pub ShownAs : List ℕ → Kind → Type 0
ShownAs text Quote = (0 < length text) × (slice_index text 0 ≡ 34)
ShownAs text Block = (1 < length text) × (slice_index text 0 ≡ 47) × (slice_index text 1 ≡ 42)
ShownAs text Line = (1 < length text) × (slice_index text 0 ≡ 47) × (slice_index text 1 ≡ 47)
ShownAs text Plain = (slice_index text 0 ≢ 34) × (slice_index text 0 ≡ 47 → (slice_index text 1 ≢ 42) × (slice_index text 1 ≢ 47))
