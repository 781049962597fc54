-- A text is cut at the ends of its lines.
use Rattle.std.proofs.Common.{◌≡◌, ◌≢◌, ◌∙◌, ℕ, ◌<◌, ◌^◌, ◌&&◌, Bool, true, false, List, [], ◌∷◌, ◌++◌, length, take, Some, None, refl, sym, ap, subst, append_assoc, append-nil}
use Rattle.std.specs.Prelude.{codes}
use Rattle.std.specs.List.{All, flat_map}
use Rattle.std.proofs.lemmas.Bool.{and_parts, true≢false}
use Rattle.std.proofs.lemmas.Grind.{flat_map-append}
use Rattle.std.proofs.lemmas.List.{take_at}
use Rattle.std.proofs.lemmas.List.Elements.{All-push}
use Rattle.memchr.specs.Find.{IsFirstByte, is_byte}
use Rattle.mcv_base.specs.Key.{lacks}
use Rattle.mcv_base.proofs.Cuts.{first_at_cut, none_at_cut}
use Rattle.mcv_cert.specs.Pair.{AreRising, IsPair, PairValue, is_behind}
use Rattle.mcv_cert.specs.Reading.{IsNoLine, Reading, Reads, Stops}
use Rattle.mcv_cert.specs.Fault.{IsFaultOfText, reading_of}
use Rattle.mcv_cert.specs.declared.fault.CertFault.{CertFault}
use Rattle.mcv_cert.specs.declared.fault.CertFault.TheVariants.{Text, Memory}
use Rattle.mcv_cert.specs.Text.{first_line, first_text, pair_line, pair_text}
use Rattle.mcv_cert.proofs.Clean.{text_lacks}
use Rattle.mcv_cert.proofs.Rising.{rising_push}
use Rattle.mcv_cert.proofs.Spelled.{first_cut, first_lacks, line_cut}

-- the first line of a text
first_line_is : (text line more : List ℕ) (end : ℕ) → lacks 10 line ≡ true → text ≡ line ++ 10 ∷ more → IsFirstByte (is_byte 10) text (Some end) → take end text ≡ line
first_line_is text line more end bare is first =
    let at : end ≡ length line = first_at_cut 10 text line more end is bare first in
    ap (take end) is ∙ take_at line (10 ∷ more) end (sym at)

module _ (w : ℕ) where
  -- no line without an end
  pub no_end : (text : List ℕ) → IsFirstByte (is_byte 10) text None → IsNoLine w text
  no_end text none = record {
    pair = λ p more is e. none_at_cut 10 text (pair_text w p) more (e ∙ line_cut w p more) none;
    last = λ more e. none_at_cut 10 text (codes "end") more e none;
  }

  pub no_line : (text : List ℕ) (end : ℕ) → IsFirstByte (is_byte 10) text (Some end) → take end text ≢ codes "end" → ((p : PairValue) → IsPair w p → take end text ≢ pair_text w p) → IsNoLine w text
  no_line text end first other none = record {
    pair = λ p more is e. none p is (first_line_is text (pair_text w p) more end (text_lacks w p is) (e ∙ line_cut w p more) first);
    last = λ more e. other (first_line_is text (codes "end") more end refl e first);
  }

-- ---- from line to line

-- what the reader knows when it has read so many pairs
pub record IsSoFar (w : ℕ) (body : List ℕ) (ps : List PairValue) (rest : List ℕ) : Type 0 where
  pub lines : body ≡ flat_map (pair_line w) ps ++ rest
  pub are_pairs : All (IsPair w) ps
  pub rising : AreRising ps

pub so_far_more : (w : ℕ) (body rest later : List ℕ) (ps : List PairValue) (p : PairValue) → IsSoFar w body ps rest → IsPair w p → rest ≡ pair_line w p ++ later → is_behind ps p ≡ true → IsSoFar w body (ps ++ p ∷ []) later
so_far_more w body rest later ps p so_far is line behind = record {
  lines =
      so_far.lines ∙ ap (λ xs. flat_map (pair_line w) ps ++ xs) line
      ∙ sym (append_assoc (flat_map (pair_line w) ps) (pair_line w p) later)
      ∙ ap (λ xs. xs ++ later) (sym (flat_map-append (pair_line w) ps (p ∷ []) ∙ ap (λ xs. flat_map (pair_line w) ps ++ xs) (append-nil (pair_line w p))));
  are_pairs = All-push (IsPair w) ps p so_far.are_pairs is;
  rising = rising_push ps p so_far.rising behind;
}

pub stopped : (w : ℕ) (body rest : List ℕ) (ps : List PairValue) (r : Reading) → IsSoFar w body ps rest → Stops w ps rest r → Reads w body r
stopped w body rest ps r so_far stops = record { ps = ps; rest = rest; lines = so_far.lines; are_pairs = so_far.are_pairs; rising = so_far.rising; stops = stops }

-- ---- what the reader answers

-- a pair that isn't taken though it has its eras and names its legs doesn't come behind the others
pub low_is : (a b c r : Bool) → a ≡ true → b ≡ true → r ≡ (a && b && c) → r ≡ false → c ≡ false
low_is true true c r eras named is none = sym is ∙ none
low_is true false c r eras named is none = absurd (true≢false (sym named))
low_is false b c r eras named is none = absurd (true≢false (sym eras))

pub high_is : (a b c r : Bool) → r ≡ (a && b && c) → r ≡ true → c ≡ true
high_is a b c r is all = (and_parts (a && b) c (sym is ∙ all)).1

-- ---- the first line

-- no first line without an end
pub no_head : (text : List ℕ) → IsFirstByte (is_byte 10) text None → (w : ℕ) (body : List ℕ) → w < 2 ^ 64 → text ≢ first_line w ++ body
no_head text none w body small e = none_at_cut 10 text (first_text w) body (e ∙ first_cut w body) none

-- nor where the first line of the text is that of no certificate
pub other_head : (text : List ℕ) (end : ℕ) → IsFirstByte (is_byte 10) text (Some end) → ((w : ℕ) → w < 2 ^ 64 → take end text ≢ first_text w) → (w : ℕ) (body : List ℕ) → w < 2 ^ 64 → text ≢ first_line w ++ body
other_head text end first none w body small e = none w small (first_line_is text (first_text w) body end (first_lacks w small) (e ∙ first_cut w body) first)

-- a text is its first line, the end of that, and what follows
pub head_cut : (text : List ℕ) (end w : ℕ) (later : List ℕ) → text ≡ take end text ++ 10 ∷ later → take end text ≡ first_text w → text ≡ first_line w ++ later
head_cut text end w later cut e = cut ∙ ap (λ line. line ++ 10 ∷ later) e ∙ sym (first_cut w later)

pub fault_of_reading : (f : CertFault) (x : Reading) (P : Reading → Type 0) → IsFaultOfText (λ s. x ≡ s) f → P x → IsFaultOfText P f
fault_of_reading (Text fault) x P e p = subst P e p
fault_of_reading Memory x P e p = tt

pub fault_weaker : (f : CertFault) (P Q : Reading → Type 0) → ((r : Reading) → P r → Q r) → IsFaultOfText P f → IsFaultOfText Q f
fault_weaker (Text fault) P Q more p = more (reading_of fault) p
fault_weaker Memory P Q more p = tt
