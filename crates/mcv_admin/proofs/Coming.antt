-- A request that comes piece by piece.
use Rattle.std.proofs.Common.{◌≡◌, ◌≢◌, ◌∙◌, ◌+◌, ◌<◌, ◌≤◌, ℕ, true, false, List, [], ◌++◌, Option, None, Some, Result, length, take, refl, sym, ap, subst, arith, append-nil, length-append}
use Rattle.std.proofs.KnownBytes.{Consumes-nil, Consumes-trans}
use Rattle.std.proofs.lemmas.List.{length-take}
use Rattle.std.specs.Prelude.{is_some}
use Rattle.std.specs.Io.KnownBytes.{Consumes, IsAtEnd}
use Rattle.mcv_http.proofs.Pieces.{take-take-append}
use Rattle.mcv_http.specs.Reading.{IsAnswered, IsKnown, byte_limit}
use Rattle.mcv_http.specs.declared.request.Request.{Request}
use Rattle.mcv_http.specs.declared.request.Refusal.{Refusal}
use Rattle.mcv_admin.specs.Serving.{EndsThere, IsRead}

-- so much has come of a request, in so many reads at least, and this is known from it
pub record HasCome (unread left : Option (List ℕ)) (reads : ℕ) (held : List ℕ) (known : Option (Result Request Refusal)) : Type 0 where
  pub bytes : List ℕ
  pub consumed : Consumes unread left bytes
  pub kept : held ≡ take byte_limit bytes
  pub is : IsKnown held known
  pub answered : IsAnswered held known
  pub many : reads ≤ length held

pub nothing_has_come : (unread : Option (List ℕ)) (held : List ℕ) (known : Option (Result Request Refusal)) → held ≡ take byte_limit ([] ++ []) → IsKnown held known → IsAnswered held known
    → HasCome unread unread 0 held known
nothing_has_come unread held known empty is answered = record {
  bytes = [];
  consumed = Consumes-nil unread;
  kept = empty;
  is = is;
  answered = answered;
  many = omega arith;
}

grows : (held piece : List ℕ) (reads : ℕ) → reads ≤ length held → length held < byte_limit → 0 < length piece → reads + 1 ≤ length (take byte_limit (held ++ piece))
grows held piece reads many short some = omega (arith, length-take byte_limit (held ++ piece), length-append held piece)

-- one more piece
pub more_has_come : (unread between left : Option (List ℕ)) (reads : ℕ) (held piece after : List ℕ) (known : Option (Result Request Refusal)) → HasCome unread between reads held None
    → Consumes between left piece → 0 < length piece → after ≡ take byte_limit (held ++ piece) → IsKnown after known → IsAnswered after known
    → HasCome unread left (reads + 1) after known
more_has_come unread between left reads held piece after known before more some taken is answered = record {
  bytes = before.bytes ++ piece;
  consumed = Consumes-trans unread between left _ _ before.consumed more;
  kept = taken ∙ (ap (λ (l : List ℕ). take byte_limit (l ++ piece)) before.kept ∙ take-take-append byte_limit before.bytes piece);
  is = is;
  answered = answered;
  many = subst (λ (l : List ℕ). reads + 1 ≤ length l) (sym taken) (grows held piece reads before.many before.is.2 some);
}

pub is_read : (unread left : Option (List ℕ)) (reads : ℕ) (held : List ℕ) (known : Option (Result Request Refusal)) → HasCome unread left reads held known → EndsThere left known
    → IsRead unread left known
is_read unread left reads held known come ended = record {
  bytes = come.bytes;
  reads = come.consumed;
  is = subst (λ (l : List ℕ). IsKnown l known) come.kept come.is;
  answered = subst (λ (l : List ℕ). IsAnswered l known) come.kept come.answered;
  ended = ended;
}

-- nothing more came
pub ended_there : (unread between left : Option (List ℕ)) (reads : ℕ) (held : List ℕ) → HasCome unread between reads held None → Consumes between left [] → IsAtEnd left
    → IsRead unread left None
ended_there unread between left reads held come none ended = record {
  bytes = come.bytes ++ [];
  reads = Consumes-trans unread between left _ _ come.consumed none;
  is = subst (λ (l : List ℕ). IsKnown l None) (come.kept ∙ sym (ap (take byte_limit) (append-nil come.bytes))) come.is;
  answered = subst (λ (l : List ℕ). IsAnswered l None) (come.kept ∙ sym (ap (take byte_limit) (append-nil come.bytes))) come.answered;
  ended = ended;
}

-- more reads than a head may have bytes aren't needed
pub enough_reads : (unread left : Option (List ℕ)) (reads : ℕ) (held : List ℕ) (known : Option (Result Request Refusal)) → HasCome unread left reads held known → reads ≤ byte_limit
enough_reads unread left reads held known come =
    omega (arith, come.many, subst (λ (l : List ℕ). length l ≤ byte_limit) (sym come.kept) (omega (arith, length-take byte_limit come.bytes)))

-- ---- by what is known

pub still_none : (known : Option (Result Request Refusal)) → is_some known ≡ false → known ≡ None
still_none None none = refl
still_none (Some k) none = absurd (let apart : true ≡ false = none in cc)

pub known_read : (unread left : Option (List ℕ)) (reads : ℕ) (held : List ℕ) (known : Option (Result Request Refusal)) → HasCome unread left reads held known → is_some known ≡ true
    → IsRead unread left known
known_read unread left reads held None come some = absurd (let apart : false ≡ true = some in cc)
known_read unread left reads held (Some k) come some = is_read unread left reads held (Some k) come tt

-- a read of so many bytes, of which there are some
pub some_read : (count : ℕ) (room : List ℕ) → count ≢ 0 → count ≤ length room → 0 < length (take count room)
some_read count room some within = omega (arith, length-take count room, some, within)

-- what wasn't there was none
pub none_left : (known : Option (Result Request Refusal)) → ((k : Result Request Refusal) → known ≡ Some k → ⊥) → known ≡ None
none_left None other = refl
none_left (Some k) other = absurd (other k refl)
