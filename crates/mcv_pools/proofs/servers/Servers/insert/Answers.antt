use Rattle.std.proofs.Common.{refl, sym, ap, ◌∙◌, ◌≡◌, length, map, true, false, true≢false, ◌++◌, ◌∷◌, [], arith}
use Rattle.std.proofs.lemmas.List.{length-map}
use Rattle.std.specs.Str.{bytes_eq}
use Rattle.std.specs.String.{string_bytes}
use Rattle.std.specs.Cmp.Lexicographic.{bytes_decides}
use Rattle.mcv_pools.specs.Table.{is_in}
use Rattle.mcv_pools.proofs.Tables.{kept, is_at_number, there, new, grown, inserted, numbered_last, at_end}
use Rattle.mcv_pools.proofs.servers.Servers.insert.Goals as goal

pub returns-in-Some-clause-table : goal.returns-in-Some-clause-table
returns-in-Some-clause-table c = kept bytes_eq bytes_decides c.args.self.now c.args.text.now c.in-Some.id.0 (sym c.in-Some.ensures)

pub returns-in-Some-clause-place : goal.returns-in-Some-clause-place
returns-in-Some-clause-place c = is_at_number bytes_eq bytes_decides c.args.self.now c.args.text.now c.in-Some.id.0 (sym c.in-Some.ensures)

pub returns-in-Some-clause-full : goal.returns-in-Some-clause-full
returns-in-Some-clause-full c =
    let known : is_in bytes_eq c.args.self.now c.args.text.now ≡ true = there bytes_eq bytes_decides c.args.self.now c.args.text.now c.in-Some.id.0 (sym c.in-Some.ensures) in
    (λ e. cc, λ h. absurd (true≢false (sym known ∙ h.1)))

pub returns-then-number-ge-SERVER_LIMIT-clause-known :
    goal.returns-then-number-ge-SERVER_LIMIT-clause-known
returns-then-number-ge-SERVER_LIMIT-clause-known c = λ known. sym (new bytes_eq bytes_decides c.args.self.now c.args.text.now (sym c.in_default.ensures)) ∙ known

pub returns-then-number-ge-SERVER_LIMIT-clause-full :
    goal.returns-then-number-ge-SERVER_LIMIT-clause-full
returns-then-number-ge-SERVER_LIMIT-clause-full c =
    let same_len : length c.args.self.now ≡ length c.self.inside.texts.keys = ap length (sym c.self.view_is) ∙ length-map c.self.inside.texts.keys (λ t. string_bytes t) in
    (λ e. (omega arith, new bytes_eq bytes_decides c.args.self.now c.args.text.now (sym c.in_default.ensures)), λ h. refl)

pub returns-in_err-owned-clause-known : goal.returns-in_err-owned-clause-known
returns-in_err-owned-clause-known c = λ known. absurd (true≢false (sym known ∙ new bytes_eq bytes_decides c.args.self.now c.args.text.now (sym c.in_default.ensures)))

pub returns-in_err-insert-clause-known : goal.returns-in_err-insert-clause-known
returns-in_err-insert-clause-known c = λ known. absurd (true≢false (sym known ∙ new bytes_eq bytes_decides c.args.self.now c.args.text.now (sym c.in_default.ensures)))

longer : (c : goal.In_ok-insert) → map (λ t. string_bytes t) c.insert.new.self.keys ≡ c.args.self.now ++ c.args.text.now ∷ []
longer c =
    let absent : is_in bytes_eq (map (λ t. string_bytes t) c.self.inside.texts.keys) (string_bytes c.in_ok-owned.owned) ≡ false =
    (λ i. is_in bytes_eq (c.self.view_is i) (c.in_ok-owned.ensures.ok i)) ∙ new bytes_eq bytes_decides c.args.self.now c.args.text.now (sym c.in_default.ensures) in
    ap (map (λ t. string_bytes t)) c.in_ok-insert.ensures.keys
    ∙ inserted bytes_eq (λ t. string_bytes t) c.self.inside.texts.keys c.in_ok-owned.owned absent
    ∙ (λ i. c.self.view_is i ++ c.in_ok-owned.ensures.ok i ∷ [])

counted : (c : goal.In_ok-insert) → c.len-number.result ≡ length c.args.self.now
counted c = c.len-number.ensures.len ∙ sym (length-map c.self.inside.texts.keys (λ t. string_bytes t)) ∙ ap length c.self.view_is

pub returns-clause-table : goal.returns-clause-table
returns-clause-table c = longer c ∙ sym (grown bytes_eq bytes_decides c.args.self.now c.args.text.now (sym c.in_default.ensures))

pub returns-clause-number : goal.returns-clause-number
returns-clause-number c = rw (longer c, counted c) (numbered_last bytes_eq bytes_decides c.args.self.now c.args.text.now (sym c.in_default.ensures))

pub returns-clause-place : goal.returns-clause-place
returns-clause-place c = rw (longer c, counted c) (at_end c.args.self.now c.args.text.now)
