-- Where a server text is cut.
use Rattle.std.proofs.Common.{◌≡◌, ◌≢◌, ℕ, zero, suc, ◌+◌, ◌-◌, ◌<◌, Bool, true, false, cond, eqb, ◌&&◌, true≢false, List, [], ◌∷◌, ◌++◌, length, get_or, take, drop, Option, Some, None, refl, sym, ap, ◌∙◌, arith, ◌≤◌, nat_lt, length-append}
use Rattle.std.proofs.lemmas.Bool.Decides.{Decides-eqb, nat_tests}
use Rattle.std.proofs.lemmas.Grind.{common_steps}
use Rattle.std.proofs.lemmas.List.Folds.{list_all_at}
use Rattle.std.specs.Char.{is_ascii_digit}
use Rattle.std.specs.List.{list_all}
use Rattle.mcv_base.proofs.Cuts.{both}
use Rattle.mcv_base.specs.Server.{colon, is_host, is_port, is_server, server_at, last_below, IsServer}

step : (b : ℕ) (text : List ℕ) (n i : ℕ) (t : Bool) → eqb (get_or text n 0) b ≡ t → i < suc n → get_or text i 0 ≡ b → ((k : ℕ) → i < k → k < suc n → get_or text k 0 ≢ b)
    → (i < n → last_below b text n ≡ Some i) → cond t (Some n) (last_below b text n) ≡ Some i
step b text n i true e h here none before =
    let at : get_or text n 0 ≡ b = (Decides-eqb (get_or text n 0) b).0 e in
    let same : n ≡ i = omega (arith, λ (l : i < n). none n l (omega arith) at) in
    ap Some same
step b text n i false e h here none before =
    let other : (i ≡ n → ⊥) = λ (s : i ≡ n). true≢false (sym ((Decides-eqb (get_or text n 0) b).1 (ap (λ k. get_or text k 0) (sym s) ∙ here)) ∙ e) in
    before (omega (arith, other))

pub last_is : (b : ℕ) (text : List ℕ) (n i : ℕ) → i < n → get_or text i 0 ≡ b → ((k : ℕ) → i < k → k < n → get_or text k 0 ≢ b) → last_below b text n ≡ Some i
last_is b text zero i h e none = absurd (omega arith)
last_is b text (suc n) i h e none = step b text n i (eqb (get_or text n 0) b) refl h e none (λ l. last_is b text n i l e (λ k p q. none k p (omega arith)))

found_step : (b : ℕ) (text : List ℕ) (n i : ℕ) (t : Bool) → eqb (get_or text n 0) b ≡ t → (last_below b text n ≡ Some i → (i < n) × (get_or text i 0 ≡ b))
    → cond t (Some n) (last_below b text n) ≡ Some i → (i < suc n) × (get_or text i 0 ≡ b)
found_step b text n i true e before h =
    let same : n ≡ i = cc in
    (omega arith, ap (λ k. get_or text k 0) (sym same) ∙ (Decides-eqb (get_or text n 0) b).0 e)
found_step b text n i false e before h = let r = before h in (omega (arith, r.0), r.1)

pub last_found : (b : ℕ) (text : List ℕ) (n i : ℕ) → last_below b text n ≡ Some i → (i < n) × (get_or text i 0 ≡ b)
last_found b text zero i h = cc
last_found b text (suc n) i h = found_step b text n i (eqb (get_or text n 0) b) refl (last_found b text n i) h

digit_at : (port : List ℕ) (k : ℕ) (t : Bool) → is_ascii_digit (get_or port k 0) ≡ t → list_all is_ascii_digit port ≡ true → k < length port → t ≡ true
digit_at port k true e all h = refl
digit_at port k false e all h = absurd (true≢false (sym all ∙ list_all_at is_ascii_digit port k 0 h e))

no_colon : (port : List ℕ) (k : ℕ) → is_port port ≡ true → k < length port → get_or port k 0 ≢ colon
unfolding is_port
no_colon port k h l c =
    let digits = (both _ _ (both _ _ (both _ _ h).1).1).0 in
    let d = digit_at port k (is_ascii_digit (get_or port k 0)) refl digits l in
    true≢false (sym d ∙ ap is_ascii_digit c)

cut_at : (text : List ℕ) (o : Option ℕ) → last_below colon text (length text) ≡ o → server_at text o ≡ true → IsServer text
cut_at text None e h = absurd (true≢false (sym h))
cut_at text (Some i) e h =
    let found = last_found colon text (length text) i e in
    let parts = both _ _ h in
    let l : i < length text = found.0 in
    let c : get_or text i 0 ≡ colon = found.1 in
    let whole : text ≡ take i text ++ colon ∷ drop (i + 1) text = grind (arith, common_steps) in
    (take i text, drop (i + 1) text, whole, parts.0, parts.1)

below : (n m : ℕ) (b : Bool) → (nat_lt n m && b) ≡ true → n < m
below n m b h = grind (arith, nat_tests)

short_host : (host : List ℕ) → is_host host ≡ true → length host ≤ 255
unfolding is_host
short_host host h = let l : length host < 256 = below (length host) 256 _ (both _ _ h).1 in omega (arith, l)

short_port : (port : List ℕ) → is_port port ≡ true → length port ≤ 5
unfolding is_port
short_port port h = let l : length port < 6 = below (length port) 6 _ (both _ _ h).1 in omega (arith, l)

pub server_has_parts : (text : List ℕ) → is_server text ≡ true → IsServer text
unfolding is_server
server_has_parts text h = cut_at text (last_below colon text (length text)) refl h

-- 255 bytes, a colon and 5 digits at most
pub server_short : (text : List ℕ) → is_server text ≡ true → length text ≤ 261
server_short text h =
    let w = server_has_parts text h in
    let host_short : length w.0 ≤ 255 = short_host w.0 w.3 in
    let port_short : length w.1 ≤ 5 = short_port w.1 w.4 in
    omega (arith, host_short, port_short, ap length w.2, length-append w.0 (colon ∷ w.1))

parts_last : (host port : List ℕ) → is_port port ≡ true → last_below colon (host ++ colon ∷ port) (length (host ++ colon ∷ port)) ≡ Some (length host)
parts_last host port h =
    let text = host ++ colon ∷ port in
    let n : length text ≡ length host + suc (length port) = grind (arith, common_steps) in
    let here : get_or text (length host) 0 ≡ colon = grind (arith, common_steps) in
    last_is colon text (length text) (length host) (omega arith) here
    (λ k p q. λ c. let behind : get_or text k 0 ≡ get_or port (k - length host - 1) 0 = grind (arith, common_steps) in no_colon port (k - length host - 1) h (omega arith) (sym behind ∙ c))

behind_cut : (host port : List ℕ) (c : ℕ) → drop (suc (length host)) (host ++ c ∷ port) ≡ port
behind_cut [] port c = refl
behind_cut (h ∷ host) port c = behind_cut host port c

pub parts_make_server : (text : List ℕ) → IsServer text → is_server text ≡ true
unfolding is_server
parts_make_server text w =
    let host = w.0 in
    let port = w.1 in
    let place = parts_last host port w.4 in
    let front : take (length host) (host ++ colon ∷ port) ≡ host = grind (arith, common_steps) in
    let next : length host + 1 ≡ suc (length host) = omega arith in
    let back : drop (length host + 1) (host ++ colon ∷ port) ≡ port = ap (λ n. drop n (host ++ colon ∷ port)) next ∙ behind_cut host port colon in
    rw (w.2, place, front, back, w.3, w.4)
