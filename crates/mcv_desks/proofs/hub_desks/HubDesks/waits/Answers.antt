use Rattle.std.proofs.Common.{◌≡◌, ◌<◌, ℕ, arith, subst, sym, true}
use Rattle.std.specs.Prelude.{◌↔◌}
use Rattle.std.specs.VecDeque.{deque_len}
use Rattle.mcv_desks.proofs.EightDesks.{is0, is1, is2, is3, is4, is5, is6, is7}
use Rattle.mcv_desks.proofs.hub_desks.HubDesks.waits.Goals as goal

pub returns-in-0 : goal.returns-in-0
returns-in-0 g c = let d = c.args.self.now in subst (λ (n : ℕ). (c.waits.result ≡ true) ↔ (0 < n)) (sym (is0 (deque_len d.desk0.entering) (deque_len d.desk1.entering) (deque_len d.desk2.entering) (deque_len d.desk3.entering) (deque_len d.desk4.entering) (deque_len d.desk5.entering) (deque_len d.desk6.entering) (deque_len d.desk7.entering) c.args.hub c.in-0.is)) c.waits.ensures

pub returns-in-1 : goal.returns-in-1
returns-in-1 g c = let d = c.args.self.now in subst (λ (n : ℕ). (c.waits-in-1.result ≡ true) ↔ (0 < n)) (sym (is1 (deque_len d.desk0.entering) (deque_len d.desk1.entering) (deque_len d.desk2.entering) (deque_len d.desk3.entering) (deque_len d.desk4.entering) (deque_len d.desk5.entering) (deque_len d.desk6.entering) (deque_len d.desk7.entering) c.args.hub c.in-1.is)) c.waits-in-1.ensures

pub returns-in-2 : goal.returns-in-2
returns-in-2 g c = let d = c.args.self.now in subst (λ (n : ℕ). (c.waits-in-2.result ≡ true) ↔ (0 < n)) (sym (is2 (deque_len d.desk0.entering) (deque_len d.desk1.entering) (deque_len d.desk2.entering) (deque_len d.desk3.entering) (deque_len d.desk4.entering) (deque_len d.desk5.entering) (deque_len d.desk6.entering) (deque_len d.desk7.entering) c.args.hub c.in-2.is)) c.waits-in-2.ensures

pub returns-in-3 : goal.returns-in-3
returns-in-3 g c = let d = c.args.self.now in subst (λ (n : ℕ). (c.waits-in-3.result ≡ true) ↔ (0 < n)) (sym (is3 (deque_len d.desk0.entering) (deque_len d.desk1.entering) (deque_len d.desk2.entering) (deque_len d.desk3.entering) (deque_len d.desk4.entering) (deque_len d.desk5.entering) (deque_len d.desk6.entering) (deque_len d.desk7.entering) c.args.hub c.in-3.is)) c.waits-in-3.ensures

pub returns-in-4 : goal.returns-in-4
returns-in-4 g c = let d = c.args.self.now in subst (λ (n : ℕ). (c.waits-in-4.result ≡ true) ↔ (0 < n)) (sym (is4 (deque_len d.desk0.entering) (deque_len d.desk1.entering) (deque_len d.desk2.entering) (deque_len d.desk3.entering) (deque_len d.desk4.entering) (deque_len d.desk5.entering) (deque_len d.desk6.entering) (deque_len d.desk7.entering) c.args.hub c.in-4.is)) c.waits-in-4.ensures

pub returns-in-5 : goal.returns-in-5
returns-in-5 g c = let d = c.args.self.now in subst (λ (n : ℕ). (c.waits-in-5.result ≡ true) ↔ (0 < n)) (sym (is5 (deque_len d.desk0.entering) (deque_len d.desk1.entering) (deque_len d.desk2.entering) (deque_len d.desk3.entering) (deque_len d.desk4.entering) (deque_len d.desk5.entering) (deque_len d.desk6.entering) (deque_len d.desk7.entering) c.args.hub c.in-5.is)) c.waits-in-5.ensures

pub returns-in-6 : goal.returns-in-6
returns-in-6 g c = let d = c.args.self.now in subst (λ (n : ℕ). (c.waits-in-6.result ≡ true) ↔ (0 < n)) (sym (is6 (deque_len d.desk0.entering) (deque_len d.desk1.entering) (deque_len d.desk2.entering) (deque_len d.desk3.entering) (deque_len d.desk4.entering) (deque_len d.desk5.entering) (deque_len d.desk6.entering) (deque_len d.desk7.entering) c.args.hub c.in-6.is)) c.waits-in-6.ensures

pub returns-in_default : goal.returns-in_default
returns-in_default g c = let d = c.args.self.now in subst (λ (n : ℕ). (c.waits-in_default.result ≡ true) ↔ (0 < n)) (sym (is7 (deque_len d.desk0.entering) (deque_len d.desk1.entering) (deque_len d.desk2.entering) (deque_len d.desk3.entering) (deque_len d.desk4.entering) (deque_len d.desk5.entering) (deque_len d.desk6.entering) (deque_len d.desk7.entering) c.args.hub (omega arith))) c.waits-in_default.ensures
