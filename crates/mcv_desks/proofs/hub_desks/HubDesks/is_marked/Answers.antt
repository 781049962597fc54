use Rattle.std.proofs.Common.{◌∙◌, ap, arith, sym}
use Rattle.mcv_turn.specs.Shown.{is_known_marked}
use Rattle.mcv_turn.specs.declared.servers.Servers.{Servers}
use Rattle.mcv_desks.proofs.EightDesks.{is0, is1, is2, is3, is4, is5, is6, is7}
use Rattle.mcv_desks.proofs.hub_desks.HubDesks.is_marked.Goals as goal

pub returns-in-0 : goal.returns-in-0
returns-in-0 g c = let d = c.args.self.now in c.is_marked.ensures ∙ ap (λ (s : Servers). is_known_marked s c.args.server) (sym (is0 d.desk0.notes.servers d.desk1.notes.servers d.desk2.notes.servers d.desk3.notes.servers d.desk4.notes.servers d.desk5.notes.servers d.desk6.notes.servers d.desk7.notes.servers c.args.hub c.in-0.is))

pub returns-in-1 : goal.returns-in-1
returns-in-1 g c = let d = c.args.self.now in c.is_marked-in-1.ensures ∙ ap (λ (s : Servers). is_known_marked s c.args.server) (sym (is1 d.desk0.notes.servers d.desk1.notes.servers d.desk2.notes.servers d.desk3.notes.servers d.desk4.notes.servers d.desk5.notes.servers d.desk6.notes.servers d.desk7.notes.servers c.args.hub c.in-1.is))

pub returns-in-2 : goal.returns-in-2
returns-in-2 g c = let d = c.args.self.now in c.is_marked-in-2.ensures ∙ ap (λ (s : Servers). is_known_marked s c.args.server) (sym (is2 d.desk0.notes.servers d.desk1.notes.servers d.desk2.notes.servers d.desk3.notes.servers d.desk4.notes.servers d.desk5.notes.servers d.desk6.notes.servers d.desk7.notes.servers c.args.hub c.in-2.is))

pub returns-in-3 : goal.returns-in-3
returns-in-3 g c = let d = c.args.self.now in c.is_marked-in-3.ensures ∙ ap (λ (s : Servers). is_known_marked s c.args.server) (sym (is3 d.desk0.notes.servers d.desk1.notes.servers d.desk2.notes.servers d.desk3.notes.servers d.desk4.notes.servers d.desk5.notes.servers d.desk6.notes.servers d.desk7.notes.servers c.args.hub c.in-3.is))

pub returns-in-4 : goal.returns-in-4
returns-in-4 g c = let d = c.args.self.now in c.is_marked-in-4.ensures ∙ ap (λ (s : Servers). is_known_marked s c.args.server) (sym (is4 d.desk0.notes.servers d.desk1.notes.servers d.desk2.notes.servers d.desk3.notes.servers d.desk4.notes.servers d.desk5.notes.servers d.desk6.notes.servers d.desk7.notes.servers c.args.hub c.in-4.is))

pub returns-in-5 : goal.returns-in-5
returns-in-5 g c = let d = c.args.self.now in c.is_marked-in-5.ensures ∙ ap (λ (s : Servers). is_known_marked s c.args.server) (sym (is5 d.desk0.notes.servers d.desk1.notes.servers d.desk2.notes.servers d.desk3.notes.servers d.desk4.notes.servers d.desk5.notes.servers d.desk6.notes.servers d.desk7.notes.servers c.args.hub c.in-5.is))

pub returns-in-6 : goal.returns-in-6
returns-in-6 g c = let d = c.args.self.now in c.is_marked-in-6.ensures ∙ ap (λ (s : Servers). is_known_marked s c.args.server) (sym (is6 d.desk0.notes.servers d.desk1.notes.servers d.desk2.notes.servers d.desk3.notes.servers d.desk4.notes.servers d.desk5.notes.servers d.desk6.notes.servers d.desk7.notes.servers c.args.hub c.in-6.is))

pub returns-in_default : goal.returns-in_default
returns-in_default g c = let d = c.args.self.now in c.is_marked-in_default.ensures ∙ ap (λ (s : Servers). is_known_marked s c.args.server) (sym (is7 d.desk0.notes.servers d.desk1.notes.servers d.desk2.notes.servers d.desk3.notes.servers d.desk4.notes.servers d.desk5.notes.servers d.desk6.notes.servers d.desk7.notes.servers c.args.hub (omega arith)))
