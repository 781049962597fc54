use Rattle.mcv_serve.proofs.proxy.close.Goals as goal

pub returns : goal.returns
returns g c = record { begun_parts = g.F.Names.parts_of; taken_parts = g.G.Names.parts_of; receipts = _; counted = _; closed = c.in_ok-report.ensures.closing }
