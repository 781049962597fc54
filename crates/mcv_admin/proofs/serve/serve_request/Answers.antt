use Rattle.mcv_admin.proofs.serve.serve_request.Goals as goal

pub returns : goal.returns
returns g c = (c.in_ok-known.known, c.in_ok-known.ensures, c.in_ok-respond.ensures)
