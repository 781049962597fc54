use Rattle.std.proofs.Common.{◌≡◌, ◌<◌, ◌≤◌, length, arith}
use Rattle.mcv_alike.specs.Alike.{server_text}
use Rattle.mcv_alike.proofs.Growing.{servers_all, servers_more}
use Rattle.mcv_alike.proofs.numbering.Numbering.are_servers.Goals as goal

pub loop-index-preserved : goal.loop-index-preserved
loop-index-preserved c = λ r n numbered.
    let olds = c.args.olds.now in
    let news = c.args.news.now in
    let i = c.loop-index.index in
    let test = c.loop-index-test.true in
    let lt : i < length olds = omega arith in
    let less : i < length news = omega arith in
    servers_more (server_text r) (server_text n) olds news i (record { 0 = 0 }) (record { 0 = 0 }) lt less (c.loop-index.invariant r n numbered) (c.is_server.ensures r n numbered c.if-not-is_server.false)

pub returns : goal.returns
returns c = λ r n numbered is.
    let past = c.loop-index-test.false in
    let first : length c.args.olds.now ≤ c.loop-index.index = omega arith in
    let second : length c.args.news.now ≤ c.loop-index.index = omega arith in
    servers_all (server_text r) (server_text n) c.args.olds.now c.args.news.now c.loop-index.index first second (c.loop-index.invariant r n numbered)
