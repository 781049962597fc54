-- A place among the connections to all servers is that of one hub and one server.
use Rattle.std.proofs.Common.{◌≡◌, ◌∙◌, ◌<◌, ℕ, Option, None, Some, ap, arith, sym}
use Rattle.mcv_base.specs.declared.request.ServerId.{ServerId}
use Rattle.mcv_loop.specs.declared.sources.Source.{Source}
use Rattle.mcv_loop.specs.declared.sources.Source.TheVariants as source
use Rattle.mcv_poll.specs.declared.tokens.HubServer.{HubServer}
use Rattle.mcv_poll.specs.declared.tokens.Tokens.{Tokens}
use Rattle.mcv_poll.specs.Tokens.{HasNumber, IsLine, at_hub}

same_some : {A : Type 0} {x y : A} → Some x ≡ Some y → x ≡ y
same_some e = cc

no_some : {A Z : Type 0} {x : A} → None ≡ Some x → Z
no_some e = cc

-- where no hub and server have a number that is within those of servers, no connection has it
pub none_has : (tokens : Tokens) (number : ℕ) (found : Option HubServer) → ((hub : ℕ) (server : ServerId) → IsLine tokens hub server number → found ≡ Some (at_hub hub server)) → found ≡ None → number < tokens.lines → (s : Source) → HasNumber tokens s number → None ≡ Some s
none_has tokens number found alone none small (source.Client n) is = absurd (omega (arith, is, small))
none_has tokens number found alone none small (source.Server hub server) is = no_some (sym none ∙ alone hub server is)

-- where this hub and server have it, the connection between them has it
pub one_has : (tokens : Tokens) (number : ℕ) (found : Option HubServer) → ((hub : ℕ) (server : ServerId) → IsLine tokens hub server number → found ≡ Some (at_hub hub server)) → (at : HubServer) → found ≡ Some at → number < tokens.lines → (s : Source) → HasNumber tokens s number → Some (source.Server at.hub at.server) ≡ Some s
one_has tokens number found alone at there small (source.Client n) is = absurd (omega (arith, is, small))
one_has tokens number found alone at there small (source.Server hub server) is = ap (λ (h : HubServer). Some (source.Server h.hub h.server)) (same_some (sym there ∙ alone hub server is))
