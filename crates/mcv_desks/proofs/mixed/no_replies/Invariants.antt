use Rattle.std.proofs.Common.{◌≡◌, ℕ, Option, None, Some, slice_get, vec_len}
use Rattle.mcv_base.specs.declared.reply.Part.{Part}
use Rattle.mcv_desks.proofs.mixed.no_replies.Given as goal

abbrev pub invariant-loop-key : goal.invariant-loop-key
invariant-loop-key l = record {
  many : vec_len l.replies ≡ l._key;
  none : (key : ℕ) (reply : Option Part) → slice_get l.replies.items key ≡ Some reply → reply ≡ None;
}
