use Rattle.std.proofs.Common.{◌≡◌, ◌++◌, flat_map, string_bytes}
use Rattle.std.specs.Str.{IsUtf8, chars}
use Rattle.std.specs.Str.Iter.{chars_rest}
use Rattle.mcv_patch.specs.Pointer.{pointer_char}
use Rattle.mcv_patch.proofs.pointer.push_key.Given as goal

abbrev pub invariant-loop-c : goal.invariant-loop-c
invariant-loop-c l = record {
  text : IsUtf8 (chars_rest l.c-iterator);
  leads : string_bytes l.text ++ flat_map pointer_char (chars (chars_rest l.c-iterator)) ≡ string_bytes l.fn.text ++ flat_map pointer_char (chars l.fn.key);
}
