use Rattle.std.proofs.Common.{refl}
use Rattle.mcv_http.proofs.response.response_bytes.Goals as goal

pub returns : goal.returns
returns c =
    rw (c.in_ok-extend_from_slice-6.ensures.items, c.in_ok-extend_from_slice-5.ensures.items, c.in_ok-push_number.ensures, c.in_ok-extend_from_slice-4.ensures.items, c.in_ok-extend_from_slice-3.ensures.items, c.as_bytes-2.ensures.value, c.in_ok-extend_from_slice-2.ensures.items, c.in_ok-extend_from_slice.ensures.items, c.new-bytes.ensures.items, c.as_bytes.ensures.value, c.lines.ensures) refl
