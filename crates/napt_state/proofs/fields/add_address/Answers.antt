-- add_address: the text gets the four numbers of the address with dots between them.
use Rattle.std.proofs.Common.{append_assoc}
use Rattle.napt_config.specs.Text.{address_text}
use Rattle.napt_state.proofs.fields.add_address.Goals as goal

pub returns : goal.returns
unfolding address_text
returns c =
    rw (
      c.in_ok-add_number-4.ensures,
      c.in_ok-push_str-3.ensures.bytes,
      c.in_ok-add_number-3.ensures,
      c.in_ok-push_str-2.ensures.bytes,
      c.in_ok-add_number-2.ensures,
      c.in_ok-push_str.ensures.bytes,
      c.in_ok-add_number.ensures,
      c.from-4.ensures,
      c.from-3.ensures,
      c.from-2.ensures,
      c.from.ensures,
    )
    (simp (c.to_be_bytes.ensures, append_assoc))
