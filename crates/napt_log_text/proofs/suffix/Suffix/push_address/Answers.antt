-- push_address: the four numbers of the address are put in front, with dots between them.
use Rattle.std.proofs.Common.{append_assoc}
use Rattle.napt_config.specs.Text.{address_text}
use Rattle.napt_log_text.proofs.suffix.Suffix.push_address.Goals as goal

pub returns : goal.returns
unfolding address_text
returns c =
    rw (
      c.push_number-4.ensures.text,
      c.push_byte-3.ensures,
      c.push_number-3.ensures.text,
      c.push_byte-2.ensures,
      c.push_number-2.ensures.text,
      c.push_byte.ensures,
      c.push_number.ensures.text,
      c.from-4.ensures,
      c.from-3.ensures,
      c.from-2.ensures,
      c.from.ensures,
    )
    (simp (c.to_be_bytes.ensures, append_assoc))
