-- add_entry: the text gets the number of an entry and the fields after it.
use Rattle.std.proofs.Common.{append_assoc}
use Rattle.napt_log_text.proofs.event.add_entry.Goals as goal

pub returns : goal.returns
returns c =
    rw (
      c.in_ok-add_time.ensures,
      c.in_ok-add_field-3.ensures,
      c.in_ok-add_field-2.ensures,
      c.in_ok-push_str-2.ensures.bytes,
      c.in_ok-push_str.ensures.bytes,
      c.in_ok-add_field.ensures,
    )
    (simp (c.flag.ensures, c.last_use.ensures, append_assoc))
