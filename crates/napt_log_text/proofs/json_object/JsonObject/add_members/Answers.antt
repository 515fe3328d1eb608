-- add_members: the text gets the object without the end of its line.
use Rattle.std.proofs.Common.{append_assoc}
use Rattle.napt_log_text.specs.Objects.{object_of}
use Rattle.napt_log_text.proofs.json_object.JsonObject.add_members.Goals as goal

pub returns : goal.returns
unfolding object_of
returns c =
    rw (
      c.in_ok-push_str-5.ensures.bytes,
      c.in_ok-add_packet_or_null.ensures,
      c.in_ok-push_str-4.ensures.bytes,
      c.in_ok-add_arrived.ensures,
      c.in_ok-push_str-3.ensures.bytes,
      c.in_ok-add_fate.ensures,
      c.in_ok-add_number-2.ensures,
      c.in_ok-push_str-2.ensures.bytes,
      c.in_ok-add_number.ensures,
      c.in_ok-push_str.ensures.bytes,
    )
    (simp (c.packet_sent.ensures, append_assoc) (rw (← c.input.view_is)))
