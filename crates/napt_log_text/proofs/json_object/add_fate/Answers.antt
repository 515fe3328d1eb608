-- add_fate: the text gets the members of the outcome.
use Rattle.std.proofs.Common.{append_assoc}
use Rattle.napt_log_text.specs.Objects.{fate_members}
use Rattle.napt_log_text.proofs.json_object.add_fate.Goals as goal

pub returns : goal.returns
unfolding fate_members
returns c =
    rw (
      c.in_ok-push_str-6.ensures.bytes,
      c.in_ok-push_str-5.ensures.bytes,
      c.in_ok-push_str-4.ensures.bytes,
      c.in_ok-add_outcome.ensures,
      c.in_ok-push_str-3.ensures.bytes,
      c.in_ok-push_str-2.ensures.bytes,
      c.in_ok-push_str.ensures.bytes,
    )
    (simp (c.side_text.ensures, c.binding.ensures, c.hairpin.ensures, append_assoc))
