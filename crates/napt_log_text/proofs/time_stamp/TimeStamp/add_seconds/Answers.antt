-- add_seconds: the text gets the seconds with nine decimals.
use Rattle.std.proofs.Common.{append_assoc}
use Rattle.napt_log_text.specs.Times.{seconds_text}
use Rattle.napt_log_text.proofs.time_stamp.TimeStamp.add_seconds.Goals as goal

pub returns : goal.returns
unfolding seconds_text
returns c =
    rw (c.in_ok-add_padded.ensures, c.in_ok-push_str-2.ensures.bytes, c.in_ok-push_str.ensures.bytes)
    (simp (c.format.ensures.text, c.seconds.ensures, c.subsec_nanos.ensures, append_assoc))
