-- What a TCP flow has seen of its session, and how long it may be idle.
--
-- RFC 5382, REQ-2: every valid sequence of segments is let through, including the simultaneous open. REQ-5: an
-- established session may be idle for 2 hours and 4 minutes, one that is only opening or is closing for 4 minutes.
use Rattle.std.specs.Prelude.{ℕ, Bool, false, not, ◌&&◌, ◌||◌, cond}
use Rattle.napt_wire.specs.declared.{Way.{Way, TheVariants.{Outgoing, Incoming}}, Flags.Flags}
use Rattle.napt_config.specs.declared.settings.Timers.{Timers}
use Rattle.napt_rules.specs.declared.SessionMarks.{SessionMarks}

-- The marks of a new flow: none is set.
abbrev pub no_marks : SessionMarks
no_marks = record { syn_out = false; syn_in = false; fin_out = false; fin_in = false; reset = false }

-- Returns whether a flow is closing: it was reset, or a FIN was seen each way.
abbrev pub is_closing : SessionMarks → Bool
is_closing marks = marks.reset || (marks.fin_out && marks.fin_in)

-- Clears all marks if the segment is a SYN without ACK on a closing flow, since it begins a new session.
abbrev pub cleared_marks : SessionMarks → Flags → SessionMarks
cleared_marks marks flags = cond (flags.syn && (not flags.ack && is_closing marks)) no_marks marks

-- Returns the marks with those that a segment sets. A SYN with ACK answers the other side's SYN, so it sets both.
abbrev pub marks_of_segment : SessionMarks → Way → Flags → SessionMarks
marks_of_segment marks Outgoing flags = record {
  syn_out = marks.syn_out || flags.syn;
  syn_in = marks.syn_in || (flags.syn && flags.ack);
  fin_out = marks.fin_out || flags.fin;
  fin_in = marks.fin_in;
  reset = marks.reset || flags.rst;
}
marks_of_segment marks Incoming flags = record {
  syn_out = marks.syn_out || (flags.syn && flags.ack);
  syn_in = marks.syn_in || flags.syn;
  fin_out = marks.fin_out;
  fin_in = marks.fin_in || flags.fin;
  reset = marks.reset || flags.rst;
}

-- Returns the marks after a segment.
abbrev pub marked : SessionMarks → Way → Flags → SessionMarks
marked marks way flags = marks_of_segment (cleared_marks marks flags) way flags

-- Returns whether the session is established: a SYN was seen each way, and the flow is not closing.
abbrev pub is_established : SessionMarks → Bool
is_established marks = (marks.syn_out && marks.syn_in) && not (is_closing marks)

-- How long a flow with these marks may be idle, in seconds.
abbrev pub idle : Timers → SessionMarks → ℕ
idle timers marks = cond (is_established marks) timers.established timers.transitory
