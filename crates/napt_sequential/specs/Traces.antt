-- The effects of each input of a run on the bindings: the bindings that its packet used, and the times when they expire
-- unless another packet follows.
--
-- An outgoing packet uses the binding of its source, which is made if there is none, and an incoming packet that of its
-- destination (RFC 3022, section 4). An ICMP error uses none (RFC 5508, REQ-3 to REQ-6).
use Rattle.std.specs.Prelude.{ℕ, ◌+◌, max, Bool, true, false, List, [], ◌∷◌, Option, Some, None}
use Rattle.napt_wire.specs.{declared.{Protocol.Protocol, Way.{Way, TheVariants.{Outgoing, Incoming}}}, Fields.{source, kind}}
use Rattle.napt_config.specs.{Rules.Rules, declared.settings.Timers.Timers}
use Rattle.napt_rules.specs.{Prelude.{BindingUse, Binding, Arrival, LegAct, RunEffect, step, State, initial_state}, declared.End.End}
use Rattle.napt_table.specs.{declared.TimedRow.TimedRow, TimedRows.timed_row}
use Rattle.napt_translate.specs.CarriedPackets.{packet_carried}
use Rattle.napt_rules.specs.declared.End.TheVariants as ends
use Rattle.napt_sequential.specs.declared.passage.{Passage.{Passage, TheVariants.{Nothing, Made, Out, In, Dropped}}, Trace.Trace}

-- ONE LEG

-- Returns the passage in this direction through a binding, given as it was after the leg. An outgoing leg may have made
-- the binding.
abbrev pub passage_of_row : Way → Bool → TimedRow → Passage
passage_of_row Outgoing true row = Made row
passage_of_row Outgoing false row = Out row
passage_of_row Incoming made row = In row

-- Returns the passage of a leg that used no binding: a dropped packet that is not an ICMP error, or nothing.
abbrev pub loss_of : Option Protocol → ℕ → End → Passage
loss_of (Some protocol) host (ends.Dropped cause) = Dropped (record { protocol = protocol; host = host; cause = cause })
loss_of _ host _ = Nothing

abbrev pub passage_by : Timers → Way → Option Protocol → ℕ → End → Option BindingUse → Passage
passage_by timers way protocol host end (Some went) = passage_of_row way went.made (timed_row timers went.binding)
passage_by timers way protocol host end None = loss_of protocol host end

abbrev pub passage_of : Timers → LegAct → Passage
passage_of timers a = passage_by timers a.leg.way (packet_carried (kind a.leg.packet)) (source a.leg.packet).address
    a.end
    a.through

-- ALL INPUTS, each of which has at most two legs
abbrev pub first_passage : Timers → List LegAct → Passage
first_passage timers [] = Nothing
first_passage timers (a ∷ acts) = passage_of timers a

abbrev pub second_passage : Timers → List LegAct → Passage
second_passage timers [] = Nothing
second_passage timers (a ∷ acts) = first_passage timers acts

abbrev pub trace_of : Timers → ℕ → RunEffect → Trace
trace_of timers now course = record {
  now = now;
  first = first_passage timers course.acts;
  second = second_passage timers course.acts;
}

-- Returns the traces of inputs. The first input has this number; the clock, in ns, and the bindings precede it.
abbrev pub traces_from : Rules → ℕ → ℕ → List Arrival → List Binding → List Trace
traces_from rules number clock [] list = []
traces_from rules number clock (input ∷ inputs) list =
    let now : ℕ = max clock input.clock in
    let course : RunEffect = step rules number now input list in
    trace_of rules.timers now course ∷ traces_from rules (number + 1) now inputs course.list

-- Returns the traces of a run from a state.
abbrev pub traces_of : Rules → State → List Arrival → List Trace
traces_of rules state inputs = traces_from rules 0 state.clock inputs state.list

-- Returns the traces of a run from the redirects of the configuration.
abbrev pub traces : Rules → List Arrival → List Trace
traces rules inputs = traces_of rules (initial_state rules) inputs
