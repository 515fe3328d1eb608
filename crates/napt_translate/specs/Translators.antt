-- A translator as contracts see it: its place in the pool, its configuration, and the table of its external address.
use Rattle.std.specs.Prelude.{◌≡◌, ℕ, ◌<◌, Bool, false, List, length, slice_index, Option, Some, None, Result}
use Rattle.napt_wire.specs.declared.{Protocol.Protocol, Flags.Flags, Cause.Cause}
use Rattle.napt_rules.specs.{Prelude.{BindingUse, assignment_rules, inbound_rules, OutboundEffect, step_out, InboundEffect, step_in, outbound_packet, inbound_packet, LocalState, local_after, State}, declared.Leg.Leg}
use Rattle.napt_rules.specs.declared.OutboundPacket.{OutboundPacket}
use Rattle.napt_config.specs.Rules.{Rules, RulesInvariant, block_of}
use Rattle.napt_table.specs.Tables.{TableModel, initial_table, resumed_table}

pub record TranslatorModel : Type 0 where
  -- The place of its external address in the pool, from 0.
  pub index : ℕ
  pub rules : Rules
  pub table : TableModel

-- Returns the translator at a place of a configuration's pool, before any leg.
abbrev pub initial_translator : ℕ → Rules → TranslatorModel
initial_translator index rules = record {
  index = index;
  rules = rules;
  table = initial_table rules (slice_index rules.pool index);
}

-- Returns the translator at a place of the pool that continues from a saved state.
abbrev pub resumed_translator : ℕ → Rules → State → TranslatorModel
resumed_translator index rules state = record {
  index = index;
  rules = rules;
  table = resumed_table rules (slice_index rules.pool index) state;
}

-- The table has the timers and rules of the configuration, and the address at the translator's place in the pool.
pub record IsTranslator (state : TranslatorModel) : Type 0 where
  pub place : state.index < length state.rules.pool
  pub rules : RulesInvariant state.rules
  pub address : state.table.address ≡ slice_index state.rules.pool state.index
  pub timers : state.table.timers ≡ state.rules.timers
  pub assignment : state.table.assignment ≡ assignment_rules state.rules
  pub inbound : state.table.inbound ≡ inbound_rules state.rules

abbrev pub local_state : TableModel → LocalState
local_state table = record { list = table.list; at = table.at }

abbrev pub with_local_state : TranslatorModel → LocalState → TranslatorModel
with_local_state state kept = record state { table = record state.table { list = kept.list; at = kept.at } }

-- Returns the translator after a leg.
abbrev pub translator_after : Leg → TranslatorModel → TranslatorModel
translator_after leg state = with_local_state state
    (local_after state.rules state.table.address leg (local_state state.table))

-- Returns whether a leg made the binding that its packet used.
abbrev pub is_made : Option BindingUse → Bool
is_made None = false
is_made (Some went) = went.made

-- Returns the effect of an outgoing packet at the translator's address, at a time in ns; then that of an incoming one.
abbrev pub outbound_at : TranslatorModel → ℕ → Protocol → Flags → List ℕ → OutboundEffect
outbound_at state now protocol flags packet = step_out state.rules.timers (assignment_rules state.rules)
    state.table.address
    (outbound_packet state.rules protocol flags now packet) state.table.list

abbrev pub inbound_at : TranslatorModel → ℕ → Protocol → Flags → List ℕ → InboundEffect
inbound_at state now protocol flags packet = step_in state.rules.timers (inbound_rules state.rules) state.table.address
    (inbound_packet protocol flags now packet) state.table.list

-- A packet went out under the port block of its host: the table's answer, and the translator after it.
pub record TranslateOutboundPost (packet : OutboundPacket) (old new : TranslatorModel) (answer : Result ℕ Cause)
    : Type 0 where
  pub answered : answer ≡ (step_out old.rules.timers (assignment_rules old.rules) old.table.address
      (record packet { block = block_of old.rules packet.inside.address }) old.table.list).number
  pub left : new ≡ with_local_state old (record {
    list = (step_out old.rules.timers (assignment_rules old.rules) old.table.address
        (record packet { block = block_of old.rules packet.inside.address }) old.table.list).list;
    at = packet.now;
  })
