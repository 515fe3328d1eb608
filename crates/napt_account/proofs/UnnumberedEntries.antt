-- The entries of a log without their numbers, leg by leg.
use Rattle.std.proofs.lemmas.{Bool.{true≢false}, Option.same_Some}
use Rattle.std.proofs.Common.{◌≡◌, ℕ, Bool, true, false, cond, List, [], ◌∷◌, ◌++◌, map, Option, Some, None, refl, sym, ◌∙◌, ap, subst}
use Rattle.std.specs.List.{fold}
use Rattle.napt_wire.specs.declared.{Protocol.Protocol, Way.{Way, TheVariants.{Outgoing, Incoming}}}
use Rattle.napt_rules.specs.{declared.{Leg.Leg}, Prelude.{BindingUse, Binding, source, kind, act, LegAct, row, Rules, AreTimers, Timers}}
use Rattle.napt_rules.specs.declared.End.{End, TheVariants.{ToOutside, ToInside, Onward, Dropped}}
use Rattle.napt_laws.proofs.{RunInduction.{IsTurn, InTurn}}
use Rattle.napt_binding.specs.Ends.{end_of}
use Rattle.napt_table.specs.{declared.TimedRow.TimedRow, TimedRows.timed_row}
use Rattle.napt_translate.specs.CarriedPackets.{packet_carried}
use Rattle.napt_sequential.specs.Traces.{passage_of_row, loss_of, passage_by}
use Rattle.napt_account.specs.{declared.log.{Entry.Entry, LogEntry.LogEntry}, Log.{LogModel, first_entry, counted, entry_through, unnumbered, use_entry, with_use, after_leg, after_record}}
use Rattle.napt_account.proofs.{Lists.{map_joined, map_twice}, BindingChanges.of_moves}

-- The entries after a leg: the binding that it made gets one, and that of the binding that it found changes.
abbrev pub logged_by : Timers → Leg → Option BindingUse → List Entry → List Entry
logged_by timers leg None entries = entries
logged_by timers leg (Some went) entries =
    let change : Entry → Entry = counted leg.way leg.now (end_of timers went.binding) in
    cond went.made (entries ++ change (first_entry timers leg.now went.binding) ∷ [])
    (map (entry_through leg.now (row went.binding) change) entries)

abbrev pub logged : Timers → List Entry → LegAct → List Entry
logged timers entries a = logged_by timers a.leg a.through entries

-- ONE LEG

plain_use : (way : Way) (now : ℕ) (told : TimedRow) (log : LogModel) → unnumbered (with_use way now told log)
    ≡ map (entry_through now told.row (counted way now told.end)) (unnumbered log)
plain_use way now told log =
    map_twice (λ (n : LogEntry). n.entry) (use_entry way now told) log.entries
    ∙ sym (map_twice (entry_through now told.row (counted way now told.end)) (λ (n : LogEntry). n.entry) log.entries)

pub plain_through : (timers : Timers) (now : ℕ) (way : Way) (made : Bool) → (made ≡ true → way ≡ Outgoing) →
    (b : Binding) (log : LogModel) → (let change : Entry → Entry = counted way now (end_of timers b) in
    unnumbered (after_leg now (passage_of_row way made (timed_row timers b)) log)
    ≡ cond made (unnumbered log ++ change (first_entry timers now b) ∷ [])
    (map (entry_through now (row b) change) (unnumbered log)))
plain_through timers now Outgoing true out b log =
    map_joined (λ (n : LogEntry). n.entry) log.entries _
plain_through timers now Outgoing false out b log = plain_use Outgoing now (timed_row timers b) log
plain_through timers now Incoming true out b log = let never : Incoming ≡ Outgoing = out refl in cc
plain_through timers now Incoming false out b log = plain_use Incoming now (timed_row timers b) log

plain_none : (now : ℕ) (carried : Option Protocol) (host : ℕ) (end : End) (log : LogModel) →
    unnumbered (after_leg now (loss_of carried host end) log) ≡ unnumbered log
plain_none now None host end log = refl
plain_none now (Some protocol) host (ToOutside packet) log = refl
plain_none now (Some protocol) host (ToInside packet) log = refl
plain_none now (Some protocol) host (Onward place packet) log = refl
plain_none now (Some protocol) host (Dropped cause) log = refl

-- A leg goes out through the binding that it makes.
abbrev pub MadeOut : Way → Option BindingUse → Type 0
MadeOut way went = (t : BindingUse) → went ≡ Some t → t.made ≡ true → way ≡ Outgoing

pub plain_leg : (timers : Timers) (leg : Leg) (carried : Option Protocol) (host : ℕ) (end : End)
    (went : Option BindingUse) →
    MadeOut leg.way went → (log : LogModel) →
    unnumbered (after_leg leg.now (passage_by timers leg.way carried host end went) log)
    ≡ logged_by timers leg went (unnumbered log)
plain_leg timers leg carried host end None out log = plain_none leg.now carried host end log
plain_leg timers leg carried host end (Some went) out log =
    plain_through timers leg.now leg.way went.made (out went refl) went.binding log

module _ (rules : Rules) (t : AreTimers rules.timers) where
  pub made_out : (address : ℕ) (leg : Leg) (list : List Binding) → MadeOut leg.way (act rules address leg list).through
  made_out address leg list =
      of_moves rules t address leg list (λ went left. MadeOut leg.way went)
      (λ w is made. cc)
      (λ p f b at same keeps w is made.
      let found : BindingUse = record { binding = f b; made = false } in
      let isnt : w.made ≡ false = ap (λ (x : BindingUse). x.made) (sym (same_Some found w is)) in
      absurd (true≢false (sym made ∙ isnt)))
      (λ new out is others w same made. out)

  pub plain_act : (clock : ℕ) (list : List Binding) (a : LegAct) → IsTurn rules clock list a → (log : LogModel) →
      unnumbered (after_record rules.timers log a) ≡ logged rules.timers (unnumbered log) a
  plain_act clock list a turn log =
      plain_leg rules.timers a.leg (packet_carried (kind a.leg.packet)) (source a.leg.packet).address a.end a.through
      (subst (MadeOut a.leg.way) (sym turn.through) (made_out a.address a.leg list)) log

  pub plain_acts : (clock : ℕ) (list : List Binding) (acts : List LegAct) (last : ℕ) (new : List Binding) →
      InTurn rules clock list acts last new → (log : LogModel) →
      unnumbered (fold (after_record rules.timers) log acts) ≡ fold (logged rules.timers) (unnumbered log) acts
  plain_acts clock list [] last new turn log = refl
  plain_acts clock list (a ∷ acts) last new turn log =
      plain_acts a.leg.now (act rules a.address a.leg list).list acts last new turn.1 (after_record rules.timers log a)
      ∙ ap (λ (es : List Entry). fold (logged rules.timers) es acts) (plain_act clock list a turn.0 log)
