-- A translator's list and its time. A leg with an earlier time acts at that time; an ICMP error changes neither.
use Rattle.std.specs.{Prelude.{ℕ, max, List}, List.{fold, scan}}
use Rattle.napt_wire.specs.{declared.Kind.{Kind, TheVariants.ErrorOf}, Fields.kind}
use Rattle.napt_config.specs.Rules.{Rules}
use Rattle.napt_rules.specs.{Bindings.Binding, declared.{Leg.Leg, Answer.Answer}, Legs.{LegEffect, act}}

pub record LocalState : Type 0 where
  pub list : List Binding
  pub at : ℕ

abbrev pub time_after : Kind → ℕ → ℕ → ℕ
time_after (ErrorOf inner) at now = at
time_after _ at now = now

abbrev pub local_act : Rules → ℕ → Leg → LocalState → LegEffect
local_act rules address leg kept = act rules address (record leg { now = max leg.now kept.at }) kept.list

abbrev pub local_after : Rules → ℕ → Leg → LocalState → LocalState
local_after rules address leg kept = record {
  list = (local_act rules address leg kept).list;
  at = time_after (kind leg.packet) kept.at (max leg.now kept.at);
}

abbrev pub local_answer : Rules → ℕ → Leg → LocalState → Answer
local_answer rules address leg kept = record { number = leg.number; end = (local_act rules address leg kept).end }

abbrev pub local_replies : Rules → ℕ → List Leg → LocalState → List Answer
local_replies rules address legs kept =
    scan (λ own leg. local_after rules address leg own) (λ own leg. local_answer rules address leg own) kept legs

abbrev pub local_after_all : Rules → ℕ → List Leg → LocalState → LocalState
local_after_all rules address legs kept = fold (λ own leg. local_after rules address leg own) kept legs
