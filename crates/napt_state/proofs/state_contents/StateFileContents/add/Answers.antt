-- add: no line of a log follows another one or a binding, and no flow follows a binding that has ended.
use Rattle.std.proofs.lemmas.Bool.{true≢false}
use Rattle.std.proofs.Common.{rules, vec_items, vec_len, ◌≡◌, ◌==◌, length, List, Option, None, Some, [], true, false, refl, sym, ◌∙◌, ap, subst, arith}
use Rattle.std.specs.Option.{is_some}
use Rattle.napt_state.specs.StateFiles.{StateFileModel}
use Rattle.napt_state.specs.StateContents.{CanFollow, LastIsNotLive}
use Rattle.napt_state.specs.declared.{line.{LogPosition.LogPosition, StateLine.StateLine}, saved_bindings.SavedBinding.SavedBinding}
use Rattle.napt_state.specs.StateText.{log}
use Rattle.napt_state.proofs.Replay.{log_out, no_flow_follows, none_follows, no_other_follows}
use Rattle.napt_state.proofs.state_contents.StateFileContents.add.Goals as goal
use Rattle.napt_state.proofs.state_contents.StateFileContents.add.Goals.{then-is_some-via-then-is_some, then-is_some-via-else-is_some+then-not-is_empty}

pub returns-then-is_some-clause-refused : goal.returns-then-is_some-clause-refused
returns-then-is_some-clause-refused c made =
    let now : StateFileModel = c.args.self.now in
    let never : (now.log ≡ None) × (now.bindings ≡ []) → ⊥ = elim c.then-is_some.branch [
      | then-is_some-via-then-is_some w ↦ λ p. true≢false (sym w.if-is_some.true ∙ c.is_some.ensures
          ∙ ap is_some (ap (λ (s : StateFileModel). s.log) c.self.view_is ∙ p.0))
      | then-is_some-via-else-is_some+then-not-is_empty w ↦ λ p.
          let long : length (vec_items c.self.inside.bindings) ≡ vec_len c.self.inside.bindings = search rules in
          let zero : vec_len c.self.inside.bindings ≡ 0 =
          sym long ∙ ap length (ap (λ (s : StateFileModel). s.bindings) c.self.view_is ∙ p.1) in
          true≢false (sym (ap (λ n. n == 0) zero) ∙ sym w.is_empty.ensures ∙ w.if-not-is_empty.true)
    ] in
    subst (λ (l : StateLine). CanFollow l now → ⊥) (sym c.in-Log.is)
    (none_follows (log c.in-Log.position) now (log_out now.clock now.log now.bindings c.in-Log.position never))

pub returns-in-Flow-clause-refused : goal.returns-in-Flow-clause-refused
returns-in-Flow-clause-refused c made =
    let none = subst LastIsNotLive (ap (λ (s : StateFileModel). s.bindings) c.self.view_is)
    (c.add_flow.ensures.none made)
    in
    subst (λ (l : StateLine). CanFollow l c.args.self.now → ⊥) (sym c.in-Flow.is)
    (no_flow_follows c.in-Flow.flow c.args.self.now none)

pub returns-in_default-clause-refused : goal.returns-in_default-clause-refused
returns-in_default-clause-refused c made = no_other_follows c.args.line c.args.self.now c.in_default.not-Log
    c.in_default.not-Binding c.in_default.not-Flow c.in_default.not-Held
