-- The contents by the lines of a text, one after another: each text has one meaning, and each line has its place.
use Rattle.napt_state.specs.StateFiles.{StateFileModel}
use Rattle.std.proofs.lemmas.{List.{Sums.fold-append}}
use Rattle.std.proofs.Common.{ℕ, ◌≡◌, List, [], ◌∷◌, ◌++◌, map, flat_map, Option, Some, None, refl, sym, ◌∙◌, ap, append_assoc, append-nil}
use Rattle.std.specs.{List.fold, Option.option_map}
use Rattle.napt_account.specs.declared.{account.Account.Account, log.LogEntry.LogEntry}
use Rattle.napt_rules.specs.{Prelude.Binding, declared.{Flow.Flow, Row.Row}}
use Rattle.napt_state.specs.declared.{saved_bindings.SavedBinding.SavedBinding, line.{LineCounts.LineCounts, LogPosition.LogPosition, StateLine.StateLine}}
use Rattle.napt_state.specs.declared.line.StateLine.TheVariants as lines
use Rattle.napt_state.specs.declared.saved_bindings.SavedBinding.TheVariants as bindings
use Rattle.napt_state.specs.StateText.{flow, end, binding_lines, log_lines, lines_between, counts_of}
use Rattle.napt_state.specs.StateContents.{CanFollow, LastIsNotLive}

pub data Stage : Type 0 where
  Going : StateFileModel → Stage
  Closed : StateFileModel → LineCounts → Stage
  Refused : Stage

abbrev of_list : ℕ → Option LogPosition → List SavedBinding → StateFileModel
of_list clock log list = record { clock = clock; log = log; bindings = list }

abbrev pub longer : Binding → Flow → Binding
longer b f = record b { flows = b.flows ++ f ∷ [] }

-- The last binding gets a flow, if it is live.
abbrev with_flow : Flow → List SavedBinding → Option (List SavedBinding)
with_flow f [] = None
with_flow f (bindings.Live b account ∷ []) = Some (bindings.Live (longer b f) account ∷ [])
with_flow f (bindings.Ended row end ∷ []) = None
with_flow f (b ∷ (c ∷ more)) = option_map (λ l. b ∷ l) (with_flow f (c ∷ more))

abbrev flow_in : ℕ → Option LogPosition → Option (List SavedBinding) → Stage
flow_in clock log None = Refused
flow_in clock log (Some list) = Going (of_list clock log list)

abbrev log_in : ℕ → Option LogPosition → List SavedBinding → LogPosition → Stage
log_in clock None [] position = Going (of_list clock (Some position) [])
log_in clock log list position = Refused

abbrev pub goes : ℕ → Option LogPosition → List SavedBinding → StateLine → Stage
goes clock log list (lines.Log position) = log_in clock log list position
goes clock log list (lines.Binding row last account) =
    Going (of_list clock log (list ++ bindings.Live (record { row = row; last = last; flows = [] }) account ∷ []))
goes clock log list (lines.Flow f) = flow_in clock log (with_flow f list)
goes clock log list (lines.Held row end) = Going (of_list clock log (list ++ bindings.Ended row end ∷ []))
goes clock log list (lines.End counts) = Closed (of_list clock log list) counts
goes clock log list _ = Refused

abbrev pub step : Stage → StateLine → Stage
step (Going s) line = goes s.clock s.log s.bindings line
step _ line = Refused

-- EACH STATE IS SAID BY ITS LINES

with_flow-last : (f : Flow) (front : List SavedBinding) (b : Binding) (account : Option Account) →
    with_flow f (front ++ bindings.Live b account ∷ []) ≡ Some (front ++ bindings.Live (longer b f) account ∷ [])
with_flow-last f [] b account = refl
with_flow-last f (x ∷ []) b account = refl
with_flow-last f (x ∷ (y ∷ front)) b account =
    ap (option_map (λ (l : List SavedBinding). x ∷ l)) (with_flow-last f (y ∷ front) b account)

module _ (clock : ℕ) (log : Option LogPosition) where
  abbrev now : List SavedBinding → Stage
  now list = Going (of_list clock log list)

  flows_said : (front : List SavedBinding) (b : Binding) (account : Option Account) (fs : List Flow) →
      fold step (now (front ++ bindings.Live b account ∷ [])) (map flow fs)
      ≡ now (front ++ bindings.Live (record b { flows = b.flows ++ fs }) account ∷ [])
  flows_said front b account [] =
      ap (λ (fs : List Flow). now (front ++ bindings.Live (record b { flows = fs }) account ∷ []))
      (sym (append-nil b.flows))
  flows_said front b account (f ∷ fs) =
      ap (λ (l : Option (List SavedBinding)). fold step (flow_in clock log l) (map flow fs))
      (with_flow-last f front b account)
      ∙ flows_said front (longer b f) account fs
      ∙ ap (λ (l : List Flow). now (front ++ bindings.Live (record b { flows = l }) account ∷ []))
      (append_assoc b.flows (f ∷ []) fs)

  bindings_said : (front list : List SavedBinding) →
      fold step (now front) (flat_map binding_lines list) ≡ now (front ++ list)
  bindings_said front [] = ap now (sym (append-nil front))
  bindings_said front (bindings.Live b account ∷ list) =
      fold-append step (now (front ++ bindings.Live (record { row = b.row; last = b.last; flows = [] }) account ∷ []))
      (map flow b.flows) (flat_map binding_lines list)
      ∙ ap (λ s. fold step s (flat_map binding_lines list))
      (flows_said front (record { row = b.row; last = b.last; flows = [] }) account b.flows)
      ∙ bindings_said (front ++ bindings.Live b account ∷ []) list
      ∙ ap now (append_assoc front (bindings.Live b account ∷ []) list)
  bindings_said front (bindings.Ended row end ∷ list) =
      bindings_said (front ++ bindings.Ended row end ∷ []) list
      ∙ ap now (append_assoc front (bindings.Ended row end ∷ []) list)

log_said : (clock : ℕ) (log : Option LogPosition) →
    fold step (Going (of_list clock None [])) (log_lines log) ≡ Going (of_list clock log [])
log_said clock None = refl
log_said clock (Some position) = refl

said : (clock : ℕ) (s : StateFileModel) → fold step (Going (of_list clock None [])) (lines_between s)
    ≡ Going (of_list clock s.log s.bindings)
said clock s =
    fold-append step (Going (of_list clock None [])) (log_lines s.log) (flat_map binding_lines s.bindings)
    ∙ ap (λ g. fold step g (flat_map binding_lines s.bindings)) (log_said clock s.log)
    ∙ bindings_said clock s.log [] s.bindings

-- WHAT MAY FOLLOW

-- The contents after the first lines of a text.
pub goes_on : (old whole : StateFileModel) (more : List StateLine) →
    lines_between whole ++ end (counts_of whole) ∷ [] ≡ lines_between old ++ more →
    fold step (Going old) more ≡ Closed (of_list old.clock whole.log whole.bindings) (counts_of whole)
goes_on old whole more is =
    let start = Going (of_list old.clock None []) in
    ap (λ g. fold step g more) (sym (said old.clock old))
    ∙ sym (fold-append step start (lines_between old) more)
    ∙ ap (fold step start) (sym is)
    ∙ fold-append step start (lines_between whole) (end (counts_of whole) ∷ [])
    ∙ ap (λ g. fold step g (end (counts_of whole) ∷ [])) (said old.clock whole)

refused : (more : List StateLine) → fold step Refused more ≡ Refused
refused [] = refl
refused (line ∷ more) = refused more

pub none_follows : (line : StateLine) (old : StateFileModel) →
    goes old.clock old.log old.bindings line ≡ Refused → ¬ CanFollow line old
none_follows line old none can =
    let is = goes_on old can.whole (line ∷ can.more) can.split in
    let all = sym (refused can.more) ∙ ap (λ g. fold step g can.more) (sym none) ∙ is in
    let never : ⊥ = cc in
    never

-- No log line follows another, or a binding.
pub log_out : (clock : ℕ) (log : Option LogPosition) (list : List SavedBinding) (position : LogPosition) →
    ((log ≡ None) × (list ≡ []) → ⊥) → log_in clock log list position ≡ Refused
log_out clock None [] position h = absurd (h (refl, refl))
log_out clock None (b ∷ list) position h = refl
log_out clock (Some other) list position h = refl

-- No flow follows if the last binding is not a live one.
pub flow_out : (f : Flow) (list : List SavedBinding) → LastIsNotLive list → with_flow f list ≡ None
flow_out f [] h = refl
flow_out f (bindings.Live b account ∷ []) h = absurd (h [] b account refl)
flow_out f (bindings.Ended row end ∷ []) h = refl
flow_out f (x ∷ (y ∷ more)) h = ap (option_map (λ (l : List SavedBinding). x ∷ l)) (flow_out f (y ∷ more)
    (λ front b account is. h (x ∷ front) b account (ap (λ (l : List SavedBinding). x ∷ l) is)))

pub no_flow_follows : (f : Flow) (old : StateFileModel) → LastIsNotLive old.bindings → ¬ CanFollow (flow f) old
no_flow_follows f old h =
    none_follows (flow f) old (ap (flow_in old.clock old.log) (flow_out f old.bindings h))

-- No line follows that this version does not write, except for the last line.
pub no_other_follows : (line : StateLine) (old : StateFileModel) →
    ((position : LogPosition) → line ≡ lines.Log position → ⊥) →
    ((row : Row) (last : ℕ) (account : Option Account) → line ≡ lines.Binding row last account → ⊥) →
    ((one : Flow) → line ≡ flow one → ⊥) → ((row : Row) (end : ℕ) → line ≡ lines.Held row end → ⊥) →
    ¬ CanFollow line old
no_other_follows (lines.Clock at) old a b c d = none_follows (lines.Clock at) old refl
no_other_follows (lines.Log position) old a b c d = absurd (a position refl)
no_other_follows (lines.Binding row last account) old a b c d = absurd (b row last account refl)
no_other_follows (lines.Flow one) old a b c d = absurd (c one refl)
no_other_follows (lines.Held row end) old a b c d = absurd (d row end refl)
no_other_follows (lines.End counts) old a b c d = λ can. can.other
no_other_follows (lines.EarlierLog made length) old a b c d = none_follows (lines.EarlierLog made length) old refl
no_other_follows (lines.EarlierEntry one) old a b c d = none_follows (lines.EarlierEntry one) old refl

pub one_follows : (old whole : StateFileModel) →
    lines_between whole ++ end (counts_of whole) ∷ [] ≡ lines_between old ++ [] → ⊥
one_follows old whole is =
    let going = goes_on old whole [] is in
    let never : ⊥ = cc in
    never

-- The last line: everything was said before it, and nothing follows it.
pub record IsLast (old whole : StateFileModel) (counts : LineCounts) (more : List StateLine) : Type 0 where
  pub list : old.bindings ≡ whole.bindings
  pub log : old.log ≡ whole.log
  pub same : counts ≡ counts_of whole
  pub none : more ≡ []

over : (old whole : StateFileModel) (counts : LineCounts) (more : List StateLine) →
    fold step (Closed old counts) more
    ≡ Closed (of_list old.clock whole.log whole.bindings) (counts_of whole) → IsLast old whole counts more
over old whole counts [] is =
    let now : old ≡ of_list old.clock whole.log whole.bindings = cc in
    record { list = ap (λ s. s.bindings) now; log = ap (λ s. s.log) now; same = cc; none = refl }
over old whole counts (line ∷ more) is =
    let same = sym (refused more) ∙ is in
    let never : ⊥ = cc in
    absurd never

pub is_last : (old whole : StateFileModel) (counts : LineCounts) (more : List StateLine) →
    lines_between whole ++ end (counts_of whole) ∷ [] ≡ lines_between old ++ end counts ∷ more →
    IsLast old whole counts more
is_last old whole counts more is = over old whole counts more (goes_on old whole (end counts ∷ more) is)
