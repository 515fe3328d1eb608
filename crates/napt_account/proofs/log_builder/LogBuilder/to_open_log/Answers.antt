-- left: by the invariant, the stored entries are the open entries of the log.
use Rattle.std.{proofs.Common.{◌≡◌, ◌∙◌, ap, subst}, specs.Prelude.IfOk}
use Rattle.napt_account.specs.{LogBuilders.{LogBuilderModel}, LogParts.kept_at}
use Rattle.napt_account.proofs.log_builder.LogBuilder.to_open_log.Goals as goal

pub returns : goal.returns
returns c = λ going.
    let is = c.self.invariant (ap (λ (v : LogBuilderModel). v.is_stopped) c.self.view_is ∙ going) in
    subst (λ (v : LogBuilderModel). IfOk c.to_open_log.result (λ left. left ≡ kept_at v.clock v.log)) c.self.view_is
    (c.to_open_log.ensures _ _ _ is.entries)
