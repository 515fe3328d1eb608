-- living: by the invariant, the entries in order of end are the open entries of the log.
use Rattle.std.{proofs.Common.{◌≡◌, ◌∙◌, ap, subst}}
use Rattle.napt_account.specs.{LogBuilders.{LogBuilderModel}, LogParts.living_at}
use Rattle.napt_account.proofs.log_builder.LogBuilder.living.Goals as goal

pub returns : goal.returns
returns c = λ going.
    let is = c.self.invariant (ap (λ (v : LogBuilderModel). v.is_stopped) c.self.view_is ∙ going) in
    subst (λ (v : LogBuilderModel). c.in_ok-living.living.items ≡ living_at v.clock v.log) c.self.view_is
    (c.in_ok-living.ensures _ _ _ is.entries)
