-- live_row: the flows of a binding of an accepted state have distinct remotes.
use Rattle.std.proofs.{Common.{◌≡◌, false, List, [], ◌∷◌, sym, ◌∙◌, ap}, lemmas.Bool.or_parts}
use Rattle.napt_binding.specs.Slots.{AreDistinct}
use Rattle.napt_rules.specs.{declared.Flow.Flow, Prelude.{Binding, flows_share}}
use Rattle.napt_account.proofs.live_rows.live_row.Goals as goal

distinct : (flows : List Flow) → flows_share flows ≡ false → AreDistinct flows
distinct [] h = tt
distinct (flow ∷ flows) h = let parts = or_parts _ _ h in (parts.0, distinct flows parts.1)

pub from_state-requires : goal.from_state-requires
from_state-requires c live = distinct _
    (c.requires (ap (λ (b : Binding). b.row.fixed) (sym c.binding.view_is) ∙ c.if-binding.false) live)
