-- A list of values has as many entries as its view.
use Rattle.std.proofs.Common.{◌≡◌, List, [], ◌∷◌, length, refl, arith}
use Rattle.toml.specs.{declared.value.Value.Value, View.items_view}
use Rattle.napt_config.specs.Configured.{item_count}

pub items_are_counted : (vs : List Value) → item_count (items_view vs) ≡ length vs
items_are_counted [] = refl
items_are_counted (v ∷ vs) = rw (items_are_counted vs) (omega arith)
