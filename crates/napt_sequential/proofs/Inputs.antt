-- Inputs that come from a list.
use Rattle.std.proofs.Common.{◌≡◌, List, [], ◌++◌, Option, ◌∙◌, ap, append-nil}
use Rattle.napt_rules.specs.Prelude.{Arrival}
use Rattle.napt_sequential.specs.Inputs.{InputsCame}

-- The inputs that come from a list up to its end are all of it.
pub came_whole : {S F : Type 0} (list : S → List Arrival) (before after : S) (inputs : List Arrival)
    (fault : Option F) → InputsCame (λ x xs y. list x ≡ xs ++ list y) (λ x end y. list x ≡ []) before inputs fault
    after →
    list before ≡ inputs
came_whole list before after inputs fault c = c.handed ∙ (ap (λ l. inputs ++ l) c.ended ∙ append-nil inputs)
