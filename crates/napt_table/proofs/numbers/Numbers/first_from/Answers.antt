-- `first_from`: the number is the least free one in `from..end`.
use Rattle.napt_collections.specs.BitSets.{has}
use Rattle.napt_table.proofs.numbers.Numbers.first_from.Goals as goal

pub returns : goal.returns
returns c = rw (← c.self.view_is) (c.least_of.ensures (has c.self.inside.places) c.first_absent-even.ensures
    c.first_absent-odd.ensures)
