-- `first_of_parity`: the number is the first free one of a class with a step of 2, from the place on.
use Rattle.std.proofs.Common.{◌∙◌}
use Rattle.napt_collections.specs.BitSets.{has}
use Rattle.napt_table.proofs.Choices.{near_choice, far_choice, no_choice}
use Rattle.napt_table.proofs.numbers.Numbers.first_of_parity.Goals as goal

pub returns-in-Some : goal.returns-in-Some
returns-in-Some c =
    rw (← c.self.view_is)
    (near_choice (has c.self.inside.places) c.args.class c.requires.apart c.args.place c.requires.within
    c.from-start.result (c.from-start.ensures ∙ c.place_of.ensures) c.in-Some.found c.in-Some.ensures)

pub returns-in_err-found : goal.returns-in_err-found
returns-in_err-found c =
    c.from_residual.ensures
    ∙ rw (← c.self.view_is)
    (no_choice (has c.self.inside.places) c.args.class c.requires.apart c.args.place c.requires.within
    c.from-start.result (c.from-start.ensures ∙ c.place_of.ensures) c.in_default.ensures c.in_err-found.ensures)

pub returns : goal.returns
returns c =
    rw (← c.self.view_is)
    (far_choice (has c.self.inside.places) c.args.class c.requires.apart c.args.place c.requires.within
    c.from-start.result (c.from-start.ensures ∙ c.place_of.ensures) c.in_default.ensures c.in_ok-found.found
    c.in_ok-found.ensures)
