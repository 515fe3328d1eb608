-- `first_of_all`: the number is the first free one of a class without gaps, from the place on.
use Rattle.napt_table.{specs.Places.is_used, proofs.Choices.{near_number, far_number}}
use Rattle.napt_table.proofs.numbers.Numbers.first_of_all.Goals as goal

pub returns-in-Some : goal.returns-in-Some
returns-in-Some c = near_number (is_used c.args.self.now) c.args.class c.requires.apart c.args.place c.requires.within
    c.in-Some.found c.in-Some.ensures

pub returns-in-None : goal.returns-in-None
returns-in-None c = far_number (is_used c.args.self.now) c.args.class c.requires.apart c.args.place c.requires.within
    c.in-None.ensures c.first_from-in-None.result c.first_from-in-None.ensures
