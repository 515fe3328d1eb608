-- `choose_in_class`: the candidates are the numbers of the class from the place on.
use Rattle.std.{proofs.Common.{◌∙◌, not, ap}, specs.Prelude.find}
use Rattle.napt_table.{specs.Places.is_used, proofs.Classes.candidates_by_class}
use Rattle.napt_table.proofs.numbers.Numbers.choose_in_class.Goals as goal

pub returns : goal.returns
returns c = c.first_of.ensures ∙ ap (find (λ n. not (is_used c.args.self.now n))) (rw (← c.self.view_is)
    (candidates_by_class c.args.choosing c.self.inside.protocol c.args.inside c.class_of-class.ensures.small
    c.class_of-class.result c.class_of-class.ensures.value c.place_in_class-place.result
    c.place_in_class-place.ensures.place))
