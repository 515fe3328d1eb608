-- `choose_in_block`: where parity is free, the candidates are all numbers of the block from the place on.
use Rattle.std.{proofs.Common.{◌∙◌, not, ap}, specs.Prelude.find}
use Rattle.napt_table.{specs.{Classes.from_place, Places.is_used}, proofs.InBlock.each_by}
use Rattle.napt_table.proofs.numbers.Numbers.choose_in_block.Goals as goal

pub returns-else-choosing : goal.returns-else-choosing
returns-else-choosing c = c.first_of_all.ensures ∙ ap (find (λ n. not (is_used c.args.self.now n)))
    (ap (from_place c.class_of_block.result) c.from.ensures ∙ rw (← c.self.view_is)
    (each_by c.args.block c.requires c.args.choosing c.if-choosing.false c.self.inside.protocol c.args.inside
    c.class_of_block.result c.class_of_block.ensures c.place_in_block-place.result c.place_in_block-place.ensures.place
    c.place_in_block-place.ensures.within))
