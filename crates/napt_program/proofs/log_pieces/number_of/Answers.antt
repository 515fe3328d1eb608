-- number_of: the number is read from its decimal digits alone, and each number is read.
use Rattle.std.proofs.Common.{◌∙◌, arith, sym}
use Rattle.std.proofs.lemmas.{Grind.common_steps, Bool.{Decides.nat_tests}}
use Rattle.napt_program.proofs.NumberLemmas.{no_number, number_again, number_read, number_unread}
use Rattle.napt_program.proofs.log_pieces.number_of.Goals as goal

pub returns-in-Ok-clause-is : goal.returns-in-Ok-clause-is
returns-in-Ok-clause-is c =
    let read = number_read c.args.text.now c.in-Ok.number c.in-Ok.ensures.value.0 in
    grind (arith, common_steps, nat_tests, read, c.begins_with_1_to_9.ensures, c.if-begins_with_1_to_9.true)

pub returns-in-Ok-clause-each : goal.returns-in-Ok-clause-each
returns-in-Ok-clause-each c = λ n some small is.
    number_again c.args.text.now c.in-Ok.number n small is c.in-Ok.ensures.value.0

pub returns-in_default-clause-each : goal.returns-in_default-clause-each
returns-in_default-clause-each c = λ n some small is.
    no_number c.args.text.now n some small is (sym c.begins_with_1_to_9.ensures ∙ c.if-begins_with_1_to_9.false)

pub returns-in_default-2-clause-each : goal.returns-in_default-2-clause-each
returns-in_default-2-clause-each c = λ n some small is.
    number_unread c.args.text.now c.in_default.field-0 n small is c.in_default.ensures.value.0
