-- seconds_of: `parse` reads the number that the definition gives, and fails where it gives 0.
use Rattle.napt_program.proofs.NumberLemmas.{seconds_read, seconds_unread}
use Rattle.napt_program.proofs.options.seconds_of.Goals as goal

pub returns-in-Ok : goal.returns-in-Ok
returns-in-Ok c = seconds_read c.args.text.now c.in-Ok.seconds c.in-Ok.ensures.value.0

pub returns-in-Err : goal.returns-in-Err
returns-in-Err c = seconds_unread c.args.text.now c.in-Err.field-0 c.in-Err.ensures.value.0
