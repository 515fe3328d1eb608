-- number: a decimal number that `parse` refuses is not a number from `least` to `most`.
use Rattle.std.proofs.Common.{◌≡◌, true, sym, rules, arith}
use Rattle.napt_config.{specs.Text.is_decimal, proofs.Numbers.number_of-unread}
use Rattle.napt_config.proofs.text.number.Goals as goal

pub returns-in_default-3-clause-value : goal.returns-in_default-3-clause-value
returns-in_default-3-clause-value c =
    let number : is_decimal c.args.text.now ≡ true = search rules in
    sym (number_of-unread c.in_default.field-0 c.args.least c.args.most c.args.text.now
    (omega arith) number c.in_default.ensures.value.0)
