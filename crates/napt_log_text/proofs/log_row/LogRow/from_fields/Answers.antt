-- from_fields: each field of a row is the text of its value.
use Rattle.std.proofs.Common.{◌∙◌, Some, None, refl, arith}
use Rattle.napt_log_text.specs.{Rows.{csv_protocol, shortage_number}, LogRows.flag_number}
use Rattle.napt_log_text.proofs.SavedRows.{flag_text-decimal, small_flag, small_protocol, small_shortage}
use Rattle.napt_log_text.proofs.log_row.LogRow.from_fields.Goals as goal

pub returns-clause-binding : goal.returns-clause-binding
returns-clause-binding c at event note listed some many fits first is =
    let binding = listed.entry.binding in
    let f1 = c.first_field.ensures _ _ _ is in
    let f2 = c.first_field-2.ensures _ _ _ f1.1 in
    let f3 = c.first_field-3.ensures _ _ _ f2.1 in
    let f4 = c.first_field-4.ensures _ _ _ f3.1 in
    let f5 = c.first_field-5.ensures _ _ _ f4.1 in
    let f6 = c.first_field-6.ensures _ _ _ f5.1 in
    let f7 = c.first_field-7.ensures _ _ _ f6.1 in
    let f8 = c.first_field-8.ensures _ _ _ f7.1 in
    let f9 = c.first_field-9.ensures _ _ _ f8.1 in
    let one = c.number_in.ensures at some first in
    let two = c.number_in-2.ensures event many f1.0 in
    let three = c.number_in-protocol.ensures (Some (csv_protocol binding.protocol))
    (small_protocol binding.protocol) f2.0 in
    let four = c.endpoint_of.ensures.some binding.inside fits.1 f3.0 f4.0 in
    let five = c.endpoint_of-2.ensures.some binding.external fits.2 f5.0 f6.0 in
    let six = c.number_in-3.ensures (Some listed.number) (omega (arith, fits.0)) f8.0 in
    let seven = c.number_in-4.ensures (Some (flag_number binding.fixed)) (small_flag binding.fixed)
    (f9.0 ∙ flag_text-decimal binding.fixed) in
    let eight = c.is_of_gateway.ensures (csv_protocol binding.protocol) three in
    rw (one, two, three, four, five, six, seven, eight) refl

pub returns-clause-refusal : goal.returns-clause-refusal
returns-clause-refusal c external shortage some first is =
    let f1 = c.first_field.ensures _ _ _ is in
    let f2 = c.first_field-2.ensures _ _ _ f1.1 in
    let f3 = c.first_field-3.ensures _ _ _ f2.1 in
    let f4 = c.first_field-4.ensures _ _ _ f3.1 in
    let f5 = c.first_field-5.ensures _ _ _ f4.1 in
    let f6 = c.first_field-6.ensures _ _ _ f5.1 in
    let f7 = c.first_field-7.ensures _ _ _ f6.1 in
    let f8 = c.first_field-8.ensures _ _ _ f7.1 in
    let f9 = c.first_field-9.ensures _ _ _ f8.1 in
    let one = c.number_in.ensures (Some shortage.at) some first in
    let two = c.number_in-2.ensures (Some (shortage_number shortage.cause)) (small_shortage shortage.cause) f1.0 in
    let three = c.number_in-protocol.ensures (Some (csv_protocol shortage.protocol))
    (small_protocol shortage.protocol) f2.0 in
    let four = c.endpoint_of.ensures.none f4.0 in
    let five = c.endpoint_of-2.ensures.none f6.0 in
    let six = c.number_in-3.ensures None tt f8.0 in
    let seven = c.number_in-4.ensures None tt f9.0 in
    let eight = c.is_of_gateway.ensures (csv_protocol shortage.protocol) three in
    rw (one, two, three, four, five, six, seven, eight) refl
