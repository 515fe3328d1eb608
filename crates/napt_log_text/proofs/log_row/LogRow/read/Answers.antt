-- read: a row of an event has all fields, and each is the text of its value.
use Rattle.std.proofs.Common.{◌∙◌, [], Some, None, ap, codes, lit<, arith}
use Rattle.napt_config.specs.Rules.{pair_of}
use Rattle.napt_log_text.{specs.declared.event.LogEvent.TheVariants.{Made, Repeated, Ended, Living, Refused}, proofs.SavedRows.{fields_many, fields_read}}
use Rattle.napt_log_text.proofs.log_row.LogRow.read.Goals as goal

pub returns-then-fields-eq-FIELDS : goal.returns-then-fields-eq-FIELDS
returns-then-fields-eq-FIELDS c rules (Made listed) fits is =
    let parts = c.first_field.ensures _ _ _ (fields_read rules (Made listed) c.args.row.now is) in
    ap Some (c.from_fields.ensures.binding (Some listed.entry.made) (Some 8) [] listed (omega (arith, fits.0))
    (lit< tt) fits.1 parts.0 parts.1)
returns-then-fields-eq-FIELDS c rules (Repeated listed) fits is =
    let parts = c.first_field.ensures _ _ _ (fields_read rules (Repeated listed) c.args.row.now is) in
    ap Some (c.from_fields.ensures.binding (Some listed.entry.made) (Some 8) (codes "repeated") listed
    (omega (arith, fits.0)) (lit< tt) fits.1 parts.0 parts.1)
returns-then-fields-eq-FIELDS c rules (Ended listed) fits is =
    let parts = c.first_field.ensures _ _ _ (fields_read rules (Ended listed) c.args.row.now is) in
    ap Some (c.from_fields.ensures.binding listed.entry.end (Some 9) [] listed fits.0 (lit< tt) fits.1 parts.0 parts.1)
returns-then-fields-eq-FIELDS c rules (Living listed) fits is =
    let parts = c.first_field.ensures _ _ _ (fields_read rules (Living listed) c.args.row.now is) in
    ap Some (c.from_fields.ensures.binding listed.entry.end None [] listed fits.0 tt fits.1 parts.0 parts.1)
returns-then-fields-eq-FIELDS c rules (Refused shortage) fits is =
    let parts = c.first_field.ensures _ _ _ (fields_read rules (Refused shortage) c.args.row.now is) in
    ap Some (c.from_fields.ensures.refusal (pair_of rules shortage.host) shortage (omega (arith, fits)) parts.0 parts.1)

pub returns-then-fields-eq-EARLIER_FIELDS : goal.returns-then-fields-eq-EARLIER_FIELDS
returns-then-fields-eq-EARLIER_FIELDS c rules event fits is =
    absurd (c.if-fields-eq-FIELDS.false (c.field_count-fields.ensures ∙ fields_many rules event c.args.row.now is))

pub returns-else-fields-eq-EARLIER_FIELDS : goal.returns-else-fields-eq-EARLIER_FIELDS
returns-else-fields-eq-EARLIER_FIELDS c rules event fits is =
    absurd (c.if-fields-eq-FIELDS.false (c.field_count-fields.ensures ∙ fields_many rules event c.args.row.now is))
