-- field_count: the number of fields is that of the parts between commas.
use Rattle.std.proofs.{Common.{◌∙◌, length, lit<, sym, ap}, lemmas.{List.length-map, Iterator.{items_from_drains, Splits.YieldsList-from_str_split}}}
use Rattle.napt_log_text.proofs.log_row.field_count.Goals as goal

pub returns : goal.returns
returns c =
    let road = YieldsList-from_str_split {s = c.split.result} 44 c.args.row.now (lit< tt) c.split.ensures.text
    c.split.ensures.has_more c.split.ensures.pattern in
    let ran = c.count.ensures.ran in
    ran.2 ∙ sym (length-map ran.0 _)
    ∙ ap length (items_from_drains ran.0 (ran.1.1.0, ran.1.1.1, λ _. (ran.1.0, ran.1.1.2)) road)
