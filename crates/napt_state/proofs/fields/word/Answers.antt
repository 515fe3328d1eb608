-- word: the word at an index of the line, or an empty one, is that of the definition.
use Rattle.std.{proofs.Common.{◌≡◌, ◌∙◌, [], Option, Some, None, lit<, refl, ap}, specs.{Option.option_map, Prelude.unwrap_or}}
use Rattle.std.proofs.lemmas.{Option.unwrap_or-slice_get, Iterator.{Consumers.nth_from_yields_List, Splits.YieldsList-from_str_split}}
use Rattle.napt_state.proofs.fields.word.Goals as goal

mapped : {A B : Type 0} (v : A → B) (r : Option A) (d : A) → v (unwrap_or r d) ≡ unwrap_or (option_map v r) (v d)
mapped v None d = refl
mapped v (Some x) d = refl

pub returns : goal.returns
returns c =
    let road = YieldsList-from_str_split {s = c.split.result} 32 c.args.line.now (lit< tt) c.split.ensures.text
    c.split.ensures.has_more c.split.ensures.pattern in
    ap (λ x. x.now) c.unwrap_or.ensures ∙ mapped (λ x. x.now) c.nth.result _
    ∙ ap (λ o. unwrap_or o []) (nth_from_yields_List c.nth.result c.nth.new.self c.args.place c.nth.ensures.ran road)
    ∙ unwrap_or-slice_get _ c.args.place []
