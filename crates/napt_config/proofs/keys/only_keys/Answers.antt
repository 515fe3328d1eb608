-- only_keys: the result for the keys of the map is that for the members of the table's view.
use Rattle.std.{proofs.Common.{sym, ◌∙◌, ◌≡◌, false, true, rules}, specs.Map.keys_of}
use Rattle.napt_config.proofs.KnownKeys.{all_among, only_keys_by_list}
use Rattle.napt_config.proofs.keys.only_keys.Goals as goal

pub returns-then-not-is_one_of : goal.returns-then-not-is_one_of
returns-then-not-is_one_of c =
    let all : false ≡ all_among c.args.names.now (keys_of c.args.table.now.entries) = search rules in
    all ∙ sym (only_keys_by_list c.args.names.now c.args.table.now.entries)

pub returns : goal.returns
returns c =
    let all : true ≡ all_among c.args.names.now (keys_of c.args.table.now.entries) = search rules in
    all ∙ sym (only_keys_by_list c.args.names.now c.args.table.now.entries)
