-- value_at: the result is the member at the key in the table's view.
use Rattle.toml.proofs.Views.{table_get}
use Rattle.napt_config.proofs.values.value_at.Goals as goal

pub returns : goal.returns
returns c = table_get c.get.result c.args.key.now c.args.table.now.entries c.get.ensures.value
