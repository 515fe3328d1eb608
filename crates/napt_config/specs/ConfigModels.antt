-- What contracts see of a `Config`.
use Rattle.napt_config.specs.{Rules.Rules, declared.config.Config.TheInside.Inside}

-- The fields of a configuration, as lists and numbers.
abbrev pub config_model : Inside → Rules
config_model config = record {
  pool = config.pool.items;
  inside = config.inside.items;
  filter = config.filter;
  refresh = config.refresh;
  choosing = config.choosing;
  timers = config.timers;
  ring = config.ring;
  quota = config.quota;
  block = config.block;
  pairs = config.pairs.entries;
  redirects = config.redirects.items;
}
