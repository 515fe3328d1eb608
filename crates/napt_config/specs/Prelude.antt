-- All names of this crate's definitions, for one import.
pub use Rattle.napt_config.specs.Configured.{number_between, each_in_order, item_count, optional, text_in, table_in, default_timers, required, first_in_order}
pub use Rattle.napt_config.specs.{Fault.{◌>>=◌, ◌>>◌, require_rule}, declared.fault.ConfigFault.ConfigFault}
pub use Rattle.napt_config.specs.Prefixes.{PrefixModel, host_index, IsPrefix, prefix_has, prefix_size, host_count, prefixes_have, are_prefixes_apart, TransportAddressModel, IsTransportAddress}
pub use Rattle.napt_config.specs.Rules.{Rules, contains_address, paired_with, nth_block, IsPortBlock, AreBlocks, have_room, IsTimer, AreTimers, IsInsideList, IsQuota, ArePairs, RulesInvariant, IsRedirect, may_redirect, is_double, AreRedirectsSingle}
pub use Rattle.napt_config.specs.Text.{is_decimal, prefix_at, is_slash, is_colon, transport_address_at, IsReadBack}
pub use Rattle.napt_config.specs.declared.fault.ConfigFault.TheVariants.{BadAddress, BadPrefix, BadNumber, DuplicateAddress, Missing, PrefixesOverlap, BlockTooLarge, PairWithBlock, HoldWithBlock, NotInside, NotInPool, DuplicatePair, TimerTooShort, UnknownKey, RedirectInBlock, DuplicateRedirect}
pub use Rattle.napt_config.specs.declared.settings.{PortBlock.PortBlock, Redirect.Redirect, Timers.Timers}
unfoldable pub use Rattle.napt_config.specs.Text.{
  address_of,
  number_of,
  prefix_of_text,
  transport_address_of_text,
  address_text,
  prefix_text,
  transport_address_text,
}
unfoldable pub use Rattle.napt_config.specs.Rules.{paired_address, block_in}
unfoldable pub use Rattle.napt_config.specs.Configured.{
  list_up_to,
  short_list,
  with_address,
  pool_in,
  with_prefix,
  prefixes_in,
  inside_in,
  filter_in,
  refresh_in,
  choosing_in,
  number_at_key,
  timer_at,
  timers_at,
  idle_timers_in,
  timers_in,
  ring_in,
  quota_at,
  quota_in,
  block_size_at,
  block_size,
  block_size_in,
  address_in,
  with_pair,
  pairs_at,
  pairs_in,
  redirects_in,
  configured,
  knows_all_keys,
  is_tcp_in,
  transport_address_in,
  port_in,
  redirect_in,
  have_double_redirect,
  with_redirect,
  redirects_at,
}
