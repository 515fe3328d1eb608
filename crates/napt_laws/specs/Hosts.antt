-- The inside host that has an external endpoint, if hosts have port blocks (RFC 7422, section 2). There is at most one,
-- always the same, and the configuration alone determines it.
use Rattle.std.specs.Prelude.{◌≡◌, ℕ, true, false, List, map, Some, IfSome}
use Rattle.napt_config.specs.Rules.{Rules, RulesInvariant, pair_of, block_of, block_has_number, host_of}
use Rattle.napt_rules.specs.{declared.Row.Row, Prelude.{Each, row, Arrival, PortBlock, State, TakesState, effect_from, with_redirects}}

-- The host of each number of a host's block, at the host's external address, is that host.
abbrev pub BlocksNameTheirHosts : Type 0
BlocksNameTheirHosts = (rules : Rules) (host number : ℕ) (block : PortBlock) → RulesInvariant rules →
    block_of rules host
    ≡ Some block → block_has_number block number ≡ true → host_of rules (pair_of rules host) number ≡ Some host

-- A host has no numbers outside its block.
abbrev pub HostsHaveTheirBlocks : Type 0
HostsHaveTheirBlocks = (rules : Rules) (host number : ℕ) (block : PortBlock) → RulesInvariant rules →
    block_of rules host
    ≡ Some block → host_of rules (pair_of rules host) number ≡ Some host → block_has_number block number ≡ true

-- No two hosts of one external address have a number in common.
abbrev pub BlocksAreApart : Type 0
BlocksAreApart = (rules : Rules) (a b number : ℕ) (of_a of_b : PortBlock) → RulesInvariant rules → block_of rules a
    ≡ Some of_a → block_of rules b ≡ Some of_b → pair_of rules a ≡ pair_of rules b → block_has_number of_a number
    ≡ true → block_has_number of_b number ≡ true → a ≡ b

-- The host of a binding's external endpoint is the binding's own, unless it is a redirect or has no block.
abbrev pub HostIsNamed : Rules → Row → Type 0
HostIsNamed rules row = row.fixed ≡ false → IfSome (block_of rules row.inside.address)
    (λ block. host_of rules row.external.address row.external.number ≡ Some row.inside.address)

-- The host is named for each binding after any inputs from a state that the configuration accepts. The host that had a
-- number is therefore known without a log.
abbrev pub RunsNameTheirHosts : Type 0
RunsNameTheirHosts = (rules : Rules) → RulesInvariant rules → (state : State) → TakesState rules state →
    (inputs : List Arrival) → Each (HostIsNamed rules) (map row (effect_from rules (with_redirects rules state) inputs).list)
