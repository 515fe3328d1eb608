-- After each step, every binding except redirects has a number of its host's port block, if it had one before.
use Rattle.std.proofs.Common.{◌≡◌, ℕ, Bool, false, not, List, [], ◌∷◌, map, Option, Some, None, Ok, refl, sym, subst, filter, find, IfSome}
use Rattle.std.proofs.lemmas.Bool.{or_parts}
use Rattle.napt_rules.specs.Prelude.{Binding, Each, is_live, with_live_flows, purge, is_of_source, other_bindings, held_or_new_number, block_of, inbound_rules, candidates, is_free, redirect_binding, opening, new_binding, row, LegEffect, outbound_packet, inbound_packet, act_out, act_in, act_by, Arrival, run_from, IsBlockNumber, IsInItsBlock, RunsKeepToBlocks, Protocol, Way, Flags, Kind, kind, Rules, RulesInvariant, IsPortBlock, pair_of, PortBlock, NumberAssignment, Endpoint, Redirect, assignment_rules}
use Rattle.napt_rules.specs.declared.{OutboundPacket.OutboundPacket, Row.Row, Leg.Leg}
use Rattle.napt_laws.proofs.{LegCases.of_act, Blocks.each_of_block, Lists.{each_pushed, each_kept, find_passes}, Quotas.granted_is_chosen, HeldNumbers.each_rows, Endpoints.inside_parts, SeenElements.ended}
use Rattle.napt_laws.proofs.{StepRows.{out_keeps, in_keeps}, RunInduction.run_keeps}

-- A candidate is a number of the host's block, if it has one.
found_in_block : (choosing : NumberAssignment) (block : Option PortBlock) → IfSome block IsPortBlock → (free : ℕ → Bool)
    (protocol : Protocol) (inside : Endpoint) (n : ℕ) → find free (candidates choosing block protocol inside)
    ≡ Some n → IfSome block (λ block. IsBlockNumber block n)
found_in_block choosing None is free protocol inside n e = tt
found_in_block choosing (Some block) is free protocol inside n e =
    (find_passes free (IsBlockNumber block) (candidates choosing (Some block) protocol inside) n
    (each_of_block (IsBlockNumber block) choosing block is protocol inside (λ m h. h)) e).1

-- Redirects have the numbers that the configuration gives them.
pub opening_in_blocks : (rules : Rules) (pair : ℕ → ℕ) (redirects : List Redirect) →
    Each (IsInItsBlock rules) (map row (map (redirect_binding pair) redirects))
opening_in_blocks rules pair [] = tt
opening_in_blocks rules pair (redirect ∷ redirects) = (λ loose. cc, opening_in_blocks rules pair redirects)

module _ (rules : Rules) (keeps : RulesInvariant rules) where
  abbrev AreInBlocks : List Row → Type 0
  AreInBlocks rows = Each (IsInItsBlock rules) rows

  fewer : (p : Binding → Bool) (list : List Binding) → AreInBlocks (map row list) →
      AreInBlocks (map row (filter p list))
  fewer p list h = each_kept (IsInItsBlock rules) row p list h

  -- A number that is assigned is of the block, and one that is assigned again was.
  module _ (address : ℕ) (packet : OutboundPacket) (its : packet.block ≡ block_of rules packet.inside.address)
      (list : List Binding) (none : find (is_of_source address packet) (purge rules.timers packet.now list) ≡ None)
      (h : AreInBlocks (map row list)) (n : ℕ) where
    granted_in_block : (held : Option Binding) → find (is_of_source address packet) list ≡ held →
        held_or_new_number (assignment_rules rules) list address packet held ≡ Ok n →
        IsInItsBlock rules (row (new_binding address packet n))
    granted_in_block None is e = λ loose. subst (λ (b : Option PortBlock). IfSome b (λ block. IsBlockNumber block n))
        its
        (found_in_block rules.choosing packet.block
        (subst (λ (b : Option PortBlock). IfSome b IsPortBlock) (sym its) (keeps.blocks packet.inside.address))
        (is_free list address packet.protocol) packet.protocol packet.inside n
        (granted_is_chosen (assignment_rules rules) list address packet n e))
    granted_in_block (Some b) is e = λ loose.
        let found = find_passes (is_of_source address packet) (λ b. IsInItsBlock rules (row b)) list b
        (each_rows (IsInItsBlock rules) list h) is in
        let p = inside_parts address packet.protocol packet.inside (row b) found.0 in
        let dead : is_live rules.timers packet.now b ≡ false = ended (is_live rules.timers packet.now)
        (is_of_source address packet) (with_live_flows rules.timers packet.now) (λ b. refl) list none b is in
        let same : b.row.external.number ≡ n = cc in
        subst (λ m. IfSome (block_of rules packet.inside.address) (λ block. IsBlockNumber block m)) same
        (subst (λ (e : Endpoint). IfSome (block_of rules e.address)
        (λ block. IsBlockNumber block b.row.external.number))
        (sym p.inside_is) (found.1 (or_parts b.row.fixed _ dead).0))

  -- ONE LEG

  module _ (address : ℕ) (leg : Leg) (list : List Binding) (h : AreInBlocks (map row list)) where
    blocks_sent : (protocol : Protocol) (flags : Flags) →
        AreInBlocks (map row (act_out rules address leg list protocol flags).list)
    blocks_sent protocol flags =
        let packet : OutboundPacket = outbound_packet rules protocol flags leg.now leg.packet in
        out_keeps AreInBlocks fewer rules.timers address (assignment_rules rules) packet (λ all n kept none is.
        each_pushed (IsInItsBlock rules) (map row (other_bindings address packet all))
        (row (new_binding address packet n))
        (fewer (λ b. not (is_of_source address packet b)) all kept)
        (granted_in_block address packet refl all none kept n (find (is_of_source address packet) all) refl is)) list h

    blocks_entered : (protocol : Protocol) (flags : Flags) →
        AreInBlocks (map row (act_in rules address leg list protocol flags).list)
    blocks_entered protocol flags = in_keeps AreInBlocks fewer rules.timers address (inbound_rules rules)
        (inbound_packet protocol flags leg.now leg.packet) list h

    blocks_leg : (way : Way) (kind : Kind) → AreInBlocks (map row (act_by rules address leg list way kind).list)
    blocks_leg way kind =
        of_act rules address leg list (λ (a : LegEffect). AreInBlocks (map row a.list)) blocks_sent blocks_entered
        (λ end. h) way kind

  pub blocks_run : (number clock : ℕ) (inputs : List Arrival) (list : List Binding) → AreInBlocks (map row list) →
      AreInBlocks (map row (run_from rules number clock inputs list).list)
  blocks_run = run_keeps rules (λ (l : List Binding). AreInBlocks (map row l)) (λ address leg list served h.
      blocks_leg address leg list h leg.way (kind leg.packet))

pub runs_keep_to_blocks : RunsKeepToBlocks
runs_keep_to_blocks rules keeps inputs =
    blocks_run rules keeps 0 0 inputs (opening rules) (opening_in_blocks rules (pair_of rules) rules.redirects)
