-- have_double: the later redirect is a double of an earlier one if and only if of a remaining one.
use Rattle.std.{proofs.Common.{◌≡◌, drop}, specs.List.list_any}
use Rattle.napt_config.specs.Rules.{paired_address, is_double}
use Rattle.napt_config.proofs.redirects.have_double.Given as goal

abbrev pub invariant-loop-redirect : goal.invariant-loop-redirect
invariant-loop-redirect l = let pair = paired_address l.block l.inside l.pool l.pairs.entries in
    list_any (λ redirect. is_double pair redirect l.later) (drop l.redirect-index l.earlier)
    ≡ list_any (λ redirect. is_double pair redirect l.later) l.earlier
