-- `reserve`: no stored binding changes, and the invariant is preserved, also if memory is refused.
use Rattle.std.{proofs.Common.{refl, ap}, specs.Map.lookup}
use Rattle.napt_table.{specs.Keys.{key_eq, inside_key}, proofs.IndexConsistency.same_held}
use Rattle.napt_table.proofs.bindings.binding_index.BindingIndex.reserve.Goals as goal

pub invariant_of-self : goal.invariant_of-self
invariant_of-self c = same_held c.self.inside _ c.self.invariant refl refl (λ k. refl) (λ q e. refl) refl refl
    (λ host. refl)

pub invariant_of-self-in_err-reserve-2 : goal.invariant_of-self-in_err-reserve-2
invariant_of-self-in_err-reserve-2 c = same_held c.self.inside _ c.self.invariant refl refl
    (λ k. ap (lookup (key_eq k)) c.reserve-2.ensures.entries) (λ q e. refl) refl refl (λ host. refl)

pub invariant_of-self-in_err-reserve-3 : goal.invariant_of-self-in_err-reserve-3
invariant_of-self-in_err-reserve-3 c = same_held c.self.inside _ c.self.invariant refl refl
    (λ k. ap (lookup (key_eq k)) c.reserve-2.ensures.entries) (λ q e. refl) refl
    c.reserve-3.ensures.counted c.reserve-3.ensures.counts

pub invariant_of-self-in_err-reserve-4 : goal.invariant_of-self-in_err-reserve-4
invariant_of-self-in_err-reserve-4 c = same_held c.self.inside _ c.self.invariant refl refl
    (λ k. ap (lookup (key_eq k)) c.reserve-2.ensures.entries) (λ q e. c.reserve-4.ensures.entries.2 (inside_key q e))
    refl c.reserve-3.ensures.counted c.reserve-3.ensures.counts

pub invariant_of-self-2 : goal.invariant_of-self-2
invariant_of-self-2 c = same_held c.self.inside _ c.self.invariant refl refl
    (λ k. ap (lookup (key_eq k)) c.reserve-2.ensures.entries) (λ q e. c.reserve-4.ensures.entries.2 (inside_key q e))
    refl c.reserve-3.ensures.counted c.reserve-3.ensures.counts

pub returns-in_err-reserve-3-clause-same : goal.returns-in_err-reserve-3-clause-same
returns-in_err-reserve-3-clause-same c = rw (← c.self.view_is) (record {
  place = record { address_is = refl; assignment_is = refl };
  held_same = λ k. ap (lookup (key_eq k)) c.reserve-2.ensures.entries;
})

pub returns-in_err-reserve-4-clause-same : goal.returns-in_err-reserve-4-clause-same
returns-in_err-reserve-4-clause-same c = rw (← c.self.view_is) (record {
  place = record { address_is = refl; assignment_is = refl };
  held_same = λ k. ap (lookup (key_eq k)) c.reserve-2.ensures.entries;
})

pub returns-clause-same : goal.returns-clause-same
returns-clause-same c = rw (← c.self.view_is) (record {
  place = record { address_is = refl; assignment_is = refl };
  held_same = λ k. ap (lookup (key_eq k)) c.reserve-2.ensures.entries;
})
