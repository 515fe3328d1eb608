-- The lists of all workers, by the index of the worker.
use Rattle.std.{proofs.lemmas.{Grind.common_steps, Bool.{Decides.nat_tests, cases_eq, eq-eqb, ne_eqb}}, specs.Prelude.{slice_index, slice_set, slice_get}}
use Rattle.std.proofs.Common.{◌≡◌, ◌≢◌, ℕ, zero, suc, ◌<◌, ◌==◌, Bool, true, false, cond, subst, List, [], ◌∷◌, ◌++◌, length, Some, refl, sym, ◌∙◌, ap, arith, inl, inr, append-nil, append_assoc}
use Rattle.std.proofs.lemmas.List.{get_or-set_same, get_or-set_other, length-map}
use Rattle.napt_rules.specs.declared.Leg.{Leg}
use Rattle.napt_pool.specs.{declared.pool.Pool.Pool, Pools.{initial_machines, accepted_items, taken_answers}}
use Rattle.napt_laws.specs.Dispatching.{IsFrontOf}
use Rattle.napt_sequential.specs.declared.{fault.RunFault.RunFault, leg_trace.TracedAnswer.TracedAnswer}
use Rattle.napt_dispatch.specs.{Dispatch.of_worker, DispatcherInvariants.{with_more_at, PoolGrows, DispatcherHalts}}

-- PREFIXES

pub front_none : {X : Type 0} (xs : List X) → IsFrontOf xs xs
front_none xs = ([], append-nil xs)

pub front_empty : {X : Type 0} (xs : List X) → IsFrontOf [] xs
front_empty xs = (xs, refl)

pub fronts_both : {X : Type 0} (xs ys zs : List X) → IsFrontOf xs ys → IsFrontOf ys zs → IsFrontOf xs zs
fronts_both xs ys zs a b = (a.0 ++ b.0, sym (append_assoc xs a.0 b.0) ∙ (ap (λ l. l ++ b.0) a.1 ∙ b.1))

-- EACH WORKER

-- Two functions are equal if they agree everywhere.
pub everywhere : {X Y : Type 0} {f g : X → Y} → ((x : X) → f x ≡ g x) → f ≡ g
everywhere same = λ i x. same x i

module _ {X : Type 0} (w : ℕ) (xs : List X) (lists : ℕ → List X) where
  pub added_own : with_more_at w xs lists w ≡ lists w ++ xs
  added_own = rw (eq-eqb w w refl) refl

  pub added_other : (v : ℕ) → v ≢ w → with_more_at w xs lists v ≡ lists v
  added_other v n = rw (ne_eqb v w n) refl

  pub added_front : (v : ℕ) → IsFrontOf (lists v) (with_more_at w xs lists v)
  added_front v = elim (v == w) as (λ b. IsFrontOf (lists v) (cond b (lists v ++ xs) (lists v)))
      [ true ↦ (xs, refl) | false ↦ front_none (lists v) ]

  pub added_more : (ys : List X) → with_more_at w (xs ++ ys) lists ≡ with_more_at w ys (with_more_at w xs lists)
  added_more ys = grind (arith, common_steps, nat_tests, everywhere, append_assoc)

pub added_none : {X : Type 0} (w : ℕ) (lists : ℕ → List X) → with_more_at w [] lists ≡ lists
added_none w lists = grind (arith, common_steps, nat_tests, everywhere, append-nil)

-- The same holds of a list of lists.
pub set_added : {X : Type 0} (lists : List (List X)) (w : ℕ) (xs : List X) → w < length lists →
    of_worker (slice_set lists w (of_worker lists w ++ xs)) ≡ with_more_at w xs (of_worker lists)
set_added lists w xs lt = everywhere (λ v. elim (cases_eq v w) [
  | inl e ↦ rw (e, added_own w xs (of_worker lists)) (get_or-set_same lists w (of_worker lists w ++ xs) [] lt)
  | inr n ↦ rw (added_other w xs (of_worker lists) v n)
      (get_or-set_other lists w v (of_worker lists w ++ xs) [] n)
])

-- A POOL THAT GROWS

module _ {P M G : Type 0} where
  pub grows_not : {pool later_pool : Pool M G Leg (TracedAnswer P)} →
      initial_machines later_pool ≡ initial_machines pool →
      accepted_items later_pool ≡ accepted_items pool → taken_answers later_pool ≡ taken_answers pool →
      PoolGrows pool later_pool
  grows_not began offered taken = grind (arith, common_steps, nat_tests, front_none)

  pub grows_none : (pool : Pool M G Leg (TracedAnswer P)) → PoolGrows pool pool
  grows_none pool = grows_not refl refl refl

  pub grows_both : {pool mid_pool later_pool : Pool M G Leg (TracedAnswer P)} → PoolGrows pool mid_pool →
      PoolGrows mid_pool later_pool → PoolGrows pool later_pool
  grows_both a b = record {
    starts_stay = b.starts_stay ∙ a.starts_stay;
    offered = λ w. fronts_both _ _ _ (a.offered w) (b.offered w);
    taken = λ w. fronts_both _ _ _ (a.taken w) (b.taken w);
  }

  module _ (w : ℕ) (pool later_pool : Pool M G Leg (TracedAnswer P)) (within : w < length (initial_machines pool))
      (began : initial_machines later_pool ≡ initial_machines pool) where
    pub grows_offered : (legs : List Leg) → taken_answers later_pool ≡ taken_answers pool →
        accepted_items later_pool ≡ slice_set (accepted_items pool) w (of_worker (accepted_items pool) w ++ legs) →
        PoolGrows pool later_pool
    grows_offered legs same more =
        let now : of_worker (accepted_items later_pool) ≡ with_more_at w legs (of_worker (accepted_items pool)) =
        ap of_worker more ∙ set_added (accepted_items pool) w legs (rw length-map (rw length-map at within)) in
        record {
          starts_stay = began;
          offered = λ v. subst (λ (lists : ℕ → List Leg). IsFrontOf (of_worker (accepted_items pool) v) (lists v))
              (sym now)
              (added_front w legs (of_worker (accepted_items pool)) v);
          taken = λ v. rw same (front_none (of_worker (taken_answers pool) v));
        }

    pub grows_taken : (answers : List (TracedAnswer P)) → accepted_items later_pool ≡ accepted_items pool →
        taken_answers later_pool ≡ slice_set (taken_answers pool) w (of_worker (taken_answers pool) w ++ answers) →
        PoolGrows pool later_pool
    grows_taken answers same more =
        let now : of_worker (taken_answers later_pool) ≡ with_more_at w answers (of_worker (taken_answers pool)) =
        ap of_worker more ∙ set_added (taken_answers pool) w answers (rw length-map (rw length-map at within)) in
        record {
          starts_stay = began;
          offered = λ v. rw same (front_none (of_worker (accepted_items pool) v));
          taken = λ v. subst (λ (lists : ℕ → List (TracedAnswer P)). IsFrontOf (of_worker (taken_answers pool) v)
              (lists v)) (sym now)
              (added_front w answers (of_worker (taken_answers pool)) v);
        }

  -- A pool that has grown and then ended with a fault ended with that fault.
  pub halts_after : {open_gate : Bool} {fault : RunFault} {pool mid_pool later_pool : Pool M G Leg (TracedAnswer P)} →
      PoolGrows pool mid_pool → DispatcherHalts open_gate mid_pool later_pool fault →
      DispatcherHalts open_gate pool later_pool fault
  halts_after a b = record { grows = grows_both a b.grows; fault_is = b.fault_is }

-- The place of an address in the pool is below the pool's length.
pub place_within : (pool : List ℕ) (w address : ℕ) → slice_get pool w ≡ Some address → (w < length pool)
    × (slice_index pool w ≡ address)
place_within [] w address e = cc
place_within (a ∷ pool) zero address e = (omega arith, (cc))
place_within (a ∷ pool) (suc w) address e = let rest : (w < length pool) × (slice_index pool w ≡ address) =
    place_within pool w address e in (omega (arith, rest.0), rest.1)
