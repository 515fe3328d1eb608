-- The contents of the slots after one is filled or emptied.
use Rattle.std.proofs.lemmas.Grind.{common_steps}
use Rattle.std.proofs.Common.{◌≡◌, ◌≢◌, ℕ, zero, suc, ◌+◌, ◌<◌, ◌⊎◌, inl, inr, Bool, true, false, ◌||◌, cond, List, [], ◌∷◌, ◌++◌, length, set, Option, Some, None, nat_lt, refl, sym, ◌∙◌, ap, arith, filter, ◌==◌}
use Rattle.std.{specs.List.list_any, proofs.lemmas.{Bool.Decides.nat_tests, Option.same_Some, List.{length_push, Sums.sum_by-cons}}}
use Rattle.napt_rules.specs.{declared.Flow.Flow, Prelude.change_first}
use Rattle.napt_binding.specs.Slots.{standing_flows, IsInSlot, count_of}

module _ {X : Type 0} where
  pub stands_within : (slots : List (Option X)) (i : ℕ) (x : X) → IsInSlot slots i x → i < length slots
  stands_within [] i x h = cc
  stands_within (o ∷ slots) zero x h = omega arith
  stands_within (o ∷ slots) (suc i) x h = omega (arith, stands_within slots i x h)

  -- The contents of the slots after one was written.
  pub stands_set : (slots : List (Option X)) (i : ℕ) (o : Option X) (k : ℕ) (y : X) → IsInSlot (set slots i o) k y →
      ((k ≡ i) × (o ≡ Some y)) ⊎ ((k ≢ i) × IsInSlot slots k y)
  stands_set [] i o k y h = cc
  stands_set (z ∷ slots) zero o zero y h = inl (refl, same_Some o (Some y) h)
  stands_set (z ∷ slots) zero o (suc k) y h = inr ((λ e. absurd (omega (arith, e))), h)
  stands_set (z ∷ slots) (suc i) o zero y h = inr ((λ e. absurd (omega (arith, e))), h)
  stands_set (z ∷ slots) (suc i) o (suc k) y h = grind (arith, common_steps, nat_tests, stands_set slots i o k y h)

  pub stands_there : (slots : List (Option X)) (i : ℕ) (x y : X) → IsInSlot slots i x →
      IsInSlot (set slots i (Some y)) i y
  stands_there [] i x y h = cc
  stands_there (o ∷ slots) zero x y h = refl
  stands_there (o ∷ slots) (suc i) x y h = stands_there slots i x y h

  pub stands_elsewhere : (slots : List (Option X)) (i : ℕ) (o : Option X) (k : ℕ) (y : X) → k ≢ i → IsInSlot slots k y →
      IsInSlot (set slots i o) k y
  stands_elsewhere [] i o k y differs h = h
  stands_elsewhere (z ∷ slots) zero o zero y differs h = absurd (differs refl)
  stands_elsewhere (z ∷ slots) zero o (suc k) y differs h = h
  stands_elsewhere (z ∷ slots) (suc i) o zero y differs h = h
  stands_elsewhere (z ∷ slots) (suc i) o (suc k) y differs h = stands_elsewhere slots i o k y (λ e.
      differs (ap suc e)) h

  -- Of two writes to a slot, the second one counts.
  pub set_twice : (slots : List (Option X)) (i : ℕ) (a b : Option X) → set (set slots i a) i b ≡ set slots i b
  set_twice [] i a b = refl
  set_twice (z ∷ slots) zero a b = refl
  set_twice (z ∷ slots) (suc i) a b = ap (λ (l : List (Option X)). z ∷ l) (set_twice slots i a b)

  -- The contents of the slots after one was appended.
  pub stands_pushed : (slots : List (Option X)) (o : Option X) (k : ℕ) (y : X) → IsInSlot (slots ++ o ∷ []) k y →
      ((k ≡ length slots) × (o ≡ Some y)) ⊎ IsInSlot slots k y
  stands_pushed [] o zero y h = inl (refl, same_Some o (Some y) h)
  stands_pushed [] o (suc k) y h = cc
  stands_pushed (z ∷ slots) o zero y h = inr h
  stands_pushed (z ∷ slots) o (suc k) y h = grind (arith, common_steps, nat_tests, stands_pushed slots o k y h)

  pub stands_last : (slots : List (Option X)) (y : X) → IsInSlot (slots ++ Some y ∷ []) (length slots) y
  stands_last [] y = refl
  stands_last (o ∷ slots) y = stands_last slots y

  pub stands_still : (slots : List (Option X)) (o : Option X) (k : ℕ) (y : X) → IsInSlot slots k y →
      IsInSlot (slots ++ o ∷ []) k y
  stands_still [] o k y h = cc
  stands_still (z ∷ slots) o zero y h = h
  stands_still (z ∷ slots) o (suc k) y h = stands_still slots o k y h

  -- THE LIST

  pub somes_pushed : (slots : List (Option X)) (y : X) →
      standing_flows (slots ++ Some y ∷ []) ≡ standing_flows slots ++ y ∷ []
  somes_pushed [] y = refl
  somes_pushed (None ∷ slots) y = somes_pushed slots y
  somes_pushed (Some x ∷ slots) y = ap (λ (l : List X). x ∷ l) (somes_pushed slots y)

  pub any_stands : (t : X → Bool) (slots : List (Option X)) (i : ℕ) (x : X) → IsInSlot slots i x → t x ≡ true →
      list_any t (standing_flows slots) ≡ true
  any_stands t [] i x h e = cc
  any_stands t (None ∷ slots) zero x h e = cc
  any_stands t (None ∷ slots) (suc i) x h e = any_stands t slots i x h e
  any_stands t (Some y ∷ slots) zero x h e = let s : y ≡ x = same_Some y x (same_Some (Some y) (Some x) h) in
      ap (λ v. v || list_any t (standing_flows slots)) (ap t s ∙ e)
  any_stands t (Some y ∷ slots) (suc i) x h e = grind (arith, any_stands t slots i x h e)

  pub any_none : (t : X → Bool) (slots : List (Option X)) → ((i : ℕ) (x : X) → IsInSlot slots i x → t x ≡ false) →
      list_any t (standing_flows slots) ≡ false
  any_none t [] none = refl
  any_none t (None ∷ slots) none = any_none t slots (λ i x h. none (suc i) x h)
  any_none t (Some y ∷ slots) none = grind (arith, none zero y refl, any_none t slots (λ i x h. none (suc i) x h))

  pub all_kept : (p : X → Bool) (slots : List (Option X)) → ((i : ℕ) (x : X) → IsInSlot slots i x → p x ≡ true) →
      filter p (standing_flows slots) ≡ standing_flows slots
  all_kept p [] all = refl
  all_kept p (None ∷ slots) all = all_kept p slots (λ i x h. all (suc i) x h)
  all_kept p (Some y ∷ slots) all = grind (arith, all zero y refl, all_kept p slots (λ i x h. all (suc i) x h))

  -- Emptying a slot whose flow the filter removes does not change the filtered list.
  pub kept_emptied : (p : X → Bool) (slots : List (Option X)) (i : ℕ) (x : X) → IsInSlot slots i x → p x ≡ false →
      filter p (standing_flows (set slots i None)) ≡ filter p (standing_flows slots)
  kept_emptied p [] i x h e = cc
  kept_emptied p (None ∷ slots) zero x h e = cc
  kept_emptied p (None ∷ slots) (suc i) x h e = kept_emptied p slots i x h e
  kept_emptied p (Some y ∷ slots) zero x h e = let s : y ≡ x = same_Some y x (same_Some (Some y) (Some x) h) in
      sym (ap (λ v. cond v (y ∷ filter p (standing_flows slots)) (filter p (standing_flows slots))) (ap p s ∙ e))
  kept_emptied p (Some y ∷ slots) (suc i) x h e = ap (λ (l : List X). cond (p y) (y ∷ l) l)
      (kept_emptied p slots i x h e)

  pub one_more : (slots : List (Option X)) (y : X) →
      length (standing_flows (slots ++ Some y ∷ [])) ≡ length (standing_flows slots) + 1
  one_more slots y = ap (λ (l : List X). length l) (somes_pushed slots y) ∙ length_push (standing_flows slots) y

  pub as_many_set : (slots : List (Option X)) (i : ℕ) (x y : X) → IsInSlot slots i x →
      length (standing_flows (set slots i (Some y))) ≡ length (standing_flows slots)
  as_many_set [] i x y h = cc
  as_many_set (None ∷ slots) zero x y h = cc
  as_many_set (None ∷ slots) (suc i) x y h = as_many_set slots i x y h
  as_many_set (Some z ∷ slots) zero x y h = refl
  as_many_set (Some z ∷ slots) (suc i) x y h = omega (arith, as_many_set slots i x y h)

  pub one_fewer : (slots : List (Option X)) (i : ℕ) (x : X) → IsInSlot slots i x →
      length (standing_flows (set slots i None)) + 1
      ≡ length (standing_flows slots)
  one_fewer [] i x h = cc
  one_fewer (None ∷ slots) zero x h = cc
  one_fewer (None ∷ slots) (suc i) x h = one_fewer slots i x h
  one_fewer (Some y ∷ slots) zero x h = omega arith
  one_fewer (Some y ∷ slots) (suc i) x h = omega (arith, one_fewer slots i x h)

  -- A change of the only flow that is found, in its slot, is a change of the first one that is found in the list.
  pub kept_set : (p t : X → Bool) (f : X → X) (slots : List (Option X)) (i : ℕ) (x : X) → IsInSlot slots i x →
      p x ≡ true → p (f x) ≡ true → t x ≡ true →
      ((k : ℕ) (y : X) → IsInSlot slots k y → t y ≡ true → k ≡ i) → filter p (standing_flows (set slots i (Some (f x))))
      ≡ change_first t f (filter p (standing_flows slots))
  kept_set p t f [] i x h kept stays here one = cc
  kept_set p t f (None ∷ slots) zero x h kept stays here one = cc
  kept_set p t f (None ∷ slots) (suc i) x h kept stays here one = kept_set p t f slots i x h kept stays here (λ k y g e.
      let z : suc k ≡ suc i = one (suc k) y g e in omega arith)
  kept_set p t f (Some y ∷ slots) zero x h kept stays here one =
      let s : y ≡ x = same_Some y x (same_Some (Some y) (Some x) h) in
      let kept_y : p y ≡ true = ap p s ∙ kept in
      let here_y : t y ≡ true = ap t s ∙ here in
      let same : f x ≡ f y = ap f (sym s) in
      ap (λ v. cond v (f x ∷ filter p (standing_flows slots)) (filter p (standing_flows slots))) stays
      ∙ (ap (λ (z : X). z ∷ filter p (standing_flows slots)) same
      ∙ sym (ap (λ v. change_first t f (cond v (y ∷ filter p (standing_flows slots))
      (filter p (standing_flows slots)))) kept_y
      ∙ ap (λ v. cond v (f y ∷ filter p (standing_flows slots))
      (y ∷ change_first t f (filter p (standing_flows slots)))) here_y))
  kept_set p t f (Some y ∷ slots) (suc i) x h kept stays here one =
      let rest : filter p (standing_flows (set slots i (Some (f x))))
      ≡ change_first t f (filter p (standing_flows slots)) =
      kept_set p t f slots i x h kept stays here (λ k y g e. let z : suc k ≡ suc i = one (suc k) y g e in
      omega arith) in
      let other : t y ≡ false = elim (t y) as (λ v. t y ≡ v → v ≡ false) [
        | true ↦ λ e. let z : zero ≡ suc i =
            one zero y refl e in absurd (omega arith)
        | false ↦ λ e. refl
      ] refl in
      grind (arith, rest, other)

-- COUNTS

pub any_of_address : (address : ℕ) (slots : List (Option Flow)) → list_any (λ flow. flow.remote.address == address)
    (standing_flows slots) ≡ nat_lt 0 (count_of slots address)
any_of_address address [] = refl
any_of_address address (None ∷ slots) =
    grind (arith, common_steps, nat_tests, sum_by-cons, any_of_address address slots)
any_of_address address (Some f ∷ slots) =
    grind (arith, common_steps, nat_tests, sum_by-cons, any_of_address address slots)
