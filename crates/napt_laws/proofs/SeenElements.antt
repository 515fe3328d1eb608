-- The visible elements of a list: the visible part of each element that passes a test.
use Rattle.std.proofs.Common.{◌≡◌, ℕ, ◌≤◌, Bool, true, false, not, ◌&&◌, List, [], ◌∷◌, ◌++◌, map, Some, None, refl, arith, filter, find}
use Rattle.std.specs.Option.{option_map}
use Rattle.napt_rules.specs.Prelude.{Binding, change_first, purge, hold_ago, live_and_held, Timers}
use Rattle.napt_laws.proofs.Purges.{purge_purge}

module _ {X : Type 0} (q t : X → Bool) (f : X → X) (same : (x : X) → t (f x) ≡ t x) where
  abbrev pub sight : List X → List X
  sight xs = map f (filter q xs)

  -- The element that is found among the visible ones.
  pub find_seen : (xs : List X) → find t (sight xs) ≡ option_map f (find (λ x. t x && q x) xs)
  find_seen [] = refl
  find_seen (x ∷ xs) = grind (arith, same x, find_seen xs)

  -- If nothing is found among them, an element that passes the search is not visible.
  pub ended : (xs : List X) → find t (sight xs) ≡ None → (x : X) → find t xs ≡ Some x → q x ≡ false
  ended [] none x is = cc
  ended (y ∷ xs) none x is = grind (arith, same y, ended xs)

  -- A visible element is changed.
  pub change_seen : (g : X → X) → ((x : X) → q x ≡ true → q (g (f x)) ≡ true) →
      ((x : X) → q x ≡ true → f (g (f x)) ≡ g (f x)) → (xs : List X) →
      sight (change_first (λ x. t x && q x) (λ x. g (f x)) xs) ≡ change_first t g (sight xs)
  change_seen g lives stays [] = refl
  change_seen g lives stays (x ∷ xs) = grind (arith, same x, lives x, stays x, change_seen g lives stays xs)

  -- An element is added in place of one that is not visible.
  pub made_seen : (new : X) → q new ≡ true → f new ≡ new → (xs : List X) → find t (sight xs) ≡ None →
      sight (filter (λ x. not (t x)) xs ++ new ∷ []) ≡ sight xs ++ new ∷ []
  made_seen new lives stays [] none = grind (arith, lives, stays)
  made_seen new lives stays (x ∷ xs) none = grind (arith, same x, made_seen new lives stays xs)

-- LIVE AND HELD BINDINGS

pub ago_before : (timers : Timers) (now : ℕ) → hold_ago timers now ≤ now
ago_before timers now = omega arith

pub ago_later : (timers : Timers) (n m : ℕ) → n ≤ m → hold_ago timers n ≤ hold_ago timers m
ago_later timers n m le = omega (arith, le)

pub taken_later : (timers : Timers) (n m : ℕ) → n ≤ m → (list : List Binding) →
    live_and_held timers m (live_and_held timers n list) ≡ live_and_held timers m list
taken_later timers n m le = purge_purge timers (hold_ago timers n) (hold_ago timers m) (ago_later timers n m le)

pub taken_twice : (timers : Timers) (now : ℕ) (list : List Binding) →
    live_and_held timers now (live_and_held timers now list)
    ≡ live_and_held timers now list
taken_twice timers now = taken_later timers now now (omega arith)

-- The live bindings are those of the live and held ones.
pub purge_taken : (timers : Timers) (now : ℕ) (list : List Binding) → purge timers now (live_and_held timers now list)
    ≡ purge timers now list
purge_taken timers now = purge_purge timers (hold_ago timers now) now (ago_before timers now)
