-- Nodes in a row, each with links to the node before it and the node after it.
use Rattle.std.specs.Prelude.{◌≡◌, ◌≢◌, ℕ, ◌+◌, ◌≤◌, Bool, true, List, slice_index_or}
use Rattle.napt_collections.specs.declared.links.Links.{Links}

abbrev pub no_links : Links
no_links = record { before = 0; after = 0 }

abbrev pub next : List Links → ℕ → ℕ
next links node = (slice_index_or links node no_links).after

abbrev pub prev : List Links → ℕ → ℕ
prev links node = (slice_index_or links node no_links).before

-- The linked nodes form one row from `first` to `last`, where `rank` numbers them by steps of one along `next`.
pub record IsRow (first last : ℕ) (linked : ℕ → Bool) (next prev rank : ℕ → ℕ) : Type 0 where
  pub first_linked : linked first ≡ true
  pub last_linked : linked last ≡ true
  pub lowest : (x : ℕ) → linked x ≡ true → rank first ≤ rank x
  pub highest : (x : ℕ) → linked x ≡ true → rank x ≤ rank last
  pub onward : (x : ℕ) → linked x ≡ true → x ≢ last → (linked (next x) ≡ true) × (rank (next x) ≡ rank x + 1)
  pub back : (x : ℕ) → linked x ≡ true → x ≢ first → (linked (prev x) ≡ true) × (rank (prev x) + 1 ≡ rank x)
  pub apart : (x y : ℕ) → linked x ≡ true → linked y ≡ true → rank x ≡ rank y → x ≡ y
