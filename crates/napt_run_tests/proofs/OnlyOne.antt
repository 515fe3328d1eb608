-- One worker returns all its answers, if none of them was taken before it was closed.
use Rattle.std.proofs.Common.{◌≡◌, List, [], ◌∷◌, ◌++◌, map}
use Rattle.napt_pool.specs.Pools.{zip_with}

pub all_of_one : {E M A : Type 0} (answers : E → List A) (machine : E → M) (ended : List E) (m : M) (all : List A) →
    map machine ended ≡ m ∷ [] → zip_with (λ t rest. t ++ rest) ([] ∷ []) (map answers ended) ≡ all ∷ [] →
    map answers ended ≡ all ∷ []
all_of_one answers machine [] m all one is = cc
all_of_one answers machine (e ∷ []) m all one is = is
all_of_one answers machine (e ∷ f ∷ ended) m all one is = cc
