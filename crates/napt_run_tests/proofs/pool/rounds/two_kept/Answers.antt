-- two_kept: the answers that remain when the pool is closed are those of the two items that it accepted.
use Rattle.std.proofs.Common.{◌≡◌, [], ◌∷◌, rules}
use Rattle.napt_pool.specs.Pools.{initial_machines, accepted_items, taken_answers}
use Rattle.napt_run_tests.proofs.OnlyOne.{all_of_one}
use Rattle.napt_run_tests.proofs.pool.rounds.two_kept.Goals as goal

pub returns-then-second-clause-answers : goal.returns-then-second-clause-answers
returns-then-second-clause-answers g c =
    let begun : initial_machines c.offer-2.new.self ≡ [] ∷ [] = search rules in
    let given : accepted_items c.offer-2.new.self ≡ (c.args.a ∷ c.args.b ∷ []) ∷ [] = search rules in
    let none : taken_answers c.offer-2.new.self ≡ [] ∷ [] = search rules in
    all_of_one (λ e. e.answers.items) (λ e. e.machine) c.in_ok-ended.ended.items (c.args.a ∷ c.args.b ∷ [])
    (0 ∷ 1 ∷ []) (rw (begun, given) at c.in_ok-ended.ensures.machines)
    (rw (none, begun, given) at c.in_ok-ended.ensures.answers)
