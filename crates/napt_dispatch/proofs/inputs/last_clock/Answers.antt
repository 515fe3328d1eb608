-- last_clock: the last clock with one more input is the greater of the two.
use Rattle.std.proofs.{Common.{◌≡◌, ℕ, ◌+◌, max, List, [], ◌∷◌, ◌++◌, take, refl, ◌∙◌, ap}, lemmas.List.take_more}
use Rattle.napt_rules.specs.Prelude.{Arrival, last_clock}
use Rattle.napt_laws.proofs.OneMoreInput.{clock_more}
use Rattle.napt_dispatch.proofs.inputs.last_clock.Goals as goal

pub loop-input-preserved : goal.loop-input-preserved
loop-input-preserved c =
    let n : ℕ = c.loop-input.input-index in
    let inputs : List Arrival = c.args.inputs.now in
    let input : Arrival = c.input-item.result in
    let before : ℕ = last_clock 0 (take n inputs) in
    let clock : c.input.inside.clock ≡ input.clock = ap (λ (a : Arrival). a.clock) c.input.view_is in
    let now : c.max-clock.result ≡ max before input.clock = c.max-clock.ensures
    ∙ (ap (λ (t : ℕ). max t c.input.inside.clock) c.loop-input.invariant ∙ ap (max before) clock) in
    let more : take (n + 1) inputs ≡ take n inputs ++ input ∷ [] =
    rw (take_more inputs n input c.loop-input-test.true, ← c.input-item.is) refl in
    rw (more, clock_more 0 (take n inputs) input) now
