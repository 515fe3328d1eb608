-- redirects: the rows are those of the configuration's redirects.
use Rattle.std.proofs.Common.{◌≡◌, ◌<◌, ◌≤◌, ℕ, false, List, [], ◌∷◌, ◌++◌, None, map, take, length, get_or, sym, ◌∙◌, ap}
use Rattle.std.proofs.lemmas.List.{take_all, take_more}
use Rattle.napt_rules.specs.{declared.Row.Row, Prelude.{Redirect, Rules, pair_of, redirect_binding}}
use Rattle.napt_table.specs.{declared.TimedRow.TimedRow, TimedRows.timed_row}
use Rattle.napt_account.proofs.Lists.{map_joined, map_twice}
use Rattle.napt_account.proofs.live_rows.redirects.Goals as goal

pub loop-redirect-preserved : goal.loop-redirect-preserved
loop-redirect-preserved c =
    let rules : Rules = c.args.config.now in
    let k : ℕ = c.loop-redirect.redirect-index in
    let other : Redirect = record { tcp = false; address = 0; port = 0; external = 0 } in
    let redirect : Redirect = get_or c.redirects-redirect-items.result.now k other in
    let same = c.redirects-redirect-items.ensures.redirects in
    let below : k < length rules.redirects = rw (← same) c.loop-redirect-test.true in
    let is : redirect ≡ get_or rules.redirects k other = ap (λ (rs : List Redirect). get_or rs k other) same in
    let tell : Redirect → TimedRow = λ r. timed_row rules.timers (redirect_binding (pair_of rules) r) in
    let before : List TimedRow = map tell (take k rules.redirects) in
    c.in_ok-push.ensures.items
    ∙ (ap (λ (r : Row). c.loop-redirect.made.items ++ record { row = r; end = None } ∷ []) c.redirected.ensures
    ∙ (ap (λ (ts : List TimedRow). ts ++ tell redirect ∷ []) c.loop-redirect.invariant
    ∙ (ap (λ (r : Redirect). before ++ tell r ∷ []) is
    ∙ (sym (map_joined tell (take k rules.redirects) (get_or rules.redirects k other ∷ []))
    ∙ ap (map tell) (sym (take_more rules.redirects k other below))))))

pub returns-clause-all : goal.returns-clause-all
returns-clause-all c =
    let rules : Rules = c.args.config.now in
    let k : ℕ = c.loop-redirect.redirect-index in
    let same = c.redirects-redirect-items.ensures.redirects in
    let past : length rules.redirects ≤ k = rw (← same) c.loop-redirect-test.false in
    let tell : Redirect → TimedRow = λ r. timed_row rules.timers (redirect_binding (pair_of rules) r) in
    c.loop-redirect.invariant ∙ (ap (map tell) (take_all k rules.redirects past)
    ∙ sym (map_twice (timed_row rules.timers) (redirect_binding (pair_of rules)) rules.redirects))
