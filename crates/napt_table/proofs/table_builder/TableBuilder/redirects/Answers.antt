-- `redirects`: no redirect shares an endpoint with an earlier one, and the loop preserves its invariant.
use Rattle.std.proofs.Common.{◌≡◌, ◌+◌, ◌<◌, List, [], ◌∷◌, ◌++◌, map, length, get_or, false, sym, ◌∙◌, ap, subst}
use Rattle.napt_config.specs.{Rules.{Rules}, declared.settings.Redirect.Redirect}
use Rattle.napt_rules.specs.Prelude.{Binding, row, AreBindingsApart}
use Rattle.napt_table.{specs.Tables.{TableModel, initial_table}, proofs.TableBuilders.{begun, begun_apart, begun_same, begun_pushed}}
use Rattle.napt_table.proofs.table_builder.TableBuilder.redirects.Goals.{then-pair-address+in_ok-add, else-pair-address}
use Rattle.napt_table.proofs.table_builder.TableBuilder.redirects.Goals as goal

pub add-requires-clause-apart : goal.add-requires-clause-apart
add-requires-clause-apart c =
    let k = c.loop-redirect.redirect-index in
    let config : Rules = c.args.config.now in
    let other : Redirect = record { tcp = false; address = 0; port = 0; external = 0 } in
    let redirect : Redirect = get_or c.redirects-redirect-items.result.now k other in
    let same = c.redirects-redirect-items.ensures.redirects in
    let is : redirect ≡ get_or config.redirects k other = ap (λ (rs : List Redirect). get_or rs k other) same in
    let below : k < length config.redirects = rw (← same) c.loop-redirect-test.true in
    let pushed = begun_pushed config c.args.address k redirect other below is
    (sym c.pair.ensures.address ∙ c.if-pair-address.true) in
    rw (ap (λ (s : TableModel). s.list) c.loop-redirect.invariant, c.redirected.ensures)
    (subst (λ (list : List Binding). AreBindingsApart (map row list)) pushed
    (begun_apart config c.args.address (k + 1) c.pair.ensures.kept))

pub loop-redirect-preserved : goal.loop-redirect-preserved
loop-redirect-preserved c =
    let k = c.loop-redirect.redirect-index in
    let config : Rules = c.args.config.now in
    let address = c.args.address in
    let other : Redirect = record { tcp = false; address = 0; port = 0; external = 0 } in
    let redirect : Redirect = get_or c.redirects-redirect-items.result.now k other in
    let same = c.redirects-redirect-items.ensures.redirects in
    let is : redirect ≡ get_or config.redirects k other = ap (λ (rs : List Redirect). get_or rs k other) same in
    let below : k < length config.redirects = rw (← same) c.loop-redirect-test.true in
    let with_list : List Binding → TableModel = λ l. record (initial_table config address) {
      list = l;
      at = c.args.at;
    } in
    elim c.if-pair-address.branch [
      | then-pair-address+in_ok-add w ↦
          let pushed = begun_pushed config address k redirect other below is
          (sym c.pair.ensures.address ∙ w.if-pair-address.true) in
          w.beginning-is ∙ (w.in_ok-add.ensures
          ∙ (ap (λ (s : TableModel). let t : TableModel = record s { list = s.list ++ w.redirected.result ∷ [] } in t)
          c.loop-redirect.invariant
          ∙ ap with_list (ap (λ (b : Binding). begun config address k ++ b ∷ []) w.redirected.ensures ∙ sym pushed)))
      | else-pair-address w ↦
          w.beginning-is ∙ (c.loop-redirect.invariant
          ∙ ap with_list (sym (begun_same config address k redirect other below is (λ e.
          w.if-pair-address.false (c.pair.ensures.address ∙ e)))))
    ]
