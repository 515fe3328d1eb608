-- `add`: the binding's endpoints are free, and the stored bindings are then those of the longer list.
use Rattle.std.{proofs.Common.{◌≡◌, [], ◌∷◌, ◌++◌, map, find, refl, sym, ◌∙◌, ap, subst}, proofs.lemmas.List.map-append}
use Rattle.napt_rules.specs.Prelude.{has_number, row, AreBindingsApart}
use Rattle.napt_table.specs.{Beginnings.list_of, Tables.TableModel}
use Rattle.napt_table.proofs.TableBuilders.{free, absent, held_more}
use Rattle.napt_table.proofs.table_builder.TableBuilder.add.Goals as goal

pub add-requires-clause-free : goal.add-requires-clause-free
add-requires-clause-free c =
    let it = c.self.inside in
    let b = c.args.binding in
    free it.bindings.held.address (list_of it) b
    (subst (λ (s : TableModel). b.row.external.address ≡ s.address) (sym c.self.view_is) c.requires.at)
    (subst (λ (s : TableModel). AreBindingsApart (map row (s.list ++ b ∷ []))) (sym c.self.view_is) c.requires.apart)
    it.bindings.held c.keep_names.ensures refl c.self.invariant

pub add-requires-clause-absent : goal.add-requires-clause-absent
add-requires-clause-absent c =
    let it = c.self.inside in
    let b = c.args.binding in
    absent it.bindings.held.address (list_of it) b
    (subst (λ (s : TableModel). b.row.external.address ≡ s.address) (sym c.self.view_is) c.requires.at)
    (subst (λ (s : TableModel). AreBindingsApart (map row (s.list ++ b ∷ []))) (sym c.self.view_is) c.requires.apart)
    it.bindings.held c.keep_names.ensures refl c.self.invariant

pub invariant_of-self-2 : goal.invariant_of-self-2
invariant_of-self-2 c =
    let it = c.self.inside in
    let b = c.args.binding in
    let new = c.add.new.self in
    let place = c.add.ensures.place in
    let list : map (λ e. e.1) c.and-list.result.items ≡ list_of it ++ b ∷ [] =
    ap (map (λ e. e.1)) c.and-list.ensures ∙ map-append (λ e. e.1) it.list.items ((0, b) ∷ []) in
    λ q n. held_more it.bindings.held.address (list_of it) b
    (subst (λ (s : TableModel). b.row.external.address ≡ s.address) (sym c.self.view_is) c.requires.at)
    (subst (λ (s : TableModel). AreBindingsApart (map row (s.list ++ b ∷ []))) (sym c.self.view_is) c.requires.apart)
    it.bindings.held c.keep_names.ensures refl c.self.invariant new.held c.in_ok-add.ensures.held q n
    ∙ (λ i. find (λ x. has_number (sym place.address_is i) q n x.row) (sym list i))
