-- A state that a configuration accepts is sound under it, and so is each run from it.
use Rattle.std.proofs.Common.{◌≡◌, ℕ, ◌≤◌, max, true, false, not, ◌&&◌, ◌||◌, List, [], ◌∷◌, ◌++◌, map, Option, Some, None, refl, sym, ◌∙◌, ap, subst, arith, append-nil, eqb-true, nat_lt, IfSome}
use Rattle.std.proofs.lemmas.{List.map-append, Bool.{and_parts, or_parts, not-false, true≢false, leb-true, Decides.nat_tests}}
use Rattle.napt_rules.specs.Prelude.{Binding, Each, same_protocol, same_endpoint, row, opening, State, AreRowsApart, AreBindingsApart, IsNumber, IsPaired, IsSound, count_for, IsBlockNumber, IsInItsBlock, dynamic_bindings, with_redirects, is_number, is_its_number, is_numbered, flows_share, clashes, clashes_with_any, misfit_of, misfit_or, misfit_in, TakesState, TakenStatesAreSound, TakenStatesKeepToBlocks, TakenStatesKeepQuota, IsBindingOwn, Protocol, Icmp, Tcp, Udp, PacketsCarryNumbers, Rules, RulesInvariant, pair_of, block_of, is_inside, PortBlock}
use Rattle.napt_rules.specs.declared.{Row.Row, Misfit.Misfit}
use Rattle.napt_laws.proofs.{Endpoints.{same_itself, end_itself}, Lists.{passed, any_none, each_weaker, each_append, each_with}, OpeningList.opening_sound}
use Rattle.napt_laws.proofs.{StepsSound.{out_stays_sound, in_stays_sound}, StepsQuota.in_keeps_quota, RunsSound.run_sound, RunsBlocks.{blocks_run, opening_in_blocks}, RunsQuota.within_run}

-- ONE BINDING THAT FITS

some_number : (protocol : Protocol) (number : ℕ) → is_number protocol number ≡ true → IsNumber protocol number
some_number Icmp number h = tt
some_number Tcp number h = leb-true 1 number h
some_number Udp number h = leb-true 1 number h

in_block : (block : Option PortBlock) (number : ℕ) → is_its_number block number ≡ true →
    IfSome block (λ block. IsBlockNumber block number)
in_block None number h = tt
in_block (Some block) number h =
    let parts = and_parts _ _ h in
    record { first = leb-true _ _ parts.0; last = leb-true _ _ parts.1 }

clash_not : (a b : Row) → clashes a b ≡ false → AreRowsApart a b
clash_not a b single = λ same.
    let one : same_protocol a.protocol b.protocol ≡ true = ap (same_protocol a.protocol) (sym same)
    ∙ same_itself a.protocol in
    let parts : (same_endpoint a.external b.external ≡ false) × (same_endpoint a.inside b.inside ≡ false) =
    or_parts _ _ (sym (ap (λ v. v && (same_endpoint a.external b.external || same_endpoint a.inside b.inside)) one)
    ∙ single) in (
      (λ e. true≢false (sym (ap (same_endpoint a.external) (sym e) ∙ end_itself a.external) ∙ parts.0)),
      (λ e. true≢false (sym (ap (same_endpoint a.inside) (sym e) ∙ end_itself a.inside) ∙ parts.1)),
    )

clash_none : (a : Row) (list : List Binding) → clashes_with_any a list ≡ false → Each (AreRowsApart a) (map row list)
clash_none a [] h = tt
clash_none a (b ∷ list) h =
    let parts : (clashes a b.row ≡ false) × (clashes_with_any a list ≡ false) = or_parts _ _ h in
    (clash_not a b.row parts.0, clash_none a list parts.1)

used_by : (clock n : ℕ) → nat_lt clock n ≡ false → n ≤ clock
used_by clock n h = grind (arith, nat_tests, h)

-- Rows that are apart, with one in the middle.

pub turned : (a b : Row) → AreRowsApart b a → AreRowsApart a b
turned a b apart = λ same. let parts = apart (sym same) in ((λ e. parts.0 (sym e)), (λ e. parts.1 (sym e)))

apart_with : (xs ys : List Row) (r : Row) → Each (AreRowsApart r) xs → Each (AreRowsApart r) ys →
    AreBindingsApart (xs ++ ys) →
    AreBindingsApart (xs ++ r ∷ ys)
apart_with [] ys r before behind h = (behind, h)
apart_with (x ∷ xs) ys r before behind h =
    (each_with (AreRowsApart x) xs ys r (turned x r before.0) h.0, apart_with xs ys r before.1 behind h.1)

module _ (rules : Rules) (clock : ℕ) where
  record Fits (rest : List Binding) (b : Binding) : Type 0 where
    pub owned : IsBindingOwn rules clock b
    pub paired : IsPaired (pair_of rules) b.row
    pub block : IsInItsBlock rules b.row
    pub redirects : Each (AreRowsApart b.row) (map row (opening rules))
    pub others : Each (AreRowsApart b.row) (map row rest)

  fits : (b : Binding) (rest : List Binding) → misfit_of rules clock b rest ≡ None → Fits rest b
  fits b rest h =
      let inside = passed (not (is_inside rules b.row.inside.address)) _ _ h in
      let pair = passed _ _ _ inside.1 in
      let number = passed (not (is_numbered rules b.row)) _ _ pair.1 in
      let used = passed _ _ _ number.1 in
      let flows = passed (flows_share b.flows) _ _ used.1 in
      let redirects = passed (clashes_with_any b.row (opening rules)) _ _ flows.1 in
      let numbers = and_parts _ _ (not-false (is_numbered rules b.row) number.0) in
      let external = and_parts _ _ numbers.1 in
      let lasts = or_parts _ _ used.0 in
      record {
        owned = record {
          host = not-false _ inside.0;
          last = used_by clock b.last lasts.0;
          flows = record {
            by = each_weaker (λ f. nat_lt clock f.last ≡ false) (λ f. f.last ≤ clock) (λ f. used_by clock f.last)
                b.flows (any_none _ b.flows lasts.1);
            single = flows.0;
          };
        };
        paired = record {
          paired = eqb-true _ _ (not-false _ pair.0);
          inside = some_number b.row.protocol b.row.inside.number numbers.0;
          external = some_number b.row.protocol b.row.external.number external.0;
        };
        block = λ loose. in_block (block_of rules b.row.inside.address) b.row.external.number external.1;
        redirects = clash_none b.row (opening rules) redirects.0;
        others = clash_none b.row rest (passed (clashes_with_any b.row rest) _ None redirects.1).0;
      }

  -- ALL BINDINGS

  none_of : (row : Row) (why : Option Misfit) (others : Option (Row × Misfit)) → misfit_or row why others ≡ None →
      (why ≡ None) × (others ≡ None)
  none_of row (Some why) others h = cc
  none_of row None others h = (refl, h)

  pub record AllFit (list : List Binding) : Type 0 where
    pub owned : Each (IsBindingOwn rules clock) list
    pub paired : Each (IsPaired (pair_of rules)) (map row list)
    pub blocks : Each (IsInItsBlock rules) (map row list)
    pub apart : AreBindingsApart (map row (opening rules) ++ map row list)

  pub all_fit : AreBindingsApart (map row (opening rules)) → (list : List Binding) → misfit_in rules clock list ≡ None →
      AllFit list
  all_fit begins [] h = record {
    owned = tt;
    paired = tt;
    blocks = tt;
    apart = subst AreBindingsApart (sym (append-nil (map row (opening rules)))) begins;
  }
  all_fit begins (b ∷ list) h =
      let parts = none_of b.row (misfit_of rules clock b list) (misfit_in rules clock list) h in
      let first : Fits list b = fits b list parts.0 in
      let rest : AllFit list = all_fit begins list parts.1 in
      record {
        owned = (first.owned, rest.owned);
        paired = (first.paired, rest.paired);
        blocks = (first.block, rest.blocks);
        apart = apart_with (map row (opening rules)) (map row list) b.row first.redirects first.others rest.apart;
      }

module _ (rules : Rules) (keeps : RulesInvariant rules) (state : State) (takes : TakesState rules state) where
  pub all : AllFit rules state.clock (dynamic_bindings rules state)
  all = all_fit rules state.clock (opening_sound rules keeps).apart (dynamic_bindings rules state) takes

  pub state_sound : IsSound (pair_of rules) (with_redirects rules state).list
  state_sound = rw (map-append row (opening rules) (dynamic_bindings rules state)) (record {
    apart = all.apart;
    each = each_append (IsPaired (pair_of rules)) _ _ (opening_sound rules keeps).each all.paired;
  })

  pub state_blocks : Each (IsInItsBlock rules) (map row (with_redirects rules state).list)
  state_blocks = rw (map-append row (opening rules) (dynamic_bindings rules state))
      (each_append (IsInItsBlock rules) _ _ (opening_in_blocks rules (pair_of rules) rules.redirects) all.blocks)

-- RUNS

pub taken_sound : PacketsCarryNumbers → TakenStatesAreSound
taken_sound carry rules keeps state takes inputs =
    run_sound carry out_stays_sound in_stays_sound rules keeps 0 state.clock inputs (with_redirects rules state).list
    (state_sound rules keeps state takes)

pub taken_blocks : TakenStatesKeepToBlocks
taken_blocks rules keeps state takes inputs =
    blocks_run rules keeps 0 state.clock inputs (with_redirects rules state).list (state_blocks rules keeps state takes)

pub taken_quota : TakenStatesKeepQuota
taken_quota rules quota is state inputs address host =
    within_run in_keeps_quota rules quota is (max quota (count_for address host (with_redirects rules state).list))
    (omega arith)
    address host 0 state.clock inputs (with_redirects rules state).list (omega arith)
