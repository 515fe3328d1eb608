-- Runs from states that are alike have the same result.
use Rattle.std.proofs.Common.{◌≡◌, ℕ, ◌+◌, ◌*◌, ◌^◌, ◌<◌, ◌≤◌, true, false, ◌||◌, List, [], ◌∷◌, ◌++◌, map, flat_map, length, refl, sym, ◌∙◌, ap, subst, arith, eqb-true}
use Rattle.std.{specs.List.{list_any, Sorted.IsPermutation}, proofs.lemmas.List.Sorted.{IsPermutation-sym, IsPermutation-map}}
use Rattle.napt_rules.specs.Prelude.{Binding, Each, bindings_at, is_at, purge, row, protocol_rank, rows, sorted_rows, act, Arrival, LegAct, RunEffect, run_from, last_clock, legs_at, run_result_of, AreRowsApart, AreBindingsApart, IsSound, AreAlike, AlikeRunGoesOn, AlikeStatesGoOn, Protocol, Icmp, Tcp, Udp, PacketsCarryNumbers, Rules, RulesInvariant, pair_of}
use Rattle.napt_rules.{specs.declared.{Row.Row, Leg.Leg, Outcome.Outcome}, proofs.Lists.each_filter}
use Rattle.napt_laws.proofs.{Lists.{each_weaker, each_parts}, UniqueSearches.Once, Orders.{same_rank, same_rank-true, in_order_alike, in_order-moves}, OpeningList.sound_at, StepsSound.{purge_stays_sound, out_stays_sound, in_stays_sound}}
use Rattle.napt_laws.proofs.{Permutations.{filter_once, each_moved}, AlikeLists.{filter_of, purge_some, alike_some, alike_later, alike_taken}, StepsAlike.acts_alike, RunInduction.IsServed, RunsBeside.{AreActsBeside, AreBeside, run_both}, RunsSound.sound_by}

-- THE ROWS of one address differ in rank, where numbers are below 2 ^ 16

abbrev HasPortNumber : Row → Type 0
HasPortNumber r = r.external.number < 2 ^ 16

ranks : (p q : Protocol) (m n : ℕ) → m < 65536 → n < 65536 →
    protocol_rank p * 65536 + m ≡ protocol_rank q * 65536 + n → (p ≡ q) × (m ≡ n)
ranks Icmp Icmp m n lt less e = (refl, omega arith)
ranks Icmp Tcp m n lt less e = absurd (omega arith)
ranks Icmp Udp m n lt less e = absurd (omega arith)
ranks Tcp Icmp m n lt less e = absurd (omega arith)
ranks Tcp Tcp m n lt less e = (refl, omega arith)
ranks Tcp Udp m n lt less e = absurd (omega arith)
ranks Udp Icmp m n lt less e = absurd (omega arith)
ranks Udp Tcp m n lt less e = absurd (omega arith)
ranks Udp Udp m n lt less e = (refl, omega arith)

module _ (address : ℕ) (x : Row) where
  abbrev AreHere : List Row → Type 0
  AreHere list = Each (λ r. r.external.address ≡ address) list × Each HasPortNumber list

  none_ranked : (r : Row) → r.external.address ≡ address → HasPortNumber r → same_rank x r ≡ true → (list : List Row) →
      Each (AreRowsApart r) list → AreHere list → list_any (same_rank x) list ≡ false
  none_ranked r at small is [] apart here = refl
  none_ranked r at small is (y ∷ list) apart here =
      elim (same_rank x y) as (λ v. same_rank x y ≡ v → (v || list_any (same_rank x) list) ≡ false) [
        | true ↦ λ e.
            let same = ranks r.protocol y.protocol r.external.number y.external.number small here.1.0
            (sym (same_rank-true x r is) ∙ same_rank-true x y e) in
            let there : r.external.address ≡ y.external.address = at ∙ sym here.0.0 in
            absurd ((apart.0 same.0).0 (λ k. record { address = there k; number = same.1 k }))
        | false ↦ λ e. none_ranked r at small is list apart.1 (here.0.1, here.1.1)
      ] refl

  once_ranked : (list : List Row) → AreBindingsApart list → AreHere list → Once (same_rank x) list
  once_ranked [] apart here = tt
  once_ranked (r ∷ list) apart here = (
    λ e. none_ranked r here.0.0 here.1.0 e list apart.0 (here.0.1, here.1.1),
    once_ranked list apart.1 (here.0.1, here.1.1),
  )

module _ (rules : Rules) (now : ℕ) (pair : ℕ → ℕ) (a b : List Binding) (sound : IsSound pair a)
    (alike : AreAlike rules.timers now a b) where
  abbrev rows_at : List Binding → ℕ → List Row
  rows_at list address = rows rules.timers now (bindings_at address list)

  module _ (address : ℕ) where
    abbrev here : List Binding → List Row
    here list = map row (purge rules.timers now (bindings_at address list))

    at_address : Each (λ r. r.external.address ≡ address) (here a)
    at_address = subst (Each (λ r. r.external.address ≡ address))
        (ap (map row) (sym (purge_some rules.timers (is_at address) now a)))
        (subst (Each (λ r. r.external.address ≡ address))
        (sym (filter_of row (is_at address) (purge rules.timers now a)))
        (each_weaker (λ r. is_at address r ≡ true) (λ r. r.external.address ≡ address) (λ r e. eqb-true _ _ e) _
        (each_filter (is_at address) (map row (purge rules.timers now a)))))

    rows_one : Each HasPortNumber (rows_at a address) → rows_at b address ≡ rows_at a address
    rows_one small =
        let moved : IsPermutation (here a) (here b) =
        IsPermutation-map row _ _ (alike_some rules.timers now (is_at address) a b alike).live in
        let low : Each HasPortNumber (here a) = each_moved HasPortNumber (sorted_rows (here a)) (here a)
        (IsPermutation-sym _ _ (in_order-moves (here a))) small in
        let apart : AreBindingsApart (here a) =
        (purge_stays_sound (λ host. address) rules.timers now (bindings_at address a)
        (sound_at pair address a sound)).apart in
        sym (in_order_alike (here a) (here b) (λ x. filter_once (same_rank x) (here a) (here b) moved
        (once_ranked address x (here a) apart (at_address, low))))

  all_rows : (pool : List ℕ) → Each HasPortNumber (flat_map (rows_at a) pool) → flat_map (rows_at b) pool
      ≡ flat_map (rows_at a) pool
  all_rows [] small = refl
  all_rows (address ∷ pool) small =
      let parts = each_parts HasPortNumber (rows_at a address) (flat_map (rows_at a) pool) small in
      ap (λ (l : List Row). l ++ flat_map (rows_at b) pool) (rows_one address parts.0)
      ∙ ap (λ (l : List Row). rows_at a address ++ l) (all_rows pool parts.1)

-- RUNS

module _ (carry : PacketsCarryNumbers) (rules : Rules) (keeps : RulesInvariant rules) where
  -- Two sound lists that are alike.
  record AreTwo (now : ℕ) (a b : List Binding) : Type 0 where
    pub one : IsSound (pair_of rules) a
    pub other : IsSound (pair_of rules) b
    pub alike : AreAlike rules.timers now a b

  two_later : (n m : ℕ) → n ≤ m → (a b : List Binding) → AreTwo n a b → AreTwo m a b
  two_later n m le a b two =
      record { one = two.one; other = two.other; alike = alike_later rules.timers n m le a b two.alike }

  legs_alike : (address : ℕ) (leg : Leg) (a b : List Binding) → IsServed rules address leg → AreTwo leg.now a b →
      AreActsBeside AreTwo leg.now (act rules address leg a) (act rules address leg b)
  legs_alike address leg a b served two =
      let acts = acts_alike rules (pair_of rules) address leg a b two.one two.other two.alike in
      let stays : (list : List Binding) → IsSound (pair_of rules) list →
      IsSound (pair_of rules) (act rules address leg list).list = λ list.
      sound_by carry out_stays_sound in_stays_sound rules keeps address leg list leg.way served.at served.read in
      record {
        end = acts.end;
        through = acts.through;
        list = record { one = stays a two.one; other = stays b two.other; alike = acts.list };
      }

  module _ (clock : ℕ) (a b : List Binding) (two : AreTwo clock a b) (inputs : List Arrival) where
    abbrev last : ℕ
    last = last_clock clock inputs

    abbrev course : List Binding → RunEffect
    course list = run_from rules 0 clock inputs list

    both : AreBeside AreTwo last (course a) (course b)
    both = run_both rules AreTwo two_later legs_alike 0 clock inputs a b two

    go_alike : AlikeRunGoesOn rules (record { clock = clock; list = a }) (record { clock = clock; list = b }) inputs
    go_alike = record {
      outcomes = sym both.outcomes;
      acts = sym both.acts;
      ran = λ small. ap (λ (os : List Outcome). record (run_result_of rules last (course b)) { outcomes = os })
          (sym both.outcomes)
          ∙ (ap (λ (rs : List Row). record (run_result_of rules last (course b)) {
            outcomes = (course a).outcomes;
            bindings = rs;
          })
          (all_rows rules last (pair_of rules) (course a).list (course b).list both.list.one both.list.alike rules.pool
          small)
          ∙ ap (λ (acts : List LegAct). record (run_result_of rules last (course a)) {
            legs = map (λ address. length (legs_at address acts)) rules.pool;
          }) (sym both.acts));
      left = alike_taken rules.timers last (course a).list (course b).list both.list.alike;
    }

pub alike_go_on : PacketsCarryNumbers → AlikeStatesGoOn
alike_go_on carry rules keeps state other one two same alike inputs =
    subst (λ (clock : ℕ). AlikeRunGoesOn rules state (record { clock = clock; list = other.list }) inputs) (sym same)
    (go_alike carry rules keeps state.clock state.list other.list
    (record { one = one; other = two; alike = alike }) inputs)
