-- The bindings with which a translator starts share no endpoint, and are live at each time.
use Rattle.std.proofs.Common.{◌≡◌, ℕ, ◌<◌, Bool, true, false, ◌&&◌, ◌||◌, cond, List, [], ◌∷◌, map, refl, sym, ◌∙◌, ap, eqb-true, arith, All, filter}
use Rattle.std.{specs.{Bool.beq, List.list_any}, proofs.lemmas.{Bool.{and_from, eq-eqb, or_parts, true≢false}, List.Elements.All-tail}}
use Rattle.napt_rules.specs.Prelude.{Binding, Each, same_protocol, is_tcp, is_at, bindings_at, is_live_flow, with_live_flows, purge, redirect_protocol, redirect_binding, row, AreRowsApart, AreApart, AreBindingsApart, IsNumber, IsPaired, IsSound, OpeningIsSound, Endpoint, PrefixModel, IsRedirect, AreRedirectsSingle, share_inside, share_external, is_double, pair_of, Redirect, Timers}
use Rattle.napt_rules.specs.declared.Flow.{Flow}
use Rattle.napt_laws.proofs.{Endpoints.same_itself, StepsSound.apart_kept}

protocol_same : (a b : Bool) → same_protocol (redirect_protocol a) (redirect_protocol b) ≡ beq a b
protocol_same true true = refl
protocol_same true false = refl
protocol_same false true = refl
protocol_same false false = refl

-- Redirects that are not double share no endpoint.
apart_each : (pair : ℕ → ℕ) (a b : Redirect) → is_double pair a b ≡ false →
    AreApart (redirect_binding pair a) (redirect_binding pair b)
apart_each pair a b single = λ same.
    let tcp : beq a.tcp b.tcp ≡ true = sym (protocol_same a.tcp b.tcp)
    ∙ (ap (same_protocol (redirect_protocol a.tcp)) (sym same) ∙ same_itself (redirect_protocol a.tcp)) in
    let parts : (share_inside a b ≡ false) × (share_external pair a b ≡ false) = or_parts _ _
    (sym (ap (λ v. v && (share_inside a b || share_external pair a b)) tcp) ∙ single) in (
      (λ e. true≢false (sym (and_from _ _ (eq-eqb _ _ (ap (λ (x : Endpoint). x.address) e))
          (eq-eqb _ _ (ap (λ (x : Endpoint). x.number) e))) ∙ parts.1)),
      (λ e. true≢false (sym (and_from _ _ (eq-eqb _ _ (ap (λ (x : Endpoint). x.address) e))
          (eq-eqb _ _ (ap (λ (x : Endpoint). x.number) e))) ∙ parts.0)),
    )

apart_all : (pair : ℕ → ℕ) (a : Redirect) (redirects : List Redirect) → list_any (is_double pair a) redirects ≡ false →
    Each (AreRowsApart (row (redirect_binding pair a))) (map row (map (redirect_binding pair) redirects))
apart_all pair a [] single = tt
apart_all pair a (b ∷ redirects) single =
    let parts : (is_double pair a b ≡ false) × (list_any (is_double pair a) redirects ≡ false) = or_parts _ _ single in
    (apart_each pair a b parts.0, apart_all pair a redirects parts.1)

pub apart_redirects : (pair : ℕ → ℕ) (redirects : List Redirect) → AreRedirectsSingle pair redirects →
    AreBindingsApart (map row (map (redirect_binding pair) redirects))
apart_redirects pair [] single = tt
apart_redirects pair (r ∷ redirects) single =
    (apart_all pair r redirects single.0, apart_redirects pair redirects single.1)

port_number : (tcp : Bool) (port : ℕ) → 0 < port → IsNumber (redirect_protocol tcp) port
port_number true port some = some
port_number false port some = some

each_paired : (pair : ℕ → ℕ) (inside : List PrefixModel) (redirects : List Redirect) →
    All (IsRedirect inside) redirects →
    Each (IsPaired pair) (map row (map (redirect_binding pair) redirects))
each_paired pair inside [] all = tt
each_paired pair inside (r ∷ redirects) all =
    let first : IsRedirect inside r = all 0 r (omega arith) in (
      record {
        paired = refl;
        inside = port_number r.tcp r.port first.port;
        external =
            port_number r.tcp r.external first.external;
      },
      each_paired pair inside redirects
          (All-tail (IsRedirect inside) r redirects all),
    )

pub opening_sound : OpeningIsSound
opening_sound rules keeps = record {
  apart = apart_redirects (pair_of rules) rules.redirects keeps.single;
  each =
      each_paired (pair_of rules) rules.inside rules.redirects keeps.redirects;
}

-- AT ONE ADDRESS

each_at : (pair : ℕ → ℕ) (address : ℕ) (list : List Binding) → Each (IsPaired pair) (map row list) →
    Each (IsPaired (λ host. address)) (map row (filter (λ b. is_at address b.row) list))
each_at pair address [] each = tt
each_at pair address (b ∷ list) each = elim (is_at address b.row) as (λ v. is_at address b.row ≡ v →
    Each (IsPaired (λ host. address))
    (map row (cond v (b ∷ filter (λ b. is_at address b.row) list) (filter (λ b. is_at address b.row) list)))) [
      | true ↦ λ at. (
        record { paired = eqb-true _ _ at; inside = each.0.inside; external = each.0.external },
        each_at pair address list each.1,
      )
      | false ↦ λ at. each_at pair address list each.1
    ] refl

pub sound_at : (pair : ℕ → ℕ) (address : ℕ) (list : List Binding) → IsSound pair list →
    IsSound (λ host. address) (bindings_at address list)
sound_at pair address list s = record {
  apart = apart_kept (λ b. is_at address b.row) list s.apart;
  each =
      each_at pair address list s.each;
}

-- LIFE

no_flows : (timers : Timers) (now : ℕ) (tcp : Bool) → cond tcp (filter (is_live_flow timers now) []) [] ≡ []
no_flows timers now true = refl
no_flows timers now false = refl

module _ (timers : Timers) (now : ℕ) (pair : ℕ → ℕ) where
  pub redirect_stays : (redirect : Redirect) → with_live_flows timers now (redirect_binding pair redirect)
      ≡ redirect_binding pair redirect
  redirect_stays redirect = ap (λ (flows : List Flow). record (redirect_binding pair redirect) { flows = flows })
      (no_flows timers now (is_tcp (redirect_protocol redirect.tcp)))

  -- A redirect never expires.
  pub redirects_stay : (address : ℕ) (redirects : List Redirect) →
      purge timers now (bindings_at address (map (redirect_binding pair) redirects))
      ≡ bindings_at address (map (redirect_binding pair) redirects)
  redirects_stay address [] = refl
  redirects_stay address (r ∷ redirects) =
      let rest : List Binding = bindings_at address (map (redirect_binding pair) redirects) in
      elim (is_at address (redirect_binding pair r).row) as
      (λ v. purge timers now (cond v (redirect_binding pair r ∷ rest) rest)
      ≡ cond v (redirect_binding pair r ∷ rest) rest) [
        | true ↦ ap (λ (b : Binding). b ∷ purge timers now rest) (redirect_stays r)
            ∙ ap (λ (list : List Binding). redirect_binding pair r ∷ list) (redirects_stay address redirects)
        | false ↦ redirects_stay address redirects
      ]
