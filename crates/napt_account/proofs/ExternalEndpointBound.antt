-- There are few external endpoints, and therefore few rows of which no two share one.
use Rattle.std.proofs.lemmas.{Bool.{eqb-true, true≢false}, List.length-map, Map.Steps.length-le_from_distinct_below}
use Rattle.std.proofs.Common.{◌≡◌, ℕ, ◌+◌, ◌*◌, ◌^◌, ◌<◌, ◌≤◌, ◌||◌, true, false, List, [], ◌∷◌, length, map, refl, sym, ◌∙◌, subst, arith, eqb}
use Rattle.std.specs.List.{AllByRecursion, IsDistinct, list_any}
use Rattle.napt_wire.specs.declared.Protocol.{Protocol, TheVariants.{Icmp, Tcp, Udp}}
use Rattle.napt_rules.specs.{declared.Row.Row, Prelude.Each}
use Rattle.napt_account.specs.OpenEntries.{AreKeyed, IsNumberedRow, entry_key, external_eq}
use Rattle.napt_account.proofs.OpenEntries.{external_itself}

abbrev protocol_place : Protocol → ℕ
protocol_place Icmp = 0
protocol_place Tcp = 1
protocol_place Udp = 2

place_below : (p : Protocol) → protocol_place p < 3
place_below Icmp = omega arith
place_below Tcp = omega arith
place_below Udp = omega arith

place_is : (p q : Protocol) → protocol_place p ≡ protocol_place q → p ≡ q
place_is Icmp Icmp e = refl
place_is Icmp Tcp e = absurd (omega (arith, e))
place_is Icmp Udp e = absurd (omega (arith, e))
place_is Tcp Icmp e = absurd (omega (arith, e))
place_is Tcp Tcp e = refl
place_is Tcp Udp e = absurd (omega (arith, e))
place_is Udp Icmp e = absurd (omega (arith, e))
place_is Udp Tcp e = absurd (omega (arith, e))
place_is Udp Udp e = refl

-- A number for each.
abbrev place : Row → ℕ
place row = (row.external.address * 65536 + row.external.number) * 3 + protocol_place row.protocol

module _ (r s : Row) (is : IsNumberedRow r) (also : IsNumberedRow s) where
  same_key : place r ≡ place s → external_eq (entry_key r) (entry_key s) ≡ true
  same_key e =
      let one = place_below r.protocol in
      let other = place_below s.protocol in
      let first = is.1 in
      let second = also.1 in
      let address : r.external.address ≡ s.external.address = omega (arith, e, one, other, first, second) in
      let number : r.external.number ≡ s.external.number = omega (arith, e, one, other, first, second) in
      let at : protocol_place r.protocol ≡ protocol_place s.protocol = omega (arith, e, one, other, first, second) in
      let protocol = place_is r.protocol s.protocol at in
      subst (λ k. external_eq (entry_key r) k ≡ true)
      (λ i. record { address = address i; number = number i; protocol = protocol i }) (external_itself (entry_key r))

  apart : external_eq (entry_key r) (entry_key s) ≡ false → eqb (place r) (place s) ≡ false
  apart e = elim (eqb (place r) (place s)) as (λ v. eqb (place r) (place s) ≡ v → v ≡ false) [
    | true ↦ λ same. absurd (true≢false (sym (same_key (eqb-true _ _ same)) ∙ e))
    | false ↦ λ differ. refl
  ] refl

all_apart : (r : Row) → IsNumberedRow r → (rows : List Row) → Each IsNumberedRow rows →
    AllByRecursion (λ s. external_eq (entry_key r) (entry_key s) ≡ false) rows →
    AllByRecursion (λ n. eqb (place r) n ≡ false) (map place rows)
all_apart r is [] all h = tt
all_apart r is (s ∷ rows) all h = (apart r s is all.0 h.0, all_apart r is rows all.1 h.1)

places_differ : (rows : List Row) → Each IsNumberedRow rows → AreKeyed rows → IsDistinct eqb (map place rows)
unfolding IsDistinct
places_differ [] all keyed = tt
places_differ (r ∷ rows) all keyed = (all_apart r all.0 rows all.1 keyed.0, places_differ rows all.1 keyed.1)

place_few : (r : Row) → IsNumberedRow r → place r < 2 ^ 50
place_few r is =
    let at = place_below r.protocol in
    let address = is.0 in
    let number = is.1 in
    omega (arith, at, address, number)

places_few : (rows : List Row) → Each IsNumberedRow rows → (q : ℕ) → list_any (eqb q) (map place rows) ≡ true →
    q < 2 ^ 50
places_few [] all q h = absurd (true≢false (sym h))
places_few (r ∷ rows) all q h = elim (eqb q (place r)) as (λ v. eqb q (place r) ≡ v →
    (v || list_any (eqb q) (map place rows)) ≡ true → q < 2 ^ 50) [
      | true ↦ λ is g. subst (λ (n : ℕ). n < 2 ^ 50) (sym (eqb-true _ _ is)) (place_few r all.0)
      | false ↦ λ is g. places_few rows all.1 q g
    ] refl h

pub keyed_few : (rows : List Row) → Each IsNumberedRow rows → AreKeyed rows → length rows ≤ 2 ^ 50
keyed_few rows all keyed = subst (λ (n : ℕ). n ≤ 2 ^ 50) (length-map rows place)
    (length-le_from_distinct_below (map place rows) (2 ^ 50) (places_differ rows all keyed) (places_few rows all))
