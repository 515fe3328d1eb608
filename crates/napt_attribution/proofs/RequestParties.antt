-- The parties of requests, and the endpoints that they ask about.
use Rattle.std.proofs.{Common.{◌≡◌, ℕ, Bool, true, false, ◌&&◌, ◌||◌, ◌==◌, List, [], ◌∷◌, Option, Some, None, ◌<◌, ◌+◌, cond, length, take, get_or, refl, sym, ◌∙◌, ap, ap₂, ◌≤◌, arith}, lemmas.{List.take_all, List.Folds.list_any_more, Bool.Decides.nat_tests}}
use Rattle.std.specs.{List.list_any, BTreeMap.is_at}
use Rattle.napt_wire.specs.declared.Endpoint.{Endpoint}
use Rattle.napt_account.specs.{Parties.is_meant, declared.party.Party.Party}
use Rattle.napt_attribution.specs.{RequestParties.{is_asked_about, is_party, party_cmp}, declared.requests.HolderRequest.HolderRequest}

meant_one : (external : Endpoint) (address : ℕ) (number : Option ℕ) →
    is_meant (record { address = address; number = number }) external
    ≡ (is_party external.address None (record { address = address; number = number })
    || is_party external.address (Some external.number) (record { address = address; number = number }))
meant_one external address None = grind arith
meant_one external address (Some number) = grind arith

pub meant : (asked : List HolderRequest) (external : Endpoint) → is_asked_about asked external
    ≡ (list_any (λ one. is_party external.address None one.request.party) asked
    || list_any (λ one. is_party external.address (Some external.number) one.request.party) asked)
meant [] external = refl
meant (one ∷ asked) external =
    grind (arith, meant asked external, meant_one external one.request.party.address one.request.party.number)

pub party_at : (a b : ℕ) (m n : Option ℕ) →
    is_at (party_cmp (b, m)) (a, n) ≡ is_party a n (record { address = b; number = m })
party_at a b None None = grind (arith, nat_tests)
party_at a b None (Some n) = grind (arith, nat_tests)
party_at a b (Some m) None = grind (arith, nat_tests)
party_at a b (Some m) (Some n) = grind (arith, nat_tests)

or_flip : (a b : Bool) → cond a true b ≡ (b || a)
or_flip true true = refl
or_flip true false = refl
or_flip false true = refl
or_flip false false = refl

abbrev names : ℕ → Option ℕ → HolderRequest → Bool
names address number one = is_party address number one.request.party

pub one_more : (asked : List HolderRequest) (i : ℕ) (d : HolderRequest) → i < length asked → (old new : Bool)
    (address : ℕ) (number : Option ℕ) → old ≡ list_any (names address number) (take i asked) →
    new ≡ cond (is_at (party_cmp ((get_or asked i d).request.party.address, (get_or asked i d).request.party.number))
    (address, number)) true old → new ≡ list_any (names address number) (take (i + 1) asked)
one_more asked i d less old new address number was is =
    let one : HolderRequest = get_or asked i d in
    is ∙ (ap₂ (λ (a b : Bool). cond a true b)
    (party_at address one.request.party.address one.request.party.number number) was
    ∙ (or_flip (names address number one) (list_any (names address number) (take i asked))
    ∙ sym (list_any_more (names address number) asked i d less)))

pub all_named : (asked : List HolderRequest) (i : ℕ) → length asked ≤ i → (a b : Bool) (external : Endpoint) →
    a ≡ list_any (names external.address None) (take i asked) →
    b ≡ list_any (names external.address (Some external.number)) (take i asked) →
    (a || b) ≡ is_asked_about asked external
all_named asked i all a b external address number =
    ap₂ (λ (x y : Bool). x || y) (address ∙ ap (list_any (names external.address None)) (take_all i asked all))
    (number ∙ ap (list_any (names external.address (Some external.number))) (take_all i asked all))
    ∙ sym (meant asked external)
