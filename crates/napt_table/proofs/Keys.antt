-- The keys of the stored bindings.
use Rattle.std.proofs.Common.{◌≡◌, ◌≢◌, ℕ, Bool, true, false, ◌&&◌, cond, refl, sym, ◌∙◌, ap, subst, eqb, eqb-true}
use Rattle.std.{proofs.lemmas.Bool.{eq-eqb, and_from, and_parts, true≢false}, specs.Cmp.IsEquivalence}
use denote.Enum.Bare.{sameb}
use Rattle.napt_wire.specs.{contracts.Protocol.the_type, declared.{Protocol.{Protocol, TheVariants.{Icmp, Tcp, Udp}}, Endpoint.Endpoint}}
use Rattle.napt_table.specs.{declared.bindings.keys.ExternalNumberKey.ExternalNumberKey, Keys.{key_eq, inside_eq, external_key, inside_key}}

same_bare : (p q : Protocol) → sameb the_type p q ≡ true → p ≡ q
same_bare Icmp Icmp h = refl
same_bare Icmp Tcp h = cc
same_bare Icmp Udp h = cc
same_bare Tcp Icmp h = cc
same_bare Tcp Tcp h = refl
same_bare Tcp Udp h = cc
same_bare Udp Icmp h = cc
same_bare Udp Tcp h = cc
same_bare Udp Udp h = refl

bare_itself : (p : Protocol) → sameb the_type p p ≡ true
bare_itself Icmp = refl
bare_itself Tcp = refl
bare_itself Udp = refl

pub key_is : (a b : ExternalNumberKey) → key_eq a b ≡ true → a ≡ b
key_is a b h =
    let p = and_parts (eqb a.number b.number) (sameb the_type a.protocol b.protocol) h in
    let n : a.number ≡ b.number = eqb-true a.number b.number p.0 in
    let q : a.protocol ≡ b.protocol = same_bare a.protocol b.protocol p.1 in
    λ k. record { number = n k; protocol = q k }

pub key_itself : (a : ExternalNumberKey) → key_eq a a ≡ true
key_itself a = and_from (eqb a.number a.number) (sameb the_type a.protocol a.protocol) (eq-eqb a.number a.number refl)
    (bare_itself a.protocol)

pub key_differs : (a b : ExternalNumberKey) → key_eq a b ≡ false → a ≢ b
key_differs a b h e = true≢false (sym (sym (ap (key_eq a) e) ∙ key_itself a) ∙ h)

pub other_key : (a b : ExternalNumberKey) → a ≢ b → key_eq a b ≡ false
other_key a b differs = elim (key_eq a b) as (λ v. key_eq a b ≡ v → v ≡ false) [
  | true ↦ λ t. absurd (differs (key_is a b t))
  | false ↦ λ t. refl
] refl

same_tests : (v w : Bool) → (v ≡ true → w ≡ true) → (w ≡ true → v ≡ true) → v ≡ w
same_tests true w f g = sym (f refl)
same_tests false true f g = g refl
same_tests false false f g = refl

key_swap : (a b : ExternalNumberKey) → key_eq a b ≡ true → key_eq b a ≡ true
key_swap a b t = ap (key_eq b) (key_is a b t) ∙ key_itself b

pub key_equiv : IsEquivalence key_eq
key_equiv = record {
  refl = key_itself;
  symm = λ a b. same_tests (key_eq a b) (key_eq b a) (key_swap a b) (key_swap b a);
  congr = λ a b c t. ap (λ (x : ExternalNumberKey). key_eq x c) (key_is a b t);
}

-- A property of all keys is shown for one key and for each other one.
pub by_key : (a b : ExternalNumberKey) (P : ExternalNumberKey → Type 0) → P a → (b ≢ a → P b) → P b
by_key a b P here rest = elim (key_eq a b) as (λ v. key_eq a b ≡ v → P b) [
  | true ↦ λ t. subst P (key_is a b t) here
  | false ↦ λ t. rest (λ e. key_differs a b t (sym e))
] refl

module _ {X : Type 0} (a : ExternalNumberKey) (x y : X) where
  pub at_key : cond (key_eq a a) x y ≡ x
  at_key = ap (λ v. cond v x y) (key_itself a)

  pub past_key : (b : ExternalNumberKey) → b ≢ a → cond (key_eq a b) x y ≡ y
  past_key b differs = ap (λ v. cond v x y) (other_key a b (λ e. differs (sym e)))

and_true : (v : Bool) → (v && true) ≡ v
and_true true = refl
and_true false = refl

-- Keys of one protocol are equal if their numbers are.
pub key_number : (p : Protocol) (m n : ℕ) → key_eq (external_key p m) (external_key p n) ≡ eqb m n
key_number p m n = ap (λ v. eqb m n && v) (bare_itself p) ∙ and_true (eqb m n)

-- INSIDE ENDPOINTS

pub inside_ends : (p q : Protocol) (e f : Endpoint) → inside_eq (inside_key p e) (inside_key q f) ≡ true →
    (p ≡ q) × (e ≡ f)
inside_ends p q e f h =
    let a = and_parts (eqb e.address f.address) (eqb e.number f.number && sameb the_type p q) h in
    let b = and_parts (eqb e.number f.number) (sameb the_type p q) a.1 in
    let address : e.address ≡ f.address = eqb-true e.address f.address a.0 in
    let number : e.number ≡ f.number = eqb-true e.number f.number b.0 in
    (same_bare p q b.1, λ k. record { address = address k; number = number k })

inside_itself : (p : Protocol) (e : Endpoint) → inside_eq (inside_key p e) (inside_key p e) ≡ true
inside_itself p e = and_from (eqb e.address e.address) (eqb e.number e.number && sameb the_type p p)
    (eq-eqb e.address e.address refl)
    (and_from (eqb e.number e.number) (sameb the_type p p) (eq-eqb e.number e.number refl) (bare_itself p))

pub inside_same : (p q : Protocol) (e f : Endpoint) → p ≡ q → e ≡ f → inside_eq (inside_key p e) (inside_key q f)
    ≡ true
inside_same p q e f s t =
    sym (ap (λ (x : Protocol). inside_eq (inside_key p e) (inside_key x e)) s
    ∙ ap (λ (x : Endpoint). inside_eq (inside_key p e) (inside_key q x)) t)
    ∙ inside_itself p e

-- A property of all inside endpoints is shown for one of them and for each other one.
pub by_inside : (p q : Protocol) (e f : Endpoint) (P : Protocol → Endpoint → Type 0) → P p e →
    (inside_eq (inside_key p e) (inside_key q f) ≡ false → P q f) → P q f
by_inside p q e f P here rest = elim (inside_eq (inside_key p e) (inside_key q f)) as (λ v.
    inside_eq (inside_key p e) (inside_key q f) ≡ v → P q f) [
      | true ↦ λ t. let s = inside_ends p q e f t in subst (P q) s.1 (subst (λ (x : Protocol). P x e) s.0 here)
      | false ↦ rest
    ] refl
