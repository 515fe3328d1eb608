-- `address_of` reads dotted decimals, and nothing else.
use Rattle.std.proofs.lemmas.Grind.{common_steps}
use Rattle.std.proofs.Common.{◌≡◌, ℕ, ◌^◌, ◌<◌, List, [], ◌∷◌, Option, Some, None, refl, sym, subst, ◌∙◌, append-nil, lit≤, arith, option_and_then}
use Rattle.std.{specs.{Int.{w32, from_be_bytes}, Net.{Grammar.IsDotted, Reader.read_ipv4}}, proofs.NetLemmas.Ipv4.{read_ipv4_complete, read_ipv4_sound}}
use Rattle.napt_config.specs.Text.{address_of, whole_address}

pub address_of-dotted : (text octets : List ℕ) → IsDotted text octets → address_of text
    ≡ Some (from_be_bytes w32 octets)
unfolding address_of
address_of-dotted text octets dotted =
    let read : read_ipv4 text ≡ Some (octets, []) =
    rw append-nil at (read_ipv4_complete text octets [] dotted (lit≤ tt)) in
    rw read

none_whole : (text octets rest : List ℕ) → ((octets : List ℕ) → IsDotted text octets → ⊥) → read_ipv4 text
    ≡ Some (octets, rest) → whole_address octets rest ≡ None
none_whole text octets [] none read =
    let (front, spelled, dotted) = read_ipv4_sound text octets [] read in
    let same : front ≡ text = sym (append-nil front) ∙ sym spelled in
    absurd (none octets (subst (λ t. IsDotted t octets) same dotted))
none_whole text octets (byte ∷ rest) none read = refl

none_read : (text : List ℕ) (read : Option (List ℕ × List ℕ)) → ((octets : List ℕ) → IsDotted text octets → ⊥) →
    read_ipv4 text ≡ read → option_and_then (λ (r : List ℕ × List ℕ). whole_address r.0 r.1) read ≡ None
none_read text None none is = refl
none_read text (Some read) none is = none_whole text read.0 read.1 none is

pub address_of-none : (text : List ℕ) → ((octets : List ℕ) → IsDotted text octets → ⊥) → address_of text ≡ None
unfolding address_of
address_of-none text none = none_read text (read_ipv4 text) none refl

dotted_whole : (text octets rest : List ℕ) (address : ℕ) → read_ipv4 text ≡ Some (octets, rest) →
    whole_address octets rest ≡ Some address → IsDotted text octets × (from_be_bytes w32 octets ≡ address)
dotted_whole text octets [] address read is =
    let (front, spelled, dotted) = read_ipv4_sound text octets [] read in
    let same : front ≡ text = sym (append-nil front) ∙ sym spelled in
    (subst (λ t. IsDotted t octets) same dotted, cc)
dotted_whole text octets (byte ∷ rest) address read is = cc

dotted_read : (text : List ℕ) (read : Option (List ℕ × List ℕ)) (address : ℕ) → read_ipv4 text ≡ read
    → option_and_then (λ (r : List ℕ × List ℕ). whole_address r.0 r.1) read ≡ Some address → (octets : List ℕ)
    × IsDotted text octets × (from_be_bytes w32 octets ≡ address)
dotted_read text None address of is = cc
dotted_read text (Some read) address of is =
    let (dotted, value) = dotted_whole text read.0 read.1 address of is in
    (read.0, dotted, value)

-- A text that is read as an address is the dotted decimal of its four bytes.
pub dotted-address_of : (text : List ℕ) (address : ℕ) → address_of text ≡ Some address → (octets : List ℕ)
    × IsDotted text octets × (from_be_bytes w32 octets ≡ address)
unfolding address_of
dotted-address_of text address is = dotted_read text (read_ipv4 text) address refl is

pub address_of-bound : (text : List ℕ) (address : ℕ) → address_of text ≡ Some address → address < 2 ^ 32
address_of-bound text address is = grind (arith, common_steps, dotted-address_of)
