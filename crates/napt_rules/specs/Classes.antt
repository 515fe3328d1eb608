-- LAWS: the candidates for a number are exactly the numbers of its class, each once; the number itself comes first or,
-- where numbers are random, the one at the index that the hash gives. In a block the candidates are exactly the numbers
-- of the block, each once, and the one at the index of `place_in` comes first.
use Rattle.std.specs.Prelude.{◌≡◌, ◌≢◌, ℕ, ◌+◌, ◌<◌, ◌≤◌, ◌%◌, nat_lt, Bool, true, List, ◌∷◌, filter, length, Option, Some, None, ◌↔◌}
use Rattle.std.specs.List.{AllPairs, Contains}
use Rattle.napt_config.specs.{Rules.IsPortBlock, declared.settings.{PortBlock.PortBlock, NumberAssignment.NumberAssignment, Seed.Seed}}
use Rattle.napt_wire.specs.declared.{Endpoint.Endpoint, Protocol.{Protocol, TheVariants.Icmp}}
use Rattle.napt_rules.specs.Candidates.{numbers_for, mixed, place_in, candidates}

-- A port that may stand for a port: it is not 0, it is on the same side of 1024 (RFC 4787, REQ-3, a) and, where parity
-- is kept, it has the same parity (REQ-4).
pub record IsPortFor (keeps_parity : Bool) (port number : ℕ) : Type 0 where
  pub positive : 0 < number
  pub small : number < 65536
  pub side : nat_lt number 1024 ≡ nat_lt port 1024
  pub parity : keeps_parity ≡ true → number % 2 ≡ port % 2

-- A number that may stand for a number: an ICMP identifier may become any (RFC 5508, section 3.1), a port as above.
abbrev pub IsNumberFor : Bool → Protocol → ℕ → ℕ → Type 0
IsNumberFor keeps_parity Icmp identifier number = number < 65536
IsNumberFor keeps_parity _ port number = IsPortFor keeps_parity port number

-- The first candidate is the number itself, which is preserved if it is free; with a seed, it is the number of the
-- class at the index of the hash modulo the size of the class, from 0 in ascending order.
abbrev pub IsFirstCandidate : Option Seed → Bool → Protocol → Endpoint → ℕ → Type 0
IsFirstCandidate None keeps_parity protocol inside first = first ≡ inside.number
IsFirstCandidate (Some seed) keeps_parity protocol inside first =
    let numbers : List ℕ = numbers_for keeps_parity protocol inside.number in
    length (filter (λ other. nat_lt other first) numbers) ≡ mixed seed protocol inside % length numbers

abbrev pub CandidatesBeginWithTheirFirst : Type 0
CandidatesBeginWithTheirFirst = (choosing : NumberAssignment) (protocol : Protocol) (inside : Endpoint) →
    IsNumberFor choosing.keeps_parity protocol inside.number inside.number →
    (first : ℕ) × (others : List ℕ) × (candidates choosing None protocol inside ≡ first ∷ others)
    × IsFirstCandidate choosing.seed choosing.keeps_parity protocol inside first

-- Law: the candidates are exactly the numbers that may stand for the inside number.
abbrev pub CandidatesAreTheirClass : Type 0
CandidatesAreTheirClass = (choosing : NumberAssignment) (protocol : Protocol) (inside : Endpoint) (n : ℕ) →
    Contains (candidates choosing None protocol inside) n ↔ IsNumberFor choosing.keeps_parity protocol inside.number n

-- Law: no candidate comes twice.
abbrev pub CandidatesDiffer : Type 0
CandidatesDiffer = (choosing : NumberAssignment) (protocol : Protocol) (inside : Endpoint) →
    AllPairs (λ m n. m ≢ n) (candidates choosing None protocol inside)

-- IN A BLOCK

pub record IsBlockNumber (block : PortBlock) (number : ℕ) : Type 0 where
  pub first : block.first ≤ number
  pub last : number < block.first + block.size

-- Law: the candidates begin with the number at the index `place_in` of the block. Where numbers are preserved, that
-- index is the inside number modulo the size of the block.
abbrev pub BlockCandidatesBegin : Type 0
BlockCandidatesBegin = (choosing : NumberAssignment) (block : PortBlock) → IsPortBlock block →
    (protocol : Protocol) (inside : Endpoint) →
    let place : ℕ = place_in choosing.seed choosing.keeps_parity block.size protocol inside in
    (place < block.size)
    × ((others : List ℕ) × (candidates choosing (Some block) protocol inside ≡ (block.first + place) ∷ others))

-- Law: the candidates in a block are exactly the numbers of the block.
abbrev pub BlockCandidatesAreTheBlock : Type 0
BlockCandidatesAreTheBlock = (choosing : NumberAssignment) (block : PortBlock) → IsPortBlock block →
    (protocol : Protocol) (inside : Endpoint)
    (n : ℕ) → Contains (candidates choosing (Some block) protocol inside) n ↔ IsBlockNumber block n

-- Law: no candidate in a block comes twice.
abbrev pub BlockCandidatesDiffer : Type 0
BlockCandidatesDiffer = (choosing : NumberAssignment) (block : PortBlock) → IsPortBlock block →
    (protocol : Protocol) (inside : Endpoint) →
    AllPairs (λ m n. m ≢ n) (candidates choosing (Some block) protocol inside)

-- Law: where parity is kept, the index in the block of the first candidate has the parity of the inside number.
abbrev pub BlockCandidatesKeepParity : Type 0
BlockCandidatesKeepParity = (seed : Option Seed) (block : PortBlock) → IsPortBlock block →
    (protocol : Protocol) (inside : Endpoint) →
    place_in seed true block.size protocol inside % 2 ≡ inside.number % 2
