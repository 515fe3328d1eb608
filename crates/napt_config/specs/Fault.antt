-- Reading that ends at the first broken rule.
use Rattle.std.specs.Prelude.{◌≡◌, ◌≢◌, Bool, if◌then◌else◌, Result, Ok, Err}
use Rattle.napt_config.specs.declared.fault.ConfigFault.{ConfigFault, TheVariants.Memory}

-- Reads on if no rule has been broken so far; otherwise the first fault is the result.
infixl 10 ◌>>=◌
abbrev pub ◌>>=◌ : {A B : Type 0} → Result A ConfigFault → (A → Result B ConfigFault) → Result B ConfigFault
(Ok x) >>= follows = follows x
(Err fault) >>= follows = Err fault

infixl 10 ◌>>◌
abbrev pub ◌>>◌ : {A B : Type 0} → Result A ConfigFault → Result B ConfigFault → Result B ConfigFault
(Ok x) >> follows = follows
(Err fault) >> follows = Err fault

-- Checks a rule: the result is the fault if the rule is broken.
abbrev pub require_rule : Bool → ConfigFault → Result (Unit {0}) ConfigFault
require_rule rule fault = if rule then Ok tt else Err fault

-- What a function without an allocator returned, seen by `view`, is what the definition `reading` gives.
abbrev pub ReadPost : {X Y : Type 0} → (X → Y) → Result X ConfigFault → Result Y ConfigFault → Type 0
ReadPost view (Ok x) reading = reading ≡ Ok (view x)
ReadPost view (Err fault) reading = reading ≡ Err fault

-- What a function returned, seen by `view`, is what the definition `reading` gives, unless memory ran out.
abbrev pub MakePost : {X Y : Type 0} → (X → Y) → Result X ConfigFault → Result Y ConfigFault → Type 0
MakePost view (Ok x) reading = reading ≡ Ok (view x)
MakePost view (Err fault) reading = fault ≢ Memory → reading ≡ Err fault

-- A fault in what is read before any memory is allocated comes first: it is what the function returned.
abbrev pub FirstFaultComesFirst : {X Y : Type 0} → Result Y ConfigFault → Result X ConfigFault → Type 0
FirstFaultComesFirst (Ok y) result = Unit {0}
FirstFaultComesFirst (Err fault) result = result ≡ Err fault
