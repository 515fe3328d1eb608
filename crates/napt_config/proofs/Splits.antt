-- A text without a separator is read as none.
use Rattle.std.proofs.{lemmas.Grind.common_steps, Common.{◌≡◌, ℕ, ◌+◌, Bool, List, [], length, Option, Some, None, refl, arith, option_and_then}}
use Rattle.std.{specs.List.{position_or_len, after_first}, proofs.lemmas.List.drop_all}
use Rattle.napt_config.{specs.Text.{is_slash, is_colon, prefix_of_text, transport_address_of_text}, proofs.Numbers.number_of-nothing}

nothing_after : (p : ℕ → Bool) (text : List ℕ) → position_or_len p text ≡ length text → after_first p text ≡ []
nothing_after p text none = drop_all (position_or_len p text + 1) text (omega arith)

never : {A B : Type 0} (o : Option A) (f : A → Option B) → ((x : A) → f x ≡ None) → option_and_then f o ≡ None
never None f none = refl
never (Some x) f none = none x

pub network_of-whole : (text : List ℕ) → position_or_len is_slash text ≡ length text → prefix_of_text text ≡ None
unfolding prefix_of_text
network_of-whole text none = grind (arith, common_steps, nothing_after, never, number_of-nothing)

pub socket_of-whole : (text : List ℕ) → position_or_len is_colon text ≡ length text →
    transport_address_of_text text ≡ None
unfolding transport_address_of_text
socket_of-whole text none = grind (arith, common_steps, nothing_after, never, number_of-nothing)
