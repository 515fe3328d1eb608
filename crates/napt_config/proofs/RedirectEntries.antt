-- Redirects that are read satisfy their rules.
use Rattle.std.proofs.lemmas.Grind.{common_steps}
use Rattle.std.proofs.Common.{◌≡◌, ℕ, ◌+◌, ◌<◌, ◌≤◌, true, false, not, List, [], ◌∷◌, ◌++◌, length, Option, Some, Ok, refl, sym, ap, subst, ◌∙◌, length-append, arith, All, codes}
use Rattle.std.{specs.List.{before_first, after_first}, proofs.lemmas.{Bool.{not-true, or_parts, or_from}, List.Elements.{All-push, All-nil}}}
use Rattle.std.proofs.lemmas.{List.Folds.list_any-append, Option.option_and_then_some}
use Rattle.toml.specs.Data.{Data, Members}
use Rattle.napt_config.specs.Prelude.{NotInside, RedirectInBlock, DuplicateRedirect, Redirect, PortBlock, PrefixModel, TransportAddressModel, prefixes_have, address_of, number_of, transport_address_of_text, transport_address_at, is_colon, IsRedirect, may_redirect, is_double, AreRedirectsSingle, table_in, each_in_order, list_up_to, is_tcp_in, transport_address_in, port_in, redirect_in, have_double_redirect, with_redirect, redirects_at, redirects_in}
use Rattle.napt_config.proofs.ReadingSteps.{list_up_to-counts, reads, holds, ok_or_ok, optional_reads, each_keeps, each_adds}
use Rattle.napt_config.proofs.Numbers.{number_of-range, number_at-range}

-- ---- one entry

-- The external port of the redirect is below 1024 or in the block of its host.
abbrev pub IsInBlock : (ℕ → Option PortBlock) → Redirect → Type 0
IsInBlock block redirect = may_redirect (block redirect.address) redirect.external ≡ true

socket_of-port : (text : List ℕ) (socket : TransportAddressModel) → transport_address_of_text text ≡ Some socket →
    0 < socket.port
unfolding transport_address_of_text
socket_of-port text socket is = grind (arith, common_steps, option_and_then_some, number_of-range)

transport_address_in-port : (key : List ℕ) (keys : Members) (socket : TransportAddressModel) →
    transport_address_in key keys ≡ Ok socket → 0 < socket.port
unfolding transport_address_in
transport_address_in-port key keys socket is = grind (arith, common_steps, socket_of-port, ok_or_ok)

port_in-some : (key : List ℕ) (keys : Members) (port : ℕ) → port_in key keys ≡ Ok port → 0 < port
unfolding port_in
port_in-some key keys port is = grind (arith, common_steps, number_at-range, ok_or_ok)

redirect_in-is : (inside : List PrefixModel) (block : ℕ → Option PortBlock) (entry : Data) (redirect : Redirect) →
    redirect_in inside block entry ≡ Ok redirect → IsRedirect inside redirect × IsInBlock block redirect
unfolding redirect_in
redirect_in-is inside block entry redirect is =
    grind (arith, common_steps, reads, holds, transport_address_in-port, port_in-some)

-- ---- all entries

AreSingle-push : (pair : ℕ → ℕ) (redirects : List Redirect) (last : Redirect) → AreRedirectsSingle pair redirects
    → have_double_redirect pair redirects last ≡ false → AreRedirectsSingle pair (redirects ++ last ∷ [])
unfolding have_double_redirect
AreSingle-push pair [] last single new = (refl, tt)
AreSingle-push pair (redirect ∷ redirects) last single new =
    let (apart, later) = or_parts (is_double pair redirect last) _ new in
    let with_last = list_any-append (is_double pair redirect) redirects (last ∷ []) in
    (with_last ∙ or_from _ _ single.0 (or_from _ _ apart refl), AreSingle-push pair redirects last single.1 later)

module _ (inside : List PrefixModel) (pair : ℕ → ℕ) (block : ℕ → Option PortBlock) where
  record RedirectStep (now next : List Redirect) : Type 0 where
    pub redirect : Redirect
    pub fine : IsRedirect inside redirect
    pub in_block : IsInBlock block redirect
    pub new : have_double_redirect pair now redirect ≡ false
    pub is : next ≡ now ++ redirect ∷ []

  redirect_step : (now next : List Redirect) (entry : Data) → with_redirect inside pair block now entry ≡ Ok next →
      RedirectStep now next
  unfolding with_redirect
  redirect_step now next entry is =
      reads (redirect_in inside block entry) _ next is λ redirect read ruled.
      holds (not (have_double_redirect pair now redirect)) DuplicateRedirect _ next ruled λ new last.
      let (fine, in_block) = redirect_in-is inside block entry redirect read in
      record { redirect = redirect; fine = fine; in_block = in_block; new = not-true _ new; is = cc }

  pub record RedirectsSoFar (read : List Redirect) : Type 0 where
    pub redirects : All (IsRedirect inside) read
    pub in_blocks : All (IsInBlock block) read
    pub single : AreRedirectsSingle pair read

  redirects_keep : (now next : List Redirect) (entry : Data) → RedirectsSoFar now →
      with_redirect inside pair block now entry ≡ Ok next → RedirectsSoFar next
  redirects_keep now next entry start is =
      let step = redirect_step now next entry is in
      subst RedirectsSoFar (sym step.is) (record {
        redirects = All-push (IsRedirect inside) now step.redirect start.redirects step.fine;
        in_blocks = All-push (IsInBlock block) now step.redirect start.in_blocks step.in_block;
        single = AreSingle-push pair now step.redirect start.single step.new;
      })

  redirects_add : (now next : List Redirect) (entry : Data) → with_redirect inside pair block now entry ≡ Ok next →
      length next ≡ length now + 1
  redirects_add now next entry is =
      let step = redirect_step now next entry is in
      ap length step.is ∙ length-append now (step.redirect ∷ [])

  pub record RedirectRules (redirects : List Redirect) : Type 0 where
    pub few : length redirects ≤ 256
    pub kept : RedirectsSoFar redirects

  no_redirects : RedirectsSoFar []
  no_redirects = record { redirects = All-nil _; in_blocks = All-nil _; single = tt }

  redirects_at-keeps : (value : Data) (redirects : List Redirect) →
      redirects_at each_in_order inside pair block value ≡ Ok redirects → RedirectRules redirects
  unfolding redirects_at
  redirects_at-keeps value redirects is =
      reads (list_up_to 256 value) _ redirects is λ entries counted more.
      let most = list_up_to-counts 256 value entries counted in
      let long = each_adds (with_redirect inside pair block) length redirects_add [] redirects entries more in
      record {
        few = omega (arith, most, long);
        kept =
            each_keeps (with_redirect inside pair block) RedirectsSoFar redirects_keep [] redirects entries
            no_redirects more;
      }

  pub redirects_in-keeps : (table : Members) (redirects : List Redirect) →
      redirects_in each_in_order inside pair block table ≡ Ok redirects → RedirectRules redirects
  unfolding redirects_in
  redirects_in-keeps table redirects is =
      optional_reads RedirectRules (codes "redirect") [] (redirects_at each_in_order inside pair block) table redirects
      is (record { few = omega arith; kept = no_redirects }) (λ value y read. redirects_at-keeps value y read)
