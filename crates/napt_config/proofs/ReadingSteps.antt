-- If a reading succeeds, so did each of its steps.
use Rattle.std.proofs.lemmas.Grind.{common_steps}
use Rattle.std.proofs.Common.{◌≡◌, ℕ, ◌+◌, ◌≤◌, Bool, true, false, List, Option, Some, None, Result, Ok, Err, is_some, refl, subst, arith, leb-true, nat_le, ok_or}
use Rattle.std.specs.Option.{option_map_or}
use Rattle.toml.specs.Data.{Data, Items, no_items, item, Members, get_member}
use Rattle.napt_config.specs.Prelude.{ConfigFault, ◌>>=◌, ◌>>◌, require_rule, each_in_order, item_count, list_up_to, optional}

pub reads : {A B P : Type 0} (r : Result A ConfigFault) (f : A → Result B ConfigFault) (y : B) → r >>= f ≡ Ok y →
    ((x : A) → r ≡ Ok x → f x ≡ Ok y → P) → P
reads (Ok x) f y e then = then x refl e
reads (Err fault) f y e then = cc

pub holds : {B P : Type 0} (rule : Bool) (fault : ConfigFault) (r : Result B ConfigFault) (y : B) →
    require_rule rule fault >> r
    ≡ Ok y → (rule ≡ true → r ≡ Ok y → P) → P
holds true fault r y e then = then refl e
holds false fault r y e then = cc

pub ok_or_ok : {A : Type 0} (o : Option A) (fault : ConfigFault) (x : A) → ok_or o fault ≡ Ok x → o ≡ Some x
ok_or_ok None fault x e = cc
ok_or_ok (Some y) fault x e = cc

option_reads : {A : Type 0} (P : A → Type 0) (o : Option Data) (default : A) (reading : Data → Result A ConfigFault)
    (x : A) → option_map_or reading o (Ok default) ≡ Ok x
    → P default → ((d : Data) (y : A) → reading d ≡ Ok y → P y) → P x
option_reads P None default reading x e at_default at_value = let same : default ≡ x = cc in subst P same at_default
option_reads P (Some d) default reading x e at_default at_value = at_value d x e

-- What holds of the default and of each value that is read holds of what is read at a key.
pub optional_reads : {A : Type 0} (P : A → Type 0) (key : List ℕ) (default : A) (reading : Data → Result A ConfigFault)
    (table : Members) (x : A) → optional key default reading table ≡ Ok x
    → P default → ((d : Data) (y : A) → reading d ≡ Ok y → P y) → P x
optional_reads P key default reading table x e at_default at_value =
    option_reads P (get_member key table) default reading x e at_default at_value

absent_reads : {A : Type 0} (o : Option Data) (default : A) (reading : Data → Result A ConfigFault) (x : A) →
    is_some o ≡ false → option_map_or reading o (Ok default) ≡ Ok x → x ≡ default
absent_reads None default reading x none e = cc
absent_reads (Some d) default reading x none e = cc

-- An absent key gives the default.
pub optional-absent : {A : Type 0} (key : List ℕ) (default : A) (reading : Data → Result A ConfigFault)
    (table : Members) (x : A) → is_some (get_member key table) ≡ false → optional key default reading table ≡ Ok x →
    x ≡ default
optional-absent key default reading table x none e = absent_reads (get_member key table) default reading x none e

-- A list that `list_up_to` reads has at most `most` entries.
pub list_up_to-counts : (most : ℕ) (value : Data) (entries : Items) → list_up_to most value ≡ Ok entries →
    item_count entries ≤ most
unfolding list_up_to
list_up_to-counts most value entries is = grind (arith, common_steps, reads, holds, nat_le, leb-true)

module _ {A : Type 0} (step : A → Data → Result A ConfigFault) where
  -- What each step preserves, all steps preserve.
  pub each_keeps : (P : A → Type 0) → ((now next : A) (d : Data) → P now → step now d ≡ Ok next → P next) →
      (now last : A) (entries : Items) → P now → each_in_order step now entries ≡ Ok last → P last
  each_keeps P kept now last no_items start e = let same : now ≡ last = cc in subst P same start
  each_keeps P kept now last (item d rest) start e =
      reads (step now d) (λ n. each_in_order step n rest) last e λ next stepped more.
      each_keeps P kept next last rest (kept now next d start stepped) more

  -- If each step adds one, all steps add the number of entries.
  pub each_adds : (size : A → ℕ) → ((now next : A) (d : Data) → step now d ≡ Ok next → size next ≡ size now + 1) →
      (now last : A) (entries : Items)
      → each_in_order step now entries ≡ Ok last → size last ≡ size now + item_count entries
  each_adds size adds now last no_items e = let same : now ≡ last = cc in rw (← same) (omega arith)
  each_adds size adds now last (item d rest) e =
      reads (step now d) (λ n. each_in_order step n rest) last e λ next stepped more.
      omega (arith, adds now next d stepped, each_adds size adds next last rest more)
