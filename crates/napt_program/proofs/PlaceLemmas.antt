-- An output that is lost is named by an option.
use native.Mathlib.Omega.{arith}
use Rattle.std.proofs.{lemmas.{Grind.common_steps, Bool.Decides.nat_tests}, Common.{◌≡◌, ◌∙◌, sym, refl, true, is_some, List, ℕ}}
use Rattle.std.specs.Prelude.{IfSome, Option, Some, None, option_map}
use Rattle.napt_program.specs.{CommandLine.files_of, FileLocations.{AreLocationsOf, is_placed}, Standard.names_file}
use Rattle.napt_program.specs.declared.{options.RunOptions.RunOptions, file_locations.FileLocations.FileLocations, role.FileRole.FileRole}
use Rattle.napt_program.specs.declared.role.FileRole.TheVariants as role

-- A value is present if its text is.
has_text : {A : Type 0} (text : A → List ℕ) (a : Option A) → is_some a ≡ true → is_some (option_map text a) ≡ true
has_text text None is = is
has_text text (Some a) is = refl

named : (o : RunOptions) (p : FileLocations) (r : FileRole) → AreLocationsOf o p → is_placed p r ≡ true →
    names_file (files_of o) r ≡ true
named o p role.ToOutside are placed = has_text _ o.to_outside (sym are.to_outside ∙ placed)
named o p role.ToInside are placed = has_text _ o.to_inside (sym are.to_inside ∙ placed)
named o p role.Report are placed = has_text _ o.report (sym are.report ∙ placed)
named o p role.Save are placed = has_text _ o.save (are.save placed)
named o p role.Config are placed = grind (arith, common_steps, nat_tests)
named o p role.Resume are placed = grind (arith, common_steps, nat_tests)
named o p role.Inside are placed = grind (arith, common_steps, nat_tests)
named o p role.Outside are placed = grind (arith, common_steps, nat_tests)
named o p role.Log are placed = grind (arith, common_steps, nat_tests)

pub lost_is_named : (o : RunOptions) (p : FileLocations) (r : Option FileRole) → AreLocationsOf o p
    → IfSome r (λ role. is_placed p role ≡ true) → IfSome r (λ role. names_file (files_of o) role ≡ true)
lost_is_named o p None are placed = placed
lost_is_named o p (Some r) are placed = named o p r are placed
