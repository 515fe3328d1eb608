-- The output that is a file which an earlier option also names.
use Rattle.std.specs.Prelude.{◌≡◌, ◌||◌, Bool, true, false, not, Option, Some, None, is_some, if◌then◌else◌}
use Rattle.napt_program.specs.{FileLocation.is_same, declared.{file_location.FileLocation.{FileLocation, TheVariants.Special}, options.RunOptions.RunOptions, file_locations.{FileLocations.FileLocations, SaveLocations.SaveLocations}, role.FileRole.FileRole}}
use Rattle.napt_program.specs.declared.role.FileRole.TheVariants as role

-- There is a location, and it is that of this file.
abbrev pub is_there : FileLocation → Option FileLocation → Bool
is_there file None = false
is_there file (Some place) = is_same file place

-- The file is an input other than the state, or a standard stream.
abbrev pub is_input : FileLocations → FileLocation → Bool
is_input p file =
    is_there file p.standard_input || is_there file p.standard_output
    || is_there file p.config || is_there file p.inside || is_there file p.outside

-- There is a file, and it is an input, a state, a standard stream or one of two other outputs.
abbrev pub is_named_elsewhere : FileLocations → Option FileLocation → Option FileLocation → Option FileLocation → Bool
is_named_elsewhere p None first second = false
is_named_elsewhere p (Some file) first second =
    is_input p file || is_there file p.resume || is_there file first || is_there file second

-- The file is read or written by the run, apart from the states.
abbrev pub is_taken : FileLocations → FileLocation → Bool
is_taken p file = is_input p file || is_there file p.to_outside || is_there file p.to_inside || is_there file p.report

-- The location is a device, a pipe or a folder.
abbrev pub is_special_file : FileLocation → Bool
is_special_file Special = true
is_special_file _ = false

-- The state's file or new file is no regular file or is another option's, or the new file is the state that is read.
abbrev pub is_save_lost : FileLocations → Option SaveLocations → Bool
is_save_lost p None = false
is_save_lost p (Some save) =
    is_special_file save.file || is_special_file save.new || is_taken p save.file || is_taken p save.new
    || is_there save.new p.resume

-- Returns the first output that is a file of an earlier option.
abbrev pub output_named_again : FileLocations → Option FileRole
output_named_again p =
    if is_named_elsewhere p p.to_outside None None then Some role.ToOutside
    else (if is_named_elsewhere p p.to_inside p.to_outside None then Some role.ToInside
    else (if is_named_elsewhere p p.report p.to_outside p.to_inside then Some role.Report
    else (if is_save_lost p p.save then Some role.Save
    else None)))

-- This file is the one to which a state is saved, or the new file for it.
abbrev pub is_saved_there : FileLocation → Option SaveLocations → Bool
is_saved_there file None = false
is_saved_there file (Some save) = is_same file save.file || is_same file save.new

-- The log is a file of another option, or a standard stream.
abbrev pub is_log_named_again : FileLocations → Option FileLocation → Bool
is_log_named_again p None = false
is_log_named_again p (Some log) =
    is_named_elsewhere p (Some log) p.to_outside p.to_inside || is_there log p.report || is_saved_there log p.save

-- The role is that of an output that has a location.
abbrev pub is_placed : FileLocations → FileRole → Bool
is_placed p role.ToOutside = is_some p.to_outside
is_placed p role.ToInside = is_some p.to_inside
is_placed p role.Report = is_some p.report
is_placed p role.Save = is_some p.save
is_placed p other = false

-- The files that have locations are those that the options name. A standard stream has one if it replaces a capture
-- that is not named.
pub record AreLocationsOf (options : RunOptions) (places : FileLocations) : Type 0 where
  pub config : is_some places.config ≡ is_some options.config
  pub resume : is_some places.resume ≡ is_some options.resume
  pub standard_input : is_some places.standard_input ≡ not (is_some options.inside)
  pub inside : is_some places.inside ≡ is_some options.inside
  pub outside : is_some places.outside ≡ is_some options.outside
  pub standard_output : is_some places.standard_output ≡ not (is_some options.to_outside)
  pub to_outside : is_some places.to_outside ≡ is_some options.to_outside
  pub to_inside : is_some places.to_inside ≡ is_some options.to_inside
  pub report : is_some places.report ≡ is_some options.report
  pub save : is_some places.save ≡ true → is_some options.save ≡ true
