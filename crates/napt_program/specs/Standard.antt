-- The options that are standard input or output, and the first option whose stream another one already uses.
use Rattle.std.specs.Prelude.{◌&&◌, ◌||◌, Bool, not, Option, Some, None, is_some, if◌then◌else◌}
use Rattle.clap.specs.Words.{Text}
use Rattle.napt_program.specs.{CommandLine.{CommandLineFiles, is_dash_given}, declared.role.FileRole.FileRole}
pub use Rattle.napt_program.specs.CommandLine.{is_dash}
use Rattle.napt_program.specs.declared.role.FileRole.TheVariants as role

-- Returns the file that the option of a role names.
abbrev pub file_for : CommandLineFiles → FileRole → Option Text
file_for named role.Config = named.config
file_for named role.Resume = named.resume
file_for named role.Inside = named.inside
file_for named role.Outside = named.outside
file_for named role.ToOutside = named.to_outside
file_for named role.ToInside = named.to_inside
file_for named role.Report = named.report
file_for named role.Save = named.save
file_for named role.Log = named.log

abbrev pub names_file : CommandLineFiles → FileRole → Bool
names_file named r = is_some (file_for named r)

abbrev pub is_stream : CommandLineFiles → FileRole → Bool
is_stream named r = is_dash_given (file_for named r)

-- A capture that is read or written without an option uses its standard stream.
abbrev pub is_standard : CommandLineFiles → FileRole → Bool
is_standard named r = not (is_some (file_for named r)) || is_stream named r

-- The log is in pieces: seconds are given for each, and it is a file.
abbrev pub has_pieces : CommandLineFiles → Bool
has_pieces named = is_some named.log_each && not (is_stream named role.Log)

-- The log needs standard output, which an output already uses.
abbrev pub is_log_again : CommandLineFiles → Bool
is_log_again named =
    is_stream named role.Log && (is_stream named role.Report || is_stream named role.ToInside
    || is_standard named role.ToOutside)

-- Returns the first output whose standard output is already in use. The log is the last.
abbrev pub repeated_output : CommandLineFiles → Option FileRole
repeated_output named =
    if is_stream named role.ToInside && is_standard named role.ToOutside then Some role.ToInside
    else (if is_stream named role.Report && (is_stream named role.ToInside || is_standard named role.ToOutside)
    then Some role.Report
    else (if is_log_again named then Some role.Log else None))

-- Returns the first option whose standard stream another one already uses. It is that of the configuration if the
-- inside capture is standard input by default.
abbrev pub repeated_stream : CommandLineFiles → Option FileRole
repeated_stream named =
    if is_stream named role.Config && not (is_some named.inside) then Some role.Config
    else (if is_stream named role.Config && is_stream named role.Inside then Some role.Inside
    else (if is_stream named role.Outside && (is_stream named role.Config || is_standard named role.Inside)
    then Some role.Outside
    else repeated_output named))
