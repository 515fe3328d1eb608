-- The meaning of a command line, by the specification of clap.
use Rattle.std.specs.Prelude.{◌||◌, ◌&&◌, ◌==◌, ◌^◌, ℕ, List, [], ◌∷◌, length, nat_lt, Bool, true, false, Option, Some, None, bytes_eq, codes, option_map, string_bytes, if◌then◌else◌}
use Rattle.std.specs.{Char.is_ascii_digit, List.list_all, Str.Parse.{digits_value, without_leading_plus}}
use Rattle.std.specs.Int.NonZero.{non_zero_u32_get}
use Rattle.clap.specs.Words.{App, Kinds, Row, Rule, Text, fault_of, first_of, matches_of, new_app, new_rule, with_rule}
use Rattle.clap.specs.declared.{builder.action.ArgAction.TheVariants.Set, error.kind.ErrorKind.TheVariants.{DisplayHelp, DisplayVersion}}
use Rattle.napt_program.specs.declared.{options.{RunOptions.RunOptions, LineFault.LineFault}, options_with_log.OptionsWithLog.OptionsWithLog}
use Rattle.napt_program.specs.declared.{options.LineFault.TheVariants.{Help, Version}, role.FileRole.FileRole}
use Rattle.napt_program.specs.declared.role.FileRole.TheVariants as role

-- Returns the option `--name FILE`: a plain option that takes one value, the name of a file or another text.
abbrev pub file_option : Text → Rule
file_option name =
    record (new_rule name) { long = Some name; action = Some Set; value_names = 1 }

-- Returns the command with an option for each name.
abbrev pub with_options : App → List Text → App
with_options a [] = a
with_options a (name ∷ more) = with_options (with_rule a (file_option name)) more

abbrev pub option_names : List Text
option_names = codes "config" ∷ codes "resume" ∷ codes "inside" ∷ codes "outside" ∷ codes "to-outside"
    ∷ codes "to-inside" ∷ codes "report" ∷ codes "save" ∷ []

-- The program's command has a version. clap adds `-h` and `--help`, `-V` and `--version` to it.
abbrev pub napt_app : App
napt_app =
    let bare : App = new_app (codes "napt") in
    with_options (record bare { top = record bare.top { has_version = true } }) option_names

-- Returns the command of a program, with `--log` and `--log-each` or without them.
abbrev pub app_for : Bool → App
app_for false = napt_app
app_for true = with_options napt_app (codes "log" ∷ codes "log-each" ∷ [])

-- The file that each option names, and the seconds of each piece of the log.
pub record CommandLineFiles : Type 0 where
  pub config : Option Text
  pub resume : Option Text
  pub inside : Option Text
  pub outside : Option Text
  pub to_outside : Option Text
  pub to_inside : Option Text
  pub report : Option Text
  pub save : Option Text
  pub log : Option Text
  pub log_each : Option ℕ

abbrev pub files_of : RunOptions → CommandLineFiles
files_of o = record {
  config = option_map string_bytes o.config;
  resume = option_map string_bytes o.resume;
  inside = option_map string_bytes o.inside;
  outside = option_map string_bytes o.outside;
  to_outside = option_map string_bytes o.to_outside;
  to_inside = option_map string_bytes o.to_inside;
  report = option_map string_bytes o.report;
  save = option_map string_bytes o.save;
  log = None;
  log_each = None;
}

abbrev pub files_with_log : OptionsWithLog → CommandLineFiles
files_with_log o = record (files_of o.files) {
  log = option_map string_bytes o.log;
  log_each = option_map non_zero_u32_get o.log_each;
}

-- Returns the value of `--log`, if the program has that option.
abbrev pub log_in : Bool → List Row → Option Text
log_in false rows = None
log_in true rows = first_of (codes "log") rows

-- Returns the whole number below 2 ^ 32 that a text is in decimal, with or without a plus sign, or 0 for another text.
abbrev pub seconds_of : Text → ℕ
seconds_of text =
    let digits = without_leading_plus text in
    let number = digits_value 10 digits in
    if (nat_lt 0 (length digits) && list_all is_ascii_digit digits) && nat_lt number (2 ^ 32) then number else 0

-- Returns the value of `--log-each` in seconds, if the program has that option.
abbrev pub seconds_in : Bool → List Row → Option ℕ
seconds_in false rows = None
seconds_in true rows = option_map seconds_of (first_of (codes "log-each") rows)

-- Returns the values in clap's matches.
abbrev pub files_in : Bool → List Row → CommandLineFiles
files_in takes_log rows = record {
  config = first_of (codes "config") rows;
  resume = first_of (codes "resume") rows;
  inside = first_of (codes "inside") rows;
  outside = first_of (codes "outside") rows;
  to_outside = first_of (codes "to-outside") rows;
  to_inside = first_of (codes "to-inside") rows;
  report = first_of (codes "report") rows;
  save = first_of (codes "save") rows;
  log = log_in takes_log rows;
  log_each = seconds_in takes_log rows;
}

-- The meaning of a command line: files, a request for help or for the version, or a mistake.
pub data CommandLineMeaning : Type 0 where
  files : CommandLineFiles → CommandLineMeaning
  help : CommandLineMeaning
  version : CommandLineMeaning
  mistake : CommandLineMeaning

-- The path is `-`, which is not a file but a standard stream.
abbrev pub is_dash : Text → Bool
is_dash path = bytes_eq path (codes "-")

abbrev pub is_dash_given : Option Text → Bool
is_dash_given None = false
is_dash_given (Some path) = is_dash path

-- The file of a state is given as `-`.
abbrev pub misuses_state : CommandLineFiles → Bool
misuses_state named = is_dash_given named.resume || is_dash_given named.save

-- Pieces are requested of a log that is not a file, or of 0 seconds each.
abbrev pub misuses_pieces : Option Text → Option ℕ → Bool
misuses_pieces log None = false
misuses_pieces None (Some seconds) = true
misuses_pieces (Some path) (Some seconds) = seconds == 0 || is_dash path

abbrev pub is_misused : CommandLineFiles → Bool
is_misused named = misuses_state named || misuses_pieces named.log named.log_each

-- Returns the meaning of a command line by clap's result, which reports help and the version as faults of those kinds.
abbrev pub line_by : Kinds → CommandLineFiles → CommandLineMeaning
line_by [] named = if is_misused named then mistake else files named
line_by (DisplayHelp ∷ more) named = help
line_by (DisplayVersion ∷ more) named = version
line_by (other ∷ more) named = mistake

-- Returns the meaning of a command line to a program with or without a log. The first argument is the program's name.
unfoldable pub line_for : Bool → List Text → CommandLineMeaning
line_for takes_log words =
    line_by (fault_of (app_for takes_log) words) (files_in takes_log (matches_of (app_for takes_log) words))

abbrev pub line_of_words : List Text → CommandLineMeaning
line_of_words words = line_for false words

abbrev pub line_with_log : List Text → CommandLineMeaning
line_with_log words = line_for true words

-- Returns the name of the file's option, without its dashes.
abbrev pub role_name : FileRole → Text
role_name role.Config = codes "config"
role_name role.Resume = codes "resume"
role_name role.Inside = codes "inside"
role_name role.Outside = codes "outside"
role_name role.ToOutside = codes "to-outside"
role_name role.ToInside = codes "to-inside"
role_name role.Report = codes "report"
role_name role.Save = codes "save"
role_name role.Log = codes "log"

abbrev pub IsHelp : LineFault → Type 0
IsHelp (Help text) = Unit {0}
IsHelp _ = ⊥

abbrev pub IsVersion : LineFault → Type 0
IsVersion (Version text) = Unit {0}
IsVersion _ = ⊥
