-- The first option that meets a condition is an option before the log, or the log.
use native.Mathlib.Omega.{arith}
use Rattle.std.proofs.lemmas.{Grind.common_steps, Bool.Decides.nat_tests}
use Rattle.std.proofs.Common.{◌≡◌, ◌&&◌, ◌||◌, ℕ, List, option_map, Bool, true, false, not, is_some, Option, Some, None, if◌then◌else◌}
use Rattle.napt_program.specs.{CommandLine.{CommandLineFiles, files_of, files_with_log}, Standard.{is_log_again, is_standard, is_stream, repeated_stream}}
use Rattle.napt_program.specs.{Streams.closed_stream, declared.{options_with_log.OptionsWithLog.OptionsWithLog, role.FileRole.FileRole, streams.StandardStreams.StandardStreams}}
use Rattle.napt_program.specs.declared.role.FileRole.TheVariants as role

-- Returns the role of the first condition that is true, or `behind` if none is.
abbrev pub first_role : (a b c d e f : Bool) (j k l m n o : FileRole) → Option FileRole → Option FileRole
first_role a b c d e f j k l m n o behind =
    if a then Some j
    else (if b then Some k
    else (if c then Some l
    else (if d then Some m else (if e then Some n else (if f then Some o else behind)))))

-- If a condition is true, `behind` has no effect.
pub first_kept : (a b c d e f : Bool) (j k l m n o found : FileRole) (behind : Option FileRole)
    → first_role a b c d e f j k l m n o None ≡ Some found → first_role a b c d e f j k l m n o behind ≡ Some found
first_kept a b c d e f j k l m n o found behind is = grind (arith, common_steps, nat_tests)

-- If no condition is true, the result is `behind`.
pub first_behind : (a b c d e f : Bool) (j k l m n o : FileRole) (behind : Option FileRole)
    → first_role a b c d e f j k l m n o None ≡ None → first_role a b c d e f j k l m n o behind ≡ behind
first_behind a b c d e f j k l m n o behind is = grind (arith, common_steps, nat_tests)

-- The conditions of `repeated_stream`, in their order.
abbrev config_by_default : CommandLineFiles → Bool
config_by_default n = is_stream n role.Config && not (is_some n.inside)

abbrev config_and_inside : CommandLineFiles → Bool
config_and_inside n = is_stream n role.Config && is_stream n role.Inside

abbrev outside_too : CommandLineFiles → Bool
outside_too n = is_stream n role.Outside && (is_stream n role.Config || is_standard n role.Inside)

abbrev to_inside_too : CommandLineFiles → Bool
to_inside_too n = is_stream n role.ToInside && is_standard n role.ToOutside

abbrev report_too : CommandLineFiles → Bool
report_too n = is_stream n role.Report && (is_stream n role.ToInside || is_standard n role.ToOutside)

abbrev log_if : Bool → Option FileRole
log_if asked = if asked then Some role.Log else None

-- An option before the log whose standard stream another one already uses is the first.
pub again_kept : (o : OptionsWithLog) (found : FileRole) → repeated_stream (files_of o.files) ≡ Some found
    → repeated_stream (files_with_log o) ≡ Some found
again_kept o found is =
    let n = files_of o.files in
    first_kept false (config_by_default n) (config_and_inside n) (outside_too n) (to_inside_too n) (report_too n)
    role.Log role.Config role.Inside role.Outside role.ToInside role.Report found
    (log_if (is_log_again (files_with_log o))) is

-- If there is no such option, the log is the first if its stream is already in use.
pub again_behind : (o : OptionsWithLog) → repeated_stream (files_of o.files) ≡ None
    → is_log_again (files_with_log o) ≡ true → repeated_stream (files_with_log o) ≡ Some role.Log
again_behind o none wants = grind (arith, common_steps, nat_tests, first_behind)

-- A closed stream that an option before the log needs is the first.
pub closed_kept : (s : StandardStreams) (o : OptionsWithLog) (found : FileRole) →
    closed_stream s (files_of o.files) ≡ Some found
    → closed_stream s (files_with_log o) ≡ Some found
closed_kept s o found is = grind (arith, common_steps, nat_tests, first_kept)

-- A log is open if it is named.
pub log_is_there : {A B : Type 0} (opened : Option A) (is : A → Bool) (named : Option B) (text : B → List ℕ)
    (dash : List ℕ → Bool) → option_map is opened ≡ option_map dash (option_map text named)
    → is_some opened ≡ is_some named
log_is_there opened is named text dash same = grind (arith, common_steps, nat_tests)
