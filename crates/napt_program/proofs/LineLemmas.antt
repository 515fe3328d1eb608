-- The meaning of a command line follows from the answer of clap.
use Rattle.std.{proofs.lemmas.{Grind.common_steps, Bool.Decides.nat_tests}, specs.Prelude.{◌≢◌, ℕ, IfOk, Option, Some, None, Result, codes}}
use Rattle.std.proofs.Common.{◌≡◌, ◌≤◌, Bool, true, false, List, [], ◌∷◌, length, refl, sym, ap, inl, inr, arith}
use Rattle.clap.specs.Words.{App, HasKind, HasMatchesOf, IsAmong, Kinds, Row, Text, fault_of, first_value, found_of, is_simple, is_simple_and_free, kind_of, rows_of}
use Rattle.clap.{proofs.WalkLemmas.first_value-rows, specs.declared.{error.{kind.ErrorKind.ErrorKind, Error.Error}, parser.matches.ArgMatches.ArgMatches}}
use Rattle.clap.specs.declared.error.kind.ErrorKind.TheVariants as kind
use Rattle.napt_program.specs.CommandLine.{CommandLineFiles, app_for, files, files_in, files_of, help, is_misused, line_by, line_for, log_in, mistake, seconds_in, seconds_of, version}
use Rattle.napt_program.{specs.declared.options.RunOptions.RunOptions, proofs.OneKind.one_fault}

line_is_simple : (takes_log : Bool) → is_simple (app_for takes_log) ≡ true
line_is_simple takes_log = grind (arith, common_steps, nat_tests)

line_is_free : (takes_log : Bool) → is_simple_and_free (app_for takes_log) ≡ true
line_is_free takes_log = grind (arith, common_steps, nat_tests)

one_line_fault : (takes_log : Bool) (words : List Text) → length (fault_of (app_for takes_log) words) ≤ 1
one_line_fault takes_log words = grind (arith, common_steps, nat_tests, one_fault)

-- A line in which clap finds no fault means its files, if they are not misused.
pub taken_line : (takes_log : Bool) (app : App) (words : List Text) (m : ArgMatches) → app ≡ app_for takes_log
    → HasMatchesOf app words m → (is_simple_and_free app ≡ true → fault_of app words ≡ [])
    → line_for takes_log words ≡ line_by [] (files_in takes_log (rows_of (found_of m)))
unfolding line_for
taken_line takes_log app words m is matches none = grind (arith, common_steps, nat_tests, line_is_free, line_is_simple)

-- A line whose files are misused is a mistake.
pub misused_line : (named : CommandLineFiles) → is_misused named ≡ true → line_by [] named ≡ mistake
misused_line named misused = rw misused refl

pub used_line : (named : CommandLineFiles) → is_misused named ≡ false → line_by [] named ≡ files named
used_line named used = rw used refl

-- A list of at most one kind that has this kind is this kind alone.
only_kind : (k : ErrorKind) (kinds : Kinds) → length kinds ≤ 1 → IsAmong k kinds → kinds ≡ k ∷ []
only_kind k [] h among = absurd among
only_kind k (x ∷ []) h (inl e) = ap (λ y. y ∷ []) (sym e)
only_kind k (x ∷ []) h (inr among) = absurd among
only_kind k (x ∷ y ∷ more) h among = absurd (omega arith)

fault_is : (takes_log : Bool) (app : App) (words : List Text) (e : Error) → app ≡ app_for takes_log
    → (is_simple_and_free app ≡ true → HasKind (fault_of app words) e) → kind_of e ≢ kind.OutOfMemory
    → fault_of (app_for takes_log) words ≡ kind_of e ∷ []
fault_is takes_log app words e is fails memory =
    grind (arith, common_steps, nat_tests, line_is_free, only_kind, one_line_fault)

-- A line at which clap shows its help requests the help.
pub help_line : (takes_log : Bool) (app : App) (words : List Text) (e : Error) → app ≡ app_for takes_log
    → (is_simple_and_free app ≡ true → HasKind (fault_of app words) e) → kind_of e ≡ kind.DisplayHelp
    → line_for takes_log words ≡ help
unfolding line_for
help_line takes_log app words e is fails shown =
    let only = fault_is takes_log app words e is fails (λ m. cc) in
    rw (only, shown) refl

-- A line at which clap shows its version requests the version.
pub version_line : (takes_log : Bool) (app : App) (words : List Text) (e : Error) → app ≡ app_for takes_log
    → (is_simple_and_free app ≡ true → HasKind (fault_of app words) e) → kind_of e ≡ kind.DisplayVersion
    → line_for takes_log words ≡ version
unfolding line_for
version_line takes_log app words e is fails shown =
    let only = fault_is takes_log app words e is fails (λ m. cc) in
    rw (only, shown) refl

mistake_by : (k : ErrorKind) (named : CommandLineFiles) → k ≢ kind.DisplayHelp → k ≢ kind.DisplayVersion
    → line_by (k ∷ []) named ≡ mistake
mistake_by k named h v = grind (arith, common_steps, nat_tests)

-- A line that clap refuses for another cause than memory is a mistake.
pub mistaken_line : (takes_log : Bool) (app : App) (words : List Text) (e : Error) → app ≡ app_for takes_log
    → (is_simple_and_free app ≡ true → HasKind (fault_of app words) e) → kind_of e ≢ kind.DisplayHelp
    → kind_of e ≢ kind.DisplayVersion → kind_of e ≢ kind.OutOfMemory → line_for takes_log words ≡ mistake
unfolding line_for
mistaken_line takes_log app words e is fails no_help no_version memory =
    rw (fault_is takes_log app words e is fails memory) (mistake_by (kind_of e) _ no_help no_version)

-- The files of the matches, as `get_str` reads them.
pub files_read : (m : ArgMatches) (config resume inside outside to_outside to_inside report save : Option Text)
    → config ≡ first_value (found_of m) (codes "config") → resume ≡ first_value (found_of m) (codes "resume")
    → inside ≡ first_value (found_of m) (codes "inside")
    → outside ≡ first_value (found_of m) (codes "outside") → to_outside ≡ first_value (found_of m) (codes "to-outside")
    → to_inside ≡ first_value (found_of m) (codes "to-inside") → report ≡ first_value (found_of m) (codes "report")
    → save ≡ first_value (found_of m) (codes "save")
    → files_in false (rows_of (found_of m))
    ≡ record {
      config = config;
      resume = resume;
      inside = inside;
      outside = outside;
      to_outside = to_outside;
      to_inside = to_inside;
      report = report;
      save = save;
      log = None;
      log_each = None;
    }
files_read m config resume inside outside to_outside to_inside report save a b c d e f g h =
    grind (arith, common_steps, nat_tests, first_value-rows)

abbrev pub with_log : RunOptions → Option Text → Option ℕ → CommandLineFiles
with_log o log seconds = record (files_of o) { log = log; log_each = seconds }

-- With the log and the seconds of its pieces, they are the files of the line.
pub log_read : (takes_log : Bool) (rows : List Row) (o : RunOptions) (log : Option Text) (seconds : Option ℕ)
    → files_of o ≡ files_in false rows → log ≡ log_in takes_log rows → seconds ≡ seconds_in takes_log rows
    → files_in takes_log rows ≡ with_log o log seconds
log_read takes_log rows o log seconds read is each = grind (arith, common_steps, nat_tests)

-- Seconds that are not misused are not 0.
pub some_second : (named : CommandLineFiles) → is_misused named ≡ false → named.log_each ≢ Some 0
some_second named used = grind (arith, common_steps, nat_tests)

-- If the program has the log's option, the value of the log is that of this option.
pub log_named : (takes_log : Bool) (m : ArgMatches) → takes_log ≡ true
    → first_value (found_of m) (codes "log") ≡ log_in takes_log (rows_of (found_of m))
log_named takes_log m takes = grind (arith, common_steps, nat_tests, first_value-rows)

-- The seconds are those of their option.
pub seconds_named : (takes_log : Bool) (m : ArgMatches) (text : Text) → takes_log ≡ true
    → first_value (found_of m) (codes "log-each") ≡ Some text
    → Some (seconds_of text) ≡ seconds_in takes_log (rows_of (found_of m))
seconds_named takes_log m text takes is = grind (arith, common_steps, nat_tests, first_value-rows)

pub no_seconds_named : (takes_log : Bool) (m : ArgMatches) → first_value (found_of m) (codes "log-each") ≡ None
    → None ≡ seconds_in takes_log (rows_of (found_of m))
no_seconds_named takes_log m none = grind (arith, common_steps, nat_tests, first_value-rows)

-- A value that equals another text equals any text that is the same.
pub if_ok_is : {V E : Type 0} (r : Result V E) (text : V → Option Text) (a b : Option Text) → a ≡ b
    → IfOk r (λ v. text v ≡ a) → IfOk r (λ v. text v ≡ b)
if_ok_is r text a b same is = grind (arith, common_steps, nat_tests)
