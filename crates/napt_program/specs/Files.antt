-- The result of opening the files of a run.
use Rattle.std.specs.Prelude.{◌≡◌, ◌⊎◌, ◌||◌, Bool, true, false, not, IfSome, option_map}
use Rattle.either.specs.{Either.{either, is_left}, declared.Either.Either}
use Rattle.napt_program.specs.{CommandLine.CommandLineFiles, Standard.{has_pieces, is_dash, names_file, is_standard, is_stream}, declared.files.InputFiles.InputFiles}
use Rattle.napt_program.specs.declared.{files.{FilesWithLog.FilesWithLog, RunFiles.RunFiles}, stop.{Stop.Stop, TheConstants.MEMORY}}
use Rattle.napt_program.specs.declared.role.FileRole.TheVariants as role
use Rattle.napt_program.specs.declared.stop.Stop.TheVariants as stop

-- Exactly the named files are open, with a standard stream for `-` and in place of a capture that is not named.
abbrev pub AreNamedFilesOpen : {S T F : Type 0} → CommandLineFiles → RunFiles S T F → Type 0
AreNamedFilesOpen named files = (is_left files.inside ≡ is_standard named role.Inside)
    × (option_map is_left files.outside ≡ option_map is_dash named.outside)
    × (is_left files.to_outside ≡ is_standard named role.ToOutside)
    × (option_map is_left files.to_inside ≡ option_map is_dash named.to_inside)
    × (option_map is_left files.report ≡ option_map is_dash named.report)

-- The device of a log is a standard stream, not a file or pieces.
abbrev pub is_stream_log : {T F P : Type 0} → Either (Either T F) P → Bool
is_stream_log device = either is_left (λ pieces. false) device

-- Exactly the named files are open, with the log, which is in pieces if they are requested.
abbrev pub AreOpenWithLog : {S T F P : Type 0} → CommandLineFiles → FilesWithLog S T F P → Type 0
AreOpenWithLog named opened =
    AreNamedFilesOpen named opened.files
    × (option_map (λ log. is_stream_log log.device) opened.log ≡ option_map is_dash named.log)
    × IfSome opened.log (λ log. is_left log.device ≡ not (has_pieces named))

-- Exactly the named captures are open, and standard input for `-` and in place of an inside capture that is not named.
abbrev pub AreInputsOpen : {S F : Type 0} → CommandLineFiles → InputFiles S F → Type 0
AreInputsOpen named files = (is_left files.inside ≡ is_standard named role.Inside)
    × (option_map is_left files.outside ≡ option_map is_dash named.outside)

-- The stop is a fault of a file that is named.
abbrev pub IsFileStop : CommandLineFiles → Stop → Type 0
IsFileStop named (stop.File role) = names_file named role ≡ true
IsFileStop named (stop.LogFile why) = names_file named role.Log ≡ true
IsFileStop named other = ⊥

-- The stop is a fault of a named file, or memory was refused to the reader of standard input for a capture, to the path
-- of a state's new file, or to the end of a log.
abbrev pub IsOpenStop : CommandLineFiles → Stop → Type 0
IsOpenStop named s = ((s ≡ MEMORY)
    × ((is_standard named role.Inside || is_stream named role.Outside || names_file named role.Save
    || names_file named role.Log) ≡ true))
    ⊎ IsFileStop named s
