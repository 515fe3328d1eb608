-- The standard streams that a program needs.
use Rattle.std.specs.Prelude.{◌&&◌, not, Option, Some, None, if◌then◌else◌}
use Rattle.napt_program.specs.{CommandLine.CommandLineFiles, Standard.{is_standard, is_stream}, declared.{role.FileRole.FileRole, streams.StandardStreams.StandardStreams}}
use Rattle.napt_program.specs.declared.role.FileRole.TheVariants as role

-- Returns the role of the first output that needs standard output, if that is closed.
abbrev pub closed_output : StandardStreams → CommandLineFiles → Option FileRole
closed_output streams named =
    if not streams.output && is_standard named role.ToOutside then Some role.ToOutside
    else (if not streams.output && is_stream named role.ToInside then Some role.ToInside
    else (if not streams.output && is_stream named role.Report then Some role.Report
    else (if is_stream named role.Log && not streams.output then Some role.Log else None)))

-- Returns the role of the first standard stream that is closed but needed: its option is `-` or absent.
abbrev pub closed_stream : StandardStreams → CommandLineFiles → Option FileRole
closed_stream streams named =
    if not streams.input && is_stream named role.Config then Some role.Config
    else (if not streams.input && is_standard named role.Inside then Some role.Inside
    else (if not streams.input && is_stream named role.Outside then Some role.Outside
    else closed_output streams named))
