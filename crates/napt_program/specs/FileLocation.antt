-- The locations of files, and whether two of them are of one file.
use Rattle.std.specs.{Prelude.{◌≡◌, ◌==◌, ◌&&◌, ℕ, Bool, false, List, Option, Some, bytes_eq, codes, if◌then◌else◌, length, option_map}, Fs.IsFile}
use Rattle.std.specs.{Path.{path_file_name, path_parent}, declared.fs.attrs.FileType.FileType}
use Rattle.napt_program.specs.declared.file_location.{FileId.FileId, FileLocation.{FileLocation, TheVariants.{Existing, New, PathOnly, Special}}}

abbrev pub is_same_node : FileId → FileId → Bool
is_same_node a b = a.device == b.device && a.number == b.number

-- Both are one file: the same identity; if it does not exist, the same name in the same folder; else the same path.
abbrev pub is_same : FileLocation → FileLocation → Bool
is_same (Existing a) (Existing b) = is_same_node a b
is_same (New a a_name) (New b b_name) = is_same_node a b && bytes_eq a_name.now b_name.now
is_same (PathOnly a) (PathOnly b) = bytes_eq a.now b.now
is_same _ _ = false

-- The words in the location of a path are that path, or the name at its end.
abbrev pub IsOfPath : List ℕ → FileLocation → Type 0
IsOfPath path (Existing node) = Unit {0}
IsOfPath path (New folder name) = path_file_name path ≡ Some name.now
IsOfPath path (PathOnly words) = words.now ≡ path
IsOfPath path Special = Unit {0}

-- A regular file that exists has a location of its own, and the location of any other kind is `Special`.
abbrev pub IsOfKind : FileType → FileLocation → Type 0
IsOfKind kind (Existing node) = IsFile kind
IsOfKind kind (New folder name) = ⊥
IsOfKind kind (PathOnly words) = Unit {0}
IsOfKind kind Special = ¬ IsFile kind

-- Returns the folder of a path, "." if the path is only a name.
abbrev pub folder_of : List ℕ → Option (List ℕ)
folder_of path = option_map (λ folder. if length folder == 0 then codes "." else folder) (path_parent path)
