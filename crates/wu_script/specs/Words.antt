-- The first field of a command's line.
use Rattle.std.specs.Prelude.{ℕ, Bool, List, codes, nat_eq, if◌then◌else◌}
use Rattle.std.specs.Cmp.Lexicographic.{pointwise}
use Rattle.wu_script.specs.declared.words.Word.{Word}
use Rattle.wu_script.specs.declared.words.Word.TheVariants.{User, Mkdir, Create, Text, Link, Unlink, Rmdir, Rename, Chmod, Chown, Acl}
use Rattle.wu_script.specs.declared.words.Word.TheVariants.{Count, Find, Rank, Paths, Terms, Top, Export, Weighed, Flush, Work, Stat, Save, Unknown}

abbrev pub is : List ℕ → List ℕ → Bool
is field word = pointwise nat_eq field word

unfoldable pub word_of : List ℕ → Word
word_of field =
    if is field (codes "user") then User
    else if is field (codes "mkdir") then Mkdir
    else if is field (codes "create") then Create
    else if is field (codes "text") then Text
    else if is field (codes "link") then Link
    else if is field (codes "unlink") then Unlink
    else if is field (codes "rmdir") then Rmdir
    else if is field (codes "rename") then Rename
    else if is field (codes "chmod") then Chmod
    else if is field (codes "chown") then Chown
    else if is field (codes "acl") then Acl
    else if is field (codes "count") then Count
    else if is field (codes "find") then Find
    else if is field (codes "rank") then Rank
    else if is field (codes "paths") then Paths
    else if is field (codes "terms") then Terms
    else if is field (codes "top") then Top
    else if is field (codes "export") then Export
    else if is field (codes "weighed") then Weighed
    else if is field (codes "flush") then Flush
    else if is field (codes "work") then Work
    else if is field (codes "stat") then Stat
    else if is field (codes "save") then Save
    else Unknown
