-- A link that moves to a name in a directory, whether the name is free or is that of a node that goes.
use Rattle.std.specs.Prelude.{◌≡◌, ℕ, true, false, Some, List}
use Rattle.wu_tree.specs.FileSystems.{FileSystem, child_of, is_directory, is_name, is_within}
use Rattle.wu_tree.specs.Steps.{is_too_deep}

-- what is asked of it
pub record IsMove (fs : FileSystem) (parent : ℕ) (name : List ℕ) (new_parent : ℕ) (new_name : List ℕ) (child : ℕ) : Type 0 where
  pub found : child_of fs parent name ≡ Some child
  pub directory : is_directory fs new_parent ≡ true
  pub named : is_name new_name ≡ true
  pub outside : is_directory fs child ≡ true → is_within fs.links child new_parent ≡ false
  pub shallow : is_directory fs child ≡ true → is_too_deep fs child new_parent ≡ false
