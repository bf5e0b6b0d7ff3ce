-- Trees that are read node by node.
use Rattle.std.specs.Prelude.{List, ◌∷◌, [], ◌++◌, map, Result, Ok, Err}
use Rattle.model_program.specs.Lexeme.{Lexeme}
use Rattle.read_forms.specs.Reads.{Fails, closed}
use Rattle.read_forms.specs.Fronts.{Leaves, Made}
use Rattle.model_grammar.specs.TreeFiles as plain
use Rattle.model_grammar.specs.TreeFiles.{node, trees_of, IsTree}
use Rattle.fast_syntax.specs.View.{plain_name}
use Rattle.label_reader.specs.declared.stop.Stop.{Stop}
use Rattle.label_reader.specs.Results.{bad_of}
use Rattle.tree_reader.specs.Plain.{plain_constant, plain_tree}
use Rattle.tree_reader.specs.Trees.{AreTreesToClose}
use Rattle.tree_reader.specs.declared.trees.OpenTree.{OpenTree}

-- the tree with these children
abbrev pub node_of : OpenTree → List plain.FileTree → plain.FileTree
node_of begun trees = node begun.place (plain_name begun.name) (map plain_constant begun.labels.items) (trees_of trees)

-- further children and the closing parenthesis
abbrev pub IsRow : OpenTree → List plain.FileTree → plain.FileTree → List Lexeme → Type 0
IsRow begun trees = Made (λ more. node_of begun (trees ++ more)) AreTreesToClose

-- what is left of an open tree
abbrev pub IsOpen : OpenTree → plain.FileTree → List Lexeme → Type 0
IsOpen begun = IsRow begun (map plain_tree begun.children.items)

-- what is left of it behind its next child
abbrev pub IsGrown : OpenTree → plain.FileTree → plain.FileTree → List Lexeme → Type 0
IsGrown begun tree = IsRow begun (map plain_tree begun.children.items ++ tree ∷ [])

-- what a reader of the front of a tree did with these tokens, of which it left the rest
abbrev pub Opens : List Lexeme → List Lexeme → Result OpenTree Stop → Type 0
Opens tokens rest (Ok begun) = Leaves IsTree (IsOpen begun) closed tokens rest
Opens tokens rest (Err e) = Fails IsTree closed tokens (bad_of e rest)
