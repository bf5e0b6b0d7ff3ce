-- Trees that have a type.
use Rattle.std.proofs.Common.{◌≡◌, ℕ, List, Option, Some, None, arith}
use Rattle.std.specs.Option.{option_map, option_map_or}
use Rattle.model_tree.specs.Tree.{node, LabelTree}
use Rattle.model_tree.specs.Signature.{HasType}
use Rattle.model_program.specs.Syntax.{TypeItem}
use Rattle.model_grammar.specs.Syntax.{Item}
use Rattle.model_names.specs.Declared.{find_type}
use Rattle.model_meaning.specs.Types.{signature_of, no_signature}
use Rattle.model_meaning.specs.Meaning.{signature_named}

-- a type of which a tree is has a signature
pub typed_signature : (items : List Item) (of : List ℕ) (t : LabelTree) → HasType (signature_named items (Some of)) t → option_map signature_of (find_type items of) ≡ None → ⊥
typed_signature items of t has none = by (find_type items of) t has none
  where
    by : (o : Option TypeItem) (u : LabelTree) → HasType (option_map_or signature_of o no_signature) u → option_map signature_of o ≡ None → ⊥
    by None (node c l ts) typed e = absurd (omega (arith, typed.0))
    by (Some type) u typed e = absurd (cc)
