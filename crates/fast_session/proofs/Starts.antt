-- What a session begins with.
use Rattle.std.proofs.Common.{◌≡◌, ℕ, List, [], Some, None, sym, ◌∙◌}
use Rattle.model_grammar.specs.Syntax.{Item}
use Rattle.model_meaning.proofs.Members.{none_of}
use Rattle.fast_eval.specs.Table.{AreBuilt}
use Rattle.tree_values.specs.Trees.{tree_at}
use Rattle.fast_session.specs.declared.items.Kept.{Kept}
use Rattle.fast_session.specs.Kept.{IsKept}

-- at the start nothing is kept
pub nothing_kept : (items : List Item) (k : Kept) → AreBuilt items k.built → ((name : List ℕ) → tree_at k.trees name ≡ None) → IsKept items [] k
nothing_kept items k built unprinted = record {
  built = built;
  typed = λ name t is. let no : None ≡ Some t = sym (unprinted name) ∙ is in absurd (cc);
  defined = λ item d at is. absurd (none_of item at);
  printed = λ item t at is. absurd (none_of item at);
}
