-- Why the compositions of an item can't be made, and what that shows of the item.
use Rattle.std.specs.Prelude.{◌≡◌, ℕ, true, List, Some}
use Rattle.model_tree.specs.Tree.{LabelTree, relabel}
use Rattle.model_tree.specs.Scalars.{has_scalars}
use Rattle.model_tree.specs.Signature.{HasType}
use Rattle.model_grammar.specs.Syntax.{Body, Item}
use Rattle.model_meaning.specs.Meaning.{signature_named}
use Rattle.model_meaning.specs.Values.{Printed}
use Rattle.model_run.specs.Causes.{HasCause, more_classes, too_wide, not_composable, too_large}
use Rattle.model_run.specs.Causes as causes
use Rattle.fast_tree.specs.Entries.{label_meaning}
use Rattle.lin_solve.specs.Shown.{bits_of}
use Rattle.fast_compose.specs.declared.stops.Uncomposable.{Uncomposable}
use Rattle.fast_compose.specs.declared.stops.ComposeStop.{ComposeStop}
use Rattle.fast_compose.specs.declared.stops.ComposeStop.TheVariants.{Classes, Wide, NotComposable, TooLarge, Memory}

-- the tree at which two rules meet
abbrev pub meeting_of : Uncomposable → LabelTree
meeting_of u = relabel label_meaning u.meeting.tree

-- what is shown, with the type of the tree
abbrev pub plain_uncomposable : List Item → Uncomposable → causes.Uncomposable
plain_uncomposable items u = record {
  signature = signature_named items (Some u.meeting.of);
  tree = meeting_of u;
  name = u.meeting.name;
  first = u.meeting.first;
  second = u.meeting.second;
  copier = u.copying.name;
  copying = u.copying.rule;
}

-- the item has the cause, whatever trees were printed before it; the texts of a tree that is shown are of Unicode scalars where
-- printing it shows that
abbrev pub IsComposeCause : List Item → ℕ → Body → ComposeStop → Type 0
IsComposeCause items limit body Classes = (trees : List Printed) → HasCause items limit trees body (more_classes limit)
IsComposeCause items limit body (Wide c) = (trees : List Printed) → HasCause items limit trees body (too_wide (bits_of c.width))
IsComposeCause items limit body (NotComposable u) =
    ((trees : List Printed) → has_scalars (meeting_of u) ≡ true → HasCause items limit trees body (not_composable (plain_uncomposable items u)))
    × HasType (signature_named items (Some u.meeting.of)) (meeting_of u)
IsComposeCause items limit body TooLarge = (trees : List Printed) → HasCause items limit trees body too_large
IsComposeCause items limit body Memory = Unit {0}
