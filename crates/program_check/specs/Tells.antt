-- What a checked program tells of its names.
use Rattle.std.specs.Prelude.{ℕ, List, Option, Some, None}
use Rattle.std.specs.Option.{option_map}
use Rattle.model_grammar.specs.Syntax.{DefItem, Body, sorts, tree, lang, trans, def, assertion}
use Rattle.model_names.specs.Kinds.{Kind, language, transformation, a_tree, defined_kind}
use Rattle.program_check.specs.declared.checked.Kind3.{Kind3}
use Rattle.program_check.specs.declared.checked.Kind3.TheVariants.{Language, Transformation, Tree}

-- a kind, the name of the type, and the name of the type of the outputs
abbrev pub Told : Type 0
Told = Kind × (List ℕ × Option (List ℕ))

abbrev pub kind_view : Kind3 → Told
kind_view (Language t) = (language, (t.now, None))
kind_view (Transformation t u) = (transformation, (t.now, Some u.now))
kind_view (Tree t) = (a_tree, (t.now, None))

abbrev pub defined_as : DefItem → Told
defined_as d = (defined_kind d.into, (d.from.text, option_map (λ n. n.text) d.into))

-- what the name of an item stands for
abbrev pub stands_for : Body → Option Told
stands_for (sorts t) = None
stands_for (tree t) = Some (a_tree, (t.of.text, None))
stands_for (lang l) = Some (language, (l.of.text, None))
stands_for (trans t) = Some (transformation, (t.from.text, Some t.into.text))
stands_for (def d) = Some (defined_as d)
stands_for (assertion a) = None
