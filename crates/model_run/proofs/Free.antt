-- Where nothing has a cause, the work stops nowhere.
use Rattle.std.proofs.Common.{◌≡◌, inl, inr, ℕ, List, [], ◌∷◌, ◌++◌, Contains, refl, sym, ap, ◌∙◌, subst, append_assoc, arith}
use Rattle.std.proofs.lemmas.List.Elements.{Contains-append_right}
use Rattle.model_grammar.specs.Syntax.{Item}
use Rattle.model_names.specs.Kinds.{Kind, language, transformation, a_tree}
use Rattle.model_run.specs.Texts.{PlacedTree}
use Rattle.model_run.specs.Scripts.{Comes, begun, more}
use Rattle.model_run.specs.Report.{Work, Given, items_script, trees_script, IsFree}
use Rattle.model_run.specs.Laws.{HaveNoCause, GivenHaveNoCause, AreFreeWhereNoCause}

-- what is left stands at the end of what there was
abbrev IsEndOf : {A : Type 0} → List A → List A → Type 0
IsEndOf {A} left all = (before : List A) × (all ≡ before ++ left)

one_less : {A : Type 0} (x : A) (left rest all : List A) → left ≡ x ∷ rest → IsEndOf left all → IsEndOf rest all
one_less x left rest all e (before, is) = (before ++ x ∷ [], (is ∙ ap (λ l. before ++ l) e) ∙ sym (append_assoc before (x ∷ []) rest))

is_there : {A : Type 0} (x : A) (left rest all : List A) → left ≡ x ∷ rest → IsEndOf left all → Contains all x
is_there x left rest all e (before, is) =
    subst (λ l. Contains l x) (sym (is ∙ ap (λ l. before ++ l) e)) (Contains-append_right before (x ∷ rest) x (0, omega arith, refl))

items_left : (items : List Item) (limit : ℕ) (name : List ℕ) (work : Work) (written : List ℕ) → Comes (items_script items limit name) work written → IsEndOf work.left items
items_left items limit name work written begun = ([], refl)
items_left items limit name work written (more before after earlier bytes come next) = one_less next.item before.left after.left items next.left (items_left items limit name before earlier come)

trees_left : (items : List Item) (name text trees : List ℕ) (kind : Kind) (placed : List PlacedTree) (given : Given) (written : List ℕ) → Comes (trees_script items name text trees kind placed) given written → IsEndOf given.left placed
trees_left items name text trees kind placed given written begun = ([], refl)
trees_left items name text trees kind placed given written (more before after earlier bytes come next) = one_less next.tree before.left after.left placed next.left (trees_left items name text trees kind placed before earlier come)

items_free : (items : List Item) (limit : ℕ) (name : List ℕ) → HaveNoCause items limit → IsFree (items_script items limit name)
items_free items limit name none work before last come stops =
    none stops.item (is_there stops.item work.left stops.later items stops.left (items_left items limit name work before come)) _ stops.stop stops.cause

trees_free : (items : List Item) (name text trees : List ℕ) (kind : Kind) (placed : List PlacedTree) → GivenHaveNoCause items text placed → IsFree (trees_script items name text trees kind placed)
trees_free items name text trees language placed none given before last come (start, stops) = none.needed stops.item stops.needed stops.stop stops.cause
trees_free items name text trees a_tree placed none given before last come (start, stops) = none.needed stops.item stops.needed stops.stop stops.cause
trees_free items name text trees transformation placed none given before last come (inl (start, stops)) = none.needed stops.item stops.needed stops.stop stops.cause
trees_free items name text trees transformation placed none given before last come (inr stops) =
    none.given stops.tree (is_there stops.tree given.left stops.later placed stops.left (trees_left items name text trees transformation placed given before come)) stops.stop stops.cause

pub are_free : AreFreeWhereNoCause
are_free = record { items = items_free; trees = trees_free }
