-- Of what trees are made, node by node.
use Rattle.std.proofs.Common.{◌≡◌, List, [], ◌∷◌, ◌++◌, ◌∙◌, length, reverse, map, refl, ap, sym, subst, arith, Option, Result}
use Rattle.std.proofs.lemmas.List.{reverse-append}
use Rattle.std.specs.Prelude.{IsErrAnd}
use Rattle.std.proofs.lemmas.Result.{err_from_is_err_and}
use Rattle.label_reader.specs.declared.stop.Stop.{Stop}
use Rattle.label_reader.specs.Results.{bad_of}
use Rattle.model_program.specs.declared.Word.TheVariants.{RoundOpen, RoundClose}
use Rattle.model_program.specs.Lexeme.{Lexeme}
use Rattle.model_program.specs.Syntax as syntax
use Rattle.model_program.specs.Joined.{◌⊗◌, IsNext, IsOther}
use Rattle.model_program.specs.Grammar.{IsWord, IsSign, IsName}
use Rattle.read_forms.specs.Reads.{IsRead, Fails, closed}
use Rattle.read_forms.specs.Fronts.{Leaves, Done, Made, Through}
use Rattle.read_forms.specs.Parts.{HasSample}
use Rattle.read_forms.proofs.Forms.{ends_closed}
use Rattle.read_forms.proofs.Fronts.{left_leaves, left_made, first_left, inside_left, before_none, whole_left, Around, around_begins, around_begins_fails, around_resumes, around_ends}
use Rattle.model_grammar.specs.Syntax.{Expr}
use Rattle.model_grammar.specs.TreeFiles.{FileTree, node, trees_of, IsTree, AreConstants}
use Rattle.label_reader.proofs.Closings.{row_ends, row_goes_on}
use Rattle.fast_syntax.specs.View.{plain_name}
use Rattle.tree_reader.specs.Plain.{plain_constant, plain_tree}
use Rattle.tree_reader.specs.Trees.{AreTreesToClose}
use Rattle.tree_reader.specs.Growing.{node_of, IsRow, IsOpen, IsGrown, Opens}
use Rattle.tree_reader.specs.declared.trees.OpenTree.{OpenTree}
use Rattle.tree_reader.specs.declared.FileTree as code
use Rattle.tree_reader.proofs.TreeForms.{tree_makes, trees_closable, sample_children}

-- the parenthesis, the name and the labels of a tree
pub tree_opens : {tokens behind_open behind_name rest : List Lexeme} {t : Lexeme} {n : syntax.Name} {labels : List Expr} → IsRead (IsWord RoundOpen) closed tokens t behind_open → IsRead IsName closed behind_open n behind_name → IsRead AreConstants closed behind_name labels rest
    → Leaves IsTree (Made (λ trees. node t.place n labels (trees_of trees)) AreTreesToClose) closed tokens rest
tree_opens {tokens} opened named labelled = left_leaves (left_made (tree_makes tokens)) (left_leaves (first_left (ends_closed (IsName ⊗ (AreConstants ⊗ AreTreesToClose)) closed) opened) (left_leaves (first_left (ends_closed (AreConstants ⊗ AreTreesToClose) closed) named) (first_left (ends_closed AreTreesToClose closed) labelled)))

-- with no children so far
pub opened_is : {tokens rest : List Lexeme} (begun : OpenTree) → begun.children.items ≡ [] → Leaves IsTree (Made (λ trees. node begun.place (plain_name begun.name) (map plain_constant begun.labels.items) (trees_of trees)) AreTreesToClose) closed tokens rest → Leaves IsTree (IsOpen begun) closed tokens rest
opened_is {tokens} {rest} begun none leaves = subst (λ (l : List code.FileTree). Leaves IsTree (IsRow begun (map plain_tree l)) closed tokens rest) (sym none) leaves

-- the closing parenthesis
pub row_closes : (begun : OpenTree) (trees : List FileTree) {tokens rest : List Lexeme} → IsNext RoundClose tokens → IsRead (IsSign RoundClose) closed tokens tt rest → Leaves (IsRow begun trees) (Done (node_of begun trees)) closed tokens rest
row_closes begun trees is_next end = row_ends IsTree RoundClose (λ l. node_of begun l) trees trees_closable is_next end

-- one more child
pub row_further : (begun : OpenTree) (trees : List FileTree) {tokens : List Lexeme} → IsOther RoundClose tokens → Leaves (IsRow begun trees) (Through IsTree (λ x. IsRow begun (trees ++ x ∷ []))) closed tokens tokens
row_further begun trees is_other = row_goes_on IsTree RoundClose (λ l. node_of begun l) trees is_other

-- what is left of each tree can be spelled
pub sample_grown : (begun : OpenTree) (x : FileTree) → HasSample (IsGrown begun x)
sample_grown begun x = let s = sample_children in record { value = _; tokens = s.tokens; spelled = record { of = s.value; spelled = s.spelled; is = refl } }

-- what a reader returned at the exit of a `?`
pub opens_exit : (tokens rest : List Lexeme) (e : Stop) (r : Result OpenTree Stop) → IsErrAnd r (λ y. y ≡ e) → Fails IsTree closed tokens (bad_of e rest) → Opens tokens rest r
opens_exit tokens rest e r is fails = let p = err_from_is_err_and r is in rw (p.1, p.2) fails

-- The open trees, as they stand in the list, the innermost last.

turned : (old new : List OpenTree) (inner : OpenTree) → new ≡ old ++ inner ∷ [] → reverse new ≡ inner ∷ reverse old
turned old new inner is_new = ap reverse is_new ∙ reverse-append old (inner ∷ [])

-- none is open
pub trees_start : {form left : FileTree → List Lexeme → Type 0} {tokens rest : List Lexeme} (around : List OpenTree) → around ≡ [] → Leaves form left closed tokens rest → Leaves form (Through left (Around IsGrown (reverse around))) closed tokens rest
trees_start {form} {left} {tokens} {rest} around none leaves = subst (λ (l : List OpenTree). Leaves form (Through left (Around IsGrown (reverse l))) closed tokens rest) (sym none) (left_leaves leaves (before_none left))

child_next : {form : FileTree → List Lexeme → Type 0} {tokens rest : List Lexeme} (inner : OpenTree) (around : List OpenTree) → IsOther RoundClose rest → Leaves form (Through (IsOpen inner) (Around IsGrown around)) closed tokens rest → Leaves form (Through (Through IsTree (IsGrown inner)) (Around IsGrown around)) closed tokens rest
child_next inner around is_other so_far = left_leaves so_far (inside_left (Around IsGrown around) (row_further inner (map plain_tree inner.children.items) is_other))

-- a child is opened
pub trees_deeper : {form less : FileTree → List Lexeme → Type 0} {tokens rest behind : List Lexeme} (inner : OpenTree) (old new : List OpenTree) → new ≡ old ++ inner ∷ [] → IsOther RoundClose rest → Leaves form (Through (IsOpen inner) (Around IsGrown (reverse old))) closed tokens rest → Leaves IsTree less closed rest behind
    → Leaves form (Through less (Around IsGrown (reverse new))) closed tokens behind
trees_deeper {form} {less} {tokens} {behind = behind} inner old new is_new is_other so_far front = subst (λ (l : List OpenTree). Leaves form (Through less (Around IsGrown l)) closed tokens behind) (sym (turned old new inner is_new)) (around_begins IsGrown inner (reverse old) (child_next inner (reverse old) is_other so_far) front)

pub trees_deeper_fails : {form : FileTree → List Lexeme → Type 0} {tokens rest : List Lexeme} (bad : Option (List Lexeme)) (inner : OpenTree) (old : List OpenTree) → IsOther RoundClose rest → Leaves form (Through (IsOpen inner) (Around IsGrown (reverse old))) closed tokens rest → Fails IsTree closed rest bad → Fails form closed tokens bad
trees_deeper_fails bad inner old is_other so_far fails = around_begins_fails IsGrown bad sample_grown inner (reverse old) (child_next inner (reverse old) is_other so_far) fails

closed_by : {form : FileTree → List Lexeme → Type 0} {tokens rest behind : List Lexeme} (inner : OpenTree) (tree : code.FileTree) (around : List OpenTree) → plain_tree tree ≡ node_of inner (map plain_tree inner.children.items) → IsNext RoundClose rest → IsRead (IsSign RoundClose) closed rest tt behind → Leaves form (Through (IsOpen inner) (Around IsGrown around)) closed tokens rest
    → Leaves form (Through (Done (plain_tree tree)) (Around IsGrown around)) closed tokens behind
closed_by {form} {tokens} {behind = behind} inner tree around is_tree is_next end so_far = subst (λ (x : FileTree). Leaves form (Through (Done x) (Around IsGrown around)) closed tokens behind) (sym is_tree) (left_leaves so_far (inside_left (Around IsGrown around) (row_closes inner (map plain_tree inner.children.items) is_next end)))

-- a child is closed, and put into the tree around it
pub trees_higher : {form : FileTree → List Lexeme → Type 0} {tokens rest behind : List Lexeme} (inner outer : OpenTree) (tree : code.FileTree) (old new : List OpenTree) (children : List FileTree) → old ≡ new ++ outer ∷ [] → plain_tree tree ≡ node_of inner (map plain_tree inner.children.items) → children ≡ map plain_tree outer.children.items ++ plain_tree tree ∷ []
    → IsNext RoundClose rest → IsRead (IsSign RoundClose) closed rest tt behind → Leaves form (Through (IsOpen inner) (Around IsGrown (reverse old))) closed tokens rest → Leaves form (Through (IsRow outer children) (Around IsGrown (reverse new))) closed tokens behind
trees_higher {form} {tokens} {rest} {behind} inner outer tree old new children is_old is_tree are is_next end so_far = subst (λ (l : List FileTree). Leaves form (Through (IsRow outer l) (Around IsGrown (reverse new))) closed tokens behind) (sym are)
    (around_resumes IsGrown (plain_tree tree) outer (reverse new) (closed_by inner tree (outer ∷ reverse new) is_tree is_next end (subst (λ (l : List OpenTree). Leaves form (Through (IsOpen inner) (Around IsGrown l)) closed tokens rest) (turned new old outer is_old) so_far)) (whole_left (IsGrown outer (plain_tree tree))))

-- the outermost is closed
pub trees_end : {form : FileTree → List Lexeme → Type 0} {tokens rest behind : List Lexeme} (inner : OpenTree) (tree : code.FileTree) (old : List OpenTree) → length old ≡ 0 → plain_tree tree ≡ node_of inner (map plain_tree inner.children.items) → IsNext RoundClose rest → IsRead (IsSign RoundClose) closed rest tt behind → Leaves form (Through (IsOpen inner) (Around IsGrown (reverse old))) closed tokens rest
    → IsRead form closed tokens (plain_tree tree) behind
trees_end {form} {tokens} {rest} inner tree old none is_tree is_next end so_far = around_ends IsGrown (plain_tree tree) (closed_by inner tree [] is_tree is_next end (subst (λ (l : List OpenTree). Leaves form (Through (IsOpen inner) (Around IsGrown (reverse l))) closed tokens rest) (empty old none) so_far))
  where
    empty : (l : List OpenTree) → length l ≡ 0 → l ≡ []
    empty [] e = refl
    empty (f ∷ fs) e = absurd (omega arith)
