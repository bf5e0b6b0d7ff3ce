-- Of what trees are made.
use Rattle.std.proofs.Common.{◌≡◌, List, [], ◌∷◌, ◌++◌, refl, sym, ap, ◌∙◌, subst}
use Rattle.model_program.specs.declared.Word.TheVariants.{RoundOpen, RoundClose}
use Rattle.model_program.specs.Lexeme.{Lexeme}
use Rattle.model_program.specs.Syntax.{Name}
use Rattle.read_forms.specs.Reads.{Stops, IsRead, StartsIn, closed, anything}
use Rattle.model_program.specs.Grammar.{IsWord, IsName, Many}
use Rattle.model_program.specs.Joined.{◌⊗◌}
use Rattle.read_forms.specs.Parts.{HasSample, AllStartIn, other_than}
use Rattle.read_forms.proofs.Forms.{Makes, as_read, as_fails, ends_closed, remade, starts_wider, sample_pair}
use Rattle.read_forms.proofs.Lists.{IsPartWay, many_ends}
use Rattle.model_grammar.specs.Syntax.{Expr}
use Rattle.model_grammar.specs.TreeFiles.{FileTree, node, FileTrees, no_trees, and_tree, trees_of, AreConstants, IsTree, a_tree, AreTrees, no_more, one_more, IsTreeFile}
use Rattle.label_reader.proofs.Names.{sample_name}
use Rattle.label_reader.specs.Lists.{closing_of}
use Rattle.label_reader.proofs.Closings.{IsClosable, sample_to_close}
use Rattle.tree_reader.specs.Trees.{AreTreesToClose}
use Rattle.tree_reader.proofs.ConstantForms.{sample_constants}

are_trees : (trees : List FileTree) (ts : List Lexeme) → Many IsTree trees ts → AreTrees (trees_of trees) ts
are_trees [] ts none = subst (λ (l : List Lexeme). AreTrees no_trees l) (sym none) no_more
are_trees (x ∷ xs) ts joined = subst (λ (l : List Lexeme). AreTrees (and_tree x (trees_of xs)) l) (sym joined.split) (one_more x (trees_of xs) joined.front joined.back joined.at_front (are_trees xs joined.back joined.at_back))

-- trees as a list
record TreeList (trees : FileTrees) (ts : List Lexeme) : Type 0 where
  list : List FileTree
  is : trees ≡ trees_of list
  spelled : Many IsTree list ts

trees_are : (trees : FileTrees) (ts : List Lexeme) → AreTrees trees ts → TreeList trees ts
trees_are trees ts no_more = record { list = []; is = refl; spelled = refl }
trees_are trees ts (one_more x more front back is are) = let later = trees_are more back are in
    record { list = x ∷ later.list; is = ap (λ l. and_tree x l) later.is; spelled = record { front = front; back = back; split = refl; at_front = is; at_back = later.spelled } }

listed : FileTrees → List FileTree
listed no_trees = []
listed (and_tree t ts) = t ∷ listed ts

listed_is : (trees : List FileTree) → listed (trees_of trees) ≡ trees
unfolding listed
listed_is [] = refl
listed_is (t ∷ ts) = ap (λ l. t ∷ l) (listed_is ts)

-- The parts of a tree.
abbrev pub tree_parts : Lexeme × (Name × (List Expr × List FileTree)) → List Lexeme → Type 0
tree_parts = IsWord RoundOpen ⊗ (IsName ⊗ (AreConstants ⊗ AreTreesToClose))

abbrev pub tree_of : Lexeme × (Name × (List Expr × List FileTree)) → FileTree
tree_of v = node v.0.place v.1.0 v.1.1.0 (trees_of v.1.1.1)

pub tree_makes : (tokens : List Lexeme) → Makes tree_parts IsTree tree_of closed tokens
tree_makes tokens = remade (λ v ts spelled. into v ts spelled) (λ b ts spelled. back b ts spelled)
  where
    into : (v : Lexeme × (Name × (List Expr × List FileTree))) (ts : List Lexeme) → tree_parts v ts → IsTree (tree_of v) ts
    into v ts spelled =
        let inside = spelled.at_back in let row = inside.at_back in let children = row.at_back in let right = children.at_back in
        subst (λ (l : List Lexeme). IsTree (tree_of v) l)
        (sym (spelled.split ∙ ap (λ l. l ++ spelled.back) spelled.at_front.0 ∙ ap (λ l. v.0 ∷ l) (inside.split ∙ ap (λ l. inside.front ++ l) (row.split ∙ ap (λ l. row.front ++ l) (children.split ∙ ap (λ l. children.front ++ l) right.1.0)))))
        (a_tree v.0 right.0 v.1.0 v.1.1.0 (trees_of v.1.1.1) inside.front row.front children.front spelled.at_front.1 right.1.1 inside.at_front row.at_front (are_trees v.1.1.1 children.front children.at_front))

    back : (b : FileTree) (ts : List Lexeme) → IsTree b ts → (v : Lexeme × (Name × (List Expr × List FileTree))) × tree_parts v ts × (b ≡ tree_of v)
    back b ts (a_tree left right n labels trees head row children is close is_n are_labels are) = let list = trees_are trees children are in (
      (left, (n, (labels, list.list))),
      record {
        front = left ∷ [];
        back = head ++ (row ++ (children ++ right ∷ []));
        split = refl;
        at_front = (refl, is);
        at_back = record { front = head; back = row ++ (children ++ right ∷ []); split = refl; at_front = is_n; at_back = record { front = row; back = children ++ right ∷ []; split = refl; at_front = are_labels; at_back = record { front = children; back = right ∷ []; split = refl; at_front = list.spelled; at_back = (right, (refl, close)) } } };
      },
      ap (λ l. node left.place n labels l) list.is,
    )

tree_open : (t : FileTree) (ts : List Lexeme) → IsTree t ts → StartsIn (λ w. w ≡ RoundOpen) ts
tree_open t ts (a_tree left right n labels trees head row children is close is_n are_labels are) = is

pub tree_starts : AllStartIn (λ w. w ≡ RoundOpen) IsTree
tree_starts = record { starts = λ t ts is. tree_open t ts is }

pub some_starts : AllStartIn anything IsTree
some_starts = record { starts = λ t ts is. starts_wider (λ w. w ≡ RoundOpen) anything ts (λ w h. tt) (tree_open t ts is) }

pub trees_closable : IsClosable IsTree closed RoundClose
trees_closable = record { apart = record { starts = λ t ts is. starts_wider (λ w. w ≡ RoundOpen) (other_than RoundClose) ts (λ w a e. let f : RoundOpen ≡ RoundClose = sym a ∙ e in cc) (tree_open t ts is) }; ends = ends_closed (closing_of IsTree RoundClose) closed }

pub sample_children : HasSample AreTreesToClose
sample_children = sample_to_close IsTree RoundClose

pub sample_row_and_children : HasSample (AreConstants ⊗ AreTreesToClose)
sample_row_and_children = sample_pair sample_constants sample_children

pub sample_inside : HasSample (IsName ⊗ (AreConstants ⊗ AreTreesToClose))
sample_inside = sample_pair sample_name sample_row_and_children

-- A file.

pub file_makes : (tokens : List Lexeme) → Makes (Many IsTree) IsTreeFile (λ trees. trees) anything tokens
file_makes tokens = remade (λ v ts spelled. are_trees v ts spelled) (λ b ts spelled. back b ts spelled)
  where
    back : (b : List FileTree) (ts : List Lexeme) → IsTreeFile b ts → (trees : List FileTree) × Many IsTree trees ts × (b ≡ trees)
    back b ts spelled = let list = trees_are (trees_of b) ts spelled in (list.list, list.spelled, sym (listed_is b) ∙ ap listed list.is ∙ listed_is list.list)

-- before the first tree
pub file_begins : {tokens : List Lexeme} (none : List FileTree) → none ≡ [] → IsPartWay IsTreeFile (Many IsTree) anything (λ b. none ++ b) tokens tokens
file_begins {tokens} none is_none = subst (λ (l : List FileTree). IsPartWay IsTreeFile (Many IsTree) anything (λ b. l ++ b) tokens tokens) (sym is_none) (record { read = λ b end more. as_read (file_makes tokens) more; fails = λ bad more. as_fails bad (file_makes tokens) more })

pub file_ends : {tokens rest : List Lexeme} (all : List FileTree) → IsPartWay IsTreeFile (Many IsTree) anything (λ b. all ++ b) tokens rest → rest ≡ [] → IsRead IsTreeFile anything tokens all rest
file_ends all so_far ended = many_ends IsTree (λ l. l) all some_starts so_far (subst (λ (l : List Lexeme). Stops anything l) (sym ended) tt)
