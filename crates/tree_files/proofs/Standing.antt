-- The trees that sound trees of a file stand for.
use Rattle.std.proofs.Common.{◌≡◌, ℕ, zero, suc, ◌+◌, ◌<◌, ◌≤◌, Bool, true, false, ◌&&◌, List, [], ◌∷◌, ◌++◌, length, map, take, get_or, Option, Some, None, refl, sym, ap, ap₂, subst, ◌∙◌, arith}
use Rattle.std.proofs.lemmas.Bool.{and_parts}
use Rattle.std.specs.Prelude.{◌==◌, not}
use Rattle.std.specs.List.{list_all}
use Rattle.std.proofs.lemmas.Bool.Decides.{nat_tests}
use Rattle.std.proofs.lemmas.List.{take_all, take_more, map-append}
use Rattle.std.proofs.lemmas.List.Elements.{All-nil, All-push}
use Rattle.fast_fault.specs.declared.code.Code.TheVariants.{WrongRank, WrongSort}
use Rattle.fast_fault.specs.declared.place.Pos.{Pos}
use Rattle.model_tree.specs.Label.{Field, Label, row}
use Rattle.model_tree.specs.Tree.{node, Trees, no_trees, tree, list_of, LabelTree}
use Rattle.model_tree.specs.Tree as model
use Rattle.model_tree.specs.Kept.{is_kept, is_kept_field, is_kept_label, are_kept}
use Rattle.model_tree.specs.Signature.{sort_of, PlainField, PlainConstructor, PlainSignature, names_of, ranks_of, sorts_of, HasSorts, HasType, EachHasType}
use Rattle.model_tree.proofs.Sorts.{have_these_sorts}
use Rattle.model_program.specs.Syntax.{Name}
use Rattle.model_grammar.specs.Syntax.{Expr}
use Rattle.model_grammar.specs.TreeFiles.{FileTree, FileTrees, and_tree, trees_of}
use Rattle.model_grammar.specs.TreeFiles as file
use Rattle.model_checks.specs.Failures.{fails_if}
use Rattle.model_meaning.specs.Outputs.{number_named}
use Rattle.model_run.specs.Texts.{file_tree_count, sort_failures, range_failures, length_failures, label_failures, head_failures, tree_failures, trees_failures, StandsFor, StandFor, PlacedTree, AreTreesOf}
use Rattle.tree_reader.specs.declared.Constant.{Constant}
use Rattle.tree_reader.specs.declared.FileTree as code
use Rattle.tree_reader.specs.Plain.{plain_constant, plain_tree}
use Rattle.model_label.proofs.Sorted.{one_sort}
use Rattle.model_meaning.proofs.Typed.{below}
use Rattle.tree_files.specs.Labels.{meant_by}
use Rattle.tree_files.specs.Placed.{IsMade, AreMade, IsPlacedOf, IsOfType, ArePlacedOf}
use Rattle.tree_files.proofs.Failing.{none_before, none_behind, passed}
use Rattle.tree_files.proofs.Constants.{value_is, values_are, all_kept}

-- ---- labels

abbrev values : List Constant → List Field
values cs = map (λ (c : Constant). meant_by c.value) cs

not_false : (b : Bool) → not b ≡ false → b ≡ true
not_false true e = refl
not_false false e = cc

sort_fits : (f : PlainField) (c : Constant) → sort_failures f (plain_constant c) ≡ [] → sort_of (meant_by c.value) ≡ f.sort
sort_fits f c e = ap sort_of (sym (value_is c.value c.place)) ∙ one_sort _ f.sort (not_false _ (passed _ WrongSort _ e))

sorts_fit : (fields : List PlainField) (cs : List Constant) → length fields ≡ length cs → label_failures fields (map plain_constant cs) ≡ [] → map sort_of (values cs) ≡ map (λ (f : PlainField). f.sort) fields
sorts_fit [] [] many e = refl
sorts_fit [] (c ∷ cs) many e = absurd (omega (arith, many))
sorts_fit (f ∷ fields) [] many e = absurd (omega (arith, many))
sorts_fit (f ∷ fields) (c ∷ cs) many e =
    let behind = none_behind (sort_failures f (plain_constant c)) _ e in
    let later = none_behind (length_failures (plain_constant c)) _ (none_behind (range_failures (plain_constant c)) _ behind) in
    ap₂ (λ s ss. s ∷ ss) (sort_fits f c (none_before (sort_failures f (plain_constant c)) _ e)) (sorts_fit fields cs (omega (arith, many)) later)

list_all_map : {A B : Type 0} (p : B → Bool) (f : A → B) (xs : List A) → list_all p (map f xs) ≡ list_all (λ x. p (f x)) xs
list_all_map p f [] = refl
list_all_map p f (x ∷ xs) = ap (λ b. p (f x) && b) (list_all_map p f xs)

-- ---- nodes

as_many : (cs : List PlainConstructor) → length (map (λ (c : PlainConstructor). c.name) cs) ≡ length (map (λ (c : PlainConstructor). c.rank) cs)
as_many [] = refl
as_many (c ∷ cs) = ap suc (as_many cs)

same_number : (m n : ℕ) → not (m == n) ≡ false → m ≡ n
same_number m n e = grind (arith, nat_tests)

length_stood : (s : PlainSignature) (reads : FileTrees) (ts : Trees Label) → StandFor s reads ts → length (list_of ts) ≡ file_tree_count reads
length_stood s file.no_trees no_trees stand = refl
length_stood s file.no_trees (tree t ts) stand = absurd stand
length_stood s (and_tree r reads) no_trees stand = absurd stand
length_stood s (and_tree r reads) (tree t ts) stand = ap suc (length_stood s reads ts stand.1)

module _ (s : PlainSignature) where
  head_found : (o : Option ℕ) (children : ℕ) (place : Pos) → head_failures s o children place ≡ [] → o ≡ None → ⊥
  head_found None children place e none = cc
  head_found (Some c) children place e none = cc

  -- a constructor of the type has the name
  pub is_named : (place : Pos) (name : Name) (labels : List Expr) (reads : FileTrees) → tree_failures s (file.node place name labels reads) ≡ [] → number_named (names_of s) name.text ≡ None → ⊥
  is_named place name labels reads sound none = head_found (number_named (names_of s) name.text) (file_tree_count reads) name.place (none_before (head_failures s _ _ _) _ sound) none

  labels_behind : (place : Pos) (name : Name) (labels : List Expr) (reads : FileTrees) → tree_failures s (file.node place name labels reads) ≡ [] → label_failures s.fields labels ++ trees_failures s reads ≡ []
  labels_behind place name labels reads sound = none_behind (fails_if (not (length s.fields == length labels)) WrongRank name.place) _ (none_behind (head_failures s (number_named (names_of s) name.text) (file_tree_count reads) name.place) _ sound)

  pub sound_labels : (place : Pos) (name : Name) (labels : List Expr) (reads : FileTrees) → tree_failures s (file.node place name labels reads) ≡ [] → label_failures s.fields labels ≡ []
  sound_labels place name labels reads sound = none_before (label_failures s.fields labels) _ (labels_behind place name labels reads sound)

  pub sound_children : (place : Pos) (name : Name) (labels : List Expr) (reads : FileTrees) → tree_failures s (file.node place name labels reads) ≡ [] → trees_failures s reads ≡ []
  sound_children place name labels reads sound = none_behind (label_failures s.fields labels) _ (labels_behind place name labels reads sound)

  count_is : (place : Pos) (name : Name) (labels : List Expr) (reads : FileTrees) → tree_failures s (file.node place name labels reads) ≡ [] → length s.fields ≡ length labels
  count_is place name labels reads sound =
      same_number _ _ (passed _ WrongRank name.place (none_before (fails_if (not (length s.fields == length labels)) WrongRank name.place) _ (none_behind (head_failures s (number_named (names_of s) name.text) (file_tree_count reads) name.place) _ sound)))

  rank_from : (o : Option ℕ) (c children : ℕ) (place : Pos) → head_failures s o children place ≡ [] → o ≡ Some c → get_or (ranks_of s) c 0 ≡ children
  rank_from None c children place e is = cc
  rank_from (Some d) c children place e is = let same : d ≡ c = cc in ap (λ k. get_or (ranks_of s) k 0) (sym same) ∙ same_number _ _ (passed _ WrongRank place e)

  length_mapped : {A B : Type 0} (f : A → B) (xs : List A) → length (map f xs) ≡ length xs
  length_mapped f [] = refl
  length_mapped f (x ∷ xs) = ap suc (length_mapped f xs)

  -- a node above trees that were made
  pub node_made : (place : Pos) (name : Name) (cs : List Constant) (reads : FileTrees) (c : ℕ) (l : Label) (ts : Trees Label) → tree_failures s (file.node place name (map plain_constant cs) reads) ≡ []
      → number_named (names_of s) name.text ≡ Some c → l ≡ row (values cs) → AreMade s reads ts → IsMade s (file.node place name (map plain_constant cs) reads) (node c l ts)
  node_made place name cs reads c l ts sound found label made =
      let labels = map plain_constant cs in
      let fit = sound_labels place name labels reads sound in
      let rank = rank_from (number_named (names_of s) name.text) c (file_tree_count reads) name.place (none_before (head_failures s _ _ _) _ sound) found in
      let sorts = have_these_sorts (sorts_of s) (values cs) (sorts_fit s.fields cs (count_is place name labels reads sound ∙ length_mapped plain_constant cs) fit) in
      record {
        stands = (found, label ∙ ap row (sym (values_are cs)), made.stand);
        typed = (subst (λ n. c < n) (as_many s.constructors) (below (names_of s) name.text c found), length_stood s reads ts made.stand ∙ sym rank, subst (HasSorts (sorts_of s)) (sym label) sorts, made.typed);
        kept = ap₂ (λ a b. a && b) (ap is_kept_label label ∙ list_all_map is_kept_field (λ (x : Constant). meant_by x.value) cs ∙ all_kept s.fields cs fit) made.kept;
      }

  -- ---- one more of several

  stand_more : (reads : List FileTree) (r : FileTree) (us : List LabelTree) (u : LabelTree) → StandFor s (trees_of reads) (model.trees_of us) → StandsFor s r u → StandFor s (trees_of (reads ++ r ∷ [])) (model.trees_of (us ++ u ∷ []))
  stand_more [] r [] u stand stands = (stands, tt)
  stand_more [] r (v ∷ us) u stand stands = absurd stand
  stand_more (q ∷ reads) r [] u stand stands = absurd stand
  stand_more (q ∷ reads) r (v ∷ us) u stand stands = (stand.0, stand_more reads r us u stand.1 stands)

  typed_more : (us : List LabelTree) (u : LabelTree) → EachHasType s (model.trees_of us) → HasType s u → EachHasType s (model.trees_of (us ++ u ∷ []))
  typed_more [] u each has = (has, tt)
  typed_more (v ∷ us) u each has = (each.0, typed_more us u each.1 has)

  kept_more : (us : List LabelTree) (u : LabelTree) → are_kept (model.trees_of us) ≡ true → is_kept u ≡ true → are_kept (model.trees_of (us ++ u ∷ [])) ≡ true
  kept_more [] u each kept = ap (λ b. b && true) kept
  kept_more (v ∷ us) u each kept = let two = and_parts (is_kept v) (are_kept (model.trees_of us)) each in ap₂ (λ a b. a && b) two.0 (kept_more us u two.1 kept)

  pub made_none : AreMade s file.no_trees no_trees
  made_none = record { stand = tt; typed = tt; kept = refl }

  made_more : (reads : List FileTree) (r : FileTree) (us : List LabelTree) (u : LabelTree) → AreMade s (trees_of reads) (model.trees_of us) → IsMade s r u → AreMade s (trees_of (reads ++ r ∷ [])) (model.trees_of (us ++ u ∷ []))
  made_more reads r us u so_far one = record {
    stand = stand_more reads r us u so_far.stand one.stands;
    typed = typed_more us u so_far.typed one.typed;
    kept = kept_more us u so_far.kept one.kept;
  }

  taken : (ts : List code.FileTree) (i : ℕ) (t : code.FileTree) → i < length ts → t ≡ get_or ts i t → map plain_tree (take (i + 1) ts) ≡ map plain_tree (take i ts) ++ plain_tree t ∷ []
  taken ts i t low is = ap (map plain_tree) (take_more ts i t low ∙ ap (λ x. take i ts ++ x ∷ []) (sym is)) ∙ map-append plain_tree (take i ts) (t ∷ [])

  -- one tree more is made
  pub one_made : (ts : List code.FileTree) (i : ℕ) (t : code.FileTree) (old new : List LabelTree) (u : LabelTree) → i < length ts → t ≡ get_or ts i t → new ≡ old ++ u ∷ [] → IsMade s (plain_tree t) u
      → AreMade s (trees_of (map plain_tree (take i ts))) (model.trees_of old) → AreMade s (trees_of (map plain_tree (take (i + 1) ts))) (model.trees_of new)
  one_made ts i t old new u low is new_is one so_far =
      let more = made_more (map plain_tree (take i ts)) (plain_tree t) old u so_far one in
      subst (λ rs. AreMade s (trees_of rs) (model.trees_of new)) (sym (taken ts i t low is)) (subst (λ us. AreMade s (trees_of (map plain_tree (take i ts) ++ plain_tree t ∷ [])) (model.trees_of us)) (sym new_is) more)

  pub all_made : (ts : List code.FileTree) (i : ℕ) (us : List LabelTree) → length ts ≤ i → AreMade s (trees_of (map plain_tree (take i ts))) (model.trees_of us) → AreMade s (trees_of (map plain_tree ts)) (model.trees_of us)
  all_made ts i us end so_far = subst (λ rs. AreMade s (trees_of (map plain_tree rs)) (model.trees_of us)) (take_all i ts end) so_far

  -- each of sound trees is sound
  pub sound_at : (ts : List code.FileTree) (i : ℕ) (t : code.FileTree) → trees_failures s (trees_of (map plain_tree ts)) ≡ [] → i < length ts → t ≡ get_or ts i t → tree_failures s (plain_tree t) ≡ []
  sound_at [] i t sound low is = absurd (omega (arith, low))
  sound_at (x ∷ ts) zero t sound low is = ap (λ y. tree_failures s (plain_tree y)) is ∙ none_before (tree_failures s (plain_tree x)) _ sound
  sound_at (x ∷ ts) (suc i) t sound low is = sound_at ts i t (none_behind (tree_failures s (plain_tree x)) _ sound) (omega (arith, low)) is

  -- ---- placed trees

  are_more : (reads : List FileTree) (r : FileTree) (ps : List PlacedTree) (p : PlacedTree) → AreTreesOf s reads ps → IsPlacedOf s r p → AreTreesOf s (reads ++ r ∷ []) (ps ++ p ∷ [])
  are_more [] r [] p are one = (one.place, one.made.stands, tt)
  are_more [] r (q ∷ ps) p are one = absurd are
  are_more (q ∷ reads) r [] p are one = absurd are
  are_more (q ∷ reads) r (o ∷ ps) p are one = (are.0, are.1, are_more reads r ps p are.2 one)

  pub placed_none : ArePlacedOf s [] []
  placed_none = record { are = tt; typed = All-nil (IsOfType s) }

  -- one tree more is placed
  pub one_placed : (ts : List code.FileTree) (i : ℕ) (t : code.FileTree) (old new : List PlacedTree) (p : PlacedTree) → i < length ts → t ≡ get_or ts i t → new ≡ old ++ p ∷ [] → IsPlacedOf s (plain_tree t) p
      → ArePlacedOf s (map plain_tree (take i ts)) old → ArePlacedOf s (map plain_tree (take (i + 1) ts)) new
  one_placed ts i t old new p low is new_is one so_far =
      let more : ArePlacedOf s (map plain_tree (take i ts) ++ plain_tree t ∷ []) (old ++ p ∷ []) = record {
        are = are_more (map plain_tree (take i ts)) (plain_tree t) old p so_far.are one;
        typed = All-push (IsOfType s) old p so_far.typed (record { typed = one.made.typed; kept = one.made.kept });
      } in
      subst (λ rs. ArePlacedOf s rs new) (sym (taken ts i t low is)) (subst (λ ps. ArePlacedOf s (map plain_tree (take i ts) ++ plain_tree t ∷ []) ps) (sym new_is) more)

  pub all_placed : (ts : List code.FileTree) (i : ℕ) (ps : List PlacedTree) → length ts ≤ i → ArePlacedOf s (map plain_tree (take i ts)) ps → ArePlacedOf s (map plain_tree ts) ps
  all_placed ts i ps end so_far = subst (λ rs. ArePlacedOf s (map plain_tree rs) ps) (take_all i ts end) so_far
