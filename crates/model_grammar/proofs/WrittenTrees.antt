-- What is printed of a tree spells it again.
use Rattle.std.proofs.Common.{◌≡◌, ℕ, suc, pos, negsuc, ◌^◌, ◌<◌, ◌≤◌, true, false, ◌&&◌, nat_lt, List, [], ◌∷◌, ◌++◌, map, length, get_or, refl, sym, ap, ◌∙◌, subst, append_assoc, append-nil, arith}
use Rattle.std.proofs.lemmas.Bool.{and_parts}
use Rattle.std.specs.Prelude.{codes}
use Rattle.std.specs.List.{flat_map, list_all}
use Rattle.std.specs.Fmt.{decimal}
use Rattle.std.specs.Str.Parse.{digits_value}
use Rattle.std.proofs.lemmas.Bool.Decides.{nat_tests}
use Rattle.model_tree.specs.Label.{Field, Label, row, pair}
use Rattle.model_tree.specs.Label as label
use Rattle.model_tree.specs.Tree as model
use Rattle.model_tree.specs.Tree.{LabelTree}
use Rattle.model_tree.specs.Kept.{is_kept_field, is_kept_label, is_kept, are_kept}
use Rattle.model_tree.specs.Printed.{joined, printed_text, printed_field, fields_of, printed_label, printed_tree, printed_children}
use Rattle.model_program.specs.declared.Word.TheVariants.{True, False, Number, Quoted, RoundOpen, RoundClose, SquareOpen, SquareClose, Minus}
use Rattle.model_program.specs.Characters.{AllIn, is_digit}
use Rattle.model_program.specs.Lexeme.{Lexeme}
use Rattle.model_program.specs.Spellings.{spelling}
use Rattle.model_program.specs.Syntax as syntax
use Rattle.model_program.specs.Pieces.{Name, Digits, Text, IsLongest}
use Rattle.model_program.specs.Cuts.{Piece, IsCut, body_of, mark_of, texts_of, lexemes_after, place_after}
use Rattle.model_program.specs.Joined.{◌⌢◌, ◌⊗◌}
use Rattle.model_program.specs.Grammar.{IsSign, IsName}
use Rattle.model_grammar.specs.Syntax.{Expr, number, text, truth}
use Rattle.model_grammar.specs.Places.{nowhere, bare}
use Rattle.model_grammar.specs.Expressions.{negative}
use Rattle.model_grammar.specs.Terms.{Row}
use Rattle.model_grammar.specs.TreeFiles.{FileTree, node, FileTrees, no_trees, and_tree, IsConstant, a_number, a_negative, a_text, a_true, a_false, AreConstants, IsTree, a_tree, AreTrees, no_more, one_more}
use Rattle.model_grammar.specs.Printed.{piece, blank, token, bracketed, behind_commas, with_commas, expression, labels_of}
use Rattle.model_grammar.proofs.Laid.{IsParted}
use Rattle.model_grammar.specs.PrintedTrees.{bare_file, bare_files, constant_of, file_tree, file_trees, HasNames, EachHasNames, AreNames, ReadsAsTree}
use Rattle.model_grammar.proofs.Standing.{digits_longest, text_longest, NoSecond}
use Rattle.model_grammar.proofs.Written.{Again, Written, AllWritten, Touches, texts_of-append, joined as one_behind, spaced, apart, as_written, nothing_written}
use Rattle.model_grammar.proofs.Tokens.{token_at, one_token, token_written, token_then, spelled_word, word_longest, minus_longest, square_written, sign_written, name_written, bracket_tokens, bracket_laid}
use Rattle.model_grammar.proofs.Constants.{decimal_digits, decimal_value, digit_characters, printed_quoted}
use Rattle.model_grammar.proofs.WrittenLists.{row_commas}
use Rattle.model_grammar.proofs.ReadBack.{laid_cut}

-- three parts before a closing sign
three_parts : {p q r : List Lexeme → Type 0} (inside : List Lexeme) (right : Lexeme) → (s : (p ⌢ (q ⌢ r)) inside) → inside ++ right ∷ [] ≡ s.front ++ (s.at_back.front ++ (s.at_back.back ++ right ∷ []))
three_parts inside right s =
    ap (λ l. l ++ right ∷ []) (s.split ∙ ap (λ l. s.front ++ l) s.at_back.split)
    ∙ append_assoc s.front (s.at_back.front ++ s.at_back.back) (right ∷ [])
    ∙ ap (λ l. s.front ++ l) (append_assoc s.at_back.front s.at_back.back (right ∷ []))

decimal_laid : (n : ℕ) → n < 10 ^ 38 → (after : List ℕ) → IsParted after → IsLongest Digits (decimal n) after
decimal_laid n small after parted = let is = decimal_digits n small in digits_longest (decimal n) after (digit_characters (decimal n) is.0.1) is.0.0 is.1 parted

no_second : (c : ℕ) → is_digit c ≡ true → NoSecond (c ∷ [])
no_second c is = grind (arith, nat_tests)

none_second : (cs more : List ℕ) → AllIn is_digit cs → 1 ≤ length cs → NoSecond (cs ++ more)
none_second [] more all some = absurd (omega arith)
none_second (c ∷ cs) more all some = no_second c all.0

whole_written : (n : ℕ) → n < 10 ^ 38 → Written IsParted bare IsConstant (number nowhere (pos n)) (expression (number nowhere (pos n)))
whole_written n small =
    token_written bare IsConstant (number nowhere (pos n)) Number Digits (decimal n) refl
    (λ before. record { value = number (place_after before) (pos (digits_value 10 (decimal n))); spelled = a_number (token_at Number before (decimal n)) refl (decimal_digits n small); same = ap (λ m. number nowhere (pos m)) (decimal_value n small) })
    (decimal_laid n small)

below_written : (n : ℕ) → suc n < 10 ^ 38 → Written IsParted bare IsConstant (number nowhere (negsuc n)) (expression (number nowhere (negsuc n)))
below_written n small = record {
  again = λ before.
      let digits = token_at Number (before ++ spelling Minus) (decimal (suc n)) in
      subst (Again bare IsConstant (number nowhere (negsuc n))) (sym (token_then Minus tt before (piece Digits (decimal (suc n)) ∷ []) ∙ ap (λ l. token_at Minus before (spelling Minus) ∷ l) (one_token Number Digits (decimal (suc n)) (before ++ spelling Minus) refl)))
      (record {
        value = number (place_after before) (negative (digits_value 10 (decimal (suc n))));
        spelled = a_negative (token_at Minus before (spelling Minus)) digits refl refl (decimal_digits (suc n) small);
        same = ap (λ m. number nowhere (negative m)) (decimal_value (suc n) small);
      });
  laid = λ after parted.
      let is = decimal_digits (suc n) small in
      (minus_longest (texts_of (piece Digits (decimal (suc n)) ∷ []) ++ after) (subst NoSecond (sym (append_assoc (decimal (suc n)) [] after)) (none_second (decimal (suc n)) after (digit_characters (decimal (suc n)) is.0.1) is.0.0)), (decimal_laid (suc n) small after parted, tt));
}

small_pos : (n : ℕ) → nat_lt n (2 ^ 63) ≡ true → n < 10 ^ 38
small_pos n kept = let low : n < 2 ^ 63 = grind (arith, nat_tests) in omega (arith, low)

small_neg : (n : ℕ) → nat_lt n (2 ^ 63) ≡ true → suc n < 10 ^ 38
small_neg n kept = let low : n < 2 ^ 63 = grind (arith, nat_tests) in omega (arith, low)

value_written : (v : Field) → is_kept_field v ≡ true → Written IsParted bare IsConstant (constant_of v) (expression (constant_of v))
value_written (label.whole (pos n)) kept = whole_written n (small_pos n kept)
value_written (label.whole (negsuc n)) kept = below_written n (small_neg n kept)
value_written (label.truth true) kept = token_written bare IsConstant (truth nowhere true) True Name (spelling True) (spelled_word True tt) (λ before. record { value = truth (place_after before) true; spelled = a_true (token_at True before (spelling True)) refl; same = refl }) (word_longest True tt)
value_written (label.truth false) kept = token_written bare IsConstant (truth nowhere false) False Name (spelling False) (spelled_word False tt) (λ before. record { value = truth (place_after before) false; spelled = a_false (token_at False before (spelling False)) refl; same = refl }) (word_longest False tt)
value_written (label.text t) kept =
    token_written bare IsConstant (text nowhere t) Quoted Text (printed_text t) refl
    (λ before. record { value = text (place_after before) t; spelled = a_text (token_at Quoted before (printed_text t)) t refl (printed_quoted t); same = refl })
    (λ after parted. text_longest (printed_text t) t after (printed_quoted t))

values_written : (vs : List Field) → list_all is_kept_field vs ≡ true → AllWritten bare IsConstant expression (map constant_of vs)
values_written [] kept = tt
values_written (v ∷ vs) kept = let here = and_parts (is_kept_field v) (list_all is_kept_field vs) kept in (value_written v here.0, values_written vs here.1)

all_append : (vs ws : List Field) → list_all is_kept_field vs ≡ true → list_all is_kept_field ws ≡ true → list_all is_kept_field (vs ++ ws) ≡ true
all_append [] ws one two = two
all_append (v ∷ vs) ws one two = let here = and_parts (is_kept_field v) (list_all is_kept_field vs) one in (λ i. here.0 i && all_append vs ws here.1 two i)

kept_fields : (l : Label) → is_kept_label l ≡ true → list_all is_kept_field (fields_of l) ≡ true
kept_fields (row values) kept = kept
kept_fields (pair l m) kept = let here = and_parts (is_kept_label l) (is_kept_label m) kept in all_append (fields_of l) (fields_of m) (kept_fields l here.0) (kept_fields m here.1)

constants_written : (vs : List Field) → list_all is_kept_field vs ≡ true → Written IsParted (map bare) AreConstants (map constant_of vs) (labels_of (map constant_of vs))
constants_written vs kept =
    as_written {p = IsSign SquareOpen ⊗ (Row IsConstant ⊗ IsSign SquareClose)} (λ v. v.1.0) (λ v ts s. s) (λ v same i. (same i).1.0)
    (one_behind (λ after fine. tt) square_written (one_behind (λ after fine. refl) (row_commas bare IsConstant expression (map constant_of vs) (values_written vs kept)) (sign_written SquareClose tt)))

module _ (names : List (List ℕ)) (are : AreNames names) where
  abbrev mutual
    -- the pieces of a printed tree
    pub tree_pieces : LabelTree → List Piece
    tree_pieces (model.node c l ts) = bracketed ((piece Name (get_or names c []) ∷ []) ++ blank ∷ (labels_of (map constant_of (fields_of l)) ++ trees_pieces ts))

    pub trees_pieces : model.Trees Label → List Piece
    trees_pieces model.no_trees = []
    trees_pieces (model.tree t ts) = blank ∷ (tree_pieces t ++ trees_pieces ts)

  trees_touch : (ts : model.Trees Label) → Touches IsParted (trees_pieces ts) IsParted
  trees_touch model.no_trees after parted = parted
  trees_touch (model.tree t ts) after parted = refl

  more_into : (v : FileTree × FileTrees) (ts : List Lexeme) → (IsTree ⊗ AreTrees) v ts → AreTrees (and_tree v.0 v.1) ts
  more_into v ts s = subst (AreTrees (and_tree v.0 v.1)) (sym s.split) (one_more v.0 v.1 s.front s.back s.at_front s.at_back)

  node_into : (v : syntax.Name × (List Expr × FileTrees)) (inside : List Lexeme) (left right : Lexeme) → left.word ≡ RoundOpen → right.word ≡ RoundClose → (IsName ⊗ (AreConstants ⊗ AreTrees)) v inside → IsTree (node left.place v.0 v.1.0 v.1.1) (left ∷ inside ++ right ∷ [])
  node_into v inside left right opens closes s =
      subst (λ (l : List Lexeme). IsTree (node left.place v.0 v.1.0 v.1.1) (left ∷ l)) (sym (three_parts inside right s))
      (a_tree left right v.0 v.1.0 v.1.1 s.front s.at_back.front s.at_back.back opens closes s.at_front s.at_back.at_front s.at_back.at_back)

  mutual
    tree_written : (t : LabelTree) → HasNames names t → is_kept t ≡ true → Written IsParted bare_file IsTree (file_tree names t) (tree_pieces t)
    tree_written (model.node c l ts) named kept =
        let here = and_parts (is_kept_label l) (are_kept ts) kept in
        let name = name_written (record { text = get_or names c []; place = nowhere }) (are c [] named.0) in
        let inside = apart name (one_behind (trees_touch ts) (constants_written (fields_of l) (kept_fields l here.0)) (trees_written ts named.1 here.1)) in
        let ps : List Piece = (piece Name (get_or names c []) ∷ []) ++ blank ∷ (labels_of (map constant_of (fields_of l)) ++ trees_pieces ts) in
        record {
          again = λ before.
              let within = inside.again (before ++ spelling RoundOpen) in
              subst (Again bare_file IsTree (file_tree names (model.node c l ts))) (sym (bracket_tokens before ps))
              (record {
                value = node (place_after before) within.value.0 within.value.1.0 within.value.1.1;
                spelled = node_into within.value _ (token_at RoundOpen before (spelling RoundOpen)) (token_at RoundClose ((before ++ spelling RoundOpen) ++ texts_of ps) (spelling RoundClose)) refl refl within.spelled;
                same = λ i. node nowhere (within.same i).0 (within.same i).1.0 (within.same i).1.1;
              });
          laid = bracket_laid ps inside.laid;
        }

    trees_written : (ts : model.Trees Label) → EachHasNames names ts → are_kept ts ≡ true → Written IsParted bare_files AreTrees (file_trees names ts) (trees_pieces ts)
    trees_written model.no_trees named kept = nothing_written no_trees no_more
    trees_written (model.tree t ts) named kept =
        let here = and_parts (is_kept t) (are_kept ts) kept in
        as_written {p = IsTree ⊗ AreTrees} (λ v. and_tree v.0 v.1) more_into (λ v same i. and_tree (same i).0 (same i).1)
        (spaced (one_behind (trees_touch ts) (tree_written t named.0 here.0) (trees_written ts named.1 here.1)))

  value_text : (v : Field) → texts_of (expression (constant_of v)) ≡ printed_field v
  value_text (label.whole (pos n)) = append-nil (decimal n)
  value_text (label.whole (negsuc n)) = ap (λ l. 45 ∷ l) (append-nil (decimal (suc n)))
  value_text (label.truth true) = refl
  value_text (label.truth false) = refl
  value_text (label.text t) = append-nil (printed_text t)

  later_text : (vs : List Field) → texts_of (behind_commas expression (map constant_of vs)) ≡ flat_map (λ later. codes ", " ++ later) (map printed_field vs)
  later_text [] = refl
  later_text (v ∷ vs) = ap (λ l. 44 ∷ 32 ∷ l) (texts_of-append (expression (constant_of v)) (behind_commas expression (map constant_of vs)) ∙ (λ i. value_text v i ++ later_text vs i))

  values_text : (vs : List Field) → texts_of (with_commas expression (map constant_of vs)) ≡ joined (codes ", ") (map printed_field vs)
  values_text [] = refl
  values_text (v ∷ vs) = texts_of-append (expression (constant_of v)) (behind_commas expression (map constant_of vs)) ∙ (λ i. value_text v i ++ later_text vs i)

  -- what stands between a tree's parentheses
  inside_text : (name : List ℕ) (label : List Piece) (below : List Piece) (l b : List ℕ) → texts_of label ≡ l → texts_of below ≡ b
      → texts_of (((piece Name name ∷ []) ++ blank ∷ ((token SquareOpen ∷ (label ++ token SquareClose ∷ [])) ++ below)) ++ token RoundClose ∷ []) ≡ name ++ (32 ∷ 91 ∷ (l ++ (93 ∷ (b ++ 41 ∷ []))))
  inside_text name label below l b is_l is_b =
      ap (λ x. name ++ (32 ∷ 91 ∷ x))
      (texts_of-append ((label ++ token SquareClose ∷ []) ++ below) (token RoundClose ∷ [])
      ∙ ap (λ x. x ++ 41 ∷ []) (texts_of-append (label ++ token SquareClose ∷ []) below ∙ (λ i. (texts_of-append label (token SquareClose ∷ []) ∙ ap (λ y. y ++ 93 ∷ []) is_l) i ++ is_b i))
      ∙ append_assoc (l ++ 93 ∷ []) b (41 ∷ [])
      ∙ append_assoc l (93 ∷ []) (b ++ 41 ∷ []))

  mutual
    tree_text : (t : LabelTree) → texts_of (tree_pieces t) ≡ printed_tree names t
    tree_text (model.node c l ts) =
        ap (λ x. 40 ∷ x) (inside_text (get_or names c []) (with_commas expression (map constant_of (fields_of l))) (trees_pieces ts) (printed_label l) (printed_children names ts) (values_text (fields_of l)) (trees_text ts))

    trees_text : (ts : model.Trees Label) → texts_of (trees_pieces ts) ≡ printed_children names ts
    trees_text model.no_trees = refl
    trees_text (model.tree t ts) = ap (λ x. 32 ∷ x) (texts_of-append (tree_pieces t) (trees_pieces ts) ∙ (λ i. tree_text t i ++ trees_text ts i))

  no_mark : (t : LabelTree) → (body_of (printed_tree names t) ≡ printed_tree names t) × (mark_of (printed_tree names t) ≡ [])
  no_mark (model.node c l ts) = (refl, refl)

  bare_constant : (v : Field) → bare (constant_of v) ≡ constant_of v
  bare_constant (label.whole n) = refl
  bare_constant (label.truth b) = refl
  bare_constant (label.text t) = refl

  bare_constants : (vs : List Field) → map bare (map constant_of vs) ≡ map constant_of vs
  bare_constants [] = refl
  bare_constants (v ∷ vs) = λ i. bare_constant v i ∷ bare_constants vs i

  -- a tree of a file that has its places aside
  mutual
    bare_already : (t : LabelTree) → bare_file (file_tree names t) ≡ file_tree names t
    bare_already (model.node c l ts) = λ i. node nowhere (record { text = get_or names c []; place = nowhere }) (bare_constants (fields_of l) i) (all_bare_already ts i)

    all_bare_already : (ts : model.Trees Label) → bare_files (file_trees names ts) ≡ file_trees names ts
    all_bare_already model.no_trees = refl
    all_bare_already (model.tree t ts) = λ i. and_tree (bare_already t i) (all_bare_already ts i)

  -- a printed tree reads as the tree
  pub reads_as_tree : (t : LabelTree) → HasNames names t → is_kept t ≡ true → ReadsAsTree names t (printed_tree names t)
  reads_as_tree t named kept =
      let written = tree_written t named kept in
      let once = written.again [] in
      let none = no_mark t in
      let text : texts_of (tree_pieces t) ++ [] ≡ body_of (printed_tree names t) = append-nil (texts_of (tree_pieces t)) ∙ tree_text t ∙ sym none.0 in
      record {
        tokens = lexemes_after [] (tree_pieces t);
        are = record { pieces = tree_pieces t; cut = subst (λ (l : List ℕ). IsCut l (tree_pieces t) []) text (laid_cut (tree_pieces t) [] (written.laid [] tt)); are = ap (λ l. lexemes_after l (tree_pieces t)) (sym none.1) };
        again = once.value;
        spelled = subst (AreTrees (and_tree once.value no_trees)) (append-nil (lexemes_after [] (tree_pieces t))) (one_more once.value no_trees (lexemes_after [] (tree_pieces t)) [] once.spelled no_more);
        same = once.same ∙ bare_already t;
      }
