-- Failing conditions, one list after another.
use Rattle.std.proofs.Common.{◌≡◌, ℕ, zero, suc, ◌+◌, ◌<◌, Bool, true, false, List, [], ◌∷◌, ◌++◌, length, map, drop, get_or, Option, None, append_assoc, add-one, refl, sym, ap, ◌∙◌}
use Rattle.std.specs.Prelude.{slice_get}
use Rattle.fast_fault.specs.declared.code.Code.{Code}
use Rattle.fast_fault.specs.declared.place.Pos.{Pos}
use Rattle.fast_fault.specs.declared.refusal.Refusal.{Refusal}
use Rattle.model_tree.specs.Signature.{PlainField, PlainSignature}
use Rattle.model_grammar.specs.Syntax.{Expr}
use Rattle.model_grammar.specs.TreeFiles.{trees_of}
use Rattle.model_checks.specs.Failures.{fails_if, first_of, first_among, is_empty}
use Rattle.model_checks.proofs.FirstOf.{none_first}
use Rattle.model_run.specs.Texts.{sort_failures, range_failures, length_failures, label_failures, tree_failures, trees_failures}
use Rattle.fast_syntax.proofs.Appending.{drop_at}
use Rattle.tree_reader.specs.declared.FileTree.{FileTree}
use Rattle.tree_reader.specs.Plain.{plain_tree}
use Rattle.tree_files.specs.Labels.{failures_at}

pub first_among-append : (known : Option Refusal) (xs ys : List Refusal) → first_among known (xs ++ ys) ≡ first_among (first_among known xs) ys
first_among-append known [] ys = refl
first_among-append known (x ∷ xs) ys = first_among-append (first_of known x) xs ys

-- these and then those
pub then : (a b c : Option Refusal) (xs ys : List Refusal) → b ≡ first_among a xs → c ≡ first_among b ys → c ≡ first_among a (xs ++ ys)
then a b c xs ys one two = two ∙ ap (λ k. first_among k ys) one ∙ sym (first_among-append a xs ys)

-- some more of what is left
more : (a b whole : Option Refusal) (fs all rest : List Refusal) → b ≡ first_among a fs → all ≡ fs ++ rest → first_among a all ≡ whole → first_among b rest ≡ whole
more a b whole fs all rest one split left = ap (λ k. first_among k rest) one ∙ sym (first_among-append a fs rest) ∙ ap (first_among a) (sym split) ∙ left

first_label : (fields : List PlainField) (i : ℕ) (e : Expr) (es : List Expr) → label_failures (drop i fields) (e ∷ es) ≡ failures_at (slice_get fields i) e ++ label_failures (drop (suc i) fields) es
first_label [] zero e es = sym (append_assoc (range_failures e) (length_failures e) (label_failures [] es))
first_label [] (suc i) e es = sym (append_assoc (range_failures e) (length_failures e) (label_failures [] es))
first_label (f ∷ fields) zero e es =
    ap (λ l. sort_failures f e ++ l) (sym (append_assoc (range_failures e) (length_failures e) (label_failures fields es)))
    ∙ sym (append_assoc (sort_failures f e) (range_failures e ++ length_failures e) (label_failures fields es))
first_label (f ∷ fields) (suc i) e es = first_label fields i e es

-- one more label
pub label_more : (fields : List PlainField) (i : ℕ) (e : Expr) (all es : List Expr) (a b whole : Option Refusal) → all ≡ e ∷ es → b ≡ first_among a (failures_at (slice_get fields i) e)
    → first_among a (label_failures (drop i fields) all) ≡ whole → first_among b (label_failures (drop (i + 1) fields) es) ≡ whole
label_more fields i e all es a b whole split one left =
    more a b whole (failures_at (slice_get fields i) e) (label_failures (drop i fields) all) (label_failures (drop (i + 1) fields) es) one
    (ap (label_failures (drop i fields)) split ∙ first_label fields i e es ∙ ap (λ n. failures_at (slice_get fields i) e ++ label_failures (drop n fields) es) (sym (add-one i))) left

-- one more tree
pub tree_more : (s : PlainSignature) (ts : List FileTree) (i : ℕ) (t : FileTree) (a b whole : Option Refusal) → i < length ts → t ≡ get_or ts i t → b ≡ first_among a (tree_failures s (plain_tree t))
    → first_among a (trees_failures s (trees_of (map plain_tree (drop i ts)))) ≡ whole → first_among b (trees_failures s (trees_of (map plain_tree (drop (i + 1) ts)))) ≡ whole
tree_more s ts i t a b whole low is one left =
    more a b whole (tree_failures s (plain_tree t)) (trees_failures s (trees_of (map plain_tree (drop i ts)))) (trees_failures s (trees_of (map plain_tree (drop (i + 1) ts)))) one
    (ap (λ us. trees_failures s (trees_of (map plain_tree us))) (drop_at ts i t low is)) left

-- ---- where none fails

none_of : (fs : List Refusal) → is_empty fs ≡ true → fs ≡ []
none_of [] e = refl
none_of (f ∷ fs) e = cc

pub none_fails : (fs : List Refusal) → first_among None fs ≡ None → fs ≡ []
none_fails fs e = none_of fs (none_first fs e)

pub none_before : {A : Type 0} (xs ys : List A) → xs ++ ys ≡ [] → xs ≡ []
none_before [] ys e = refl
none_before (x ∷ xs) ys e = cc

pub none_behind : {A : Type 0} (xs ys : List A) → xs ++ ys ≡ [] → ys ≡ []
none_behind [] ys e = e
none_behind (x ∷ xs) ys e = cc

pub passed : (b : Bool) (code : Code) (place : Pos) → fails_if b code place ≡ [] → b ≡ false
passed true code place e = cc
passed false code place e = refl
