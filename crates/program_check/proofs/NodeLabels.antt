-- The labels of a node, one after another.
use Rattle.std.proofs.Common.{◌≡◌, ℕ, zero, suc, ◌+◌, List, [], ◌∷◌, ◌++◌, drop, refl, sym, ap, ◌∙◌, append_assoc, add-one}
use Rattle.std.specs.Prelude.{slice_get}
use Rattle.fast_fault.specs.declared.refusal.Refusal.{Refusal}
use Rattle.model_program.specs.Syntax.{FieldItem}
use Rattle.model_grammar.specs.Syntax.{Expr}
use Rattle.model_checks.specs.Sorts.{Scope}
use Rattle.model_checks.specs.Labels.{label_failures, needs_sort_of, labels_failures}
use Rattle.program_check.specs.Nodes.{label_at}
use Rattle.program_check.specs.Notes.{Noted, LeftOver}
use Rattle.program_check.specs.declared.checker.Checker.{Checker}
use Rattle.program_check.proofs.Noting.{more, done}

first_label : (s : Scope) (fields : List FieldItem) (i : ℕ) (e : Expr) (rest : List Expr) → labels_failures s (drop i fields) (e ∷ rest) ≡ label_at s (slice_get fields i) e ++ labels_failures s (drop (suc i) fields) rest
first_label s [] zero e rest = refl
first_label s [] (suc i) e rest = refl
first_label s (f ∷ fields) zero e rest = sym (append_assoc (label_failures s e) (needs_sort_of s f e) (labels_failures s fields rest))
first_label s (f ∷ fields) (suc i) e rest = first_label s fields i e rest

pub label_more : (s : Scope) (fields : List FieldItem) (i : ℕ) (e : Expr) (all rest : List Expr) (whole : List Refusal) (a b c : Checker) → all ≡ e ∷ rest → Noted b c (label_at s (slice_get fields i) e)
    → LeftOver a b whole (labels_failures s (drop i fields) all) → LeftOver a c whole (labels_failures s (drop (i + 1) fields) rest)
label_more s fields i e all rest whole a b c split noted left =
    more (labels_failures s (drop (i + 1) fields) rest) noted
    (ap (labels_failures s (drop i fields)) split ∙ first_label s fields i e rest ∙ ap (λ n. label_at s (slice_get fields i) e ++ labels_failures s (drop n fields) rest) (sym (add-one i))) left

none_left : (s : Scope) (fields : List FieldItem) → labels_failures s fields [] ≡ []
none_left s [] = refl
none_left s (f ∷ fields) = refl

pub labels_done : (s : Scope) (fields : List FieldItem) (none : List Expr) (whole : List Refusal) (a b : Checker) → none ≡ [] → LeftOver a b whole (labels_failures s fields none) → Noted a b whole
labels_done s fields none whole a b empty left = done (ap (labels_failures s fields) empty ∙ none_left s fields) left
