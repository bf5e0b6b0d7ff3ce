-- The parts of a chain, one after another.
use Rattle.std.proofs.Common.{◌≡◌, Bool, true, false, ◌||◌, List, [], ◌∷◌, ◌++◌, Option, Some, None, refl, sym, ap, ap₂, ◌∙◌, append_assoc, append-nil}
use Rattle.fast_fault.specs.declared.place.Pos.{Pos}
use Rattle.fast_fault.specs.declared.refusal.Refusal.{Refusal}
use Rattle.model_tree.specs.Signature.{Sort, wholes}
use Rattle.model_form.specs.Form.{Form}
use Rattle.model_form.specs.Sums.{Part}
use Rattle.model_grammar.specs.Syntax.{Expr, Parts, no_parts, part}
use Rattle.model_checks.specs.Sorts.{Scope, needs_sort}
use Rattle.model_checks.specs.Forms.{has_field, have_field, form_in_range, added, with_part, form_behind}
use Rattle.model_checks.specs.Labels.{label_failures, sorted_failures, operands_failures, steps_failures}
use Rattle.program_check.specs.Known.{joined, next_failures, step_failures, step_form}
use Rattle.program_check.specs.Notes.{Noted, LeftOver}
use Rattle.program_check.specs.declared.checker.Checker.{Checker}
use Rattle.program_check.proofs.Noting.{more, done}

pub or_false : (a : Bool) → (a || false) ≡ a
or_false true = refl
or_false false = refl

or_assoc : (a b c : Bool) → ((a || b) || c) ≡ (a || (b || c))
or_assoc true b c = refl
or_assoc false b c = refl

-- ---- failing conditions

pub sorted_more : (s : Scope) (sort : Sort) (e : Expr) (m : Bool) (all rest : Parts) (whole : List Refusal) (a b c : Checker) → all ≡ part m e rest → Noted b c (sorted_failures s sort e)
    → LeftOver a b whole (operands_failures s sort all) → LeftOver a c whole (operands_failures s sort rest)
sorted_more s sort e m all rest whole a b c split noted left =
    more (operands_failures s sort rest) noted (ap (operands_failures s sort) split ∙ sym (append_assoc (label_failures s e) (needs_sort s sort e) (operands_failures s sort rest))) left

pub sorted_done : (s : Scope) (sort : Sort) (none : Parts) (whole : List Refusal) (a b : Checker) → none ≡ no_parts → LeftOver a b whole (operands_failures s sort none) → Noted a b whole
sorted_done s sort none whole a b empty left = done (ap (operands_failures s sort) empty) left

steps_split : (s : Scope) (place : Pos) (has : Bool) (before : Option Form) (m : Bool) (e : Expr) (rest : Parts)
    → steps_failures s place has before (part m e rest) ≡ step_failures s place has before m e ++ steps_failures s place (has || has_field s e) (step_form s has before m e) rest
steps_split s place has before m e rest =
    let next = next_failures place has before m (has_field s e) (form_in_range s e) e in
    let last = steps_failures s place (has || has_field s e) (step_form s has before m e) rest in
    split m ∙ ap (λ l. label_failures s e ++ l) (sym (append_assoc (needs_sort s wholes e) next last)) ∙ sym (append_assoc (label_failures s e) (needs_sort s wholes e ++ next) last)
  where
    split : (m : Bool) → steps_failures s place has before (part m e rest) ≡ label_failures s e ++ (needs_sort s wholes e ++ (next_failures place has before m (has_field s e) (form_in_range s e) e ++ steps_failures s place (has || has_field s e) (step_form s has before m e) rest))
    split true = refl
    split false = refl

pub steps_more : (s : Scope) (place : Pos) (e : Expr) (m : Bool) (all rest : Parts) (has has2 : Bool) (form form2 : Option Form) (whole : List Refusal) (a b c : Checker) → all ≡ part m e rest → has2 ≡ (has || has_field s e) → form2 ≡ step_form s has form m e
    → Noted b c (step_failures s place has form m e) → LeftOver a b whole (steps_failures s place has form all) → LeftOver a c whole (steps_failures s place has2 form2 rest)
steps_more s place e m all rest has has2 form form2 whole a b c split has_is form_is noted left =
    more (steps_failures s place has2 form2 rest) noted
    (ap (steps_failures s place has form) split ∙ steps_split s place has form m e rest ∙ ap₂ (λ h f. step_failures s place has form m e ++ steps_failures s place h f rest) (sym has_is) (sym form_is)) left

pub steps_done : (s : Scope) (place : Pos) (none : Parts) (has : Bool) (form : Option Form) (whole : List Refusal) (a b : Checker) → none ≡ no_parts → LeftOver a b whole (steps_failures s place has form none) → Noted a b whole
steps_done s place none has form whole a b empty left = done (ap (steps_failures s place has form) empty) left

-- ---- fields

pub has_more : (s : Scope) (e : Expr) (m : Bool) (all rest : Parts) (h k h2 whole : Bool) → all ≡ part m e rest → k ≡ has_field s e → h2 ≡ (h || k) → (h || have_field s all) ≡ whole → (h2 || have_field s rest) ≡ whole
has_more s e m all rest h k h2 whole split k_is h2_is left =
    ap (λ x. x || have_field s rest) h2_is ∙ or_assoc h k (have_field s rest) ∙ ap (λ x. h || (x || have_field s rest)) k_is ∙ ap (λ ps. h || have_field s ps) (sym split) ∙ left

pub has_done : (s : Scope) (none : Parts) (h whole : Bool) → none ≡ no_parts → (h || have_field s none) ≡ whole → h ≡ whole
has_done s none h whole empty left = sym (or_false h) ∙ ap (λ ps. h || have_field s ps) (sym empty) ∙ left

-- ---- sums

joined_one : (acc : Option (List Part)) (m : Bool) (f : Option Form) (rest : Option (List Part)) → joined (joined acc (with_part m f (Some []))) rest ≡ joined acc (with_part m f rest)
joined_one None m f rest = refl
joined_one (Some ps) m None rest = refl
joined_one (Some ps) m (Some f) None = refl
joined_one (Some ps) m (Some f) (Some later) = ap Some (append_assoc ps (record { minus = m; added = f } ∷ []) later)

pub joined_start : (o : Option (List Part)) → joined (Some []) o ≡ o
joined_start None = refl
joined_start (Some ps) = refl

joined_end : (acc : Option (List Part)) → joined acc (Some []) ≡ acc
joined_end None = refl
joined_end (Some ps) = ap Some (append-nil ps)

pub added_more : (s : Scope) (e : Expr) (m : Bool) (all rest : Parts) (form : Option Form) (acc acc2 whole : Option (List Part)) → all ≡ part m e rest → form ≡ form_in_range s e → acc2 ≡ joined acc (with_part m form (Some [])) → joined acc (added s all) ≡ whole → joined acc2 (added s rest) ≡ whole
added_more s e m all rest form acc acc2 whole split form_is acc_is left =
    ap (λ x. joined x (added s rest)) acc_is ∙ joined_one acc m form (added s rest) ∙ ap (λ f. joined acc (with_part m f (added s rest))) form_is ∙ ap (λ ps. joined acc (added s ps)) (sym split) ∙ left

pub added_done : (s : Scope) (none : Parts) (acc whole : Option (List Part)) → none ≡ no_parts → joined acc (added s none) ≡ whole → acc ≡ whole
added_done s none acc whole empty left = sym (joined_end acc) ∙ ap (λ ps. joined acc (added s ps)) (sym empty) ∙ left

-- ---- products

form_split : (s : Scope) (has : Bool) (before : Option Form) (m : Bool) (e : Expr) (rest : Parts) → form_behind s has before (part m e rest) ≡ form_behind s (has || has_field s e) (step_form s has before m e) rest
form_split s has before true e rest = refl
form_split s has before false e rest = refl

pub form_more : (s : Scope) (e : Expr) (m : Bool) (all rest : Parts) (has has2 : Bool) (form form2 whole : Option Form) → all ≡ part m e rest → has2 ≡ (has || has_field s e) → form2 ≡ step_form s has form m e → form_behind s has form all ≡ whole → form_behind s has2 form2 rest ≡ whole
form_more s e m all rest has has2 form form2 whole split has_is form_is left =
    ap₂ (λ h f. form_behind s h f rest) has_is form_is ∙ sym (form_split s has form m e rest) ∙ ap (form_behind s has form) (sym split) ∙ left

pub form_done : (s : Scope) (none : Parts) (has : Bool) (form whole : Option Form) → none ≡ no_parts → form_behind s has form none ≡ whole → form ≡ whole
form_done s none has form whole empty left = ap (form_behind s has form) (sym empty) ∙ left
