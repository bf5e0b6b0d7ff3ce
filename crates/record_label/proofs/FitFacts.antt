-- Forms over the first fields, term by term.
use Rattle.std.proofs.Common.{◌≡◌, ◌↔◌, ℕ, ◌+◌, ◌<◌, ◌≤◌, List, [], ◌∷◌, length, drop, get_or, sym, subst, arith}
use Rattle.std.proofs.lemmas.List.{at_drop_more, at_drop_all}
use Rattle.model_form.specs.Form.{Form, form, fields_of, remainders_of}
use Rattle.model_form.specs.Over.{IsOver, AreBelow, AreOver}
use Rattle.lin_form.specs.declared.form.FieldTerm.{FieldTerm}
use Rattle.lin_form.specs.declared.form.RemTerm.{RemTerm}
use Rattle.lin_form.specs.Terms.{plain_fields, plain_remainders}
use Rattle.lin_form.specs.Nest.{bare, nest, base_of, divisors_of}
use Rattle.lin_form.proofs.Nests.{parts_nest}
use Rattle.fast_tree.proofs.Printing.{drop_at}

module _ (n : ℕ) where
  abbrev Below : List FieldTerm → Type 0
  Below ts = AreBelow n (plain_fields ts)

  abbrev Over : List RemTerm → Type 0
  Over ts = AreOver n (plain_remainders ts)

  pub below_more : (ts : List FieldTerm) (i : ℕ) (d : FieldTerm) → i < length ts → (get_or ts i d).field < n → Below (drop i ts) ↔ Below ts → Below (drop (i + 1) ts) ↔ Below ts
  below_more ts i d l low inv =
      let here = at_drop_more (λ us. us) ts i d l in (λ h. inv.0 (subst Below (sym here) (low, h)), λ w. (subst Below here (inv.1 w)).1)

  pub not_below : (ts : List FieldTerm) (i : ℕ) (d : FieldTerm) → i < length ts → n ≤ (get_or ts i d).field → Below (drop i ts) ↔ Below ts → Below ts → ⊥
  not_below ts i d l high inv w = let low = (subst Below (at_drop_more (λ us. us) ts i d l) (inv.1 w)).0 in absurd (omega (arith, low, high))

  pub below_all : (ts : List FieldTerm) (i : ℕ) → length ts ≤ i → Below (drop i ts) ↔ Below ts → Below ts
  below_all ts i h inv = inv.0 (subst Below (sym (at_drop_all (λ us. us) ts i h)) tt)

  pub over_more : (ts : List RemTerm) (i : ℕ) (t : RemTerm) → i < length ts → t ≡ get_or ts i t → IsOver n t.inner → Over (drop i ts) ↔ Over ts → Over (drop (i + 1) ts) ↔ Over ts
  over_more ts i t l is low inv = let here = drop_at ts i t l is in (λ h. inv.0 (subst Over (sym here) (low, h)), λ w. (subst Over here (inv.1 w)).1)

  pub not_over : (ts : List RemTerm) (i : ℕ) (t : RemTerm) → i < length ts → t ≡ get_or ts i t → (IsOver n t.inner → ⊥) → Over (drop i ts) ↔ Over ts → Over ts → ⊥
  not_over ts i t l is other inv w = other (subst Over (drop_at ts i t l is) (inv.1 w)).0

  pub over_all : (ts : List RemTerm) (i : ℕ) → length ts ≤ i → Over (drop i ts) ↔ Over ts → Over ts
  over_all ts i h inv = inv.0 (subst Over (sym (at_drop_all (λ us. us) ts i h)) tt)

  -- a form by its terms
  pub form_over : (f : Form) (ts : List FieldTerm) (rs : List RemTerm) → plain_fields ts ≡ fields_of f → plain_remainders rs ≡ remainders_of f → Below ts → Over rs → IsOver n f
  form_over (form c us qs) ts rs e g b o = (subst (AreBelow n) e b, subst (AreOver n) g o)

  pub over_below : (f : Form) (ts : List FieldTerm) → plain_fields ts ≡ fields_of f → IsOver n f → Below ts
  over_below (form c us qs) ts e o = subst (AreBelow n) (sym e) o.0

  pub over_rest : (f : Form) (rs : List RemTerm) → plain_remainders rs ≡ remainders_of f → IsOver n f → Over rs
  over_rest (form c us qs) rs g o = subst (AreOver n) (sym g) o.1

  -- ---- a form, and what is under its remainders

  nest_over : (f : Form) (ks : List ℕ) → IsOver n (nest f ks) ↔ IsOver n f
  nest_over f [] = (λ o. o, λ o. o)
  nest_over f (k ∷ ks) = let later = nest_over (bare f k) ks in (λ o. (later.0 o).1.0, λ o. later.1 (tt, (o, tt)))

  pub over_under : (f : Form) → IsOver n f → IsOver n (base_of f)
  over_under f o = (nest_over (base_of f) (divisors_of f)).0 (subst (IsOver n) (sym (parts_nest f)) o)

  pub over_up : (f : Form) → IsOver n (base_of f) → IsOver n f
  over_up f o = subst (IsOver n) (parts_nest f) ((nest_over (base_of f) (divisors_of f)).1 o)
