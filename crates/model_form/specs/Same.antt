-- Two forms are equal where they have the same terms in any order and the same constant.
use Rattle.std.specs.Prelude.{◌≡◌, ◌⊎◌, ℕ, ℤ, pos, Bool, List, [], ◌∷◌, ◌++◌, length, cond}
use Rattle.std.specs.declared.cmp.Ordering.{Ordering}
use Rattle.std.specs.Ordering.{int_cmp, is_gt, eq_by_cmp, on}
use Rattle.std.specs.Cmp.Lexicographic.{slice_cmp}
use Rattle.model_form.specs.Form.{Form, form, Remainders, no_remainders, remainder, Term, count}

-- one term of a remainder
pub record Item : Type 0 where
  pub coefficient : ℤ
  pub inner : Form
  pub divisor : ℕ

abbrev pub remainders : List Item → Remainders
remainders [] = no_remainders
remainders (x ∷ xs) = remainder x.coefficient x.inner x.divisor (remainders xs)

abbrev pub items : Remainders → List Item
items no_remainders = []
items (remainder a f k rs) = record { coefficient = a; inner = f; divisor = k } ∷ items rs

-- a form written out as whole numbers, by which forms are put in order
abbrev pub written_terms : List Term → List ℤ
written_terms [] = []
written_terms (t ∷ ts) = pos t.field ∷ t.coefficient ∷ written_terms ts

abbrev mutual
  pub written : Form → List ℤ
  written (form c ts rs) = c ∷ pos (length ts) ∷ pos (count rs) ∷ (written_terms ts ++ written_all rs)

  pub written_all : Remainders → List ℤ
  written_all no_remainders = []
  written_all (remainder a f k rs) = a ∷ pos k ∷ (written f ++ written_all rs)

abbrev pub written_item : Item → List ℤ
written_item x = x.coefficient ∷ pos x.divisor ∷ written x.inner

abbrev pub item_cmp : Item → Item → Ordering
item_cmp = on written_item (slice_cmp int_cmp)

module _ {A : Type 0} (R : A → A → Ordering) where
  -- x put into a list in order
  abbrev pub put : A → List A → List A
  put x [] = x ∷ []
  put x (y ∷ ys) = cond (is_gt (R x y)) (y ∷ put x ys) (x ∷ y ∷ ys)

-- the same form with its remainders in order, at every depth
abbrev mutual
  pub ordered : Form → Form
  ordered (form c ts rs) = form c ts (remainders (ordered_all rs))

  pub ordered_all : Remainders → List Item
  ordered_all no_remainders = []
  ordered_all (remainder a f k rs) = put item_cmp (record { coefficient = a; inner = ordered f; divisor = k }) (ordered_all rs)

abbrev pub form_cmp : Form → Form → Ordering
form_cmp = on (λ f. written (ordered f)) (slice_cmp int_cmp)

-- the same once their remainders are in order
abbrev pub same_form : Form → Form → Bool
same_form = eq_by_cmp form_cmp

-- ---- the same, term by term

module _ {A : Type 0} where
  abbrev pub IsIn : A → List A → Type 0
  IsIn x [] = ⊥
  IsIn x (y ∷ ys) = (x ≡ y) ⊎ IsIn x ys

-- the terms, each with its inner form in order
abbrev pub members : Remainders → List Item
members no_remainders = []
members (remainder a f k rs) = record { coefficient = a; inner = ordered f; divisor = k } ∷ members rs
