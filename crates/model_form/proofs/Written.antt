-- What is written of a form tells it.
use Rattle.std.proofs.Common.{◌≡◌, ℕ, List, [], ◌∷◌, ◌++◌, length, refl, ap, sym, ◌∙◌, append_assoc, subst, arith}
use Rattle.std.proofs.Math.IntN.{ℤ, pos}
use Rattle.std.specs.declared.cmp.Ordering.{Ordering}
use Rattle.std.specs.declared.cmp.Ordering.TheVariants.{Less, Equal, Greater}
use Rattle.std.specs.Ordering.{int_cmp, ordering_then}
use Rattle.std.specs.Cmp.{IsTotalOrder}
use Rattle.std.specs.Cmp.Lexicographic.{slice_cmp}
use Rattle.std.proofs.lemmas.Int.{ints}
use Rattle.std.proofs.lemmas.Cmp.{int_ranked, on_total, lists_total, int_cmp_total}
use Rattle.model_form.specs.Form.{Form, form, Remainders, no_remainders, remainder, Term, count}
use Rattle.model_form.specs.Same.{Item, written, written_all, written_terms, written_item, item_cmp}

pos_one : (m n : ℕ) → pos m ≡ pos n → m ≡ n
pos_one m n e = cc

pub terms_told : (ts us : List Term) (xs ys : List ℤ) → length ts ≡ length us → written_terms ts ++ xs ≡ written_terms us ++ ys → (ts ≡ us) × (xs ≡ ys)
terms_told [] [] xs ys l e = (refl, e)
terms_told [] (u ∷ us) xs ys l e = absurd (omega arith)
terms_told (t ∷ ts) [] xs ys l e = absurd (omega arith)
terms_told (t ∷ ts) (u ∷ us) xs ys l e =
    let first : pos t.field ≡ pos u.field = cc in
    let second : t.coefficient ≡ u.coefficient = cc in
    let further : written_terms ts ++ xs ≡ written_terms us ++ ys = cc in
    let n : t.field ≡ u.field = pos_one t.field u.field first in
    let more = terms_told ts us xs ys (omega arith) further in
    ((λ i. record { field = n i; coefficient = second i } ∷ more.0 i), more.1)

mutual
  pub form_told : (f g : Form) (xs ys : List ℤ) → written f ++ xs ≡ written g ++ ys → (f ≡ g) × (xs ≡ ys)
  form_told (form c ts rs) (form d us qs) xs ys e =
      let first : c ≡ d = cc in
      let l : pos (length ts) ≡ pos (length us) = cc in
      let m : pos (count rs) ≡ pos (count qs) = cc in
      let further : (written_terms ts ++ written_all rs) ++ xs ≡ (written_terms us ++ written_all qs) ++ ys = cc in
      let fields = terms_told ts us (written_all rs ++ xs) (written_all qs ++ ys) (pos_one _ _ l) (sym (append_assoc (written_terms ts) (written_all rs) xs) ∙ further ∙ append_assoc (written_terms us) (written_all qs) ys) in
      let more = all_told rs qs xs ys (pos_one _ _ m) fields.1 in
      ((λ i. form (first i) (fields.0 i) (more.0 i)), more.1)

  pub all_told : (rs qs : Remainders) (xs ys : List ℤ) → count rs ≡ count qs → written_all rs ++ xs ≡ written_all qs ++ ys → (rs ≡ qs) × (xs ≡ ys)
  all_told no_remainders no_remainders xs ys l e = (refl, e)
  all_told no_remainders (remainder b g m qs) xs ys l e = absurd (omega arith)
  all_told (remainder a f k rs) no_remainders xs ys l e = absurd (omega arith)
  all_told (remainder a f k rs) (remainder b g m qs) xs ys l e =
      let first : a ≡ b = cc in
      let second : pos k ≡ pos m = cc in
      let further : (written f ++ written_all rs) ++ xs ≡ (written g ++ written_all qs) ++ ys = cc in
      let inner = form_told f g (written_all rs ++ xs) (written_all qs ++ ys) (sym (append_assoc (written f) (written_all rs) xs) ∙ further ∙ append_assoc (written g) (written_all qs) ys) in
      let more = all_told rs qs xs ys (omega arith) inner.1 in
      ((λ i. remainder (first i) (inner.0 i) (pos_one k m second i) (more.0 i)), more.1)

pub written_once : (f g : Form) → written f ≡ written g → f ≡ g
written_once f g e = (form_told f g [] [] (ap (λ xs. xs ++ []) e)).0

-- lists that tie are equal
pub tied : (xs ys : List ℤ) → slice_cmp int_cmp xs ys ≡ Equal → xs ≡ ys
tied [] [] e = refl
tied [] (y ∷ ys) e = absurd (cc)
tied (x ∷ xs) [] e = absurd (cc)
tied (x ∷ xs) (y ∷ ys) e = by (int_cmp x y) refl (tied xs ys) e
  where
    by : (o : Ordering) → o ≡ int_cmp x y → (slice_cmp int_cmp xs ys ≡ Equal → xs ≡ ys) → ordering_then (int_cmp x y) (slice_cmp int_cmp xs ys) ≡ Equal → x ∷ xs ≡ y ∷ ys
    by Less h rest e = absurd (let z : Less ≡ Equal = ap (λ o. ordering_then o (slice_cmp int_cmp xs ys)) h ∙ e in cc)
    by Greater h rest e = absurd (let z : Greater ≡ Equal = ap (λ o. ordering_then o (slice_cmp int_cmp xs ys)) h ∙ e in cc)
    by Equal h rest e = let p : x ≡ y = int_ranked x y Equal h in let q = rest (ap (λ o. ordering_then o (slice_cmp int_cmp xs ys)) h ∙ e) in λ i. p i ∷ q i

pub tied_lists : (xs ys : List ℤ) → xs ≡ ys → slice_cmp int_cmp xs ys ≡ Equal
tied_lists xs ys e = subst (λ zs. slice_cmp int_cmp xs zs ≡ Equal) e (own xs)
  where
    own_head : (x : ℤ) (o : Ordering) → o ≡ int_cmp x x → o ≡ Equal
    own_head x Less h = absurd (omega (arith, ints, int_ranked x x Less h))
    own_head x Equal h = refl
    own_head x Greater h = absurd (omega (arith, ints, int_ranked x x Greater h))

    own : (xs : List ℤ) → slice_cmp int_cmp xs xs ≡ Equal
    own [] = refl
    own (x ∷ xs) = (λ i. ordering_then (own_head x (int_cmp x x) refl i) (slice_cmp int_cmp xs xs)) ∙ own xs

pub items_ordered : IsTotalOrder item_cmp
items_ordered = on_total written_item (lists_total int_cmp_total)

pub item_once : (x y : Item) → item_cmp x y ≡ Equal → x ≡ y
item_once x y e =
    let w : written_item x ≡ written_item y = tied (written_item x) (written_item y) e in
    let first : x.coefficient ≡ y.coefficient = cc in
    let second : pos x.divisor ≡ pos y.divisor = cc in
    let third : written x.inner ≡ written y.inner = cc in
    let inner = written_once x.inner y.inner third in
    λ i. record { coefficient = first i; inner = inner i; divisor = pos_one _ _ second i }
