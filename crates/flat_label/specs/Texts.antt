-- Labels of texts. A text is its characters.
use Rattle.std.specs.Prelude.{◌≡◌, ◌<◌, ◌==◌, ◌↔◌, ℕ, Bool, true, false, ◌&&◌, List, length, map, slice_index_or, refl}
use Rattle.std.specs.declared.cmp.Ordering.TheVariants.{Equal}
use Rattle.std.specs.Ordering.{nat_cmp}
use Rattle.std.specs.Str.{bytes_eq}
use Rattle.std.specs.Cmp.Lexicographic.{slice_cmp}
use Rattle.std.proofs.Common.{ap, subst, arith, []}
use Rattle.std.proofs.Math.ListN.{get_or-map}
use Rattle.std.proofs.lemmas.Slice.Eq.{bytes_eq-Decides}
use Rattle.std.proofs.lemmas.Bool.Decides.{nat_tests}
use Rattle.std.proofs.lemmas.Map.Lookups.{exact_unsigned}
use Rattle.model_tree.specs.Label.{Field, whole, truth, text, Label, row, pair}
use Rattle.flat_label.specs.declared.texts.TextSide.{TextSide}
use Rattle.flat_label.specs.declared.texts.TextSide.TheVariants as side
use Rattle.flat_label.specs.declared.texts.TextAtom.{TextAtom}
use Rattle.flat_label.specs.Lists.{equal_lists, same_from_images}

abbrev pub texts_label : List (List ℕ) → Label
texts_label ts = row (map text ts)

abbrev pub as_text : Field → List ℕ
as_text (whole n) = []
as_text (truth b) = []
as_text (text t) = t

-- the text of a field
abbrev pub text_at : ℕ → Label → List ℕ
text_at k (row fields) = as_text (slice_index_or fields k (text []))
text_at k (pair l m) = []

-- a label of so many texts
abbrev pub IsTexts : ℕ → Label → Type 0
IsTexts fields l = (ts : List (List ℕ)) × (length ts ≡ fields) × (l ≡ texts_label ts)

-- the text of a side: that of a field, or a constant
abbrev pub side_text : TextSide → Label → List ℕ
side_text (side.Field k) l = text_at k l
side_text (side.Constant t) l = t

-- whether the two sides are one text
abbrev pub are_one_text : TextAtom → Label → Bool
are_one_text a l = bytes_eq (side_text a.left l) (side_text a.right l)

-- a side of a label of so many texts
abbrev pub SideFits : ℕ → TextSide → Type 0
SideFits fields (side.Field k) = k < fields
SideFits fields (side.Constant t) = Unit {0}

abbrev pub SidesFit : ℕ → TextAtom → Type 0
SidesFit fields a = SideFits fields a.left × SideFits fields a.right

-- whether two sides are the same
abbrev pub same_side : TextSide → TextSide → Bool
same_side (side.Field k) (side.Field m) = k == m
same_side (side.Field k) (side.Constant t) = false
same_side (side.Constant s) (side.Field m) = false
same_side (side.Constant s) (side.Constant t) = bytes_eq s t

abbrev pub same_atom : TextAtom → TextAtom → Bool
same_atom a b = same_side a.left b.left && same_side a.right b.right

pub one_side : (x y : TextSide) → same_side x y ≡ true → x ≡ y
one_side (side.Field k) (side.Field m) e = let same : k ≡ m = grind (arith, nat_tests) in ap side.Field same
one_side (side.Field k) (side.Constant t) e = cc
one_side (side.Constant s) (side.Field m) e = cc
one_side (side.Constant s) (side.Constant t) e = ap side.Constant ((bytes_eq-Decides s t).0 e)

both_true : (a b : Bool) → (a && b) ≡ true → (a ≡ true) × (b ≡ true)
both_true true b e = (refl, e)
both_true false b e = cc

pub same_as_itself : (x : TextSide) → same_side x x ≡ true
same_as_itself (side.Field k) = grind (arith, nat_tests)
same_as_itself (side.Constant s) = (bytes_eq-Decides s s).1 refl

-- the equality that is derived
pub record IsSideEq (E : TextSide → TextSide → Bool) : Type 0 where
  pub fields : (k m : ℕ) → E (side.Field k) (side.Field m) ≡ (k == m)
  pub field_constant : (k : ℕ) (t : List ℕ) → E (side.Field k) (side.Constant t) ≡ false
  pub constant_field : (s : List ℕ) (m : ℕ) → E (side.Constant s) (side.Field m) ≡ false
  pub constants : (s t : List ℕ) → E (side.Constant s) (side.Constant t) ≡ bytes_eq s t

module _ (E : TextSide → TextSide → Bool) (is : IsSideEq E) where
  pub side_eq : (x y : TextSide) → E x y ≡ same_side x y
  side_eq (side.Field k) (side.Field m) = is.fields k m
  side_eq (side.Field k) (side.Constant t) = is.field_constant k t
  side_eq (side.Constant s) (side.Field m) = is.constant_field s m
  side_eq (side.Constant s) (side.Constant t) = is.constants s t

  pub one_atom : (a b : TextAtom) → (E a.left b.left && E a.right b.right) ≡ true → a ≡ b
  one_atom a b e =
      let tests : (same_side a.left b.left && same_side a.right b.right) ≡ true = subst (λ v. (v && same_side a.right b.right) ≡ true) (side_eq a.left b.left) (subst (λ v. (E a.left b.left && v) ≡ true) (side_eq a.right b.right) e) in
      let parts = both_true (same_side a.left b.left) (same_side a.right b.right) tests in
      let left = one_side a.left b.left parts.0 in
      let right = one_side a.right b.right parts.1 in λ i. record { left = left i; right = right i }

cmp_exact : (m n : ℕ) → (nat_cmp m n ≡ Equal) ↔ (m ≡ n)
cmp_exact m n = (λ e. exact_unsigned m n e, λ e. subst (λ k. nat_cmp m k ≡ Equal) e (grind (arith, nat_tests)))

same_field : (s t : List ℕ) → text s ≡ text t → s ≡ t
same_field s t e = cc

same_from_label : (xs ys : List (List ℕ)) → texts_label xs ≡ texts_label ys → xs ≡ ys
same_from_label xs ys e = let fields : map text xs ≡ map text ys = cc in same_from_images text same_field xs ys fields

pub text_at_label : (k : ℕ) (ts : List (List ℕ)) → text_at k (texts_label ts) ≡ slice_index_or ts k []
text_at_label k ts = ap as_text (get_or-map text ts k [])

pub length_of_label : (n : ℕ) (ts : List (List ℕ)) → IsTexts n (texts_label ts) → length ts ≡ n
length_of_label n ts h = rw (same_from_label ts h.0 h.2) h.1

pub equal_texts : (xs ys : List (List ℕ)) → (slice_cmp (slice_cmp nat_cmp) xs ys ≡ Equal) ↔ (texts_label xs ≡ texts_label ys)
equal_texts xs ys =
    let exact = equal_lists (slice_cmp nat_cmp) (equal_lists nat_cmp cmp_exact) xs ys in (λ e. ap texts_label (exact.0 e), λ e. exact.1 (same_from_label xs ys e))

-- equal atoms say the same of each label, and speak of the same fields
module _ (E : TextSide → TextSide → Bool) (is : IsSideEq E) where
  pub equal_atoms_hold : (a b : TextAtom) (l : Label) → (E a.left b.left && E a.right b.right) ≡ true → are_one_text a l ≡ are_one_text b l
  equal_atoms_hold a b l e = ap (λ c. are_one_text c l) (one_atom E is a b e)

  pub equal_atoms_fit : (fields : ℕ) (a b : TextAtom) → (E a.left b.left && E a.right b.right) ≡ true → SidesFit fields a → SidesFit fields b
  equal_atoms_fit fields a b e fits = subst (SidesFit fields) (one_atom E is a b e) fits
