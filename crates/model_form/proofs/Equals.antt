-- Equal forms have the same value at all values of the fields, and equality is found term by term.
use Rattle.std.proofs.Common.{◌≡◌, subst, ℕ, suc, inl, inr, List, [], ◌∷◌, length, Bool, true, false, cond, ◌&&◌, refl, ap, sym, ◌∙◌, arith, eq-eqb}
use Rattle.std.proofs.Math.IntN.{ℤ, ◌+ℤ◌, ◌*ℤ◌}
use Rattle.std.specs.declared.cmp.Ordering.{Ordering}
use Rattle.std.specs.declared.cmp.Ordering.TheVariants.{Less, Equal, Greater}
use Rattle.std.specs.Ordering.{int_cmp, is_gt, is_eq}
use Rattle.std.specs.Cmp.Lexicographic.{slice_cmp}
use Rattle.std.proofs.lemmas.Int.{ints}
use Rattle.std.specs.Cmp.{IsEquivalence}
use Rattle.std.proofs.lemmas.Cmp.{eq_by_cmp_equiv, on_total, lists_total, int_cmp_total}
use Rattle.model_form.specs.Form.{Form, form, constant_of, fields_of, remainders_of, Remainders, no_remainders, remainder, Term, count, value, remainders_value, terms_value, modulo}
use Rattle.model_form.specs.Same.{IsIn, members, items, Item, remainders, written, ordered, ordered_all, item_cmp, put, same_form}
use Rattle.model_form.specs.Sums.{is_like}
use Rattle.model_form.specs.Ranges.{IsApart, AreApart}
use Rattle.model_form.proofs.Written.{written_once, tied, tied_lists, items_ordered, item_once}
use Rattle.model_form.proofs.Orders.{put_both}
use Rattle.model_form.proofs.Sorted.{AreIn, AreOnce, sorted, sorted_once, sorted_in, all_in_own, length-sorted}

-- equality of forms is an equivalence
pub same_laws : IsEquivalence same_form
same_laws = eq_by_cmp_equiv (on_total (λ (f : Form). written (ordered f)) (lists_total int_cmp_total))

-- ---- equality, and equality once the remainders are in order

pub equal_by : (o : Ordering) → is_eq o ≡ true → o ≡ Equal
equal_by Less e = absurd (cc)
equal_by Equal e = refl
equal_by Greater e = absurd (cc)

pub same_out : (f g : Form) → same_form f g ≡ true → ordered f ≡ ordered g
same_out f g e = written_once (ordered f) (ordered g) (tied _ _ (equal_by (slice_cmp int_cmp (written (ordered f)) (written (ordered g))) e))

pub same_in : (f g : Form) → ordered f ≡ ordered g → same_form f g ≡ true
same_in f g e = ap is_eq (tied_lists (written (ordered f)) (written (ordered g)) (ap written e))

-- ---- values

item_value : List ℤ → Item → ℤ
item_value values x = x.coefficient *ℤ modulo (value x.inner values) x.divisor

put_value : (x : Item) (ys : List Item) (values : List ℤ) → remainders_value (remainders (put item_cmp x ys)) values ≡ (x.coefficient *ℤ modulo (value x.inner values) x.divisor) +ℤ remainders_value (remainders ys) values
put_value x [] values = refl
put_value x (y ∷ ys) values = by (is_gt (item_cmp x y)) (put_value x ys values)
  where
    by : (b : Bool) → remainders_value (remainders (put item_cmp x ys)) values ≡ (x.coefficient *ℤ modulo (value x.inner values) x.divisor) +ℤ remainders_value (remainders ys) values
        → remainders_value (remainders (cond b (y ∷ put item_cmp x ys) (x ∷ y ∷ ys))) values ≡ (x.coefficient *ℤ modulo (value x.inner values) x.divisor) +ℤ remainders_value (remainders (y ∷ ys)) values
    by false e = refl
    by true e = omega (arith, ints)

mutual
  pub value-ordered : (f : Form) (values : List ℤ) → value (ordered f) values ≡ value f values
  value-ordered (form c ts rs) values = ap (λ z. c +ℤ (terms_value ts values +ℤ z)) (value-ordered_all rs values)

  pub value-ordered_all : (rs : Remainders) (values : List ℤ) → remainders_value (remainders (ordered_all rs)) values ≡ remainders_value rs values
  value-ordered_all no_remainders values = refl
  value-ordered_all (remainder a f k rs) values =
      put_value (record { coefficient = a; inner = ordered f; divisor = k }) (ordered_all rs) values
      ∙ (λ i. (a *ℤ modulo (value-ordered f values i) k) +ℤ value-ordered_all rs values i)

-- equal forms have one value
pub same_value : (f g : Form) (values : List ℤ) → same_form f g ≡ true → value f values ≡ value g values
same_value f g values e = sym (value-ordered f values) ∙ ap (λ h. value h values) (same_out f g e) ∙ value-ordered g values

-- ---- equality term by term

pub ordered_members : (rs : Remainders) → ordered_all rs ≡ sorted item_cmp (members rs)
ordered_members no_remainders = refl
ordered_members (remainder a f k rs) = ap (put item_cmp (record { coefficient = a; inner = ordered f; divisor = k })) (ordered_members rs)

pub length-members : (rs : Remainders) → length (members rs) ≡ count rs
length-members no_remainders = refl
length-members (remainder a f k rs) = ap suc (length-members rs)

like_in : (f g : Form) (k m : ℕ) → ordered f ≡ ordered g → k ≡ m → is_like f k g m ≡ true
like_in f g k m e d = λ i. both (same_in f g e) (eq-eqb k m d) i
  where
    both : {a b : Bool} → b ≡ true → a ≡ true → a && b ≡ true
    both p q = λ i. q i && p i

not_later : (a : ℤ) (f : Form) (k : ℕ) (rs : Remainders) → IsApart f k rs → IsIn (record { coefficient = a; inner = ordered f; divisor = k }) (members rs) → ⊥
not_later a f k no_remainders h i = i
not_later a f k (remainder b g m rs) h (inl e) = let t = like_in f g k m (ap (λ x. x.inner) e) (ap (λ x. x.divisor) e) in let z : true ≡ false = sym t ∙ h.0 in cc
not_later a f k (remainder b g m rs) h (inr i) = not_later a f k rs h.1 i

pub members_once : (rs : Remainders) → AreApart rs → AreOnce (members rs)
members_once no_remainders h = tt
members_once (remainder a f k rs) h = (not_later a f k rs h.0, members_once rs h.1)

-- as many, and each of the one in the other
pub same_remainders_in : (rs qs : Remainders) → AreApart rs → count rs ≡ count qs → AreIn (members rs) (members qs) → ordered_all rs ≡ ordered_all qs
same_remainders_in rs qs h l i =
    ordered_members rs
    ∙ sorted_once item_cmp items_ordered item_once (members rs) (members qs) (members_once rs h) (length-members rs ∙ l ∙ sym (length-members qs)) i
    ∙ sym (ordered_members qs)

pub same_remainders_out : (rs qs : Remainders) → ordered_all rs ≡ ordered_all qs → (count rs ≡ count qs) × AreIn (members rs) (members qs)
same_remainders_out rs qs e =
    let s = sym (ordered_members rs) ∙ e ∙ ordered_members qs in
    (sym (length-members rs) ∙ sym (length-sorted item_cmp (members rs)) ∙ ap length s ∙ length-sorted item_cmp (members qs) ∙ length-members qs, sorted_in item_cmp (members rs) (members qs) s (members rs) (all_in_own (members rs)))

-- two remainders that stand side by side may be exchanged
pub exchanged : (c : ℤ) (ts : List Term) (a b : ℤ) (f g : Form) (k m : ℕ) (rs : Remainders) → same_form (form c ts (remainder a f k (remainder b g m rs))) (form c ts (remainder b g m (remainder a f k rs))) ≡ true
exchanged c ts a b f g k m rs =
    same_in (form c ts (remainder a f k (remainder b g m rs))) (form c ts (remainder b g m (remainder a f k rs))) (ap (λ xs. form c ts (remainders xs)) (put_both item_cmp items_ordered item_once (record { coefficient = a; inner = ordered f; divisor = k }) (record { coefficient = b; inner = ordered g; divisor = m }) (ordered_all rs)))

-- ---- what tells two forms apart

items-remainders : (xs : List Item) → items (remainders xs) ≡ xs
items-remainders [] = refl
items-remainders (x ∷ xs) = ap (λ ys. x ∷ ys) (items-remainders xs)

pub same_parts : (c d : ℤ) (ts us : List Term) (rs qs : Remainders) → same_form (form c ts rs) (form d us qs) ≡ true → (c ≡ d) × (ts ≡ us) × (ordered_all rs ≡ ordered_all qs)
same_parts c d ts us rs qs e =
    let o = same_out (form c ts rs) (form d us qs) e in
    (ap constant_of o, ap fields_of o, sym (items-remainders (ordered_all rs)) ∙ ap (λ f. items (remainders_of f)) o ∙ items-remainders (ordered_all qs))

not_same : (f g : Form) → (same_form f g ≡ true → ⊥) → false ≡ same_form f g
not_same f g n = by (same_form f g) refl
  where
    by : (b : Bool) → same_form f g ≡ b → false ≡ same_form f g
    by false e = sym e
    by true e = absurd (n e)

pub differ_in_fields : (c d : ℤ) (ts us : List Term) (rs qs : Remainders) → (ts ≡ us → ⊥) → false ≡ same_form (form c ts rs) (form d us qs)
differ_in_fields c d ts us rs qs n = not_same (form c ts rs) (form d us qs) (λ e. n (same_parts c d ts us rs qs e).1)

pub differ_in_count : (c d : ℤ) (ts us : List Term) (rs qs : Remainders) → (count rs ≡ count qs → ⊥) → false ≡ same_form (form c ts rs) (form d us qs)
differ_in_count c d ts us rs qs n = not_same (form c ts rs) (form d us qs) (λ e. n (same_remainders_out rs qs (same_parts c d ts us rs qs e).2).0)

pub differ_in_member : (c d : ℤ) (ts us : List Term) (rs qs : Remainders) (x : Item) → IsIn x (members rs) → (IsIn x (members qs) → ⊥) → false ≡ same_form (form c ts rs) (form d us qs)
differ_in_member c d ts us rs qs x i n = not_same (form c ts rs) (form d us qs) (λ e. n (at (members rs) i (same_remainders_out rs qs (same_parts c d ts us rs qs e).2).1))
  where
    at : (xs : List Item) → IsIn x xs → AreIn xs (members qs) → IsIn x (members qs)
    at [] i h = absurd i
    at (y ∷ ys) (inl e) h = subst (λ z. IsIn z (members qs)) (sym e) h.0
    at (y ∷ ys) (inr j) h = at ys j h.1

pub same_by_parts : (c d : ℤ) (ts us : List Term) (rs qs : Remainders) → c ≡ d → ts ≡ us → AreApart rs → count rs ≡ count qs → AreIn (members rs) (members qs) → true ≡ same_form (form c ts rs) (form d us qs)
same_by_parts c d ts us rs qs e p h l i = sym (same_in (form c ts rs) (form d us qs) (λ j. form (e j) (p j) (remainders (same_remainders_in rs qs h l i j))))
